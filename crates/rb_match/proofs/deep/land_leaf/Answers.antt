use Rattle.rb_match.proofs.Opening.{leaf_patchable}
use Rattle.rb_match.proofs.deep.land_leaf.Goals as goal

pub patch_all-requires : goal.patch_all-requires
patch_all-requires c =
    rw (c.as_slice.ensures, c.as_slice-2.ensures, c.in_ok-here.ensures, c.in_ok-push.ensures.ok, c.new-targets.ensures, c.len.ensures.value) (leaf_patchable c.args.holes.now c.args.leaf c.args.body.now c.requires)
