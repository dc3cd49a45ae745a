use Rattle.rb_match.proofs.Nodes.{land_patchable}
use Rattle.rb_match.proofs.engine.land.Goals as goal

pub patch_all-requires : goal.patch_all-requires
patch_all-requires c =
    rw (c.as_slice-2.ensures, c.as_slice-3.ensures, c.in_ok-holes.ensures, c.as_slice.ensures, c.in_ok-push.ensures.ok, c.new-targets.ensures, c.len.ensures.value) (land_patchable c.args.body.now c.args.edges c.args.node c.requires)
