use Rattle.std.proofs.Common.{Some, sym, ap, ◌∙◌}
use Rattle.std.proofs.lemmas.Option.{slice_get-get_or}
use Rattle.rb_match.specs.inner.Opening.{HasGroupOnward}
use Rattle.rb_match.proofs.Groups.{one_group_more}
use Rattle.rb_match.proofs.deep.groups_onward.Goals as goal

pub loop-leaf-preserved : goal.loop-leaf-preserved
loop-leaf-preserved c =
    let at = slice_get-get_or c.args.onward.now c.loop-leaf.leaf c.index-onward-leaf.result c.loop-leaf-test.true ∙ ap Some (sym c.index-onward-leaf.is) in
    rw c.in_ok-push.ensures.ok (one_group_more (HasGroupOnward c.args.onward.now) c.loop-leaf.leaf c.loop-leaf.groups _ c.loop-leaf.invariant (c.index-onward-leaf.result, at, c.in_ok-group_of_way.ensures))
