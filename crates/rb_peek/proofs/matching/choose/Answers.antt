use Rattle.std.proofs.Common.{◌+◌, length, drop, Ok, refl, sym, ap, ◌∙◌}
use Rattle.std.proofs.lemmas.Option.{slice_get_read}
use Rattle.std.proofs.lemmas.Bool.{false≢true}
use Rattle.rb_peek.specs.Rebuilds.{leaf_chosen, matches}
use Rattle.rb_peek.specs.inner.Standing.{or_before, position_shown}
use Rattle.rb_peek.proofs.GivenLemmas.{due_is, fault_is}
use Rattle.rb_peek.proofs.MatchLemmas.{leaf_passed, leaf_unknown}
use Rattle.rb_peek.proofs.matching.choose.Goals as goal
use Rattle.rb_peek.proofs.matching.choose.Goals.{in-Ok+else-so, in-Err+else-is_memory}

pub loop-leaf-preserved : goal.loop-leaf-preserved
loop-leaf-preserved c =
    let types = c.args.agreed.now.covered.program.types in
    let layouts = c.args.agreed.now.layouts in
    let m = c.args.image.now.blocks in
    let leaves = c.args.leaves.now in
    let k = c.loop-leaf.leaf-index in
    let leaf = c.leaf-item.result in
    let x = position_shown c.args.view.now in
    let is = slice_get_read leaves (length leaves) k leaf refl c.loop-leaf-test.true c.leaf-item.is in
    let due = matches types layouts m leaf.prov x in
    let later = leaf_chosen types layouts m (drop (k + 1) leaves) x in
    elim c.match-matches.branch [
      | in-Ok+else-so w ↦ c.loop-leaf.invariant ∙ leaf_passed types layouts m leaves k leaf x is c.loop-leaf.before (due_is (λ so. so) due w.in-Ok.so w.in-Ok.ensures ∙ ap (λ b. Ok b) w.if-so.false)
          ∙ ap (λ b. or_before b later) (sym w.before-is)
      | in-Err+else-is_memory w ↦ c.loop-leaf.invariant
          ∙ leaf_unknown types layouts m leaves k leaf x is c.loop-leaf.before w.in-Err.fault (fault_is (λ so. so) due w.in-Err.fault w.in-Err.ensures (λ same. false≢true (sym w.if-is_memory.false ∙ w.is_memory.ensures.1 same)))
          ∙ ap (λ b. or_before b later) (sym (w.before-is ∙ w.first_of-before.ensures))
    ]
