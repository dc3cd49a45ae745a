use Rattle.std.proofs.Common.{◌++◌, ◌≤◌, length, ap, refl, sym, ◌∙◌, arith}
use Rattle.std.proofs.lemmas.Bool.Decides.{nat_tests}
use Rattle.std.proofs.lemmas.List.{append-nil}
use Rattle.rb_fragment.proofs.Moves.{copies_none}
use Rattle.rb_fragment.proofs.emit.emit_copies.Goals as goal

pub returns-in_default : goal.returns-in_default
returns-in_default c =
    let le : length c.args.froms.now ≤ c.loop-i.i = grind (arith, nat_tests, c.get.ensures.lookup.0, c.in_default.is) in
    let inv = c.loop-i.invariant in
    let code = sym (append-nil c.loop-i.body.code) ∙ ap (λ k. c.loop-i.body.code ++ k) (sym (copies_none c.args.dests.now c.args.froms.now c.loop-i.i le)) ∙ sym inv.code in
    rw (← code, ← inv.params, ← inv.slots) refl
