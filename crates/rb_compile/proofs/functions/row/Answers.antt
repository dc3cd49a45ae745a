use Rattle.std.proofs.Common.{◌≡◌, ℕ, suc, ◌+◌, ◌∷◌, ◌++◌, [], List, sym, ap, ◌∙◌, arith}
use Rattle.rb_fragment.specs.Slots.{slots_from}
use Rattle.rb_fragment.proofs.Moves.{slots_from-more}
use Rattle.rb_compile.proofs.functions.row.Goals as goal

pub loop-i-preserved : goal.loop-i-preserved
loop-i-preserved c =
    let up : suc c.loop-i.i ≡ c.loop-i.i + 1 = omega arith in
    c.in_ok-push.ensures.ok ∙ ap (λ (l : List ℕ). l ++ (c.args.from + c.loop-i.i) ∷ []) c.loop-i.invariant
    ∙ sym (slots_from-more c.args.from c.loop-i.i) ∙ ap (λ n. slots_from c.args.from n) up
