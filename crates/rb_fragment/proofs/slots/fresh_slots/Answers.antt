use Rattle.std.proofs.Common.{◌≡◌, ℕ, suc, ◌+◌, ◌∷◌, ◌++◌, [], List, sym, ap, ◌∙◌, arith}
use Rattle.rb_target.specs.Sheet.{Sheet, with_slot}
use Rattle.rb_fragment.specs.Slots.{slots_from}
use Rattle.rb_fragment.proofs.Moves.{slots_from-more}
use Rattle.rb_fragment.proofs.slots.fresh_slots.Goals as goal

pub loop-given-preserved : goal.loop-given-preserved
loop-given-preserved c =
    let i = c.loop-given._given in
    let b = c.args.body.now in
    let up : suc i ≡ i + 1 = omega arith in
    let slot : c.in_ok-slot.slot ≡ b.slots + i = c.in_ok-slot.ensures.slot ∙ ap (λ (s : Sheet). s.slots) c.loop-given.invariant.body in
    let sum : b.slots + i + 1 ≡ b.slots + (i + 1) = omega arith in
    record {
      slots = c.in_ok-push.ensures.ok ∙ ap (λ (l : List ℕ). l ++ c.in_ok-slot.slot ∷ []) c.loop-given.invariant.slots ∙ ap (λ (x : ℕ). slots_from b.slots i ++ x ∷ []) slot
          ∙ sym (slots_from-more b.slots i) ∙ ap (λ n. slots_from b.slots n) up;
      body = c.in_ok-slot.ensures.ok ∙ ap with_slot c.loop-given.invariant.body ∙ ap (λ n. let s : Sheet = record b { slots = n } in s) sum;
    }
