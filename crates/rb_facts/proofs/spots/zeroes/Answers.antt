use Rattle.std.proofs.Common.{◌≡◌, ◌+◌, ◌∷◌, ◌++◌, [], List, ℕ, suc, sym, ap, ◌∙◌, arith, refl}
use Rattle.rb_fragment.specs.Slots.{slots_from}
use Rattle.rb_fragment.proofs.Moves.{slots_from-more}
use Rattle.rb_facts.proofs.SavedParts.{zeroes-none, zeroes-more}
use Rattle.rb_facts.proofs.spots.zeroes.Goals as goal

pub loop-given-init : goal.loop-given-init
loop-given-init c = rw c.new-slots.ensures (record { slots = refl; body = zeroes-none c.args.body.now })

pub loop-given-preserved : goal.loop-given-preserved
loop-given-preserved c =
    let i = c.loop-given._given in
    let b = c.args.body.now in
    let inv = c.loop-given.invariant in
    let up : suc i ≡ i + 1 = omega arith in
    let slot : c.in_ok-slot.slot ≡ b.slots + i = c.in_ok-slot.ensures.slot ∙ inv.body.slots in
    record {
      slots = c.in_ok-push.ensures.ok ∙ ap (λ (l : List ℕ). l ++ c.in_ok-slot.slot ∷ []) inv.slots ∙ ap (λ (x : ℕ). slots_from b.slots i ++ x ∷ []) slot ∙ sym (slots_from-more b.slots i) ∙ ap (λ n. slots_from b.slots n) up;
      body = rw c.in_ok-slot.ensures.code (zeroes-more b c.loop-given.body i inv.body);
    }
