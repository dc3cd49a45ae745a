-- A part whose path is not open has no demand under the rule on parts.
use Rattle.std.proofs.Common.{◌≡◌, ℕ, zero, suc, ◌<◌, List, [], ◌∷◌, Some, refl, sym, subst, arith}
use Rattle.std.specs.Prelude.{slice_get}
use Rattle.std.proofs.lemmas.Option.{same_Some}
use Rattle.rb_core.specs.declared.types.Ty.TheVariants.{Int}
use Rattle.rb_bits.specs.Words.{AreDisjoint}
use Rattle.rb_layout.specs.Positions.{Open}
use Rattle.rb_layout.specs.Items.{Whole, WrittenPart}
use Rattle.rb_layout.specs.A3.{Fits, IsContentPlaced, LiesIn, PartsFit}

abbrev written : ℕ → ℕ → WrittenPart
written l i = record { o = 0; l = l; content = Whole (i ∷ []) }

abbrev parts : List WrittenPart
parts = written 8 0 ∷ written 70 7 ∷ []

abbrev opens : List Open
opens = record { path = 0 ∷ []; ty = Int 8 } ∷ []

not_placed : (q : WrittenPart) → Some (written 70 7) ≡ Some q → IsContentPlaced opens q.content → ⊥
not_placed q e placed =
    let h : IsContentPlaced opens (Whole (7 ∷ [])) = subst (λ (x : WrittenPart). IsContentPlaced opens x.content) (sym (same_Some _ q e)) placed in
    let none = h.1 in
    cc

within : (k : ℕ) (p : WrittenPart) → slice_get parts k ≡ Some p → IsContentPlaced opens p.content → LiesIn 8 p.o p.l
within zero p e placed = subst (λ (x : WrittenPart). LiesIn 8 x.o x.l) (same_Some _ p e) (omega arith, omega arith)
within (suc zero) p e placed = absurd (not_placed p e placed)
within (suc (suc k)) p e placed = absurd cc

apart : (j k : ℕ) (p q : WrittenPart) → j < k → slice_get parts j ≡ Some p → slice_get parts k ≡ Some q
    → IsContentPlaced opens p.content → IsContentPlaced opens q.content → AreDisjoint p.o p.l q.o q.l
apart j zero p q lt a b first second = absurd (omega (arith, lt))
apart j (suc zero) p q lt a b first second = absurd (not_placed q b second)
apart j (suc (suc k)) p q lt a b first second = absurd cc

fits : (k : ℕ) (p : WrittenPart) → slice_get parts k ≡ Some p → Fits [] opens p.l p.content
fits zero p e = subst (λ (x : WrittenPart). Fits [] opens x.l x.content) (same_Some _ p e) refl
fits (suc zero) p e = subst (λ (x : WrittenPart). Fits [] opens x.l x.content) (same_Some _ p e) tt
fits (suc (suc k)) p e = absurd cc

-- word 8 { [0:8] .0, [0:70] .7 } where .0 alone is open: the second part places nothing
closed_part : PartsFit [] opens 8 parts
closed_part = record { inside = within; disjoint = apart; fit = fits }
