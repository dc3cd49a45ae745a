-- Blocks tested one after the other.
use Rattle.std.proofs.Common.{◌≡◌, ℕ, suc, ◌+◌, ◌<◌, ◌≤◌, List, length, Some, refl, sym, ◌∙◌, ap, subst, arith, Bool, true, false, get_or}
use Rattle.std.specs.Prelude.{slice_get, IsTrue, ◌↔◌}
use Rattle.std.proofs.lemmas.Option.{slice_get_read, slice_get_within}
use Rattle.std.proofs.lemmas.Bool.{eqb-true, eqb-false}
use Rattle.std.proofs.Math.Dec.{eqb}
use Rattle.rb_image_text.specs.Places.{end_of, end_before, IsInPlace, AreInPlaceBefore, AreInPlace, IsFirstMisplaced}
use Rattle.rb_image_text.specs.declared.image.ImageBlock.{ImageBlock}

pub end_next : (blocks : List ImageBlock) (i : ℕ) (b : ImageBlock) → slice_get blocks i ≡ Some b → end_before blocks (i + 1) ≡ b.at + length b.bytes
end_next blocks i b e = ap (λ n. end_before blocks n) (let z : i + 1 ≡ suc i = omega arith in z) ∙ ap end_of e

same_block : (b c : ImageBlock) → Some b ≡ Some c → b ≡ c
same_block b c e = cc

-- one block more in its place
pub place_more : (blocks : List ImageBlock) (n : ℕ) (b : ImageBlock) → slice_get blocks n ≡ Some b → IsInPlace (end_before blocks n) b → AreInPlaceBefore blocks n → AreInPlaceBefore blocks (n + 1)
place_more blocks n b is good before i c lt e = elim (eqb i n) as (λ (t : Bool). eqb i n ≡ t → IsInPlace (end_before blocks i) c) [
  | true ↦ λ h.
      let same : i ≡ n = eqb-true i n h in
      let block : b ≡ c = same_block b c (sym is ∙ ap (λ j. slice_get blocks j) (sym same) ∙ e) in
      subst (λ j. IsInPlace (end_before blocks j) c) (sym same) (subst (IsInPlace (end_before blocks n)) block good)
  | false ↦ λ h. before i c (let ne : i ≡ n → ⊥ = eqb-false i n h in omega (arith, lt, ne)) e
] refl

-- a block that passed the test
pub placed : (before end : ℕ) (b : ImageBlock) → end ≡ before → (t : Bool) → t ≡ true → (IsTrue t ↔ IsInPlace end b) → IsInPlace before b
placed before end b e t is iff = subst (λ n. IsInPlace n b) e (iff.0 is)

-- all are tested
pub all_placed : (blocks : List ImageBlock) (n : ℕ) → length blocks ≤ n → AreInPlaceBefore blocks n → AreInPlaceBefore blocks (length blocks)
all_placed blocks n le before i b lt e = before i b (omega (arith, lt, le)) e

pub get_from_index : (blocks : List ImageBlock) (i : ℕ) (b : ImageBlock) → i < length blocks → b ≡ get_or blocks i b → slice_get blocks i ≡ Some b
get_from_index blocks i b lt is = slice_get_read blocks (length blocks) i b refl lt is

-- blocks in their places have none out of its place
pub misplaced_only : (read blocks : List ImageBlock) (i : ℕ) → read ≡ blocks → IsFirstMisplaced read i → AreInPlace blocks → ⊥
misplaced_only read blocks i e first placed =
    let out = subst (λ bs. IsFirstMisplaced bs i) e first in
    out.misplaced (placed i out.block (slice_get_within blocks i out.block out.is) out.is)
