-- Root words: the first that does not fit, the place that they are, and what an image comes to.
use Rattle.std.proofs.Common.{◌≡◌, ◌⊎◌, inl, inr, ℕ, zero, suc, ◌+◌, ◌<◌, ◌≤◌, ◌^◌, nat_eq, Bool, true, false, List, [], ◌∷◌, ◌++◌, drop, length, Option, Some, None, Result, Ok, Err, OnOk, refl, sym, subst, ap, ◌∙◌, append_assoc, append-nil, arith}
use Rattle.std.specs.Prelude.{slice_get, IfErr, if◌then◌else◌}
use Rattle.std.proofs.lemmas.Bool.{cases_eq, cases_lt}
use Rattle.std.proofs.lemmas.Grind.{common_steps}
use Rattle.std.proofs.lemmas.Option.{slice_get_within}
use Rattle.rb_core.specs.declared.types.DataDecl.{DataDecl}
use Rattle.rb_core.specs.declared.types.Ty.{Ty}
use Rattle.rb_core.specs.declared.types.Ty.TheVariants.{Named}
use Rattle.rb_layout.specs.declared.layout.Layout.{Layout}
use Rattle.rb_image_text.specs.declared.fault.ImageFault.{ImageFault}
use Rattle.rb_image_text.specs.declared.fault.ImageFault.TheVariants.{Memory as NoMemory}
use Rattle.rb_image_text.specs.declared.image.Image.{Image}
use Rattle.rb_image_text.specs.declared.image.ImageBlock.{ImageBlock}
use Rattle.rb_image_text.specs.Places.{AreInPlace}
use Rattle.rb_image.specs.declared.kept.Kept.{Kept}
use Rattle.rb_image.specs.Blocks.{block_at}
use Rattle.rb_image.specs.Parts.{look}
use Rattle.rb_image.specs.Roots.{WordsFit, FitsAt, IsFirstImageFault, IsFirstMisfit, IsSoundImage, WordFits, kept_from, root_at, widths_of}
use Rattle.rb_image.specs.Sound.{IsFault, IsFineResult}
use Rattle.rb_image.specs.inner.Descending.{SoundnessIsFound}
use Rattle.rb_image.specs.Splits.{word_at}
use Rattle.rb_image.proofs.DropLemmas.{drop_item, drop_past}
use Rattle.rb_image.proofs.FallLemmas.{AreUnder}
use Rattle.rb_image.proofs.SoundLemmas.{fault_given, no_fault}

-- Words that fit -----------------------------------------------------------------------------
module _ (widths words : List ℕ) where
  abbrev FitBefore : ℕ → Type 0
  FitBefore i = (j : ℕ) → j < i → FitsAt widths words j

  fits_as : (i : ℕ) (a b : Option ℕ) → slice_get widths i ≡ a → slice_get words i ≡ b → FitsAt widths words i → WordFits a b
  fits_as i a b x y h = subst (λ o. WordFits a o) y (subst (λ o. WordFits o (slice_get words i)) x h)

  as_fits : (i : ℕ) (a b : Option ℕ) → slice_get widths i ≡ a → slice_get words i ≡ b → WordFits a b → FitsAt widths words i
  as_fits i a b x y h = subst (λ o. WordFits (slice_get widths i) o) (sym y) (subst (λ o. WordFits o b) (sym x) h)

  -- a word is missing
  pub missing : (i width : ℕ) → slice_get widths i ≡ Some width → slice_get words i ≡ None → FitBefore i → IsFirstMisfit widths words i
  missing i width x y before = record { misfit = λ h. fits_as i (Some width) None x y h; before = before }

  -- or too wide
  pub too_wide : (i width word : ℕ) → slice_get widths i ≡ Some width → slice_get words i ≡ Some word → (word < 2 ^ width → ⊥) → FitBefore i → IsFirstMisfit widths words i
  too_wide i width word x y wide before = record { misfit = λ h. wide (fits_as i (Some width) (Some word) x y h); before = before }

  pub one_more_fits : (i width word : ℕ) → slice_get widths i ≡ Some width → slice_get words i ≡ Some word → word < 2 ^ width → FitBefore i → FitBefore (i + 1)
  one_more_fits i width word x y fit before j lt = elim (cases_eq j i) [
    | inl same ↦ subst (FitsAt widths words) (sym same) (as_fits i (Some width) (Some word) x y fit)
    | inr other ↦ before j (less j i lt other)
  ]
    where
      less : (a b : ℕ) → a < b + 1 → (a ≡ b → ⊥) → a < b
      less a b lt ne = omega (arith, lt, ne)

  past : (xs : List ℕ) (i : ℕ) → length xs ≤ i → slice_get xs i ≡ None
  past [] i le = refl
  past (x ∷ xs) zero le = absurd (omega (arith, le))
  past (x ∷ xs) (suc i) le = past xs i (omega (arith, le))

  present : (xs : List ℕ) (i : ℕ) → i < length xs → (x : ℕ) × (slice_get xs i ≡ Some x)
  present [] i lt = absurd (omega (arith, lt))
  present (x ∷ xs) zero lt = (x, refl)
  present (x ∷ xs) (suc i) lt = present xs i (omega (arith, lt))

  -- or one too many
  pub too_many : (i : ℕ) → length widths ≤ i → FitBefore i → length widths < length words → IsFirstMisfit widths words (length widths)
  too_many i le before more =
      let x = present words (length widths) more in
      record { misfit = λ h. fits_as (length widths) None (Some x.0) (past widths (length widths) (omega arith)) x.1 h; before = λ j lt. before j (omega (arith, lt, le)) }

  pub all_fit : (i : ℕ) → length widths ≤ i → FitBefore i → length words ≤ length widths → WordsFit widths words
  all_fit i le before few j = elim (cases_lt j i) [
    | inl lt ↦ before j lt
    | inr ge ↦ as_fits j None None (past widths j (omega (arith, ge, le))) (past words j (omega (arith, ge, le, few))) tt
  ]

-- The place of the root ----------------------------------------------------------------------
pub kept_more : (ws : List ℕ) (i w : ℕ) (before : List Kept) → slice_get ws i ≡ Some w
    → before ++ kept_from i (drop i ws) ≡ (before ++ record { number = w; base = 0; place = i } ∷ []) ++ kept_from (i + 1) (drop (i + 1) ws)
kept_more ws i w before is =
    ap (λ xs. before ++ kept_from i xs) (drop_item ws i w is)
    ∙ sym (append_assoc before (record { number = w; base = 0; place = i } ∷ []) (kept_from (i + 1) (drop (i + 1) ws)))

pub kept_end : (ws : List ℕ) (i : ℕ) (before : List Kept) → length ws ≤ i → before ++ kept_from i (drop i ws) ≡ before
kept_end ws i before le = ap (λ xs. before ++ kept_from i xs) (drop_past ws i le) ∙ append-nil before

pub in_no_block : (i : ℕ) (ws : List ℕ) (j : ℕ) → (word_at (kept_from i ws) j).base ≡ 0
in_no_block i [] j = refl
in_no_block i (w ∷ ws) zero = refl
in_no_block i (w ∷ ws) (suc j) = in_no_block (i + 1) ws j

-- its pointers lead to addresses of 64 bits
pub root_under : (ws : List ℕ) → AreUnder 18446744073709551616 (kept_from 0 ws)
root_under ws j some = let e = in_no_block 0 ws j in (omega (arith, e), λ z. omega arith)

-- Blocks in their places ---------------------------------------------------------------------
is_zero : (n : ℕ) → nat_eq n 0 ≡ true → n ≡ 0
is_zero n e = grind (arith, common_steps)

not_zero_by : (n : ℕ) → 64 ≤ n → (b : Bool) → nat_eq n 0 ≡ b → nat_eq n 0 ≡ false
not_zero_by n le true e = absurd (let z = is_zero n e in omega (arith, z, le))
not_zero_by n le false e = e

not_zero : (n : ℕ) → 64 ≤ n → nat_eq n 0 ≡ false
not_zero n le = not_zero_by n le (nat_eq n 0) refl

none_at : (blocks : List ImageBlock) → ((i : ℕ) (b : ImageBlock) → slice_get blocks i ≡ Some b → 64 ≤ b.at) → block_at blocks 0 ≡ None
none_at [] high = refl
none_at (b ∷ bs) high = ap (λ t. if t then Some b else block_at bs 0) (not_zero b.at (high 0 b refl)) ∙ none_at bs (λ i x e. high (suc i) x e)

-- none begins at 0
pub none_at_zero : (blocks : List ImageBlock) → AreInPlace blocks → block_at blocks 0 ≡ None
none_at_zero blocks placed = none_at blocks (λ i b e. (placed i b (slice_get_within blocks i b e) e).low)

-- Whole images -------------------------------------------------------------------------------
module _ (types : List DataDecl) (layouts : List Layout) (image : Image) (ty : Ty) where
  -- all that is said of an answer
  pub record Answers (r : Result (Unit {0}) ImageFault) : Type 0 where
    pub sound : OnOk r (IsSoundImage types layouts image ty)
    pub fault : IfErr r (λ f. IsFirstImageFault types layouts image ty f ⊎ (f ≡ NoMemory))
    pub fine : IsSoundImage types layouts image ty → IsFineResult r
    pub first : (f : ImageFault) → IsFirstImageFault types layouts image ty f → IsFault f r

-- root words that fit a data type
module _ (types : List DataDecl) (layouts : List Layout) (image : Image) (t : ℕ) (fit : WordsFit (widths_of layouts (Named t)) image.root) where
  named_sound : (r : Result (Unit {0}) ImageFault) → SoundnessIsFound (look types layouts image.blocks) (root_at t image.root) r → OnOk r (IsSoundImage types layouts image (Named t))
  named_sound (Ok x) found = record { fit = fit; sound = found }
  named_sound (Err f) found = tt

  named_fault : (r : Result (Unit {0}) ImageFault) → SoundnessIsFound (look types layouts image.blocks) (root_at t image.root) r → IfErr r (λ f. IsFirstImageFault types layouts image (Named t) f ⊎ (f ≡ NoMemory))
  named_fault (Ok x) found = tt
  named_fault (Err f) (inl h) = inl (inr (fit, h))
  named_fault (Err f) (inr e) = inr e

  named_fine : (r : Result (Unit {0}) ImageFault) → SoundnessIsFound (look types layouts image.blocks) (root_at t image.root) r → IsSoundImage types layouts image (Named t) → IsFineResult r
  named_fine (Ok x) found s = tt
  named_fine (Err f) (inl h) s = absurd (no_fault (look types layouts image.blocks) s.sound f h)
  named_fine (Err f) (inr e) s = e

  named_first : (r : Result (Unit {0}) ImageFault) → SoundnessIsFound (look types layouts image.blocks) (root_at t image.root) r → (f : ImageFault) → IsFirstImageFault types layouts image (Named t) f → IsFault f r
  named_first r found f (inl x) = absurd (x.2.misfit (fit x.0))
  named_first r found f (inr x) = fault_given (look types layouts image.blocks) (root_at t image.root) r found f x.1

  pub named_answers : (r : Result (Unit {0}) ImageFault) → SoundnessIsFound (look types layouts image.blocks) (root_at t image.root) r → Answers types layouts image (Named t) r
  named_answers r found = record { sound = named_sound r found; fault = named_fault r found; fine = named_fine r found; first = named_first r found }
