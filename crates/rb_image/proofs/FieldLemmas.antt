-- The words of a leaf's field: the first part that holds a word gives it, and one word comes after the other.
use Rattle.std.proofs.Common.{◌≡◌, ℕ, ◌+◌, ◌-◌, ◌<◌, suc, Bool, true, false, List, ◌∷◌, drop, Some, ap, ◌∙◌, arith}
use Rattle.std.specs.Prelude.{slice_get, if◌then◌else◌}
use Rattle.rb_image_text.specs.declared.image.ImageBlock.{ImageBlock}
use Rattle.rb_image.specs.declared.kept.Kept.{Kept}
use Rattle.rb_image.specs.declared.order.Spot.{Spot}
use Rattle.rb_image.specs.Orders.{spot_part, spots_of}
use Rattle.rb_image.specs.Parts.{bits_at, field_word, field_words, is_field_word}
use Rattle.rb_image.proofs.DropLemmas.{drop_item}

-- one part
module _ (m : List ImageBlock) (ws : List Kept) (ats : List ℕ) (items : List Spot) (k : ℕ) (spot : Spot) (is : slice_get items k ≡ Some spot) (path : List ℕ) (j : ℕ) where
  abbrev word_on : Bool → Kept
  word_on t = if t then bits_at m ws ats (spot_part spot) else field_word m ws ats (spots_of (drop (k + 1) items)) path j

  first : field_word m ws ats (spots_of (drop k items)) path j ≡ word_on (is_field_word spot.part.now.kind path j)
  first = ap (λ ss. field_word m ws ats (spots_of ss) path j) (drop_item items k spot is)

  pub word_taken : is_field_word spot.part.now.kind path j ≡ true → field_word m ws ats (spots_of (drop k items)) path j ≡ bits_at m ws ats (spot_part spot)
  word_taken held = first ∙ ap word_on held

  pub word_passed : is_field_word spot.part.now.kind path j ≡ false → field_word m ws ats (spots_of (drop k items)) path j ≡ field_word m ws ats (spots_of (drop (k + 1) items)) path j
  word_passed held = first ∙ ap word_on held

-- one word of a field more
pub words_more : (word : List ℕ → ℕ → Kept) (path : List ℕ) (j n : ℕ) → j < n → field_words word path j (n - j) ≡ word path j ∷ field_words word path (j + 1) (n - (j + 1))
words_more word path j n lt = let e : n - j ≡ suc (n - (j + 1)) = omega (arith, lt) in ap (field_words word path j) e
