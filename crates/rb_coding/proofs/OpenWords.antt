-- What is read of a leaf's parts is what its open positions hold, word by word or bit by bit.
use Rattle.std.proofs.Common.{◌≡◌, ℕ, suc, ◌+◌, ◌-◌, ◌*◌, ◌^◌, ◌<◌, ◌≤◌, length, List, [], ◌∷◌, Bool, Option, Some, None, refl, sym, subst, ap, ◌∙◌, arith}
use Rattle.std.specs.Prelude.{slice_get, slice_index}
use Rattle.std.specs.Int.{bit_at}
use Rattle.std.proofs.lemmas.Nat.Bits.{same_from_bits_below}
use Rattle.std.proofs.lemmas.Option.{same_Some}
use Rattle.rb_core.specs.declared.value.Value.{Value}
use Rattle.rb_core.specs.declared.types.Ty.TheVariants.{Int, Named}
use Rattle.rb_core.specs.declared.types.DataDecl.{DataDecl}
use Rattle.rb_bits.specs.Words.{take_of}
use Rattle.rb_bits.proofs.WordLemmas.{bit_at_take}
use Rattle.rb_bytes.specs.Memory.{Memory}
use Rattle.rb_layout.specs.declared.layout.Leaf.{Leaf}
use Rattle.rb_layout.specs.declared.layout.Layout.{Layout}
use Rattle.rb_layout.specs.declared.layout.FlatWord.{FlatWord}
use Rattle.rb_layout.specs.declared.layout.Part.{Part}
use Rattle.rb_layout.specs.declared.layout.Kind.{Kind}
use Rattle.rb_layout.specs.declared.layout.Kind.TheVariants.{Bits, Word, Pointer}
use Rattle.rb_layout.specs.declared.layout.WordRef.{WordRef}
use Rattle.rb_layout.specs.Words.{words_in, flat_at}
use Rattle.rb_rel.specs.Relation.{HoldsKind, IsFound, LeafStands, Represents, WordHolds, word_count}
use Rattle.rb_rel.proofs.Represented.{Represents-int, Represents-count}

module _ (leaf : Leaf) (ws : List ℕ) (m : Memory) (clean : Bool) (subs : List ℕ → List ℕ) (ats : ℕ → ℕ) (placed : LeafStands leaf ws m clean subs ats) where
  found_one : (b : Option ℕ) (fs : List FlatWord) (f : FlatWord) (j w x : ℕ) → IsFound b fs f j ws ats m w → IsFound b fs f j ws ats m x → w ≡ x
  found_one None fs f j w x e h = same_Some w x (sym e ∙ h)
  found_one (Some b) fs f j w x e h = let g = sym e ∙ h in cc

  -- a word that is found in its place holds its parts
  pub found_holds : (r : WordRef) (f : FlatWord) (w : ℕ) → flat_at leaf r ≡ Some f → IsFound r.block (words_in leaf r.block) f r.word ws ats m w → WordHolds subs ats clean f w
  found_holds r f w is found =
      let h = placed.words r f is in
      subst (λ x. WordHolds subs ats clean f x) (found_one r.block (words_in leaf r.block) f r.word h.0 w h.1 found) h.2

  module _ (r : WordRef) (f : FlatWord) (w k : ℕ) (part : Part) (is : flat_at leaf r ≡ Some f) (found : IsFound r.block (words_in leaf r.block) f r.word ws ats m w) (is_part : slice_get f.parts k ≡ Some part) where
    holds_as : (kind : Kind) → part.kind ≡ kind → HoldsKind subs ats (take_of w part.o part.l) part.l kind
    holds_as kind e = subst (λ (y : Kind). HoldsKind subs ats (take_of w part.o part.l) part.l y) e ((found_holds r f w is found).parts k part is_part)

    -- a part with a word of an open position
    pub word_read : (path : List ℕ) (j : ℕ) → part.kind ≡ Word path j → take_of w part.o part.l ≡ slice_index (subs path) j
    word_read path j e = holds_as (Word path j) e

    -- a part with bits of an integer, from bit a on
    pub bits_read : (path : List ℕ) (a : ℕ) → part.kind ≡ Bits path a → take_of w part.o part.l ≡ take_of (slice_index (subs path) 0) a part.l
    bits_read path a e = holds_as (Bits path a) e

    pub bit_read : (path : List ℕ) (a i : ℕ) → part.kind ≡ Bits path a → a ≤ i → i < a + part.l → bit_at (take_of w part.o part.l) (i - a) ≡ bit_at (slice_index (subs path) 0) i
    bit_read path a i e lo hi =
        let z : a + (i - a) ≡ i = omega (arith, lo) in
        let within : i - a < part.l = omega (arith, lo, hi) in
        ap (λ x. bit_at x (i - a)) (bits_read path a e) ∙ bit_at_take (slice_index (subs path) 0) a part.l (i - a) within ∙ ap (bit_at (slice_index (subs path) 0)) z

    -- a part with a block's address, in steps of the alignment
    pub block_read : (align b : ℕ) → part.kind ≡ Pointer align b → take_of w part.o part.l * align ≡ ats b
    block_read align b e = holds_as (Pointer align b) e

same_items : (xs ys : List ℕ) → length xs ≡ length ys → ((i : ℕ) → i < length xs → slice_index xs i ≡ slice_index ys i) → xs ≡ ys
same_items [] [] e h = refl
same_items [] (y ∷ ys) e h = absurd (omega (arith, e))
same_items (x ∷ xs) [] e h = absurd (omega (arith, e))
same_items (x ∷ xs) (y ∷ ys) e h =
    let a : x ≡ y = h 0 (omega arith) in
    let b : xs ≡ ys = same_items xs ys (omega (arith, e)) (λ i lt. h (suc i) (omega (arith, lt))) in cc

module _ (types : List DataDecl) (layouts : List Layout) (m : Memory) (clean : Bool) where
  -- words that are as many as a data type has, and each the same, are the ones that represent the value
  pub words_are : (t : ℕ) (u : Value) (ws xs : List ℕ) → Represents types layouts m clean (Named t) u ws → length xs ≡ word_count layouts (Named t)
      → ((i : ℕ) → i < word_count layouts (Named t) → slice_index xs i ≡ slice_index ws i) → xs ≡ ws
  words_are t u ws xs r l h =
      let n = Represents-count types layouts m clean r in
      same_items xs ws (l ∙ sym n) (λ i lt. h i (subst (λ k. i < k) l lt))

  -- a number of so many bits, each the same, is the one that represents the integer
  pub number_is : (bits x : ℕ) (u : Value) (ws : List ℕ) → Represents types layouts m clean (Int bits) u ws → x < 2 ^ bits
      → ((i : ℕ) → i < bits → bit_at x i ≡ bit_at (slice_index ws 0) i) → x ∷ [] ≡ ws
  number_is bits x u ws r lt h =
      let n = Represents-int types layouts m clean bits u ws r in
      let same : x ≡ n.0 = same_from_bits_below bits x n.0 lt n.3 (λ i le. h i le ∙ ap (λ ys. bit_at (slice_index ys 0) i) n.2) in
      ap (λ y. y ∷ []) same ∙ sym n.2
