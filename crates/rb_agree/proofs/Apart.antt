-- A leaf with one number at a location excludes each other number of the location's bits.
use Rattle.std.proofs.Common.{◌≡◌, ℕ, zero, suc, ◌+◌, ◌*◌, ◌/◌, ◌%◌, ◌^◌, ◌<◌, inl, inr, List, [], ◌∷◌, Bool, true, false, ◌&&◌, leb, if◌then◌else◌, Option, Some, None, refl, sym, ap, subst, ◌∙◌, arith}
use Rattle.std.specs.Int.{bit_at}
use Rattle.std.proofs.lemmas.Bool.{cases_eq}
use Rattle.std.proofs.lemmas.Nat.{pow-add}
use Rattle.std.proofs.lemmas.Nat.Bits.{bit_at-suc, bit_at_lowest}
use Rattle.std.proofs.lemmas.Option.{same_Some}
use Rattle.rb_core.specs.declared.types.DataDecl.{DataDecl}
use Rattle.rb_core.specs.declared.layout_decl.Loc.{Loc}
use Rattle.rb_core.specs.declared.layout_decl.Step.{Step}
use Rattle.rb_layout.specs.declared.layout.Layout.{Layout}
use Rattle.rb_layout.specs.declared.layout.Leaf.{Leaf}
use Rattle.rb_layout.specs.declared.layout.FlatWord.{FlatWord}
use Rattle.rb_layout.specs.declared.layout.Part.{Part}
use Rattle.rb_layout.specs.declared.layout.WordRef.{WordRef}
use Rattle.rb_layout.specs.A8.{last_length, length_of}
use Rattle.rb_layout.specs.Locations.{Reached, pointer_block, constant_bit, constant_bits, number_known, known_in, next_ref, range_in, reached_at, resolve_from, with_bit}
use Rattle.rb_layout.specs.Words.{flat_at}
use Rattle.rb_layout.specs.Excluded.{differs, Excludes}
use Rattle.rb_agree.specs.inner.Tests.{IsAnother}

-- The bit that tells two numbers apart ---------------------------------------------------------------
abbrev OtherBit : List Part → ℕ → ℕ → ℕ → Type 0
OtherBit ps o l c = (i : ℕ) × (bit : ℕ) × (i < l) × (constant_bit ps (o + i) ≡ Some bit) × (bit ≡ bit_at c i → ⊥)

half-fits : (l c : ℕ) → c < 2 ^ suc l → c / 2 < 2 ^ l
half-fits l c lt =
    let next : 2 ^ (l + 1) ≡ 2 ^ l * 2 ^ 1 = pow-add 2 l 1 in
    let one : 2 ^ 1 ≡ 2 = refl in
    let twice : 2 ^ (l + 1) ≡ 2 ^ l * 2 = next ∙ ap (λ n. 2 ^ l * n) one in
    let up : suc l ≡ l + 1 = omega arith in
    let less : c < 2 ^ l * 2 = subst (λ n. c < n) twice (subst (λ n. c < 2 ^ n) up lt) in
    omega (arith, less)

halves : (b r v c : ℕ) → b + 2 * r ≡ v → b ≡ c % 2 → r ≡ c / 2 → v ≡ c
halves b r v c whole low high = omega (arith, whole, low, high)

later : (ps : List Part) (o l c : ℕ) → OtherBit ps (o + 1) l (c / 2) → OtherBit ps o (suc l) c
later ps o l c h =
    let next : (o + 1) + h.0 ≡ o + suc h.0 = omega arith in (
      suc h.0,
      h.1,
      omega (arith, h.2),
      subst (λ n. constant_bit ps n ≡ Some h.1) next h.3,
      λ e. h.4 (e ∙ bit_at-suc c h.0),
    )

-- the same of the bits after the first
abbrev InRest : List Part → ℕ → ℕ → ℕ → Type 0
InRest ps o l c = (r : ℕ) → constant_bits ps (o + 1) l ≡ Some r → (r ≡ c / 2 → ⊥) → OtherBit ps (o + 1) l (c / 2)

other-bit : (ps : List Part) (o l v c : ℕ) → constant_bits ps o l ≡ Some v → c < 2 ^ l → (v ≡ c → ⊥) → OtherBit ps o l c
other-bit ps o zero v c e lt other = let v-is : 0 ≡ v = same_Some 0 v e in let one : 2 ^ 0 ≡ 1 = refl in absurd (other (omega (arith, v-is, one, lt)))
other-bit ps o (suc l) v c e lt other =
    at (constant_bit ps o) (constant_bits ps (o + 1) l) refl refl e (λ r high apart. other-bit ps (o + 1) l r (c / 2) high (half-fits l c lt) apart) where
      at : (x y : Option ℕ) → constant_bit ps o ≡ x → constant_bits ps (o + 1) l ≡ y → with_bit x y ≡ Some v → InRest ps o l c → OtherBit ps o (suc l) c
      at None y low high e rest = absurd cc
      at (Some b) None low high e rest = absurd cc
      at (Some b) (Some r) low high e rest =
          let whole : b + 2 * r ≡ v = same_Some (b + 2 * r) v e in
          elim (cases_eq b (c % 2)) [
            | inl same ↦ later ps o l c (rest r high (λ above. other (halves b r v c whole same above)))
            | inr differ ↦ (0, b, omega arith, (let here : o ≡ o + 0 = omega arith in subst (λ n. constant_bit ps n ≡ Some b) here low), λ is. differ (is ∙ bit_at_lowest c))
          ]

-- How many bits are reached -------------------------------------------------------------------------
range-length : (f : Option FlatWord) (r : WordRef) (o l : ℕ) (x : Reached) → range_in f r o l ≡ Some x → x.l ≡ l
range-length None r o l x = λ e. absurd cc
range-length (Some f) r o l x = elim (leb 1 l && leb (o + l) f.width) as (λ (b : Bool). (if b then Some (record { ref = r; word = f; o = o; l = l }) else None) ≡ Some x → x.l ≡ l) [
  | true ↦ λ e. ap (λ (y : Reached). y.l) (sym (same_Some (record { ref = r; word = f; o = o; l = l }) x e))
  | false ↦ λ e. absurd cc
]

reach-length : (leaf : Leaf) (r : Option WordRef) (o l : ℕ) (steps : List Step) (x : Reached) → resolve_from leaf r o l steps ≡ Some x → x.l ≡ last_length l steps
reach-length leaf None o l steps x e = absurd cc
reach-length leaf (Some r) o l [] x e = range-length (flat_at leaf r) r o l x e
reach-length leaf (Some r) o l (s ∷ steps) x e = reach-length leaf (next_ref leaf (pointer_block (flat_at leaf r) o l s.align) s) s.o s.l steps x e

module _ (types : List DataDecl) (layouts : List Layout) (leaf : Leaf) (loc : Loc) where
  apart : (v c : ℕ) → number_known leaf loc ≡ Some v → (v ≡ c → ⊥) → c < 2 ^ length_of loc → Excludes types layouts leaf loc c
  apart v c is other fits = at (reached_at leaf loc) refl is where
    at : (x : Option Reached) → reached_at leaf loc ≡ x → known_in x ≡ Some v → Excludes types layouts leaf loc c
    at None e k = absurd cc
    at (Some x) e k =
        let long : x.l ≡ length_of loc = reach-length leaf (Some (record { block = None; word = loc.word })) loc.o loc.l loc.steps x e in
        let h = other-bit x.word.parts x.o x.l v c k (subst (λ n. c < 2 ^ n) (sym long) fits) other in record {
          reached = x;
          resolves = e;
          bars = differs leaf x.word x.o x.l c (record { i = h.0; bit = h.1; inside = h.2; constant = h.3; other = h.4 });
        }

  pub another-excluded : (number : Option ℕ) (c : ℕ) → number ≡ number_known leaf loc → IsAnother number (length_of loc) c → Excludes types layouts leaf loc c
  another-excluded None c is h = absurd h
  another-excluded (Some v) c is h = apart v c (sym is) h.0 h.1
