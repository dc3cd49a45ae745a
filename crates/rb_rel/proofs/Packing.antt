-- A word made of its parts: each part holds, and the other bits are 0.
use Rattle.std.proofs.Common.{◌≡◌, ℕ, zero, suc, ◌+◌, ◌-◌, ◌*◌, ◌/◌, ◌%◌, ◌^◌, ◌<◌, ◌≤◌, inl, inr, Bool, List, [], ◌∷◌, Some, refl, sym, subst, ap, ◌∙◌, arith}
use Rattle.std.specs.Prelude.{slice_get}
use Rattle.std.specs.Int.{bit_at}
use Rattle.std.proofs.lemmas.Bool.{cases_lt}
use Rattle.std.proofs.lemmas.Option.{same_Some}
use Rattle.std.proofs.lemmas.Nat.{pow_pos, pow-add, mul-add-lt}
use Rattle.std.proofs.lemmas.Nat.Bits.{bit_at-zero}
use Rattle.std.proofs.Math.Pow.{shr_lt}
use Rattle.rb_bits.specs.Words.{take_of, put_of, IsOutside, AreDisjoint}
use Rattle.rb_bits.proofs.WordLemmas.{take_fits, bit_at_take, bit_at_put_inside, bit_at_put_outside}
use Rattle.rb_layout.specs.declared.layout.FlatWord.{FlatWord}
use Rattle.rb_layout.specs.declared.layout.Part.{Part}
use Rattle.rb_layout.specs.declared.layout.Kind.{Kind}
use Rattle.rb_layout.specs.declared.layout.Kind.TheVariants.{Const, Bits, Word, Pointer}
use Rattle.rb_layout.specs.A3.{IsIn}
use Rattle.rb_rel.specs.Relation.{HoldsKind, WordHolds}
use Rattle.rb_rel.specs.Storing.{number_of}
use Rattle.std.proofs.lemmas.Nat.Bits.{same_from_bits_below}

-- all parts in their places, and 0 elsewhere
abbrev pub packed : (List ℕ → List ℕ) → (ℕ → ℕ) → List Part → ℕ
packed subs ats [] = 0
packed subs ats (p ∷ ps) = put_of (packed subs ats ps) p.o p.l (number_of subs ats p.l p.kind)

-- the parts of a word are apart and lie in it
pub record IsTidy (f : FlatWord) : Type 0 where
  pub apart : (j k : ℕ) (p q : Part) → j < k → slice_get f.parts j ≡ Some p → slice_get f.parts k ≡ Some q → AreDisjoint p.o p.l q.o q.l
  pub inside : (k : ℕ) (p : Part) → slice_get f.parts k ≡ Some p → p.o + p.l ≤ f.width

-- what parts have to hold fits them, and addresses are multiples
pub record CanHold (subs : List ℕ → List ℕ) (ats : ℕ → ℕ) (ps : List Part) : Type 0 where
  pub fit : (k : ℕ) (p : Part) → slice_get ps k ≡ Some p → number_of subs ats p.l p.kind < 2 ^ p.l
  pub aligned : (k : ℕ) (p : Part) → slice_get ps k ≡ Some p → (align b : ℕ) → p.kind ≡ Pointer align b → ats b / align * align ≡ ats b

low_fits : (n k : ℕ) → n % 2 ^ k < 2 ^ k
low_fits n k = let p = pow_pos k in omega arith

pub put_below : (w o l part width : ℕ) → o + l ≤ width → w < 2 ^ width → part < 2 ^ l → put_of w o l part < 2 ^ width
put_below w o l part width le fits small =
    let rest = width - (o + l) in
    let all : rest + (o + l) ≡ width = omega arith in
    let high : w / 2 ^ (o + l) < 2 ^ rest = shr_lt rest (o + l) (subst (λ k. w < 2 ^ k) (sym all) fits) in
    let upper = mul-add-lt (w / 2 ^ (o + l)) (2 ^ l) part (2 ^ rest) high small in
    let whole = mul-add-lt (w / 2 ^ (o + l) * 2 ^ l + part) (2 ^ o) (w % 2 ^ o) (2 ^ l * 2 ^ rest) upper (low_fits w o) in
    let e : 2 ^ o * (2 ^ l * 2 ^ rest) ≡ 2 ^ width = ap (λ k. 2 ^ o * k) (sym (pow-add 2 l rest)) ∙ sym (pow-add 2 o (l + rest)) ∙ ap (λ k. 2 ^ k) (let s : o + (l + rest) ≡ width = omega arith in s) in
    subst (λ k. put_of w o l part < k) e whole

module _ (subs : List ℕ → List ℕ) (ats : ℕ → ℕ) where
  abbrev N : Part → ℕ
  N p = number_of subs ats p.l p.kind

  abbrev Fit : List Part → Type 0
  Fit ps = (k : ℕ) (p : Part) → slice_get ps k ≡ Some p → N p < 2 ^ p.l

  abbrev Apart : List Part → Type 0
  Apart ps = (j k : ℕ) (p q : Part) → j < k → slice_get ps j ≡ Some p → slice_get ps k ≡ Some q → AreDisjoint p.o p.l q.o q.l

  packed_free : (ps : List Part) (i : ℕ) → Fit ps → ((k : ℕ) (p : Part) → slice_get ps k ≡ Some p → IsOutside p.o p.l i) → bit_at (packed subs ats ps) i ≡ 0
  packed_free [] i fit out = bit_at-zero i
  packed_free (p ∷ ps) i fit out =
      bit_at_put_outside (packed subs ats ps) p.o p.l (N p) i (fit 0 p refl) (out 0 p refl) ∙ packed_free ps i (λ k q e. fit (suc k) q e) (λ k q e. out (suc k) q e)

  apart_at : (p q : Part) (i : ℕ) → AreDisjoint p.o p.l q.o q.l → i < q.l → IsOutside p.o p.l (q.o + i)
  apart_at p q i (inl le) lt = inr (omega arith)
  apart_at p q i (inr le) lt = inl (omega arith)

  packed_bit : (ps : List Part) (k : ℕ) (p : Part) (i : ℕ) → Apart ps → Fit ps → slice_get ps k ≡ Some p → i < p.l → bit_at (packed subs ats ps) (p.o + i) ≡ bit_at (N p) i
  packed_bit [] k p i apart fit is lt = absurd cc
  packed_bit (q ∷ ps) zero p i apart fit is lt =
      let same = same_Some q p is in
      subst (λ (x : Part). i < x.l → bit_at (packed subs ats (q ∷ ps)) (x.o + i) ≡ bit_at (N x) i) same
      (λ lt'. bit_at_put_inside (packed subs ats ps) q.o q.l (N q) i (fit 0 q refl) lt') lt
  packed_bit (q ∷ ps) (suc k) p i apart fit is lt =
      bit_at_put_outside (packed subs ats ps) q.o q.l (N q) (p.o + i) (fit 0 q refl) (apart_at q p i (apart 0 (suc k) q p (omega arith) refl is) lt)
      ∙ packed_bit ps k p i (λ a b x y l e h. apart (suc a) (suc b) x y (omega (arith, l)) e h) (λ j x e. fit (suc j) x e) is lt

  -- each part is there
  packed_part : (ps : List Part) (k : ℕ) (p : Part) → Apart ps → Fit ps → slice_get ps k ≡ Some p → take_of (packed subs ats ps) p.o p.l ≡ N p
  packed_part ps k p apart fit is = same_from_bits_below p.l _ _ (take_fits (packed subs ats ps) p.o p.l) (fit k p is)
      (λ i lt. bit_at_take (packed subs ats ps) p.o p.l i lt ∙ packed_bit ps k p i apart fit is lt)

  packed_below : (ps : List Part) (width : ℕ) → Fit ps → ((k : ℕ) (p : Part) → slice_get ps k ≡ Some p → p.o + p.l ≤ width) → packed subs ats ps < 2 ^ width
  packed_below [] width fit le = pow_pos width
  packed_below (p ∷ ps) width fit le = put_below (packed subs ats ps) p.o p.l (N p) width (le 0 p refl) (packed_below ps width (λ j x e. fit (suc j) x e) (λ j x e. le (suc j) x e)) (fit 0 p refl)

  holds_kind : (l : ℕ) (kind : Kind) → ((align b : ℕ) → kind ≡ Pointer align b → ats b / align * align ≡ ats b) → HoldsKind subs ats (number_of subs ats l kind) l kind
  holds_kind l (Const c) a = refl
  holds_kind l (Bits path x) a = refl
  holds_kind l (Word path j) a = refl
  holds_kind l (Pointer align b) a = a align b refl

  outside_part : (i : ℕ) (p : Part) → (IsIn p.o p.l i → ⊥) → IsOutside p.o p.l i
  outside_part i p out = elim (cases_lt i p.o) [
    | inl lt ↦ inl lt
    | inr le ↦ elim (cases_lt i (p.o + p.l)) [ inl lt ↦ absurd (out (le, lt)) | inr high ↦ inr high ]
  ]

  -- a packed word holds, cleanly
  pub packed_holds : (f : FlatWord) → IsTidy f → CanHold subs ats f.parts → (clean : Bool) → WordHolds subs ats clean f (packed subs ats f.parts)
  packed_holds f tidy can clean = record {
    fits = packed_below f.parts f.width can.fit tidy.inside;
    parts = λ k p is.
        subst (λ n. HoldsKind subs ats n p.l p.kind) (sym (packed_part f.parts k p tidy.apart can.fit is)) (holds_kind p.l p.kind (can.aligned k p is));
    free = λ up i is_free. packed_free f.parts i can.fit (λ k p is. outside_part i p (is_free.outside k p is));
  }
