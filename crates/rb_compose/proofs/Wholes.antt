-- Words with one part that is a field's word.
use Rattle.std.proofs.Common.{◌≡◌, ℕ, ◌==◌, ◌&&◌, ◌⊎◌, inl, inr, length, List, [], ◌∷◌, Bool, true, false, Option, Some, None, refl, sym, ap, ◌∙◌, arith}
use Rattle.std.specs.Prelude.{slice_get, if◌then◌else◌}
use Rattle.std.proofs.lemmas.Bool.{and_parts}
use Rattle.std.proofs.lemmas.Grind.{common_steps}
use Rattle.std.proofs.lemmas.Option.{same_Some}
use Rattle.rb_layout.specs.declared.layout.Kind.{Kind}
use Rattle.rb_layout.specs.declared.layout.Kind.TheVariants.{Const, Bits, Word, Pointer}
use Rattle.rb_layout.specs.declared.layout.Part.{Part}
use Rattle.rb_compose.specs.declared.subvalue.Subvalue.{Subvalue}
use Rattle.rb_compose.specs.inner.Code.{field_type, is_int, whole_kind, whole_of, whole_part}

same_nat : (a b : ℕ) → (a == b) ≡ true → a ≡ b
same_nat a b e = grind (arith, common_steps)

module _ (hs : List Subvalue) where
  -- a word of a data field, or a whole number
  abbrev pub HasWhole : ℕ → Kind → List ℕ × ℕ → Type 0
  HasWhole l kind w = (kind ≡ Word w.0 w.1) ⊎ ((kind ≡ Bits w.0 0) × (w.1 ≡ 0) × (is_int l (field_type hs w.0) ≡ true))

  pub record IsWhole (ps : List Part) (w : List ℕ × ℕ) : Type 0 where
    pub part : Part
    pub only : ps ≡ part ∷ []
    pub first : part.o ≡ 0
    pub has : HasWhole part.l part.kind w

  chosen : {A : Type 0} (t : Bool) (x : Option A) (y : A) → (if t then x else None) ≡ Some y → (t ≡ true) × (x ≡ Some y)
  chosen true x y e = (refl, e)
  chosen false x y e = absurd cc

  has_whole : (l : ℕ) (kind : Kind) (w : List ℕ × ℕ) → whole_kind hs l kind ≡ Some w → HasWhole l kind w
  has_whole l (Const c) w e = absurd cc
  has_whole l (Bits path a) w e =
      let h = chosen (a == 0 && is_int l (field_type hs path)) (Some (path, 0)) w e in
      let b = and_parts (a == 0) (is_int l (field_type hs path)) h.0 in
      let s : (path, 0) ≡ w = same_Some (path, 0) w h.1 in
      let zero_at : a ≡ 0 = same_nat a 0 b.0 in
      let p0 : path ≡ w.0 = ap (λ (x : List ℕ × ℕ). x.0) s in
      inr (ap (λ q. Bits q a) p0 ∙ ap (λ i. Bits w.0 i) zero_at, sym (ap (λ (x : List ℕ × ℕ). x.1) s), ap (λ q. is_int l (field_type hs q)) (sym p0) ∙ b.1)
  has_whole l (Word path j) w e =
      let s : (path, j) ≡ w = same_Some (path, j) w e in inl (ap (λ (x : List ℕ × ℕ). Word x.0 x.1) s)
  has_whole l (Pointer align x) w e = absurd cc

  pub is_whole : (ps : List Part) (w : List ℕ × ℕ) → whole_of hs ps ≡ Some w → IsWhole ps w
  is_whole ps w e = let h = chosen (length ps == 1) (whole_part hs (slice_get ps 0)) w e in by ps (same_nat (length ps) 1 h.0) h.1
    where
      by : (ps : List Part) → length ps ≡ 1 → whole_part hs (slice_get ps 0) ≡ Some w → IsWhole ps w
      by [] one h = absurd cc
      by (p ∷ q ∷ ps) one h = absurd (omega (arith, one))
      by (p ∷ []) one h =
          let g = chosen (p.o == 0) (whole_kind hs p.l p.kind) w h in
          record { part = p; only = refl; first = same_nat p.o 0 g.0; has = has_whole p.l p.kind w g.1 }
