-- What tables are gathered to, part by part, and that the addresses of blocks are.
use Rattle.std.proofs.Common.{◌≡◌, ℕ, zero, suc, ◌+◌, ◌*◌, ◌%◌, ◌<◌, ◌⊎◌, inl, inr, length, List, [], ◌∷◌, Some, refl, sym, subst, ap, ◌∙◌, arith}
use Rattle.std.specs.Prelude.{slice_get, slice_index, slice_set}
use Rattle.std.proofs.lemmas.Bool.{cases_eq}
use Rattle.std.proofs.lemmas.List.{length-set, get_or-set_same, get_or-set_other}
use Rattle.std.proofs.lemmas.Option.{same_Some}
use Rattle.std.proofs.Math.Nat.{mod-eq_of_lt}
use Rattle.rb_bits.specs.Words.{take_of}
use Rattle.rb_layout.specs.declared.layout.FlatWord.{FlatWord}
use Rattle.rb_layout.specs.declared.layout.Kind.{Kind}
use Rattle.rb_layout.specs.declared.layout.Kind.TheVariants.{Const, Bits, Word, Pointer}
use Rattle.rb_layout.specs.declared.layout.Part.{Part}
use Rattle.rb_rel.specs.Relation.{HoldsKind, PartHolds}
use Rattle.rb_coding.specs.inner.Gathering.{entry, put_entry, put_part, put_parts, put_words}
use Rattle.rb_coding.specs.declared.gather.Wanted.{Wanted}
use Rattle.rb_coding.specs.declared.gather.Wanted.TheVariants.{Addresses}

-- Parts, one after the other -----------------------------------------------------------------------
module _ (wanted : Wanted) (path : List ℕ) (Fine : ℕ → Part → Type 0) where
  abbrev pub FineParts : ℕ → List Part → Type 0
  FineParts w ps = (k : ℕ) (p : Part) → slice_get ps k ≡ Some p → Fine w p

  -- of flat words, the first of which is word j
  abbrev pub FineWords : List FlatWord → List ℕ → ℕ → Type 0
  FineWords fs ws j = (i : ℕ) (f : FlatWord) → slice_get fs i ≡ Some f → FineParts (slice_index ws (j + i)) f.parts

  first_word : (f : FlatWord) (fs : List FlatWord) (ws : List ℕ) (j : ℕ) → FineWords (f ∷ fs) ws j → FineParts (slice_index ws j) f.parts
  first_word f fs ws j fine = let z : j + 0 ≡ j = omega arith in subst (λ i. FineParts (slice_index ws i) f.parts) z (fine 0 f refl)

  more_words : (f : FlatWord) (fs : List FlatWord) (ws : List ℕ) (j : ℕ) → FineWords (f ∷ fs) ws j → FineWords fs ws (j + 1)
  more_words f fs ws j fine i g e = let z : j + suc i ≡ j + 1 + i = omega arith in subst (λ x. FineParts (slice_index ws x) g.parts) z (fine (suc i) g e)

  module _ (T : List ℕ → Type 0) (step : (w : ℕ) (p : Part) (t : List ℕ) → Fine w p → T t → T (put_part wanted path w t p)) where
    -- what each part keeps is kept
    pub parts_keep : (ps : List Part) (w : ℕ) (t : List ℕ) → FineParts w ps → T t → T (put_parts wanted path w ps t)
    parts_keep [] w t fine h = h
    parts_keep (p ∷ ps) w t fine h = parts_keep ps w (put_part wanted path w t p) (λ k q e. fine (suc k) q e) (step w p t (fine 0 p refl) h)

    pub words_keep : (fs : List FlatWord) (ws : List ℕ) (j : ℕ) (t : List ℕ) → FineWords fs ws j → T t → T (put_words wanted path fs ws j t)
    words_keep [] ws j t fine h = h
    words_keep (f ∷ fs) ws j t fine h =
        words_keep fs ws (j + 1) (put_parts wanted path (slice_index ws j) f.parts t) (more_words f fs ws j fine) (parts_keep f.parts (slice_index ws j) t (first_word f fs ws j fine) h)

  module _ (I : List ℕ → Type 0) (keeps : (w : ℕ) (p : Part) (t : List ℕ) → Fine w p → I t → I (put_part wanted path w t p))
      (T : List ℕ → Type 0) (step : (w : ℕ) (p : Part) (t : List ℕ) → Fine w p → T t → T (put_part wanted path w t p))
      (Cover : Part → Type 0) (make : (w : ℕ) (p : Part) (t : List ℕ) → Fine w p → Cover p → I t → T (put_part wanted path w t p)) where
    -- what one part makes stands in the end
    pub parts_make : (ps : List Part) (w : ℕ) (t : List ℕ) → FineParts w ps → I t → (k : ℕ) (p : Part) → slice_get ps k ≡ Some p → Cover p → T (put_parts wanted path w ps t)
    parts_make [] w t fine i k p e c = absurd cc
    parts_make (q ∷ ps) w t fine i zero p e c =
        parts_keep T step ps w (put_part wanted path w t q) (λ k x h. fine (suc k) x h) (make w q t (fine 0 q refl) (subst Cover (sym (same_Some q p e)) c) i)
    parts_make (q ∷ ps) w t fine i (suc k) p e c = parts_make ps w (put_part wanted path w t q) (λ j x h. fine (suc j) x h) (keeps w q t (fine 0 q refl) i) k p e c

    pub words_make : (fs : List FlatWord) (ws : List ℕ) (j : ℕ) (t : List ℕ) → FineWords fs ws j → I t
        → (i : ℕ) (f : FlatWord) → slice_get fs i ≡ Some f → (k : ℕ) (p : Part) → slice_get f.parts k ≡ Some p → Cover p → T (put_words wanted path fs ws j t)
    words_make [] ws j t fine h i f is k p e c = absurd cc
    words_make (g ∷ fs) ws j t fine h zero f is k p e c =
        words_keep T step fs ws (j + 1) (put_parts wanted path (slice_index ws j) g.parts t) (more_words g fs ws j fine)
        (parts_make g.parts (slice_index ws j) t (first_word g fs ws j fine) h k p (ap (λ (x : FlatWord). slice_get x.parts k) (same_Some g f is) ∙ e) c)
    words_make (g ∷ fs) ws j t fine h (suc i) f is k p e c =
        words_make fs ws (j + 1) (put_parts wanted path (slice_index ws j) g.parts t) (more_words g fs ws j fine) (parts_keep I keeps g.parts (slice_index ws j) t (first_word g fs ws j fine) h) i f is k p e c

-- One entry ----------------------------------------------------------------------------------------
module _ (n : ℕ) where
  -- an entry is put in its place, and the others stay
  set_same : (t : List ℕ) (i v : ℕ) → length t ≡ n → i < n → slice_index (slice_set t i v) i ≡ v
  set_same t i v long lt = get_or-set_same t i v 0 (omega (arith, long, lt))

  set_long : (t : List ℕ) (i v : ℕ) → length t ≡ n → length (slice_set t i v) ≡ n
  set_long t i v long = length-set t i v ∙ long

module _ (subs : List ℕ → List ℕ) (ats : ℕ → ℕ) where
  -- Addresses --------------------------------------------------------------------------------------
  module _ (n : ℕ) (small : (b : ℕ) → b < n → ats b < 18446744073709551616) where
    abbrev pub IsAt : ℕ → List ℕ → Type 0
    IsAt c t = (length t ≡ n) × (c < n) × (slice_index t c ≡ ats c)

    address_set : (c b v : ℕ) (t : List ℕ) → (c ≡ b → v ≡ ats c) → length t ≡ n → c < n → (c ≡ b) ⊎ (slice_index t c ≡ ats c) → IsAt c (slice_set t b v)
    address_set c b v t is long lt before = elim (cases_eq c b) [
      | inl e ↦ (set_long n t b v long, lt, subst (λ x. slice_index (slice_set t x v) c ≡ ats c) e (set_same n t c v long lt ∙ is e))
      | inr ne ↦ (set_long n t b v long, lt, get_or-set_other t b c v 0 ne ∙ (elim before [ inl e ↦ absurd (ne e) | inr h ↦ h ]))
    ]

    scaled : (c b k align : ℕ) → k * align ≡ ats b → c < n → c ≡ b → k * align % 18446744073709551616 ≡ ats c
    scaled c b k align is lt e =
        let s = small c lt in
        ap (λ x. x % 18446744073709551616) (is ∙ ap ats (sym e)) ∙ mod-eq_of_lt s

    address_kept : (c : ℕ) (kind : Kind) (first k l : ℕ) (t : List ℕ) → HoldsKind subs ats k l kind → IsAt c t → IsAt c (put_entry t (entry Addresses [] first k l kind))
    address_kept c (Const x) first k l t holds h = h
    address_kept c (Bits own a) first k l t holds h = h
    address_kept c (Word own j) first k l t holds h = h
    address_kept c (Pointer align b) first k l t holds h = address_set c b (k * align % 18446744073709551616) t (scaled c b k align holds h.1) h.0 h.1 (inr h.2)

    pub address_step : (c w : ℕ) (p : Part) (t : List ℕ) → PartHolds subs ats w p → IsAt c t → IsAt c (put_part Addresses [] w t p)
    address_step c w p t holds h = address_kept c p.kind (slice_index t 0) (take_of w p.o p.l) p.l t holds h

    long_kept : (kind : Kind) (first k l : ℕ) (t : List ℕ) → length t ≡ n → length (put_entry t (entry Addresses [] first k l kind)) ≡ n
    long_kept (Const x) first k l t h = h
    long_kept (Bits own a) first k l t h = h
    long_kept (Word own j) first k l t h = h
    long_kept (Pointer align b) first k l t h = set_long n t b (k * align % 18446744073709551616) h

    pub long_step : (w : ℕ) (p : Part) (t : List ℕ) → PartHolds subs ats w p → length t ≡ n → length (put_part Addresses [] w t p) ≡ n
    long_step w p t holds h = long_kept p.kind (slice_index t 0) (take_of w p.o p.l) p.l t h

    abbrev pub PointsAt : ℕ → Part → Type 0
    PointsAt c p = (align : ℕ) × (p.kind ≡ Pointer align c)

    pub address_make : (c w : ℕ) (p : Part) (t : List ℕ) → c < n → PartHolds subs ats w p → PointsAt c p → length t ≡ n → IsAt c (put_part Addresses [] w t p)
    address_make c w p t lt holds (align, is) long =
        let k = take_of w p.o p.l in
        let h : k * align ≡ ats c = subst (λ (x : Kind). HoldsKind subs ats k p.l x) is holds in
        subst (λ (x : Kind). IsAt c (put_entry t (entry Addresses [] (slice_index t 0) k p.l x))) (sym is)
        (address_set c c (k * align % 18446744073709551616) t (scaled c c k align h lt) long lt (inl refl))
