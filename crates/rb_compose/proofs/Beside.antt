-- Parts that stand in their places, set beside one another, are packed as parts that are put are.
use Rattle.std.proofs.Common.{◌≡◌, ℕ, suc, ◌+◌, ◌-◌, ◌*◌, ◌/◌, ◌%◌, ◌^◌, ◌<◌, ◌≤◌, ◌⊎◌, ◌==◌, inl, inr, Bool, true, false, List, [], ◌∷◌, Option, Some, None, refl, sym, subst, ap, ◌∙◌, arith}
use Rattle.std.specs.Prelude.{bit_or, slice_get, if◌then◌else◌}
use Rattle.std.specs.Int.{bit_at}
use Rattle.std.proofs.lemmas.Bool.{cases_lt}
use Rattle.std.proofs.lemmas.Grind.{common_steps}
use Rattle.std.proofs.lemmas.Option.{same_Some}
use Rattle.std.proofs.lemmas.Nat.{pow_pos}
use Rattle.std.proofs.lemmas.Nat.Bits.{bit_at-zero, bit_at_or, bit_at_above, bit_at_cat_low, bit_at_cat_high, same_from_bits}
use Rattle.std.proofs.Math.Nat.{mod-eq_of_lt}
use Rattle.rb_bits.specs.Words.{AreDisjoint, put_of, take_of}
use Rattle.rb_bits.proofs.WordLemmas.{bit_at_put_inside, bit_at_put_outside, bit_at_take, take_fits, take_put_elsewhere}
use Rattle.rb_layout.specs.declared.layout.Part.{Part}
use Rattle.rb_layout.specs.declared.layout.Kind.{Kind}
use Rattle.rb_layout.specs.declared.layout.Kind.TheVariants.{Const, Bits, Word, Pointer}
use Rattle.rb_fragment.specs.Reads.{is_range}
use Rattle.rb_rel.proofs.Packing.{packed, put_below}
use Rattle.rb_rel.specs.Storing.{number_of}
use Rattle.rb_compose.specs.declared.subvalue.Subvalue.{Subvalue}
use Rattle.rb_compose.specs.Counts.{capped_bits}
use Rattle.rb_compose.specs.inner.Code.{after_constants, constants, is_constant, is_low, is_ready, low_bit, with_constant}
use Rattle.rb_compose.proofs.Numbers.{AreRanges, IsPut, composed, constants_small, other_kind, others, put_is, turned, with_kind}
use Rattle.rb_compose.proofs.Skipping.{Each, each_after}

zero_over : (n : ℕ) → 0 / n ≡ 0
zero_over n = grind (arith, common_steps)

zero_taken : (o l : ℕ) → take_of 0 o l ≡ 0
zero_taken o l = let p = pow_pos l in ap (λ i. i % 2 ^ l) (zero_over (2 ^ o)) ∙ mod-eq_of_lt (omega (arith, p))

-- A number beside another one, whose bits are 0 there ----------------------------------------------

module _ (n o l x : ℕ) (fits : x < 2 ^ l) (free : take_of n o l ≡ 0) where
  alone : x * 2 ^ o ≡ x * 2 ^ o + 0
  alone = omega arith

  bit_below : (i : ℕ) → i < o → bit_at (x * 2 ^ o) i ≡ 0
  bit_below i lt = ap (λ k. bit_at k i) alone ∙ bit_at_cat_low x o 0 i lt ∙ bit_at-zero i

  bit_from : (i : ℕ) → o ≤ i → bit_at (x * 2 ^ o) i ≡ bit_at x (i - o)
  bit_from i le = ap (λ k. bit_at k i) alone ∙ bit_at_cat_high x o 0 i (pow_pos o) le

  bit_free : (i : ℕ) → o ≤ i → i < o + l → bit_at n i ≡ 0
  bit_free i le lt =
      let e : o + (i - o) ≡ i = omega (arith, le) in
      ap (bit_at n) (sym e) ∙ sym (bit_at_take n o l (i - o) (omega (arith, le, lt))) ∙ ap (λ k. bit_at k (i - o)) free ∙ bit_at-zero (i - o)

  same_bits : (i : ℕ) → bit_at (bit_or n (x * 2 ^ o)) i ≡ bit_at (put_of n o l x) i
  same_bits i =
      let both = bit_at_or n (x * 2 ^ o) i in
      elim (cases_lt i o) [
        | inl lt ↦ omega (arith, both, bit_below i lt, bit_at_put_outside n o l x i fits (inl lt))
        | inr le ↦ elim (cases_lt i (o + l)) [
          | inl lt ↦
              let e : o + (i - o) ≡ i = omega (arith, le) in
              let put : bit_at (put_of n o l x) i ≡ bit_at x (i - o) = ap (bit_at (put_of n o l x)) (sym e) ∙ bit_at_put_inside n o l x (i - o) fits (omega (arith, le, lt)) in
              omega (arith, both, bit_from i le, bit_free i le lt, put)
          | inr past ↦ omega (arith, both, bit_from i le, bit_at_above x l (i - o) fits (omega (arith, past)), bit_at_put_outside n o l x i fits (inr past))
        ]
      ]

  pub or_is : o + l ≤ 64 → n < 2 ^ 64 → bit_or n (x * 2 ^ o) % 2 ^ 64 ≡ put_of n o l x
  or_is inside small =
      let e : bit_or n (x * 2 ^ o) ≡ put_of n o l x = same_from_bits (bit_or n (x * 2 ^ o)) (put_of n o l x) same_bits in
      ap (λ i. i % 2 ^ 64) e ∙ mod-eq_of_lt (put_below n o l x 64 inside small fits)

put_alone : (o l x : ℕ) → put_of 0 o l x ≡ x * 2 ^ o
put_alone o l x =
    let e : (0 * 2 ^ l + x) * 2 ^ o + 0 ≡ x * 2 ^ o = omega arith in
    let p = pow_pos o in
    ap (λ i. (i * 2 ^ l + x) * 2 ^ o + 0 % 2 ^ o) (zero_over (2 ^ (o + l))) ∙ ap (λ i. (0 * 2 ^ l + x) * 2 ^ o + i) (mod-eq_of_lt (omega (arith, p))) ∙ e

-- What code composes -------------------------------------------------------------------------------

constant_unready : (hs : List Subvalue) (o l : ℕ) (kind : Kind) → is_constant kind ≡ true → is_ready hs o l kind ≡ false
constant_unready hs o l (Const c) e = refl
constant_unready hs o l (Bits path a) e = absurd cc
constant_unready hs o l (Word path j) e = absurd cc
constant_unready hs o l (Pointer align x) e = absurd cc

low_other : (o : ℕ) (kind : Kind) → is_low o kind ≡ true → is_constant kind ≡ false
low_other o (Const c) e = absurd cc
low_other o (Bits path a) e = refl
low_other o (Word path j) e = refl
low_other o (Pointer align x) e = refl

-- constants leave the range of any other part as it is
constants_keep : (ps : List Part) (n b m : ℕ) → Each (λ p. (is_constant p.kind ≡ false) ⊎ AreDisjoint (capped_bits p.o) (capped_bits p.l) b m) ps → take_of (constants n ps) b m ≡ take_of n b m
constants_keep [] n b m apart = refl
constants_keep (p ∷ ps) n b m apart = constants_keep ps (with_constant n p.o p.l p.kind) b m (λ k q e. apart (suc k) q e) ∙ one p.kind (apart 0 p refl)
  where
    by : (t : Bool) (c : ℕ) → AreDisjoint (capped_bits p.o) (capped_bits p.l) b m → take_of (if t then put_of n (capped_bits p.o) (capped_bits p.l) (take_of c 0 (capped_bits p.l)) else n) b m ≡ take_of n b m
    by true c d = take_put_elsewhere n (capped_bits p.o) (capped_bits p.l) (take_of c 0 (capped_bits p.l)) b m (take_fits c 0 (capped_bits p.l)) d
    by false c d = refl

    one : (kind : Kind) → (is_constant kind ≡ false) ⊎ AreDisjoint (capped_bits p.o) (capped_bits p.l) b m → take_of (with_constant n p.o p.l kind) b m ≡ take_of n b m
    one (Const c) (inl e) = absurd cc
    one (Const c) (inr d) = by (is_range (capped_bits p.o) (capped_bits p.l)) c d
    one (Bits path a) h = refl
    one (Word path j) h = refl
    one (Pointer align x) h = refl

module _ (hs : List Subvalue) (field : List ℕ → ℕ → ℕ) (ats : ℕ → ℕ) where
  abbrev pub source_word : Kind → ℕ
  source_word (Const c) = 0
  source_word (Bits path a) = field path 0
  source_word (Word path j) = field path j
  source_word (Pointer align x) = ats x

  abbrev pub with_ready : ℕ → Part → ℕ
  with_ready n p = if is_ready hs p.o p.l p.kind then bit_or n (source_word p.kind) % 2 ^ 64 else other_kind field ats n p p.kind

  abbrev pub with_readies : ℕ → List Part → ℕ
  with_readies n [] = n
  with_readies n (p ∷ ps) = with_readies (with_ready n p) ps

  abbrev pub joined_number : ℕ → List Part → ℕ
  joined_number v [] = v
  joined_number v (p ∷ ps) = if is_ready hs p.o p.l p.kind then with_readies (bit_or v (source_word p.kind) % 2 ^ 64) ps else with_readies v (p ∷ ps)

  abbrev pub low_number : Part → List Part → Bool → ℕ
  low_number p ps t = if t then with_readies (take_of (source_word p.kind) (low_bit p.kind) (capped_bits p.l)) ps else with_readies 0 (p ∷ ps)

  abbrev pub begun_number : List Part → ℕ
  begun_number [] = 0
  begun_number (p ∷ ps) = if is_ready hs p.o p.l p.kind then joined_number (source_word p.kind) (after_constants ps) else low_number p ps (is_low p.o p.kind)

  abbrev pub composed_number : List Part → ℕ
  composed_number ps = if constants 0 ps == 0 then begun_number (after_constants ps) else with_readies (constants 0 ps) ps

  -- a word is one of a field, or it is composed
  abbrev pub word_number : Option (List ℕ × ℕ) → List Part → ℕ
  word_number None ps = composed_number ps
  word_number (Some w) ps = field w.0 w.1

  -- It is what the parts pack --------------------------------------------------------------------

  module _ (subs : List ℕ → List ℕ) (at : ℕ → ℕ) where
    -- a part that the code puts as it is, or that stands in its place as it is
    pub record IsSet (p : Part) : Type 0 where
      pub put : IsPut field ats subs at p
      pub inside : p.o + p.l ≤ 64
      pub ready : is_ready hs p.o p.l p.kind ≡ true → source_word p.kind ≡ number_of subs at p.l p.kind * 2 ^ p.o
      pub low : is_low p.o p.kind ≡ true → take_of (source_word p.kind) (low_bit p.kind) (capped_bits p.l) ≡ number_of subs at p.l p.kind * 2 ^ p.o

    abbrev value : Part → ℕ
    value p = number_of subs at p.l p.kind

    abbrev placed : ℕ → Part → ℕ
    placed n p = put_of n p.o p.l (value p)

    abbrev Free : ℕ → List Part → Type 0
    Free n ps = Each (λ p. is_constant p.kind ≡ false → take_of n p.o p.l ≡ 0) ps

    abbrev pub Apart : List Part → Type 0
    Apart ps = (j k : ℕ) (p q : Part) → j < k → slice_get ps j ≡ Some p → slice_get ps k ≡ Some q → AreDisjoint p.o p.l q.o q.l

    constant_other : (n : ℕ) (p : Part) (kind : Kind) → is_constant kind ≡ true → other_kind field ats n p kind ≡ n
    constant_other n p (Const c) e = refl
    constant_other n p (Bits path a) e = absurd cc
    constant_other n p (Word path j) e = absurd cc
    constant_other n p (Pointer align x) e = absurd cc

    other_with : (n : ℕ) (p : Part) (kind : Kind) → is_constant kind ≡ false → other_kind field ats n p kind ≡ with_kind field ats n p kind
    other_with n p (Const c) e = absurd cc
    other_with n p (Bits path a) e = refl
    other_with n p (Word path j) e = refl
    other_with n p (Pointer align x) e = refl

    constant_ready : (n : ℕ) (p : Part) → is_constant p.kind ≡ true → with_ready n p ≡ n
    constant_ready n p e =
        ap (λ t. if t then bit_or n (source_word p.kind) % 2 ^ 64 else other_kind field ats n p p.kind) (constant_unready hs p.o p.l p.kind e) ∙ constant_other n p p.kind e

    other_placed : (n : ℕ) (p : Part) → IsSet p → is_constant p.kind ≡ false → other_kind field ats n p p.kind ≡ placed n p
    other_placed n p set e = other_with n p p.kind e ∙ put_is field ats subs at n p set.put

    ready_placed : (n : ℕ) (p : Part) → IsSet p → is_constant p.kind ≡ false → take_of n p.o p.l ≡ 0 → n < 2 ^ 64 → with_ready n p ≡ placed n p
    ready_placed n p set e free small = by (is_ready hs p.o p.l p.kind) refl
      where
        by : (t : Bool) → is_ready hs p.o p.l p.kind ≡ t → (if t then bit_or n (source_word p.kind) % 2 ^ 64 else other_kind field ats n p p.kind) ≡ placed n p
        by true r = ap (λ i. bit_or n i % 2 ^ 64) (set.ready r) ∙ or_is n p.o p.l (value p) set.put.fits free set.inside small
        by false r = other_placed n p set e

    readies_others : (ps : List Part) (n : ℕ) → n < 2 ^ 64 → Each IsSet ps → Apart ps → Free n ps → with_readies n ps ≡ others field ats n ps
    readies_others [] n small set apart free = refl
    readies_others (p ∷ ps) n small set apart free =
        by (λ i lt f. readies_others ps i lt (λ k q e. set (suc k) q e) (λ j k x y lt1 e h. apart (suc j) (suc k) x y (omega (arith, lt1)) e h) f) (is_constant p.kind) refl
      where
        by : ((i : ℕ) → i < 2 ^ 64 → Free i ps → with_readies i ps ≡ others field ats i ps)
            → (t : Bool) → is_constant p.kind ≡ t → with_readies (with_ready n p) ps ≡ others field ats (other_kind field ats n p p.kind) ps
        by rest true c =
            ap (λ i. with_readies i ps) (constant_ready n p c) ∙ rest n small (λ k q e. free (suc k) q e) ∙ sym (ap (λ i. others field ats i ps) (constant_other n p p.kind c))
        by rest false c =
            let one = set 0 p refl in
            let fits = one.put.fits in
            ap (λ i. with_readies i ps) (ready_placed n p one c (free 0 p refl c) small)
            ∙ rest (placed n p) (put_below n p.o p.l (value p) 64 one.inside small fits)
            (λ k q e c1. take_put_elsewhere n p.o p.l (value p) q.o q.l fits (apart 0 (suc k) p q (omega arith) refl e) ∙ free (suc k) q e c1)
            ∙ sym (ap (λ i. others field ats i ps) (other_placed n p one c))

    -- skipped constants change nothing
    readies_after : (ps : List Part) (n : ℕ) → with_readies n (after_constants ps) ≡ with_readies n ps
    readies_after [] n = refl
    readies_after (p ∷ ps) n = by (readies_after ps n) (is_constant p.kind) refl
      where
        by : with_readies n (after_constants ps) ≡ with_readies n ps → (t : Bool) → is_constant p.kind ≡ t → with_readies n (if t then after_constants ps else p ∷ ps) ≡ with_readies (with_ready n p) ps
        by rest true c = rest ∙ ap (λ i. with_readies i ps) (sym (constant_ready n p c))
        by rest false c = refl

    joined_is : (v : ℕ) (ps : List Part) → joined_number v ps ≡ with_readies v ps
    joined_is v [] = refl
    joined_is v (p ∷ ps) = by (is_ready hs p.o p.l p.kind) refl
      where
        by : (t : Bool) → is_ready hs p.o p.l p.kind ≡ t → (if t then with_readies (bit_or v (source_word p.kind) % 2 ^ 64) ps else with_readies v (p ∷ ps)) ≡ with_readies v (p ∷ ps)
        by true r = ap (λ t. with_readies (if t then bit_or v (source_word p.kind) % 2 ^ 64 else other_kind field ats v p p.kind) ps) (sym r)
        by false r = refl

    begun_is : (ps : List Part) → Each IsSet ps → begun_number ps ≡ with_readies 0 ps
    begun_is [] set = refl
    begun_is (p ∷ ps) set = by (is_ready hs p.o p.l p.kind) refl
      where
        by : (t : Bool) → is_ready hs p.o p.l p.kind ≡ t → (if t then joined_number (source_word p.kind) (after_constants ps) else low_number p ps (is_low p.o p.kind)) ≡ with_readies 0 (p ∷ ps)
        by true r =
            let one = set 0 p refl in
            let u = source_word p.kind in
            let x = value p in
            let e : bit_or 0 u % 2 ^ 64 ≡ u =
            ap (λ i. bit_or 0 i % 2 ^ 64) (one.ready r) ∙ or_is 0 p.o p.l x one.put.fits (zero_taken p.o p.l) one.inside (omega arith) ∙ put_alone p.o p.l x ∙ sym (one.ready r) in
            joined_is u (after_constants ps) ∙ readies_after ps u ∙ ap (λ i. with_readies i ps) (sym e)
            ∙ ap (λ t. with_readies (if t then bit_or 0 u % 2 ^ 64 else other_kind field ats 0 p p.kind) ps) (sym r)
        by false r = from_low (is_low p.o p.kind) refl
          where
            from_low : (t : Bool) → is_low p.o p.kind ≡ t → low_number p ps t ≡ with_readies 0 (p ∷ ps)
            from_low true h =
                let one = set 0 p refl in
                ap (λ i. with_readies i ps) (one.low h ∙ sym (put_alone p.o p.l (value p)) ∙ sym (ready_placed 0 p one (low_other p.o p.kind h) (zero_taken p.o p.l) (omega arith)))
            from_low false h = refl

    constants_free : (ps : List Part) → Each IsSet ps → Apart ps → Free (constants 0 ps) ps
    constants_free ps set apart j q e other =
        constants_keep ps 0 q.o q.l (λ k p h. by k p h (cases_lt k j) (cases_lt j k)) ∙ zero_taken q.o q.l
      where
        as_capped : (p : Part) → IsSet p → AreDisjoint p.o p.l q.o q.l → AreDisjoint (capped_bits p.o) (capped_bits p.l) q.o q.l
        as_capped p s d = subst (λ i. AreDisjoint i (capped_bits p.l) q.o q.l) (sym s.put.first) (subst (λ i. AreDisjoint p.o i q.o q.l) (sym s.put.long) d)

        by : (k : ℕ) (p : Part) → slice_get ps k ≡ Some p → (k < j) ⊎ (j ≤ k) → (j < k) ⊎ (k ≤ j) → (is_constant p.kind ≡ false) ⊎ AreDisjoint (capped_bits p.o) (capped_bits p.l) q.o q.l
        by k p h (inl lt) b = inr (as_capped p (set k p h) (apart k j p q lt h e))
        by k p h (inr le) (inl lt) = inr (as_capped p (set k p h) (turned q.o q.l p.o p.l (apart j k q p lt e h)))
        by k p h (inr le) (inr le1) =
            let same : k ≡ j = omega (arith, le, le1) in
            let is : q ≡ p = same_Some q p (sym e ∙ ap (slice_get ps) (sym same) ∙ h) in
            inl (subst (λ (x : Part). is_constant x.kind ≡ false) is other)

    pub composed_is : (ps : List Part) → AreRanges field ats ps → Each IsSet ps → Apart ps → composed_number ps ≡ packed subs at ps
    composed_is ps ranges set apart =
        begun_or (constants 0 ps == 0) refl
        ∙ readies_others ps (constants 0 ps) (constants_small ps 0 (omega arith)) set apart (constants_free ps set apart)
        ∙ composed field ats subs at ps ranges (λ k p e. (set k p e).put) apart
      where
        begun_or : (t : Bool) → (constants 0 ps == 0) ≡ t → (if t then begun_number (after_constants ps) else with_readies (constants 0 ps) ps) ≡ with_readies (constants 0 ps) ps
        begun_or true e =
            let none : 0 ≡ constants 0 ps = grind (arith, common_steps) in
            begun_is (after_constants ps) (each_after IsSet ps set) ∙ readies_after ps 0 ∙ ap (λ i. with_readies i ps) none
        begun_or false e = refl
