-- Pointers lead down: the places below a place lie lower, but for those that it holds in its root words.
use Rattle.std.proofs.Common.{◌≡◌, ℕ, zero, suc, ◌+◌, ◌*◌, ◌/◌, ◌^◌, ◌<◌, ◌≤◌, ◌==◌, ◌&&◌, ◌||◌, ◌⊎◌, inl, inr, nat_lt, Bool, true, false, List, [], ◌∷◌, replicate, Option, Some, None, Result, Ok, Err, refl, sym, subst, ap, ◌∙◌, arith}
use Rattle.std.specs.Prelude.{slice_get, slice_index, slice_set, if◌then◌else◌, unwrap_or}
use Rattle.std.proofs.lemmas.Bool.{and_parts}
use Rattle.std.proofs.lemmas.Option.{same_Some}
use Rattle.std.proofs.lemmas.Nat.{shr_le, div-add-mod'}
use Rattle.std.proofs.lemmas.Grind.{common_steps}
use Rattle.rb_bits.specs.Words.{take_of}
use Rattle.rb_layout.specs.declared.layout.Leaf.{Leaf}
use Rattle.rb_layout.specs.declared.layout.Kind.{Kind}
use Rattle.rb_layout.specs.declared.layout.Kind.TheVariants.{Const, Bits, Word, Pointer}
use Rattle.rb_layout.specs.Flattening.{same_path}
use Rattle.rb_rel.proofs.Holding.{path_is}
use Rattle.rb_image_text.specs.declared.fault.ImageFault.{ImageFault}
use Rattle.rb_image_text.specs.declared.fault.ImageFault.TheVariants.{BadPointer}
use Rattle.rb_image_text.specs.declared.image.ImageBlock.{ImageBlock}
use Rattle.rb_image.specs.declared.kept.Kept.{Kept}
use Rattle.rb_image.specs.Blocks.{block_at, size_at, size_in, word_in, block_word}
use Rattle.rb_image.specs.Orders.{LocatedPart}
use Rattle.rb_image.specs.Parts.{block_from, block_size, bits_at, examine, examine_kind, examine_part, field_word, field_words, pointer_lead, is_field_word, if_size, kept_at}
use Rattle.rb_image.specs.Splits.{and_then, nothing, or_fault, pointed_from, range_of, word_at}
use Rattle.rb_image.proofs.SpotLemmas.{In}

-- Results and tests --------------------------------------------------------------------------
pub same_Ok : {A : Type 0} (x y : A) → ◌≡◌ {A = Result A ImageFault} (Ok x) (Ok y) → x ≡ y
same_Ok x y e = cc

or_fault_ok : {A : Type 0} (o : Option A) (f : ImageFault) (x : A) → or_fault o f ≡ Ok x → o ≡ Some x
or_fault_ok None f x e = absurd cc
or_fault_ok (Some y) f x e = ap Some (same_Ok y x e)

chosen : {A : Type 0} (b : Bool) (x y : A) → (if b then Some x else None) ≡ Some y → (b ≡ true) × (x ≡ y)
chosen true x y e = (refl, same_Some x y e)
chosen false x y e = absurd cc

lt_is : (a b : ℕ) → nat_lt a b ≡ true → a < b
lt_is a b e = grind (arith, common_steps)

same_nat : (a b : ℕ) → (a == b) ≡ true → a ≡ b
same_nat a b e = grind (arith, common_steps)

one_of : (a b : Bool) → (a || b) ≡ true → (a ≡ true) ⊎ (b ≡ true)
one_of true b e = inl refl
one_of false b e = inr e

-- a part among others that is of a root word, and holds word j of the field at a path
pub record RootPart (ss : List LocatedPart) (path : List ℕ) (j : ℕ) : Type 0 where
  pub spot : LocatedPart
  pub is_spot : In spot ss
  pub at_root : spot.block ≡ None
  pub is_kind : spot.part.kind ≡ Word path j

-- Words --------------------------------------------------------------------------------------
-- a word whose pointers lead at most so high
abbrev pub IsUnder : ℕ → Kept → Type 0
IsUnder high w = 1 ≤ w.number → (w.base ≤ high) × (w.base ≡ 0 → 18446744073709551616 ≤ high)

-- a word that is kept in a block below
abbrev pub IsBelow : ℕ → Kept → Type 0
IsBelow high w = 1 ≤ w.number → (1 ≤ w.base) × (w.base < high)

abbrev pub AreUnder : ℕ → List Kept → Type 0
AreUnder high ws = (j : ℕ) → IsUnder high (word_at ws j)

abbrev pub AreBelow : ℕ → List Kept → Type 0
AreBelow high ws = (j : ℕ) → IsBelow high (word_at ws j)

-- addresses of blocks that are known
abbrev pub AreLow : ℕ → List ℕ → Type 0
AreLow high ats = (i : ℕ) → 1 ≤ slice_index ats i → slice_index ats i < high

take_some : (n o l : ℕ) → 1 ≤ take_of n o l → 1 ≤ n
take_some n o l some =
    let a = shr_le n o in
    let b = div-add-mod' (n / 2 ^ o) (2 ^ l) in
    omega (arith, a, b, some)

range_under : (high : ℕ) (w : Kept) (o l : ℕ) → IsUnder high w → IsUnder high (range_of w o l)
range_under high w o l h some = h (take_some w.number o l some)

range_below : (high : ℕ) (w : Kept) (o l : ℕ) → IsBelow high w → IsBelow high (range_of w o l)
range_below high w o l h some = h (take_some w.number o l some)

-- from below so high, one less is as high
pub less_high : (high : ℕ) (w : Kept) → IsBelow (suc high) w → IsUnder high w
less_high high w h some = let r = h some in (omega (arith, r.1), λ z. absurd (omega (arith, r.0, z)))

pub nothing_below : (high : ℕ) → IsBelow high nothing
nothing_below high some = absurd (omega (arith, some))

pub below_under : (high : ℕ) (w : Kept) → IsBelow high w → IsUnder high w
below_under high w h some = let r = h some in (omega (arith, r.1), λ z. absurd (omega (arith, r.0, z)))

set_low : (high : ℕ) (ats : List ℕ) (b at : ℕ) → AreLow high ats → at < high → AreLow high (slice_set ats b at)
set_low high [] b at low lt i some = low i some
set_low high (x ∷ ats) zero at low lt zero some = lt
set_low high (x ∷ ats) zero at low lt (suc i) some = low (suc i) some
set_low high (x ∷ ats) (suc b) at low lt zero some = low zero some
set_low high (x ∷ ats) (suc b) at low lt (suc i) some = set_low high ats b at (λ k. low (suc k)) lt i some

pub none_known : (high n : ℕ) → AreLow high (replicate n 0)
none_known high zero i some = absurd (omega (arith, some))
none_known high (suc n) zero some = absurd (omega (arith, some))
none_known high (suc n) (suc i) some = none_known high n i some

pub pointed_is : (base at a : ℕ) → pointed_from base at ≡ Some a → (at ≡ a) × (at < 18446744073709551616) × ((base ≡ 0) ⊎ (at < base))
pointed_is base at a e =
    let c = chosen (nat_lt at 18446744073709551616 && ((base == 0) || nat_lt at base)) at a e in
    let d = and_parts (nat_lt at 18446744073709551616) ((base == 0) || nat_lt at base) c.0 in
    (c.1, lt_is at 18446744073709551616 d.0, elim (one_of (base == 0) (nat_lt at base) d.1) [ inl z ↦ inl (same_nat base 0 z) | inr l ↦ inr (lt_is at base l) ])

some_factor : (n align at : ℕ) → n * align ≡ at → 1 ≤ at → 1 ≤ n
some_factor zero align at e some = absurd (omega (arith, e, some))
some_factor (suc n) align at e some = omega arith

module _ (m : List ImageBlock) (none : block_at m 0 ≡ None) where
  sized : (at wanted a : ℕ) (r : Option ℕ) → size_at m at ≡ r → if_size at wanted r ≡ Some a → (at ≡ a) × (1 ≤ at)
  sized at wanted a None is e = absurd cc
  sized zero wanted a (Some size) is e = absurd (let z : ◌≡◌ {A = Option ℕ} (Some size) None = sym is ∙ ap size_in none in cc)
  sized (suc at) wanted a (Some size) is e = ((chosen (size == wanted) (suc at) a e).1, omega arith)

  block_is : (o : Option ℕ) (size a : ℕ) → block_from m o size ≡ Some a → (o ≡ Some a) × (1 ≤ a)
  block_is None size a e = absurd cc
  block_is (Some at) size a e = let r = sized at size a (size_at m at) refl e in (ap Some r.0, subst (λ n. 1 ≤ n) r.0 r.1)

  word_some : (a byte width : ℕ) → 1 ≤ unwrap_or (word_in m a byte width) 0 → 1 ≤ a
  word_some zero byte width some = absurd (let z : unwrap_or (word_in m 0 byte width) 0 ≡ 0 = ap (λ b. unwrap_or (block_word b byte width) 0) none in omega (arith, some, z))
  word_some (suc a) byte width some = omega arith

  module _ (leaf : Leaf) (ws : List Kept) (high : ℕ) (under : AreUnder high ws) where
    followed_low : (bits : Kept) (align b at : ℕ) → IsUnder high bits → pointer_lead m leaf bits align b ≡ Ok at → (1 ≤ at) × (at < high)
    followed_low bits align b at h e =
        let r = block_is (pointed_from bits.base (bits.number * align)) (block_size (slice_get leaf.blocks b)) at (or_fault_ok _ (BadPointer bits.base (bits.number * align)) at e) in
        let p = pointed_is bits.base (bits.number * align) at r.0 in
        let u = h (some_factor bits.number align at p.0 r.1) in
        (r.1, elim p.2 [ inl z ↦ (let w = u.1 z in omega (arith, w, p.0, p.1)) | inr l ↦ omega (arith, l, p.0, u.0) ])

    kept_below : (ats : List ℕ) (s : LocatedPart) (b : ℕ) → AreLow high ats → IsBelow high (kept_at m ws ats (Some b) s)
    kept_below ats s b low some = let a = word_some (slice_index ats b) s.byte s.width some in (a, low b a)

    kept_under : (ats : List ℕ) (s : LocatedPart) (block : Option ℕ) → AreLow high ats → IsUnder high (kept_at m ws ats block s)
    kept_under ats s None low = under s.word
    kept_under ats s (Some b) low = below_under high (kept_at m ws ats (Some b) s) (kept_below ats s b low)

    bits_under : (ats : List ℕ) (s : LocatedPart) → AreLow high ats → IsUnder high (bits_at m ws ats s)
    bits_under ats s low = range_under high (kept_at m ws ats s.block s) s.part.o s.part.l (kept_under ats s s.block low)

    const_low : (ats new : List ℕ) (b : Bool) (f : ImageFault) → (if b then Ok ats else Err f) ≡ Ok new → AreLow high ats → AreLow high new
    const_low ats new true f e low = subst (AreLow high) (same_Ok ats new e) low
    const_low ats new false f e low = absurd cc

    set_on : (ats new : List ℕ) (b : ℕ) (r : Result ℕ ImageFault) → ((at : ℕ) → r ≡ Ok at → at < high) → and_then r (λ at. Ok (slice_set ats b at)) ≡ Ok new → AreLow high ats → AreLow high new
    set_on ats new b (Err f) lt e low = absurd cc
    set_on ats new b (Ok at) lt e low = subst (AreLow high) (same_Ok (slice_set ats b at) new e) (set_low high ats b at low (lt at refl))

    kind_low : (ats new : List ℕ) (bits : Kept) (k : Kind) → IsUnder high bits → AreLow high ats → examine_kind m leaf ats bits k ≡ Ok new → AreLow high new
    kind_low ats new bits (Bits path a) h low e = subst (AreLow high) (same_Ok ats new e) low
    kind_low ats new bits (Word path j) h low e = subst (AreLow high) (same_Ok ats new e) low
    kind_low ats new bits (Const c) h low e = const_low ats new (bits.number == c) _ e low
    kind_low ats new bits (Pointer align b) h low e = set_on ats new b (pointer_lead m leaf bits align b) (λ at is. (followed_low bits align b at h is).1) e low

    -- what an examined part leaves, and what the rest makes of it
    record Turn (ats new : List ℕ) (s : LocatedPart) (ss : List LocatedPart) : Type 0 where
      mid : List ℕ
      here : examine_part m leaf ws ats s ≡ Ok mid
      rest : examine m leaf ws mid ss ≡ Ok new

    turn_of : (new : List ℕ) (ss : List LocatedPart) (r : Result (List ℕ) ImageFault) → and_then r (λ found. examine m leaf ws found ss) ≡ Ok new → (mid : List ℕ) × (r ≡ Ok mid) × (examine m leaf ws mid ss ≡ Ok new)
    turn_of new ss (Err f) e = absurd cc
    turn_of new ss (Ok mid) e = (mid, refl, e)

    turned : (ats new : List ℕ) (s : LocatedPart) (ss : List LocatedPart) → examine m leaf ws ats (s ∷ ss) ≡ Ok new → Turn ats new s ss
    turned ats new s ss e = let r = turn_of new ss (examine_part m leaf ws ats s) e in record { mid = r.0; here = r.1; rest = r.2 }

    turn_low : (ats new : List ℕ) (s : LocatedPart) (ss : List LocatedPart) (t : Turn ats new s ss) → AreLow high ats → AreLow high t.mid
    turn_low ats new s ss t low = kind_low ats t.mid (bits_at m ws ats s) s.part.kind (bits_under ats s low) low t.here

    -- the blocks of a leaf lie lower
    pub examine_low : (ats new : List ℕ) (ss : List LocatedPart) → examine m leaf ws ats ss ≡ Ok new → AreLow high ats → AreLow high new
    examine_low ats new [] e low = subst (AreLow high) (same_Ok ats new e) low
    examine_low ats new (s ∷ ss) e low = let t = turned ats new s ss e in examine_low t.mid new ss t.rest (turn_low ats new s ss t low)

    pointer_high : (ats mid : List ℕ) (bits : Kept) (align b : ℕ) (r : Result ℕ ImageFault) → ((at : ℕ) → r ≡ Ok at → (1 ≤ at) × (at < high)) → and_then r (λ at. Ok (slice_set ats b at)) ≡ Ok mid → 1 ≤ high
    pointer_high ats mid bits align b (Err f) lt e = absurd cc
    pointer_high ats mid bits align b (Ok at) lt e = let l = lt at refl in omega (arith, l.0, l.1)

    -- where a pointer was followed, there is something below
    pub examine_high : (ats new : List ℕ) (ss : List LocatedPart) (s : LocatedPart) (align b : ℕ) → In s ss → s.part.kind ≡ Pointer align b → examine m leaf ws ats ss ≡ Ok new → AreLow high ats → 1 ≤ high
    examine_high ats new [] s align b h is e low = absurd h
    examine_high ats new (x ∷ ss) s align b (inl same) is e low =
        let t = turned ats new x ss e in
        let kind : x.part.kind ≡ Pointer align b = ap (λ (y : LocatedPart). y.part.kind) (sym same) ∙ is in
        let here : examine_kind m leaf ats (bits_at m ws ats x) (Pointer align b) ≡ Ok t.mid = subst (λ (k : Kind). examine_kind m leaf ats (bits_at m ws ats x) k ≡ Ok t.mid) kind t.here in
        pointer_high ats t.mid (bits_at m ws ats x) align b (pointer_lead m leaf (bits_at m ws ats x) align b) (λ at r. followed_low (bits_at m ws ats x) align b at (bits_under ats x low) r) here
    examine_high ats new (x ∷ ss) s align b (inr h) is e low =
        let t = turned ats new x ss e in
        examine_high t.mid new ss s align b h is t.rest (turn_low ats new x ss t low)

    module _ (ats : List ℕ) (low : AreLow high ats) where
      -- the words of fields
      field_if : (s : LocatedPart) (ss : List LocatedPart) (path : List ℕ) (j : ℕ) (b : Bool) → IsUnder high (field_word m ws ats ss path j) → IsUnder high (if b then bits_at m ws ats s else field_word m ws ats ss path j)
      field_if s ss path j true rest = bits_under ats s low
      field_if s ss path j false rest = rest

      pub field_under : (ss : List LocatedPart) (path : List ℕ) (j : ℕ) → IsUnder high (field_word m ws ats ss path j)
      field_under [] path j = below_under high nothing (nothing_below high)
      field_under (s ∷ ss) path j = field_if s ss path j (is_field_word s.part.kind path j) (field_under ss path j)

      holds_is : (k : Kind) (path : List ℕ) (j : ℕ) → is_field_word k path j ≡ true → k ≡ Word path j
      holds_is (Const c) path j e = absurd cc
      holds_is (Bits own a) path j e = absurd cc
      holds_is (Pointer align b) path j e = absurd cc
      holds_is (Word own i) path j e =
          let b = and_parts (same_path own path) (i == j) e in
          ap (λ q. Word q i) (path_is own path b.0) ∙ ap (λ n. Word path n) (same_nat i j b.1)

      root_or_below : (s : LocatedPart) (block : Option ℕ) → s.block ≡ block → (s.block ≡ None) ⊎ IsBelow high (bits_at m ws ats s)
      root_or_below s None is = inl is
      root_or_below s (Some b) is =
          inr (range_below high (kept_at m ws ats s.block s) s.part.o s.part.l
          (subst (λ o. IsBelow high (kept_at m ws ats o s)) (sym is) (kept_below ats s b low)))

      field_case : (s : LocatedPart) (ss : List LocatedPart) (path : List ℕ) (j : ℕ) (b : Bool) → is_field_word s.part.kind path j ≡ b
          → RootPart ss path j ⊎ IsBelow high (field_word m ws ats ss path j)
          → RootPart (s ∷ ss) path j ⊎ IsBelow high (if b then bits_at m ws ats s else field_word m ws ats ss path j)
      field_case s ss path j false is (inl r) = inl (record { spot = r.spot; is_spot = inr r.is_spot; at_root = r.at_root; is_kind = r.is_kind })
      field_case s ss path j false is (inr h) = inr h
      field_case s ss path j true is rest = elim (root_or_below s s.block refl) [
        | inl root ↦ inl (record { spot = s; is_spot = inl refl; at_root = root; is_kind = holds_is s.part.kind path j is })
        | inr h ↦ inr h
      ]

      pub field_below : (ss : List LocatedPart) (path : List ℕ) (j : ℕ) → RootPart ss path j ⊎ IsBelow high (field_word m ws ats ss path j)
      field_below [] path j = inr (nothing_below high)
      field_below (s ∷ ss) path j = field_case s ss path j (is_field_word s.part.kind path j) refl (field_below ss path j)

-- Lists of words -----------------------------------------------------------------------------
-- what holds of each word of a field, and of none, holds at each place
pub each_word : (P : Kept → Type 0) → P nothing → (word : List ℕ → ℕ → Kept) (path : List ℕ) → ((j : ℕ) → P (word path j)) → (i n j : ℕ) → P (word_at (field_words word path i n) j)
each_word P bare word path all i zero j = bare
each_word P bare word path all i (suc n) zero = all i
each_word P bare word path all i (suc n) (suc j) = each_word P bare word path all (i + 1) n j

-- one of them is of the one kind, or all are of the other
pub one_or_all : (X : ℕ → Type 0) (P : Kept → Type 0) → P nothing → (word : List ℕ → ℕ → Kept) (path : List ℕ) → ((j : ℕ) → X j ⊎ P (word path j))
    → (i n : ℕ) → ((j : ℕ) × X j) ⊎ ((j : ℕ) → P (word_at (field_words word path i n) j))
one_or_all X P bare word path each i zero = inr (λ j. bare)
one_or_all X P bare word path each i (suc n) = elim (each i) [
  | inl x ↦ inl (i, x)
  | inr h ↦ elim (one_or_all X P bare word path each (i + 1) n) [
    | inl x ↦ inl x
    | inr all ↦ inr (first_and h all)
  ]
]
  where
    first_and : P (word path i) → ((j : ℕ) → P (word_at (field_words word path (i + 1) n) j)) → (j : ℕ) → P (word_at (field_words word path i (suc n)) j)
    first_and h all zero = h
    first_and h all (suc j) = all j
