-- The words of the fields of a leaf, gathered from its parts: each part holds what is due in them.
use Rattle.std.proofs.Common.{◌≡◌, ℕ, zero, suc, ◌+◌, ◌-◌, ◌*◌, ◌/◌, ◌%◌, ◌^◌, ◌<◌, ◌≤◌, nat_lt, inl, inr, Bool, true, false, List, [], ◌∷◌, length, Option, Some, None, refl, sym, subst, ap, ◌∙◌, arith}
use Rattle.std.specs.Prelude.{slice_get, slice_index, if◌then◌else◌}
use Rattle.std.specs.Int.{bit_at}
use Rattle.std.proofs.lemmas.Grind.{common_steps}
use Rattle.std.proofs.lemmas.Nat.{pow-add}
use Rattle.std.proofs.lemmas.Nat.Bits.{bit_at-suc, bit_at_lowest, same_from_bits_below}
use Rattle.std.proofs.lemmas.Option.{slice_get_within, get_or_from_slice_get}
use Rattle.rb_core.specs.declared.program.Program.{Program}
use Rattle.rb_core.specs.declared.types.Ty.{Ty}
use Rattle.rb_core.specs.declared.types.Ty.TheVariants.{Int, Named}
use Rattle.rb_core.specs.TypedPrograms.{IsTyped}
use Rattle.rb_core.specs.WellNumbered.{is_type}
use Rattle.rb_bits.specs.Words.{take_of}
use Rattle.rb_bits.proofs.WordLemmas.{bit_at_take, take_fits}
use Rattle.rb_layout.specs.A6 as A6
use Rattle.rb_layout.specs.A6.{holds_unit, times_held}
use Rattle.rb_layout.specs.Agreement.{Agrees}
use Rattle.rb_layout.specs.Flattening.{flat_layouts, shape_in, shape_of, type_at}
use Rattle.rb_layout.specs.Positions.{Open, layout_of, open_positions}
use Rattle.rb_layout.specs.Words.{words_in, words_of_block, flat_at}
use Rattle.rb_layout.specs.declared.layout.Block.{Block}
use Rattle.rb_layout.specs.declared.layout.FlatWord.{FlatWord}
use Rattle.rb_layout.specs.declared.layout.Kind.{Kind}
use Rattle.rb_layout.specs.declared.layout.Kind.TheVariants.{Const, Bits, Word, Pointer}
use Rattle.rb_layout.specs.declared.layout.Layout.{Layout}
use Rattle.rb_layout.specs.declared.layout.Leaf.{Leaf}
use Rattle.rb_layout.specs.declared.layout.Part.{Part}
use Rattle.rb_layout.specs.declared.layout.WordRef.{WordRef}
use Rattle.rb_layout.proofs.OpenPositions.{type-open}
use Rattle.rb_rel.specs.Relation.{HoldsKind, shape_length, word_count}
use Rattle.rb_rel.proofs.Agreeing.{lawful}
use Rattle.rb_rel.proofs.Declared.{declared}
use Rattle.rb_rel.proofs.Existence.{has_layout}
use Rattle.rb_rel.proofs.Fitting.{KindFits, WordFits}
use Rattle.rb_rel.proofs.Layers.{Sound, sound}
use Rattle.rb_rel.proofs.Lists.{get-mapped}
use Rattle.rb_rel.proofs.Widths.{positions_typed}
use Rattle.rb_image_text.specs.declared.image.ImageBlock.{ImageBlock}
use Rattle.rb_image.specs.declared.kept.Kept.{Kept}
use Rattle.rb_image.specs.Integers.{bit_in, field_bit, number_of_bits}
use Rattle.rb_image.specs.Orders.{LocatedPart, order_of}
use Rattle.rb_image.specs.Parts.{bits_at, field_word, field_words, is_field_word}
use Rattle.rb_image.proofs.ExaminedParts.{FineKind, IsFine}
use Rattle.rb_image.proofs.FoundWords.{numbers}
use Rattle.rb_image.proofs.HeldOnce.{bits_hold, word_holds, held_once, AreOne, HeldAt}
use Rattle.rb_image.proofs.PlacedSpots.{spot_of, order_spots, part_in_order}
use Rattle.rb_image.proofs.SpotLemmas.{In}

-- Numbers by bits ----------------------------------------------------------------------------
pub numbered_fits : (n : ℕ) (f : ℕ → ℕ) → ((i : ℕ) → f i < 2) → number_of_bits n f < 2 ^ n
numbered_fits zero f small = let z : 2 ^ 0 ≡ 1 = refl in omega (arith, z)
numbered_fits (suc n) f small =
    let rest = numbered_fits n (λ i. f (suc i)) (λ i. small (suc i)) in
    let first = small 0 in
    let p : 2 ^ (suc n) ≡ 2 * 2 ^ n = omega (arith, pow-add 2 1 n) in
    omega (arith, rest, first, p)

pub numbered_bit : (n : ℕ) (f : ℕ → ℕ) → ((i : ℕ) → f i < 2) → (i : ℕ) → i < n → bit_at (number_of_bits n f) i ≡ f i
numbered_bit zero f small i lt = absurd (omega (arith, lt))
numbered_bit (suc n) f small zero lt =
    let first = small 0 in
    let low : (f 0 + 2 * number_of_bits n (λ i. f (suc i))) % 2 ≡ f 0 = omega (arith, first) in
    bit_at_lowest (f 0 + 2 * number_of_bits n (λ i. f (suc i))) ∙ low
numbered_bit (suc n) f small (suc i) lt =
    let first = small 0 in
    let r = number_of_bits n (λ i. f (suc i)) in
    let half : (f 0 + 2 * r) / 2 ≡ r = omega (arith, first) in
    bit_at-suc (f 0 + 2 * r) i ∙ ap (λ k. bit_at k i) half ∙ numbered_bit n (λ i. f (suc i)) (λ i. small (suc i)) i (omega (arith, lt))

-- Words of fields ----------------------------------------------------------------------------
module _ (word : List ℕ → ℕ → Kept) (path : List ℕ) where
  pub words_long : (i n : ℕ) → length (field_words word path i n) ≡ n
  words_long i zero = refl
  words_long i (suc n) = ap suc (words_long (i + 1) n)

  pub words_at : (i n j : ℕ) → j < n → slice_get (field_words word path i n) j ≡ Some (word path (i + j))
  words_at i zero j lt = absurd (omega (arith, lt))
  words_at i (suc n) zero lt = let z : i ≡ i + 0 = omega arith in ap (λ k. Some (word path k)) z
  words_at i (suc n) (suc j) lt = let z : i + 1 + j ≡ i + suc j = omega arith in words_at (i + 1) n j (omega (arith, lt)) ∙ ap (λ k. Some (word path k)) z

  pub word_number : (n j : ℕ) → j < n → slice_index (numbers (field_words word path 0 n)) j ≡ (word path j).number
  word_number n j lt =
      let z : 0 + j ≡ j = omega arith in
      let at = words_at 0 n j lt ∙ ap (λ k. Some (word path k)) z in
      get_or_from_slice_get (numbers (field_words word path 0 n)) j (word path j).number 0 (get-mapped (λ (w : Kept). w.number) (field_words word path 0 n) j (word path j) at)

-- The first part that holds a unit -----------------------------------------------------------
bit_small : (v i : ℕ) (kind : Kind) → bit_in v i kind < 2
bit_small v i (Const c) = omega arith
bit_small v i (Bits path a) = omega arith
bit_small v i (Word path j) = omega arith
bit_small v i (Pointer align b) = omega arith

if_small : (t : Bool) (a b : ℕ) → a < 2 → b < 2 → (if t then a else b) < 2
if_small true a b x y = x
if_small false a b x y = y

pub field_bit_small : (value : LocatedPart → ℕ) (ty : Ty) (ss : List LocatedPart) (path : List ℕ) (i : ℕ) → field_bit value ty ss path i < 2
field_bit_small value ty [] path i = omega arith
field_bit_small value ty (s ∷ ss) path i =
    if_small (holds_unit ty path i s.part.l s.part.kind) (bit_in (value s) i s.part.kind) (field_bit value ty ss path i) (bit_small (value s) i s.part.kind) (field_bit_small value ty ss path i)

module _ (value : LocatedPart → ℕ) (ty : Ty) (path : List ℕ) (i : ℕ) where
  abbrev test : LocatedPart → Bool
  test s = holds_unit ty path i s.part.l s.part.kind

  record FirstBit (ss : List LocatedPart) : Type 0 where
    pub spot : LocatedPart
    pub there : In spot ss
    pub holds : test spot ≡ true
    pub is : field_bit value ty ss path i ≡ bit_in (value spot) i spot.part.kind

  first_bit : (ss : List LocatedPart) (s : LocatedPart) → In s ss → test s ≡ true → FirstBit ss
  first_bit [] s h e = absurd h
  first_bit (x ∷ ss) s h e = go (λ g. first_bit ss s g e) (test x) refl
    where
      go : (In s ss → FirstBit ss) → (b : Bool) → test x ≡ b → FirstBit (x ∷ ss)
      go more true is = record { spot = x; there = inl refl; holds = is; is = ap (λ t. if t then bit_in (value x) i x.part.kind else field_bit value ty ss path i) is }
      go more false is = elim h [
        | inl same ↦ absurd (let z = sym is ∙ ap test (sym same) ∙ e in cc)
        | inr g ↦
            let r = more g in
            record { spot = r.spot; there = inr r.there; holds = r.holds; is = ap (λ t. if t then bit_in (value x) i x.part.kind else field_bit value ty ss path i) is ∙ r.is }
      ]

module _ (m : List ImageBlock) (ws : List Kept) (ats : List ℕ) (path : List ℕ) (j : ℕ) where
  record FirstWord (ss : List LocatedPart) : Type 0 where
    pub spot : LocatedPart
    pub there : In spot ss
    pub holds : is_field_word spot.part.kind path j ≡ true
    pub is : field_word m ws ats ss path j ≡ bits_at m ws ats spot

  first_word : (ss : List LocatedPart) (s : LocatedPart) → In s ss → is_field_word s.part.kind path j ≡ true → FirstWord ss
  first_word [] s h e = absurd h
  first_word (x ∷ ss) s h e = go (λ g. first_word ss s g e) (is_field_word x.part.kind path j) refl
    where
      go : (In s ss → FirstWord ss) → (b : Bool) → is_field_word x.part.kind path j ≡ b → FirstWord (x ∷ ss)
      go more true is = record { spot = x; there = inl refl; holds = is; is = ap (λ t. if t then bits_at m ws ats x else field_word m ws ats ss path j) is }
      go more false is = elim h [
        | inl same ↦ absurd (let z = sym is ∙ ap (λ (y : LocatedPart). is_field_word y.part.kind path j) (sym same) ∙ e in cc)
        | inr g ↦
            let r = more g in
            record { spot = r.spot; there = inr r.there; holds = r.holds; is = ap (λ t. if t then bits_at m ws ats x else field_word m ws ats ss path j) is ∙ r.is }
      ]

-- a part holds a word as rule A6 says
unit_holds : (s : ℕ) (path : List ℕ) (j l : ℕ) (kind : Kind) → is_field_word kind path j ≡ holds_unit (Named s) path j l kind
unit_holds s path j l (Const c) = refl
unit_holds s path j l (Bits own a) = refl
unit_holds s path j l (Word own i) = refl
unit_holds s path j l (Pointer align b) = refl

lt_is : (a b : ℕ) → nat_lt a b ≡ true → a < b
lt_is a b e = grind (arith, common_steps)

-- The fields of a leaf -----------------------------------------------------------------------
module _ (p : Program) (typed : IsTyped p) (agrees : Agrees p) where
  -- a declared type has as many words as its shape
  pub count_is : (s : ℕ) → s < length p.types → word_count (flat_layouts p) (Named s) ≡ length (shape_of p.layouts s)
  count_is s lt =
      let l = has_layout p typed agrees s lt in
      let d = declared p agrees.a1 s l.0 l.1 in
      ap shape_length l.1 ∙ ap (λ (x : Layout). length x.shape) d.is_flat ∙ ap (λ x. length (shape_in x)) (sym d.is_declared)

  module _ (t : ℕ) (layout : Layout) (n : ℕ) (leaf : Leaf) (is_layout : layout_of (flat_layouts p) t ≡ Some layout) (is_number : slice_get layout.leaves n ≡ Some leaf) where
    abbrev pub opens : List Open
    opens = open_positions p.types leaf.prov

    ok : Sound p agrees leaf
    ok = sound p agrees t layout n leaf typed is_layout is_number

    pub word_fits : (r : WordRef) (f : FlatWord) → flat_at leaf r ≡ Some f → WordFits p.layouts opens f
    word_fits r f e = go r.block r.word e
      where
        inner : (b j : ℕ) (o : Option Block) → slice_get leaf.blocks b ≡ o → slice_get (words_of_block o) j ≡ Some f → WordFits p.layouts opens f
        inner b j None x h = absurd cc
        inner b j (Some block) x h = ok.inner b block x j f h

        go : (o : Option ℕ) (j : ℕ) → slice_get (words_in leaf o) j ≡ Some f → WordFits p.layouts opens f
        go None j h = ok.root j f h
        go (Some b) j h = inner b j (slice_get leaf.blocks b) refl h

    pub low : (r : WordRef) (f : FlatWord) (k : ℕ) (q : Part) → flat_at leaf r ≡ Some f → slice_get f.parts k ≡ Some q → q.o < f.width
    low r f k q e at = let w = word_fits r f e in let some = w.some k q at in let inside = w.tidy.inside k q at in omega (arith, some, inside)

    -- a declared type at an open position
    pub named_small : (path : List ℕ) (s : ℕ) → type_at opens path ≡ Some (Named s) → s < length p.types
    named_small path s e =
        let o = type-open opens path (Named s) e in
        let root = (lawful p agrees typed).provenances.root t layout n leaf is_layout is_number in
        lt_is s (length p.types) (ap (is_type p.types) (sym o.4) ∙ positions_typed p.types typed.numbered.types leaf.prov t root o.0 o.1 o.2)

    few : (path : List ℕ) (ty : Ty) (i : ℕ) → type_at opens path ≡ Some ty → i < A6.units_of p ty → times_held leaf ty path i ≤ 1
    few path ty i e lt =
        let o = type-open opens path ty e in
        let one = (agrees.a6 t layout n leaf is_layout is_number).each o.0 o.1 i o.2 (subst (λ (y : Ty). i < A6.units_of p y) (sym o.4) lt) in
        let a = ap (λ (y : Ty). times_held leaf y o.1.path i) (sym o.4) in
        let b = ap (λ q. times_held leaf ty q i) (sym o.3) in
        omega (arith, one, a, b)

    module _ (r : WordRef) (f : FlatWord) (k : ℕ) (q : Part) (is_word : flat_at leaf r ≡ Some f) (is_part : slice_get f.parts k ≡ Some q) where
      abbrev spot : LocatedPart
      spot = spot_of leaf r f q

      there : In spot (order_of leaf)
      there = part_in_order leaf ok.flat low r f k q is_word is_part

      -- no other part of the order holds the unit
      only_spot : (ty : Ty) (path : List ℕ) (i : ℕ) → times_held leaf ty path i ≤ 1 → holds_unit ty path i q.l q.kind ≡ true → (s : LocatedPart) → In s (order_of leaf) → holds_unit ty path i s.part.l s.part.kind ≡ true → s ≡ spot
      only_spot ty path i one h s at g =
          let x = order_spots leaf s at in
          let a : HeldAt leaf ty path i x.ref x.word s.part = record { number = x.number; is_word = x.is_word; is_part = x.is_part; holds = g } in
          let b : HeldAt leaf ty path i r f q = record { number = k; is_word = is_word; is_part = is_part; holds = h } in
          let same : AreOne leaf ty path i one x.ref r x.word f s.part q = held_once leaf ty path i one x.ref r x.word f s.part q a b in
          x.is ∙ ap (λ (y : WordRef). spot_of leaf y x.word s.part) same.ref ∙ ap (λ (y : FlatWord). spot_of leaf r y s.part) same.word ∙ ap (λ (y : Part). spot_of leaf r f y) same.part

      module _ (m : List ImageBlock) (ws : List Kept) (ats : List ℕ) where
        abbrev value : LocatedPart → ℕ
        value s = (bits_at m ws ats s).number

        pub bit_is : (path : List ℕ) (bits a : ℕ) → type_at opens path ≡ Some (Int bits) → q.kind ≡ Bits path a → a + q.l ≤ bits → (i : ℕ) → i < q.l
            → field_bit value (Int bits) (order_of leaf) path (a + i) ≡ bit_at (value spot) i
        bit_is path bits a is_ty kind within i lt =
            let holds = bits_hold bits path (a + i) q.l a q.kind kind (omega arith) (omega (arith, lt)) in
            let x = first_bit value (Int bits) path (a + i) (order_of leaf) spot there holds in
            let same = only_spot (Int bits) path (a + i) (few path (Int bits) (a + i) is_ty (omega (arith, within, lt))) holds x.spot x.there x.holds in
            let z : a + i - a ≡ i = omega arith in
            x.is ∙ ap (λ (s : LocatedPart). bit_in (value s) (a + i) s.part.kind) same ∙ ap (bit_in (value spot) (a + i)) kind ∙ ap (bit_at (value spot)) z

        pub word_is : (path : List ℕ) (s j : ℕ) → type_at opens path ≡ Some (Named s) → q.kind ≡ Word path j → j < length (shape_of p.layouts s)
            → field_word m ws ats (order_of leaf) path j ≡ bits_at m ws ats spot
        word_is path s j is_ty kind lt =
            let holds = word_holds s path j q.l q.kind kind in
            let x = first_word m ws ats path j (order_of leaf) spot there (unit_holds s path j q.l q.kind ∙ holds) in
            let same = only_spot (Named s) path j (few path (Named s) j is_ty lt) holds x.spot x.there (sym (unit_holds s path j x.spot.part.l x.spot.part.kind) ∙ x.holds) in
            x.is ∙ ap (bits_at m ws ats) same

    module _ (m : List ImageBlock) (ws : List Kept) (ats : List ℕ) where
      abbrev pub bits_value : LocatedPart → ℕ
      bits_value s = (bits_at m ws ats s).number

      abbrev pub subs_at : Option Ty → List ℕ → List ℕ
      subs_at None path = []
      subs_at (Some (Int bits)) path = number_of_bits bits (field_bit bits_value (Int bits) (order_of leaf) path) ∷ []
      subs_at (Some (Named s)) path = numbers (field_words (field_word m ws ats (order_of leaf)) path 0 (word_count (flat_layouts p) (Named s)))

      -- the words at a path
      abbrev pub subs : List ℕ → List ℕ
      subs path = subs_at (type_at opens path) path

      module _ (r : WordRef) (f : FlatWord) (k : ℕ) (q : Part) (is_word : flat_at leaf r ≡ Some f) (is_part : slice_get f.parts k ≡ Some q) where
        abbrev here : LocatedPart
        here = spot_of leaf r f q

        small : bits_value here < 2 ^ q.l
        small = take_fits _ q.o q.l

        slice_held : (path : List ℕ) (bits a : ℕ) → type_at opens path ≡ Some (Int bits) → q.kind ≡ Bits path a → a + q.l ≤ bits → bits_value here ≡ take_of (slice_index (subs path) 0) a q.l
        slice_held path bits a is_ty kind within =
            let bit = field_bit bits_value (Int bits) (order_of leaf) path in
            let n = number_of_bits bits bit in
            let is : slice_index (subs path) 0 ≡ n = ap (λ o. slice_index (subs_at o path) 0) is_ty in
            same_from_bits_below q.l (bits_value here) (take_of n a q.l) small (take_fits n a q.l) (λ i lt.
            sym (bit_is r f k q is_word is_part m ws ats path bits a is_ty kind within i lt)
            ∙ sym (numbered_bit bits bit (field_bit_small bits_value (Int bits) (order_of leaf) path) (a + i) (omega (arith, lt, within))) ∙ sym (bit_at_take n a q.l i lt))
            ∙ ap (λ x. take_of x a q.l) (sym is)

        pub word_held : (path : List ℕ) (s j : ℕ) → type_at opens path ≡ Some (Named s) → q.kind ≡ Word path j → j < length (shape_of p.layouts s) → slice_index (subs path) j ≡ bits_value here
        word_held path s j is_ty kind lt =
            let count = count_is s (named_small path s is_ty) in
            ap (λ o. slice_index (subs_at o path) j) is_ty
            ∙ word_number (field_word m ws ats (order_of leaf)) path (word_count (flat_layouts p) (Named s)) j (omega (arith, lt, count))
            ∙ ap (λ (w : Kept). w.number) (word_is r f k q is_word is_part m ws ats path s j is_ty kind lt)

        kind_holds : (kind : Kind) → q.kind ≡ kind → KindFits p.layouts opens q.l kind → FineKind m leaf ws ats (bits_at m ws ats here) kind → HoldsKind subs (slice_index ats) (bits_value here) q.l kind
        kind_holds (Const c) e fits fine = fine
        kind_holds (Bits path a) e fits fine = slice_held path fits.0 a fits.1 e fits.2
        kind_holds (Word path j) e fits fine = sym (word_held path fits.0 j fits.1 e (slice_get_within (shape_of p.layouts fits.0) j q.l fits.2))
        kind_holds (Pointer align b) e fits fine = fine.0

        -- a part that was examined holds
        pub part_holds : IsFine m leaf ws ats here → HoldsKind subs (slice_index ats) (bits_value here) q.l q.kind
        part_holds fine = kind_holds q.kind refl ((word_fits r f is_word).kinds k q is_part) fine
