-- Where words represent a value in the memory of an image's blocks and pointers fall, the words that are gathered at the open
-- positions of its leaf are those of its parts.
use Rattle.std.proofs.Common.{◌≡◌, ℕ, suc, ◌+◌, ◌-◌, ◌^◌, ◌<◌, ◌≤◌, false, List, [], ◌∷◌, length, Option, Some, refl, sym, subst, ap, ◌∙◌, arith}
use Rattle.std.specs.Prelude.{slice_get, slice_index}
use Rattle.std.specs.Int.{bit_at}
use Rattle.std.proofs.lemmas.Nat.Bits.{same_from_bits_below}
use Rattle.std.proofs.lemmas.Option.{get_or_from_slice_get, slice_get_within}
use Rattle.rb_core.specs.declared.program.Program.{Program}
use Rattle.rb_core.specs.declared.types.DataDecl.{DataDecl}
use Rattle.rb_core.specs.declared.types.Ty.{Ty}
use Rattle.rb_core.specs.declared.types.Ty.TheVariants.{Int, Named}
use Rattle.rb_core.specs.declared.value.Value.{Value}
use Rattle.rb_core.specs.TypedPrograms.{IsTyped}
use Rattle.rb_bits.specs.Words.{take_of}
use Rattle.rb_bits.proofs.WordLemmas.{bit_at_take}
use Rattle.rb_bytes.specs.Memory.{Memory}
use Rattle.rb_layout.specs.A4.{IsBlockWidth}
use Rattle.rb_layout.specs.Agreement.{Agrees}
use Rattle.rb_layout.specs.Flat.{IsFlat}
use Rattle.rb_layout.specs.Flattening.{flat_layouts, type_at}
use Rattle.rb_layout.specs.Positions.{Open, open_positions}
use Rattle.rb_layout.specs.Words.{flat_at}
use Rattle.rb_layout.specs.declared.layout.Block.{Block}
use Rattle.rb_layout.specs.declared.layout.FlatWord.{FlatWord}
use Rattle.rb_layout.specs.declared.layout.Kind.{Kind}
use Rattle.rb_layout.specs.declared.layout.Kind.TheVariants.{Bits}
use Rattle.rb_layout.specs.declared.layout.Layout.{Layout}
use Rattle.rb_layout.specs.declared.layout.Leaf.{Leaf}
use Rattle.rb_layout.specs.declared.layout.WordRef.{WordRef}
use Rattle.rb_layout.proofs.OpenPositions.{position-typed}
use Rattle.rb_rel.specs.Relation.{HoldsKind, Made, Represents, word_count}
use Rattle.rb_rel.proofs.Agreeing.{lawful}
use Rattle.rb_rel.proofs.Fitting.{KindFits}
use Rattle.rb_rel.proofs.Lawful.{Holder, Lawful, units_of}
use Rattle.rb_rel.proofs.Represented.{Represents-count}
use Rattle.rb_image_text.specs.declared.image.ImageBlock.{ImageBlock}
use Rattle.rb_image.specs.declared.kept.Kept.{Kept}
use Rattle.rb_image.specs.Falling.{AreKept, HasWord, PointersFall}
use Rattle.rb_image.specs.Integers.{field_bit, number_of_bits}
use Rattle.rb_image.specs.LeafWords.{block_addresses}
use Rattle.rb_image.specs.Orders.{LocatedPart, order_of}
use Rattle.rb_image.specs.Parts.{bits_at, field_word, field_words}
use Rattle.rb_image.specs.Splits.{nothing, word_at}
use Rattle.rb_image.proofs.FallingWords.{AreKeptAs, IsKnown, kept_is}
use Rattle.rb_image.proofs.FoundWords.{numbers}
use Rattle.rb_image.proofs.GatheredFields.{bit_is, count_is, field_bit_small, low, named_small, numbered_bit, numbered_fits, word_fits, word_is, words_at, words_long}
use Rattle.rb_image.proofs.PlacedSpots.{spot_of}
use Rattle.rb_image.proofs.WholeMemories.{IsWhole}
use Rattle.rb_peek.proofs.ReachedBlocks.{blocks_reached}

same_numbers : (ks : List Kept) (ns : List ℕ) → length ks ≡ length ns → ((j n : ℕ) → slice_get ns j ≡ Some n → (word_at ks j).number ≡ n) → numbers ks ≡ ns
same_numbers [] [] long each = refl
same_numbers [] (n ∷ ns) long each = absurd (omega (arith, long))
same_numbers (k ∷ ks) [] long each = absurd (omega (arith, long))
same_numbers (k ∷ ks) (n ∷ ns) long each =
    ap (λ x. x ∷ numbers ks) (each 0 n refl) ∙ ap (λ xs. n ∷ xs) (same_numbers ks ns (omega (arith, long)) (λ j x e. each (suc j) x e))

int_same : (c d : ℕ) → ◌≡◌ {A = Option Ty} (Some (Int c)) (Some (Int d)) → c ≡ d
int_same c d e = cc

module _ (p : Program) (typed : IsTyped p) (agrees : Agrees p) (blocks : List ImageBlock) (m : Memory) (is : IsWhole blocks m) where
  abbrev types : List DataDecl
  types = p.types

  abbrev layouts : List Layout
  layouts = flat_layouts p

  abbrev law : Lawful types layouts
  law = lawful p agrees typed

  module _ (t : ℕ) (v : Value) (ws : List ℕ) (from : ℕ → ℕ) (b : Made types layouts m false t v ws) (inner : List ℕ → ℕ → ℕ)
      (falls : PointersFall b.leaf from b.ats) (are_kept : AreKept b.leaf from b.ats inner)
      (reps : (k : ℕ) (o : Open) → slice_get (open_positions types b.leaf.prov) k ≡ Some o → Represents types layouts m false o.ty (b.at o.path) (b.subs o.path))
      (xs : List Kept) (kept : AreKeptAs xs ws from) where
    abbrev leaf : Leaf
    leaf = b.leaf

    abbrev opens : List Open
    opens = open_positions types leaf.prov

    flat : IsFlat leaf
    flat = law.flat t b.layout b.number leaf b.is_layout b.is_number

    wide : (c : ℕ) (block : Block) (j : ℕ) (f : FlatWord) → slice_get leaf.blocks c ≡ Some block → slice_get block.words j ≡ Some f → IsBlockWidth f.width
    wide = (agrees.a4 t b.layout b.number leaf b.is_layout b.is_number).widths

    abbrev ats : List ℕ
    ats = block_addresses blocks leaf xs

    known : (r : WordRef) (f : FlatWord) → flat_at leaf r ≡ Some f → IsKnown b.ats ats r.block
    known = blocks_reached blocks m is leaf flat wide ws b.subs b.ats from b.placed falls xs kept (low p typed agrees t b.layout b.number leaf b.is_layout b.is_number)

    abbrev word : List ℕ → ℕ → Kept
    word = field_word blocks xs ats (order_of leaf)

    abbrev value : LocatedPart → ℕ
    value s = (bits_at blocks xs ats s).number

    module _ (k : ℕ) (o : Open) (at : slice_get opens k ≡ Some o) where
      typed_at : type_at opens o.path ≡ Some o.ty
      typed_at = position-typed types leaf.prov k o at

      -- words of a data type
      module _ (s : ℕ) (is_named : o.ty ≡ Named s) where
        is_type : type_at opens o.path ≡ Some (Named s)
        is_type = typed_at ∙ ap Some is_named

        long : length (b.subs o.path) ≡ word_count layouts (Named s)
        long = Represents-count types layouts m false (reps k o at) ∙ ap (word_count layouts) is_named

        word_kept : (j n : ℕ) → slice_get (b.subs o.path) j ≡ Some n → ((word o.path j).number ≡ n) × ((word o.path j).base ≡ inner o.path j)
        word_kept j n e =
            let lt = slice_get_within (b.subs o.path) j n e in
            let few : j < word_count layouts (Named s) = (let z = long in omega (arith, lt, z)) in
            let h : Holder leaf (Named s) o.path j = subst (λ (ty : Ty). Holder leaf ty o.path j) is_named (law.all_held t b.layout b.number leaf b.is_layout b.is_number k o j at (subst (λ (ty : Ty). j < units_of layouts ty) (sym is_named) few)) in
            let count = count_is p typed agrees s (named_small p typed agrees t b.layout b.number leaf b.is_layout b.is_number o.path s is_type) in
            let spot = spot_of leaf h.ref h.word h.part in
            let same : word o.path j ≡ bits_at blocks xs ats spot =
            word_is p typed agrees t b.layout b.number leaf b.is_layout b.is_number h.ref h.word h.number h.part h.is_word h.is_part blocks xs ats o.path s j is_type h.is_holder (omega (arith, few, count)) in
            let x = b.placed.words h.ref h.word h.is_word in
            let here = kept_is blocks m is leaf flat wide ws b.subs b.ats from b.placed falls xs kept h.ref.block h.ref.word h.word x.0 h.is_word x.1 ats (known h.ref h.word h.is_word) h.part in
            let holds : take_of x.0 h.part.o h.part.l ≡ slice_index (b.subs o.path) j =
            subst (λ (kind : Kind). HoldsKind b.subs b.ats (take_of x.0 h.part.o h.part.l) h.part.l kind) h.is_holder (x.2.parts h.number h.part h.is_part) in
            let has : HasWord leaf h.ref o.path j = record { word = h.word; number = h.number; part = h.part; is_word = h.is_word; is_part = h.is_part; is_kind = h.is_holder } in (
              ap (λ (w : Kept). w.number) same ∙ ap (λ n. take_of n h.part.o h.part.l) here.0 ∙ holds ∙ get_or_from_slice_get (b.subs o.path) j n 0 e,
              ap (λ (w : Kept). w.base) same ∙ here.1 ∙ sym (are_kept h.ref o.path j has),
            )

        abbrev pub found : List Kept
        found = field_words word o.path 0 (word_count layouts (Named s))

        -- the words of the field are kept as those of the part
        pub fields_kept : AreKeptAs found (b.subs o.path) (inner o.path)
        fields_kept j n e =
            let lt = slice_get_within (b.subs o.path) j n e in
            let z : 0 + j ≡ j = omega arith in
            let there = words_at word o.path 0 (word_count layouts (Named s)) j (let y = long in omega (arith, lt, y)) ∙ ap (λ i. Some (word o.path i)) z in
            let same : word_at found j ≡ word o.path j = get_or_from_slice_get found j (word o.path j) nothing there in
            let w = word_kept j n e in
            (ap (λ (y : Kept). y.number) same ∙ w.0, ap (λ (y : Kept). y.base) same ∙ w.1)

        -- and have its numbers
        pub fields_numbers : numbers found ≡ b.subs o.path
        fields_numbers = same_numbers found (b.subs o.path) (words_long word o.path 0 (word_count layouts (Named s)) ∙ sym long) (λ j n e. (fields_kept j n e).0)

      -- an integer
      module _ (bits : ℕ) (is_int : o.ty ≡ Int bits) (x : ℕ) (small : x < 2 ^ bits) (is_number : b.subs o.path ≡ x ∷ []) where
        is_integer_type : type_at opens o.path ≡ Some (Int bits)
        is_integer_type = typed_at ∙ ap Some is_int

        abbrev bit : ℕ → ℕ
        bit = field_bit value (Int bits) (order_of leaf) o.path

        bit_same : (i : ℕ) → i < bits → bit i ≡ bit_at x i
        bit_same i lt =
            let h : Holder leaf (Int bits) o.path i = subst (λ (ty : Ty). Holder leaf ty o.path i) is_int (law.all_held t b.layout b.number leaf b.is_layout b.is_number k o i at (subst (λ (ty : Ty). i < units_of layouts ty) (sym is_int) lt)) in
            let a = h.is_holder.0 in
            let kind : h.part.kind ≡ Bits o.path a = h.is_holder.1 in
            let fits = subst (λ (z : Kind). KindFits p.layouts opens h.part.l z) kind ((word_fits p typed agrees t b.layout b.number leaf b.is_layout b.is_number h.ref h.word h.is_word).kinds h.number h.part h.is_part) in
            let same_bits : fits.0 ≡ bits = int_same fits.0 bits (sym fits.1 ∙ is_integer_type) in
            let lo = h.is_holder.2 in
            let hi = h.is_holder.3 in
            let within : a + h.part.l ≤ bits = (let z = fits.2 in omega (arith, z, same_bits)) in
            let back : a + (i - a) ≡ i = omega (arith, lo) in
            let inside : i - a < h.part.l = omega (arith, lo, hi) in
            let spot = spot_of leaf h.ref h.word h.part in
            let one = bit_is p typed agrees t b.layout b.number leaf b.is_layout b.is_number h.ref h.word h.number h.part h.is_word h.is_part blocks xs ats o.path bits a is_integer_type kind within (i - a) inside in
            let w = b.placed.words h.ref h.word h.is_word in
            let here = kept_is blocks m is leaf flat wide ws b.subs b.ats from b.placed falls xs kept h.ref.block h.ref.word h.word w.0 h.is_word w.1 ats (known h.ref h.word h.is_word) h.part in
            let holds : take_of w.0 h.part.o h.part.l ≡ take_of (slice_index (b.subs o.path) 0) a h.part.l =
            subst (λ (z : Kind). HoldsKind b.subs b.ats (take_of w.0 h.part.o h.part.l) h.part.l z) kind (w.2.parts h.number h.part h.is_part) in
            let number : value spot ≡ take_of x a h.part.l = ap (λ n. take_of n h.part.o h.part.l) here.0 ∙ holds ∙ ap (λ ns. take_of (slice_index ns 0) a h.part.l) is_number in
            ap bit (sym back) ∙ one ∙ ap (λ n. bit_at n (i - a)) number ∙ bit_at_take x a h.part.l (i - a) inside ∙ ap (bit_at x) back

        -- the bits that are gathered are those of the part
        pub integer_is : number_of_bits bits bit ≡ x
        integer_is =
            let few = field_bit_small value (Int bits) (order_of leaf) o.path in
            same_from_bits_below bits (number_of_bits bits bit) x (numbered_fits bits bit few) small (λ i lt. numbered_bit bits bit few i lt ∙ bit_same i lt)
