-- Values without pointers: their splits pass none, and their constants stand in their words.
use Rattle.std.proofs.Common.{◌≡◌, ℕ, zero, suc, ◌+◌, ◌-◌, ◌<◌, ◌≤◌, inl, inr, false, length, List, [], ◌∷◌, Option, Some, None, Result, Ok, Err, refl, sym, subst, ap, ◌∙◌, arith}
use Rattle.std.specs.Prelude.{slice_get, slice_index, replicate, ◌==◌, if◌then◌else◌}
use Rattle.std.specs.Int.{bit_at}
use Rattle.std.proofs.lemmas.Grind.{same_number_lists}
use Rattle.std.proofs.lemmas.List.{length-map}
use Rattle.std.proofs.lemmas.Nat.Bits.{same_from_bits_below}
use Rattle.std.proofs.lemmas.Option.{same_Some}
use Rattle.rb_core.specs.declared.layout_decl.Loc.{Loc}
use Rattle.rb_core.specs.declared.layout_decl.Step.{Step}
use Rattle.rb_core.specs.declared.program.Program.{Program}
use Rattle.rb_core.specs.declared.types.Ty.{Ty}
use Rattle.rb_core.specs.declared.types.Ty.TheVariants.{Int, Named}
use Rattle.rb_core.specs.declared.value.Value.{Value}
use Rattle.rb_core.specs.TypedPrograms.{IsTyped}
use Rattle.rb_bits.specs.Words.{take_of}
use Rattle.rb_bits.proofs.WordLemmas.{bit_at_take}
use Rattle.rb_bytes.specs.Memory.{Memory, IsGood}
use Rattle.rb_layout.specs.declared.layout.Block.{Block}
use Rattle.rb_layout.specs.declared.layout.FlatWord.{FlatWord}
use Rattle.rb_layout.specs.declared.layout.Kind.{Kind}
use Rattle.rb_layout.specs.declared.layout.Kind.TheVariants.{Const, Bits, Word, Pointer}
use Rattle.rb_layout.specs.declared.layout.Leaf.{Leaf}
use Rattle.rb_layout.specs.declared.layout.Part.{Part}
use Rattle.rb_layout.specs.declared.layout.WordRef.{WordRef}
use Rattle.rb_rel.proofs.Fitting.{KindFits}
use Rattle.rb_layout.specs.A7.{MeetsTest}
use Rattle.rb_layout.specs.A9.{HasPointerPart}
use Rattle.rb_layout.specs.Agreement.{Agrees}
use Rattle.rb_layout.specs.Flat.{IsFlat}
use Rattle.rb_layout.specs.Flattening.{flat_layouts, type_at}
use Rattle.rb_layout.specs.Locations.{Reached, pointer_block, next_ref, range_in, reached_at, ref_in, resolve_from, word_beginning}
use Rattle.rb_layout.specs.Pointers.{PointsTo}
use Rattle.rb_layout.specs.Positions.{Open, open_positions}
use Rattle.rb_layout.specs.Splits.{Test, Is, IsNone}
use Rattle.rb_layout.specs.Words.{flat_at, words_of_block}
use Rattle.rb_layout.proofs.OpenPositions.{position-typed}
use Rattle.rb_rel.specs.Reading.{read_first, read_from}
use Rattle.rb_rel.specs.Relation.{PartHolds, HoldsKind, Made, Represents, word_count}
use Rattle.rb_rel.proofs.Agreeing.{lawful}
use Rattle.rb_rel.proofs.Lawful.{Holder, units_of}
use Rattle.rb_rel.proofs.Represented.{Opened, Represents-count, Represents-int, opened}
use Rattle.rb_coding.proofs.LeadLemmas.{leads_to}
use Rattle.rb_image_text.specs.declared.fault.ImageFault.{ImageFault}
use Rattle.rb_image_text.specs.declared.fault.ImageFault.TheVariants.{BadBits}
use Rattle.rb_image_text.specs.declared.image.ImageBlock.{ImageBlock}
use Rattle.rb_image.specs.declared.kept.Kept.{Kept}
use Rattle.rb_image.specs.Integers.{field_bit, number_of_bits}
use Rattle.rb_image.specs.Orders.{LocatedPart, order_of}
use Rattle.rb_image.specs.Parts.{addresses_of, bits_at, examine, examine_kind, examine_part, field_word, field_words}
use Rattle.rb_image.specs.Splits.{and_then, leaf_at, range_from, range_of, word_at}
use Rattle.rb_image.proofs.FallingSplits.{led, loc_of}
use Rattle.rb_image.proofs.FallingWords.{HasRange, same_is}
use Rattle.rb_image.proofs.GatheredFields.{bit_is, count_is, field_bit_small, named_small, numbered_bit, numbered_fits, word_fits, word_is, word_number, words_long}
use Rattle.rb_image.proofs.PlacedSpots.{IsSpot, order_spots, spot_of}
use Rattle.rb_image.proofs.SpotLemmas.{In}
use Rattle.rb_peek.specs.Rebuilds.{numbers_of}
use Rattle.rb_peek.specs.TakenApart.{AreSeen, ValuesAreSeen, open_words}
use Rattle.rb_peek.specs.Views.{from_root}
use Rattle.rb_peek.proofs.ViewLemmas.{leads_on}

same_Int : (a c : ℕ) → ◌≡◌ {A = Option Ty} (Some (Int a)) (Some (Int c)) → a ≡ c
same_Int a c e = cc

-- a word among kept ones
number_there : (xs : List Kept) (j n : ℕ) → slice_get (numbers_of xs) j ≡ Some n → (word_at xs j).number ≡ n
number_there [] j n e = absurd cc
number_there (x ∷ xs) zero n e = same_Some x.number n e
number_there (x ∷ xs) (suc j) n e = number_there xs j n e

module _ (leaf : Leaf) (none : leaf.blocks ≡ []) where
  -- Locations without steps ------------------------------------------------------------------
  no_next : (q : Option ℕ) (s : Step) → next_ref leaf q s ≡ None
  no_next None s = refl
  no_next (Some b) s = ap (λ (bs : List Block). ref_in b (word_beginning (words_of_block (slice_get bs b)) 0 s.byte s.width 0)) none

  no_steps : (r : WordRef) (o l : ℕ) (steps : List Step) (x : Reached) → resolve_from leaf (Some r) o l steps ≡ Some x → steps ≡ []
  no_steps r o l [] x e = refl
  no_steps r o l (s ∷ steps) x e =
      let nowhere : resolve_from leaf (Some r) o l (s ∷ steps) ≡ None = ap (λ q. resolve_from leaf q s.o s.l steps) (no_next (pointer_block (flat_at leaf r) o l s.align) s) in
      let z : ◌≡◌ {A = Option Reached} None (Some x) = sym nowhere ∙ e in absurd cc

  -- a location that comes to a word begins at one of the root
  in_root : (f : Option FlatWord) (r : WordRef) (o l : ℕ) (x : Reached) → range_in f r o l ≡ Some x → (g : FlatWord) × (f ≡ Some g)
  in_root None r o l x e = absurd cc
  in_root (Some g) r o l x e = (g, refl)

  -- Words ------------------------------------------------------------------------------------
  module _ (m : Memory) (ws : List Kept) (subs : List ℕ → List ℕ) (ats : ℕ → ℕ)
      (words : (j : ℕ) (f : FlatWord) → slice_get leaf.root j ≡ Some f
      → (w : ℕ) × (slice_get (numbers_of ws) j ≡ Some w) × ((k : ℕ) (q : Part) → slice_get f.parts k ≡ Some q → PartHolds subs ats w q)) where
    ranges : (loc : Loc) (x : Reached) → reached_at leaf loc ≡ Some x → HasRange [] ws (numbers_of ws) m loc
    ranges loc x e =
        let r : WordRef = record { block = None; word = loc.word } in
        let empty = no_steps r loc.o loc.l loc.steps x e in
        let f = in_root (flat_at leaf r) r loc.o loc.l x (ap (λ steps. resolve_from leaf (Some r) loc.o loc.l steps) (sym empty) ∙ e) in
        let w = words loc.word f.0 f.1 in
        let range = range_of (word_at ws loc.word) loc.o loc.l in
        let same = number_there ws loc.word w.0 w.1 in
        record {
          range = range;
          is_range = ap (range_from [] range) empty;
          is_read = ap (λ o. read_first m o loc) w.1 ∙ ap (read_from m w.0 loc.o loc.l) empty ∙ ap (λ n. Some (take_of n loc.o loc.l)) (sym same);
        }

    fine : (known : List ℕ) (bits : Kept) (l : ℕ) (kind : Kind) → ((align b : ℕ) → kind ≡ Pointer align b → ⊥) → HoldsKind subs ats bits.number l kind
        → ◌≡◌ {A = Result (List ℕ) ImageFault} (examine_kind [] leaf known bits kind) (Ok known)
    fine known bits l (Const c) free h = ap (λ t. if t then Ok known else Err (BadBits bits.base bits.place)) (ap (λ n. n == c) h ∙ same_is c)
    fine known bits l (Bits path a) free h = refl
    fine known bits l (Word path j) free h = refl
    fine known bits l (Pointer align b) free h = absurd (free align b refl)

    -- Parts ----------------------------------------------------------------------------------
    module _ (free : (r : WordRef) (l align b : ℕ) → PointsTo leaf r l align b → ⊥) where
      at_spot : (known : List ℕ) (b : Option ℕ) (j : ℕ) (f : FlatWord) (k : ℕ) (q : Part) → flat_at leaf (record { block = b; word = j }) ≡ Some f → slice_get f.parts k ≡ Some q
          → ◌≡◌ {A = Result (List ℕ) ImageFault} (examine_part [] leaf ws known (spot_of leaf (record { block = b; word = j }) f q)) (Ok known)
      at_spot known None j f k q is_word is_part =
          let r : WordRef = record { block = None; word = j } in
          let w = words j f is_word in
          let bits = bits_at [] ws known (spot_of leaf r f q) in
          let same : bits.number ≡ take_of w.0 q.o q.l = ap (λ n. take_of n q.o q.l) (number_there ws j w.0 w.1) in
          fine known bits q.l q.kind
          (λ align b e. free r q.l align b (record { word = f; number = k; part = q; is_word = is_word; is_part = is_part; is_length = refl; is_pointer = e }))
          (subst (λ n. HoldsKind subs ats n q.l q.kind) (sym same) (w.2 k q is_part))
      at_spot known (Some b) j f k q is_word is_part =
          let z : ◌≡◌ {A = Option FlatWord} None (Some f) = ap (λ (bs : List Block). slice_get (words_of_block (slice_get bs b)) j) (sym none) ∙ is_word in absurd cc

      one : (known : List ℕ) (s : LocatedPart) → IsSpot leaf s → ◌≡◌ {A = Result (List ℕ) ImageFault} (examine_part [] leaf ws known s) (Ok known)
      one known s x =
          subst (λ (y : LocatedPart). ◌≡◌ {A = Result (List ℕ) ImageFault} (examine_part [] leaf ws known y) (Ok known)) (sym x.is)
          (at_spot known x.ref.block x.ref.word x.word x.number s.part x.is_word x.is_part)

      all_fine : (known : List ℕ) (ss : List LocatedPart) → ((s : LocatedPart) → In s ss → IsSpot leaf s) → ◌≡◌ {A = Result (List ℕ) ImageFault} (examine [] leaf ws known ss) (Ok known)
      all_fine known [] spots = refl
      all_fine known (s ∷ ss) spots =
          ap (λ (r : Result (List ℕ) ImageFault). and_then r (λ found. examine [] leaf ws found ss)) (one known s (spots s (inl refl)))
          ∙ all_fine known ss (λ y h. spots y (inr h))

module _ (p : Program) (typed : IsTyped p) (agrees : Agrees p) (m : Memory) (good : IsGood m) (t : ℕ) (v : Value) (ws : List Kept)
    (free : HasPointerPart (flat_layouts p) t → ⊥) (represents : Represents p.types (flat_layouts p) m false (Named t) v (numbers_of ws)) where
  open_ : Opened p.types (flat_layouts p) m false t v (numbers_of ws)
  open_ = opened p.types (flat_layouts p) m false represents

  abbrev b : Made p.types (flat_layouts p) m false t v (numbers_of ws)
  b = open_.made

  flat : IsFlat b.leaf
  flat = (lawful p agrees typed).flat t b.layout b.number b.leaf b.is_layout b.is_number

  no_pointer : (r : WordRef) (l align c : ℕ) → PointsTo b.leaf r l align c → ⊥
  no_pointer r l align c points = free (record {
    layout = b.layout;
    number = b.number;
    leaf = b.leaf;
    ref = r;
    length = l;
    align = align;
    block = c;
    is_layout = b.is_layout;
    is_leaf = b.is_number;
    points = points;
  })

  no_blocks : (blocks : List Block) → b.leaf.blocks ≡ blocks → b.leaf.blocks ≡ []
  no_blocks [] e = e
  no_blocks (c ∷ cs) e = absurd (let q = flat.pointed 0 c (ap (λ (bs : List Block). slice_get bs 0) e) in no_pointer q.0 q.1 c.align 0 q.2)

  none : b.leaf.blocks ≡ []
  none = no_blocks b.leaf.blocks refl

  words : (j : ℕ) (f : FlatWord) → slice_get b.leaf.root j ≡ Some f
      → (w : ℕ) × (slice_get (numbers_of ws) j ≡ Some w) × ((k : ℕ) (q : Part) → slice_get f.parts k ≡ Some q → PartHolds b.subs b.ats w q)
  words j f e = let x = b.placed.words (record { block = None; word = j }) f e in (x.0, x.1, x.2.parts)

  met : (test : Test) → MeetsTest p.types (flat_layouts p) b.leaf test → HasRange [] ws (numbers_of ws) m (loc_of test)
  met (Is loc c) h = ranges b.leaf none m ws b.subs b.ats words loc h.0.0 h.0.1
  met (IsNone loc cs) h = ranges b.leaf none m ws b.subs b.ats words loc h.0.0 h.0.1

  leads : ◌≡◌ {A = Result ℕ ImageFault} (leaf_at b.layout.tree [] ws) (Ok b.number)
  leads =
      led [] ws (numbers_of ws) m b.number b.layout.tree (leads_to p typed agrees m good t v (numbers_of ws) open_)
      (λ test above. met test ((lawful p agrees typed).met t b.layout b.number b.leaf b.is_layout b.is_number test above))

  abbrev known : List ℕ
  known = replicate (length b.leaf.blocks) 0

  found : ◌≡◌ {A = Result (List ℕ) ImageFault} (addresses_of [] b.leaf ws) (Ok known)
  found = all_fine b.leaf none m ws b.subs b.ats words no_pointer known (order_of b.leaf) (order_spots b.leaf)

  -- Fields -----------------------------------------------------------------------------------
  module _ (blocks : List ImageBlock) (k : ℕ) (o : Open) (at : slice_get (open_positions p.types b.leaf.prov) k ≡ Some o) where
    abbrev path : List ℕ
    path = o.path

    abbrev value : LocatedPart → ℕ
    value s = (bits_at blocks ws known s).number

    -- the number in a part's bits, which are of a root word
    held : (c : Option ℕ) (j : ℕ) (f : FlatWord) (i : ℕ) (q : Part) → flat_at b.leaf (record { block = c; word = j }) ≡ Some f → slice_get f.parts i ≡ Some q
        → HoldsKind b.subs b.ats (value (spot_of b.leaf (record { block = c; word = j }) f q)) q.l q.kind
    held None j f i q is_word is_part =
        let w = words j f is_word in
        let same : value (spot_of b.leaf (record { block = None; word = j }) f q) ≡ take_of w.0 q.o q.l = ap (λ n. take_of n q.o q.l) (number_there ws j w.0 w.1) in
        subst (λ n. HoldsKind b.subs b.ats n q.l q.kind) (sym same) (w.2 i q is_part)
    held (Some c) j f i q is_word is_part =
        let z : ◌≡◌ {A = Option FlatWord} None (Some f) = ap (λ (bs : List Block). slice_get (words_of_block (slice_get bs c)) j) (sym none) ∙ is_word in absurd cc

    module _ (s : ℕ) (is_named : o.ty ≡ Named s) where
      abbrev count : ℕ
      count = word_count (flat_layouts p) (Named s)

      abbrev word : List ℕ → ℕ → Kept
      word = field_word blocks ws known (order_of b.leaf)

      named : type_at (open_positions p.types b.leaf.prov) path ≡ Some (Named s)
      named = position-typed p.types b.leaf.prov k o at ∙ ap Some is_named

      long : length (b.subs path) ≡ count
      long = Represents-count p.types (flat_layouts p) m false (open_.below k o at) ∙ ap (word_count (flat_layouts p)) is_named

      word_same : (j : ℕ) → j < count → (word path j).number ≡ slice_index (b.subs path) j
      word_same j lt =
          let h : Holder b.leaf (Named s) path j = subst (λ (ty : Ty). Holder b.leaf ty path j) is_named
          ((lawful p agrees typed).all_held t b.layout b.number b.leaf b.is_layout b.is_number k o j at (subst (λ (ty : Ty). j < units_of (flat_layouts p) ty) (sym is_named) lt)) in
          let declared = count_is p typed agrees s (named_small p typed agrees t b.layout b.number b.leaf b.is_layout b.is_number path s named) in
          let there = word_is p typed agrees t b.layout b.number b.leaf b.is_layout b.is_number h.ref h.word h.number h.part h.is_word h.is_part blocks ws known path s j named h.is_holder (omega (arith, lt, declared)) in
          ap (λ (w : Kept). w.number) there
          ∙ subst (λ (kind : Kind). HoldsKind b.subs b.ats (value (spot_of b.leaf h.ref h.word h.part)) h.part.l kind) h.is_holder
          (held h.ref.block h.ref.word h.word h.number h.part h.is_word h.is_part)

      words_same : numbers_of (field_words word path 0 count) ≡ b.subs path
      words_same =
          let many : length (numbers_of (field_words word path 0 count)) ≡ count = length-map (field_words word path 0 count) (λ (w : Kept). w.number) ∙ words_long word path 0 count in
          same_number_lists (numbers_of (field_words word path 0 count)) (b.subs path) (many ∙ sym long)
          (λ j lt. let few : j < count = omega (arith, lt, many) in word_number word path count j few ∙ word_same j few)

    module _ (bits : ℕ) (is_int : o.ty ≡ Int bits) where
      abbrev bit : ℕ → ℕ
      bit = field_bit value (Int bits) (order_of b.leaf) path

      is_integer : type_at (open_positions p.types b.leaf.prov) path ≡ Some (Int bits)
      is_integer = position-typed p.types b.leaf.prov k o at ∙ ap Some is_int

      bit_same : (n : ℕ) → b.subs path ≡ n ∷ [] → (i : ℕ) → i < bits → bit i ≡ bit_at n i
      bit_same n one i lt =
          let h : Holder b.leaf (Int bits) path i = subst (λ (ty : Ty). Holder b.leaf ty path i) is_int
          ((lawful p agrees typed).all_held t b.layout b.number b.leaf b.is_layout b.is_number k o i at (subst (λ (ty : Ty). i < units_of (flat_layouts p) ty) (sym is_int) lt)) in
          let a = h.is_holder.0 in
          let kind : h.part.kind ≡ Bits path a = h.is_holder.1 in
          let low : a ≤ i = h.is_holder.2 in
          let high : i < a + h.part.l = h.is_holder.3 in
          let fits = subst (λ (x : Kind). KindFits p.layouts (open_positions p.types b.leaf.prov) h.part.l x) kind
          ((word_fits p typed agrees t b.layout b.number b.leaf b.is_layout b.is_number h.ref h.word h.is_word).kinds h.number h.part h.is_part) in
          let same_bits : fits.0 ≡ bits = same_Int fits.0 bits (sym fits.1 ∙ is_integer) in
          let within : a + h.part.l ≤ bits = (let z = fits.2 in omega (arith, z, same_bits)) in
          let j = i - a in
          let up : a + j ≡ i = omega (arith, low) in
          let inside : j < h.part.l = omega (arith, low, high) in
          let there = bit_is p typed agrees t b.layout b.number b.leaf b.is_layout b.is_number h.ref h.word h.number h.part h.is_word h.is_part blocks ws known path bits a is_integer kind within j inside in
          let here : value (spot_of b.leaf h.ref h.word h.part) ≡ take_of (slice_index (b.subs path) 0) a h.part.l =
          subst (λ (x : Kind). HoldsKind b.subs b.ats (value (spot_of b.leaf h.ref h.word h.part)) h.part.l x) kind
          (held h.ref.block h.ref.word h.word h.number h.part h.is_word h.is_part) in
          ap bit (sym up) ∙ there ∙ ap (λ x. bit_at x j) (here ∙ ap (λ xs. take_of (slice_index xs 0) a h.part.l) one)
          ∙ bit_at_take n a h.part.l j inside ∙ ap (bit_at n) up

      integer_same : number_of_bits bits bit ∷ [] ≡ b.subs path
      integer_same =
          let r = Represents-int p.types (flat_layouts p) m false bits (b.at path) (b.subs path) (subst (λ (ty : Ty). Represents p.types (flat_layouts p) m false ty (b.at path) (b.subs path)) is_int (open_.below k o at)) in
          let small = field_bit_small value (Int bits) (order_of b.leaf) path in
          let same : number_of_bits bits bit ≡ r.0 =
          same_from_bits_below bits (number_of_bits bits bit) r.0 (numbered_fits bits bit small) r.3 (λ i lt. numbered_bit bits bit small i lt ∙ bit_same r.0 r.2 i lt) in
          ap (λ n. n ∷ []) same ∙ sym r.2

    all_same : (ty : Ty) → o.ty ≡ ty → open_words (flat_layouts p) blocks (from_root t ws b.leaf) path ty ≡ b.subs path
    all_same (Int bits) e = integer_same bits e
    all_same (Named s) e = words_same s e

  pub are_seen : AreSeen p m t v ws
  are_seen = record {
    layout = b.layout;
    number = b.number;
    leaf = b.leaf;
    is_layout = b.is_layout;
    is_leaf = b.is_leaf;
    is_number = b.is_number;
    is_seen = leads_on (flat_layouts p) t ws b.layout b.is_layout b.number b.leaf leads b.is_number
        ∙ ap (λ (r : Result (List ℕ) ImageFault). and_then r (λ none. Ok (from_root t ws b.leaf))) found;
    fields = λ blocks k o at. (
      b.at o.path,
      b.is_at k o at,
      subst (λ xs. Represents p.types (flat_layouts p) m false o.ty (b.at o.path) xs) (sym (all_same blocks k o at o.ty refl)) (open_.below k o at),
    );
  }

pub values_are_seen : ValuesAreSeen
values_are_seen p typed agrees m good t v ws free represents = are_seen p typed agrees m good t v ws free represents
