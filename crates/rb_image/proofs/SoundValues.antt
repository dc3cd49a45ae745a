-- A place that is sound, with all below it, represents a value with pointers that fall: each place below it does, and so it does
-- itself.
use Rattle.std.proofs.Common.{◌≡◌, ℕ, ◌+◌, ◌^◌, ◌<◌, inl, true, false, List, length, replicate, Option, Some, None, Result, Ok, refl, sym, subst, ap, ◌∙◌, arith}
use Rattle.std.specs.Prelude.{slice_get, slice_index}
use Rattle.std.proofs.lemmas.Bool.{false≢true}
use Rattle.std.proofs.lemmas.List.{length-map, length-replicate}
use Rattle.std.proofs.lemmas.Option.{get_or_from_slice_get, same_Some, slice_get_within}
use Rattle.rb_core.specs.declared.program.Program.{Program}
use Rattle.rb_core.specs.declared.types.DataDecl.{DataDecl}
use Rattle.rb_core.specs.declared.types.Ty.{Ty}
use Rattle.rb_core.specs.declared.types.Ty.TheVariants.{Int, Named}
use Rattle.rb_core.specs.declared.value.Value.{Value, Num}
use Rattle.rb_core.specs.declared.pattern.Pat.{out-Pat}
use Rattle.rb_core.specs.TypedPrograms.{IsTyped}
use Rattle.rb_core.specs.Values.{is_of_type}
use Rattle.rb_bits.specs.Words.{take_of}
use Rattle.rb_bits.proofs.WordLemmas.{take_fits}
use Rattle.rb_bytes.specs.Memory.{Memory}
use Rattle.rb_layout.specs.A2.{widths_of}
use Rattle.rb_layout.specs.Agreement.{Agrees}
use Rattle.rb_layout.specs.Flat.{IsFlat}
use Rattle.rb_layout.specs.Flattening.{flat_layouts, shape_in, shape_of, type_at}
use Rattle.rb_layout.specs.Pointers.{PointsTo}
use Rattle.rb_layout.specs.Positions.{Open, layout_of, open_positions, opens_of, root_type}
use Rattle.rb_layout.specs.Words.{size_of, words_in}
use Rattle.rb_layout.specs.declared.layout.Block.{Block}
use Rattle.rb_layout.specs.declared.layout.FlatWord.{FlatWord}
use Rattle.rb_layout.specs.declared.layout.Kind.{Kind}
use Rattle.rb_layout.specs.declared.layout.Kind.TheVariants.{Word, Pointer}
use Rattle.rb_layout.specs.declared.layout.Layout.{Layout}
use Rattle.rb_layout.specs.declared.layout.Leaf.{Leaf}
use Rattle.rb_layout.specs.declared.layout.Part.{Part}
use Rattle.rb_layout.proofs.FlatLaws.{leaf_is_form}
use Rattle.rb_layout.proofs.OpenPositions.{position-typed, type-open}
use Rattle.rb_rel.specs.Relation.{HoldsKind, Made, LeafStands, shape_length, word_count}
use Rattle.rb_rel.proofs.Agreeing.{lawful}
use Rattle.rb_rel.proofs.Declared.{declared}
use Rattle.rb_rel.proofs.Existence.{has_layout}
use Rattle.rb_rel.proofs.Fitting.{KindFits}
use Rattle.rb_rel.proofs.Lawful.{Holder, Lawful, units_of}
use Rattle.rb_rel.proofs.Lists.{get-mapped}
use Rattle.rb_rel.proofs.Typing.{Represents-typed, typed_by}
use Rattle.rb_image_text.specs.declared.fault.ImageFault.{ImageFault}
use Rattle.rb_image_text.specs.declared.image.ImageBlock.{ImageBlock}
use Rattle.rb_image.specs.declared.kept.Kept.{Kept}
use Rattle.rb_image.specs.Blocks.{size_at}
use Rattle.rb_image.specs.Falling.{AreKept, Descends, AddressFalls, PointersFall, base_in, built, number}
use Rattle.rb_image.specs.Integers.{field_bit, number_of_bits}
use Rattle.rb_image.specs.Orders.{LocatedPart, order_of}
use Rattle.rb_image.specs.Parts.{At, addresses_of, bits_at, block_size, field_word, field_words, kept_at, look, look_layout, look_leaf, place_at, places_of_leaf}
use Rattle.rb_image.specs.Sound.{IsSound, sound}
use Rattle.rb_image.specs.Splits.{leaf_at, nothing, word_at}
use Rattle.rb_image.specs.Values.{KeepsImage}
use Rattle.rb_image.proofs.DescendingValues.{Descends-represents}
use Rattle.rb_image.proofs.ExaminedParts.{FineKind, IsFine, all_fine, then_ok}
use Rattle.rb_image.proofs.FallLemmas.{same_Ok}
use Rattle.rb_image.proofs.FilledProvenances.{Filled, fill, own_leaf}
use Rattle.rb_image.proofs.FoundWords.{found_word, numbers}
use Rattle.rb_image.proofs.GatheredFields.{bits_value, field_bit_small, low, named_small, numbered_fits, part_holds, subs, subs_at, word_fits, word_held, word_is, words_at, words_long}
use Rattle.rb_image.proofs.LeafNumbers.{leaf_there}
use Rattle.rb_image.proofs.PlacedSpots.{order_led, order_spots, part_in_order, spot_of}
use Rattle.rb_image.proofs.PointerLemmas.{IsPointedOnce, flat_once}
use Rattle.rb_image.proofs.SpotLemmas.{In, get_in, in_get, flat_map_in}

module _ (p : Program) (typed : IsTyped p) (agrees : Agrees p) (blocks : List ImageBlock) (m : Memory) (keeps : KeepsImage blocks m) where
  abbrev types : List DataDecl
  types = p.types

  abbrev layouts : List Layout
  layouts = flat_layouts p

  abbrev Desc : Ty → Value → List ℕ → (ℕ → ℕ) → Type 0
  Desc = Descends types layouts m

  abbrev law : Lawful types layouts
  law = lawful p agrees typed

  -- the words of a place are as many as its type's, and each is of its width
  pub record Fits (q : At) : Type 0 where
    pub layout : Layout
    pub is_layout : layout_of layouts q.ty ≡ Some layout
    pub count : length q.words ≡ length layout.shape
    pub small : (j w : ℕ) → slice_get layout.shape j ≡ Some w → slice_index (numbers q.words) j < 2 ^ w

  -- the words are kept in these blocks
  abbrev pub AreIn : List Kept → (ℕ → ℕ) → Type 0
  AreIn ws from = (j : ℕ) → j < length ws → (word_at ws j).base ≡ from j

  -- One leaf ---------------------------------------------------------------------------------
  module _ (t : ℕ) (layout : Layout) (n : ℕ) (leaf : Leaf) (is_layout : layout_of layouts t ≡ Some layout) (is_number : slice_get layout.leaves n ≡ Some leaf) where
    abbrev opens : List Open
    opens = open_positions types leaf.prov

    flat : IsFlat leaf
    flat = law.flat t layout n leaf is_layout is_number

    once : IsPointedOnce leaf
    once = let form = leaf_is_form p t layout n leaf is_layout is_number in subst IsPointedOnce form.1 (flat_once types p.layouts form.0)

    -- a pointer in the order leads to a block of the leaf
    within : (s : LocatedPart) → In s (order_of leaf) → (align b : ℕ) → s.part.kind ≡ Pointer align b → b < length leaf.blocks
    within s h align b kind =
        let x = order_spots leaf s h in
        let points : PointsTo leaf x.ref s.part.l align b = record { word = x.word; number = x.number; part = s.part; is_word = x.is_word; is_part = x.is_part; is_length = refl; is_pointer = kind } in
        let block = (flat.below x.ref s.part.l align b points).0 in
        slice_get_within leaf.blocks b block.0 block.1

    widths : widths_of leaf.root ≡ layout.shape
    widths = agrees.a2 t layout n leaf is_layout is_number

    module _ (ws : List Kept) (count : length ws ≡ length layout.shape) (small : (j w : ℕ) → slice_get layout.shape j ≡ Some w → slice_index (numbers ws) j < 2 ^ w)
        (ats : List ℕ) (examined : ◌≡◌ {A = Result (List ℕ) ImageFault} (addresses_of blocks leaf ws) (Ok ats))
        (from : ℕ → ℕ) (kept : AreIn ws from) where
      fine : (s : LocatedPart) → In s (order_of leaf) → IsFine blocks leaf ws ats s
      fine = all_fine blocks leaf ws ats (order_of leaf) (replicate (length leaf.blocks) 0) (λ c. 0) (length-replicate (length leaf.blocks) 0) (λ c. (let a = once c in omega (arith, a))) (order_led leaf) within examined

      as_pointer : (bits : Kept) (align b : ℕ) (block : Block) (kind : Kind) → kind ≡ Pointer align b → slice_get leaf.blocks b ≡ Some block → FineKind blocks leaf ws ats bits kind
          → size_at blocks (slice_index ats b) ≡ Some (size_of block)
      as_pointer bits align b block kind e at f =
          let g : FineKind blocks leaf ws ats bits (Pointer align b) = subst (FineKind blocks leaf ws ats bits) e f in
          g.1 ∙ ap (λ o. Some (block_size o)) at

      -- a block of the size of each of the leaf's begins at its address
      sized : (b : ℕ) (block : Block) → slice_get leaf.blocks b ≡ Some block → size_at blocks (slice_index ats b) ≡ Some (size_of block)
      sized b block at =
          let q = flat.pointed b block at in
          let pt = q.2 in
          let spot = spot_of leaf q.0 pt.word pt.part in
          as_pointer (bits_at blocks ws ats spot) block.align b block pt.part.kind pt.is_pointer at
          (fine spot (part_in_order leaf flat (low p typed agrees t layout n leaf is_layout is_number) q.0 pt.word pt.number pt.part pt.is_word pt.is_part))

      as_many : length ws ≡ length leaf.root
      as_many = count ∙ ap length (sym widths) ∙ length-map leaf.root (λ (f : FlatWord). f.width)

      root_small : (j : ℕ) (f : FlatWord) → slice_get leaf.root j ≡ Some f → slice_index (numbers ws) j < 2 ^ f.width
      root_small j f e = small j f.width (ap (λ xs. slice_get xs j) (sym widths) ∙ get-mapped (λ (x : FlatWord). x.width) leaf.root j f e)

      abbrev the_subs : List ℕ → List ℕ
      the_subs = subs p typed agrees t layout n leaf is_layout is_number blocks ws ats

      abbrev at_type : Option Ty → List ℕ → List ℕ
      at_type = subs_at p typed agrees t layout n leaf is_layout is_number blocks ws ats

      -- the words are placed as the leaf says
      placed : LeafStands leaf (numbers ws) m false the_subs (slice_index ats)
      placed = record {
        count = length-map ws (λ (w : Kept). w.number) ∙ as_many;
        blocks = λ b block at. keeps.sizes (slice_index ats b) (size_of block) (sized b block at);
        words = λ r f is.
            let x = found_word blocks m keeps leaf ws ats as_many root_small sized (λ b block j g at h. (agrees.a4 t layout n leaf is_layout is_number).widths b block j g at h) r f is in (
              x.w,
              x.found,
              record {
                fits = x.fits;
                parts = λ k q at. subst (λ w. HoldsKind the_subs (slice_index ats) (take_of w q.o q.l) q.l q.kind) (x.kept q)
                    (part_holds p typed agrees t layout n leaf is_layout is_number blocks ws ats r f k q is at
                    (fine (spot_of leaf r f q) (part_in_order leaf flat (low p typed agrees t layout n leaf is_layout is_number) r f k q is at)));
                free = λ c. absurd (false≢true c);
              },
            );
      }

      -- Pointers -------------------------------------------------------------------------------
      kept_base : (o : Option ℕ) (j : ℕ) (f : FlatWord) (q : Part) → slice_get (words_in leaf o) j ≡ Some f
          → (kept_at blocks ws ats o (spot_of leaf (record { block = o; word = j }) f q)).base ≡ base_in from (slice_index ats) o j
      kept_base None j f q e = let lt = slice_get_within leaf.root j f e in let many = as_many in kept j (omega (arith, lt, many))
      kept_base (Some b) j f q e = refl

      pointer_falls : (bits : Kept) (align b : ℕ) (kind : Kind) → kind ≡ Pointer align b → FineKind blocks leaf ws ats bits kind → AddressFalls bits.base (slice_index ats b)
      pointer_falls bits align b kind e f =
          let g : FineKind blocks leaf ws ats bits (Pointer align b) = subst (FineKind blocks leaf ws ats bits) e f in
          g.2

      falls : PointersFall leaf from (slice_index ats)
      falls r l align b pt =
          let spot = spot_of leaf r pt.word pt.part in
          let there = part_in_order leaf flat (low p typed agrees t layout n leaf is_layout is_number) r pt.word pt.number pt.part pt.is_word pt.is_part in
          subst (λ k. AddressFalls k (slice_index ats b)) (kept_base r.block r.word pt.word pt.part pt.is_word)
          (pointer_falls (bits_at blocks ws ats spot) align b pt.part.kind pt.is_pointer (fine spot there))

      -- the blocks in which the words at a path are kept
      abbrev bases : List ℕ → ℕ → ℕ
      bases path j = (field_word blocks ws ats (order_of leaf) path j).base

      are_kept : AreKept leaf from (slice_index ats) bases
      are_kept r path j h =
          let fits : KindFits p.layouts opens h.part.l (Word path j) = subst (KindFits p.layouts opens h.part.l) h.is_kind ((word_fits p typed agrees t layout n leaf is_layout is_number r h.word h.is_word).kinds h.number h.part h.is_part) in
          let lt = slice_get_within (shape_of p.layouts fits.0) j h.part.l fits.2 in
          ap (λ (w : Kept). w.base) (word_is p typed agrees t layout n leaf is_layout is_number r h.word h.number h.part h.is_word h.is_part blocks ws ats path fits.0 j fits.1 h.is_kind lt)
          ∙ kept_base r.block r.word h.word h.part h.is_word

      -- Places below ---------------------------------------------------------------------------
      abbrev word : List ℕ → ℕ → Kept
      word = field_word blocks ws ats (order_of leaf)

      abbrev place : ℕ → List ℕ → At
      place s path = record { ty = s; words = field_words word path 0 (word_count layouts (Named s)) }

      -- word j of a field is of its width
      held_small : (path : List ℕ) (s j w : ℕ) → type_at opens path ≡ Some (Named s) → slice_get (shape_of p.layouts s) j ≡ Some w → Holder leaf (Named s) path j → slice_index (the_subs path) j < 2 ^ w
      held_small path s j w is_ty at h =
          let fits : KindFits p.layouts opens h.part.l (Word path j) = subst (KindFits p.layouts opens h.part.l) h.is_holder ((word_fits p typed agrees t layout n leaf is_layout is_number h.ref h.word h.is_word).kinds h.number h.part h.is_part) in
          let same : Named s ≡ Named fits.0 = same_Some (Named s) (Named fits.0) (sym is_ty ∙ fits.1) in
          let type : s ≡ fits.0 = cc in
          let width : w ≡ h.part.l = same_Some w h.part.l (sym at ∙ ap (λ x. slice_get (shape_of p.layouts x) j) type ∙ fits.2) in
          let held = word_held p typed agrees t layout n leaf is_layout is_number blocks ws ats h.ref h.word h.number h.part h.is_word h.is_part path s j is_ty h.is_holder (slice_get_within (shape_of p.layouts s) j w at) in
          subst (λ x. x < 2 ^ w) (sym held) (subst (λ l. bits_value p typed agrees t layout n leaf is_layout is_number blocks ws ats (spot_of leaf h.ref h.word h.part) < 2 ^ l) (sym width) (take_fits _ h.part.o h.part.l))

      place_fits : (k : ℕ) (o : Open) → slice_get opens k ≡ Some o → (s : ℕ) → o.ty ≡ Named s → type_at opens o.path ≡ Some (Named s) → Fits (place s o.path)
      place_fits k o at s is_named is_ty =
          let lt = named_small p typed agrees t layout n leaf is_layout is_number o.path s is_ty in
          let l = has_layout p typed agrees s lt in
          let d = declared p agrees.a1 s l.0 l.1 in
          let shape : l.0.shape ≡ shape_of p.layouts s = ap (λ (x : Layout). x.shape) d.is_flat ∙ ap shape_in (sym d.is_declared) in
          let as_long : word_count layouts (Named s) ≡ length l.0.shape = ap shape_length l.1 in
          record {
            layout = l.0;
            is_layout = l.1;
            count = words_long word o.path 0 (word_count layouts (Named s)) ∙ as_long;
            small = λ j w e.
                let e2 : slice_get (shape_of p.layouts s) j ≡ Some w = ap (λ xs. slice_get xs j) (sym shape) ∙ e in
                let below : j < word_count layouts (Named s) = (let a = slice_get_within l.0.shape j w e in omega (arith, a, as_long)) in
                let h : Holder leaf (Named s) o.path j = subst (λ (ty : Ty). Holder leaf ty o.path j) is_named (law.all_held t layout n leaf is_layout is_number k o j at (subst (λ (ty : Ty). j < units_of layouts ty) (sym is_named) below)) in
                subst (λ xs. slice_index xs j < 2 ^ w) (ap (λ x. at_type x o.path) is_ty) (held_small o.path s j w is_ty e2 h);
          }

      place_kept : (s : ℕ) (path : List ℕ) → AreIn (field_words word path 0 (word_count layouts (Named s))) (bases path)
      place_kept s path j lt =
          let n = word_count layouts (Named s) in
          let long = words_long word path 0 n in
          let z : 0 + j ≡ j = omega arith in
          let there = words_at word path 0 n j (omega (arith, lt, long)) ∙ ap (λ i. Some (word path i)) z in
          ap (λ (w : Kept). w.base) (get_or_from_slice_get (field_words word path 0 n) j (word path j) nothing there)

      abbrev below : List At
      below = places_of_leaf types layouts blocks leaf ws ats

      -- the place at an open position is among those below
      place_there : (k : ℕ) (o : Open) → slice_get opens k ≡ Some o → (s : ℕ) → o.ty ≡ Named s → (j : ℕ) × (slice_get below j ≡ Some (place s o.path))
      place_there k o at s is_named =
          let here : In (place s o.path) (place_at layouts word o.path o.ty) = subst (λ (ty : Ty). In (place s o.path) (place_at layouts word o.path ty)) (sym is_named) (inl refl) in
          in_get (place s o.path) below (flat_map_in (λ (x : Open). place_at layouts word x.path x.ty) (place s o.path) o opens (get_in o opens k at) here)

      module _ (inner : (j : ℕ) (r : At) → slice_get below j ≡ Some r → Fits r → (to : ℕ → ℕ) → AreIn r.words to → (v : Value) × Desc (Named r.ty) v (numbers r.words) to) where
        -- each open position has a value
        open_value : (k : ℕ) (o : Open) → slice_get opens k ≡ Some o → (ty : Ty) → o.ty ≡ ty → type_at opens o.path ≡ Some ty → (v : Value) × Desc ty v (the_subs o.path) (bases o.path)
        open_value k o at (Int bits) is_named is_ty =
            let bit = field_bit (bits_value p typed agrees t layout n leaf is_layout is_number blocks ws ats) (Int bits) (order_of leaf) o.path in
            let x = number_of_bits bits bit in
            let lt = numbered_fits bits bit (field_bit_small (bits_value p typed agrees t layout n leaf is_layout is_number blocks ws ats) (Int bits) (order_of leaf) o.path) in
            (Num x, subst (λ xs. Desc (Int bits) (Num x) xs (bases o.path)) (sym (ap (λ y. at_type y o.path) is_ty)) (number bits x (bases o.path) lt))
        open_value k o at (Named s) is_named is_ty =
            let there = place_there k o at s is_named in
            let v = inner there.0 (place s o.path) there.1 (place_fits k o at s is_named is_ty) (bases o.path) (place_kept s o.path) in
            (v.0, subst (λ xs. Desc (Named s) v.0 xs (bases o.path)) (sym (ap (λ y. at_type y o.path) is_ty)) v.1)

        value_at : (path : List ℕ) (ty : Ty) → type_at opens path ≡ Some ty → (v : Value) × Desc ty v (the_subs path) (bases path)
        value_at path ty e =
            let x = type-open opens path ty e in
            let v = open_value x.0 x.1 x.2 ty x.4 (ap (type_at opens) x.3 ∙ e) in
            (v.0, subst (λ q. Desc ty v.0 (the_subs q) (bases q)) x.3 v.1)

        abbrev chosen : (path : List ℕ) (o : Option Ty) → type_at opens path ≡ o → Value
        chosen path None e = Num 0
        chosen path (Some ty) e = (value_at path ty e).0

        chosen_shown : (path : List ℕ) (ty : Ty) (o : Option Ty) (e : type_at opens path ≡ o) → o ≡ Some ty → Desc ty (chosen path o e) (the_subs path) (bases path)
        chosen_shown path ty None e h = absurd cc
        chosen_shown path ty (Some s) e h = subst (λ (x : Ty). Desc x (value_at path s e).0 (the_subs path) (bases path)) (same_Some s ty h) (value_at path s e).1

        abbrev values : List ℕ → Value
        values path = chosen path (type_at opens path) refl

        values_shown : (k : ℕ) (o : Open) → slice_get opens k ≡ Some o → Desc o.ty (values o.path) (the_subs o.path) (bases o.path)
        values_shown k o at = chosen_shown o.path o.ty (type_at opens o.path) refl (position-typed types leaf.prov k o at)

        root : root_type (out-Pat leaf.prov) ≡ Named t
        root = law.provenances.root t layout n leaf is_layout is_number

        filled : Filled types leaf.prov (Named t) values
        filled = fill types leaf.prov (Named t) (law.provenances.fits t layout n leaf is_layout is_number) values

        is_typed : is_of_type types filled.value (Named t) ≡ true
        is_typed = typed_by types leaf.prov (Named t) filled.value (law.provenances.fits t layout n leaf is_layout is_number) filled.matches
            (λ k o e. (values o.path, filled.at k o e, Represents-typed types layouts m false law.provenances (Descends-represents (values_shown k o (ap (λ (ty : Ty). slice_get (opens_of types leaf.prov ty) k) root ∙ e)))))

        abbrev made : Made types layouts m false t filled.value (numbers ws)
        made = record {
          layout = layout;
          number = n;
          leaf = leaf;
          is_layout = is_layout;
          is_leaf = own_leaf p agrees t layout n leaf is_layout is_number filled.value is_typed filled.matches;
          is_number = is_number;
          shaped = length-map ws (λ (w : Kept). w.number) ∙ count;
          subs = the_subs;
          ats = slice_index ats;
          at = values;
          is_at = λ k o e. filled.at k o (ap (λ (ty : Ty). slice_get (opens_of types leaf.prov ty) k) (sym root) ∙ e);
          placed = placed;
        }

        pub leaf_value : (v : Value) × Desc (Named t) v (numbers ws) from
        leaf_value = (filled.value, built t filled.value (numbers ws) from made bases falls are_kept (λ k o e. values_shown k o e))

  -- One place --------------------------------------------------------------------------------
  -- what there is of a place that is looked at without fault
  record Looked (q : At) (fits : Fits q) (found : List At) : Type 0 where
    number : ℕ
    leaf : Leaf
    is_number : slice_get fits.layout.leaves number ≡ Some leaf
    ats : List ℕ
    examined : ◌≡◌ {A = Result (List ℕ) ImageFault} (addresses_of blocks leaf q.words) (Ok ats)
    is_found : places_of_leaf types layouts blocks leaf q.words ats ≡ found

  looked : (q : At) (fits : Fits q) (found : List At) → ◌≡◌ {A = Result (List At) ImageFault} (look types layouts blocks q) (Ok found) → Looked q fits found
  looked q fits found e =
      let a : ◌≡◌ {A = Result (List At) ImageFault} (look_layout types layouts blocks q.words (Some fits.layout)) (Ok found) = ap (look_layout types layouts blocks q.words) (sym fits.is_layout) ∙ e in
      let r = then_ok (leaf_at fits.layout.tree blocks q.words) (λ n. look_leaf types layouts blocks q.words (slice_get fits.layout.leaves n)) found a in
      let l = leaf_there blocks q.words p agrees q.ty fits.layout fits.is_layout r.0 r.1 in
      let b : ◌≡◌ {A = Result (List At) ImageFault} (look_leaf types layouts blocks q.words (Some l.0)) (Ok found) = ap (look_leaf types layouts blocks q.words) (sym l.1) ∙ r.2 in
      let s = then_ok (addresses_of blocks l.0 q.words) (λ ats. Ok (places_of_leaf types layouts blocks l.0 q.words ats)) found b in
      record { number = r.0; leaf = l.0; is_number = l.1; ats = s.0; examined = s.1; is_found = same_Ok (places_of_leaf types layouts blocks l.0 q.words s.0) found s.2 }

  layer : (q : At) (fits : Fits q) (found : List At) → ◌≡◌ {A = Result (List At) ImageFault} (look types layouts blocks q) (Ok found) → (from : ℕ → ℕ) → AreIn q.words from
      → ((j : ℕ) (r : At) → slice_get found j ≡ Some r → Fits r → (to : ℕ → ℕ) → AreIn r.words to → (v : Value) × Desc (Named r.ty) v (numbers r.words) to) → (v : Value) × Desc (Named q.ty) v (numbers q.words) from
  layer q fits found e from kept inner =
      let x = looked q fits found e in
      leaf_value q.ty fits.layout x.number x.leaf fits.is_layout x.is_number q.words fits.count fits.small x.ats x.examined from kept
      (λ j r at f. inner j r (ap (λ (ps : List At). slice_get ps j) (sym x.is_found) ∙ at) f)

  -- a sound place whose words fit represents a value, and its pointers fall
  pub place_value : {q : At} → IsSound (look types layouts blocks) q → Fits q → (from : ℕ → ℕ) → AreIn q.words from → (v : Value) × Desc (Named q.ty) v (numbers q.words) from
  place_value (sound q found e each) fits from kept = layer q fits found e from kept (λ j r at f. place_value (each j r at) f)
