-- An image whose root words represent a value in the memory of its blocks, with pointers that fall, is sound.
use Rattle.std.proofs.Common.{◌≡◌, ℕ, zero, suc, ◌+◌, ◌^◌, ◌<◌, inl, inr, false, List, [], ◌∷◌, length, Option, Some, None, Result, Ok, refl, sym, subst, ap, ◌∙◌, arith}
use Rattle.std.specs.Prelude.{slice_get, slice_index}
use Rattle.std.proofs.lemmas.Option.{get_or_from_slice_get, same_Some, slice_get_within}
use Rattle.rb_core.specs.declared.program.Program.{Program}
use Rattle.rb_core.specs.declared.types.DataDecl.{DataDecl}
use Rattle.rb_core.specs.declared.types.Ty.{Ty}
use Rattle.rb_core.specs.declared.types.Ty.TheVariants.{Int, Named}
use Rattle.rb_core.specs.declared.value.Value.{Value}
use Rattle.rb_core.specs.TypedPrograms.{IsTyped}
use Rattle.rb_core.specs.declared.layout_decl.Loc.{Loc}
use Rattle.rb_bits.specs.Words.{take_of}
use Rattle.rb_bytes.specs.Memory.{Memory}
use Rattle.rb_layout.specs.A4.{IsBlockWidth}
use Rattle.rb_layout.specs.A7.{MeetsTest}
use Rattle.rb_layout.specs.Agreement.{Agrees}
use Rattle.rb_layout.specs.Flat.{IsFlat}
use Rattle.rb_layout.specs.Flattening.{flat_layouts, type_at}
use Rattle.rb_layout.specs.Locations.{Reached, reached_at}
use Rattle.rb_layout.specs.Positions.{Open, open_positions}
use Rattle.rb_layout.specs.Splits.{Test, Is, IsNone}
use Rattle.rb_layout.specs.declared.layout.Block.{Block}
use Rattle.rb_layout.specs.declared.layout.FlatWord.{FlatWord}
use Rattle.rb_layout.specs.declared.layout.Kind.{Kind}
use Rattle.rb_layout.specs.declared.layout.Layout.{Layout}
use Rattle.rb_layout.specs.declared.layout.Leaf.{Leaf}
use Rattle.rb_layout.proofs.OpenPositions.{position-typed}
use Rattle.rb_rel.specs.Relation.{HoldsKind, Made, Represents, word_count}
use Rattle.rb_rel.proofs.Agreeing.{lawful}
use Rattle.rb_rel.proofs.Lawful.{Holder, Lawful, units_of}
use Rattle.rb_rel.proofs.Lists.{get-map, got}
use Rattle.rb_rel.proofs.Represented.{Opened, Represents-count}
use Rattle.rb_coding.proofs.LeadLemmas.{leads_to}
use Rattle.rb_image_text.specs.declared.fault.ImageFault.{ImageFault}
use Rattle.rb_image_text.specs.declared.image.ImageBlock.{ImageBlock}
use Rattle.rb_image.specs.declared.kept.Kept.{Kept}
use Rattle.rb_image.specs.Falling.{AreKept, Descends, DescendingImagesAreSound, HasWord, PointersFall, built, number}
use Rattle.rb_image.specs.Memories.{image_memory}
use Rattle.rb_image.specs.Orders.{order_of}
use Rattle.rb_image.specs.Parts.{At, bits_at, field_word, field_words, look, look_layout, look_leaf, place_at, places_of_leaf}
use Rattle.rb_image.specs.Roots.{WordsFit, RootIsSound, WordFits, kept_from, widths_of}
use Rattle.rb_image.specs.Roots as Roots
use Rattle.rb_image.specs.Sound.{IsSound, sound}
use Rattle.rb_image.specs.Splits.{and_then, leaf_at, nothing, word_at}
use Rattle.rb_image.proofs.FallingParts.{HasAddresses, addresses}
use Rattle.rb_image.proofs.FallingSplits.{led, loc_of}
use Rattle.rb_image.proofs.DescendingValues.{Descends-represents}
use Rattle.rb_image.proofs.FallingWords.{AreKeptAs, HasRange, kept_is, read_at}
use Rattle.rb_image.proofs.GatheredFields.{count_is, low, named_small, word_is, words_at}
use Rattle.rb_image.proofs.PlacedSpots.{spot_of}
use Rattle.rb_image.proofs.SpotLemmas.{In, get_in, in_flat_map, in_get}
use Rattle.rb_image.proofs.WholeMemories.{IsWhole, image_whole}

module _ (p : Program) (typed : IsTyped p) (agrees : Agrees p) (blocks : List ImageBlock) (m : Memory) (is : IsWhole blocks m) where
  abbrev types : List DataDecl
  types = p.types

  abbrev layouts : List Layout
  layouts = flat_layouts p

  abbrev law : Lawful types layouts
  law = lawful p agrees typed

  abbrev Sound : At → Type 0
  Sound = IsSound (look types layouts blocks)

  -- words at which a value of the type stands are sound, wherever they are kept in these blocks
  abbrev AreSound : Ty → List ℕ → (ℕ → ℕ) → Type 0
  AreSound (Int bits) ws from = Unit {0}
  AreSound (Named t) ws from = (xs : List Kept) → AreKeptAs xs ws from → Sound (record { ty = t; words = xs })

  -- One place --------------------------------------------------------------------------------
  module _ (t : ℕ) (v : Value) (ws : List ℕ) (from : ℕ → ℕ) (b : Made types layouts m false t v ws) (inner : List ℕ → ℕ → ℕ)
      (falls : PointersFall b.leaf from b.ats) (are_kept : AreKept b.leaf from b.ats inner)
      (reps : (k : ℕ) (o : Open) → slice_get (open_positions types b.leaf.prov) k ≡ Some o → Represents types layouts m false o.ty (b.at o.path) (b.subs o.path))
      (sounds : (k : ℕ) (o : Open) → slice_get (open_positions types b.leaf.prov) k ≡ Some o → AreSound o.ty (b.subs o.path) (inner o.path))
      (xs : List Kept) (kept : AreKeptAs xs ws from) where
    abbrev leaf : Leaf
    leaf = b.leaf

    abbrev opens : List Open
    opens = open_positions types leaf.prov

    flat : IsFlat leaf
    flat = law.flat t b.layout b.number leaf b.is_layout b.is_number

    wide : (c : ℕ) (block : Block) (j : ℕ) (f : FlatWord) → slice_get leaf.blocks c ≡ Some block → slice_get block.words j ≡ Some f → IsBlockWidth f.width
    wide = (agrees.a4 t b.layout b.number leaf b.is_layout b.is_number).widths

    -- its splits
    read : (loc : Loc) (x : Reached) → reached_at leaf loc ≡ Some x → HasRange blocks xs ws m loc
    read = read_at blocks m is leaf flat wide ws b.subs b.ats from b.placed falls xs kept

    met : (test : Test) → MeetsTest types layouts leaf test → HasRange blocks xs ws m (loc_of test)
    met (Is loc c) h = read loc h.0.0 h.0.1
    met (IsNone loc cs) h = read loc h.0.0 h.0.1

    abbrev opened : Opened types layouts m false t v ws
    opened = record { made = b; below = reps }

    pub leads : ◌≡◌ {A = Result ℕ ImageFault} (leaf_at b.layout.tree blocks xs) (Ok b.number)
    leads =
        led blocks xs ws m b.number b.layout.tree (leads_to p typed agrees m is.good t v ws opened)
        (λ test above. met test (law.met t b.layout b.number leaf b.is_layout b.is_number test above))

    -- its parts
    found : HasAddresses blocks m is leaf flat wide ws b.subs b.ats from b.placed falls xs kept
    found = addresses blocks m is leaf flat wide ws b.subs b.ats from b.placed falls xs kept (low p typed agrees t b.layout b.number leaf b.is_layout b.is_number)

    abbrev places : List At
    places = places_of_leaf types layouts blocks leaf xs found.found

    looked : ◌≡◌ {A = Result (List At) ImageFault} (look types layouts blocks (record { ty = t; words = xs })) (Ok places)
    looked =
        let one : ◌≡◌ {A = Result (List At) ImageFault} (look types layouts blocks (record { ty = t; words = xs })) (look_layout types layouts blocks xs (Some b.layout)) = ap (look_layout types layouts blocks xs) b.is_layout in
        one ∙ ap (λ z. and_then z (λ n. look_leaf types layouts blocks xs (slice_get b.layout.leaves n))) leads
        ∙ ap (look_leaf types layouts blocks xs) b.is_number
        ∙ ap (λ z. and_then z (λ ats. Ok (places_of_leaf types layouts blocks leaf xs ats))) found.is_found

    -- the places below it
    abbrev word : List ℕ → ℕ → Kept
    word = field_word blocks xs found.found (order_of leaf)

    module _ (k : ℕ) (o : Open) (at : slice_get opens k ≡ Some o) (s : ℕ) (is_named : o.ty ≡ Named s) where
      is_type : type_at opens o.path ≡ Some (Named s)
      is_type = position-typed types leaf.prov k o at ∙ ap Some is_named

      long : length (b.subs o.path) ≡ word_count layouts (Named s)
      long = Represents-count types layouts m false (reps k o at) ∙ ap (word_count layouts) is_named

      word_kept : (j n : ℕ) → slice_get (b.subs o.path) j ≡ Some n → ((word o.path j).number ≡ n) × ((word o.path j).base ≡ inner o.path j)
      word_kept j n e =
          let lt = slice_get_within (b.subs o.path) j n e in
          let few : j < word_count layouts (Named s) = (let z = long in omega (arith, lt, z)) in
          let h : Holder leaf (Named s) o.path j = subst (λ (ty : Ty). Holder leaf ty o.path j) is_named (law.all_held t b.layout b.number leaf b.is_layout b.is_number k o j at (subst (λ (ty : Ty). j < units_of layouts ty) (sym is_named) few)) in
          let count = count_is p typed agrees s (named_small p typed agrees t b.layout b.number leaf b.is_layout b.is_number o.path s is_type) in
          let spot = spot_of leaf h.ref h.word h.part in
          let same : word o.path j ≡ bits_at blocks xs found.found spot =
          word_is p typed agrees t b.layout b.number leaf b.is_layout b.is_number h.ref h.word h.number h.part h.is_word h.is_part blocks xs found.found o.path s j is_type h.is_holder (omega (arith, few, count)) in
          let x = b.placed.words h.ref h.word h.is_word in
          let here = kept_is blocks m is leaf flat wide ws b.subs b.ats from b.placed falls xs kept h.ref.block h.ref.word h.word x.0 h.is_word x.1 found.found (found.known h.ref h.word h.is_word) h.part in
          let holds : take_of x.0 h.part.o h.part.l ≡ slice_index (b.subs o.path) j =
          subst (λ (kind : Kind). HoldsKind b.subs b.ats (take_of x.0 h.part.o h.part.l) h.part.l kind) h.is_holder (x.2.parts h.number h.part h.is_part) in
          let has : HasWord leaf h.ref o.path j = record { word = h.word; number = h.number; part = h.part; is_word = h.is_word; is_part = h.is_part; is_kind = h.is_holder } in (
            ap (λ (w : Kept). w.number) same ∙ ap (λ n. take_of n h.part.o h.part.l) here.0 ∙ holds ∙ get_or_from_slice_get (b.subs o.path) j n 0 e,
            ap (λ (w : Kept). w.base) same ∙ here.1 ∙ sym (are_kept h.ref o.path j has),
          )

      fields_kept : AreKeptAs (field_words word o.path 0 (word_count layouts (Named s))) (b.subs o.path) (inner o.path)
      fields_kept j n e =
          let lt = slice_get_within (b.subs o.path) j n e in
          let z : 0 + j ≡ j = omega arith in
          let there = words_at word o.path 0 (word_count layouts (Named s)) j (let y = long in omega (arith, lt, y)) ∙ ap (λ i. Some (word o.path i)) z in
          let same : word_at (field_words word o.path 0 (word_count layouts (Named s))) j ≡ word o.path j =
          get_or_from_slice_get (field_words word o.path 0 (word_count layouts (Named s))) j (word o.path j) nothing there in
          let w = word_kept j n e in
          (ap (λ (y : Kept). y.number) same ∙ w.0, ap (λ (y : Kept). y.base) same ∙ w.1)

    place_sound : (q : At) (k : ℕ) (o : Open) → slice_get opens k ≡ Some o → (ty : Ty) → o.ty ≡ ty → In q (place_at layouts word o.path ty) → Sound q
    place_sound q k o at (Int bits) e h = absurd h
    place_sound q k o at (Named s) e (inr h) = absurd h
    place_sound q k o at (Named s) e (inl same) =
        let all : AreSound (Named s) (b.subs o.path) (inner o.path) = subst (λ (ty : Ty). AreSound ty (b.subs o.path) (inner o.path)) e (sounds k o at) in
        subst Sound (sym same) (all (field_words word o.path 0 (word_count layouts (Named s))) (fields_kept k o at s e))

    pub layer : Sound (record { ty = t; words = xs })
    layer =
        sound (record { ty = t; words = xs }) places looked (λ j q at.
        let r = in_flat_map (λ (o : Open). place_at layouts word o.path o.ty) q opens (get_in q places j at) in
        let g = in_get r.0 opens r.1 in
        place_sound q g.0 r.0 g.1 r.0.ty refl r.2)

  -- All places -------------------------------------------------------------------------------
  pub descending_sound : {ty : Ty} {v : Value} {ws : List ℕ} {from : ℕ → ℕ} → Descends types layouts m ty v ws from → AreSound ty ws from
  descending_sound (number bits x from lt) = tt
  descending_sound (built t v ws from b inner falls kept below) =
      layer t v ws from b inner falls kept (λ k o e. Descends-represents (below k o e)) (λ k o e. descending_sound (below k o e))

  -- Root words -------------------------------------------------------------------------------
  fit_all : (widths words : List ℕ) → length words ≡ length widths → ((j w n : ℕ) → slice_get widths j ≡ Some w → slice_get words j ≡ Some n → n < 2 ^ w) → WordsFit widths words
  fit_all widths words long each i = go (slice_get widths i) refl (slice_get words i) refl
    where
      go : (o : Option ℕ) → slice_get widths i ≡ o → (q : Option ℕ) → slice_get words i ≡ q → WordFits o q
      go None e None h = tt
      go None e (Some n) h =
          let lt = slice_get_within words i n h in
          let g = got widths i (omega (arith, long, lt)) in
          let z : ◌≡◌ {A = Option ℕ} None (Some g.0) = sym e ∙ g.1 in absurd cc
      go (Some w) e None h =
          let lt = slice_get_within widths i w e in
          let g = got words i (omega (arith, long, lt)) in
          let z : ◌≡◌ {A = Option ℕ} None (Some g.0) = sym h ∙ g.1 in absurd cc
      go (Some w) e (Some n) h = each i w n e h

  made_fits : (t : ℕ) (v : Value) (ws : List ℕ) (b : Made types layouts m false t v ws) → WordsFit b.layout.shape ws
  made_fits t v ws b =
      fit_all b.layout.shape ws b.shaped (λ j w n e h.
      let widths = agrees.a2 t b.layout b.number b.leaf b.is_layout b.is_number in
      let f = get-map (λ (x : FlatWord). x.width) b.leaf.root j w (ap (λ ys. slice_get ys j) widths ∙ e) in
      let x = b.placed.words (record { block = None; word = j }) f.0 f.1 in
      let same : x.0 ≡ n = same_Some x.0 n (sym x.1 ∙ h) in
      subst (λ y. y < 2 ^ w) same (subst (λ y. x.0 < 2 ^ y) (sym f.2) x.2.fits))

  one_fits : (bits x : ℕ) → x < 2 ^ bits → WordsFit (bits ∷ []) (x ∷ [])
  one_fits bits x lt = fit_all (bits ∷ []) (x ∷ []) refl each
    where
      each : (j w n : ℕ) → slice_get (bits ∷ []) j ≡ Some w → slice_get (x ∷ []) j ≡ Some n → n < 2 ^ w
      each zero w n e h = subst (λ y. n < 2 ^ y) (same_Some bits w e) (subst (λ y. y < 2 ^ bits) (same_Some x n h) lt)
      each (suc j) w n e h = absurd cc

  pub words_fit : {ty : Ty} {v : Value} {ws : List ℕ} {from : ℕ → ℕ} → Descends types layouts m ty v ws from → WordsFit (widths_of layouts ty) ws
  words_fit (number bits x from lt) = one_fits bits x lt
  words_fit (built t v ws from b inner falls kept below) = subst (λ o. WordsFit (Roots.layout_widths o) ws) (sym b.is_layout) (made_fits t v ws b)

  root_kept : (i : ℕ) (ns : List ℕ) (j n : ℕ) → slice_get ns j ≡ Some n → ((word_at (kept_from i ns) j).number ≡ n) × ((word_at (kept_from i ns) j).base ≡ 0)
  root_kept i [] j n e = absurd cc
  root_kept i (x ∷ ns) zero n e = (same_Some x n e, refl)
  root_kept i (x ∷ ns) (suc j) n e = root_kept (i + 1) ns j n e

  pub root_sound : (ty : Ty) (ws : List ℕ) → AreSound ty ws (λ j. 0) → RootIsSound (look types layouts blocks) ty ws
  root_sound (Int bits) ws s = tt
  root_sound (Named t) ws s = s (kept_from 0 ws) (root_kept 0 ws)

pub descending_images : DescendingImagesAreSound
descending_images p typed agrees image placed are ty v d =
    let is = image_whole image.blocks placed are in
    let m = image_memory image.blocks in
    record {
      fit = words_fit p typed agrees image.blocks m is d;
      sound = root_sound p typed agrees image.blocks m is ty image.root (descending_sound p typed agrees image.blocks m is d);
    }
