-- The fault of what stands at the end of a path is one of a word on the path.
use Rattle.std.proofs.Common.{◌≡◌, ℕ, ◌<◌, ◌≤◌, ◌||◌, ◌*◌, ◌++◌, inl, inr, Bool, true, false, List, [], ◌∷◌, length, Option, Some, None, Result, Err, refl, sym, subst, ap, ◌∙◌, arith}
use Rattle.rb_core.specs.declared.program.Program.{Program}
use Rattle.rb_core.specs.declared.types.DataDecl.{DataDecl}
use Rattle.rb_core.specs.declared.types.Ty.TheVariants.{Named}
use Rattle.rb_core.specs.TypedPrograms.{IsTyped}
use Rattle.rb_layout.specs.Agreement.{Agrees}
use Rattle.rb_layout.specs.Flattening.{flat_layouts}
use Rattle.rb_layout.specs.declared.layout.Kind.{Kind}
use Rattle.rb_layout.specs.declared.layout.Kind.TheVariants.{Const, Bits, Word, Pointer}
use Rattle.rb_layout.specs.declared.layout.Layout.{Layout}
use Rattle.rb_layout.specs.declared.layout.Leaf.{Leaf}
use Rattle.rb_rel.specs.Relation.{shape_length}
use Rattle.rb_rel.proofs.Existence.{has_layout}
use Rattle.rb_image_text.specs.Places.{AreInPlace}
use Rattle.rb_image_text.specs.declared.fault.ImageFault.{ImageFault}
use Rattle.rb_image_text.specs.declared.fault.ImageFault.TheVariants.{BadPointer}
use Rattle.rb_image_text.specs.declared.image.Image.{Image}
use Rattle.rb_image_text.specs.declared.image.ImageBlock.{ImageBlock}
use Rattle.rb_image.specs.declared.kept.Kept.{Kept}
use Rattle.rb_image.specs.LeafWords.{block_addresses}
use Rattle.rb_image.specs.Orders.{LocatedPart, order_of}
use Rattle.rb_image.specs.Roots.{WordsFit, kept_from, widths_of}
use Rattle.rb_image.specs.Splits.{or_fault}
use Rattle.rb_image.specs.Ways.{fault_of, is_below, leads_below, refusal_of, refused_below}
use Rattle.rb_image.proofs.LeafLemmas.{some_words}
use Rattle.rb_image.proofs.SpotLemmas.{In, flat_map_in, in_get, in_right}
use Rattle.rb_peek.specs.Paths.{IsCome, IsKeptAt, IsPathWord, is_there, part_bits, word_below, words_ahead}
use Rattle.rb_peek.specs.Peeking.{end_words, words_there}
use Rattle.rb_peek.specs.Rebuilds.{end_of, rebuilt_words, unless_refused}
use Rattle.rb_peek.specs.Walks.{Waypoint, Where, where_after_step}
use Rattle.rb_peek.proofs.PathAnswers.{root_long}
use Rattle.rb_peek.proofs.PathSubvalues.{IsLed, passed_led}
use Rattle.rb_peek.proofs.PathWords.{words_first}
use Rattle.rb_peek.proofs.RebuildFaults.{IsTold, position_told}
use Rattle.rb_peek.proofs.WayParts.{all_there, first_is}
use Rattle.rb_peek.proofs.WellLeaves.{AreWell, below_there, no_refusal, seen_leaf}

-- a pointer that is refused is named with its base
refusal_named : (m : List ImageBlock) (leaf : Leaf) (bits : Kept) (kind : Kind) (fault : ImageFault) → refusal_of m leaf bits kind ≡ Some fault → (address : ℕ) × (fault ≡ BadPointer bits.base address)
refusal_named m leaf bits (Const c) fault e = absurd cc
refusal_named m leaf bits (Bits path a) fault e = absurd cc
refusal_named m leaf bits (Word path j) fault e = absurd cc
refusal_named m leaf bits (Pointer align b) fault e = go _ e
  where
    go : (o : Option ℕ) → fault_of (or_fault o (BadPointer bits.base (bits.number * align))) ≡ Some fault → (address : ℕ) × (fault ≡ BadPointer bits.base address)
    go None h = let same : BadPointer bits.base (bits.number * align) ≡ fault = cc in (bits.number * align, sym same)
    go (Some at) h = absurd cc

or_left : (a b : Bool) → a ≡ true → (a || b) ≡ true
or_left true b e = refl
or_left false b e = absurd cc

-- words that fit a data type of the program are some
pub some_root : (p : Program) → IsTyped p → Agrees p → (t : ℕ) → t < length p.types → (words : List ℕ) → WordsFit (widths_of (flat_layouts p) (Named t)) words → 1 ≤ length words
some_root p typed agrees t small words fit =
    let l = has_layout p typed agrees t small in
    let some = some_words p typed agrees t l.0 l.1 in
    let long = root_long (flat_layouts p) t words fit ∙ ap shape_length l.1 in
    omega (arith, some, long)

module _ (types : List DataDecl) (layouts : List Layout) (image : Image) (t : ℕ) (path : List ℕ) (placed : AreInPlace image.blocks) (well : AreWell layouts) where
  abbrev m : List ImageBlock
  m = image.blocks

  abbrev pub On : ℕ → ℕ → Type 0
  On = IsPathWord types layouts image t path

  pub root_on : (words : List ℕ) → 1 ≤ length words → IsKeptAt (kept_from 0 words) 0 0
  root_on [] some = absurd (omega (arith, some))
  root_on (n ∷ ns) some = record { number = 0; word = record { number = n; base = 0; place = 0 }; is_word = refl; is_base = refl; is_place = refl }

  module _ (some : 1 ≤ length image.root) (w : Where) (come : IsCome types layouts image t path path w) where
    abbrev pub none_on : On 0 0
    none_on = inl (root_on image.root some)

    abbrev s : Waypoint
    s = w.last

    led : IsLed types layouts image t path s
    led = passed_led types layouts image t path w come s (in_right s w.before (s ∷ []) (inl refl))

    -- a part on the way to the end, or below it, is of a word on the path
    part_on : (i : ℕ) (at : List ℕ) → s.at ≡ i ∷ at → (part : LocatedPart) → In part (order_of s.leaf) → (reached_there : In (part_bits m s part) (word_below m s.leaf s.words (block_addresses m s.leaf s.words) s.at part))
        → On (part_bits m s part).base (part_bits m s part).place
    part_on i at is part there below = elim led.1 [
      | inl none ↦ absurd (let no = sym none ∙ is in cc)
      | inr b ↦
          let k = part_bits m s part in
          let ahead : In k (words_ahead m s) = flat_map_in (word_below m s.leaf s.words (block_addresses m s.leaf s.words) s.at) k part (order_of s.leaf) there below in
          let longer : In k (words_ahead m (record s { at = b.field ∷ b.more })) = subst (λ (p : List ℕ). In k (words_ahead m (record s { at = p }))) b.is_path ahead in
          let first : In k (words_ahead m (record s { at = b.field ∷ [] })) = words_first m s.leaf s.words (block_addresses m s.leaf s.words) b.field b.more k longer in
          let passed = (where_after_step b.before b.field b.here).last in
          let same : passed ≡ record s { at = b.field ∷ [] } = ap (λ (y : Waypoint). record y { at = y.at ++ b.field ∷ [] }) b.is_last in
          let g = in_get k (words_ahead m passed) (subst (λ (y : Waypoint). In k (words_ahead m y)) (sym same) first) in
          inr (inr (record {
            before = b.before;
            field = b.field;
            here = b.here;
            is_step = b.is_step;
            is_kept = record { number = g.0; word = k; is_word = g.1; is_base = refl; is_place = refl };
          }))
    ]

    abbrev Words : Type 0
    Words = Result (List ℕ) ImageFault

    abbrev refused : Option ImageFault
    refused = refused_below m s.leaf s.words (block_addresses m s.leaf s.words) s.at (order_of s.leaf)

    -- the first pointer on the way that is refused
    record First (f : ImageFault) : Type 0 where
      part : LocatedPart
      there : In part (order_of s.leaf)
      leads : leads_below s.leaf s.at part.part.kind ≡ true
      is_read : is_there (block_addresses m s.leaf s.words) part.block ≡ true
      is_fault : refusal_of m s.leaf (part_bits m s part) part.part.kind ≡ Some f

    -- what stands at the end inside a leaf
    inside_told : (i : ℕ) (at : List ℕ) → s.at ≡ i ∷ at → (fault : ImageFault) → ◌≡◌ {A = Words} (rebuilt_words types layouts m w) (Err fault) → IsTold On none_on fault
    inside_told i at is fault e = elim (seen_leaf layouts m well s.ty s.words (record s { at = [] }) led.0.is_seen) [
      | inl leaf ↦ turn (λ f g. (let x = first_is m placed s.leaf leaf.flat leaf.once leaf.low s.words s.at f g in record { part = x.part; there = x.there; leads = x.leads; is_read = x.is_read; is_fault = x.is_fault })) (λ none part h below. all_there m placed s.leaf leaf.flat leaf.once leaf.low s.words s.at none part h below) refused refl e
      | inr none ↦ turn (λ f g. absurd (no_refusal m s none f g)) (λ free part h below. absurd (subst (In part) none h)) refused refl e
    ]
      where
        turn : ((f : ImageFault) → refused ≡ Some f → First f) → (refused ≡ None → (part : LocatedPart) → In part (order_of s.leaf) → leads_below s.leaf s.at part.part.kind ≡ true → is_there (block_addresses m s.leaf s.words) part.block ≡ true)
            → (o : Option ImageFault) → refused ≡ o → ◌≡◌ {A = Words} (unless_refused types layouts m o (end_of types layouts m w)) (Err fault) → IsTold On none_on fault
        turn first all (Some f) found g =
            let x = first f found in
            let k = part_bits m s x.part in
            let same : f ≡ fault = cc in
            let named = refusal_named m s.leaf k x.part.part.kind f x.is_fault in
            inl (k.base, k.place, part_on i at is x.part x.there (below_there m s x.part x.is_read x.leads), inr (named.0, sym same ∙ named.1))
        turn first all None free g =
            position_told On none_on types layouts m (end_of types layouts m w)
            (λ part h below.
            (let leads : leads_below s.leaf s.at part.part.kind ≡ true = or_left (is_below s.at part.part.kind) _ below in
            part_on i at is part h (below_there m s part (all free part h leads) leads))) fault g

    -- the fault of the words at the end stands in a word on the path, or is want of memory
    pub end_told : (fault : ImageFault) → ◌≡◌ {A = Words} (end_words types layouts image w) (Err fault) → IsTold On none_on fault
    end_told fault e = go s.at refl e
      where
        go : (at : List ℕ) → s.at ≡ at → ◌≡◌ {A = Words} (words_there types layouts image w at) (Err fault) → IsTold On none_on fault
        go [] is g = absurd cc
        go (i ∷ at) is g = inside_told i at is fault g
