-- How deep a descent can be: a place below another lies lower, or is held in the other's root words, and no type holds itself so.
use Rattle.std.proofs.Common.{◌≡◌, ℕ, zero, suc, ◌+◌, ◌*◌, ◌<◌, ◌≤◌, ◌||◌, eqb, ◌⊎◌, inl, inr, Bool, true, false, List, [], ◌∷◌, ◌++◌, length, replicate, Option, Some, None, Result, Ok, Err, refl, sym, subst, ap, ◌∙◌, arith}
use Rattle.std.specs.Prelude.{slice_get}
use Rattle.std.specs.List.{AllByRecursion, IsDistinct, list_any}
use Rattle.std.proofs.lemmas.Map.Steps.{length-le_from_distinct_below}
use Rattle.std.proofs.lemmas.Option.{slice_get_within}
use Rattle.std.proofs.lemmas.Grind.{common_steps}
use Rattle.rb_core.specs.declared.program.Program.{Program}
use Rattle.rb_core.specs.declared.types.Ty.{Ty}
use Rattle.rb_core.specs.declared.types.Ty.TheVariants.{Int, Named}
use Rattle.rb_core.specs.TypedPrograms.{IsTyped}
use Rattle.rb_layout.specs.declared.layout.Block.{Block}
use Rattle.rb_layout.specs.declared.layout.FlatWord.{FlatWord}
use Rattle.rb_layout.specs.declared.layout.Kind.TheVariants.{Word, Pointer}
use Rattle.rb_layout.specs.declared.layout.Layout.{Layout}
use Rattle.rb_layout.specs.declared.layout.Leaf.{Leaf}
use Rattle.rb_layout.specs.declared.layout.Part.{Part}
use Rattle.rb_layout.specs.declared.layout.WordRef.{WordRef}
use Rattle.rb_layout.specs.A10.{HoldsField}
use Rattle.rb_layout.specs.Agreement.{Agrees}
use Rattle.rb_layout.specs.Cycles.{IsChain}
use Rattle.rb_layout.specs.Flat.{IsAbove, IsFlat}
use Rattle.rb_layout.specs.Flattening.{flat_layouts}
use Rattle.rb_layout.specs.Pointers.{PointsTo}
use Rattle.rb_layout.specs.Positions.{Open, layout_of, open_positions}
use Rattle.rb_layout.specs.Words.{words_in, words_of_block}
use Rattle.rb_layout.proofs.OpenPositions.{position-typed}
use Rattle.rb_rel.specs.Relation.{shape_length, word_count}
use Rattle.rb_rel.proofs.Agreeing.{lawful}
use Rattle.rb_rel.proofs.Lawful.{Holder, HoldsUnit, units_of}
use Rattle.rb_rel.proofs.Tidy.{tidy_leaves}
use Rattle.rb_image_text.specs.declared.fault.ImageFault.{ImageFault}
use Rattle.rb_image_text.specs.declared.image.ImageBlock.{ImageBlock}
use Rattle.rb_image.specs.declared.kept.Kept.{Kept}
use Rattle.rb_image.specs.Blocks.{block_at}
use Rattle.rb_image.specs.Orders.{block_order, order_of}
use Rattle.rb_image.specs.Parts.{At, addresses_of, field_word, field_words, look, look_layout, look_leaf, place_at, places_of_leaf}
use Rattle.rb_image.specs.Sound.{Looking}
use Rattle.rb_image.specs.Splits.{and_then, leaf_at, nothing, word_at}
use Rattle.rb_image.specs.inner.Ending.{depth_bound, EndBelow, DescentEnds}
use Rattle.rb_image.proofs.EndLemmas.{ends_more}
use Rattle.rb_image.proofs.FallLemmas.{AreBelow, AreLow, AreUnder, IsBelow, IsUnder, RootPart, below_under, each_word, examine_high, examine_low, field_below, field_under, less_high, none_known, nothing_below, one_or_all, same_Ok}
use Rattle.rb_image.proofs.LeafLemmas.{some_words}
use Rattle.rb_image.proofs.SpotLemmas.{In, IsInBlock, get_in, in_flat_map, in_get, in_order, words_in_order}

-- Pointers of root words ---------------------------------------------------------------------
module _ (leaf : Leaf) where
  -- a pointer in a root word
  record RootPointer : Type 0 where
    word : FlatWord
    number : ℕ
    part : Part
    index : ℕ
    align : ℕ
    block : ℕ
    is_word : slice_get leaf.root number ≡ Some word
    is_part : slice_get word.parts index ≡ Some part
    is_pointer : part.kind ≡ Pointer align block

  there : (b j : ℕ) (f : FlatWord) (x : Option Block) → slice_get leaf.blocks b ≡ x → slice_get (words_of_block x) j ≡ Some f → (block : Block) × (slice_get leaf.blocks b ≡ Some block)
  there b j f None is e = absurd cc
  there b j f (Some block) is e = (block, is)

  module _ (b align : ℕ) (r : WordRef) (l : ℕ) (points : PointsTo leaf r l align b) (up : IsAbove r.block b)
      (go : (a : ℕ) (x : Block) → b < a → slice_get leaf.blocks a ≡ Some x → RootPointer) where
    above : (o : Option ℕ) → r.block ≡ o → RootPointer
    above None same = record {
      word = points.word;
      number = r.word;
      part = points.part;
      index = points.number;
      align = align;
      block = b;
      is_word = subst (λ c. slice_get (words_in leaf c) r.word ≡ Some points.word) same points.is_word;
      is_part = points.is_part;
      is_pointer = points.is_pointer;
    }
    above (Some a) same =
        let e : slice_get (words_of_block (slice_get leaf.blocks a)) r.word ≡ Some points.word = subst (λ c. slice_get (words_in leaf c) r.word ≡ Some points.word) same points.is_word in
        let x = there a r.word points.word (slice_get leaf.blocks a) refl e in
        go a x.0 (subst (λ c. IsAbove c b) same up) x.1

  -- where there is a block, a root word has a pointer
  from_root : IsFlat leaf → (fuel b : ℕ) (block : Block) → length leaf.blocks ≤ fuel + b → slice_get leaf.blocks b ≡ Some block → RootPointer
  from_root flat zero b block le is = absurd (let lt = slice_get_within leaf.blocks b block is in omega (arith, le, lt))
  from_root flat (suc fuel) b block le is =
      let q = flat.pointed b block is in
      above b block.align q.0 q.1 q.2 q.3 (λ a x lt e. from_root flat fuel a x (omega (arith, le, lt)) e) q.0.block refl

-- Places below -------------------------------------------------------------------------------
module _ (p : Program) (typed : IsTyped p) (agrees : Agrees p) (m : List ImageBlock) (none : block_at m 0 ≡ None) where
  abbrev layouts : List Layout
  layouts = flat_layouts p

  -- a place below one of type t lies lower, or is held in its root words; or it has no layout
  abbrev Falls : ℕ → ℕ → At → Type 0
  Falls high t q = (layout_of layouts q.ty ≡ None) ⊎ (((1 ≤ high) × AreBelow high q.words) ⊎ (HoldsField p.types layouts t q.ty × AreUnder high q.words))

  module _ (t : ℕ) (ws : List Kept) (high : ℕ) (under : AreUnder high ws) (layout : Layout) (is_layout : layout_of layouts t ≡ Some layout)
      (n : ℕ) (leaf : Leaf) (is_leaf : slice_get layout.leaves n ≡ Some leaf) (ats : List ℕ) (examined : addresses_of m leaf ws ≡ Ok ats) where
    none_yet : AreLow high (replicate (length leaf.blocks) 0)
    none_yet = none_known high (length leaf.blocks)

    low : AreLow high ats
    low = examine_low m none leaf ws high under (replicate (length leaf.blocks) 0) ats (order_of leaf) examined none_yet

    rootful : RootPointer leaf → 1 ≤ high
    rootful r =
        let ref : WordRef = record { block = None; word = r.number } in
        let w = (tidy_leaves p typed agrees t layout n leaf is_layout is_leaf).within ref r.word r.index r.part r.is_word r.is_part in
        let s = words_in_order (block_order leaf (length leaf.blocks)) None 0 0 leaf.root r.word r.part (get_in r.word leaf.root r.number r.is_word) (get_in r.part r.word.parts r.index r.is_part) (omega (arith, w.0, w.1)) in
        examine_high m none leaf ws high under (replicate (length leaf.blocks) 0) ats (order_of leaf) s.0 r.align r.block s.1 (ap (λ (x : Part). x.kind) s.2 ∙ r.is_pointer) examined none_yet

    module _ (k : ℕ) (o : Open) (is_open : slice_get (open_positions p.types leaf.prov) k ≡ Some o) (s : ℕ) (is_ty : o.ty ≡ Named s) where
      abbrev Held : Type 0
      Held = HoldsField p.types layouts t s

      abbrev word : List ℕ → ℕ → Kept
      word = field_word m ws ats (order_of leaf)

      held : (j : ℕ) (f : FlatWord) (x : Part) → In f leaf.root → In x f.parts → x.kind ≡ Word o.path j → Held
      held j f x h g is =
          let a = in_get f leaf.root h in
          let b = in_get x f.parts g in
          record {
            layout = layout;
            leaf_number = n;
            leaf = leaf;
            word_number = a.0;
            word = f;
            part_number = b.0;
            part = x;
            path = o.path;
            index = j;
            is_layout = is_layout;
            is_leaf = is_leaf;
            is_word = a.1;
            is_part = b.1;
            is_kind = is;
            is_field = position-typed p.types leaf.prov k o is_open ∙ ap Some is_ty;
          }

      held_at : (j : ℕ) → RootPart (order_of leaf) o.path j → Held
      held_at j r = elim (in_order leaf r.spot r.is_spot) [
        | inl b ↦ absurd (subst IsInBlock r.at_root b)
        | inr x ↦ held j x.word r.spot.part x.is_word x.is_part r.is_kind
      ]

      words_under : (count : ℕ) → AreUnder high (field_words word o.path 0 count)
      words_under count = each_word (IsUnder high) (below_under high nothing (nothing_below high)) word o.path (λ j. field_under m none leaf ws high under ats low (order_of leaf) o.path j) 0 count

      holder_kind : (ty : Ty) (x : Part) → HoldsUnit ty o.path 0 x → ty ≡ Named s → x.kind ≡ Word o.path 0
      holder_kind ty x h is = subst (λ u. HoldsUnit u o.path 0 x) is h

      -- the part that holds the first word stands in a root word, or in a block, and then a root word has a pointer
      by_holder : (h : Holder leaf o.ty o.path 0) (b : Option ℕ) → h.ref.block ≡ b → (1 ≤ high) ⊎ Held
      by_holder h None same =
          let e : slice_get leaf.root h.ref.word ≡ Some h.word = subst (λ c. slice_get (words_in leaf c) h.ref.word ≡ Some h.word) same h.is_word in
          inr (held 0 h.word h.part (get_in h.word leaf.root h.ref.word e) (get_in h.part h.word.parts h.number h.is_part) (holder_kind o.ty h.part h.is_holder is_ty))
      by_holder h (Some b) same =
          let e : slice_get (words_of_block (slice_get leaf.blocks b)) h.ref.word ≡ Some h.word = subst (λ c. slice_get (words_in leaf c) h.ref.word ≡ Some h.word) same h.is_word in
          let x = there leaf b h.ref.word h.word (slice_get leaf.blocks b) refl e in
          inl (rootful (from_root leaf ((lawful p agrees typed).flat t layout n leaf is_layout is_leaf) (length leaf.blocks) b x.0 (omega arith) x.1))

      first_held : 0 < word_count layouts (Named s) → (1 ≤ high) ⊎ Held
      first_held some =
          let h = (lawful p agrees typed).all_held t layout n leaf is_layout is_leaf k o 0 is_open (subst (λ u. 0 < units_of layouts u) (sym is_ty) some) in
          by_holder h h.ref.block refl

      field_falls : (l : Option Layout) → layout_of layouts s ≡ l → Falls high t (record { ty = s; words = field_words word o.path 0 (word_count layouts (Named s)) })
      field_falls None is = inl is
      field_falls (Some l) is =
          let has : 1 ≤ length l.shape = some_words p typed agrees s l is in
          let positive : 0 < length l.shape = omega (arith, has) in
          let some : 0 < word_count layouts (Named s) = subst (λ x. 0 < shape_length x) (sym is) positive in
          let count = word_count layouts (Named s) in
          elim (one_or_all (RootPart (order_of leaf) o.path) (IsBelow high) (nothing_below high) word o.path (λ j. field_below m none leaf ws high under ats low (order_of leaf) o.path j) 0 count) [
            | inl x ↦ inr (inr (held_at x.0 x.1, words_under count))
            | inr all ↦ elim (first_held some) [
              | inl some_high ↦ inr (inl (some_high, all))
              | inr h ↦ inr (inr (h, words_under count))
            ]
          ]

    position_falls : (k : ℕ) (o : Open) → slice_get (open_positions p.types leaf.prov) k ≡ Some o → (ty : Ty) → o.ty ≡ ty → (q : At) → In q (place_at layouts (field_word m ws ats (order_of leaf)) o.path ty) → Falls high t q
    position_falls k o is_open (Int bits) is q h = absurd h
    position_falls k o is_open (Named s) is q (inr h) = absurd h
    position_falls k o is_open (Named s) is q (inl e) = subst (Falls high t) (sym e) (field_falls k o is_open s is (layout_of layouts s) refl)

    places_fall : (q : At) → In q (places_of_leaf p.types layouts m leaf ws ats) → Falls high t q
    places_fall q h =
        let r = in_flat_map (λ (o : Open). place_at layouts (field_word m ws ats (order_of leaf)) o.path o.ty) q (open_positions p.types leaf.prov) h in
        let g = in_get r.0 (open_positions p.types leaf.prov) r.1 in
        position_falls g.0 r.0 g.1 r.0.ty refl q r.2

  -- what comes of a look, and of a place below
  none_in : (ps : List At) (q : At) → ◌≡◌ {A = Result (List At) ImageFault} (Ok []) (Ok ps) → In q ps → ⊥
  none_in ps q e h = subst (In q) (sym (same_Ok [] ps e)) h

  module _ (t : ℕ) (ws : List Kept) (high : ℕ) (under : AreUnder high ws) (ps : List At) (q : At) (h : In q ps) where
    leaf_falls : (layout : Layout) → layout_of layouts t ≡ Some layout → (n : ℕ) (leaf : Leaf) → slice_get layout.leaves n ≡ Some leaf
        → (r : Result (List ℕ) ImageFault) → addresses_of m leaf ws ≡ r → and_then r (λ ats. Ok (places_of_leaf p.types layouts m leaf ws ats)) ≡ Ok ps → Falls high t q
    leaf_falls layout is n leaf at (Err f) examined e = absurd cc
    leaf_falls layout is n leaf at (Ok ats) examined e =
        places_fall t ws high under layout is n leaf at ats examined q (subst (In q) (sym (same_Ok (places_of_leaf p.types layouts m leaf ws ats) ps e)) h)

    number_falls : (layout : Layout) → layout_of layouts t ≡ Some layout → (n : ℕ) (o : Option Leaf) → slice_get layout.leaves n ≡ o → look_leaf p.types layouts m ws o ≡ Ok ps → Falls high t q
    number_falls layout is n None at e = absurd (none_in ps q e h)
    number_falls layout is n (Some leaf) at e = leaf_falls layout is n leaf at (addresses_of m leaf ws) refl e

    splits_fall : (layout : Layout) → layout_of layouts t ≡ Some layout → (r : Result ℕ ImageFault) → and_then r (λ n. look_leaf p.types layouts m ws (slice_get layout.leaves n)) ≡ Ok ps → Falls high t q
    splits_fall layout is (Err f) e = absurd cc
    splits_fall layout is (Ok n) e = number_falls layout is n (slice_get layout.leaves n) refl e

    layout_falls : (o : Option Layout) → layout_of layouts t ≡ o → look_layout p.types layouts m ws o ≡ Ok ps → Falls high t q
    layout_falls None is e = absurd (none_in ps q e h)
    layout_falls (Some layout) is e = splits_fall layout is (leaf_at layout.tree m ws) e

    falls : look p.types layouts m (record { ty = t; words = ws }) ≡ Ok ps → Falls high t q
    falls e = layout_falls (layout_of layouts t) refl e

  -- Chains of types --------------------------------------------------------------------------
  abbrev R : ℕ → ℕ → Type 0
  R = HoldsField p.types layouts

  abbrev count : ℕ
  count = length layouts

  chain_more : (u : ℕ) (ts : List ℕ) (t s : ℕ) → IsChain R u ts t → R t s → IsChain R u (ts ++ t ∷ []) s
  chain_more u [] t s h r = (h, r)
  chain_more u (v ∷ ts) t s h r = (h.0, chain_more v ts t s h.1 r)

  -- the types from which one came to a type, each once
  record Trail (us : List ℕ) (t : ℕ) : Type 0 where
    apart : IsDistinct eqb us
    few : (q : ℕ) → list_any (eqb q) us ≡ true → q < count
    leads : (u : ℕ) → list_any (eqb u) us ≡ true → (ts : List ℕ) × IsChain R u ts t

  begun : (t : ℕ) → Trail [] t
  unfolding IsDistinct
  begun t = record { apart = tt; few = λ q e. absurd cc; leads = λ u e. absurd cc }

  eqb_is : (a b : ℕ) → eqb a b ≡ true → a ≡ b
  eqb_is a b e = grind (arith, common_steps)

  second : (a b : Bool) → (a || b) ≡ false → (a ≡ false) × (b ≡ false)
  second true b e = absurd cc
  second false b e = (refl, e)

  all_other : (t : ℕ) (us : List ℕ) → list_any (eqb t) us ≡ false → AllByRecursion (λ y. eqb t y ≡ false) us
  all_other t [] e = tt
  all_other t (u ∷ us) e = let s = second (eqb t u) (list_any (eqb t) us) e in (s.0, all_other t us s.1)

  module _ (us : List ℕ) (t s : ℕ) (trail : Trail us t) (r : R t s) where
    not_there : (b : Bool) → list_any (eqb t) us ≡ b → list_any (eqb t) us ≡ false
    not_there false is = is
    not_there true is = let x = trail.leads t is in absurd (agrees.a10 t r.layout r.is_layout x.0 x.1)

    few_more : (q : ℕ) (b : Bool) → eqb q t ≡ b → (b || list_any (eqb q) us) ≡ true → q < count
    few_more q true is e = let lt = slice_get_within layouts t r.layout r.is_layout in let same = eqb_is q t is in omega (arith, lt, same)
    few_more q false is e = trail.few q e

    leads_more : (u : ℕ) (b : Bool) → eqb u t ≡ b → (b || list_any (eqb u) us) ≡ true → (ts : List ℕ) × IsChain R u ts s
    leads_more u true is e = ([], subst (λ x. R x s) (sym (eqb_is u t is)) r)
    leads_more u false is e = let x = trail.leads u e in (x.0 ++ t ∷ [], chain_more u x.0 t s x.1 r)

    went : Trail (t ∷ us) s
    unfolding IsDistinct
    went = record {
      apart = (all_other t us (not_there (list_any (eqb t) us) refl), trail.apart);
      few = λ q e. few_more q (eqb q t) refl e;
      leads = λ u e. leads_more u (eqb u t) refl e;
    }

    still_few : length us + 1 ≤ count
    still_few = let le = length-le_from_distinct_below (t ∷ us) count went.apart went.few in omega (arith, le)

  -- Depths -----------------------------------------------------------------------------------
  abbrev L : Looking
  L = look p.types layouts m

  all_in : (P : At → Type 0) (ps : List At) → ((q : At) → In q ps → P q) → AllByRecursion P ps
  all_in P [] all = tt
  all_in P (q ∷ ps) all = (all q (inl refl), all_in P ps (λ x h. all x (inr h)))

  over : (k : ℕ) (x : At) (r : Result (List At) ImageFault) → L x ≡ r → ((ps : List At) → L x ≡ Ok ps → (q : At) → In q ps → DescentEnds L k q) → EndBelow (DescentEnds L k) r
  over k x (Err f) is all = tt
  over k x (Ok ps) is all = all_in (DescentEnds L k) ps (all ps is)

  no_layout_ends : (k : ℕ) (q : At) → 1 ≤ k → layout_of layouts q.ty ≡ None → DescentEnds L k q
  no_layout_ends k q some is =
      let e : L q ≡ Ok [] = ap (look_layout p.types layouts m q.words) is in
      ends_more L 1 k q (subst (EndBelow (DescentEnds L 0)) (sym e) tt) some

  abbrev level : ℕ → ℕ → ℕ
  level high j = suc (high * suc count + suc j)

  module _ (high : ℕ) (lower : (q : At) → 1 ≤ high → AreBelow high q.words → DescentEnds L (suc (high * suc count)) q) where
    -- below a place: so many more types on the same height
    next : (j : ℕ) (q : At) (t : ℕ) → Falls high t q → (R t q.ty → AreUnder high q.words → DescentEnds L (high * suc count + suc j) q) → DescentEnds L (high * suc count + suc j) q
    next j q t (inl bare) go = no_layout_ends (high * suc count + suc j) q (omega arith) bare
    next j q t (inr (inl h)) go = ends_more L (suc (high * suc count)) (high * suc count + suc j) q (lower q h.0 h.1) (omega arith)
    next j q t (inr (inr h)) go = go h.0 h.1

    flat_ends : (j : ℕ) (us : List ℕ) (t : ℕ) (ws : List Kept) → AreUnder high ws → Trail us t → length us + j ≡ count → DescentEnds L (level high j) (record { ty = t; words = ws })
    flat_ends zero us t ws under trail long = over (high * suc count + 1) (record { ty = t; words = ws }) (L (record { ty = t; words = ws })) refl (λ ps is q h.
        next zero q t (falls t ws high under ps q h is) (λ r u. absurd (let few = still_few us t q.ty trail r in omega (arith, few, long))))
    flat_ends (suc j) us t ws under trail long = over (high * suc count + suc (suc j)) (record { ty = t; words = ws }) (L (record { ty = t; words = ws })) refl (λ ps is q h.
        next (suc j) q t (falls t ws high under ps q h is) (λ r u.
        ends_more L (level high j) (high * suc count + suc (suc j)) q (flat_ends j (t ∷ us) q.ty q.words u (went us t q.ty trail r) (omega (arith, long))) (omega arith)))

  mul-more : (a b : ℕ) → suc a * b ≡ b + a * b
  mul-more a b = omega arith

  all_end : (high t : ℕ) (ws : List Kept) → AreUnder high ws → DescentEnds L (level high count) (record { ty = t; words = ws })
  all_end zero t ws under = flat_ends zero (λ q some b. absurd (omega (arith, some))) count [] t ws under (begun t) (omega arith)
  all_end (suc high) t ws under =
      let e = mul-more high (suc count) in
      flat_ends (suc high) (λ q some b. ends_more L (level high count) (suc (suc high * suc count)) q (all_end high q.ty q.words (λ j. less_high high (word_at q.words j) (b j))) (omega (arith, e))) count [] t ws under (begun t) (omega arith)

  pub descents_end : (high t : ℕ) (ws : List Kept) → AreUnder high ws → DescentEnds L (depth_bound high count) (record { ty = t; words = ws })
  unfolding depth_bound
  descents_end high t ws under = all_end high t ws under
