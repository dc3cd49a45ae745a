-- The words on a path are those that were gathered, and a fault of one is found in the leaves that were passed.
use Rattle.std.proofs.Common.{◌≡◌, ℕ, ◌++◌, ◌&&◌, ◌||◌, nat_eq, inl, inr, Bool, true, false, List, [], ◌∷◌, length, Option, Some, None, Ok, Err, refl, sym, subst, ap, ◌∙◌, arith}
use Rattle.std.specs.Prelude.{◌⊎◌, if◌then◌else◌}
use Rattle.std.specs.List.{flat_map, list_any, starts_with}
use Rattle.std.proofs.lemmas.Grind.{common_steps}
use Rattle.std.specs.Option.{option_or}
use Rattle.std.proofs.lemmas.Bool.{and_parts}
use Rattle.rb_core.specs.declared.types.DataDecl.{DataDecl}
use Rattle.rb_layout.specs.declared.layout.Kind.{Kind}
use Rattle.rb_layout.specs.declared.layout.Kind.TheVariants.{Const, Bits, Word, Pointer}
use Rattle.rb_layout.specs.declared.layout.Layout.{Layout}
use Rattle.rb_layout.specs.declared.layout.Leaf.{Leaf}
use Rattle.rb_image_text.specs.declared.fault.ImageFault.{ImageFault}
use Rattle.rb_image_text.specs.declared.image.Image.{Image}
use Rattle.rb_image_text.specs.declared.image.ImageBlock.{ImageBlock}
use Rattle.rb_image.specs.declared.kept.Kept.{Kept}
use Rattle.rb_image.specs.LeafWords.{block_addresses}
use Rattle.rb_image.specs.Orders.{LocatedPart, pointed_parts, block_order, order_of}
use Rattle.rb_image.specs.Parts.{At, bits_at}
use Rattle.rb_image.specs.Roots.{kept_from}
use Rattle.rb_image.specs.Ways.{is_below, leads_below}
use Rattle.rb_image.proofs.FallLemmas.{same_Ok}
use Rattle.rb_image.proofs.SpotLemmas.{In, flat_map_in, get_in, in_append, in_flat_map, in_get, in_left, in_right}
use Rattle.rb_peek.specs.Paths.{HasPathFault, IsKeptAt, IsOnPath, IsPathWord, is_there, part_bits, part_fault, words_ahead, words_asked, word_below, words_below}
use Rattle.rb_peek.specs.Walks.{Waypoint, Where, where_after_step}
use Rattle.rb_peek.specs.inner.Checking.{all_seen, fault_among, fault_at, fault_of_seen, fault_seen, first_ahead, is_kept_at, leads_there, words_of_path, words_seen}
use Rattle.rb_peek.proofs.Members.{any_in, in_any}
use Rattle.rb_peek.proofs.PathSubvalues.{Came, on_path_covered, passed_led, step_covered}
use Rattle.rb_peek.proofs.PathWalks.{Covers, Sees, see_is}

-- Members ------------------------------------------------------------------------------------

and_true : (a b : Bool) → a ≡ true → b ≡ true → (a && b) ≡ true
and_true true b x y = y
and_true false b x y = absurd cc

same_nat : (a b : ℕ) → nat_eq a b ≡ true → b ≡ a
same_nat a b e = grind (arith, common_steps)

nat_same : (a b : ℕ) → b ≡ a → nat_eq a b ≡ true
nat_same a b e = grind (arith, common_steps)

-- where a word is kept
record Stands (ks : List Kept) (base place : ℕ) : Type 0 where
  word : Kept
  there : In word ks
  is_base : word.base ≡ base
  is_place : word.place ≡ place

stands : (ks : List Kept) (base place : ℕ) → IsKeptAt ks base place → Stands ks base place
stands ks base place k = record { word = k.word; there = get_in k.word ks k.number k.is_word; is_base = k.is_base; is_place = k.is_place }

kept_there : (ks : List Kept) (base place : ℕ) → Stands ks base place → IsKeptAt ks base place
kept_there ks base place s = let g = in_get s.word ks s.there in record { number = g.0; word = s.word; is_word = g.1; is_base = s.is_base; is_place = s.is_place }

is_kept : (ks : List Kept) (base place : ℕ) → Stands ks base place → is_kept_at ks base place ≡ true
is_kept ks base place s =
    any_in (λ (k : Kept). nat_eq base k.base && nat_eq place k.place) s.word ks s.there
    (and_true (nat_eq base s.word.base) (nat_eq place s.word.place) (nat_same base s.word.base s.is_base) (nat_same place s.word.place s.is_place))

kept_is : (ks : List Kept) (base place : ℕ) → is_kept_at ks base place ≡ true → Stands ks base place
kept_is ks base place e =
    let r = in_any (λ (k : Kept). nat_eq base k.base && nat_eq place k.place) ks e in
    let b = and_parts (nat_eq base r.0.base) (nat_eq place r.0.place) r.2 in
    record { word = r.0; there = r.1; is_base = same_nat base r.0.base b.0; is_place = same_nat place r.0.place b.1 }

-- The first field of a path ------------------------------------------------------------------
first_field : (own : List ℕ) (i : ℕ) (path : List ℕ) → starts_with nat_eq own (i ∷ path) ≡ true → starts_with nat_eq own (i ∷ []) ≡ true
first_field [] i path e = absurd cc
first_field (x ∷ own) i path e = and_true (nat_eq i x) true (and_parts (nat_eq i x) _ e).0 refl

below_first : (i : ℕ) (path : List ℕ) (kind : Kind) → is_below (i ∷ path) kind ≡ true → is_below (i ∷ []) kind ≡ true
below_first i path (Const c) e = e
below_first i path (Bits own a) e = first_field own i path e
below_first i path (Word own j) e = first_field own i path e
below_first i path (Pointer align b) e = e

any_first : (i : ℕ) (path : List ℕ) (ss : List LocatedPart) → list_any (λ (s : LocatedPart). is_below (i ∷ path) s.part.kind) ss ≡ true
    → list_any (λ (s : LocatedPart). is_below (i ∷ []) s.part.kind) ss ≡ true
any_first i path ss e =
    let r = in_any (λ (s : LocatedPart). is_below (i ∷ path) s.part.kind) ss e in
    any_in (λ (s : LocatedPart). is_below (i ∷ []) s.part.kind) r.0 ss r.1 (below_first i path r.0.part.kind r.2)

leads_first : (leaf : Leaf) (i : ℕ) (path : List ℕ) (kind : Kind) → leads_below leaf (i ∷ path) kind ≡ true → leads_below leaf (i ∷ []) kind ≡ true
leads_first leaf i path kind e = go (is_below (i ∷ path) kind) refl e
  where
    ss : List LocatedPart
    ss = pointed_parts (block_order leaf (length leaf.blocks)) kind

    or_left : (a b : Bool) → a ≡ true → (a || b) ≡ true
    or_left true b x = refl
    or_left false b x = absurd cc

    or_right : (a b : Bool) → b ≡ true → (a || b) ≡ true
    or_right true b x = refl
    or_right false b x = x

    go : (b : Bool) → is_below (i ∷ path) kind ≡ b → (b || list_any (λ (s : LocatedPart). is_below (i ∷ path) s.part.kind) ss) ≡ true → leads_below leaf (i ∷ []) kind ≡ true
    go true is h = or_left (is_below (i ∷ []) kind) (list_any (λ (s : LocatedPart). is_below (i ∷ []) s.part.kind) ss) (below_first i path kind is)
    go false is h = or_right (is_below (i ∷ []) kind) (list_any (λ (s : LocatedPart). is_below (i ∷ []) s.part.kind) ss) (any_first i path ss h)

module _ (m : List ImageBlock) (leaf : Leaf) (ws : List Kept) (ats : List ℕ) where
  -- the words on the way to what stands at a path are among those on the way to its first field
  word_first : (i : ℕ) (path : List ℕ) (s : LocatedPart) (k : Kept) → In k (word_below m leaf ws ats (i ∷ path) s) → In k (word_below m leaf ws ats (i ∷ []) s)
  word_first i path s k h = go (leads_there leaf ats (i ∷ path) s) refl h
    where
      go : (b : Bool) → leads_there leaf ats (i ∷ path) s ≡ b → In k (if b then bits_at m ws ats s ∷ [] else []) → In k (word_below m leaf ws ats (i ∷ []) s)
      go true is g =
          let b = and_parts (is_there ats s.block) (leads_below leaf (i ∷ path) s.part.kind) is in
          let leads : leads_there leaf ats (i ∷ []) s ≡ true =
          and_true (is_there ats s.block) (leads_below leaf (i ∷ []) s.part.kind) b.0 (leads_first leaf i path s.part.kind b.1) in
          subst (λ (t : Bool). In k (if t then bits_at m ws ats s ∷ [] else [])) (sym leads) g
      go false is g = absurd g

  pub words_first : (i : ℕ) (path : List ℕ) (k : Kept) → In k (words_below m leaf ws ats (i ∷ path)) → In k (words_below m leaf ws ats (i ∷ []))
  words_first i path k h =
      let r = in_flat_map (word_below m leaf ws ats (i ∷ path)) k (order_of leaf) h in
      flat_map_in (word_below m leaf ws ats (i ∷ [])) k r.0 (order_of leaf) r.1 (word_first i path r.0 k r.2)

-- Faults of parts ----------------------------------------------------------------------------
first_left : (a b : Option ImageFault) (fault : ImageFault) → option_or a b ≡ Some fault → (a ≡ Some fault) ⊎ (b ≡ Some fault)
first_left None b fault e = inr e
first_left (Some f) b fault e = inl e

first_none : (a b : Option ImageFault) → option_or a b ≡ None → (a ≡ None) × (b ≡ None)
first_none None b e = (refl, e)
first_none (Some f) b e = absurd cc

module _ (on : ℕ → ℕ → Bool) (m : List ImageBlock) where
  record BadAmong (leaf : Leaf) (ws : List Kept) (ats : List ℕ) (ss : List LocatedPart) (fault : ImageFault) : Type 0 where
    part : LocatedPart
    there : In part ss
    is_read : is_there ats part.block ≡ true
    is_on : on (bits_at m ws ats part).base (bits_at m ws ats part).place ≡ true
    is_fault : part_fault m leaf (bits_at m ws ats part) part.part.kind ≡ Some fault

  bad_here : (leaf : Leaf) (ws : List Kept) (ats : List ℕ) (s : LocatedPart) (ss : List LocatedPart) (fault : ImageFault) → fault_at on m leaf ws ats s ≡ Some fault → BadAmong leaf ws ats (s ∷ ss) fault
  bad_here leaf ws ats s ss fault e = go (is_there ats s.block && on bits.base bits.place) refl e
    where
      bits : Kept
      bits = bits_at m ws ats s

      go : (b : Bool) → (is_there ats s.block && on bits.base bits.place) ≡ b → (if b then part_fault m leaf bits s.part.kind else None) ≡ Some fault → BadAmong leaf ws ats (s ∷ ss) fault
      go true is h = let x = and_parts (is_there ats s.block) (on bits.base bits.place) is in record { part = s; there = inl refl; is_read = x.0; is_on = x.1; is_fault = h }
      go false is h = absurd cc

  bad_among : (leaf : Leaf) (ws : List Kept) (ats : List ℕ) (ss : List LocatedPart) (fault : ImageFault) → fault_among on m leaf ws ats ss ≡ Some fault → BadAmong leaf ws ats ss fault
  bad_among leaf ws ats [] fault e = absurd cc
  bad_among leaf ws ats (s ∷ ss) fault e = elim (first_left (fault_at on m leaf ws ats s) (fault_among on m leaf ws ats ss) fault e) [
    | inl h ↦ bad_here leaf ws ats s ss fault h
    | inr h ↦
        let r = bad_among leaf ws ats ss fault h in
        record { part = r.part; there = inr r.there; is_read = r.is_read; is_on = r.is_on; is_fault = r.is_fault }
  ]

  -- none is found among parts, so none of these has one
  good_among : (leaf : Leaf) (ws : List Kept) (ats : List ℕ) (ss : List LocatedPart) → fault_among on m leaf ws ats ss ≡ None → (s : LocatedPart) → In s ss → is_there ats s.block ≡ true
      → on (bits_at m ws ats s).base (bits_at m ws ats s).place ≡ true → part_fault m leaf (bits_at m ws ats s) s.part.kind ≡ None
  good_among leaf ws ats [] none s h there here = absurd h
  good_among leaf ws ats (x ∷ ss) none s (inr h) there here = good_among leaf ws ats ss (first_none (fault_at on m leaf ws ats x) (fault_among on m leaf ws ats ss) none).1 s h there here
  good_among leaf ws ats (x ∷ ss) none s (inl e) there here =
      let first : fault_at on m leaf ws ats s ≡ None = ap (fault_at on m leaf ws ats) e ∙ (first_none (fault_at on m leaf ws ats x) (fault_among on m leaf ws ats ss) none).0 in
      ap (λ (b : Bool). if b then part_fault m leaf (bits_at m ws ats s) s.part.kind else None) (sym (and_true (is_there ats s.block) (on (bits_at m ws ats s).base (bits_at m ws ats s).place) there here)) ∙ first

  found_in : (ss : List Waypoint) (fault : ImageFault) → fault_of_seen on m ss ≡ Some fault → (s : Waypoint) × In s ss × (fault_seen on m s ≡ Some fault)
  found_in [] fault e = absurd cc
  found_in (s ∷ ss) fault e = elim (first_left (fault_seen on m s) (fault_of_seen on m ss) fault e) [
    | inl h ↦ (s, inl refl, h)
    | inr h ↦ let r = found_in ss fault h in (r.0, inr r.1, r.2)
  ]

  none_in : (ss : List Waypoint) → fault_of_seen on m ss ≡ None → (s : Waypoint) → In s ss → fault_seen on m s ≡ None
  none_in [] e s h = absurd h
  none_in (x ∷ ss) e s (inl is) = ap (fault_seen on m) is ∙ (first_none (fault_seen on m x) (fault_of_seen on m ss) e).0
  none_in (x ∷ ss) e s (inr h) = none_in ss (first_none (fault_seen on m x) (fault_of_seen on m ss) e).1 s h

-- Paths --------------------------------------------------------------------------------------
module _ (types : List DataDecl) (layouts : List Layout) (image : Image) (t : ℕ) (path : List ℕ) (end : Where) (came : Came types layouts image t path path (Ok end)) where
  abbrev m : List ImageBlock
  m = image.blocks

  abbrev all : List Waypoint
  all = all_seen end

  abbrev gathered : List Kept
  gathered = words_of_path layouts image all

  abbrev on : ℕ → ℕ → Bool
  on base place = is_kept_at gathered base place

  abbrev rest : List Kept
  rest = flat_map (words_seen layouts m) all

  -- a word of a subvalue that was passed
  seen_in : (s : Waypoint) (k : Kept) → In s all → In k (words_seen layouts m s) → In k gathered
  seen_in s k h g = in_right k (kept_from 0 image.root) rest (flat_map_in (words_seen layouts m) k s all h g)

  move : (ks : List Kept) (base place : ℕ) → IsKeptAt ks base place → ((k : Kept) → In k ks → In k gathered) → on base place ≡ true
  move ks base place kept to =
      let s = stands ks base place kept in
      is_kept gathered base place (record { word = s.word; there = to s.word s.there; is_base = s.is_base; is_place = s.is_place })

  ahead_in : (s : Waypoint) (i : ℕ) (path more : List ℕ) (found : Waypoint) → s.at ≡ i ∷ path → found ≡ record s { at = s.at ++ more } → (k : Kept) → In k (words_ahead m s) → In k (first_ahead m found found.at)
  ahead_in s i path more found is same k h =
      let first : In k (words_below m s.leaf s.words (block_addresses m s.leaf s.words) (i ∷ path)) =
      subst (λ (p : List ℕ). In k (words_below m s.leaf s.words (block_addresses m s.leaf s.words) p)) is h in
      let lead = words_first m s.leaf s.words (block_addresses m s.leaf s.words) i path k first in
      let there : In k (first_ahead m s (s.at ++ more)) = subst (λ (p : List ℕ). In k (first_ahead m s (p ++ more))) (sym is) lead in
      subst (λ (x : Waypoint). In k (first_ahead m x x.at)) (sym same) there

  begins : (xs : List ℕ) (i : ℕ) → (j : ℕ) × (more : List ℕ) × (xs ++ i ∷ [] ≡ j ∷ more)
  begins [] i = (i, [], refl)
  begins (x ∷ xs) i = (x, xs ++ i ∷ [], refl)

  -- the words on the path are among those that were gathered
  pub word_gathered : (base place : ℕ) → IsPathWord types layouts image t path base place → on base place ≡ true
  word_gathered base place (inl kept) = move (kept_from 0 image.root) base place kept (λ k h. in_left k (kept_from 0 image.root) rest h)
  word_gathered base place (inr (inl asked)) =
      let x = asked.0 in
      let e = on_path_covered types layouts image t path end came x asked.1 in
      let c = e.covers in
      let is = see_is layouts m x.ty x.words e.seen e.is_seen in
      let same : record { ty = c.found.ty; words = c.found.words } ≡ x =
      ap (λ (s : Waypoint). record { ty = s.ty; words = s.words }) c.is ∙ ap (λ n. record { ty = n; words = e.seen.words }) is.ty ∙ ap (λ us. record { ty = x.ty; words = us }) is.words in
      move (words_asked layouts m x) base place asked.2 (λ k h. seen_in c.found k c.there
      (in_left k (words_asked layouts m (record { ty = c.found.ty; words = c.found.words })) (first_ahead m c.found c.found.at) (subst (λ (y : At). In k (words_asked layouts m y)) (sym same) h)))
  word_gathered base place (inr (inr p)) =
      let s = (where_after_step p.before p.field p.here).last in
      let c = step_covered types layouts image t path end came p.before p.field p.here p.is_step in
      let b = begins p.before.last.at p.field in
      move (words_ahead m s) base place p.is_kept (λ k h. seen_in c.found k c.there
      (in_right k (words_asked layouts m (record { ty = c.found.ty; words = c.found.words })) (first_ahead m c.found c.found.at) (ahead_in s b.0 b.1 c.more c.found b.2 c.is k h)))

  -- and those that were gathered are on the path
  pub gathered_word : (base place : ℕ) → on base place ≡ true → IsPathWord types layouts image t path base place
  gathered_word base place e =
      let s = kept_is gathered base place e in
      elim (in_append s.word (kept_from 0 image.root) rest s.there) [
        | inl h ↦ inl (kept_there (kept_from 0 image.root) base place (record { word = s.word; there = h; is_base = s.is_base; is_place = s.is_place }))
        | inr h ↦
            let f = in_flat_map (words_seen layouts m) s.word all h in
            let x = f.0 in
            let led = passed_led types layouts image t path end came x f.1 in
            elim (in_append s.word (words_asked layouts m (record { ty = x.ty; words = x.words })) (first_ahead m x x.at) f.2) [
              | inl g ↦ inr (inl (
                record { ty = x.ty; words = x.words },
                led.0.on_path,
                kept_there (words_asked layouts m (record { ty = x.ty; words = x.words })) base place (record { word = s.word; there = g; is_base = s.is_base; is_place = s.is_place }),
              ))
              | inr g ↦ elim led.1 [
                | inl none ↦ absurd (subst (λ (p : List ℕ). In s.word (first_ahead m x p)) none g)
                | inr b ↦
                    let passed = (where_after_step b.before b.field b.here).last in
                    let to : In s.word (words_ahead m (record x { at = b.field ∷ [] })) = subst (λ (p : List ℕ). In s.word (first_ahead m x p)) b.is_path g in
                    let same : passed ≡ record x { at = b.field ∷ [] } = ap (λ (y : Waypoint). record y { at = y.at ++ b.field ∷ [] }) b.is_last in
                    inr (inr (record {
                      before = b.before;
                      field = b.field;
                      here = b.here;
                      is_step = b.is_step;
                      is_kept = kept_there (words_ahead m passed) base place
                          (record { word = s.word; there = subst (λ (y : Waypoint). In s.word (words_ahead m y)) (sym same) to; is_base = s.is_base; is_place = s.is_place });
                    }))
              ]
            ]
      ]

  abbrev Examined : At → Type 0
  Examined = IsOnPath types layouts image t path

  -- a fault that is found is one of a word on the path
  pub found_fault : (fault : ImageFault) → fault_of_seen on m all ≡ Some fault → HasPathFault types layouts image t path Examined fault
  found_fault fault e =
      let f = found_in on m all fault e in
      let s = f.0 in
      let led = passed_led types layouts image t path end came s f.1 in
      let b = bad_among on m s.leaf s.words (block_addresses m s.leaf s.words) (order_of s.leaf) fault f.2 in
      let g = in_get b.part (order_of s.leaf) b.there in
      let bits = part_bits m s b.part in
      record {
        base = bits.base;
        place = bits.place;
        on_path = gathered_word bits.base bits.place b.is_on;
        subvalue = record { ty = s.ty; words = s.words };
        is_examined = led.0.on_path;
        is_fault = inr (
          record s { at = [] },
          led.0.is_seen,
          record { number = g.0; part = b.part; is_part = g.1; is_read = b.is_read; is_base = refl; is_place = refl; is_fault = b.is_fault },
        );
      }

  -- where none is found, no word on the path has one
  pub no_fault : fault_of_seen on m all ≡ None → (fault : ImageFault) → HasPathFault types layouts image t path Examined fault → ⊥
  no_fault none fault w = elim w.is_fault [
    | inl splits ↦
        let e = on_path_covered types layouts image t path end came w.subvalue w.is_examined in
        let no : ◌≡◌ {A = Sees} (Ok e.seen) (Err fault) = sym e.is_seen ∙ splits.0 in
        absurd cc
    | inr leaf ↦
        let e = on_path_covered types layouts image t path end came w.subvalue w.is_examined in
        let s = leaf.0 in
        let bad = leaf.2 in
        let same : e.seen ≡ s = same_Ok e.seen s (sym e.is_seen ∙ leaf.1) in
        let c = subst (λ (x : Waypoint). Covers types layouts m all x) same e.covers in
        let good : fault_seen on m s ≡ None = ap (fault_seen on m) (sym c.is) ∙ none_in on m all none c.found c.there in
        let here : on (part_bits m s bad.part).base (part_bits m s bad.part).place ≡ true =
        ap (λ b. on b (part_bits m s bad.part).place) bad.is_base ∙ ap (on w.base) bad.is_place ∙ word_gathered w.base w.place w.on_path in
        let fine = good_among on m s.leaf s.words (block_addresses m s.leaf s.words) (order_of s.leaf) good bad.part (get_in bad.part (order_of s.leaf) bad.number bad.is_part) bad.is_read here in
        let no = sym fine ∙ bad.is_fault in
        absurd cc
  ]
