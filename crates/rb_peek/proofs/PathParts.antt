-- Where an image holds a value, a path leads to the words of a part of it.
use Rattle.std.proofs.Common.{◌≡◌, ℕ, zero, suc, ◌+◌, ◌^◌, ◌<◌, ◌++◌, inl, inr, false, List, [], ◌∷◌, map, Option, Some, None, Result, Ok, refl, sym, subst, ap, ◌∙◌, append-nil, append_assoc, arith}
use Rattle.std.specs.Prelude.{slice_get}
use Rattle.std.proofs.lemmas.Option.{same_Some}
use Rattle.rb_core.specs.declared.pattern.Pat.{Pat, out-Pat, Wild, Var, Num}
use Rattle.rb_core.specs.declared.pattern.Pat.TheOpen as P
use Rattle.rb_core.specs.declared.pattern.Pat.TheOpen.{Pat-F}
use Rattle.rb_core.specs.declared.pattern.Pat.TheVariants as X
use Rattle.rb_core.specs.declared.program.Program.{Program}
use Rattle.rb_core.specs.declared.types.DataDecl.{DataDecl}
use Rattle.rb_core.specs.declared.types.Ty.{Ty}
use Rattle.rb_core.specs.declared.types.Ty.TheVariants.{Int, Named}
use Rattle.rb_core.specs.declared.value.Value.{Value}
use Rattle.rb_core.specs.declared.value.Value as V
use Rattle.rb_core.specs.TypedPrograms.{IsTyped}
use Rattle.rb_core.specs.Values.{fields_of, part_at, part_from, sub_at}
use Rattle.rb_core.proofs.PatternLaws.{Cases, induction}
use Rattle.rb_bytes.specs.Memory.{Memory}
use Rattle.rb_layout.specs.Agreement.{Agrees}
use Rattle.rb_layout.specs.Flattening.{flat_layouts}
use Rattle.rb_layout.specs.Positions.{Open, below, open_positions, opens_below, opens_of, types_or_none}
use Rattle.rb_layout.specs.declared.layout.Layout.{Layout}
use Rattle.rb_layout.specs.declared.layout.Leaf.{Leaf}
use Rattle.rb_rel.specs.Relation.{Made, Represents, word_count}
use Rattle.rb_rel.specs.Relation as R
use Rattle.rb_rel.proofs.Agreeing.{lawful}
use Rattle.rb_rel.proofs.Opens.{opens-Con, opens-Var, opens-Wild}
use Rattle.rb_image_text.specs.declared.fault.ImageFault.{ImageFault}
use Rattle.rb_image_text.specs.declared.image.ImageBlock.{ImageBlock}
use Rattle.rb_image.specs.declared.kept.Kept.{Kept}
use Rattle.rb_image.specs.Falling.{AreKept, Descends, PointersFall, built, number}
use Rattle.rb_image.specs.Fields.{Position, field_in, field_of, with_type}
use Rattle.rb_image.specs.Integers.{field_bit, number_of_bits}
use Rattle.rb_image.specs.LeafWords.{block_addresses}
use Rattle.rb_image.specs.Memories.{image_memory}
use Rattle.rb_image.specs.Orders.{LocatedPart, order_of}
use Rattle.rb_image.specs.Parts.{bits_at, field_word, field_words}
use Rattle.rb_image.specs.Roots.{kept_from}
use Rattle.rb_image.specs.Splits.{and_then, leaf_at, word_at}
use Rattle.rb_image.proofs.DescendingImages as D
use Rattle.rb_image.proofs.DescendingImages.{descending_sound}
use Rattle.rb_image.proofs.DescendingValues.{Descends-represents}
use Rattle.rb_image.proofs.ExaminedParts.{then_ok}
use Rattle.rb_image.proofs.FallLemmas.{same_Ok}
use Rattle.rb_image.proofs.FallingWords.{AreKeptAs}
use Rattle.rb_image.proofs.FoundWords.{numbers}
use Rattle.rb_image.proofs.SpotLemmas.{In, in_get, in_left, in_right}
use Rattle.rb_image.proofs.WholeMemories.{IsWhole, image_whole}
use Rattle.rb_peek.specs.PathParts.{IsEnd, IsOpenPattern, PathsLeadToParts, integer_in}
use Rattle.rb_peek.specs.Walks.{Waypoint, Where, where_at_root, data_of, layout_at, layout_or_none, leaf_or_none, where_after_step, open_data, open_in, see, step, steps, unless, words_on}
use Rattle.rb_peek.proofs.PartWords.{fields_kept, fields_numbers, integer_is}
use Rattle.rb_peek.proofs.PathWalks.{Finds, Sees, Walks, stepped}

-- Open positions -----------------------------------------------------------------------------
module _ (types : List DataDecl) where
  -- the open positions of a field are among those of its constructor
  abbrev HasFields : Pat → Type 0
  HasFields p = (i : ℕ) (pos : Position) → field_of types p i ≡ Some pos → (ty : Ty) (o : Open) → In o (opens_of types pos.pat pos.ty) → In (below i o) (opens_of types p ty)

  mapped_in : (i : ℕ) (o : Open) (os : List Open) → In o os → In (below i o) (map (below i) os)
  mapped_in i o [] h = absurd h
  mapped_in i o (x ∷ os) (inl e) = inl (ap (below i) e)
  mapped_in i o (x ∷ os) (inr h) = inr (mapped_in i o os h)

  fields_in : (ps : List Pat) (ts : List Ty) (from i : ℕ) (pos : Position) → with_type (slice_get ps i) (slice_get ts i) ≡ Some pos → (o : Open) → In o (opens_of types pos.pat pos.ty)
      → In (below (from + i) o) (opens_below (map (opens_of types) ps) ts from)
  fields_in [] ts from i pos e o h = absurd cc
  fields_in (p ∷ ps) [] from zero pos e o h = absurd cc
  fields_in (p ∷ ps) [] from (suc i) pos e o h = absurd (none (slice_get ps i) e)
    where
      none : (q : Option Pat) → with_type q None ≡ Some pos → ⊥
      none None x = cc
      none (Some q) x = cc
  fields_in (p ∷ ps) (t ∷ ts) from zero pos e o h =
      let same : record { pat = p; ty = t } ≡ pos = same_Some (record { pat = p; ty = t }) pos e in
      let z : from ≡ from + 0 = omega arith in
      in_left (below (from + 0) o) (map (below from) (opens_of types p t)) (opens_below (map (opens_of types) ps) ts (from + 1))
      (subst (λ n. In (below n o) (map (below from) (opens_of types p t))) z
      (mapped_in from o (opens_of types p t) (subst (λ (q : Position). In o (opens_of types q.pat q.ty)) (sym same) h)))
  fields_in (p ∷ ps) (t ∷ ts) from (suc i) pos e o h =
      let up : from + 1 + i ≡ from + suc i = omega arith in
      in_right (below (from + suc i) o) (map (below from) (opens_of types p t)) (opens_below (map (opens_of types) ps) ts (from + 1))
      (subst (λ n. In (below n o) (opens_below (map (opens_of types) ps) ts (from + 1))) up (fields_in ps ts (from + 1) i pos e o h))

  no_field : (l : Pat-F Pat) (q : Pat) (i : ℕ) (pos : Position) → out-Pat q ≡ l → field_in types i l ≡ None → field_of types q i ≡ Some pos → ⊥
  no_field l q i pos out none e = let no = sym (ap (field_in types i) out ∙ none) ∙ e in cc

  field_cases : Cases HasFields
  field_cases = record {
    wild = λ at i pos e ty o h. absurd (no_field (P.Wild at) (Wild at) i pos (X.outs-Wild at) refl e);
    var = λ at x i pos e ty o h. absurd (no_field (P.Var at x) (Var at x) i pos (X.outs-Var at x) refl e);
    num = λ at n i pos e ty o h. absurd (no_field (P.Num at n) (Num at n) i pos (X.outs-Num at n) refl e);
    con = λ at c ps each i pos e ty o h.
        let ts = types_or_none (fields_of types c) in
        let is : with_type (slice_get ps i) (slice_get ts i) ≡ Some pos = sym (ap (field_in types i) (X.outs-Con at c ps)) ∙ e in
        let z : 0 + i ≡ i = omega arith in
        subst (In (below i o)) (sym (opens-Con types at c ps ty)) (subst (λ n. In (below n o) (opens_below (map (opens_of types) ps) ts 0)) z (fields_in ps ts 0 i pos is o h));
  }

  pub fields_open : (p : Pat) → HasFields p
  fields_open = induction HasFields field_cases

  -- an open position
  abbrev OpensHere : Pat → Type 0
  OpensHere p = (ty : Ty) → IsOpenPattern (out-Pat p) → In (record { path = []; ty = ty }) (opens_of types p ty)

  open_cases : Cases OpensHere
  open_cases = record {
    wild = λ at ty h. subst (In (record { path = []; ty = ty })) (sym (opens-Wild types at ty)) (inl refl);
    var = λ at x ty h. subst (In (record { path = []; ty = ty })) (sym (opens-Var types at x ty)) (inl refl);
    num = λ at n ty h. absurd (subst IsOpenPattern (X.outs-Num at n) h);
    con = λ at c ps each ty h. absurd (subst IsOpenPattern (X.outs-Con at c ps) h);
  }

  pub opens_here : (p : Pat) → OpensHere p
  opens_here = induction OpensHere open_cases

data_is : (ty : Ty) (t : ℕ) → data_of ty ≡ Some t → ty ≡ Named t
data_is (Int bits) t e = absurd cc
data_is (Named s) t e = ap Named (same_Some s t e)

opened : (l : Pat-F Pat) (ty : Ty) (t : ℕ) → open_in l (data_of ty) ≡ Some t → IsOpenPattern l × (ty ≡ Named t)
opened (P.Wild at) ty t e = (tt, data_is ty t e)
opened (P.Var at x) ty t e = (tt, data_is ty t e)
opened (P.Num at n) ty t e = absurd cc
opened (P.Con at c ps) ty t e = absurd cc

-- Parts --------------------------------------------------------------------------------------
pub part_append : (o : Option Value) (xs ys : List ℕ) → part_from o (xs ++ ys) ≡ part_from (part_from o xs) ys
part_append o [] ys = refl
part_append o (x ∷ xs) ys = part_append (sub_at o x) xs ys

unless_is : (o : Option ImageFault) (ws us : List Kept) → ◌≡◌ {A = Finds} (unless o ws) (Ok us) → ws ≡ us
unless_is None ws us e = same_Ok ws us e
unless_is (Some fault) ws us e = absurd cc

pub not_nil : (xs : List ℕ) (i : ℕ) → xs ++ i ∷ [] ≡ [] → ⊥
not_nil [] i e = cc
not_nil (x ∷ xs) i e = cc

module _ (p : Program) (typed : IsTyped p) (agrees : Agrees p) (blocks : List ImageBlock) (m : Memory) (is : IsWhole blocks m) (v : Value) where
  abbrev types : List DataDecl
  types = p.types

  abbrev layouts : List Layout
  layouts = flat_layouts p

  -- the last subvalue of a walk is a part of the value, and the position is one of its leaf
  pub record Stands (w : Where) (first : List ℕ) : Type 0 where
    pub u : Value
    pub ws : List ℕ
    pub from : ℕ → ℕ
    pub b : Made types layouts m false w.last.ty u ws
    pub inner : List ℕ → ℕ → ℕ
    pub falls : PointersFall b.leaf from b.ats
    pub are_kept : AreKept b.leaf from b.ats inner
    pub below : (k : ℕ) (o : Open) → slice_get (open_positions types b.leaf.prov) k ≡ Some o → Descends types layouts m o.ty (b.at o.path) (b.subs o.path) (inner o.path)
    pub kept : AreKeptAs w.last.words ws from
    pub is_numbers : numbers w.last.words ≡ ws
    pub is_leaf : w.last.leaf ≡ b.leaf
    pub to : List ℕ
    pub is_first : first ≡ to ++ w.last.at
    pub is_part : part_at v to ≡ Some u
    pub opens : (o : Open) → In o (opens_of types w.here.pat w.here.ty) → In (record { path = w.last.at ++ o.path; ty = o.ty }) (open_positions types b.leaf.prov)
    pub is_root : w.last.at ≡ [] → w.here.ty ≡ Named w.last.ty

  -- Arrivals ---------------------------------------------------------------------------------
  module _ (before : List Waypoint) (first : List ℕ) (xs : List Kept) (s : Waypoint) where
    abbrev Arrives : Ty → Value → List ℕ → (ℕ → ℕ) → Type 0
    Arrives (Int bits) u ws from = Unit {0}
    Arrives (Named t) u ws from = AreKeptAs xs ws from → numbers xs ≡ ws → part_at v first ≡ Some u → ◌≡◌ {A = Sees} (see layouts blocks t xs) (Ok s) → Stands (where_at_root before s) first

    module _ (t : ℕ) (u : Value) (ws : List ℕ) (from : ℕ → ℕ) (b : Made types layouts m false t u ws) (inner : List ℕ → ℕ → ℕ)
        (falls : PointersFall b.leaf from b.ats) (are_kept : AreKept b.leaf from b.ats inner)
        (below : (k : ℕ) (o : Open) → slice_get (open_positions types b.leaf.prov) k ≡ Some o → Descends types layouts m o.ty (b.at o.path) (b.subs o.path) (inner o.path))
        (kept : AreKeptAs xs ws from) where
      leads : ◌≡◌ {A = Result ℕ ImageFault} (leaf_at b.layout.tree blocks xs) (Ok b.number)
      leads =
          D.leads p typed agrees blocks m is t u ws from b inner falls are_kept (λ k o e. Descends-represents (below k o e)) (λ k o e. descending_sound p typed agrees blocks m is (below k o e)) xs kept

      abbrev seen : Waypoint
      seen = record { ty = t; words = xs; leaf = b.leaf; at = [] }

      with_leaf : Option Leaf → Sees
      with_leaf o = Ok (record { ty = t; words = xs; leaf = leaf_or_none o; at = [] })

      in_layout : Layout → Sees
      in_layout l = and_then (leaf_at l.tree blocks xs) (λ n. with_leaf (slice_get l.leaves n))

      is_seen : ◌≡◌ {A = Sees} (see layouts blocks t xs) (Ok seen)
      unfolding with_leaf in_layout
      is_seen =
          let layout : layout_at layouts t ≡ b.layout = ap layout_or_none b.is_layout in
          let led : ◌≡◌ {A = Sees} (in_layout b.layout) (with_leaf (slice_get b.layout.leaves b.number)) =
          ap (λ (r : Result ℕ ImageFault). and_then r (λ n. with_leaf (slice_get b.layout.leaves n))) leads in
          ap in_layout layout ∙ led ∙ ap with_leaf b.is_number

      arrives : numbers xs ≡ ws → part_at v first ≡ Some u → ◌≡◌ {A = Sees} (see layouts blocks t xs) (Ok s) → Stands (where_at_root before s) first
      arrives count part e =
          let same : seen ≡ s = same_Ok seen s (sym is_seen ∙ e) in
          let root = (lawful p agrees typed).provenances.root t b.layout b.number b.leaf b.is_layout b.is_number in
          subst (λ (x : Waypoint). Stands (where_at_root before x) first) same (record {
            u = u;
            ws = ws;
            from = from;
            b = b;
            inner = inner;
            falls = falls;
            are_kept = are_kept;
            below = below;
            kept = kept;
            is_numbers = count;
            is_leaf = refl;
            to = first;
            is_first = sym (append-nil first);
            is_part = part;
            opens = λ o h. subst (λ (ty : Ty). In o (opens_of types b.leaf.prov ty)) (sym root) h;
            is_root = λ e. refl;
          })

    pub arrive : {ty : Ty} {u : Value} {ws : List ℕ} {from : ℕ → ℕ} → Descends types layouts m ty u ws from → Arrives ty u ws from
    arrive (number bits x from lt) = tt
    arrive (built t u ws from b inner falls are_kept below) = λ kept. arrives t u ws from b inner falls are_kept below kept

  -- Steps ------------------------------------------------------------------------------------
  module _ (w : Where) (first : List ℕ) (i : ℕ) (pos : Position) (st : Stands w first) (field : field_of types w.here.pat i ≡ Some pos) where
    abbrev pub inside : Stands (where_after_step w i pos) (first ++ i ∷ [])
    inside = record {
      u = st.u;
      ws = st.ws;
      from = st.from;
      b = st.b;
      inner = st.inner;
      falls = st.falls;
      are_kept = st.are_kept;
      below = st.below;
      kept = st.kept;
      is_numbers = st.is_numbers;
      is_leaf = st.is_leaf;
      to = st.to;
      is_first = ap (λ (xs : List ℕ). xs ++ i ∷ []) st.is_first ∙ append_assoc st.to w.last.at (i ∷ []);
      is_part = st.is_part;
      opens = λ o h. subst (λ (path : List ℕ). In (record { path = path; ty = o.ty }) (open_positions types st.b.leaf.prov)) (sym (append_assoc w.last.at (i ∷ []) o.path))
          (st.opens (record { path = i ∷ o.path; ty = o.ty }) (fields_open types w.here.pat i pos field w.here.ty o h));
      is_root = λ e. absurd (not_nil w.last.at i e);
    }

  -- an open position is one of the leaf
  record HasOpen (w : Where) (first : List ℕ) (st : Stands w first) : Type 0 where
    number : ℕ
    is_open : slice_get (open_positions types st.b.leaf.prov) number ≡ Some (record { path = w.last.at; ty = w.here.ty })

  open_there : (w : Where) (first : List ℕ) (st : Stands w first) → IsOpenPattern (out-Pat w.here.pat) → HasOpen w first st
  open_there w first st any =
      let there = st.opens (record { path = []; ty = w.here.ty }) (opens_here types w.here.pat w.here.ty any) in
      let g = in_get _ (open_positions types st.b.leaf.prov) there in
      record { number = g.0; is_open = g.1 ∙ ap (λ (path : List ℕ). Some (record { path = path; ty = w.here.ty })) (append-nil w.last.at) }

  -- the part there
  part_there : (w : Where) (first : List ℕ) (st : Stands w first) (o : Open) (k : ℕ) → slice_get (open_positions types st.b.leaf.prov) k ≡ Some o → o.path ≡ w.last.at
      → part_at v first ≡ Some (st.b.at o.path)
  part_there w first st o k at same =
      ap (part_at v) (st.is_first ∙ ap (λ (xs : List ℕ). st.to ++ xs) (sym same)) ∙ part_append (Some v) st.to o.path
      ∙ ap (λ (x : Option Value). part_from x o.path) st.is_part ∙ st.b.is_at k o at

  pub enters : (w : Where) (first : List ℕ) (st : Stands w first) (t : ℕ) (us : List Kept) (s : Waypoint) → open_data w.here ≡ Some t
      → ◌≡◌ {A = Finds} (words_on layouts blocks w.last t) (Ok us) → ◌≡◌ {A = Sees} (see layouts blocks t us) (Ok s) → Stands (where_at_root (w.before ++ w.last ∷ []) s) first
  enters w first st t us s is_data words seen =
      let op = opened (out-Pat w.here.pat) w.here.ty t is_data in
      let has = open_there w first st op.0 in
      let o : Open = record { path = w.last.at; ty = w.here.ty } in
      let reps = λ (k : ℕ) (q : Open) (e : slice_get (open_positions types st.b.leaf.prov) k ≡ Some q). Descends-represents (st.below k q e) in
      let found = field_words (field_word blocks w.last.words (block_addresses blocks st.b.leaf w.last.words) (order_of st.b.leaf)) w.last.at 0 (word_count layouts (Named t)) in
      let plain : field_words (field_word blocks w.last.words (block_addresses blocks w.last.leaf w.last.words) (order_of w.last.leaf)) w.last.at 0 (word_count layouts (Named t)) ≡ us = unless_is _ _ us words in
      let same : found ≡ us =
      ap (λ (l : Leaf). field_words (field_word blocks w.last.words (block_addresses blocks l w.last.words) (order_of l)) w.last.at 0 (word_count layouts (Named t))) (sym st.is_leaf) ∙ plain in
      let fk = fields_kept p typed agrees blocks m is w.last.ty st.u st.ws st.from st.b st.inner st.falls st.are_kept reps w.last.words st.kept has.number o has.is_open t op.1 in
      let fn = fields_numbers p typed agrees blocks m is w.last.ty st.u st.ws st.from st.b st.inner st.falls st.are_kept reps w.last.words st.kept has.number o has.is_open t op.1 in
      let part = part_there w first st o has.number has.is_open refl in
      let below : Descends types layouts m (Named t) (st.b.at w.last.at) (st.b.subs w.last.at) (st.inner w.last.at) =
      subst (λ (ty : Ty). Descends types layouts m ty (st.b.at w.last.at) (st.b.subs w.last.at) (st.inner w.last.at)) op.1 (st.below has.number o has.is_open) in
      arrive (w.before ++ w.last ∷ []) first us s below
      (subst (λ (ks : List Kept). AreKeptAs ks (st.b.subs w.last.at) (st.inner w.last.at)) same fk) (ap numbers (sym same) ∙ fn) part seen

  steps_stand : (rest first : List ℕ) (k : ℕ) (w end : Where) → Stands w first → ◌≡◌ {A = Walks} (steps types layouts blocks k w rest) (Ok end) → Stands end (first ++ rest)
  steps_stand [] first k w end st e = subst (λ (x : Where). Stands x (first ++ [])) (same_Ok w end e) (subst (Stands w) (sym (append-nil first)) st)
  steps_stand (i ∷ rest) first k w end st e =
      let r = then_ok (step types layouts blocks k w i) (λ x. steps types layouts blocks (k + 1) x rest) end e in
      let s = stepped types layouts blocks k w i r.0 r.1 in
      let moves = inside w first i s.here st s.is_field in
      let next : Stands r.0 (first ++ i ∷ []) = elim s.how [
        | inl h ↦ subst (λ (x : Where). Stands x (first ++ i ∷ [])) (sym h.is) moves
        | inr h ↦ subst (λ (x : Where). Stands x (first ++ i ∷ [])) (sym h.is)
            (enters (where_after_step w i s.here) (first ++ i ∷ []) moves h.ty h.words h.next h.is_data h.is_words h.is_next)
      ] in
      subst (Stands end) (append_assoc first (i ∷ []) rest) (steps_stand rest (first ++ i ∷ []) (k + 1) r.0 end next r.2)

  -- Ends -------------------------------------------------------------------------------------
  abbrev Numbers : Ty → Value → List ℕ → Type 0
  Numbers (Int bits) u ws = (n : ℕ) → ((x : ℕ) → x < 2 ^ bits → ws ≡ x ∷ [] → n ≡ x) → Represents types layouts m false (Int bits) u (n ∷ [])
  Numbers (Named t) u ws = Unit {0}

  one_number : {ty : Ty} {u : Value} {ws : List ℕ} {from : ℕ → ℕ} → Descends types layouts m ty u ws from → Numbers ty u ws
  one_number (number bits x from lt) = λ n same. subst (λ k. Represents types layouts m false (Int bits) (V.Num x) (k ∷ [])) (sym (same x lt refl)) (R.number bits x lt)
  one_number (built t u ws from b inner falls are_kept below) = tt

  record Ends (path : List ℕ) (ty : Ty) (words : List ℕ) : Type 0 where
    part : Value
    is_part : part_at v path ≡ Some part
    represents : Represents types layouts m false ty part words

  ended : (w : Where) (path words : List ℕ) → Stands w path → IsEnd blocks w words → Ends path w.here.ty words
  ended w path words st (inl e) = record {
    part = st.u;
    is_part = ap (part_at v) (st.is_first ∙ ap (λ (xs : List ℕ). st.to ++ xs) e.0 ∙ append-nil st.to) ∙ st.is_part;
    represents =
        subst (λ (ty : Ty). Represents types layouts m false ty st.u words) (sym (st.is_root e.0))
        (subst (Represents types layouts m false (Named w.last.ty) st.u) (sym (e.1 ∙ st.is_numbers)) (R.built w.last.ty st.u st.ws st.b (λ k o at. Descends-represents (st.below k o at))));
  }
  ended w path words st (inr e) =
      let has = open_there w path st e.is_open in
      let o : Open = record { path = w.last.at; ty = w.here.ty } in
      let reps = λ (k : ℕ) (q : Open) (at : slice_get (open_positions types st.b.leaf.prov) k ≡ Some q). Descends-represents (st.below k q at) in
      let below : Descends types layouts m (Int e.bits) (st.b.at w.last.at) (st.b.subs w.last.at) (st.inner w.last.at) =
      subst (λ (ty : Ty). Descends types layouts m ty (st.b.at w.last.at) (st.b.subs w.last.at) (st.inner w.last.at)) e.is_integer (st.below has.number o has.is_open) in
      let n = integer_in blocks w.last e.bits in
      let gathered = λ (l : Leaf). number_of_bits e.bits (field_bit (λ (part : LocatedPart). (bits_at blocks w.last.words (block_addresses blocks l w.last.words) part).number) (Int e.bits) (order_of l) w.last.at) in
      let same : (x : ℕ) → x < 2 ^ e.bits → st.b.subs w.last.at ≡ x ∷ [] → n ≡ x =
      λ x small subs. ap gathered st.is_leaf
      ∙ integer_is p typed agrees blocks m is w.last.ty st.u st.ws st.from st.b st.inner st.falls st.are_kept reps w.last.words st.kept has.number o has.is_open e.bits e.is_integer x small subs in
      record {
        part = st.b.at w.last.at;
        is_part = part_there w path st o has.number has.is_open refl;
        represents = subst (λ (ty : Ty). Represents types layouts m false ty (st.b.at w.last.at) words) (sym e.is_integer)
            (subst (Represents types layouts m false (Int e.bits) (st.b.at w.last.at)) (sym e.is_word) (one_number below n same));
      }

pub root_kept : (i : ℕ) (ns : List ℕ) (j n : ℕ) → slice_get ns j ≡ Some n → ((word_at (kept_from i ns) j).number ≡ n) × ((word_at (kept_from i ns) j).base ≡ 0)
root_kept i [] j n e = absurd cc
root_kept i (x ∷ ns) zero n e = (same_Some x n e, refl)
root_kept i (x ∷ ns) (suc j) n e = root_kept (i + 1) ns j n e

pub root_numbers : (i : ℕ) (ns : List ℕ) → numbers (kept_from i ns) ≡ ns
root_numbers i [] = refl
root_numbers i (n ∷ ns) = ap (λ xs. n ∷ xs) (root_numbers (i + 1) ns)

pub paths_lead : PathsLeadToParts
paths_lead p typed agrees image placed are t v d path w e words end =
    let blocks = image.blocks in
    let layouts = flat_layouts p in
    let m = image_memory blocks in
    let is = image_whole blocks placed are in
    let root = kept_from 0 image.root in
    let r = then_ok (see layouts blocks t root) (λ s. steps p.types layouts blocks 0 (where_at_root [] s) path) w e in
    let first = arrive p typed agrees blocks m is v [] [] root r.0 d (root_kept 0 image.root) (root_numbers 0 image.root) refl r.1 in
    let st = steps_stand p typed agrees blocks m is v path [] 0 (where_at_root [] r.0) w first r.2 in
    let x = ended p typed agrees blocks m is v w path words st end in
    record { part = x.part; is_part = x.is_part; represents = x.represents }
