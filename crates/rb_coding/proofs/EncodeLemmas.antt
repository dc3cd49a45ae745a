-- A value's nodes are made in post-order.
use Rattle.std.proofs.Common.{◌≡◌, ℕ, zero, suc, ◌+◌, ◌<◌, ◌≤◌, inl, inr, length, map, take, get_or, List, [], ◌∷◌, ◌++◌, true, Option, Some, None, Result, Ok, Err, refl, sym, subst, ap, ◌∙◌, arith, append_assoc, append-nil}
use Rattle.std.specs.Prelude.{slice_get, slice_index, slice_index_or, ◌^◌}
use Rattle.std.specs.List.{flat_map}
use Rattle.std.proofs.lemmas.Grind.{flat_map-append}
use Rattle.std.proofs.lemmas.List.{length-append}
use Rattle.std.proofs.lemmas.Bool.{cases_lt, and_parts}
use Rattle.std.proofs.lemmas.Option.{same_Some, slice_get_within}
use Rattle.rb_core.specs.declared.value.Value.{Value, Num, Con}
use Rattle.rb_core.specs.declared.types.Ty.{Ty}
use Rattle.rb_core.specs.declared.types.Ty.TheVariants.{Int, Named}
use Rattle.rb_core.specs.declared.types.DataDecl.{DataDecl}
use Rattle.rb_core.specs.declared.outcome.Event.TheVariants.{Built}
use Rattle.rb_core.specs.declared.program.Program.{Program}
use Rattle.rb_core.specs.TypedPrograms.{IsTyped}
use Rattle.rb_core.specs.Values.{is_of_type, all_of_types, are_of, fields_in, node_count, part_at}
use Rattle.rb_core.proofs.ValueLaws.{Each, induction, is_of_type-Num, is_of_type-Con}
use Rattle.rb_bytes.specs.Memory.{Memory, IsGood}
use Rattle.rb_bytes.specs.declared.fault.Full.{Full as Unplaced}
use Rattle.rb_bytes.proofs.GrowthLemmas.{Grown-extends}
use Rattle.rb_layout.specs.declared.layout.Layout.{Layout}
use Rattle.rb_layout.specs.declared.layout.FlatWord.{FlatWord}
use Rattle.rb_layout.specs.declared.layout.Leaf.{Leaf}
use Rattle.rb_layout.specs.Agreement.{Agrees}
use Rattle.rb_layout.specs.Flattening.{flat_layouts}
use Rattle.rb_layout.specs.Positions.{Open, open_positions, types_or_none}
use Rattle.rb_rel.specs.Placing.{Request, request_of, requests_of, requests_at, blocks_of, leaf_requests}
use Rattle.rb_rel.specs.Answers.{making_of, in_turn}
use Rattle.rb_rel.specs.Relation.{Represents, number}
use Rattle.rb_rel.proofs.Existence.{PartIs, con_log, declared_type, makings, part_is}
use Rattle.rb_rel.proofs.Growth.{Represents-kept}
use Rattle.rb_rel.proofs.Lists.{got}
use Rattle.rb_rel.proofs.Makings.{making-Num}
use Rattle.rb_rel.specs.Storing.{address_at, with_blocks}
use Rattle.rb_coding.specs.Packing.{word_made}
use Rattle.rb_values.specs.Nodes.{at, posts}
use Rattle.rb_coding.specs.declared.table.Table.{Table}
use Rattle.rb_coding.specs.declared.fault.EncodeFault.{EncodeFault}
use Rattle.rb_coding.specs.declared.fault.EncodeFault.TheVariants.{Full, Memory as NoMemory}
use Rattle.rb_coding.specs.Encoding.{IsEncoded, only}
use Rattle.rb_coding.specs.inner.Filling.{Progress, Stopped}
use Rattle.rb_coding.specs.inner.Making.{ValueIsReady, IsNodeMade}
use Rattle.rb_coding.specs.inner.Nodes.{subs_of, node_at}
use Rattle.rb_coding.proofs.GrowLemmas.{progress_none, progress_trans, progress_fits, stop_after, stop_wider, stopped_over}
use Rattle.rb_coding.proofs.OnlyLemmas.{good_only, progress_only, filled_only}
use Rattle.rb_coding.proofs.LeafShowing.{Chosen, chosen, chosen_in, placeable, open_below, leaf_shown}
use Rattle.rb_coding.proofs.PostLemmas.{TN, value_of, type_of, pairs, tposts, tposts-Num, tposts-Con, Typed, typed_all, Shape, construction, shape_of, At, at_get, each_at, Sized, path_below, nodes_are, some_typed, length-mapped, layered, get_mid}
use Rattle.rb_coding.proofs.PostLemmas as P
use Rattle.rb_coding.proofs.WaitLemmas.{at_mapped, sized_take, take_end}

module _ (layouts : List Layout) where
  -- the blocks of one node
  abbrev pub requests_at_type : Ty → Value → List Request
  requests_at_type (Int bits) v = []
  requests_at_type (Named t) v = blocks_of layouts t v

  abbrev pub node_requests : TN → List Request
  node_requests x = requests_at_type x.1 x.0

  abbrev pub nodes_requests : List TN → List Request
  nodes_requests xs = flat_map node_requests xs

  pub requests_next : (all : List TN) (i : ℕ) (x : TN) → slice_get all i ≡ Some x → nodes_requests (take (i + 1) all) ≡ nodes_requests (take i all) ++ node_requests x
  requests_next all i x e = let z : suc i ≡ i + 1 = omega arith in subst (λ n. nodes_requests (take n all) ≡ nodes_requests (take i all) ++ node_requests x) z (next all i e)
    where
      next : (all : List TN) (i : ℕ) → slice_get all i ≡ Some x → nodes_requests (take (suc i) all) ≡ nodes_requests (take i all) ++ node_requests x
      next [] i e = absurd cc
      next (y ∷ all) zero e = ap (λ z. node_requests z ++ []) (same_Some y x e) ∙ append-nil (node_requests x)
      next (y ∷ all) (suc i) e = ap (λ rs. node_requests y ++ rs) (next all i e) ∙ sym (append_assoc (node_requests y) (nodes_requests (take i all)) (node_requests x))

  pub requests_rest : (all : List TN) (i : ℕ) (x : TN) → slice_get all i ≡ Some x → (rest : List Request) × (nodes_requests all ≡ (nodes_requests (take i all) ++ node_requests x) ++ rest)
  requests_rest [] i x e = absurd cc
  requests_rest (y ∷ all) zero x e = (nodes_requests all, ap (λ z. node_requests z ++ nodes_requests all) (same_Some y x e))
  requests_rest (y ∷ all) (suc i) x e =
      let r = requests_rest all i x e in
      (r.0, ap (λ rs. node_requests y ++ rs) r.1 ∙ sym (append_assoc (node_requests y) (nodes_requests (take i all) ++ node_requests x) r.0) ∙ ap (λ rs. rs ++ r.0) (sym (append_assoc (node_requests y) (nodes_requests (take i all)) (node_requests x))))

module _ (p : Program) (typed : IsTyped p) (agrees : Agrees p) where
  abbrev types : List DataDecl
  types = p.types

  abbrev layouts : List Layout
  layouts = flat_layouts p

  -- the requests of a value are those of its nodes --------------------------------------------------
  abbrev Asks : Value → Type 0
  Asks v = (t : Ty) → Typed types v t → requests_of layouts (making_of types v t) ≡ nodes_requests layouts (tposts types v t)

  all_ask : (vs : List Value) → Each Asks vs → (ts : List Ty) → all_of_types (map (is_of_type types) vs) ts ≡ true
      → requests_of layouts (in_turn (makings p typed agrees vs) ts) ≡ nodes_requests layouts (typed_all types (pairs vs ts))
  all_ask [] each ts e = refl
  all_ask (v ∷ vs) each [] e = absurd cc
  all_ask (v ∷ vs) each (t ∷ ts) e =
      let b = and_parts (is_of_type types v t) (all_of_types (map (is_of_type types) vs) ts) e in
      flat_map-append (requests_at layouts) (making_of types v t) (in_turn (makings p typed agrees vs) ts)
      ∙ ap (λ rs. rs ++ requests_of layouts (in_turn (makings p typed agrees vs) ts)) (each.0 t b.0)
      ∙ ap (λ rs. nodes_requests layouts (tposts types v t) ++ rs) (all_ask vs each.1 ts b.1)
      ∙ sym (flat_map-append (node_requests layouts) (tposts types v t) (typed_all types (pairs vs ts)))

  con_asks : (k s : ℕ) (vs : List Value) → Each Asks vs → (ts : List Ty) → fields_in (slice_get types s) k ≡ Some ts → all_of_types (map (is_of_type types) vs) ts ≡ true
      → requests_of layouts (making_of types (Con k vs) (Named s)) ≡ nodes_requests layouts (tposts types (Con k vs) (Named s))
  con_asks k s vs each ts is h =
      ap (requests_of layouts) (con_log p typed agrees s k vs ts is)
      ∙ flat_map-append (requests_at layouts) (in_turn (makings p typed agrees vs) ts) (Built s (Con k vs) ∷ [])
      ∙ ap (λ rs. rs ++ (blocks_of layouts s (Con k vs) ++ [])) (all_ask vs each ts h)
      ∙ sym (flat_map-append (node_requests layouts) (typed_all types (pairs vs ts)) ((Con k vs, Named s) ∷ []))
      ∙ ap (nodes_requests layouts) (sym (tposts-Con types k vs (Named s) ∙ ap (λ o. typed_all types (pairs vs (types_or_none o)) ++ (Con k vs, Named s) ∷ []) is))

  asks_con : (k : ℕ) (vs : List Value) → Each Asks vs → Asks (Con k vs)
  asks_con k vs each (Int bits) e = absurd (let h = sym (is_of_type-Con types k vs (Int bits)) ∙ e in cc)
  asks_con k vs each (Named s) e = go (fields_in (slice_get types s) k) refl (sym (is_of_type-Con types k vs (Named s)) ∙ e)
    where
      go : (o : Option (List Ty)) → fields_in (slice_get types s) k ≡ o → are_of (map (is_of_type types) vs) o ≡ true → requests_of layouts (making_of types (Con k vs) (Named s)) ≡ nodes_requests layouts (tposts types (Con k vs) (Named s))
      go None is h = absurd cc
      go (Some ts) is h = con_asks k s vs each ts is h

  asks_num : (n : ℕ) → Asks (Num n)
  asks_num n (Named s) e = absurd (let h = sym (is_of_type-Num types n (Named s)) ∙ e in cc)
  asks_num n (Int bits) e = ap (requests_of layouts) (making-Num types n (Int bits)) ∙ sym (ap (nodes_requests layouts) (tposts-Num types n (Int bits)))

  pub asks : (v : Value) → Asks v
  asks = induction Asks asks_num asks_con

  -- a typed value is ready to be made
  ready_by : {v : Value} {t : Ty} → Shape types v t → Typed types v t → ValueIsReady layouts t v
  ready_by (P.number n bits lt) e = (n, refl)
  ready_by (construction k s vs ts is h) e =
      let c = chosen p typed agrees s (Con k vs) (declared_type p typed agrees s k ts is) e in
      (c.leaf, chosen_in p typed agrees s (Con k vs) c, placeable p typed agrees s c.layout c.number c.leaf c.is_layout c.is_number)

  pub ready : (v : Value) (t : Ty) → Typed types v t → ValueIsReady layouts t v
  ready v t e = ready_by (shape_of types v t e) e

  pub small_by : {v : Value} {s : ℕ} → Shape types v (Named s) → s < length types
  small_by (construction k s vs ts is h) = declared_type p typed agrees s k ts is

-- The invariant --------------------------------------------------------------------------------------
pub record Encoding (p : Program) (ty : Ty) (v : Value) (old m : Memory) (table : Table) (i : ℕ) : Type 0 where
  pub bs : List (ℕ × ℕ)
  pub progress : Progress old m (nodes_requests (flat_layouts p) (take i (tposts p.types v ty))) bs
  pub count : length table.words ≡ i
  pub sizes : table.sizes ≡ map node_count (posts v)
  pub shown : (j : ℕ) (x : TN) → j < i → slice_get (tposts p.types v ty) j ≡ Some x → Represents p.types (flat_layouts p) (only m bs) true x.1 x.0 (slice_index_or table.words j [])

words_before : (xs : List (List ℕ)) (y : List ℕ) (j : ℕ) → j < length xs → slice_index_or (xs ++ y ∷ []) j [] ≡ slice_index_or xs j []
words_before [] y j lt = absurd (omega (arith, lt))
words_before (x ∷ xs) y zero lt = refl
words_before (x ∷ xs) y (suc j) lt = words_before xs y j (omega (arith, lt))

words_last : (xs : List (List ℕ)) (y : List ℕ) (j : ℕ) → j ≡ length xs → slice_index_or (xs ++ y ∷ []) j [] ≡ y
words_last [] y j e = ap (λ k. slice_index_or (y ∷ []) k []) e
words_last (x ∷ xs) y zero e = absurd (omega (arith, e))
words_last (x ∷ xs) y (suc j) e = words_last xs y j (omega (arith, e))

module _ (p : Program) (is_typed : IsTyped p) (agrees : Agrees p) (ty : Ty) (v : Value) (of_type : is_of_type p.types v ty ≡ true) (old : Memory) where
  abbrev all : List TN
  all = tposts p.types v ty

  abbrev the_types : List DataDecl
  the_types = p.types

  abbrev the_layouts : List Layout
  the_layouts = flat_layouts p

  pub all_long : length all ≡ length (posts v)
  all_long = sym (length-mapped the_types value_of all) ∙ ap length (nodes_are the_types v ty of_type)

  -- the node with a number
  pub record Nth (i : ℕ) : Type 0 where
    pub node : TN
    pub is_node : slice_get all i ≡ Some node
    pub is_at : At the_types all i node.0 node.1
    pub is_value : at (posts v) i ≡ node.0

  pub nth : (i : ℕ) → i < length (posts v) → Nth i
  nth i lt =
      let k = all_long in
      let g = got all i (omega (arith, lt, k)) in
      record { node = g.0; is_node = g.1; is_at = each_at the_types v ty of_type i g.0 g.1; is_value = ap (λ ps. at ps i) (sym (nodes_are the_types v ty of_type)) ∙ at_mapped all i g.0 g.1 }

  pub nth_type : (tys : List Ty) → tys ≡ map type_of all → (i : ℕ) (x : TN) → slice_get all i ≡ Some x → (t : Ty) → t ≡ get_or tys i t → t ≡ x.1
  nth_type tys is i x e t et = et ∙ ap (λ ts. get_or ts i t) is ∙ type_at all i e
    where
      type_at : (xs : List TN) (i : ℕ) → slice_get xs i ≡ Some x → get_or (map type_of xs) i t ≡ x.1
      type_at [] i e = absurd cc
      type_at (y ∷ xs) zero e = ap type_of (same_Some y x e)
      type_at (y ∷ xs) (suc i) e = type_at xs i e

  pub nth_ready : (i : ℕ) (n : Nth i) → ValueIsReady the_layouts n.node.1 n.node.0
  nth_ready i n = ready p is_typed agrees n.node.0 n.node.1 n.is_at.typed

  pub ready_at : (i : ℕ) (n : Nth i) (layouts' : List Layout) (nodes' : List Value) (t : Ty) → layouts' ≡ the_layouts → nodes' ≡ posts v → t ≡ n.node.1 → ValueIsReady layouts' t (at nodes' i)
  ready_at i n layouts' nodes' t el en et =
      subst (λ ls. ValueIsReady ls t (at nodes' i)) (sym el) (subst (λ u. ValueIsReady the_layouts u (at nodes' i)) (sym et) (subst (λ u. ValueIsReady the_layouts n.node.1 u) (sym (ap (λ ns. at ns i) en ∙ n.is_value)) (nth_ready i n)))

  pub made_at : (i : ℕ) (n : Nth i) (layouts' : List Layout) (nodes' : List Value) (t : Ty) → layouts' ≡ the_layouts → nodes' ≡ posts v → t ≡ n.node.1 → (table : Table) (m m' : Memory) (r : Result (List ℕ) EncodeFault)
      → IsNodeMade layouts' t (at nodes' i) (subs_of table nodes' i) m m' r → IsNodeMade the_layouts n.node.1 n.node.0 (subs_of table (posts v) i) m m' r
  made_at i n layouts' nodes' t el en et table m m' r h =
      subst (λ u. IsNodeMade the_layouts n.node.1 u (subs_of table (posts v) i) m m' r) n.is_value
      (subst (λ ns. IsNodeMade the_layouts n.node.1 (at ns i) (subs_of table ns i) m m' r) en
      (subst (λ u. IsNodeMade the_layouts u (at nodes' i) (subs_of table nodes' i) m m' r) et
      (subst (λ ls. IsNodeMade ls t (at nodes' i) (subs_of table nodes' i) m m' r) el h)))

  pub encoding_none : (table : Table) → IsGood old → table.words ≡ [] → table.sizes ≡ map node_count (posts v) → Encoding p ty v old old table 0
  encoding_none table good none sizes = record { bs = []; progress = progress_none old good; count = ap length none; sizes = sizes; shown = λ j x lt e. absurd (omega (arith, lt)) }

  module _ (m m' : Memory) (table : Table) (i : ℕ) (n : Nth i) (e : Encoding p ty v old m table i) where
    abbrev x : TN
    x = n.node

    abbrev ss : List ℕ → List ℕ
    ss = subs_of table (posts v) i

    sized : Sized the_types table.sizes all i
    sized j y lt is = ap (λ s. slice_index s j) (e.sizes ∙ ap (map node_count) (sym (take_end (posts v) (length (posts v)) (omega arith)) ∙ ap (take (length (posts v))) (sym (nodes_are the_types v ty of_type))))
        ∙ sized_take all (length (posts v)) j y (let k = all_long in let w = slice_get_within all j y is in omega (arith, k, w)) is

    are_nodes : (j : ℕ) (y : TN) → slice_get all j ≡ Some y → at (posts v) j ≡ y.0
    are_nodes j y is = ap (λ ps. at ps j) (sym (nodes_are the_types v ty of_type)) ∙ at_mapped all j y is

    opens : (t : ℕ) → x.1 ≡ Named t → (c : Chosen p is_typed agrees t x.0) → (k : ℕ) (o : Open) → slice_get (open_positions the_types c.leaf.prov) k ≡ Some o
        → (u : Value) × (part_at x.0 o.path ≡ Some u) × Represents the_types the_layouts (only m e.bs) true o.ty u (ss o.path)
    opens t is_named c k o is =
        let b = open_below p is_typed agrees t x.0 c k o is in
        let a : At the_types all i x.0 (Named t) = subst (λ s. At the_types all i x.0 s) is_named n.is_at in
        let g = path_below the_types (posts v) table.sizes all are_nodes b.field b.path i x.0 (Named t) sized a o.ty b.value (subst (λ path. PartIs the_types x.0 (Named t) path o.ty b.value) b.is_path b.is_part) in
        let r = e.shown (node_at (posts v) table.sizes i (b.field ∷ b.path)) (b.value, o.ty) g.1 (at_get the_types all (node_at (posts v) table.sizes i (b.field ∷ b.path)) b.value o.ty g.0) in
        (b.value, part_is the_types x.0 (Named t) o.path o.ty b.value b.is_part, subst (λ path. Represents the_types the_layouts (only m e.bs) true o.ty b.value (ss path)) (sym b.is_path) r)

    here_good : IsGood (only m e.bs)
    here_good = good_only old m e.bs m.next e.progress.grown

    -- one more node
    pub more : (table' : Table) (ws : List ℕ) (bs : List (ℕ × ℕ)) → Progress m m' (node_requests the_layouts x) bs → Represents the_types the_layouts (only m' (e.bs ++ bs)) true x.1 x.0 ws → IsGood m
        → table'.sizes ≡ table.sizes → table'.words ≡ table.words ++ ws ∷ [] → Encoding p ty v old m' table' (i + 1)
    more table' ws bs progress here good same words =
        let both = progress_trans old m m' (nodes_requests the_layouts (take i all)) (node_requests the_layouts x) e.bs bs e.progress progress in
        let c = e.count in
        record {
          bs = e.bs ++ bs;
          progress = subst (λ rs. Progress old m' rs (e.bs ++ bs)) (sym (requests_next the_layouts all i x n.is_node)) both;
          count = (let l = ap length words ∙ length-append table.words (ws ∷ []) in omega (arith, l, c));
          sizes = same ∙ e.sizes;
          shown = λ j y lt is. elim (cases_lt j i) [
            | inl less ↦
                let over = progress_only m m' (node_requests the_layouts x) e.bs bs progress (good_only old m' (e.bs ++ bs) m'.next both.grown) in
                let kept = Represents-kept (only m e.bs) (only m' (e.bs ++ bs)) (Grown-extends (only m e.bs) (only m' (e.bs ++ bs)) bs m'.next here_good over.grown) the_types the_layouts true (e.shown j y less is) in
                subst (λ xs. Represents the_types the_layouts (only m' (e.bs ++ bs)) true y.1 y.0 xs) (sym (ap (λ xs. slice_index_or xs j []) words ∙ words_before table.words ws j (omega (arith, less, c)))) kept
            | inr le ↦
                let eq : j ≡ i = omega (arith, le, lt) in
                let same_node : x ≡ y = same_Some x y (sym n.is_node ∙ ap (slice_get all) (sym eq) ∙ is) in
                let at_y : Represents the_types the_layouts (only m' (e.bs ++ bs)) true y.1 y.0 ws = subst (λ (z : TN). Represents the_types the_layouts (only m' (e.bs ++ bs)) true z.1 z.0 ws) same_node here in
                subst (λ xs. Represents the_types the_layouts (only m' (e.bs ++ bs)) true y.1 y.0 xs) (sym (ap (λ xs. slice_index_or xs j []) words ∙ words_last table.words ws j (omega (arith, eq, c)))) at_y
          ];
        }

    -- the blocks of a leaf, over those of this value alone
    module _ (leaf : Leaf) (bs : List (ℕ × ℕ)) (number : FlatWord → ℕ) (progress : Progress m m' (map request_of leaf.blocks) bs) where
      pub over : Progress (only m e.bs) (only m' (e.bs ++ bs)) (map request_of leaf.blocks) bs
      over =
          let both = progress_trans old m m' (nodes_requests the_layouts (take i all)) (map request_of leaf.blocks) e.bs bs e.progress progress in
          progress_only m m' (map request_of leaf.blocks) e.bs bs progress (good_only old m' (e.bs ++ bs) m'.next both.grown)

      pub filled_over : m' ≡ with_blocks number m leaf.blocks → only m' (e.bs ++ bs) ≡ with_blocks number (only m e.bs) leaf.blocks
      filled_over is =
          ap (λ (y : Memory). only y (e.bs ++ bs)) is
          ∙ sym (filled_only number leaf.blocks m e.bs bs m'.next (progress_fits m m' (map request_of leaf.blocks) bs progress))

    -- the node is made: its blocks are laid, and its words show it
    pub made_shown : (t : Ty) → x.1 ≡ t → (ws : List ℕ) → IsGood m → IsNodeMade the_layouts t x.0 ss m m' (Ok ws)
        → (bs : List (ℕ × ℕ)) × Progress m m' (requests_at_type the_layouts t x.0) bs × Represents the_types the_layouts (only m' (e.bs ++ bs)) true t x.0 ws
    made_shown (Int bits) is ws good (k, value, words, same) =
        let of_int : is_of_type the_types (Num k) (Int bits) ≡ true = ap (λ u. is_of_type the_types u (Int bits)) (sym value) ∙ ap (is_of_type the_types x.0) (sym is) ∙ n.is_at.typed in
        let fits : k < 2 ^ bits = P.below_lt k (2 ^ bits) (sym (is_of_type-Num the_types k (Int bits)) ∙ of_int) in
        let whole : Memory = only m' (e.bs ++ []) in
        let here : Represents the_types the_layouts whole true (Int bits) (Num k) (k ∷ []) = number bits k fits in (
          [],
          subst (λ (y : Memory). Progress m y [] []) (sym same) (progress_none m good),
          subst (λ u. Represents the_types the_layouts whole true (Int bits) u ws) (sym value) (subst (λ xs. Represents the_types the_layouts whole true (Int bits) (Num k) xs) (sym words) here),
        )
    made_shown (Named t) is ws good (leaf, is_leaf, (bs, progress, filled, words)) =
        let typed_here : Typed the_types x.0 (Named t) = ap (is_of_type the_types x.0) (sym is) ∙ n.is_at.typed in
        let c = chosen p is_typed agrees t x.0 (small_by p is_typed agrees (shape_of the_types x.0 (Named t) typed_here)) typed_here in
        let same : leaf ≡ c.leaf = same_Some leaf c.leaf (sym is_leaf ∙ chosen_in p is_typed agrees t x.0 c) in
        let progress' : Progress m m' (map request_of c.leaf.blocks) bs = subst (λ (l : Leaf). Progress m m' (map request_of l.blocks) bs) same progress in
        let filled' : m' ≡ with_blocks (word_made ss (address_at bs)) m c.leaf.blocks = filled ∙ ap (λ (l : Leaf). with_blocks (word_made ss (address_at bs)) m l.blocks) same in
        let words' : ws ≡ map (word_made ss (address_at bs)) c.leaf.root = words ∙ ap (λ (l : Leaf). map (word_made ss (address_at bs)) l.root) same in
        let requests : map request_of c.leaf.blocks ≡ blocks_of the_layouts t x.0 = sym (ap leaf_requests (chosen_in p is_typed agrees t x.0 c)) in (
          bs,
          subst (λ rs. Progress m m' rs bs) requests progress',
          leaf_shown p is_typed agrees t x.0 c (only m e.bs) here_good ss (opens t is c) bs (only m' (e.bs ++ bs)) (over c.leaf bs (word_made ss (address_at bs)) progress') (filled_over c.leaf bs (word_made ss (address_at bs)) progress' filled') ws words',
        )

    pub made_stops : (t : Ty) (full : Unplaced) → IsNodeMade the_layouts t x.0 ss m m' (Err (Full full)) → Stopped m m' (requests_at_type the_layouts t x.0) full
    made_stops (Int bits) full h = absurd h
    made_stops (Named t) full (leaf, is_leaf, stopped) = subst (λ rs. Stopped m m' rs full) (sym (ap leaf_requests is_leaf)) stopped

    pub encode_stops : (fault : EncodeFault) → IsNodeMade the_layouts x.1 x.0 ss m m' (Err fault) → IsEncoded p ty v old m' (Err fault)
    encode_stops NoMemory h = tt
    encode_stops (Full full) h =
        let s = stop_after old m m' (nodes_requests the_layouts (take i all)) (node_requests the_layouts x) e.bs full e.progress (made_stops x.1 full h) in
        let r = requests_rest the_layouts all i x n.is_node in
        let w = stop_wider old m' (nodes_requests the_layouts (take i all) ++ node_requests the_layouts x) r.0 full s in
        let whole : (nodes_requests the_layouts (take i all) ++ node_requests the_layouts x) ++ r.0 ≡ requests_of the_layouts (making_of the_types v ty) = sym r.1 ∙ sym (asks p is_typed agrees v ty of_type) in
        stopped_over old m' (requests_of the_layouts (making_of the_types v ty)) full (subst (λ rs. Stopped old m' rs full) whole w)

  -- all nodes are made
  pub encode_done : (m : Memory) (table : Table) (i : ℕ) → length (posts v) ≤ i → Encoding p ty v old m table i → (rest : List (List ℕ)) (ws : List ℕ) → table.words ≡ rest ++ ws ∷ [] → i ≡ length (posts v)
      → IsEncoded p ty v old m (Ok ws)
  encode_done m table i le e rest ws is ei =
      let k = all_long in
      let long = take_end all i (omega (arith, k, le)) in
      let progress : Progress old m (requests_of the_layouts (making_of the_types v ty)) e.bs =
      subst (λ rs. Progress old m rs e.bs) (ap (nodes_requests the_layouts) long ∙ sym (asks p is_typed agrees v ty of_type)) e.progress in
      let l = layered the_types v ty of_type in
      let kl = ap length l.is ∙ length-append (typed_all the_types l.kids) ((v, ty) ∷ []) in
      let cr = ap length is ∙ length-append rest (ws ∷ []) in
      let c = e.count in
      let last : slice_get all (length rest) ≡ Some (v, ty) = ap (λ xs. slice_get xs (length rest)) l.is ∙ get_mid the_types (typed_all the_types l.kids) (v, ty) [] (length rest) (omega (arith, kl, k, cr, c, ei)) in
      let r = e.shown (length rest) (v, ty) (omega (arith, cr, c)) last in
      let words : slice_index_or table.words (length rest) [] ≡ ws = ap (λ xs. slice_index_or xs (length rest) []) is ∙ words_last rest ws (length rest) refl in
      (e.bs, m.next, progress_fits old m (requests_of the_layouts (making_of the_types v ty)) e.bs progress, progress.grown, subst (λ xs. Represents the_types the_layouts (only m e.bs) true ty v xs) words r)

  pub some_nodes : 0 < length (posts v)
  some_nodes = let k = all_long in let s = some_typed the_types v ty of_type in omega (arith, k, s)
