-- Nodes in post-order with their types, and where those of fields stand.
use Rattle.std.proofs.Common.{◌≡◌, ℕ, zero, suc, ◌+◌, ◌-◌, ◌<◌, ◌≤◌, inl, inr, length, map, take, drop, List, [], ◌∷◌, ◌++◌, true, Option, Some, None, refl, sym, subst, ap, ◌∙◌, arith, append_assoc, append-nil}
use Rattle.std.specs.Prelude.{slice_get, slice_index, nat_lt, ◌^◌}
use Rattle.std.specs.List.{flat_map}
use Rattle.std.proofs.lemmas.Bool.{and_parts}
use Rattle.std.proofs.lemmas.Grind.{common_steps}
use Rattle.std.proofs.lemmas.List.{map-append, length-append}
use Rattle.std.proofs.lemmas.Option.{same_Some}
use Rattle.rb_core.specs.declared.value.Value.{Value, Num, Con, out-Value}
use Rattle.rb_core.specs.declared.value.Value as X
use Rattle.rb_core.specs.declared.value.Value.TheVariants.{outs-Num, outs-Con}
use Rattle.rb_core.specs.declared.value.Value.TheOpen as V
use Rattle.rb_core.specs.declared.value.Value.TheFolds.{para-roll-Value}
use Rattle.rb_core.specs.declared.types.Ty.{Ty}
use Rattle.rb_core.specs.declared.types.Ty.TheVariants.{Int, Named}
use Rattle.rb_core.specs.declared.types.DataDecl.{DataDecl}
use Rattle.rb_core.specs.Values.{is_of_type, all_of_types, are_of, fields_in, subs, node_count}
use Rattle.rb_core.proofs.ValueLaws.{Each, induction, subs-Con, subs-Num, is_of_type-Num, is_of_type-Con}
use Rattle.rb_layout.specs.Positions.{types_or_none}
use Rattle.rb_rel.proofs.Existence.{sub_types, PartIs}
use Rattle.rb_rel.proofs.Lists.{get-append-at}
use Rattle.rb_values.specs.Nodes.{at, posts, IsLayer}
use Rattle.rb_values.specs.declared.nodes.Layer.{Layer}
use Rattle.rb_values.specs.declared.nodes.Layer.TheVariants as L
use Rattle.rb_values.proofs.PostLemmas.{posts-Num, posts-Con, count_posts}
use Rattle.rb_coding.specs.inner.Nodes.{NodeTyping, typed_in_turn, typed_step, typed_posts, field_list, layer_fields, start_of, arity_of, field_node, node_at}

pub below_lt : (a b : ℕ) → nat_lt a b ≡ true → a < b
below_lt a b e = grind (arith, common_steps)

abbrev pub TN : Type 0
TN = Value × Ty

abbrev pub value_of : TN → Value
value_of n = n.0

abbrev pub type_of : TN → Ty
type_of n = n.1

abbrev pub pairs : List Value → List Ty → List TN
pairs [] ts = []
pairs (v ∷ vs) [] = []
pairs (v ∷ vs) (t ∷ ts) = (v, t) ∷ pairs vs ts

module _ (types : List DataDecl) where
  abbrev pub tposts : Value → Ty → List TN
  tposts v t = typed_posts types v t

  abbrev pub Typed : Value → Ty → Type 0
  Typed v t = is_of_type types v t ≡ true

  abbrev pub AllTyped : List TN → Type 0
  AllTyped [] = Unit {0}
  AllTyped (p ∷ ps) = Typed p.0 p.1 × AllTyped ps

  abbrev pub typed_all : List TN → List TN
  typed_all [] = []
  typed_all (p ∷ ps) = tposts p.0 p.1 ++ typed_all ps

  pub typed_all-append : (ps qs : List TN) → typed_all (ps ++ qs) ≡ typed_all ps ++ typed_all qs
  typed_all-append [] qs = refl
  typed_all-append (p ∷ ps) qs = ap (λ xs. tposts p.0 p.1 ++ xs) (typed_all-append ps qs) ∙ sym (append_assoc (tposts p.0 p.1) (typed_all ps) (typed_all qs))

  pub AllTyped-append : (ps qs : List TN) → AllTyped ps → AllTyped qs → AllTyped (ps ++ qs)
  AllTyped-append [] qs a b = b
  AllTyped-append (p ∷ ps) qs a b = (a.0, AllTyped-append ps qs a.1 b)

  pub AllTyped-left : (ps qs : List TN) → AllTyped (ps ++ qs) → AllTyped ps
  AllTyped-left [] qs a = tt
  AllTyped-left (p ∷ ps) qs a = (a.0, AllTyped-left ps qs a.1)

  pub AllTyped-right : (ps qs : List TN) → AllTyped (ps ++ qs) → AllTyped qs
  AllTyped-right [] qs a = a
  AllTyped-right (p ∷ ps) qs a = AllTyped-right ps qs a.1

  -- Forms ------------------------------------------------------------------------------------------
  pub tposts-Num : (n : ℕ) (t : Ty) → tposts (Num n) t ≡ (Num n, t) ∷ []
  unfolding X.roll-Value denote.Hole.Carrier.roll
  tposts-Num n t = ap (λ (f : NodeTyping). f t) (para-roll-Value NodeTyping (typed_step types) (V.Num n))

  tposts-layer : (k : ℕ) (vs : List Value) (t : Ty) → tposts (Con k vs) t ≡ typed_step types (V.Con k (map (λ v. (v, typed_posts types v)) vs)) t
  unfolding X.roll-Value denote.Hole.Carrier.roll
  tposts-layer k vs t = ap (λ (f : NodeTyping). f t) (para-roll-Value NodeTyping (typed_step types) (V.Con k vs))

  firsts : (vs : List Value) → map (λ (x : Value × NodeTyping). x.0) (map (λ v. (v, typed_posts types v)) vs) ≡ vs
  firsts [] = refl
  firsts (v ∷ vs) = ap (λ xs. v ∷ xs) (firsts vs)

  seconds : (vs : List Value) → map (λ (x : Value × NodeTyping). x.1) (map (λ v. (v, typed_posts types v)) vs) ≡ map (typed_posts types) vs
  seconds [] = refl
  seconds (v ∷ vs) = ap (λ xs. typed_posts types v ∷ xs) (seconds vs)

  in_pairs : (vs : List Value) (ts : List Ty) → typed_in_turn (map (typed_posts types) vs) ts ≡ typed_all (pairs vs ts)
  in_pairs [] ts = refl
  in_pairs (v ∷ vs) [] = refl
  in_pairs (v ∷ vs) (t ∷ ts) = ap (λ xs. tposts v t ++ xs) (in_pairs vs ts)

  pub tposts-Con : (k : ℕ) (vs : List Value) (t : Ty) → tposts (Con k vs) t ≡ typed_all (pairs vs (field_list types t k)) ++ (Con k vs, t) ∷ []
  tposts-Con k vs t =
      tposts-layer k vs t
      ∙ ap (λ xs. typed_in_turn xs (field_list types t k) ++ (Con k (map (λ (x : Value × NodeTyping). x.0) (map (λ v. (v, typed_posts types v)) vs)), t) ∷ []) (seconds vs)
      ∙ ap (λ xs. typed_in_turn (map (typed_posts types) vs) (field_list types t k) ++ (Con k xs, t) ∷ []) (firsts vs)
      ∙ ap (λ xs. xs ++ (Con k vs, t) ∷ []) (in_pairs vs (field_list types t k))

  -- A typed node and its fields ----------------------------------------------------------------------
  pub record Layered (v : Value) (t : Ty) : Type 0 where
    pub kids : List TN
    pub is : tposts v t ≡ typed_all kids ++ (v, t) ∷ []
    pub typed : AllTyped kids
    pub values : map value_of kids ≡ subs v
    pub types_are : map type_of kids ≡ sub_types types t (out-Value v)
    pub fields : (layer : Layer) → IsLayer v layer → layer_fields types t layer ≡ map type_of kids

  pair_values : (vs : List Value) (ts : List Ty) → all_of_types (map (is_of_type types) vs) ts ≡ true → map value_of (pairs vs ts) ≡ vs
  pair_values [] ts e = refl
  pair_values (v ∷ vs) [] e = absurd cc
  pair_values (v ∷ vs) (t ∷ ts) e = ap (λ xs. v ∷ xs) (pair_values vs ts (and_parts (is_of_type types v t) (all_of_types (map (is_of_type types) vs) ts) e).1)

  pair_types : (vs : List Value) (ts : List Ty) → all_of_types (map (is_of_type types) vs) ts ≡ true → map type_of (pairs vs ts) ≡ ts
  pair_types [] [] e = refl
  pair_types [] (t ∷ ts) e = absurd cc
  pair_types (v ∷ vs) [] e = absurd cc
  pair_types (v ∷ vs) (t ∷ ts) e = ap (λ xs. t ∷ xs) (pair_types vs ts (and_parts (is_of_type types v t) (all_of_types (map (is_of_type types) vs) ts) e).1)

  pair_typed : (vs : List Value) (ts : List Ty) → all_of_types (map (is_of_type types) vs) ts ≡ true → AllTyped (pairs vs ts)
  pair_typed [] ts e = tt
  pair_typed (v ∷ vs) [] e = absurd cc
  pair_typed (v ∷ vs) (t ∷ ts) e = let b = and_parts (is_of_type types v t) (all_of_types (map (is_of_type types) vs) ts) e in (b.0, pair_typed vs ts b.1)

  num_con_layer : (n k : ℕ) (vs : List Value) → Num n ≡ Con k vs → ⊥
  num_con_layer n k vs e = let h : V.Num n ≡ V.Con k vs = sym (outs-Num n) ∙ ap out-Value e ∙ outs-Con k vs in cc

  same_con : (k j : ℕ) (vs us : List Value) → Con k vs ≡ Con j us → k ≡ j
  same_con k j vs us e = let h : V.Con k vs ≡ V.Con j us = sym (outs-Con k vs) ∙ ap out-Value e ∙ outs-Con j us in cc

  num_fields : (n : ℕ) (t : Ty) (layer : Layer) → IsLayer (Num n) layer → layer_fields types t layer ≡ []
  num_fields n t (L.Num m) h = refl
  num_fields n t (L.Con k count) h = absurd (num_con_layer n k (subs (Num n)) h.0)

  con_fields : (k : ℕ) (vs : List Value) (t : Ty) (layer : Layer) → IsLayer (Con k vs) layer → layer_fields types t layer ≡ field_list types t k
  con_fields k vs t (L.Num m) h = absurd (num_con_layer m k vs (sym h))
  con_fields k vs t (L.Con j count) h = ap (field_list types t) (sym (same_con k j vs (subs (Con k vs)) h.0))

  -- a typed value is a number at an integer type, or a construction at a data type
  pub data Shape : Value → Ty → Type 0 where
    number : (n bits : ℕ) → n < 2 ^ bits → Shape (Num n) (Int bits)
    construction : (k s : ℕ) (vs : List Value) (ts : List Ty) → fields_in (slice_get types s) k ≡ Some ts → all_of_types (map (is_of_type types) vs) ts ≡ true → Shape (Con k vs) (Named s)

  num_shape : (n : ℕ) (t : Ty) → Typed (Num n) t → Shape (Num n) t
  num_shape n (Int bits) e = number n bits (below_lt n (2 ^ bits) (sym (is_of_type-Num types n (Int bits)) ∙ e))
  num_shape n (Named s) e = absurd (let h = sym (is_of_type-Num types n (Named s)) ∙ e in cc)

  con_shape : (k : ℕ) (vs : List Value) (t : Ty) → Typed (Con k vs) t → Shape (Con k vs) t
  con_shape k vs (Int bits) e = absurd (let h = sym (is_of_type-Con types k vs (Int bits)) ∙ e in cc)
  con_shape k vs (Named s) e = go (fields_in (slice_get types s) k) refl (sym (is_of_type-Con types k vs (Named s)) ∙ e)
    where
      go : (o : Option (List Ty)) → fields_in (slice_get types s) k ≡ o → are_of (map (is_of_type types) vs) o ≡ true → Shape (Con k vs) (Named s)
      go None is h = absurd cc
      go (Some ts) is h = construction k s vs ts is h

  pub shape_of : (v : Value) (t : Ty) → Typed v t → Shape v t
  shape_of v = induction (λ v. (t : Ty) → Typed v t → Shape v t) num_shape (λ k vs each t e. con_shape k vs t e) v

  layered_by : {v : Value} {t : Ty} → Shape v t → Layered v t
  layered_by (number n bits lt) = record {
    kids = [];
    is = tposts-Num n (Int bits);
    typed = tt;
    values = sym (subs-Num n);
    types_are = sym (ap (sub_types types (Int bits)) (outs-Num n));
    fields = num_fields n (Int bits);
  }
  layered_by (construction k s vs ts is h) = record {
    kids = pairs vs ts;
    is = tposts-Con k vs (Named s) ∙ ap (λ o. typed_all (pairs vs (types_or_none o)) ++ (Con k vs, Named s) ∷ []) is;
    typed = pair_typed vs ts h;
    values = pair_values vs ts h ∙ sym (subs-Con k vs);
    types_are = pair_types vs ts h ∙ sym (ap (sub_types types (Named s)) (outs-Con k vs) ∙ ap types_or_none is);
    fields = λ layer e. con_fields k vs (Named s) layer e ∙ ap types_or_none is ∙ sym (pair_types vs ts h);
  }

  pub layered : (v : Value) (t : Ty) → Typed v t → Layered v t
  layered v t e = layered_by (shape_of v t e)

  -- The values of typed nodes are the nodes ------------------------------------------------------------
  abbrev Firsts : Value → Type 0
  Firsts v = (t : Ty) → Typed v t → map value_of (tposts v t) ≡ posts v

  all_firsts : (vs : List Value) → Each Firsts vs → (ts : List Ty) → all_of_types (map (is_of_type types) vs) ts ≡ true → map value_of (typed_all (pairs vs ts)) ≡ flat_map posts vs
  all_firsts [] each ts e = refl
  all_firsts (v ∷ vs) each [] e = absurd cc
  all_firsts (v ∷ vs) each (t ∷ ts) e =
      let b = and_parts (is_of_type types v t) (all_of_types (map (is_of_type types) vs) ts) e in
      map-append value_of (tposts v t) (typed_all (pairs vs ts)) ∙ ap (λ xs. xs ++ map value_of (typed_all (pairs vs ts))) (each.0 t b.0) ∙ ap (λ xs. posts v ++ xs) (all_firsts vs each.1 ts b.1)

  con_firsts : (k s : ℕ) (vs : List Value) → Each Firsts vs → (ts : List Ty) → fields_in (slice_get types s) k ≡ Some ts → all_of_types (map (is_of_type types) vs) ts ≡ true → map value_of (tposts (Con k vs) (Named s)) ≡ posts (Con k vs)
  con_firsts k s vs each ts is h =
      ap (map value_of) (tposts-Con k vs (Named s) ∙ ap (λ o. typed_all (pairs vs (types_or_none o)) ++ (Con k vs, Named s) ∷ []) is)
      ∙ map-append value_of (typed_all (pairs vs ts)) ((Con k vs, Named s) ∷ []) ∙ ap (λ xs. xs ++ Con k vs ∷ []) (all_firsts vs each ts h) ∙ sym (posts-Con k vs)

  firsts_are : (k : ℕ) (vs : List Value) → Each Firsts vs → Firsts (Con k vs)
  firsts_are k vs each (Int bits) e = absurd (let h = sym (is_of_type-Con types k vs (Int bits)) ∙ e in cc)
  firsts_are k vs each (Named s) e = go (fields_in (slice_get types s) k) refl (sym (is_of_type-Con types k vs (Named s)) ∙ e)
    where
      go : (o : Option (List Ty)) → fields_in (slice_get types s) k ≡ o → are_of (map (is_of_type types) vs) o ≡ true → map value_of (tposts (Con k vs) (Named s)) ≡ posts (Con k vs)
      go None is h = absurd cc
      go (Some ts) is h = con_firsts k s vs each ts is h

  pub nodes_are : (v : Value) → Firsts v
  nodes_are = induction Firsts (λ n t e. ap (map value_of) (tposts-Num n t) ∙ sym (posts-Num n)) firsts_are

  pub length-mapped : (f : TN → Value) (xs : List TN) → length (map f xs) ≡ length xs
  length-mapped f [] = refl
  length-mapped f (x ∷ xs) = ap suc (length-mapped f xs)

  pub count_typed : (v : Value) (t : Ty) → Typed v t → length (tposts v t) ≡ node_count v
  count_typed v t e = sym (length-mapped value_of (tposts v t)) ∙ ap length (nodes_are v t e) ∙ count_posts v

  pub some_typed : (v : Value) (t : Ty) → Typed v t → 0 < length (tposts v t)
  some_typed v t e = let l = layered v t e in let h = ap length l.is in let k = length-append (typed_all l.kids) ((v, t) ∷ []) in omega (arith, h, k)

  -- A node among nodes ---------------------------------------------------------------------------------
  pub record At (all : List TN) (i : ℕ) (v : Value) (t : Ty) : Type 0 where
    pub before : List TN
    pub after : List TN
    pub is : all ≡ before ++ (tposts v t ++ after)
    pub here : suc i ≡ length before + length (tposts v t)
    pub typed : Typed v t

  pub get_mid : (xs : List TN) (y : TN) (ys : List TN) (i : ℕ) → i ≡ length xs → slice_get (xs ++ y ∷ ys) i ≡ Some y
  get_mid [] y ys i e = ap (slice_get (y ∷ ys)) e
  get_mid (x ∷ xs) y ys zero e = absurd (omega (arith, e))
  get_mid (x ∷ xs) y ys (suc i) e = get_mid xs y ys i (omega (arith, e))

  pub at_get : (all : List TN) (i : ℕ) (v : Value) (t : Ty) → At all i v t → slice_get all i ≡ Some (v, t)
  at_get all i v t a =
      let l = layered v t a.typed in
      let e : all ≡ (a.before ++ typed_all l.kids) ++ (v, t) ∷ a.after =
      a.is ∙ ap (λ xs. a.before ++ (xs ++ a.after)) l.is ∙ ap (λ xs. a.before ++ xs) (append_assoc (typed_all l.kids) ((v, t) ∷ []) a.after) ∙ sym (append_assoc a.before (typed_all l.kids) ((v, t) ∷ a.after)) in
      let k1 = ap length l.is ∙ length-append (typed_all l.kids) ((v, t) ∷ []) in
      let k2 = length-append a.before (typed_all l.kids) in
      let h = a.here in
      ap (λ xs. slice_get xs i) e ∙ get_mid (a.before ++ typed_all l.kids) (v, t) a.after i (omega (arith, k1, k2, h))

  at_widen : (pre xs post : List TN) (i j : ℕ) (v : Value) (t : Ty) → j ≡ length pre + i → At xs i v t → At (pre ++ (xs ++ post)) j v t
  at_widen pre xs post i j v t e a = record {
    before = pre ++ a.before;
    after = a.after ++ post;
    is = ap (λ ys. pre ++ (ys ++ post)) a.is ∙ ap (λ ys. pre ++ ys) (append_assoc a.before (tposts v t ++ a.after) post ∙ ap (λ ys. a.before ++ ys) (append_assoc (tposts v t) a.after post)) ∙ sym (append_assoc pre a.before (tposts v t ++ (a.after ++ post)));
    here = (let h = a.here in let k = length-append pre a.before in omega (arith, h, k, e));
    typed = a.typed;
  }

  abbrev EachAt : Value → Type 0
  EachAt v = (t : Ty) → Typed v t → (i : ℕ) (x : TN) → slice_get (tposts v t) i ≡ Some x → At (tposts v t) i x.0 x.1

  at_self : (v : Value) (t : Ty) → Typed v t → (i : ℕ) → suc i ≡ length (tposts v t) → At (tposts v t) i v t
  at_self v t e i h = record { before = []; after = []; is = sym (append-nil (tposts v t)); here = omega (arith, h); typed = e }

  at_among : (vs : List Value) → Each EachAt vs → (ts : List Ty) → all_of_types (map (is_of_type types) vs) ts ≡ true → (i : ℕ) (x : TN) → slice_get (typed_all (pairs vs ts)) i ≡ Some x → At (typed_all (pairs vs ts)) i x.0 x.1
  at_among [] each ts e i x is = absurd cc
  at_among (v ∷ vs) each [] e i x is = absurd cc
  at_among (v ∷ vs) each (t ∷ ts) e i x is =
      let b = and_parts (is_of_type types v t) (all_of_types (map (is_of_type types) vs) ts) e in
      elim (get-append-at (tposts v t) (typed_all (pairs vs ts)) i x is) [
        | inl h ↦ at_widen [] (tposts v t) (typed_all (pairs vs ts)) i i x.0 x.1 (omega arith) (each.0 t b.0 i x h)
        | inr h ↦
            let r = at_widen (tposts v t) (typed_all (pairs vs ts)) [] h.0 i x.0 x.1 h.2 (at_among vs each.1 ts b.1 h.0 x h.1) in
            subst (λ (ys : List TN). At (tposts v t ++ ys) i x.0 x.1) (append-nil (typed_all (pairs vs ts))) r
      ]

  con_at : (k s : ℕ) (vs : List Value) → Each EachAt vs → (ts : List Ty) → fields_in (slice_get types s) k ≡ Some ts → all_of_types (map (is_of_type types) vs) ts ≡ true → Typed (Con k vs) (Named s)
      → (i : ℕ) (x : TN) → slice_get (tposts (Con k vs) (Named s)) i ≡ Some x → At (tposts (Con k vs) (Named s)) i x.0 x.1
  con_at k s vs each ts is h typed i x at =
      let e = tposts-Con k vs (Named s) ∙ ap (λ o. typed_all (pairs vs (types_or_none o)) ++ (Con k vs, Named s) ∷ []) is in
      elim (get-append-at (typed_all (pairs vs ts)) ((Con k vs, Named s) ∷ []) i x (ap (λ xs. slice_get xs i) (sym e) ∙ at)) [
        | inl g ↦ subst (λ (ys : List TN). At ys i x.0 x.1) (sym e) (at_widen [] (typed_all (pairs vs ts)) ((Con k vs, Named s) ∷ []) i i x.0 x.1 (omega arith) (at_among vs each ts h i x g))
        | inr g ↦ last g.0 g.1 g.2 e
      ]
    where
      last : (j : ℕ) → slice_get ((Con k vs, Named s) ∷ []) j ≡ Some x → i ≡ length (typed_all (pairs vs ts)) + j → tposts (Con k vs) (Named s) ≡ typed_all (pairs vs ts) ++ (Con k vs, Named s) ∷ [] → At (tposts (Con k vs) (Named s)) i x.0 x.1
      last zero g eq e =
          let k1 = ap length e ∙ length-append (typed_all (pairs vs ts)) ((Con k vs, Named s) ∷ []) in
          subst (λ (y : TN). At (tposts (Con k vs) (Named s)) i y.0 y.1) (same_Some _ x g) (at_self (Con k vs) (Named s) typed i (omega (arith, k1, eq)))
      last (suc j) g eq e = absurd cc

  num_at : (n : ℕ) → EachAt (Num n)
  num_at n t typed i x at = go i (ap (λ xs. slice_get xs i) (sym (tposts-Num n t)) ∙ at)
    where
      go : (i : ℕ) → slice_get ((Num n, t) ∷ []) i ≡ Some x → At (tposts (Num n) t) i x.0 x.1
      go zero h = let l = ap length (tposts-Num n t) in subst (λ (y : TN). At (tposts (Num n) t) 0 y.0 y.1) (same_Some _ x h) (at_self (Num n) t typed 0 (omega (arith, l)))
      go (suc j) h = absurd cc

  each_con_at : (k : ℕ) (vs : List Value) → Each EachAt vs → EachAt (Con k vs)
  each_con_at k vs each (Int bits) e i x at = absurd (let h = sym (is_of_type-Con types k vs (Int bits)) ∙ e in cc)
  each_con_at k vs each (Named s) e i x at = go (fields_in (slice_get types s) k) refl (sym (is_of_type-Con types k vs (Named s)) ∙ e)
    where
      go : (o : Option (List Ty)) → fields_in (slice_get types s) k ≡ o → are_of (map (is_of_type types) vs) o ≡ true → At (tposts (Con k vs) (Named s)) i x.0 x.1
      go None is h = absurd cc
      go (Some ts) is h = con_at k s vs each ts is h e i x at

  pub each_at : (v : Value) → EachAt v
  each_at = induction EachAt num_at each_con_at

  -- Where the nodes of fields stand ----------------------------------------------------------------------
  abbrev pub Sized : List ℕ → List TN → ℕ → Type 0
  Sized sizes all i = (j : ℕ) (x : TN) → j < i → slice_get all j ≡ Some x → slice_index sizes j ≡ node_count x.0

  module _ (sizes : List ℕ) (all : List TN) (i : ℕ) (sized : Sized sizes all i) (before after : List TN) where
    pub start : (qs rs : List TN) → AllTyped rs → all ≡ before ++ (typed_all (qs ++ rs) ++ after) → i ≡ length before + length (typed_all (qs ++ rs))
        → start_of sizes i (length rs) ≡ length before + length (typed_all qs)
    start qs [] typed is here = here ∙ ap (λ (xs : List TN). length before + length (typed_all xs)) (append-nil qs)
    start qs (r ∷ rs) typed is here =
        let shift : qs ++ r ∷ rs ≡ (qs ++ r ∷ []) ++ rs = sym (append_assoc qs (r ∷ []) rs) in
        let is' : all ≡ before ++ (typed_all ((qs ++ r ∷ []) ++ rs) ++ after) = is ∙ ap (λ (xs : List TN). before ++ (typed_all xs ++ after)) shift in
        let here' : i ≡ length before + length (typed_all ((qs ++ r ∷ []) ++ rs)) = here ∙ ap (λ (xs : List TN). length before + length (typed_all xs)) shift in
        let s = start_of sizes i (length rs) in
        let e : s ≡ length before + length (typed_all (qs ++ r ∷ [])) = start (qs ++ r ∷ []) rs typed.1 is' here' in
        let split : typed_all (qs ++ r ∷ []) ≡ typed_all qs ++ tposts r.0 r.1 = typed_all-append qs (r ∷ []) ∙ ap (λ xs. typed_all qs ++ xs) (append-nil (tposts r.0 r.1)) in
        let l1 = ap length split ∙ length-append (typed_all qs) (tposts r.0 r.1) in
        let l2 = ap length (typed_all-append (qs ++ r ∷ []) rs) ∙ length-append (typed_all (qs ++ r ∷ [])) (typed_all rs) in
        let some = some_typed r.0 r.1 typed.0 in
        let whole : all ≡ (before ++ typed_all qs) ++ (tposts r.0 r.1 ++ (typed_all rs ++ after)) =
        is' ∙ ap (λ xs. before ++ (xs ++ after)) (typed_all-append (qs ++ r ∷ []) rs ∙ ap (λ xs. xs ++ typed_all rs) split)
        ∙ ap (λ xs. before ++ xs) (append_assoc (typed_all qs ++ tposts r.0 r.1) (typed_all rs) after ∙ append_assoc (typed_all qs) (tposts r.0 r.1) (typed_all rs ++ after))
        ∙ sym (append_assoc before (typed_all qs) (tposts r.0 r.1 ++ (typed_all rs ++ after))) in
        let l3 = length-append before (typed_all qs) in
        let a : At all (s - 1) r.0 r.1 = record { before = before ++ typed_all qs; after = typed_all rs ++ after; is = whole; here = omega (arith, e, l1, l3, some); typed = typed.0 } in
        let z = sized (s - 1) r (omega (arith, e, l1, l2, some, here')) (at_get all (s - 1) r.0 r.1 a) in
        let c = count_typed r.0 r.1 typed.0 in
        omega (arith, z, c, e, l1)

  -- the sizes of nodes from those of their fields
  pub start_whole : (sizes : List ℕ) (all : List TN) (i : ℕ) (v : Value) (t : Ty) → Sized sizes all i → At all i v t → (n : ℕ) → n ≡ length (subs v) → i + 1 - start_of sizes i n ≡ node_count v
  start_whole sizes all i v t sized a n en =
      let l = layered v t a.typed in
      let is : all ≡ a.before ++ (typed_all ([] ++ l.kids) ++ ((v, t) ∷ a.after)) = a.is ∙ ap (λ xs. a.before ++ (xs ++ a.after)) l.is ∙ ap (λ xs. a.before ++ xs) (append_assoc (typed_all l.kids) ((v, t) ∷ []) a.after) in
      let k1 = ap length l.is ∙ length-append (typed_all l.kids) ((v, t) ∷ []) in
      let h = a.here in
      let s = start sizes all i sized a.before ((v, t) ∷ a.after) [] l.kids l.typed is (omega (arith, h, k1)) in
      let c = count_typed v t a.typed in
      let m : length l.kids ≡ n = sym (length-mapped value_of l.kids) ∙ ap length l.values ∙ sym en in
      let s' = ap (start_of sizes i) (sym m) ∙ s in
      omega (arith, s', c, h)

  split_at : (ps : List TN) (f : ℕ) (p : TN) → slice_get ps f ≡ Some p → (ps ≡ take f ps ++ p ∷ drop (suc f) ps) × (length (drop (suc f) ps) ≡ length ps - suc f)
  split_at [] f p e = absurd cc
  split_at (x ∷ ps) zero p e = (ap (λ y. y ∷ ps) (same_Some x p e), omega arith)
  split_at (x ∷ ps) (suc f) p e = let r = split_at ps f p e in (ap (λ ys. x ∷ ys) r.0, (let l = r.1 in omega (arith, l)))

  -- the node of a field
  pub field_at : (nodes : List Value) (sizes : List ℕ) (all : List TN) (i : ℕ) (v : Value) (t : Ty) → Sized sizes all i → at nodes i ≡ v → (a : At all i v t) → (f : ℕ) (p : TN)
      → slice_get (layered v t a.typed).kids f ≡ Some p → At all (field_node nodes sizes i f) p.0 p.1 × (field_node nodes sizes i f < i)
  field_at nodes sizes all i v t sized at_i a f p is_kid =
      let l = layered v t a.typed in
      let c = split_at l.kids f p is_kid in
      let qs = take f l.kids in
      let rs = drop (suc f) l.kids in
      let typed : AllTyped (qs ++ p ∷ rs) = subst AllTyped c.0 l.typed in
      let typed1 = AllTyped-right qs (p ∷ rs) typed in
      let shift : l.kids ≡ (qs ++ p ∷ []) ++ rs = c.0 ∙ sym (append_assoc qs (p ∷ []) rs) in
      let is0 : all ≡ a.before ++ (typed_all l.kids ++ ((v, t) ∷ a.after)) = a.is ∙ ap (λ xs. a.before ++ (xs ++ a.after)) l.is ∙ ap (λ xs. a.before ++ xs) (append_assoc (typed_all l.kids) ((v, t) ∷ []) a.after) in
      let is : all ≡ a.before ++ (typed_all ((qs ++ p ∷ []) ++ rs) ++ ((v, t) ∷ a.after)) = is0 ∙ ap (λ (xs : List TN). a.before ++ (typed_all xs ++ ((v, t) ∷ a.after))) shift in
      let k1 = ap length l.is ∙ length-append (typed_all l.kids) ((v, t) ∷ []) in
      let h = a.here in
      let k2 = ap (λ (xs : List TN). length (typed_all xs)) shift in
      let s = start sizes all i sized a.before ((v, t) ∷ a.after) (qs ++ p ∷ []) rs typed1.1 is (omega (arith, h, k1, k2)) in
      let m : length l.kids ≡ arity_of nodes i = sym (length-mapped value_of l.kids) ∙ ap length l.values ∙ ap (λ u. length (subs u)) (sym at_i) in
      let n : arity_of nodes i - (f + 1) ≡ length rs = (let q = c.1 in omega (arith, q, m)) in
      let split : typed_all (qs ++ p ∷ []) ≡ typed_all qs ++ tposts p.0 p.1 = typed_all-append qs (p ∷ []) ∙ ap (λ xs. typed_all qs ++ xs) (append-nil (tposts p.0 p.1)) in
      let l1 = ap length split ∙ length-append (typed_all qs) (tposts p.0 p.1) in
      let l2 = ap length (typed_all-append (qs ++ p ∷ []) rs) ∙ length-append (typed_all (qs ++ p ∷ [])) (typed_all rs) in
      let some = some_typed p.0 p.1 typed1.0 in
      let l3 = length-append a.before (typed_all qs) in
      let e : field_node nodes sizes i f ≡ length a.before + length (typed_all (qs ++ p ∷ [])) - 1 = ap (λ k. start_of sizes i k - 1) n ∙ ap (λ k. k - 1) s in
      let whole : all ≡ (a.before ++ typed_all qs) ++ (tposts p.0 p.1 ++ (typed_all rs ++ ((v, t) ∷ a.after))) =
      is ∙ ap (λ xs. a.before ++ (xs ++ ((v, t) ∷ a.after))) (typed_all-append (qs ++ p ∷ []) rs ∙ ap (λ xs. xs ++ typed_all rs) split)
      ∙ ap (λ xs. a.before ++ xs) (append_assoc (typed_all qs ++ tposts p.0 p.1) (typed_all rs) ((v, t) ∷ a.after) ∙ append_assoc (typed_all qs) (tposts p.0 p.1) (typed_all rs ++ ((v, t) ∷ a.after)))
      ∙ sym (append_assoc a.before (typed_all qs) (tposts p.0 p.1 ++ (typed_all rs ++ ((v, t) ∷ a.after)))) in (
        record { before = a.before ++ typed_all qs; after = typed_all rs ++ ((v, t) ∷ a.after); is = whole; here = omega (arith, e, l1, l3, some); typed = typed1.0 },
        omega (arith, e, l1, l2, some, h, k1, k2),
      )

  -- fields by number
  kid_of : (ps : List TN) (f : ℕ) (x : Value) (r : Ty) → slice_get (map value_of ps) f ≡ Some x → slice_get (map type_of ps) f ≡ Some r → slice_get ps f ≡ Some (x, r)
  kid_of [] f x r a b = absurd cc
  kid_of (p ∷ ps) zero x r a b = let u = same_Some p.0 x a in let w = same_Some p.1 r b in ap Some (ap (λ y. (y, p.1)) u ∙ ap (λ y. (x, y)) w)
  kid_of (p ∷ ps) (suc f) x r a b = kid_of ps f x r a b

  abbrev AreNodes : List Value → List TN → Type 0
  AreNodes nodes all = (j : ℕ) (x : TN) → slice_get all j ≡ Some x → at nodes j ≡ x.0

  -- the node at a path
  pub path_at : (nodes : List Value) (sizes : List ℕ) (all : List TN) → AreNodes nodes all → (path : List ℕ) (i : ℕ) (v : Value) (t : Ty) → Sized sizes all i → At all i v t
      → (s : Ty) (u : Value) → PartIs types v t path s u → At all (node_at nodes sizes i path) u s × (node_at nodes sizes i path ≤ i)
  path_at nodes sizes all are [] i v t sized a s u h = (subst (λ y. At all i u y) h.1 (subst (λ y. At all i y t) h.0 a), omega arith)
  path_at nodes sizes all are (f ∷ path) i v t sized a s u h =
      let l = layered v t a.typed in
      let kid = kid_of l.kids f h.0 h.1 (ap (λ xs. slice_get xs f) l.values ∙ h.2) (ap (λ xs. slice_get xs f) l.types_are ∙ h.3) in
      let g = field_at nodes sizes all i v t sized (are i (v, t) (at_get all i v t a)) a f (h.0, h.1) kid in
      let lt = g.1 in
      let r = path_at nodes sizes all are path (field_node nodes sizes i f) h.0 h.1 (λ j x le is. sized j x (omega (arith, le, lt)) is) g.0 s u h.4 in
      let le = r.1 in (r.0, omega (arith, le, lt))

  pub path_below : (nodes : List Value) (sizes : List ℕ) (all : List TN) → AreNodes nodes all → (f : ℕ) (path : List ℕ) (i : ℕ) (v : Value) (t : Ty) → Sized sizes all i → At all i v t
      → (s : Ty) (u : Value) → PartIs types v t (f ∷ path) s u → At all (node_at nodes sizes i (f ∷ path)) u s × (node_at nodes sizes i (f ∷ path) < i)
  path_below nodes sizes all are f path i v t sized a s u h =
      let l = layered v t a.typed in
      let kid = kid_of l.kids f h.0 h.1 (ap (λ xs. slice_get xs f) l.values ∙ h.2) (ap (λ xs. slice_get xs f) l.types_are ∙ h.3) in
      let g = field_at nodes sizes all i v t sized (are i (v, t) (at_get all i v t a)) a f (h.0, h.1) kid in
      let lt = g.1 in
      let r = path_at nodes sizes all are path (field_node nodes sizes i f) h.0 h.1 (λ j x le is. sized j x (omega (arith, le, lt)) is) g.0 s u h.4 in
      let le = r.1 in (r.0, omega (arith, le, lt))

pub length-typed : (xs : List TN) → length (map type_of xs) ≡ length xs
length-typed [] = refl
length-typed (x ∷ xs) = ap suc (length-typed xs)
