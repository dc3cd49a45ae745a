-- Sizes from the first node to the last, and types from the last to the first.
use Rattle.std.proofs.Common.{◌≡◌, ℕ, zero, suc, ◌+◌, ◌-◌, ◌<◌, ◌≤◌, length, map, take, drop, List, [], ◌∷◌, ◌++◌, Some, refl, sym, subst, ap, ◌∙◌, arith, append_assoc, append-nil}
use Rattle.std.proofs.Math.ListN.{set}
use Rattle.std.specs.Prelude.{slice_get, slice_index}
use Rattle.std.proofs.lemmas.List.{length-append}
use Rattle.std.proofs.lemmas.Option.{same_Some}
use Rattle.rb_core.specs.declared.value.Value.{Value}
use Rattle.rb_core.specs.declared.types.Ty.{Ty}
use Rattle.rb_core.specs.declared.types.DataDecl.{DataDecl}
use Rattle.rb_core.specs.Values.{subs, node_count}
use Rattle.rb_rel.proofs.Lists.{got}
use Rattle.rb_values.specs.Nodes.{at, posts, IsLayer}
use Rattle.rb_values.specs.declared.nodes.Layer.{Layer}
use Rattle.rb_coding.specs.inner.Nodes.{layer_fields, start_of}
use Rattle.rb_coding.proofs.PostLemmas.{TN, value_of, type_of, tposts, Typed, AllTyped, AllTyped-append, AllTyped-left, AllTyped-right, typed_all, typed_all-append, layered, nodes_are, each_at, Sized, start_whole, get_mid, length-mapped}

pub start_le : (sizes : List ℕ) (end count : ℕ) → start_of sizes end count ≤ end
start_le sizes end zero = omega arith
start_le sizes end (suc count) = let r = start_le sizes end count in omega (arith, r)

-- Sizes --------------------------------------------------------------------------------------------
pub at_mapped : (all : List TN) (i : ℕ) (x : TN) → slice_get all i ≡ Some x → at (map value_of all) i ≡ x.0
at_mapped [] i x e = absurd cc
at_mapped (y ∷ all) zero x e = ap value_of (same_Some y x e)
at_mapped (y ∷ all) (suc i) x e = at_mapped all i x e

pub sized_take : (all : List TN) (n j : ℕ) (x : TN) → j < n → slice_get all j ≡ Some x → slice_index (map node_count (take n (map value_of all))) j ≡ node_count x.0
sized_take [] n j x lt e = absurd cc
sized_take (y ∷ all) zero j x lt e = absurd (omega (arith, lt))
sized_take (y ∷ all) (suc n) zero x lt e = ap (λ (z : TN). node_count z.0) (same_Some y x e)
sized_take (y ∷ all) (suc n) (suc j) x lt e = sized_take all n j x (omega (arith, lt)) e

take_more : (all : List TN) (i : ℕ) (x : TN) → slice_get all i ≡ Some x → map node_count (take (suc i) (map value_of all)) ≡ map node_count (take i (map value_of all)) ++ node_count x.0 ∷ []
take_more [] i x e = absurd cc
take_more (y ∷ all) zero x e = ap (λ (z : TN). node_count z.0 ∷ []) (same_Some y x e)
take_more (y ∷ all) (suc i) x e = ap (λ ns. node_count y.0 ∷ ns) (take_more all i x e)

pub sizes_more : (types : List DataDecl) (v : Value) (ty : Ty) → Typed types v ty → (sizes : List ℕ) (i : ℕ) → sizes ≡ map node_count (take i (posts v)) → i < length (posts v)
    → (n : ℕ) → n ≡ length (subs (at (posts v) i)) → sizes ++ (i + 1 - start_of sizes i n) ∷ [] ≡ map node_count (take (i + 1) (posts v))
sizes_more types v ty typed sizes i is lt n en =
    let all = tposts types v ty in
    let e : map value_of all ≡ posts v = nodes_are types v ty typed in
    let k : length all ≡ length (posts v) = sym (length-mapped types value_of all) ∙ ap length e in
    let g = got all i (omega (arith, lt, k)) in
    let x = g.0 in
    let a = each_at types v ty typed i x g.1 in
    let sized : Sized types sizes all i = λ j y le h. ap (λ s. slice_index s j) (is ∙ ap (λ ps. map node_count (take i ps)) (sym e)) ∙ sized_take all i j y le h in
    let here : at (posts v) i ≡ x.0 = ap (λ ps. at ps i) (sym e) ∙ at_mapped all i x g.1 in
    let size = start_whole types sizes all i x.0 x.1 sized a n (en ∙ ap (λ u. length (subs u)) here) in
    let z : suc i ≡ i + 1 = omega arith in
    ap (λ s. sizes ++ s ∷ []) size ∙ ap (λ s. s ++ node_count x.0 ∷ []) (is ∙ ap (λ ps. map node_count (take i ps)) (sym e))
    ∙ sym (take_more all i x g.1) ∙ ap (λ ps. map node_count (take (suc i) ps)) e ∙ ap (λ j. map node_count (take j (posts v))) z

pub take_end : {A : Type 0} (xs : List A) (i : ℕ) → length xs ≤ i → take i xs ≡ xs
take_end [] zero le = refl
take_end [] (suc i) le = refl
take_end (x ∷ xs) zero le = absurd (omega (arith, le))
take_end (x ∷ xs) (suc i) le = ap (λ ys. x ∷ ys) (take_end xs i (omega (arith, le)))

-- Types --------------------------------------------------------------------------------------------
pub record Waiting (types : List DataDecl) (v0 : Value) (t0 : Ty) (node : ℕ) (waiting tys : List Ty) : Type 0 where
  pub waits : List TN
  pub tail : List TN
  pub all : tposts types v0 t0 ≡ typed_all types waits ++ tail
  pub typed : AllTyped types waits
  pub are : waiting ≡ map type_of waits
  pub few : length (typed_all types waits) ≡ node
  pub done : drop node tys ≡ map type_of tail
  pub long : length tys ≡ length (tposts types v0 t0)

drop_end : (tys : List Ty) (n : ℕ) → length tys ≡ n → drop n tys ≡ []
drop_end [] zero e = refl
drop_end [] (suc n) e = absurd (omega (arith, e))
drop_end (t ∷ tys) zero e = absurd (omega (arith, e))
drop_end (t ∷ tys) (suc n) e = drop_end tys n (omega (arith, e))

drop_set : (tys : List Ty) (n : ℕ) (t : Ty) → n < length tys → drop n (set tys n t) ≡ t ∷ drop (suc n) tys
drop_set [] n t lt = absurd (omega (arith, lt))
drop_set (u ∷ tys) zero t lt = refl
drop_set (u ∷ tys) (suc n) t lt = drop_set tys n t (omega (arith, lt))

length_set : (tys : List Ty) (n : ℕ) (t : Ty) → length (set tys n t) ≡ length tys
length_set [] zero t = refl
length_set [] (suc n) t = refl
length_set (u ∷ tys) zero t = refl
length_set (u ∷ tys) (suc n) t = ap suc (length_set tys n t)

snoc_view : (xs : List TN) → 0 < length xs → (ys : List TN) × (y : TN) × (xs ≡ ys ++ y ∷ [])
snoc_view [] lt = absurd (omega (arith, lt))
snoc_view (x ∷ []) lt = ([], x, refl)
snoc_view (x ∷ z ∷ xs) lt = let r = snoc_view (z ∷ xs) (omega arith) in (x ∷ r.0, r.1, ap (λ ys. x ∷ ys) r.2)

snoc_same : (xs ys : List Ty) (x y : Ty) → xs ++ x ∷ [] ≡ ys ++ y ∷ [] → (xs ≡ ys) × (x ≡ y)
snoc_same [] [] x y e = let h : x ≡ y = cc in (refl, h)
snoc_same [] (b ∷ ys) x y e = let l : length (x ∷ []) ≡ length (b ∷ ys ++ y ∷ []) = ap length e in let k = length-append ys (y ∷ []) in absurd (omega (arith, l, k))
snoc_same (a ∷ xs) [] x y e = let l : length (a ∷ xs ++ x ∷ []) ≡ length (y ∷ []) = ap length e in let k = length-append xs (x ∷ []) in absurd (omega (arith, l, k))
snoc_same (a ∷ xs) (b ∷ ys) x y e = let h : a ≡ b = cc in let t : xs ++ x ∷ [] ≡ ys ++ y ∷ [] = cc in let r = snoc_same xs ys x y t in (ap (λ zs. a ∷ zs) r.0 ∙ ap (λ c. c ∷ ys) h, r.1)

pub wait_start : (types : List DataDecl) (v : Value) (ty : Ty) → Typed types v ty → (node : ℕ) (tys : List Ty) → node ≡ length (posts v) → length tys ≡ node → Waiting types v ty node (ty ∷ []) tys
wait_start types v ty typed node tys en et =
    let k : length (tposts types v ty) ≡ length (posts v) = sym (length-mapped types value_of (tposts types v ty)) ∙ ap length (nodes_are types v ty typed) in
    record {
      waits = (v, ty) ∷ [];
      tail = [];
      all = sym (append-nil (tposts types v ty ++ []) ∙ append-nil (tposts types v ty));
      typed = (typed, tt);
      are = refl;
      few = ap length (append-nil (tposts types v ty)) ∙ k ∙ sym en;
      done = drop_end tys node et;
      long = et ∙ en ∙ sym k;
    }

pub some_waits : (types : List DataDecl) (v0 : Value) (t0 : Ty) (node : ℕ) (waiting tys : List Ty) → Waiting types v0 t0 node waiting tys → 0 < node → 0 < length waiting
some_waits types v0 t0 node waiting tys w lt = go w.waits w.few w.are
  where
    go : (waits : List TN) → length (typed_all types waits) ≡ node → waiting ≡ map type_of waits → 0 < length waiting
    go [] few are = absurd (omega (arith, few, lt))
    go (x ∷ xs) few are = let l = ap length are in omega (arith, l)

map_type : (xs : List TN) (y : TN) → map type_of (xs ++ y ∷ []) ≡ map type_of xs ++ y.1 ∷ []
map_type [] y = refl
map_type (x ∷ xs) y = ap (λ ts. x.1 ∷ ts) (map_type xs y)

map_types : (xs ys : List TN) → map type_of (xs ++ ys) ≡ map type_of xs ++ map type_of ys
map_types [] ys = refl
map_types (x ∷ xs) ys = ap (λ ts. x.1 ∷ ts) (map_types xs ys)

pub wait_turn : (types : List DataDecl) (v0 : Value) (t0 : Ty) → Typed types v0 t0 → (node n : ℕ) (waiting rest tys : List Ty) (ty : Ty) → Waiting types v0 t0 node waiting tys → suc n ≡ node → waiting ≡ rest ++ ty ∷ []
    → (layer : Layer) → IsLayer (at (posts v0) n) layer → Waiting types v0 t0 n (rest ++ layer_fields types ty layer) (set tys n ty)
wait_turn types v0 t0 typed0 node n waiting rest tys ty w en is layer is_layer =
    let some : 0 < length w.waits = (let l = ap length is ∙ length-append rest (ty ∷ []) in let k = ap length w.are ∙ length-types w.waits in omega (arith, l, k)) in
    let s = snoc_view w.waits some in
    let ws = s.0 in
    let v = s.1.0 in
    let t = s.1.1 in
    let typed = subst (AllTyped types) s.2 w.typed in
    let here = (AllTyped-right types ws ((v, t) ∷ []) typed).0 in
    let l = layered types v t here in
    let same = snoc_same (map type_of ws) rest t ty (sym (map_type ws (v, t)) ∙ ap (map type_of) (sym s.2) ∙ sym w.are ∙ is) in
    let parts : typed_all types w.waits ≡ typed_all types (ws ++ l.kids) ++ (v, t) ∷ [] =
    ap (typed_all types) s.2 ∙ typed_all-append types ws ((v, t) ∷ []) ∙ ap (λ xs. typed_all types ws ++ xs) (append-nil (tposts types v t) ∙ l.is)
    ∙ sym (append_assoc (typed_all types ws) (typed_all types l.kids) ((v, t) ∷ [])) ∙ ap (λ xs. xs ++ (v, t) ∷ []) (sym (typed_all-append types ws l.kids)) in
    let all : tposts types v0 t0 ≡ typed_all types (ws ++ l.kids) ++ (v, t) ∷ w.tail = w.all ∙ ap (λ xs. xs ++ w.tail) parts ∙ append_assoc (typed_all types (ws ++ l.kids)) ((v, t) ∷ []) w.tail in
    let few0 = w.few in
    let few : length (typed_all types (ws ++ l.kids)) ≡ n = (let p = ap length parts ∙ length-append (typed_all types (ws ++ l.kids)) ((v, t) ∷ []) in omega (arith, p, few0, en)) in
    let at_n : slice_get (tposts types v0 t0) n ≡ Some (v, t) = ap (λ xs. slice_get xs n) all ∙ get_mid types (typed_all types (ws ++ l.kids)) (v, t) w.tail n (sym few) in
    let value : at (posts v0) n ≡ v = ap (λ ps. at ps n) (sym (nodes_are types v0 t0 typed0)) ∙ at_mapped (tposts types v0 t0) n (v, t) at_n in
    let fields : layer_fields types t layer ≡ map type_of l.kids = l.fields layer (subst (λ u. IsLayer u layer) value is_layer) in
    let within : n < length tys = (let g = w.long in let k = ap length all ∙ length-append (typed_all types (ws ++ l.kids)) ((v, t) ∷ w.tail) in omega (arith, g, k, few)) in
    record {
      waits = ws ++ l.kids;
      tail = (v, t) ∷ w.tail;
      all = all;
      typed = AllTyped-append types ws l.kids (AllTyped-left types ws ((v, t) ∷ []) typed) l.typed;
      are = ap (λ xs. xs ++ layer_fields types ty layer) (sym same.0) ∙ ap (λ u. map type_of ws ++ layer_fields types u layer) (sym same.1) ∙ ap (λ xs. map type_of ws ++ xs) fields ∙ sym (map_types ws l.kids);
      few = few;
      done = drop_set tys n ty within ∙ ap (λ u. u ∷ drop (suc n) tys) (sym same.1) ∙ ap (λ k. t ∷ drop k tys) en ∙ ap (λ xs. t ∷ xs) w.done;
      long = length_set tys n ty ∙ w.long;
    }
  where
    length-types : (xs : List TN) → length (map type_of xs) ≡ length xs
    length-types [] = refl
    length-types (x ∷ xs) = ap suc (length-types xs)

pub wait_end : (types : List DataDecl) (v0 : Value) (t0 : Ty) (waiting tys : List Ty) → Waiting types v0 t0 0 waiting tys → tys ≡ map type_of (tposts types v0 t0)
wait_end types v0 t0 waiting tys w = w.done ∙ ap (map type_of) (sym (w.all ∙ ap (λ xs. xs ++ w.tail) (none (typed_all types w.waits) w.few)))
  where
    none : (xs : List TN) → length xs ≡ 0 → xs ≡ []
    none [] e = refl
    none (x ∷ xs) e = absurd (omega (arith, e))

pub wait_in : (types : List DataDecl) (v0 : Value) (t0 : Ty) → Typed types v0 t0 → (node : ℕ) (waiting tys : List Ty) → Waiting types v0 t0 node waiting tys → node ≤ length (posts v0)
wait_in types v0 t0 typed node waiting tys w =
    let k : length (tposts types v0 t0) ≡ length (posts v0) = sym (length-mapped types value_of (tposts types v0 t0)) ∙ ap length (nodes_are types v0 t0 typed) in
    let few = w.few in
    let l = ap length w.all ∙ length-append (typed_all types w.waits) w.tail in
    omega (arith, k, few, l)
