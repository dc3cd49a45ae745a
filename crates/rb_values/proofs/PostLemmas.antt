-- Subterms in post-order.
use Rattle.std.proofs.Common.{◌≡◌, ℕ, zero, suc, ◌+◌, ◌-◌, ◌<◌, ◌≤◌, List, [], ◌∷◌, ◌++◌, length, map, sum, take, drop, refl, arith, ◌∙◌, ap, sym, append_assoc, flat_map, All, add-one}
use Rattle.std.proofs.lemmas.Grind.{common_steps, flat_map-append}
use Rattle.std.proofs.lemmas.List.{map-append, append-nil}
use Rattle.std.proofs.Math.ListN.{length-append, set}
use Rattle.std.proofs.Math.Seq.{take-suc-set}
use Rattle.std.proofs.lemmas.List.Elements.{All-take}
use Rattle.rb_core.specs.declared.value.Value as X
use Rattle.rb_core.specs.declared.value.Value.{Value, Num, Con}
use Rattle.rb_core.specs.declared.value.Value.TheOpen as V
use Rattle.rb_core.specs.declared.value.Value.TheFolds.{para-roll-Value}
use Rattle.rb_core.specs.Values.{node_count, nodes_step}
use Rattle.rb_core.proofs.ValueLaws.{Each, induction, fold-Num, fold-Con}
use Rattle.rb_values.specs.Nodes.{at, posts, posts_step}
use Rattle.rb_values.specs.Linking.{IsBuilt}
use Rattle.rb_values.proofs.PrintLemmas.{nodes-cons}

pub posts-Num : (n : ℕ) → posts (Num n) ≡ Num n ∷ []
unfolding X.roll-Value denote.Hole.Carrier.roll
posts-Num n = para-roll-Value (List Value) posts_step (V.Num n)

pair_of : Value → Value × List Value
pair_of v = (v, posts v)

firsts : (vs : List Value) → map (λ (p : Value × List Value). p.0) (map (λ (v : Value). (v, posts v)) vs) ≡ vs
firsts [] = refl
firsts (v ∷ vs) = ap (λ (l : List Value). v ∷ l) (firsts vs)

seconds : (vs : List Value) → flat_map (λ (p : Value × List Value). p.1) (map (λ (v : Value). (v, posts v)) vs) ≡ flat_map posts vs
seconds [] = refl
seconds (v ∷ vs) = ap (λ (l : List Value). posts v ++ l) (seconds vs)

pub posts-Con : (k : ℕ) (vs : List Value) → posts (Con k vs) ≡ flat_map posts vs ++ Con k vs ∷ []
unfolding X.roll-Value denote.Hole.Carrier.roll
posts-Con k vs =
    let e : posts (Con k vs) ≡ flat_map (λ (p : Value × List Value). p.1) (map (λ (v : Value). (v, posts v)) vs) ++ Con k (map (λ (p : Value × List Value). p.0) (map (λ (v : Value). (v, posts v)) vs)) ∷ [] =
    para-roll-Value (List Value) posts_step (V.Con k vs) in
    rw (seconds vs, firsts vs) at e

turn : (n : ℕ) → n + 1 ≡ 1 + n
turn n = omega arith

abbrev HasLength : Value → Type 0
HasLength v = length (posts v) ≡ node_count v

length_all : (vs : List Value) → Each HasLength vs → length (flat_map posts vs) ≡ sum (map node_count vs)
length_all [] e = refl
length_all (v ∷ vs) e = let r = length_all vs e.1 in omega (arith, e.0, r, nodes-cons v vs, length-append (posts v) (flat_map posts vs))

pub count_posts : (v : Value) → length (posts v) ≡ node_count v
count_posts v = induction HasLength
    (λ (n : ℕ). ap length (posts-Num n) ∙ sym (fold-Num ℕ nodes_step n))
    (λ (k : ℕ) (vs : List Value) (e : Each HasLength vs).
    ap length (posts-Con k vs) ∙ length-append (flat_map posts vs) (Con k vs ∷ []) ∙ ap (λ (m : ℕ). m + 1) (length_all vs e) ∙ turn (sum (map node_count vs)) ∙ sym (fold-Con ℕ nodes_step k vs)) v

every_count : (vs : List Value) → Each HasLength vs
every_count [] = tt
every_count (v ∷ vs) = (count_posts v, every_count vs)

pub count_all : (vs : List Value) → length (flat_map posts vs) ≡ sum (map node_count vs)
count_all vs = length_all vs (every_count vs)

front_at : (nodes : List Value) (x : Value) (i : ℕ) → i < length nodes → at (nodes ++ x ∷ []) i ≡ at nodes i
front_at nodes x i h = grind (arith, common_steps)

back_at : (nodes : List Value) (x : Value) → at (nodes ++ x ∷ []) (length nodes) ≡ x
back_at [] x = refl
back_at (v ∷ nodes) x = back_at nodes x

map_kept : (nodes : List Value) (x : Value) (ks : List ℕ) → All (λ k. k < length nodes) ks → map (at (nodes ++ x ∷ [])) ks ≡ map (at nodes) ks
map_kept nodes x [] a = refl
map_kept nodes x (k ∷ ks) a = let h = front_at nodes x k (a 0 0 (omega arith)) in let r = map_kept nodes x ks (λ (i : ℕ) (d : ℕ) (h : i < length ks). a (suc i) d (omega arith)) in cc

pub record Over (nodes : List Value) (front : List ℕ) (x : Value) : Type 0 where
  pub built : IsBuilt (nodes ++ x ∷ []) (front ++ length nodes ∷ [])
  pub shows : map (at (nodes ++ x ∷ [])) (front ++ length nodes ∷ []) ≡ map (at nodes) front ++ x ∷ []

below_push : (n : ℕ) (ks : List ℕ) → All (λ k. k < n) ks → All (λ k. k < n + 1) (ks ++ n ∷ [])
below_push n ks a = grind (arith, common_steps)

pub over : (nodes : List Value) (front : List ℕ) (inner : List Value) (x : Value) → All (λ k. k < length nodes) front →
    nodes ≡ flat_map posts (map (at nodes) front) ++ inner → posts x ≡ inner ++ x ∷ [] → Over nodes front x
over nodes front inner x a e p =
    let shows : map (at (nodes ++ x ∷ [])) (front ++ length nodes ∷ []) ≡ map (at nodes) front ++ x ∷ [] =
    map-append (at (nodes ++ x ∷ [])) front (length nodes ∷ []) ∙ ap (λ (l : List Value). l ++ at (nodes ++ x ∷ []) (length nodes) ∷ []) (map_kept nodes x front a)
    ∙ ap (λ (v : Value). map (at nodes) front ++ v ∷ []) (back_at nodes x) in
    let fs : List Value = flat_map posts (map (at nodes) front) in
    let q : flat_map posts (map (at nodes) front ++ x ∷ []) ≡ fs ++ posts x = flat_map-append posts (map (at nodes) front) (x ∷ []) ∙ ap (λ (l : List Value). fs ++ l) (append-nil (posts x)) in
    record {
      built = record {
        below = let l = length-append nodes (x ∷ []) in rw l (below_push (length nodes) front a);
        order = rw (shows, q, p) (ap (λ (l : List Value). l ++ x ∷ []) e ∙ append_assoc fs inner (x ∷ []));
      };
      shows = shows;
    }

map_take : (f : ℕ → Value) (n : ℕ) (ks : List ℕ) → map f (take n ks) ≡ take n (map f ks)
map_take f zero ks = refl
map_take f (suc n) [] = refl
map_take f (suc n) (k ∷ ks) = ap (λ (l : List Value). f k ∷ l) (map_take f n ks)

map_drop : (f : ℕ → Value) (n : ℕ) (ks : List ℕ) → map f (drop n ks) ≡ drop n (map f ks)
map_drop f zero ks = refl
map_drop f (suc n) [] = refl
map_drop f (suc n) (k ∷ ks) = map_drop f n ks

join_at : (n : ℕ) (ks : List ℕ) → take n ks ++ drop n ks ≡ ks
join_at zero ks = refl
join_at (suc n) [] = refl
join_at (suc n) (k ∷ ks) = ap (λ (l : List ℕ). k ∷ l) (join_at n ks)

take_below : (n m : ℕ) (ks : List ℕ) → All (λ k. k < n) ks → All (λ k. k < n) (take m ks)
take_below n m ks a = All-take (λ k. k < n) m ks a

pub built_number : (nodes : List Value) (done : List ℕ) (n : ℕ) → IsBuilt nodes done → Over nodes done (Num n)
built_number nodes done n b = over nodes done [] (Num n) b.below (b.order ∙ sym (append-nil (flat_map posts (map (at nodes) done)))) (posts-Num n)

pub built_con : (nodes : List Value) (done : List ℕ) (start k : ℕ) → IsBuilt nodes done → Over nodes (take start done) (Con k (map (at nodes) (drop start done)))
built_con nodes done start k b =
    let front : List Value = map (at nodes) (take start done) in
    let back : List Value = map (at nodes) (drop start done) in
    let cut : map (at nodes) done ≡ front ++ back = ap (map (at nodes)) (sym (join_at start done)) ∙ map-append (at nodes) (take start done) (drop start done) in
    over nodes (take start done) (flat_map posts back) (Con k back) (take_below (length nodes) start done b.below)
    (b.order ∙ ap (flat_map posts) cut ∙ flat_map-append posts front back) (posts-Con k back)

pub stack_after : (nodes : List Value) (done : List ℕ) (old : List Value) (start k : ℕ) → map (at nodes) done ≡ old →
    map (at nodes) (take start done) ++ Con k (map (at nodes) (drop start done)) ∷ [] ≡ take start old ++ Con k (drop start old) ∷ []
stack_after nodes done old start k e = rw (map_take (at nodes) start done, map_drop (at nodes) start done, e) refl

last_of : (vs : List Value) (v : Value) → at (vs ++ v ∷ []) (length (vs ++ v ∷ []) - 1) ≡ v
last_of vs v = let l : length (vs ++ v ∷ []) - 1 ≡ length vs = omega (arith, length-append vs (v ∷ [])) in rw l (back_at vs v)

abbrev EndsWell : Value → Type 0
EndsWell v = at (posts v) (length (posts v) - 1) ≡ v

pub last_post : (v : Value) → EndsWell v
last_post v = induction EndsWell (λ (n : ℕ). rw (posts-Num n) refl) (λ (k : ℕ) (vs : List Value) (e : Each EndsWell vs). rw (posts-Con k vs) (last_of (flat_map posts vs) (Con k vs))) v

some_posts : (v : Value) → 0 < length (posts v)
some_posts v = induction (λ (v : Value). 0 < length (posts v)) (λ (n : ℕ). rw (posts-Num n) (omega arith))
    (λ (k : ℕ) (vs : List Value) (e : Each (λ (v : Value). 0 < length (posts v)) vs). rw (posts-Con k vs) (omega (arith, length-append (flat_map posts vs) (Con k vs ∷ [])))) v

-- a forest has a node
pub some_node : (nodes : List Value) (v : Value) → nodes ≡ posts v → 0 < length nodes
some_node nodes v e = rw e (some_posts v)

pub finished : (nodes : List Value) (done : List ℕ) (stack : List Value) → IsBuilt nodes done → map (at nodes) done ≡ stack → length stack ≡ 1 →
    (nodes ≡ posts (at nodes (length nodes - 1))) × (stack ≡ at nodes (length nodes - 1) ∷ [])
finished nodes [] stack b e h = absurd (omega (arith, ap length e, h))
finished nodes (d ∷ []) stack b e h =
    let v : Value = at nodes d in
    let o : nodes ≡ posts v = b.order ∙ append-nil (posts v) in
    let l : at nodes (length nodes - 1) ≡ v = ap (λ (ns : List Value). at ns (length ns - 1)) o ∙ last_post v in
    (rw l o, sym e ∙ ap (λ (x : Value). x ∷ []) (sym l))
finished nodes (d ∷ d' ∷ ds) stack b e h = absurd (omega (arith, ap length e, h))

pub new_done : (done : List ℕ) (s a : ℕ) → s ≤ length done → take (s + 1) (set (done ++ a ∷ []) s a) ≡ take s done ++ a ∷ []
new_done done s a h =
    let l : s < length (done ++ a ∷ []) = omega (arith, length-append done (a ∷ [])) in
    let t : take s (done ++ a ∷ []) ≡ take s done = grind (arith, common_steps) in
    rw (add-one s) (take-suc-set (done ++ a ∷ []) s a l ∙ ap (λ (l : List ℕ). l ++ a ∷ []) t)

pub children_cut : (done : List ℕ) (s n a : ℕ) → s + n ≡ length done → take (s + n - s) (drop s (done ++ a ∷ [])) ≡ drop s done
children_cut [] s n a h = grind (arith, common_steps)
children_cut (x ∷ done) zero n a h = grind (arith, common_steps)
children_cut (x ∷ done) (suc s) n a h =
    let e : suc s + n - suc s ≡ s + n - s = omega arith in rw e (children_cut done s n a (omega (arith, h)))
