-- The trees of a graph's nodes while nodes are added.
use Rattle.std.proofs.Common.{◌≡◌, ℕ, zero, suc, ◌+◌, ◌<◌, ◌⊎◌, inl, inr, List, [], ◌∷◌, ◌++◌, map, length, Option, Some, None, refl, sym, ap, ◌∙◌, arith, subst}
use Rattle.std.proofs.lemmas.Bool.{cases_lt}
use Rattle.std.specs.Prelude.{slice_get, option_map, unwrap_or}
use Rattle.std.specs.List.{AllByRecursion}
use Rattle.std.proofs.Common.{append_assoc}
use Rattle.std.proofs.lemmas.List.{length-append, append-nil}
use Rattle.std.proofs.lemmas.Option.{slice_get_within}
use Rattle.rb_decide.specs.declared.decision_tree.Tree.{Tree}
use Rattle.rb_decide.specs.declared.decision_tree.Tree as Trees
use Rattle.rb_decide.specs.declared.decision_tree.TreeArm.{TreeArm}
use Rattle.rb_decide.specs.declared.decision_graph.GraphNode.{GraphNode}
use Rattle.rb_decide.specs.declared.decision_graph.GraphNode.TheVariants.{Test, Clause}
use Rattle.rb_decide.specs.declared.decision_graph.GraphArm.{GraphArm}
use Rattle.rb_decide.specs.declared.sharing.Sharing.{Sharing}
use Rattle.rb_decide.specs.Graphs.{tree_under, arm_under, node_tree, trees_onto, node_trees, arm_link, other_link, links, LinksAreLower, NodesDiffer, IsAmong, IsLinked}
use Rattle.rb_decide.specs.inner.Sharing.{SharingIsFine, Grows, AddsReached, IsAdded, IsShared, Linked, AreShared, OtherLinked, IsOtherShared}

-- lists ---------------------------------------------------------------------------------------------

pub get-left : {A : Type 0} (xs ys : List A) (i : ℕ) (x : A) → slice_get xs i ≡ Some x → slice_get (xs ++ ys) i ≡ Some x
get-left [] ys i x e = cc
get-left (y ∷ xs) ys zero x e = e
get-left (y ∷ xs) ys (suc i) x e = get-left xs ys i x e

pub get-last : {A : Type 0} (xs ys : List A) (x : A) → slice_get (xs ++ x ∷ ys) (length xs) ≡ Some x
get-last [] ys x = refl
get-last (y ∷ xs) ys x = get-last xs ys x

get-in : {A : Type 0} (xs ys : List A) (i : ℕ) → i < length xs → slice_get (xs ++ ys) i ≡ slice_get xs i
get-in [] ys i lt = absurd (omega (arith, lt))
get-in (x ∷ xs) ys zero lt = refl
get-in (x ∷ xs) ys (suc i) lt = get-in xs ys i (omega (arith, lt))

-- what is before an item and behind it
record Split {A : Type 0} (xs : List A) (i : ℕ) (x : A) : Type 0 where
  front : List A
  back : List A
  whole : xs ≡ front ++ x ∷ back
  at : length front ≡ i

split-at : {A : Type 0} (xs : List A) (i : ℕ) (x : A) → slice_get xs i ≡ Some x → Split xs i x
split-at [] i x e = cc
split-at (y ∷ xs) zero x e = let same : y ≡ x = cc in record { front = []; back = xs; whole = ap (λ z. z ∷ xs) same; at = refl }
split-at (y ∷ xs) (suc i) x e = let s = split-at xs i x e in record { front = y ∷ s.front; back = s.back; whole = ap (λ l. y ∷ l) s.whole; at = ap suc s.at }

-- the trees -----------------------------------------------------------------------------------------

onto-append : (lower : List Tree) (ns ms : List GraphNode) → trees_onto lower (ns ++ ms) ≡ trees_onto (trees_onto lower ns) ms
onto-append lower [] ms = refl
onto-append lower (n ∷ ns) ms = onto-append (lower ++ node_tree lower n ∷ []) ns ms

-- more nodes only add trees at the end
onto-more : (lower : List Tree) (ns : List GraphNode) → (more : List Tree) × (trees_onto lower ns ≡ lower ++ more)
onto-more lower [] = ([], sym (append-nil lower))
onto-more lower (n ∷ ns) = let h = onto-more (lower ++ node_tree lower n ∷ []) ns in
    (node_tree lower n ∷ h.0, h.1 ∙ append_assoc lower (node_tree lower n ∷ []) h.0)

onto-length : (lower : List Tree) (ns : List GraphNode) → length (trees_onto lower ns) ≡ length lower + length ns
onto-length lower [] = omega arith
onto-length lower (n ∷ ns) = let h = onto-length (lower ++ node_tree lower n ∷ []) ns in let a = length-append lower (node_tree lower n ∷ []) in omega (arith, h, a)

pub trees-length : (ns : List GraphNode) → length (node_trees ns) ≡ length ns
trees-length ns = let h = onto-length [] ns in omega (arith, h)

pub trees-left : (ns ms : List GraphNode) (i : ℕ) (t : Tree) → slice_get (node_trees ns) i ≡ Some t → slice_get (node_trees (ns ++ ms)) i ≡ Some t
trees-left ns ms i t e = let m = onto-more (node_trees ns) ms in
    ap (λ l. slice_get l i) (onto-append [] ns ms ∙ m.1) ∙ get-left (node_trees ns) m.0 i t e

-- links below a number
abbrev Below : ℕ → List ℕ → Type 0
Below n ls = AllByRecursion (λ j. j < n) ls

below-left : (n : ℕ) (xs ys : List ℕ) → Below n (xs ++ ys) → Below n xs
below-left n [] ys h = tt
below-left n (x ∷ xs) ys h = (h.0, below-left n xs ys h.1)

below-right : (n : ℕ) (xs ys : List ℕ) → Below n (xs ++ ys) → Below n ys
below-right n [] ys h = h
below-right n (x ∷ xs) ys h = below-right n xs ys h.1

below-both : (n : ℕ) (xs ys : List ℕ) → Below n xs → Below n ys → Below n (xs ++ ys)
below-both n [] ys h k = k
below-both n (x ∷ xs) ys h k = (h.0, below-both n xs ys h.1 k)

module _ (lower more : List Tree) where
  arms-stay : (arms : List GraphArm) → Below (length lower) (map arm_link arms) → map (arm_under (lower ++ more)) arms ≡ map (arm_under lower) arms
  arms-stay [] h = refl
  arms-stay (a ∷ as') h = ap (λ o. record { head = a.head; under = unwrap_or o (Trees.Clause 0) } ∷ map (arm_under (lower ++ more)) as') (get-in lower more a.under h.0)
      ∙ ap (λ l. arm_under lower a ∷ l) (arms-stay as' h.1)

  other-stays : (o : Option ℕ) → Below (length lower) (other_link o) → option_map (tree_under (lower ++ more)) o ≡ option_map (tree_under lower) o
  other-stays None h = refl
  other-stays (Some i) h = ap (λ x. Some (unwrap_or x (Trees.Clause 0))) (get-in lower more i h.0)

  -- a node's tree does not change by more trees
  node-stays : (n : GraphNode) → Below (length lower) (links n) → node_tree (lower ++ more) n ≡ node_tree lower n
  node-stays (Test q arms other) h = ap (λ l. Trees.Test q l (option_map (tree_under (lower ++ more)) other)) (arms-stay arms (below-left (length lower) (map arm_link arms) (other_link other) h))
      ∙ ap (Trees.Test q (map (arm_under lower) arms)) (other-stays other (below-right (length lower) (map arm_link arms) (other_link other) h))
  node-stays (Clause k) h = refl

-- a node's tree stands at its number
pub node-tree : (ns : List GraphNode) → LinksAreLower ns → (i : ℕ) (n : GraphNode) → slice_get ns i ≡ Some n → slice_get (node_trees ns) i ≡ Some (node_tree (node_trees ns) n)
node-tree ns low i n e =
    let s = split-at ns i n e in
    let lower : List Tree = node_trees s.front in
    let m = onto-more (node_trees s.front ++ node_tree (node_trees s.front) n ∷ []) s.back in
    let are = ap node_trees s.whole ∙ onto-append [] s.front (n ∷ s.back) ∙ m.1 ∙ append_assoc (node_trees s.front) (node_tree (node_trees s.front) n ∷ []) m.0 in
    let len : length (node_trees s.front) ≡ i = trees-length s.front ∙ s.at in
    let below = subst (λ k. Below k (links n)) (sym len) (low i n e) in
    let same = ap (λ l. node_tree l n) are ∙ node-stays (node_trees s.front) (node_tree (node_trees s.front) n ∷ m.0) n below in
    ap (λ l. slice_get l i) are ∙ ap (slice_get (node_trees s.front ++ node_tree (node_trees s.front) n ∷ m.0)) (sym len)
    ∙ get-last (node_trees s.front) m.0 (node_tree (node_trees s.front) n) ∙ ap (λ t. Some t) (sym same)

-- links to trees ------------------------------------------------------------------------------------

pub linked-below : (trees : List Tree) (arms : List TreeArm) (ls : List GraphArm) → Linked trees arms ls → Below (length trees) (map arm_link ls)
linked-below trees [] [] h = tt
linked-below trees [] (l ∷ ls) h = absurd h
linked-below trees (a ∷ as') [] h = absurd h
linked-below trees (a ∷ as') (l ∷ ls) h = (slice_get_within trees l.under a.under h.1, linked-below trees as' ls h.2)

pub other-below : (trees : List Tree) (other : Option Tree) (o : Option ℕ) → OtherLinked trees other o → Below (length trees) (other_link o)
other-below trees None None h = tt
other-below trees None (Some i) h = absurd h
other-below trees (Some t) None h = absurd h
other-below trees (Some t) (Some i) h = (slice_get_within trees i t h, tt)

linked-arms : (trees : List Tree) (arms : List TreeArm) (ls : List GraphArm) → Linked trees arms ls → map (arm_under trees) ls ≡ arms
linked-arms trees [] [] h = refl
linked-arms trees [] (l ∷ ls) h = absurd h
linked-arms trees (a ∷ as') [] h = absurd h
linked-arms trees (a ∷ as') (l ∷ ls) h =
    ap (λ x. record { head = x; under = tree_under trees l.under } ∷ map (arm_under trees) ls) h.0
    ∙ ap (λ o. record { head = a.head; under = unwrap_or o (Trees.Clause 0) } ∷ map (arm_under trees) ls) h.1
    ∙ ap (λ l. a ∷ l) (linked-arms trees as' ls h.2)

linked-other : (trees : List Tree) (other : Option Tree) (o : Option ℕ) → OtherLinked trees other o → option_map (tree_under trees) o ≡ other
linked-other trees None None h = refl
linked-other trees None (Some i) h = absurd h
linked-other trees (Some t) None h = absurd h
linked-other trees (Some t) (Some i) h = ap (λ o. Some (unwrap_or o (Trees.Clause 0))) h

linked-more : (ns ms : List GraphNode) (arms : List TreeArm) (ls : List GraphArm) → Linked (node_trees ns) arms ls → Linked (node_trees (ns ++ ms)) arms ls
linked-more ns ms [] [] h = tt
linked-more ns ms [] (l ∷ ls) h = absurd h
linked-more ns ms (a ∷ as') [] h = absurd h
linked-more ns ms (a ∷ as') (l ∷ ls) h = (h.0, trees-left ns ms l.under a.under h.1, linked-more ns ms as' ls h.2)

linked-push : (trees : List Tree) (arms : List TreeArm) (ls : List GraphArm) (a : TreeArm) (l : GraphArm) → Linked trees arms ls → l.head ≡ a.head → slice_get trees l.under ≡ Some a.under
    → Linked trees (arms ++ a ∷ []) (ls ++ l ∷ [])
linked-push trees [] [] a l h e f = (e, f, tt)
linked-push trees [] (m ∷ ls) a l h e f = absurd h
linked-push trees (b ∷ arms) [] a l h e f = absurd h
linked-push trees (b ∷ arms) (m ∷ ls) a l h e f = (h.0, h.1, linked-push trees arms ls a l h.2 e f)

other-more : (ns ms : List GraphNode) (other : Option Tree) (o : Option ℕ) → OtherLinked (node_trees ns) other o → OtherLinked (node_trees (ns ++ ms)) other o
other-more ns ms None None h = tt
other-more ns ms None (Some i) h = absurd h
other-more ns ms (Some t) None h = absurd h
other-more ns ms (Some t) (Some i) h = trees-left ns ms i t h

-- the steps of sharing ------------------------------------------------------------------------------

pub grows-twice : (a b c : Sharing) → Grows a b → Grows b c → Grows a c
grows-twice a b c g h = (g.0 ++ h.0, h.1 ∙ ap (λ l. l ++ h.0) g.1 ∙ append_assoc a.nodes g.0 h.0)

pub grows-none : (a : Sharing) → Grows a a
grows-none a = ([], sym (append-nil a.nodes))

-- what is reached -----------------------------------------------------------------------------------

linked-stays : (ns ms : List GraphNode) (i : ℕ) → IsLinked ns i → IsLinked (ns ++ ms) i
linked-stays ns ms i h = record { from = h.from; node = h.node; there = get-left ns ms h.from h.node h.there; link = h.link }

linked-grown : (old new : Sharing) (i : ℕ) → Grows old new → IsLinked old.nodes i → IsLinked new.nodes i
linked-grown old new i g h = subst (λ l. IsLinked l i) (sym g.1) (linked-stays old.nodes g.0 i h)

among-left : (xs ys : List ℕ) (i : ℕ) → IsAmong i xs → IsAmong i (xs ++ ys)
among-left xs ys i h = (h.0, get-left xs ys h.0 i h.1)

among-right : (xs ys : List ℕ) (i : ℕ) → IsAmong i ys → IsAmong i (xs ++ ys)
among-right [] ys i h = h
among-right (x ∷ xs) ys i h = let r = among-right xs ys i h in (suc r.0, r.1)

among-one : (i k : ℕ) → k ≡ i → IsAmong k (i ∷ [])
among-one i k e = (0, ap (λ n. Some n) (sym e))

links-append : (ls : List GraphArm) (l : GraphArm) → map arm_link (ls ++ l ∷ []) ≡ map arm_link ls ++ l.under ∷ []
links-append [] l = refl
links-append (m ∷ ls) l = ap (λ is. m.under ∷ is) (links-append ls l)

pub none-reached : (s : Sharing) (IsEnd : ℕ → Type 0) → AddsReached s s IsEnd
none-reached s IsEnd k le lt = absurd (omega (arith, le, lt))

-- in two steps
both-reached : (old mid new : Sharing) (IsEnd IsFirst IsSecond : ℕ → Type 0) → Grows mid new → AddsReached old mid IsFirst → AddsReached mid new IsSecond
    → ((k : ℕ) → IsFirst k → IsEnd k ⊎ IsLinked new.nodes k) → ((k : ℕ) → IsSecond k → IsEnd k ⊎ IsLinked new.nodes k) → AddsReached old new IsEnd
both-reached old mid new IsEnd IsFirst IsSecond g a b first second k le lt = elim (cases_lt k (length mid.nodes)) [
  | inl less ↦ by-first (a k le less)
  | inr most ↦ by-second (b k most lt)
]
  where
    by-first : IsFirst k ⊎ IsLinked mid.nodes k → IsEnd k ⊎ IsLinked new.nodes k
    by-first (inl h) = first k h
    by-first (inr h) = inr (linked-grown mid new k g h)

    by-second : IsSecond k ⊎ IsLinked new.nodes k → IsEnd k ⊎ IsLinked new.nodes k
    by-second (inl h) = second k h
    by-second (inr h) = inr h

-- what is reached from a test's links is reached from the test
test-reached : (old s1 s2 new : Sharing) (q : List ℕ) (ls : List GraphArm) (o : Option ℕ) (i : ℕ) → Grows s1 s2 → AddsReached old s1 (λ k. IsAmong k (map arm_link ls)) → AddsReached s1 s2 (λ k. IsAmong k (other_link o))
    → IsAdded s2 new (Test q ls o) i → AddsReached old new (λ k. k ≡ i)
test-reached old s1 s2 new q ls o i g a b d =
    both-reached old s2 new (λ k. k ≡ i) (λ k. IsAmong k (links (Test q ls o))) (λ k. k ≡ i) d.grown
    (both-reached old s1 s2 (λ k. IsAmong k (links (Test q ls o))) (λ k. IsAmong k (map arm_link ls)) (λ k. IsAmong k (other_link o)) g a b
    (λ k h. inl (among-left (map arm_link ls) (other_link o) k h)) (λ k h. inl (among-right (map arm_link ls) (other_link o) k h)))
    (λ k le lt. inl (d.alone k le lt))
    (λ k h. inr (record { from = i; node = Test q ls o; there = d.there; link = h })) (λ k h. inl h)

-- a clause
pub clause-shared : (old new : Sharing) (k i : ℕ) → IsAdded old new (Clause k) i → IsShared (Trees.Clause k) old new i
clause-shared old new k i a = record { fine = a.fine; grown = a.grown; there = node-tree new.nodes a.fine.lower i (Clause k) a.there; reached = λ j le lt. inl (a.alone j le lt) }

-- a test
pub test-links : (s1 s2 : Sharing) (arms : List TreeArm) (ls : List GraphArm) (other : Option Tree) (o : Option ℕ) (old : Sharing) (q : List ℕ)
    → AreShared arms old s1 ls → IsOtherShared other s1 s2 o → Below (length s2.nodes) (links (Test q ls o))
test-links s1 s2 arms ls other o old q a b =
    let len = trees-length s2.nodes in
    let there = subst (λ l. Linked (node_trees l) arms ls) (sym b.grown.1) (linked-more s1.nodes b.grown.0 arms ls a.there) in
    subst (λ n. Below n (links (Test q ls o))) len
    (below-both (length (node_trees s2.nodes)) (map arm_link ls) (other_link o) (linked-below (node_trees s2.nodes) arms ls there) (other-below (node_trees s2.nodes) other o b.there))

pub test-shared : (old s1 s2 new : Sharing) (q : List ℕ) (arms : List TreeArm) (ls : List GraphArm) (other : Option Tree) (o : Option ℕ) (i : ℕ)
    → AreShared arms old s1 ls → IsOtherShared other s1 s2 o → IsAdded s2 new (Test q ls o) i → IsShared (Trees.Test q arms other) old new i
test-shared old s1 s2 new q arms ls other o i a b d =
    let two = subst (λ l. Linked (node_trees l) arms ls) (sym b.grown.1) (linked-more s1.nodes b.grown.0 arms ls a.there) in
    let three = subst (λ l. Linked (node_trees l) arms ls) (sym d.grown.1) (linked-more s2.nodes d.grown.0 arms ls two) in
    let last = subst (λ l. OtherLinked (node_trees l) other o) (sym d.grown.1) (other-more s2.nodes d.grown.0 other o b.there) in
    record {
      fine = d.fine;
      grown = grows-twice old s1 new a.grown (grows-twice s1 s2 new b.grown d.grown);
      there = node-tree new.nodes d.fine.lower i (Test q ls o) d.there
          ∙ ap (λ l. Some (Trees.Test q l (option_map (tree_under (node_trees new.nodes)) o))) (linked-arms (node_trees new.nodes) arms ls three)
          ∙ ap (λ l. Some (Trees.Test q arms l)) (linked-other (node_trees new.nodes) other o last);
      reached = test-reached old s1 s2 new q ls o i b.grown a.reached b.reached d;
    }

-- arms
pub arms-none : (s : Sharing) → SharingIsFine s → AreShared [] s s []
arms-none s f = record { fine = f; grown = grows-none s; there = tt; reached = none-reached s (λ k. IsAmong k []) }

pub arms-more : (old s1 s2 : Sharing) (arms : List TreeArm) (ls : List GraphArm) (a : TreeArm) (l : GraphArm)
    → AreShared arms old s1 ls → IsShared a.under s1 s2 l.under → l.head ≡ a.head → AreShared (arms ++ a ∷ []) old s2 (ls ++ l ∷ [])
arms-more old s1 s2 arms ls a l h k e = record {
  fine = k.fine;
  grown = grows-twice old s1 s2 h.grown k.grown;
  there = linked-push (node_trees s2.nodes) arms ls a l (subst (λ x. Linked (node_trees x) arms ls) (sym k.grown.1) (linked-more s1.nodes k.grown.0 arms ls h.there)) e k.there;
  reached = subst (λ is. AddsReached old s2 (λ j. IsAmong j is)) (sym (links-append ls l))
      (both-reached old s1 s2 (λ j. IsAmong j (map arm_link ls ++ l.under ∷ [])) (λ j. IsAmong j (map arm_link ls)) (λ j. j ≡ l.under) k.grown h.reached k.reached
      (λ j x. inl (among-left (map arm_link ls) (l.under ∷ []) j x)) (λ j x. inl (among-right (map arm_link ls) (l.under ∷ []) j (among-one l.under j x))));
}

-- the root's other branch
pub other-none : (s : Sharing) → SharingIsFine s → IsOtherShared None s s None
other-none s f = record { fine = f; grown = grows-none s; there = tt; reached = none-reached s (λ k. IsAmong k []) }

pub other-some : (old new : Sharing) (t : Tree) (i : ℕ) → IsShared t old new i → IsOtherShared (Some t) old new (Some i)
other-some old new t i h = record { fine = h.fine; grown = h.grown; there = h.there; reached = λ k le lt. one k (h.reached k le lt) }
  where
    one : (k : ℕ) → (k ≡ i) ⊎ IsLinked new.nodes k → IsAmong k (i ∷ []) ⊎ IsLinked new.nodes k
    one k (inl e) = inl (among-one i k e)
    one k (inr x) = inr x

-- no two nodes are equal
pub nodes-differ : (s : Sharing) → SharingIsFine s → NodesDiffer s.nodes
nodes-differ s f i j n a b = some-back (sym (f.known i n a) ∙ f.known j n b)
  where
    some-back : Some i ≡ Some j → i ≡ j
    some-back e = cc

-- from no nodes on, each is the root, or some node links to it
pub all-reached : (old new : Sharing) (i : ℕ) → old.nodes ≡ [] → AddsReached old new (λ k. k ≡ i) → (k : ℕ) → k < length new.nodes → (k ≡ i) ⊎ IsLinked new.nodes k
all-reached old new i none h k lt = h k (let e = ap length none in omega (arith, e)) lt
