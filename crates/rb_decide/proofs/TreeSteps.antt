-- Trees, layer by layer.
use Rattle.std.proofs.Common.{◌≡◌, ℕ, ◌+◌, ◌<◌, ◌≤◌, List, [], ◌∷◌, ◌++◌, map, sum, Option, Some, None, refl, ap, ◌∙◌, arith}
use Rattle.std.specs.Prelude.{option_map, unwrap_or}
use Rattle.std.specs.List.{flat_map}
use Rattle.std.proofs.lemmas.Grind.{common_steps}
use Rattle.rb_core.specs.declared.value.Value.{Value}
use Rattle.rb_core.specs.Values.{part_at}
use Rattle.rb_matrix.specs.declared.matrix.Head.{Head}
use Rattle.rb_decide.specs.declared.decision_tree.Tree.{Tree, Test, Clause, map-Tree}
use Rattle.rb_decide.specs.declared.decision_tree.Tree as TreeM
use Rattle.rb_decide.specs.declared.decision_tree.Tree.TheOpen as T
use Rattle.rb_decide.specs.declared.decision_tree.Tree.TheOpen.{Tree-F}
use Rattle.rb_decide.specs.declared.decision_tree.Tree.TheFolds.{fold_out-Tree, fold_out-TreeArm, fold-TreeArm}
use Rattle.rb_decide.specs.declared.decision_tree.Tree.TheVariants as TV
use Rattle.rb_decide.specs.declared.decision_tree.TreeArm.{TreeArm}
use Rattle.rb_decide.specs.Trees.{Taking, take_at, taken_step, taken_arm_step, clause_taken, size_step, arm_size_step, size, Way, ways_step, arm_ways_step, ways}
use Rattle.rb_decide.specs.inner.Building.{arm_tree, arms_size}

-- what is taken -------------------------------------------------------------------------------------

abbrev pub taken_arm : TreeArm → Head × Taking
taken_arm = fold-TreeArm Taking (Head × Taking) taken_step taken_arm_step

pub taken-Test : (q : List ℕ) (arms : List TreeArm) (d : Option Tree) (v : Value) → clause_taken (Test q arms d) v ≡ take_at (map taken_arm arms) (option_map clause_taken d) (part_at v q) v
taken-Test q arms None v = ap (λ (f : Taking). f v) (fold_out-Tree Taking (Head × Taking) taken_step taken_arm_step (Test q arms None))
    ∙ ap (λ l. taken_step (map-Tree Tree TreeArm Taking (Head × Taking) clause_taken taken_arm l) v) (TV.outs-Test q arms None)
taken-Test q arms (Some t) v = ap (λ (f : Taking). f v) (fold_out-Tree Taking (Head × Taking) taken_step taken_arm_step (Test q arms (Some t)))
    ∙ ap (λ l. taken_step (map-Tree Tree TreeArm Taking (Head × Taking) clause_taken taken_arm l) v) (TV.outs-Test q arms (Some t))

pub taken-Clause : (k : ℕ) (v : Value) → clause_taken (Clause k) v ≡ Some k
unfolding TreeM.out-Tree denote.Hole.Carrier.out
taken-Clause k v = ap (λ (f : Taking). f v) (fold_out-Tree Taking (Head × Taking) taken_step taken_arm_step (Clause k))

pub taken-arm : (h : Head) (t : Tree) → taken_arm (record { head = h; under = t }) ≡ (h, clause_taken t)
taken-arm h t = fold_out-TreeArm Taking (Head × Taking) taken_step taken_arm_step (record { head = h; under = t })

-- sizes ---------------------------------------------------------------------------------------------

abbrev folded_size : TreeArm → ℕ
folded_size = fold-TreeArm ℕ ℕ size_step arm_size_step

folded-arm : (a : TreeArm) → folded_size a ≡ size (arm_tree a)
folded-arm a = fold_out-TreeArm ℕ ℕ size_step arm_size_step a

folded-arms : (arms : List TreeArm) → map folded_size arms ≡ map (λ a. size (arm_tree a)) arms
folded-arms [] = refl
folded-arms (a ∷ as') = ap (λ n. n ∷ map folded_size as') (folded-arm a) ∙ ap (λ l. size (arm_tree a) ∷ l) (folded-arms as')

pub size-Clause : (k : ℕ) → size (Clause k) ≡ 1
unfolding TreeM.out-Tree denote.Hole.Carrier.out
size-Clause k = fold_out-Tree ℕ ℕ size_step arm_size_step (Clause k)

pub size-None : (q : List ℕ) (arms : List TreeArm) → size (Test q arms None) ≡ 1 + arms_size arms + 0
size-None q arms = fold_out-Tree ℕ ℕ size_step arm_size_step (Test q arms None)
    ∙ ap (λ l. size_step (map-Tree Tree TreeArm ℕ ℕ size folded_size l)) (TV.outs-Test q arms None)
    ∙ ap (λ l. 1 + sum l + 0) (folded-arms arms)

pub size-Some : (q : List ℕ) (arms : List TreeArm) (t : Tree) → size (Test q arms (Some t)) ≡ 1 + arms_size arms + size t
size-Some q arms t = fold_out-Tree ℕ ℕ size_step arm_size_step (Test q arms (Some t))
    ∙ ap (λ l. size_step (map-Tree Tree TreeArm ℕ ℕ size folded_size l)) (TV.outs-Test q arms (Some t))
    ∙ ap (λ l. 1 + sum l + size t) (folded-arms arms)

pub size-least : (q : List ℕ) (arms : List TreeArm) (d : Option Tree) → 1 + arms_size arms ≤ size (Test q arms d)
size-least q arms None = let a = size-None q arms in omega (arith, a)
size-least q arms (Some t) = let a = size-Some q arms t in omega (arith, a)

some-nodes : (l : Tree-F ℕ ℕ) → 0 < size_step l
some-nodes (T.Test q sizes other) = omega arith
some-nodes (T.Clause k) = omega arith

pub size-some : (t : Tree) → 0 < size t
size-some t = let a = fold_out-Tree ℕ ℕ size_step arm_size_step t in let b = some-nodes (map-Tree Tree TreeArm ℕ ℕ size folded_size (TreeM.out-Tree t)) in omega (arith, a, b)

pub arms-cons : (a : TreeArm) (as' : List TreeArm) → arms_size (a ∷ as') ≡ size (arm_tree a) + arms_size as'
arms-cons a as' = grind (arith, common_steps)

pub arms-append : (xs ys : List TreeArm) → arms_size (xs ++ ys) ≡ arms_size xs + arms_size ys
arms-append [] ys = omega arith
arms-append (x ∷ xs) ys = let h = arms-append xs ys in omega (arith, h, arms-cons x xs, arms-cons x (xs ++ ys))

-- ways ----------------------------------------------------------------------------------------------

abbrev folded_ways : TreeArm → List Way
folded_ways = fold-TreeArm (List Way) (List Way) ways_step arm_ways_step

abbrev pub arm_ways : TreeArm → List Way
arm_ways a = ways a.under

folded-way : (a : TreeArm) → folded_ways a ≡ arm_ways a
folded-way a = fold_out-TreeArm (List Way) (List Way) ways_step arm_ways_step a

folded-ways : (arms : List TreeArm) → map folded_ways arms ≡ map arm_ways arms
folded-ways [] = refl
folded-ways (a ∷ as') = ap (λ n. n ∷ map folded_ways as') (folded-way a) ∙ ap (λ l. arm_ways a ∷ l) (folded-ways as')

abbrev joined : List (List Way) → List Way
joined xs = flat_map (λ ws. ws) xs

pub ways-Clause : (k : ℕ) → ways (Clause k) ≡ [] ∷ []
unfolding TreeM.out-Tree denote.Hole.Carrier.out
ways-Clause k = fold_out-Tree (List Way) (List Way) ways_step arm_ways_step (Clause k)

pub ways-Test : (q : List ℕ) (arms : List TreeArm) (d : Option Tree)
    → ways (Test q arms d) ≡ map (λ way. q ∷ way) (flat_map (λ ws. ws) (map arm_ways arms) ++ unwrap_or (option_map ways d) [])
ways-Test q arms None = fold_out-Tree (List Way) (List Way) ways_step arm_ways_step (Test q arms None)
    ∙ ap (λ l. ways_step (map-Tree Tree TreeArm (List Way) (List Way) ways folded_ways l)) (TV.outs-Test q arms None)
    ∙ ap (λ l. map (λ way. q ∷ way) (joined l ++ [])) (folded-ways arms)
ways-Test q arms (Some t) = fold_out-Tree (List Way) (List Way) ways_step arm_ways_step (Test q arms (Some t))
    ∙ ap (λ l. ways_step (map-Tree Tree TreeArm (List Way) (List Way) ways folded_ways l)) (TV.outs-Test q arms (Some t))
    ∙ ap (λ l. map (λ way. q ∷ way) (joined l ++ ways t)) (folded-ways arms)
