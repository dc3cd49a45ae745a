-- The nodes of one pattern's chain, from the last to the first.
use Rattle.std.proofs.Common.{◌≡◌, ℕ, zero, suc, ◌+◌, ◌<◌, ◌≤◌, inl, inr, List, [], ◌∷◌, ◌++◌, map, drop, length, get_or, Bool, true, false, ◌==◌, Option, Some, None, refl, sym, ap, ◌∙◌, arith, subst}
use Rattle.std.specs.Prelude.{slice_get, if◌then◌else◌, option_map}
use Rattle.std.specs.List.{AllByRecursion}
use Rattle.std.proofs.lemmas.Grind.{common_steps}
use Rattle.std.proofs.lemmas.List.{length-append, length-map}
use Rattle.std.proofs.lemmas.Option.{slice_get_within}
use Rattle.rb_core.specs.declared.types.ConRef.{ConRef}
use Rattle.rb_core.specs.declared.types.DataDecl.{DataDecl}
use Rattle.rb_core.specs.declared.types.Ty.{Ty}
use Rattle.rb_core.specs.declared.pattern.Pat.{Pat, Wild, Var, Num, Con}
use Rattle.rb_core.proofs.PatternLaws.{fold-Wild, fold-Var, fold-Num, fold-Con}
use Rattle.rb_matrix.specs.declared.matrix.Head.{Head}
use Rattle.rb_matrix.specs.declared.matrix.Head.TheVariants as H
use Rattle.rb_matrix.specs.Counts.{heads_step, head_count, row_head_count}
use Rattle.rb_decide.specs.declared.clause_matrix.Column.{Column}
use Rattle.rb_decide.specs.declared.decision_tree.Tree.{Tree}
use Rattle.rb_decide.specs.declared.decision_tree.Tree as Trees
use Rattle.rb_decide.specs.declared.decision_graph.GraphArm.{GraphArm}
use Rattle.rb_decide.specs.declared.decision_graph.GraphNode.{GraphNode}
use Rattle.rb_decide.specs.declared.decision_graph.GraphNode.TheVariants.{Test, Clause}
use Rattle.rb_decide.specs.ClauseMatrices.{is_complete, field_types, field_columns}
use Rattle.rb_decide.specs.Graphs.{tree_under, arm_under, node_trees, other_link, links, LinksAreLower}
use Rattle.rb_decide.specs.inner.Chains.{Chain, one_test, chain_row, chain_fields, chain_step, chain, AreChained, IsChained}
use Rattle.rb_decide.specs.ClauseMatrices.{match_column}
use Rattle.rb_decide.specs.Trees.{match_tree}
use Rattle.std.proofs.lemmas.Option.{same_Some}
use Rattle.rb_decide.proofs.Chains.{pattern-chain}
use Rattle.rb_decide.proofs.Moving.{split-at-item, drop-past}
use Rattle.rb_decide.proofs.NodeKeys.{last-or}
use Rattle.rb_decide.proofs.Unfolding.{get-left, get-last, node-tree, trees-left}
use Rattle.rb_decide.proofs.Weights.{row-cons}

-- one test more -------------------------------------------------------------------------------------

pub no-other : (full : Bool) (o : Option ℕ) → o ≡ (if full then None else Some 0) → (n : ℕ) → 0 < n → AllByRecursion (λ j. j < n) (other_link o)
no-other true o e n lt = subst (λ x. AllByRecursion (λ j. j < n) (other_link x)) (sym e) tt
no-other false o e n lt = subst (λ x. AllByRecursion (λ j. j < n) (other_link x)) (sym e) (lt, tt)

module _ (types : List DataDecl) (c : Column) (h : Head) (old new : List GraphNode) (under : ℕ) (fine : AreChained old) (low : under < length old) (q : List ℕ) (position : q ≡ c.position)
    (full : Bool) (cover : full ≡ is_complete types c.ty (h ∷ [])) (other : Option ℕ) (is : other ≡ (if full then None else Some 0)) (arms : List GraphArm) (arm : arms ≡ record { head = h; under = under } ∷ [])
    (pushed : new ≡ old ++ Test q arms other ∷ []) where
  abbrev node : GraphNode
  node = Test q arms other

  long : length new ≡ length old + 1
  long = ap length pushed ∙ length-append old (node ∷ [])

  links-low : AllByRecursion (λ j. j < length old) (links node)
  links-low = subst (λ l. AllByRecursion (λ j. j < length old) (links (Test q l other))) (sym arm) (low, no-other full other is (length old) (slice_get_within old 0 (Clause 1) fine.others))

  lower : LinksAreLower new
  lower i n e = elim (last-or old node n i (sym (ap (λ l. slice_get l i) pushed) ∙ e)) [
    | inl at ↦ fine.lower i n at
    | inr at ↦ subst (λ k. AllByRecursion (λ j. j < k) (links n)) (sym at.0) (subst (λ m. AllByRecursion (λ j. j < length old) (links m)) at.1 links-low)
  ]

  others : slice_get new 0 ≡ Some (Clause 1)
  others = ap (λ l. slice_get l 0) pushed ∙ get-left old (node ∷ []) 0 (Clause 1) fine.others

  stays : (i : ℕ) (t : Tree) → slice_get (node_trees old) i ≡ Some t → slice_get (node_trees new) i ≡ Some t
  stays i t e = ap (λ l. slice_get (node_trees l) i) pushed ∙ trees-left old (node ∷ []) i t e

  last : slice_get new (length old) ≡ Some node
  last = ap (λ l. slice_get l (length old)) pushed ∙ get-last old [] node

  other-is : (b : Bool) → b ≡ full → option_map (tree_under (node_trees new)) other ≡ (if b then None else Some (Trees.Clause 1))
  other-is true e = ap (option_map (tree_under (node_trees new))) (is ∙ ap (λ x. if x then None else Some 0) (sym e))
  other-is false e = ap (option_map (tree_under (node_trees new))) (is ∙ ap (λ x. if x then None else Some 0) (sym e))
      ∙ ap (λ o. Some (Rattle.std.specs.Prelude.unwrap_or o (Trees.Clause 0))) (node-tree new lower 0 (Clause 1) others)

  there : (t : Tree) → slice_get (node_trees old) under ≡ Some t → slice_get (node_trees new) (length old) ≡ Some (one_test types h c t)
  there t e = node-tree new lower (length old) node last
      ∙ ap (λ l. Some (Trees.Test q (map (arm_under (node_trees new)) l) (option_map (tree_under (node_trees new)) other))) arm
      ∙ ap (λ o. Some (Trees.Test q (record { head = h; under = Rattle.std.specs.Prelude.unwrap_or o (Trees.Clause 0) } ∷ []) (option_map (tree_under (node_trees new)) other))) (stays under t e)
      ∙ ap (λ o. Some (Trees.Test q (record { head = h; under = t } ∷ []) o)) (other-is (is_complete types c.ty (h ∷ [])) (sym cover))
      ∙ ap (λ p. Some (Trees.Test p (record { head = h; under = t } ∷ []) (if is_complete types c.ty (h ∷ []) then None else Some (Trees.Clause 1)))) position

  pub test-chained : (i : ℕ) → i ≡ length old → IsChained (one_test types h c) 1 old under new i
  test-chained i e = record {
    fine = record { lower = lower; others = others };
    within = omega (arith, e, long);
    few = omega (arith, long);
    there = λ t at. ap (slice_get (node_trees new)) e ∙ there t at;
  }

-- chains of patterns --------------------------------------------------------------------------------

-- the same by another name
pub chained-as : (put as' : Tree → Tree) (most more : ℕ) (old : List GraphNode) (under : ℕ) (new : List GraphNode) (i : ℕ) → ((t : Tree) → put t ≡ as' t) → most ≤ more
    → IsChained put most old under new i → IsChained as' more old under new i
chained-as put as' most more old under new i same le h = record {
  fine = h.fine;
  within = h.within;
  few = let f = h.few in omega (arith, f, le);
  there = λ t e. h.there t e ∙ ap (λ x. Some x) (same t);
}

-- nothing to test
pub none-chained : (put : Tree → Tree) (most : ℕ) (old : List GraphNode) (under : ℕ) → AreChained old → under < length old → ((t : Tree) → put t ≡ t) → IsChained put most old under old under
none-chained put most old under fine low same = record {
  fine = fine;
  within = low;
  few = omega arith;
  there = λ t e. e ∙ ap (λ x. Some x) (sym (same t));
}

-- one chain before another
pub then-chained : (first second : Tree → Tree) (m n : ℕ) (a : List GraphNode) (i : ℕ) (b : List GraphNode) (j : ℕ) (d : List GraphNode) (k : ℕ) → IsChained first m a i b j → IsChained second n b j d k
    → IsChained (λ t. second (first t)) (m + n) a i d k
then-chained first second m n a i b j d k x y = record {
  fine = y.fine;
  within = y.within;
  few = let f = x.few in let g = y.few in omega (arith, f, g);
  there = λ t e. y.there (first t) (x.there t e);
}

module _ (types : List DataDecl) (c : Column) where
  pub chain-Wild : (at : ℕ) (t : Tree) → chain types (Wild at) c t ≡ t
  chain-Wild at t = ap (λ (f : Chain). f c t) (fold-Wild Chain (chain_step types) at)

  pub chain-Var : (at x : ℕ) (t : Tree) → chain types (Var at x) c t ≡ t
  chain-Var at x t = ap (λ (f : Chain). f c t) (fold-Var Chain (chain_step types) at x)

  chain-Num : (at n : ℕ) (t : Tree) → one_test types (H.Num n) c t ≡ chain types (Num at n) c t
  chain-Num at n t = sym (ap (λ (f : Chain). f c t) (fold-Num Chain (chain_step types) at n))

  chain-Con : (at : ℕ) (d : ConRef) (ps : List Pat) (t : Tree)
      → one_test types (H.Con d) c (chain_fields (map (chain types) ps) c.position (field_types types c.ty (H.Con d)) t) ≡ chain types (Con at d ps) c t
  chain-Con at d ps t = sym (ap (λ (f : Chain). f c t) (fold-Con Chain (chain_step types) at d ps))

  pub num-chained : (at n : ℕ) (old : List GraphNode) (under : ℕ) (new : List GraphNode) (i : ℕ) → IsChained (one_test types (H.Num n) c) 1 old under new i
      → IsChained (chain types (Num at n) c) (head_count (Num at n)) old under new i
  num-chained at n old under new i h = chained-as (one_test types (H.Num n) c) (chain types (Num at n) c) 1 (head_count (Num at n)) old under new i (chain-Num at n) (let e = fold-Num ℕ heads_step at n in omega (arith, e)) h

  pub con-chained : (at : ℕ) (d : ConRef) (ps : List Pat) (fields : List Ty) (old : List GraphNode) (under : ℕ) (mid : List GraphNode) (j : ℕ) (new : List GraphNode) (i : ℕ) → fields ≡ field_types types c.ty (H.Con d)
      → IsChained (chain_fields (map (chain types) ps) c.position fields) (row_head_count ps) old under mid j → IsChained (one_test types (H.Con d) c) 1 mid j new i
      → IsChained (chain types (Con at d ps) c) (head_count (Con at d ps)) old under new i
  con-chained at d ps fields old under mid j new i e f g =
      let put = chain_fields (map (chain types) ps) c.position fields in
      chained-as (λ t. one_test types (H.Con d) c (put t)) (chain types (Con at d ps) c) (row_head_count ps + 1) (head_count (Con at d ps)) old under new i
      (λ t. ap (λ l. one_test types (H.Con d) c (chain_fields (map (chain types) ps) c.position l t)) e ∙ chain-Con at d ps t) (let h = heads-Con at d ps in omega (arith, h))
      (then-chained put (one_test types (H.Con d) c) (row_head_count ps) 1 old under mid j new i f g)
    where
      heads-Con : (at : ℕ) (d : ConRef) (ps : List Pat) → head_count (Con at d ps) ≡ 1 + row_head_count ps
      heads-Con at d ps = fold-Con ℕ heads_step at d ps

pub con-heads : (at : ℕ) (d : ConRef) (ps : List Pat) → head_count (Con at d ps) ≡ 1 + row_head_count ps
con-heads at d ps = fold-Con ℕ heads_step at d ps

-- fields, the last first ----------------------------------------------------------------------------

pub one-of : (ps : List Pat) (k : ℕ) (p : Pat) → k < length ps → p ≡ get_or ps k p → head_count p ≤ row_head_count ps
one-of [] k p lt e = absurd (omega (arith, lt))
one-of (q ∷ qs) zero p lt e = let a = row-cons q qs in let b = ap head_count e in omega (arith, a, b)
one-of (q ∷ qs) (suc k) p lt e = let h = one-of qs k p (omega (arith, lt)) e in let a = row-cons q qs in omega (arith, a, h)

module _ (types : List DataDecl) (position : List ℕ) (tys : List Ty) (ps : List Pat) where
  -- from field k on
  abbrev pub from_field : ℕ → Tree → Tree
  from_field k t = chain_row (map (chain types) (drop k ps)) (field_columns position k (drop k tys)) t

  abbrev pub AreFrom : ℕ → List GraphNode → ℕ → List GraphNode → ℕ → Type 0
  AreFrom k old under new i = IsChained (from_field k) (row_head_count (drop k ps)) old under new i

  pub from-end : (k : ℕ) (old : List GraphNode) (under : ℕ) → length ps ≤ k → AreChained old → under < length old → AreFrom k old under old under
  from-end k old under le fine low = none-chained (from_field k) (row_head_count (drop k ps)) old under fine low
      (λ t. ap (λ l. chain_row (map (chain types) l) (field_columns position k (drop k tys)) t) (drop-past ps k le))

  pub from-next : (k m n : ℕ) (p : Pat) (ty : Ty) (place : List ℕ) (old : List GraphNode) (under : ℕ) (mid : List GraphNode) (j : ℕ) (new : List GraphNode) (i : ℕ) → m ≡ k → n ≡ k + 1 → k < length ps → p ≡ get_or ps m p
      → k < length tys → ty ≡ get_or tys m ty → place ≡ position ++ m ∷ [] → AreFrom n old under mid j → IsChained (chain types p (record { position = place; ty = ty })) (head_count p) mid j new i → AreFrom k old under new i
  from-next k m n p ty place old under mid j new i here next lt item lt' item' at f g =
      let subs : drop k ps ≡ p ∷ drop n ps = split-at-item ps k p lt (item ∙ ap (λ x. get_or ps x p) here) ∙ ap (λ x. p ∷ drop x ps) (sym next) in
      let fields : drop k tys ≡ ty ∷ drop n tys = split-at-item tys k ty lt' (item' ∙ ap (λ x. get_or tys x ty) here) ∙ ap (λ x. ty ∷ drop x tys) (sym next) in
      let one : suc k ≡ n = omega (arith, next) in
      let put = λ (t : Tree). chain types p (record { position = place; ty = ty }) (from_field n t) in
      chained-as put (from_field k) (row_head_count (drop n ps) + head_count p) (row_head_count (drop k ps)) old under new i
      (λ t. ap (λ q. chain types p (record { position = q; ty = ty }) (from_field n t)) (at ∙ ap (λ x. position ++ x ∷ []) here)
      ∙ ap (λ m. chain types p (record { position = position ++ k ∷ []; ty = ty }) (chain_row (map (chain types) (drop n ps)) (field_columns position m (drop n tys)) t)) (sym one)
      ∙ ap (λ l. chain_row (map (chain types) l) (field_columns position k (ty ∷ drop n tys)) t) (sym subs)
      ∙ ap (λ l. chain_row (map (chain types) (drop k ps)) (field_columns position k l) t) (sym fields))
      (let a = ap row_head_count subs in let b = row-cons p (drop n ps) in omega (arith, a, b))
      (then-chained (from_field n) (chain types p (record { position = place; ty = ty })) (row_head_count (drop n ps)) (head_count p) old under mid j new i f g)

  pub all-fields : (old : List GraphNode) (under : ℕ) (new : List GraphNode) (i : ℕ) (n : ℕ) → n ≡ 0 → length tys ≡ length ps → AreFrom n old under new i
      → IsChained (chain_fields (map (chain types) ps) position tys) (row_head_count ps) old under new i
  all-fields old under new i n e l h =
      let first = subst (λ k. AreFrom k old under new i) e h in
      chained-as (from_field 0) (chain_fields (map (chain types) ps) position tys) (row_head_count ps) (row_head_count ps) old under new i
      (λ t. sym (ap (λ b. if b then chain_row (map (chain types) ps) (field_columns position 0 tys) t else Trees.Clause 1) (same-count (length (map (chain types) ps)) (length tys) (length-map ps (chain types) ∙ sym l)))) (omega arith) first
    where
      same-count : (a b : ℕ) → a ≡ b → (a == b) ≡ true
      same-count a b e = grind (arith, common_steps)

  pub other-fields : (old : List GraphNode) (under : ℕ) → AreChained old → (length tys ≡ length ps → ⊥) → IsChained (chain_fields (map (chain types) ps) position tys) (row_head_count ps) old under old 0
  other-fields old under fine apart = record {
    fine = fine;
    within = slice_get_within old 0 (Clause 1) fine.others;
    few = omega arith;
    there = λ t e. node-tree old fine.lower 0 (Clause 1) fine.others
        ∙ sym (ap (λ b. Some (if b then chain_row (map (chain types) ps) (field_columns position 0 tys) t else Trees.Clause 1)) (other-count (length (map (chain types) ps)) (length tys) (λ x. apart (sym x ∙ length-map ps (chain types)))));
  }
    where
      other-count : (a b : ℕ) → (a ≡ b → ⊥) → (a == b) ≡ false
      other-count a b apart = grind (arith, common_steps, apart)

-- the whole -----------------------------------------------------------------------------------------

pub two-clauses : AreChained (Clause 1 ∷ Clause 0 ∷ [])
two-clauses = record { lower = lower; others = refl }
  where
    lower : LinksAreLower (Clause 1 ∷ Clause 0 ∷ [])
    lower zero n e = let same : Clause 1 ≡ n = cc in subst (λ m. AllByRecursion (λ j. j < 0) (links m)) same tt
    lower (suc zero) n e = let same : Clause 0 ≡ n = cc in subst (λ m. AllByRecursion (λ j. j < 1) (links m)) same tt
    lower (suc (suc i)) n e = cc

-- the tree at the root
pub root-tree : (types : List DataDecl) (ty : Ty) (p : Pat) (nodes new : List GraphNode) (root : ℕ) → nodes ≡ Clause 1 ∷ Clause 0 ∷ [] → IsChained (chain types p (match_column ty)) (head_count p) nodes 1 new root
    → slice_get (node_trees new) root ≡ Some (match_tree types ty (p ∷ Wild 0 ∷ []))
root-tree types ty p nodes new root e h = h.there (Trees.Clause 0) (ap (λ l. slice_get (node_trees l) 1) e) ∙ ap (λ t. Some t) (pattern-chain types ty p)

pub of-root : (P : Tree → Type 0) (o : Option Tree) (tree : Tree) → o ≡ Some tree → P tree → (t : Tree) → o ≡ Some t → P t
of-root P o tree e h t f = subst P (same_Some tree t (sym e ∙ f)) h
