-- Clauses, layouts and functions, from what is found of their parts.
use Rattle.std.proofs.Common.{◌≡◌, ℕ, ◌+◌, List, [], map, length, Option, Some, None, option_map, Ok, Err, refl, sym, ap, ◌∙◌, subst, arith}
use Rattle.rb_core.specs.declared.types.Ty.{Ty}
use Rattle.rb_core.specs.declared.pattern.Pat.{Pat}
use Rattle.rb_core.specs.declared.expression.Expr.{Expr}
use Rattle.rb_core.specs.declared.expression.Clause.{Clause}
use Rattle.rb_core.specs.declared.program.Fun.{Fun}
use Rattle.rb_core.specs.declared.program.Param.{Param}
use Rattle.rb_core.specs.declared.layout_decl.Arm.{Arm}
use Rattle.rb_core.specs.declared.layout_decl.LayItem.{LayItem}
use Rattle.rb_core.specs.declared.layout_decl.LayTree.{LayTree}
use Rattle.rb_core.specs.declared.layout_decl.LayTree as core_tree
use Rattle.rb_core.specs.declared.layout_decl.Loc.{Loc}
use Rattle.rb_syntax.specs.declared.tree.PatTree.{PatTree}
use Rattle.rb_syntax.specs.declared.tree.ClauseTree.{ClauseTree}
use Rattle.rb_syntax.specs.declared.tree.FunTree.{FunTree}
use Rattle.rb_syntax.specs.declared.tree.SplitTree.{SplitTree}
use Rattle.rb_syntax.specs.declared.tree.SplitTree as S
use Rattle.rb_syntax.specs.declared.tree.SplitTree.TheOpen as split
use Rattle.rb_syntax.specs.declared.tree.SplitTree.TheFolds.{fold-roll-SplitTree, fold_out-ArmTree}
use Rattle.rb_syntax.specs.declared.tree.ArmTree.{ArmTree}
use Rattle.rb_names.specs.declared.fault.NameFault.{NameFault}
use Rattle.rb_names.specs.declared.tables.Tables.{Tables}
use Rattle.rb_syntax.specs.declared.tree.ParamTree.{ParamTree}
use Rattle.rb_names.specs.Tables.{Table}
use Rattle.rb_names.specs.Scopes.{Scope, inside, binders_of, param_binders}
use Rattle.rb_names.specs.inner.Frames.{scope_of}
use Rattle.rb_syntax.specs.declared.tree.NameTree.{NameTree}
use Rattle.rb_names.specs.Programs.{no_twice}
use Rattle.rb_names.specs.Numbering.{Resolved, and_then, Numbered, Numbering, all_of, numbered_pattern, numbered_expression, numbered_param, numbered_type, function_in_scope, numbered_function, numbered_else, split_step, arm_step, numbered_split}
use Rattle.rb_names.specs.Answers.{AnswersNumbering}
use Rattle.rb_names.specs.inner.Parts.{numbered_arm, numbered_clause}
use Rattle.rb_names.proofs.ExpressionEquations.{clause-is}

module _ (t : Tables) where
  pub numbered-Leaf : (at : ℕ) (p : PatTree) (items : List LayItem) → numbered_split t (S.Leaf at p items) ≡ split_step t (split.Leaf at p items)
  unfolding S.roll-SplitTree denote.Hole.Carrier.roll
  numbered-Leaf at p items = fold-roll-SplitTree (Resolved LayTree) (Resolved Arm) (split_step t) arm_step (split.Leaf at p items)

  pub numbered-Split : (loc : Loc) (arms : List ArmTree) (other : Option SplitTree)
      → numbered_split t (S.Split loc arms other) ≡ split_step t (split.Split loc (map (numbered_arm t) arms) (option_map (numbered_split t) other))
  unfolding S.roll-SplitTree denote.Hole.Carrier.roll
  numbered-Split loc arms None = fold-roll-SplitTree (Resolved LayTree) (Resolved Arm) (split_step t) arm_step (split.Split loc arms None)
  numbered-Split loc arms (Some other) = fold-roll-SplitTree (Resolved LayTree) (Resolved Arm) (split_step t) arm_step (split.Split loc arms (Some other))

  pub numbered-arm : (a : ArmTree) → numbered_arm t a ≡ arm_step (record { literal = a.literal; under = numbered_split t a.under })
  numbered-arm a = fold_out-ArmTree (Resolved LayTree) (Resolved Arm) (split_step t) arm_step a

  pub arm-fails : (a : ArmTree) (f : NameFault) → numbered_split t a.under ≡ Err f → numbered_arm t a ≡ Err f
  arm-fails a f h = numbered-arm a ∙ ap (λ r. arm_step (record { literal = a.literal; under = r })) h

  pub arm-found : (a : ArmTree) (u : LayTree) → numbered_split t a.under ≡ Ok u → numbered_arm t a ≡ Ok (record { literal = a.literal; under = u })
  arm-found a u h = numbered-arm a ∙ ap (λ r. arm_step (record { literal = a.literal; under = r })) h

  -- a split, from what is found of its arms and its `else`
  module _ (tree : SplitTree) (loc : Loc) (arms seen : List ArmTree) (other : Option SplitTree) (is : tree ≡ S.Split loc arms other) (same : seen ≡ arms) where
    abbrev parts : Resolved (List Arm) → Resolved (Option LayTree) → Resolved LayTree
    parts r s = and_then r (λ xs. and_then s (λ o. Ok (core_tree.Split loc xs o)))

    split-is : numbered_split t tree ≡ parts (all_of (map (numbered_arm t) seen)) (numbered_else (option_map (numbered_split t) other))
    split-is =
        ap (numbered_split t) is ∙ numbered-Split loc arms other
        ∙ ap (λ us. parts (all_of (map (numbered_arm t) us)) (numbered_else (option_map (numbered_split t) other))) (sym same)

    pub arms-fail : (f : NameFault) → all_of (map (numbered_arm t) seen) ≡ Err f → numbered_split t tree ≡ Err f
    arms-fail f h = split-is ∙ ap (λ r. parts r (numbered_else (option_map (numbered_split t) other))) h

    module _ (xs : List Arm) (found : all_of (map (numbered_arm t) seen) ≡ Ok xs) where
      arms-found : (r : Resolved (Option LayTree)) → numbered_else (option_map (numbered_split t) other) ≡ r → numbered_split t tree ≡ parts (Ok xs) r
      arms-found r h = split-is ∙ ap (λ q. parts q (numbered_else (option_map (numbered_split t) other))) found ∙ ap (parts (Ok xs)) h

      pub other-fails : (f : NameFault) → numbered_else (option_map (numbered_split t) other) ≡ Err f → numbered_split t tree ≡ Err f
      other-fails f h = arms-found (Err f) h

      pub split-found : (o : Option LayTree) → numbered_else (option_map (numbered_split t) other) ≡ Ok o → numbered_split t tree ≡ Ok (core_tree.Split loc xs o)
      split-found o h = arms-found (Ok o) h

  pub leaf-answers : (r : Resolved LayTree) (tree : SplitTree) (at : ℕ) (p : PatTree) (items seen : List LayItem) → tree ≡ S.Leaf at p items → seen ≡ items
      → AnswersNumbering r (split_step t (split.Leaf at p seen)) → AnswersNumbering r (numbered_split t tree)
  leaf-answers r tree at p items seen is same h =
      subst (AnswersNumbering r) (ap (λ us. split_step t (split.Leaf at p us)) same ∙ sym (numbered-Leaf at p items) ∙ sym (ap (numbered_split t) is)) h

  -- a clause whose pattern's variables are in this scope
  module _ (c : ClauseTree) (scope inner : Scope) (next after : ℕ) (opened : inner ≡ inside (binders_of c.pat) next scope) (counted : after ≡ next + length (binders_of c.pat)) where
    pub clause-pattern : (f : NameFault) → numbered_pattern t inner c.pat ≡ Err f → numbered_clause t c scope next ≡ Err f
    clause-pattern f h =
        let found : numbered_pattern t (inside (binders_of c.pat) next scope) c.pat ≡ Err f = sym (ap (λ s. numbered_pattern t s c.pat) opened) ∙ h in
        ap (λ (n : Numbering Clause). n scope next) (clause-is t c) ∙ rw found refl

    pub clause-body : (p : Pat) (f : NameFault) → numbered_pattern t inner c.pat ≡ Ok p → numbered_expression t c.body inner after ≡ Err f → numbered_clause t c scope next ≡ Err f
    clause-body p f h g =
        let found : numbered_pattern t (inside (binders_of c.pat) next scope) c.pat ≡ Ok p = sym (ap (λ s. numbered_pattern t s c.pat) opened) ∙ h in
        let body : numbered_expression t c.body (inside (binders_of c.pat) next scope) (next + length (binders_of c.pat)) ≡ Err f =
        sym (ap (λ s. numbered_expression t c.body s (next + length (binders_of c.pat))) opened) ∙ sym (ap (numbered_expression t c.body inner) counted) ∙ g in
        ap (λ (n : Numbering Clause). n scope next) (clause-is t c) ∙ rw (found, body) refl

    pub clause-found : (p : Pat) (e : Numbered Expr) → numbered_pattern t inner c.pat ≡ Ok p → numbered_expression t c.body inner after ≡ Ok e
        → numbered_clause t c scope next ≡ Ok (record { what = record { pat = p; body = e.what }; next = e.next })
    clause-found p e h g =
        let found : numbered_pattern t (inside (binders_of c.pat) next scope) c.pat ≡ Ok p = sym (ap (λ s. numbered_pattern t s c.pat) opened) ∙ h in
        let body : numbered_expression t c.body (inside (binders_of c.pat) next scope) (next + length (binders_of c.pat)) ≡ Ok e =
        sym (ap (λ s. numbered_expression t c.body s (next + length (binders_of c.pat))) opened) ∙ sym (ap (numbered_expression t c.body inner) counted) ∙ g in
        ap (λ (n : Numbering Clause). n scope next) (clause-is t c) ∙ rw (found, body) refl

  -- a function within the scope of its parameters
  module _ (f : FunTree) (scope : Scope) (next : ℕ) where
    pub function-body : (ps : List Param) (u : Ty) (e : NameFault) → all_of (map (numbered_param t scope) f.params) ≡ Ok ps → numbered_type t f.result ≡ Ok u
        → numbered_expression t f.body scope next ≡ Err e → function_in_scope t scope next f ≡ Err e
    function-body ps u e h r g = rw (h, r, g) refl

    pub function-found : (ps : List Param) (u : Ty) (e : Numbered Expr) → all_of (map (numbered_param t scope) f.params) ≡ Ok ps → numbered_type t f.result ≡ Ok u
        → numbered_expression t f.body scope next ≡ Ok e → function_in_scope t scope next f ≡ Ok (record { name = f.name.text; params = ps; result = u; body = e.what })
    function-found ps u e h r g = rw (h, r, g) refl

    pub function-within : (r : Resolved Fun) → scope ≡ inside (param_binders f.params) 0 [] → next ≡ length (param_binders f.params)
        → AnswersNumbering r (function_in_scope t scope next f) → AnswersNumbering r (numbered_function t f)
    function-within r opened counted h =
        subst (AnswersNumbering r) (ap (λ s. function_in_scope t s next f) opened ∙ ap (λ n. function_in_scope t (inside (param_binders f.params) 0 []) n f) counted) h

-- A file with these tables, or one that defines a name twice.
pub tables-found : {A : Type 0} (r : Resolved A) (twice : Option NameTree) (all found : Tables) (go : Tables → Resolved A)
    → and_then (no_twice twice) (λ done. Ok all) ≡ Ok found → AnswersNumbering r (go found) → AnswersNumbering r (and_then (no_twice twice) (λ done. go all))
tables-found r None all found go h g = let same : all ≡ found = cc in subst (λ t. AnswersNumbering r (go t)) (sym same) g
tables-found r (Some name) all found go h g = absurd cc

pub tables-fail : {A : Type 0} (twice : Option NameTree) (all : Tables) (go : Unit {0} → Resolved A) (f : NameFault)
    → and_then (no_twice twice) (λ done. Ok all) ≡ Err f → and_then (no_twice twice) go ≡ Err f
tables-fail None all go f h = absurd cc
tables-fail (Some name) all go f h = cc

-- The scope that a function's parameters open.

module _ (seen params : List ParamTree) where
  pub opened-params : (outer inner : List (Table ℕ)) → seen ≡ params → outer ≡ [] → scope_of inner ≡ inside (param_binders seen) 0 (scope_of outer)
      → scope_of inner ≡ inside (param_binders params) 0 []
  opened-params outer inner same empty h = h ∙ ap (λ fs. inside (param_binders seen) 0 (scope_of fs)) empty ∙ ap (λ ps. inside (param_binders ps) 0 []) same

  pub counted-params : (next : ℕ) → seen ≡ params → next ≡ 0 + length (param_binders seen) → next ≡ length (param_binders params)
  counted-params next same h = let plain : next ≡ length (param_binders seen) = omega (arith, h) in plain ∙ ap (λ ps. length (param_binders ps)) same
