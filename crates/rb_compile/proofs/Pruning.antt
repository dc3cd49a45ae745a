-- A pattern without what is not used: it binds the other variables to the same, and matches no fewer values.
use Rattle.std.proofs.Common.{◌≡◌, ℕ, ◌==◌, Bool, true, false, List, [], ◌∷◌, map, refl, sym, ap, ◌∙◌, arith}
use Rattle.std.proofs.lemmas.Grind.{common_steps}
use Rattle.std.specs.Prelude.{◌&&◌, if◌then◌else◌}
use Rattle.std.proofs.lemmas.Bool.{and_parts}
use Rattle.rb_core.specs.declared.value.Value.{Value, out-Value}
use Rattle.rb_core.specs.declared.value.Value.TheOpen as V
use Rattle.rb_core.specs.declared.value.Value.TheOpen.{Value-F}
use Rattle.rb_core.specs.declared.types.Ty.{Ty}
use Rattle.rb_core.specs.declared.types.DataDecl.{DataDecl}
use Rattle.rb_core.specs.declared.types.ConRef.{ConRef}
use Rattle.rb_core.specs.declared.pattern.Pat.{Pat, Wild, Var, Num, Con}
use Rattle.rb_core.specs.Matching.{all_bindings, all_pass, bindings, layer_bindings, is_con, matches_of}
use Rattle.rb_core.specs.Typing.{bound_type, field_types}
use Rattle.rb_core.specs.Inference.{all_binders, binders}
use Rattle.rb_core.specs.Meaning.{value_or}
use Rattle.rb_core.proofs.PatternLaws.{Each, fold-Con, fold-Num, fold-Var, fold-Wild, induction}
use Rattle.rb_core.proofs.MatchingForms.{bindings-Con, bindings-Num, bindings-Var, bindings-Wild, matches-Con, matches-Var, matches-Wild}
use Rattle.rb_core.proofs.InferenceAgreement.{binders-Con, binders-Num, binders-Var, binders-Wild}
use Rattle.rb_compile.specs.inner.Used.{pruned_pattern, pruned_step}
use Rattle.rb_compile.proofs.Agreeing.{bound-append, value-append}

module _ (types : List DataDecl) where
  module _ (keeps : ℕ → Bool) where
    abbrev cut : Pat → Pat
    cut = pruned_pattern keeps

    pub cut-Con : (at : ℕ) (c : ConRef) (ps : List Pat) → cut (Con at c ps) ≡ Con at c (map cut ps)
    cut-Con at c ps = fold-Con Pat (pruned_step keeps) at c ps

    pub cut-Var : (at x : ℕ) → cut (Var at x) ≡ (if keeps x then Var at x else Wild at)
    cut-Var at x = fold-Var Pat (pruned_step keeps) at x

    pub cut-Num : (at n : ℕ) → cut (Num at n) ≡ Wild at
    cut-Num at n = fold-Num Pat (pruned_step keeps) at n

    pub cut-Wild : (at : ℕ) → cut (Wild at) ≡ Wild at
    cut-Wild at = fold-Wild Pat (pruned_step keeps) at

    -- what is matched still is

    abbrev Matches : Pat → Type 0
    Matches p = (v : Value) → matches_of p v ≡ true → matches_of (cut p) v ≡ true

    all_match : (ps : List Pat) → Each Matches ps → (vs : List Value) → all_pass (map matches_of ps) vs ≡ true → all_pass (map matches_of (map cut ps)) vs ≡ true
    all_match [] each [] m = refl
    all_match [] each (v ∷ vs) m = m
    all_match (p ∷ ps) each [] m = absurd cc
    all_match (p ∷ ps) each (v ∷ vs) m =
        let b = and_parts (matches_of p v) (all_pass (map matches_of ps) vs) m in
        ap (λ u. u && all_pass (map matches_of (map cut ps)) vs) (each.0 v b.0) ∙ all_match ps each.1 vs b.1

    con_match : (c : ℕ) (ps : List Pat) → Each Matches ps → (l : Value-F Value) → is_con c (map matches_of ps) l ≡ true → is_con c (map matches_of (map cut ps)) l ≡ true
    con_match c ps each (V.Num n) m = m
    con_match c ps each (V.Con k vs) m =
        let b = and_parts (c == k) (all_pass (map matches_of ps) vs) m in
        ap (λ u. u && all_pass (map matches_of (map cut ps)) vs) b.0 ∙ all_match ps each vs b.1

    pub cut_matches : (p : Pat) → Matches p
    cut_matches = induction Matches (record {
      wild = λ at v m. ap (λ p. matches_of p v) (cut-Wild at) ∙ matches-Wild v at;
      var = λ at x v m. ap (λ p. matches_of p v) (cut-Var at x) ∙ of_var at x v (keeps x);
      num = λ at n v m. ap (λ p. matches_of p v) (cut-Num at n) ∙ matches-Wild v at;
      con = λ at c ps each v m. ap (λ p. matches_of p v) (cut-Con at c ps) ∙ matches-Con v at c (map cut ps) ∙ con_match c.con ps each (out-Value v) (sym (matches-Con v at c ps) ∙ m);
    })
      where
        of_var : (at x : ℕ) (v : Value) (b : Bool) → matches_of (if b then Var at x else Wild at) v ≡ true
        of_var at x v true = matches-Var v at x
        of_var at x v false = matches-Wild v at

    -- a variable that is kept is bound to the same
    module _ (x : ℕ) (kept : keeps x ≡ true) where
      differs : (y : ℕ) → keeps y ≡ false → (y == x) ≡ false
      differs y e = go (y == x) refl
        where
          go : (b : Bool) → (y == x) ≡ b → b ≡ false
          go true s = let same : y ≡ x = grind (arith, common_steps) in absurd (let z = sym e ∙ ap keeps same ∙ kept in cc)
          go false s = refl

      abbrev SameType : Pat → Type 0
      SameType p = (d t : Ty) → bound_type d x (binders types (cut p) t) ≡ bound_type d x (binders types p t)

      all_types : (ps : List Pat) → Each SameType ps → (ts : List Ty) (d : Ty) → bound_type d x (all_binders (map (binders types) (map cut ps)) ts) ≡ bound_type d x (all_binders (map (binders types) ps) ts)
      all_types [] each ts d = refl
      all_types (p ∷ ps) each [] d = refl
      all_types (p ∷ ps) each (t ∷ ts) d =
          bound-append d x (binders types (cut p) t) (all_binders (map (binders types) (map cut ps)) ts)
          ∙ ap (λ u. bound_type u x (all_binders (map (binders types) (map cut ps)) ts)) (each.0 d t)
          ∙ all_types ps each.1 ts (bound_type d x (binders types p t))
          ∙ sym (bound-append d x (binders types p t) (all_binders (map (binders types) ps) ts))

      pub cut_types : (p : Pat) → SameType p
      cut_types = induction SameType (record {
        wild = λ at d t. ap (λ p. bound_type d x (binders types p t)) (cut-Wild at);
        var = λ at y d t. ap (λ p. bound_type d x (binders types p t)) (cut-Var at y) ∙ of_var at y d t (keeps y) refl;
        num = λ at n d t. ap (λ p. bound_type d x (binders types p t)) (cut-Num at n) ∙ ap (bound_type d x) (binders-Wild types at t) ∙ sym (ap (bound_type d x) (binders-Num types at n t));
        con = λ at c ps each d t. ap (λ p. bound_type d x (binders types p t)) (cut-Con at c ps) ∙ ap (bound_type d x) (binders-Con types at c (map cut ps) t) ∙ all_types ps each (field_types types c) d
            ∙ sym (ap (bound_type d x) (binders-Con types at c ps t));
      })
        where
          of_var : (at y : ℕ) (d t : Ty) (b : Bool) → keeps y ≡ b → bound_type d x (binders types (if b then Var at y else Wild at) t) ≡ bound_type d x (binders types (Var at y) t)
          of_var at y d t true e = refl
          of_var at y d t false e = ap (bound_type d x) (binders-Wild types at t) ∙ sym (ap (λ b. if b then t else d) (differs y e)) ∙ sym (ap (bound_type d x) (binders-Var types at y t))

      abbrev SameValue : Pat → Type 0
      SameValue p = (d v : Value) → value_or d x (bindings (cut p) v) ≡ value_or d x (bindings p v)

      all_values : (ps : List Pat) → Each SameValue ps → (vs : List Value) (d : Value) → value_or d x (all_bindings (map bindings (map cut ps)) vs) ≡ value_or d x (all_bindings (map bindings ps) vs)
      all_values [] each vs d = refl
      all_values (p ∷ ps) each [] d = refl
      all_values (p ∷ ps) each (v ∷ vs) d =
          value-append d x (bindings (cut p) v) (all_bindings (map bindings (map cut ps)) vs)
          ∙ ap (λ u. value_or u x (all_bindings (map bindings (map cut ps)) vs)) (each.0 d v)
          ∙ all_values ps each.1 vs (value_or d x (bindings p v))
          ∙ sym (value-append d x (bindings p v) (all_bindings (map bindings ps) vs))

      values_within : (ps : List Pat) → Each SameValue ps → (l : Value-F Value) (d : Value) → value_or d x (layer_bindings (map bindings (map cut ps)) l) ≡ value_or d x (layer_bindings (map bindings ps) l)
      values_within ps each (V.Num n) d = refl
      values_within ps each (V.Con k vs) d = all_values ps each vs d

      pub cut_values : (p : Pat) → SameValue p
      cut_values = induction SameValue (record {
        wild = λ at d v. ap (λ p. value_or d x (bindings p v)) (cut-Wild at);
        var = λ at y d v. ap (λ p. value_or d x (bindings p v)) (cut-Var at y) ∙ of_var at y d v (keeps y) refl;
        num = λ at n d v. ap (λ p. value_or d x (bindings p v)) (cut-Num at n) ∙ ap (value_or d x) (bindings-Wild v at) ∙ sym (ap (value_or d x) (bindings-Num v at n));
        con = λ at c ps each d v. ap (λ p. value_or d x (bindings p v)) (cut-Con at c ps) ∙ ap (value_or d x) (bindings-Con v at c (map cut ps)) ∙ values_within ps each (out-Value v) d
            ∙ sym (ap (value_or d x) (bindings-Con v at c ps));
      })
        where
          of_var : (at y : ℕ) (d v : Value) (b : Bool) → keeps y ≡ b → value_or d x (bindings (if b then Var at y else Wild at) v) ≡ value_or d x (bindings (Var at y) v)
          of_var at y d v true e = refl
          of_var at y d v false e = ap (value_or d x) (bindings-Wild v at) ∙ sym (ap (λ b. if b then v else d) (differs y e)) ∙ sym (ap (value_or d x) (bindings-Var v at y))
