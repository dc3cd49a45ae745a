-- Scopes and environments that agree: the same variables, each value of its type.
use Rattle.std.proofs.Common.{◌≡◌, ℕ, List, [], ◌∷◌, ◌++◌, map, length, Bool, true, false, ◌==◌, Option, Some, None, Ok, refl, sym, ap, ◌∙◌, subst, eqb-true}
use Rattle.std.specs.Prelude.{if◌then◌else◌, unwrap_or}
use Rattle.std.proofs.lemmas.Bool.{and_parts}
use Rattle.rb_core.specs.declared.value.Value.{Value, Num, out-Value}
use Rattle.rb_core.specs.declared.value.Value.TheVariants.{outs-Num, outs-Con}
use Rattle.rb_core.specs.declared.types.Ty.{Ty}
use Rattle.rb_core.specs.declared.types.Ty.TheVariants.{Int, Named}
use Rattle.rb_core.specs.declared.types.ConRef.{ConRef}
use Rattle.rb_core.specs.declared.types.DataDecl.{DataDecl}
use Rattle.rb_core.specs.declared.typing.Binder.{Binder}
use Rattle.rb_core.specs.declared.binding.Binding.{Binding}
use Rattle.rb_core.specs.declared.program.Param.{Param}
use Rattle.rb_core.specs.declared.pattern.Pat.{Pat}
use Rattle.rb_core.specs.declared.pattern.Pat as Q
use Rattle.rb_core.specs.Values.{is_of_type, are_of, fields_of}
use Rattle.rb_core.specs.Matching.{all_pass, is_con, matches_of, bindings, all_bindings, layer_bindings}
use Rattle.rb_core.specs.Typing.{same_type, bound_type, variable_type, binder_of, field_types, also_bound, subpatterns, field_params, pattern_params}
use Rattle.rb_core.specs.Inference.{binders, all_binders}
use Rattle.rb_core.specs.Meaning.{value_or, value_in, argument_bindings}
use Rattle.rb_core.proofs.ValueLaws as VL
use Rattle.rb_core.proofs.PatternLaws as PL
use Rattle.rb_core.proofs.MatchingForms.{matches-Con, bindings-Wild, bindings-Var, bindings-Num, bindings-Con}
use Rattle.rb_core.proofs.TypingLemmas.{pattern-Con}
use Rattle.rb_core.proofs.InferenceAgreement.{binders-Wild, binders-Var, binders-Num, binders-Con}
use Rattle.rb_core.proofs.TypingAnswers.{came, constructed, same_type-is}
use Rattle.rb_sound.specs.Soundness.{AreOfTypes, AreInScope}

module _ (types : List DataDecl) where
  abbrev pub IsOf : Value → Ty → Type 0
  IsOf v t = is_of_type types v t ≡ true

  abbrev pub Agree : List Binder → List Binding → Type 0
  Agree = AreInScope types

  pub agree-append : (s s' : List Binder) (e e' : List Binding) → Agree s e → Agree s' e' → Agree (s ++ s') (e ++ e')
  agree-append [] s' [] e' h h' = h'
  agree-append [] s' (v ∷ e) e' h h' = absurd h
  agree-append (b ∷ s) s' [] e' h h' = absurd h
  agree-append (b ∷ s) s' (v ∷ e) e' h h' = (h.0, h.1, agree-append s s' e e' h.2 h')

  either_is : (b : Bool) (v d : Value) (t u : Ty) → IsOf v t → IsOf d u → IsOf (if b then v else d) (if b then t else u)
  either_is true v d t u h k = h
  either_is false v d t u h k = k

  looked_up : (x : ℕ) (s : List Binder) (e : List Binding) (t : Ty) (d : Value) → Agree s e → IsOf d t → IsOf (value_or d x e) (bound_type t x s)
  looked_up x [] [] t d h k = k
  looked_up x [] (v ∷ e) t d h k = absurd h
  looked_up x (b ∷ s) [] t d h k = absurd h
  looked_up x (b ∷ s) (v ∷ e) t d h k =
      looked_up x s e (if b.var == x then b.ty else t) (if v.var == x then v.value else d) h.2
      (subst (λ y. IsOf (if y == x then v.value else d) (if b.var == x then b.ty else t)) h.0 (either_is (b.var == x) v.value d b.ty t h.1 k))

  zero_is_word : IsOf (Num 0) (Int 64)
  zero_is_word = VL.is_of_type-Num types 0 (Int 64)

  pub variable_is : (x : ℕ) (s : List Binder) (e : List Binding) → Agree s e → IsOf (value_in e x) (variable_type x s)
  variable_is x s e h = looked_up x s e (Int 64) (Num 0) h zero_is_word

  pub arguments_agree : (ps : List Param) (vs : List Value) → AreOfTypes types vs (map (λ p. p.ty) ps) → Agree (map binder_of ps) (argument_bindings ps vs)
  arguments_agree [] [] h = tt
  arguments_agree [] (v ∷ vs) h = cc
  arguments_agree (p ∷ ps) [] h = cc
  arguments_agree (p ∷ ps) (v ∷ vs) h = let k = and_parts (is_of_type types v p.ty) _ h in (refl, k.0, arguments_agree ps vs k.1)

  -- a pattern that matches a value of its type binds its variables to values of their types
  abbrev Bound : Pat → Type 0
  Bound p = (t : Ty) (ps : List Param) (v : Value) → pattern_params types p t ≡ Ok ps → matches_of p v ≡ true → IsOf v t → Agree (binders types p t) (bindings p v)

  all_agree : (ps : List Pat) → PL.Each Bound ps → (ts : List Ty) (qs : List Param) (vs : List Value) → subpatterns (map (pattern_params types) ps) ts ≡ Ok qs
      → all_pass (map matches_of ps) vs ≡ true → AreOfTypes types vs ts → Agree (all_binders (map (binders types) ps) ts) (all_bindings (map bindings ps) vs)
  all_agree [] each ts qs vs e m h = tt
  all_agree (p ∷ ps) each ts qs [] e m h = cc
  all_agree (p ∷ ps) each [] qs (v ∷ vs) e m h = cc
  all_agree (p ∷ ps) each (t ∷ ts) qs (v ∷ vs) e m h =
      let first = came (pattern_params types p t) (λ bound. also_bound bound (subpatterns (map (pattern_params types) ps) ts)) qs e in
      let rest = came (subpatterns (map (pattern_params types) ps) ts) (λ more. Ok (first.from ++ more)) qs first.then_is in
      let ms = and_parts (matches_of p v) _ m in
      let hs = and_parts (is_of_type types v t) _ h in
      agree-append (binders types p t) _ (bindings p v) _ (each.0 t first.from v first.first_is ms.0 hs.0) (all_agree ps each.1 ts rest.from vs rest.first_is ms.1 hs.1)

  of_fields : (vs : List Value) (o : Option (List Ty)) → are_of (map (is_of_type types) vs) o ≡ true → AreOfTypes types vs (unwrap_or o [])
  of_fields vs None h = cc
  of_fields vs (Some ts) h = h

  con_agrees : (at : ℕ) (c : ConRef) (ps : List Pat) → PL.Each Bound ps → (qs : List Param) (v : Value)
      → field_params at (map (pattern_params types) ps) (field_types types c) ≡ Ok qs → is_con c.con (map matches_of ps) (out-Value v) ≡ true → IsOf v (Named c.ty)
      → Agree (all_binders (map (binders types) ps) (field_types types c)) (layer_bindings (map bindings ps) (out-Value v))
  con_agrees at c ps each qs v e m h = VL.induction (λ w. is_con c.con (map matches_of ps) (out-Value w) ≡ true → IsOf w (Named c.ty)
      → Agree (all_binders (map (binders types) ps) (field_types types c)) (layer_bindings (map bindings ps) (out-Value w)))
      (λ n m' h'. let no = sym (ap (is_con c.con (map matches_of ps)) (outs-Num n)) ∙ m' in cc)
      (λ k vs each' m' h'.
      let opened = sym (ap (is_con c.con (map matches_of ps)) (outs-Con k vs)) ∙ m' in
      let parts = and_parts (c.con == k) (all_pass (map matches_of ps) vs) opened in
      let same = eqb-true c.con k parts.0 in
      let fields = sym (VL.is_of_type-Con types k vs (Named c.ty)) ∙ h' in
      let typed = subst (λ j. are_of (map (is_of_type types) vs) (fields_of types (record { ty = c.ty; con = j })) ≡ true) (sym same) fields in
      subst (λ l. Agree (all_binders (map (binders types) ps) (field_types types c)) (layer_bindings (map bindings ps) l)) (sym (outs-Con k vs))
      (all_agree ps each (field_types types c) qs vs
      (constructed (length (map (pattern_params types) ps) == length (field_types types c)) _ _ qs e).1 parts.1 (of_fields vs (fields_of types c) typed)))
      v m h

  pub bound_agrees : (p : Pat) → Bound p
  bound_agrees = PL.induction Bound (record {
    wild = λ at t ps v e m h. subst (λ b. Agree b (bindings (Q.Wild at) v)) (sym (binders-Wild types at t)) (subst (λ b. Agree [] b) (sym (bindings-Wild v at)) tt);
    var = λ at x t ps v e m h. subst (λ b. Agree b (bindings (Q.Var at x) v)) (sym (binders-Var types at x t))
        (subst (λ b. Agree (record { var = x; ty = t } ∷ []) b) (sym (bindings-Var v at x)) (refl, h, tt));
    num = λ at n t ps v e m h. subst (λ b. Agree b (bindings (Q.Num at n) v)) (sym (binders-Num types at n t)) (subst (λ b. Agree [] b) (sym (bindings-Num v at n)) tt);
    con = λ at c ps each t qs v e m h.
        let opened = constructed (same_type t (Named c.ty)) _ _ qs (sym (pattern-Con types at c ps t) ∙ e) in
        let is = subst (λ u. IsOf v u) (same_type-is t (Named c.ty) opened.0) h in
        subst (λ b. Agree b (bindings (Q.Con at c ps) v)) (sym (binders-Con types at c ps t))
        (subst (λ b. Agree (all_binders (map (binders types) ps) (field_types types c)) b) (sym (bindings-Con v at c ps))
        (con_agrees at c ps each qs v opened.1 (sym (matches-Con v at c ps) ∙ m) is));
  })
