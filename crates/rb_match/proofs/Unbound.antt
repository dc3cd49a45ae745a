-- Patterns that bind nothing.
use Rattle.std.proofs.Common.{◌≡◌, Bool, true, List, [], ◌∷◌, ◌++◌, map, refl, sym, ap, ◌∙◌}
use Rattle.std.specs.List.{list_all}
use Rattle.std.proofs.lemmas.Bool.{and_parts}
use Rattle.rb_core.specs.declared.value.Value.{Value, out-Value}
use Rattle.rb_core.specs.declared.value.Value.TheOpen as V
use Rattle.rb_core.specs.declared.value.Value.TheOpen.{Value-F}
use Rattle.rb_core.specs.declared.types.Ty.{Ty}
use Rattle.rb_core.specs.declared.types.DataDecl.{DataDecl}
use Rattle.rb_core.specs.declared.pattern.Pat.{Pat}
use Rattle.rb_core.specs.Inference.{all_binders, binders}
use Rattle.rb_core.specs.Matching.{all_bindings, bindings, layer_bindings}
use Rattle.rb_core.specs.Typing.{field_types}
use Rattle.rb_core.proofs.InferenceAgreement.{binders-Con, binders-Num, binders-Wild}
use Rattle.rb_core.proofs.MatchingForms.{bindings-Con, bindings-Num, bindings-Wild}
use Rattle.rb_core.proofs.PatternLaws.{Each, fold-Con, fold-Var, induction}
use Rattle.rb_match.specs.inner.Binding.{is_unbound, unbound_step}

abbrev BindsNone : Pat → Type 0
BindsNone p = is_unbound p ≡ true → ((types : List DataDecl) (t : Ty) → binders types p t ≡ []) × ((v : Value) → bindings p v ≡ [])

module _ (types : List DataDecl) where
  no_binders : (ps : List Pat) → Each BindsNone ps → (ts : List Ty) → list_all (λ b. b) (map is_unbound ps) ≡ true → all_binders (map (binders types) ps) ts ≡ []
  no_binders [] each ts w = refl
  no_binders (p ∷ ps) each [] w = refl
  no_binders (p ∷ ps) each (t ∷ ts) w =
      let b = and_parts (is_unbound p) (list_all (λ b. b) (map is_unbound ps)) w in
      ap (λ l. l ++ all_binders (map (binders types) ps) ts) ((each.0 b.0).0 types t) ∙ no_binders ps each.1 ts b.1

no_bindings : (ps : List Pat) → Each BindsNone ps → (vs : List Value) → list_all (λ b. b) (map is_unbound ps) ≡ true → all_bindings (map bindings ps) vs ≡ []
no_bindings [] each vs w = refl
no_bindings (p ∷ ps) each [] w = refl
no_bindings (p ∷ ps) each (v ∷ vs) w =
    let b = and_parts (is_unbound p) (list_all (λ b. b) (map is_unbound ps)) w in
    ap (λ l. l ++ all_bindings (map bindings ps) vs) ((each.0 b.0).1 v) ∙ no_bindings ps each.1 vs b.1

none_within : (ps : List Pat) → Each BindsNone ps → (l : Value-F Value) → list_all (λ b. b) (map is_unbound ps) ≡ true → layer_bindings (map bindings ps) l ≡ []
none_within ps each (V.Num n) w = refl
none_within ps each (V.Con k vs) w = no_bindings ps each vs w

pub unbound_binds : (p : Pat) → BindsNone p
unbound_binds = induction BindsNone (record {
  wild = λ at w. (λ types t. binders-Wild types at t, λ v. bindings-Wild v at);
  var = λ at x w. absurd (let z = sym (fold-Var Bool unbound_step at x) ∙ w in cc);
  num = λ at n w. (λ types t. binders-Num types at n t, λ v. bindings-Num v at n);
  con = λ at c ps each w. (let all : list_all (λ b. b) (map is_unbound ps) ≡ true = sym (fold-Con Bool unbound_step at c ps) ∙ w in (
    λ types t. binders-Con types at c ps t ∙ no_binders types ps each (field_types types c) all,
    λ v. bindings-Con v at c ps ∙ none_within ps each (out-Value v) all,
  ));
})
