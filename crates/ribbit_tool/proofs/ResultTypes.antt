-- The result type of `main` of a typed program is one of its types.
use Rattle.std.proofs.Common.{◌≡◌, List, map, true, ◌&&◌, Option, Some, None, refl, arith}
use Rattle.std.proofs.lemmas.Bool.Decides.{nat_tests}
use Rattle.std.specs.Prelude.{nat_le, length, slice_get}
use Rattle.std.specs.List.{list_all}
use Rattle.std.proofs.lemmas.Bool.{and_parts}
use Rattle.rb_core.specs.declared.program.Fun.{Fun}
use Rattle.rb_core.specs.declared.program.Param.{Param}
use Rattle.rb_core.specs.declared.program.Program.{Program}
use Rattle.rb_core.specs.declared.types.DataDecl.{DataDecl}
use Rattle.rb_core.specs.declared.types.Ty.{Ty}
use Rattle.rb_core.specs.declared.types.Ty.TheVariants.{Int, Named}
use Rattle.rb_core.specs.Limits.{most_parameters}
use Rattle.rb_core.specs.TypedPrograms.{IsTyped}
use Rattle.rb_core.specs.Typing.{result_of, result_type}
use Rattle.rb_core.specs.WellNumbered.{is_lower, is_type, expression_is_numbered, function_is_numbered, param_is_numbered}
use Rattle.rb_core.proofs.MatchingLemmas.{all_at}
use Rattle.rb_image.specs.Values.{IsDeclared}

declared : (types : List DataDecl) (ty : Ty) → is_type types ty ≡ true → IsDeclared types ty
declared types (Int bits) h = tt
declared types (Named t) h = grind (arith, nat_tests, h)

typed_result : (types : List DataDecl) (funs : List Fun) (f : Fun) → function_is_numbered types funs f ≡ true → is_type types f.result ≡ true
typed_result types funs f h =
    let body = expression_is_numbered types funs f.body (map (λ (p : Param). p.var) f.params) in
    let params = list_all (param_is_numbered types) f.params in
    let few = nat_le (length f.params) most_parameters in
    let named = and_parts (is_lower f.name) (few && (params && (is_type types f.result && body))) h in
    let counted = and_parts few (params && (is_type types f.result && body)) named.1 in
    let typed = and_parts params (is_type types f.result && body) counted.1 in
    (and_parts (is_type types f.result) body typed.1).0

result_in : (types : List DataDecl) (funs : List Fun) (o : Option Fun) → ((f : Fun) → o ≡ Some f → function_is_numbered types funs f ≡ true) → IsDeclared types (result_of o)
result_in types funs None h = tt
result_in types funs (Some f) h = declared types f.result (typed_result types funs f (h f refl))

pub result_declared : (p : Program) → IsTyped p → IsDeclared p.types (result_type p.funs p.main)
result_declared p typed =
    result_in p.types p.funs (slice_get p.funs p.main) (λ f at. all_at (function_is_numbered p.types p.funs) p.funs p.main f typed.numbered.functions at)
