-- Typed programs: each call ends with a value of the result type.
use Rattle.std.proofs.Common.{◌≡◌, ℕ, zero, suc, List, [], ◌∷◌, map, Option, Some, None, refl, subst}
use Rattle.std.specs.Prelude.{slice_get}
use Rattle.std.specs.List.{flat_map}
use Rattle.rb_core.specs.declared.value.Value.{Value, Num}
use Rattle.rb_core.specs.declared.types.Ty.TheVariants.{Int}
use Rattle.rb_core.specs.declared.program.Fun.{Fun}
use Rattle.rb_core.specs.declared.program.Program.{Program}
use Rattle.rb_core.specs.Typing.{binder_of, params_of, param_types, result_of, result_type}
use Rattle.rb_core.specs.TypedPrograms.{IsTyped}
use Rattle.rb_core.specs.Coverage.{AreExhaustive, function_sites, sites_of}
use Rattle.rb_core.specs.Meaning.{Calls, body_outcome, call_within, call_of}
use Rattle.rb_core.proofs.ValueLaws.{is_of_type-Num}
use Rattle.rb_core.proofs.NumberedForms.{body_typed}
use Rattle.rb_sound.specs.Words.{HasWords}
use Rattle.rb_sound.specs.Soundness.{AreOfTypes, RunsAs, CallsRunTyped, ExpressionsRunTyped, OfTypedPrograms}
use Rattle.rb_sound.proofs.Forms.{exhaustive-append}
use Rattle.rb_sound.proofs.Whole.{whole_of, whole_bodies}
use Rattle.rb_sound.proofs.Scopes.{arguments_agree}
use Rattle.rb_sound.proofs.Expressions.{done_runs, spent_runs, typed_sound}

covered_at : (p : Program) (fs : List Fun) (g : ℕ) (f : Fun) → AreExhaustive p.types (flat_map (function_sites p.types p.funs) fs) → slice_get fs g ≡ Some f → AreExhaustive p.types (function_sites p.types p.funs f)
covered_at p [] g f h is = cc
covered_at p (k ∷ fs) zero f h is = let here : k ≡ f = cc in subst (λ x. AreExhaustive p.types (function_sites p.types p.funs x)) here (exhaustive-append p.types (function_sites p.types p.funs k) _ h).0
covered_at p (k ∷ fs) (suc g) f h is = covered_at p fs g f (exhaustive-append p.types (function_sites p.types p.funs k) _ h).1 is

module _ (p : Program) (typed : IsTyped p) (covered : AreExhaustive p.types (sites_of p)) (words : HasWords p) where
  abbrev AreSound : Calls → Type 0
  AreSound calls = (g n : ℕ) (vs : List Value) → AreOfTypes p.types vs (param_types p.funs g) → RunsAs p.types (result_type p.funs g) (calls g n vs)

  body_sound : (calls : Calls) → AreSound calls → (o : Option Fun) (g left : ℕ) (vs : List Value) → slice_get p.funs g ≡ o → AreOfTypes p.types vs (map (λ q. q.ty) (params_of o)) → RunsAs p.types (result_of o) (body_outcome p calls o g left vs)
  body_sound calls sound None g left vs is h = done_runs p.types (Int 64) (Num 0) left (is_of_type-Num p.types 0 (Int 64))
  body_sound calls sound (Some f) g left vs is h =
      typed_sound p calls sound g f.body (Some f.result) (map binder_of f.params) left _ f.result (body_typed p typed g f is) (whole_bodies p typed.numbered words g f is) (covered_at p p.funs g f covered is) (arguments_agree p.types f.params vs h)

  within_sound : (k : ℕ) → AreSound (call_within p k)
  within_sound k g zero vs h = spent_runs p.types (result_type p.funs g)
  within_sound zero g (suc n) vs h = spent_runs p.types (result_type p.funs g)
  within_sound (suc k) g (suc n) vs h = body_sound (call_within p k) (within_sound k) (slice_get p.funs g) g n vs refl h

  calls_sound : CallsRunTyped p
  calls_sound g n vs h = within_sound n g n vs h

  expressions_sound : ExpressionsRunTyped p
  expressions_sound f left e wanted scope env t h agree =
      typed_sound p (call_of p) calls_sound f e wanted scope left env t h.typed
      (whole_of p.types p.funs e (map (λ b. b.var) scope) h.numbered h.words) h.exhaustive agree

pub typed_calls : OfTypedPrograms CallsRunTyped
typed_calls p typed covered words = calls_sound p typed covered words

pub typed_expressions : OfTypedPrograms ExpressionsRunTyped
typed_expressions p typed covered words = expressions_sound p typed covered words
