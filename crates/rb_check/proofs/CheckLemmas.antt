-- What the checks of types and of rules say together.
use Rattle.std.proofs.Common.{◌≡◌, ℕ, List, Option, Some, None, Ok, Err, OnOk, IfErr, MatchOption, subst}
use Rattle.rb_core.specs.declared.types.DataDecl.{DataDecl}
use Rattle.rb_core.specs.declared.program.Program.{Program}
use Rattle.rb_core.specs.declared.typing.TypeFault.TheVariants.{Empty, Mismatch, Arity, VariableTwice, Memory}
use Rattle.rb_core.specs.Typing.{Typing}
use Rattle.rb_core.specs.TypedPrograms.{HaveValues, HasValue, IsFirstEmpty, IsFirstFault, IsTyped, rule_fault}
use Rattle.rb_core.specs.WellNumbered.{IsWellNumbered}
use Rattle.rb_check.specs.inner.Answers.{AnswersFault}

pub at_Some : (P : Type 0) (Q : ℕ → Type 0) (o : Option ℕ) (t : ℕ) → o ≡ Some t → MatchOption o P Q → Q t
at_Some P Q o t is h = subst (λ x. MatchOption x P Q) is h

pub at_None : (P : Type 0) (Q : ℕ → Type 0) (o : Option ℕ) → o ≡ None → MatchOption o P Q → P
at_None P Q o is h = subst (λ x. MatchOption x P Q) is h

-- a typed program has no empty type
pub not-empty : {A : Type 0} (types : List DataDecl) (t : ℕ) → IsFirstEmpty types t → HaveValues types → A
not-empty types t first values =
    let value : HasValue types t = values t first.declared in let none = first.empty value.0 in let some = value.1 in absurd (cc (some, none))

module _ (p : Program) (numbered : IsWellNumbered p) (values : HaveValues p.types) where
  pub rules-typed : (r : Typing (Unit {0})) → AnswersFault r (rule_fault p) → OnOk r (IsTyped p)
  rules-typed (Ok done) h = record { numbered = numbered; values = values; rules = h }
  rules-typed (Err f) h = tt

  pub rules-refused : (r : Typing (Unit {0})) → AnswersFault r (rule_fault p) → IfErr r (IsFirstFault p)
  rules-refused (Ok done) h = tt
  rules-refused (Err Memory) h = tt
  rules-refused (Err (Empty t)) h = absurd h
  rules-refused (Err (Mismatch at wanted found)) h = (values, h)
  rules-refused (Err (Arity at wanted found)) h = (values, h)
  rules-refused (Err (VariableTwice at)) h = (values, h)
