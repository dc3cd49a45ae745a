-- A fault that ends a call is passed on by the calls round it.
use Rattle.std.proofs.Common.{◌≡◌, Ok, Err, sym, subst}
use Rattle.std.specs.Result.{IsErrAnd}
use Rattle.rb_core.specs.declared.typing.TypeFault.{TypeFault}
use Rattle.rb_core.specs.declared.typing.TypeFault.TheVariants.{Empty, Mismatch, Arity, VariableTwice, Memory}
use Rattle.rb_core.specs.Typing.{Typing}
use Rattle.rb_check.specs.inner.Answers.{AnswersTyping, LeavesTyping}

-- what one part gives is passed on, want of memory included
through : {A B : Type 0} (fault : TypeFault) (here : Typing A) (gives : Typing B)
    → AnswersTyping (Err fault) here → ((f : TypeFault) → here ≡ Err f → gives ≡ Err f) → AnswersTyping (Err fault) gives
through Memory here gives h k = tt
through (Empty t) here gives h k = h
through (Mismatch at wanted found) here gives h k = k _ h
through (Arity at wanted found) here gives h k = k _ h
through (VariableTwice at) here gives h k = k _ h

pub Answers-fails : {A B : Type 0} (r : Typing B) (fault : TypeFault) (here : Typing A) (gives : Typing B)
    → IsErrAnd r (λ e. e ≡ fault) → AnswersTyping (Err fault) here → ((f : TypeFault) → here ≡ Err f → gives ≡ Err f) → AnswersTyping r gives
Answers-fails (Err e) fault here gives is h k = subst (λ x. AnswersTyping (Err x) gives) (sym is) (through fault here gives h k)
Answers-fails (Ok done) fault here gives is h k = absurd is

pub Answers-Leaves : {A : Type 0} (fault : TypeFault) (left : A) (gives : Typing A) → LeavesTyping (Err fault) left gives → AnswersTyping (Err fault) gives
Answers-Leaves Memory left gives h = h
Answers-Leaves (Empty t) left gives h = h
Answers-Leaves (Mismatch at wanted found) left gives h = h
Answers-Leaves (Arity at wanted found) left gives h = h
Answers-Leaves (VariableTwice at) left gives h = h

Leaves-Answers : {A : Type 0} (fault : TypeFault) (left : A) (gives : Typing A) → AnswersTyping (Err fault) gives → LeavesTyping (Err fault) left gives
Leaves-Answers Memory left gives h = h
Leaves-Answers (Empty t) left gives h = h
Leaves-Answers (Mismatch at wanted found) left gives h = h
Leaves-Answers (Arity at wanted found) left gives h = h
Leaves-Answers (VariableTwice at) left gives h = h

pub Leaves-fails : {A B : Type 0} (r : Typing (Unit {0})) (fault : TypeFault) (left : A) (after : B) (here : Typing A) (gives : Typing B)
    → IsErrAnd r (λ e. e ≡ fault) → LeavesTyping (Err fault) left here → ((f : TypeFault) → here ≡ Err f → gives ≡ Err f) → LeavesTyping r after gives
Leaves-fails (Err e) fault left after here gives is h k =
    subst (λ x. LeavesTyping (Err x) after gives) (sym is) (Leaves-Answers fault after gives (through fault here gives (Answers-Leaves fault left here h) k))
Leaves-fails (Ok done) fault left after here gives is h k = absurd is
