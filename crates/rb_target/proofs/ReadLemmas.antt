-- What reading code answers, from what its two steps answer.
use Rattle.std.proofs.Common.{◌≡◌, ℕ, List, Result, Ok, Err, sym, ◌∙◌, subst}
use Rattle.std.specs.Prelude.{IfOk, IfErr, IsOk, IsErr, ◌↔◌, refl}
use Rattle.std.specs.Result.{IsErrAnd}
use Rattle.std.proofs.lemmas.Bool.{false≢true}
use Rattle.rb_target.proofs.OneToOne.{valid_spelled}
use Rattle.rb_target.proofs.StopLemmas.{none_whole}
use Rattle.rb_target.specs.Text.{code_text}
use Rattle.rb_target.specs.Validity.{IsValid}
use Rattle.rb_target.specs.Stopping.{IsTextOf}
use Rattle.rb_target.specs.inner.Reading.{IsCodeReading}
use Rattle.rb_target.specs.Faults.{IsFirstCodeFault}
use Rattle.rb_target.specs.Refusals.{IsAnswerTo, IsCodeRefusal, IsThese}
use Rattle.rb_target.specs.declared.code.CodeFun.{CodeFun}
use Rattle.rb_target.specs.declared.fault.CodeFault.{CodeFault}
use Rattle.rb_target.specs.declared.fault.CodeFault.TheVariants.{CodeSyntax, BadSlot, BadJump, BadCall, Memory}

pub text_of_valid : (bytes : List ℕ) (funs : List CodeFun) → IsValid funs → bytes ≡ code_text funs → IsTextOf bytes funs
text_of_valid bytes funs valid e = record { spelled = valid_spelled funs valid; is = e }

-- bytes that aren't read
pub unread_these : (bytes : List ℕ) (fault : CodeFault) (funs : List CodeFun) → IsCodeReading bytes (Err fault) → IsValid funs → bytes ≡ code_text funs → IsThese funs (Err fault)
unread_these bytes (CodeSyntax at) funs r valid e = none_whole bytes at funs r (text_of_valid bytes funs valid e)
unread_these bytes (BadSlot n pc) funs r valid e = r
unread_these bytes (BadJump n pc) funs r valid e = r
unread_these bytes (BadCall n pc) funs r valid e = r
unread_these bytes Memory funs r valid e = tt

pub unread_refusal : (bytes : List ℕ) (fault : CodeFault) → IsCodeReading bytes (Err fault) → IsCodeRefusal bytes fault
unread_refusal bytes (CodeSyntax at) r = r
unread_refusal bytes (BadSlot n pc) r = absurd r
unread_refusal bytes (BadJump n pc) r = absurd r
unread_refusal bytes (BadCall n pc) r = absurd r
unread_refusal bytes Memory r = tt

pub unread_answer : (bytes : List ℕ) (fault : CodeFault) (funs : List CodeFun) → IsCodeReading bytes (Err fault) → IsTextOf bytes funs → IsAnswerTo funs (Err fault)
unread_answer bytes (CodeSyntax at) funs r text = absurd (none_whole bytes at funs r text)
unread_answer bytes (BadSlot n pc) funs r text = absurd r
unread_answer bytes (BadJump n pc) funs r text = absurd r
unread_answer bytes (BadCall n pc) funs r text = absurd r
unread_answer bytes Memory funs r text = tt

-- functions that are read and checked
first_answer : (funs : List CodeFun) (fault : CodeFault) → IsFirstCodeFault funs fault → IsAnswerTo funs (Err fault)
first_answer funs (CodeSyntax at) first = first
first_answer funs (BadSlot n pc) first = first
first_answer funs (BadJump n pc) first = first
first_answer funs (BadCall n pc) first = first
first_answer funs Memory first = tt

pub checked_answer : (funs read : List CodeFun) (r : Result (List CodeFun) CodeFault) → read ≡ funs → IfOk r (λ code. code ≡ read) → (IsOk r ↔ IsValid read)
    → IfErr r (λ fault. IsFirstCodeFault read fault) → IsAnswerTo funs r
checked_answer funs read (Ok code) same ok iff first = (ok ∙ same, subst IsValid same (iff.0 refl))
checked_answer funs read (Err fault) same ok iff first = first_answer funs fault (subst (λ fs. IsFirstCodeFault fs fault) same first)

pub checked_these : (funs read : List CodeFun) (r : Result (List CodeFun) CodeFault) → read ≡ funs → IfOk r (λ code. code ≡ read) → (IsOk r ↔ IsValid read) → IsValid funs → IsThese funs r
checked_these funs read (Ok code) same ok iff valid = ok ∙ same
checked_these funs read (Err fault) same ok iff valid = absurd (false≢true (iff.1 (subst IsValid (sym same) valid)))

pub checked_refusal : (bytes : List ℕ) (read : List CodeFun) (fault : CodeFault) → IsTextOf bytes read → IsFirstCodeFault read fault → IsCodeRefusal bytes fault
checked_refusal bytes read (CodeSyntax at) text first = absurd first.stands
checked_refusal bytes read (BadSlot n pc) text first = (read, text, first)
checked_refusal bytes read (BadJump n pc) text first = (read, text, first)
checked_refusal bytes read (BadCall n pc) text first = (read, text, first)
checked_refusal bytes read Memory text first = tt

-- an error that is handed on
pub handed_answer : (funs : List CodeFun) (r : Result (List CodeFun) CodeFault) (fault : CodeFault) → IsErr r → IsErrAnd r (λ e. e ≡ fault) → IsAnswerTo funs (Err fault) → IsAnswerTo funs r
handed_answer funs (Ok read) fault is same h = absurd (false≢true is)
handed_answer funs (Err e) fault is same h = subst (λ x. IsAnswerTo funs (Err x)) (sym same) h

pub handed_on : (funs : List CodeFun) (r : Result (List CodeFun) CodeFault) (fault : CodeFault) → IsErr r → IsErrAnd r (λ e. e ≡ fault) → IsThese funs (Err fault) → IsThese funs r
handed_on funs (Ok read) fault is same h = absurd (false≢true is)
handed_on funs (Err e) fault is same h = subst (λ x. IsThese funs (Err x)) (sym same) h
