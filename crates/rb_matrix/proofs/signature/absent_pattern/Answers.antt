use Rattle.std.proofs.Common.{◌≡◌, ◌∙◌, ◌==◌, true, refl, sym, ap, subst, arith}
use Rattle.std.proofs.lemmas.Bool.{eqb-true, false≢true}
use Rattle.rb_core.specs.declared.pattern.Pat as Pats
use Rattle.rb_core.specs.Values.{is_of_type}
use Rattle.rb_matrix.specs.Signature.{IsFirstAbsent, IsAbsent}
use Rattle.rb_matrix.specs.inner.Signature.{IsNumberAnswer}
use Rattle.rb_matrix.specs.Heads.{any_begins}
use Rattle.rb_matrix.specs.Search.{IsTypeIn}
use Rattle.rb_matrix.proofs.FirstAbsent.{none-first, number-first}
use Rattle.rb_matrix.proofs.Inhabited.{wide}
use Rattle.rb_matrix.proofs.Absent.{wild-absent, numbers-all, number-absent, none-of_length}
use Rattle.rb_matrix.proofs.signature.absent_pattern.Goals as goal

pub returns-then-is_empty-clause-answer : goal.returns-then-is_empty-clause-answer
returns-then-is_empty-clause-answer c =
    wild-absent c.args.types.now c.requires.inhabited c.args.ty c.args.heads.now c.requires.live
    (none-of_length c.args.heads.now (eqb-true _ _ (sym c.is_empty.ensures ∙ c.if-is_empty.true)))

pub returns-in-None-clause-answer : goal.returns-in-None-clause-answer
returns-in-None-clause-answer c = λ v of.
    let all = subst (IsNumberAnswer c.args.heads.now c.greatest.result) c.in-None.is c.in_ok-least_missing-in-Int.ensures in
    numbers-all c.args.types.now c.in-Int.bits c.args.heads.now (λ m lt. all m (omega (arith, lt, c.greatest.ensures))) v
    (subst (λ t. is_of_type c.args.types.now v t ≡ true) c.in-Int.is of)

pub returns-in-Some-clause-answer : goal.returns-in-Some-clause-answer
returns-in-Some-clause-answer c =
    let least = subst (IsNumberAnswer c.args.heads.now c.greatest.result) c.in-Some.is c.in_ok-least_missing-in-Int.ensures in
    subst (λ t. IsAbsent c.args.types.now t (any_begins c.args.heads.now) (Pats.Num 0 c.in-Some.number)) (sym c.in-Int.is)
    (number-absent c.args.types.now c.in-Int.bits c.in-Some.number c.args.heads.now (omega (arith, c.greatest.ensures, least.0)) least.1.out)

pub greatest-requires : goal.greatest-requires
greatest-requires c = wide c.args.types.now c.in-Int.bits (subst (IsTypeIn c.args.types.now) c.in-Int.is c.requires.live)

pub returns-then-is_empty-clause-first : goal.returns-then-is_empty-clause-first
returns-then-is_empty-clause-first c =
    none-first c.args.types.now c.args.ty c.args.heads.now (Pats.Wild 0)
    (none-of_length c.args.heads.now (eqb-true _ _ (sym c.is_empty.ensures ∙ c.if-is_empty.true))) refl

pub returns-in-Some-clause-first : goal.returns-in-Some-clause-first
returns-in-Some-clause-first c =
    let least = subst (IsNumberAnswer c.args.heads.now c.greatest.result) c.in-Some.is c.in_ok-least_missing-in-Int.ensures in
    subst (λ t. IsFirstAbsent c.args.types.now t c.args.heads.now (Pats.Num 0 c.in-Some.number)) (sym c.in-Int.is)
    (number-first c.args.types.now c.in-Int.bits c.args.heads.now (Pats.Num 0 c.in-Some.number)
    (λ none. false≢true (sym (sym c.is_empty.ensures ∙ c.if-is_empty.false) ∙ ap (λ n. n == 0) none))
    (c.in-Some.number, refl, least.1))
