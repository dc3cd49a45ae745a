use Rattle.std.proofs.Common.{ℕ, sym, ap, ◌∙◌, rules}
use Rattle.std.proofs.lemmas.List.Sorted.{answers_always}
use Rattle.rb_core.specs.Decimal.{number_in}
use Rattle.rb_command.proofs.PathsRead.{no_more, one_more, no_step, is_point}
use Rattle.rb_command.proofs.path.parse_steps.Goals as goal

pub loop-digits-init : goal.loop-digits-init
loop-digits-init c = search rules

pub loop-digits-preserved : goal.loop-digits-preserved
loop-digits-preserved c =
    let before = c.loop-digits.digits-iterator in
    let behind = c.next.new.self in
    let given = c.in-Some.ensures.steps in
    let first = (given.2 is_point (answers_always _ _ _ (λ f a r g h. search rules))).1 in
    let step = ap (λ (most : ℕ). number_in 0 most c.in-Some.digits.now) (sym c.from.ensures) ∙ sym c.in-Some-number_in.ensures.value in
    rw (c.in_ok-push-in-Some-number_in.ensures.ok)
    (one_more c.args.text.now c.loop-digits.path before.done before.rest.now c.loop-digits.invariant given.0 c.in-Some.digits.now behind.done behind.rest.now
    given.1 first c.in-Some-number_in.step step)

pub returns-in-None-number_in : goal.returns-in-None-number_in
returns-in-None-number_in c =
    let before = c.loop-digits.digits-iterator in
    let behind = c.next.new.self in
    let given = c.in-Some.ensures.steps in
    let first = (given.2 is_point (answers_always _ _ _ (λ f a r g h. search rules))).1 in
    let none = ap (λ (most : ℕ). number_in 0 most c.in-Some.digits.now) (sym c.from.ensures) ∙ sym c.in-None-number_in.ensures.value in
    no_step c.args.text.now c.loop-digits.path before.done before.rest.now c.loop-digits.invariant given.0 c.in-Some.digits.now behind.done behind.rest.now
    given.1 first none

pub returns : goal.returns
returns c =
    let left = c.loop-digits.digits-iterator in
    no_more c.args.text.now c.loop-digits.path left.done left.rest.now c.loop-digits.invariant c.in-None.ensures.steps.0
