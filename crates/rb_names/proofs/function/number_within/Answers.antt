use Rattle.std.proofs.Common.{Ok, sym, ap, ◌∙◌}
use Rattle.rb_names.specs.inner.Frames.{scope_of}
use Rattle.rb_names.proofs.AnswerLemmas.{Answers-fails, Answers-from}
use Rattle.rb_names.proofs.PartLemmas.{function-body, function-found}
use Rattle.rb_names.proofs.function.number_within.Goals as goal

pub returns-in_err-body : goal.returns-in_err-body
returns-in_err-body c =
    Answers-fails _ _ _ _ c.from_residual-in_err-body.ensures.1 (Answers-from _ _ _ c.in_err-body.ensures.answers)
    (λ e h. function-body c.args.tables.now c.args.tree.now (scope_of c.args.scope.now) c.args.next.now c.in_ok-params.params c.in_ok-result.result e
    (rw c.as_slice.ensures at c.in_ok-params.ensures) c.in_ok-result.ensures h)

pub returns : goal.returns
returns c =
    function-found c.args.tables.now c.args.tree.now (scope_of c.args.scope.now) c.args.next.now c.in_ok-params.params c.in_ok-result.result
    (record { what = c.in_ok-body.body; next = c.number_expression.new.next })
    (rw c.as_slice.ensures at c.in_ok-params.ensures) c.in_ok-result.ensures c.in_ok-body.ensures.answers
    ∙ ap (λ n. Ok (record { name = n; params = c.in_ok-params.params; result = c.in_ok-result.result; body = c.in_ok-body.body })) (sym c.in_ok-name.ensures)
