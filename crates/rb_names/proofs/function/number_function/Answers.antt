use Rattle.rb_names.specs.inner.Frames.{scope_of}
use Rattle.rb_names.proofs.PartLemmas.{function-within, opened-params, counted-params}
use Rattle.rb_names.proofs.function.number_function.Goals as goal

pub returns : goal.returns
returns c =
    function-within c.args.tables.now c.args.tree.now (scope_of c.enter_params.new.scope) c.enter_params.new.next _
    (opened-params c.as_slice.result.now c.args.tree.now.params c.new-scope.result c.enter_params.new.scope c.as_slice.ensures c.new-scope.ensures c.in_ok-enter_params.ensures.scope)
    (counted-params c.as_slice.result.now c.args.tree.now.params c.enter_params.new.next c.as_slice.ensures c.in_ok-enter_params.ensures.next) c.number_within.ensures
