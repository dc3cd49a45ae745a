use Rattle.rb_compile.specs.Plans.{plan_of}
use Rattle.rb_compile.proofs.Compiled.{are_written, tail_compiles}
use Rattle.rb_compile.proofs.Whole.{fun_returns}
use Rattle.rb_compile.proofs.functions.compile_fun.Goals as goal

pub finish-code-requires : goal.finish-code-requires
finish-code-requires c =
    let g = c.args.number in
    let f = c.args.fun.now in
    let plan = plan_of c.args.agreed.now in
    let emits = rw (c.new-body.ensures, c.in_ok-params.ensures.locals, c.in_ok-params.ensures.count, c.as_slice.ensures) at (c.in_ok-emit_tail.ensures.emits g) in
    are_written plan g f c.emit_tail.new.body c.requires.named (fun_returns plan g f c.emit_tail.new.body c.requires emits)

pub returns : goal.returns
returns c =
    let g = c.args.number in
    let f = c.args.fun.now in
    let plan = plan_of c.args.agreed.now in
    let emits = rw (c.new-body.ensures, c.in_ok-params.ensures.locals, c.in_ok-params.ensures.count, c.as_slice.ensures) at (c.in_ok-emit_tail.ensures.emits g) in
    let e = fun_returns plan g f c.emit_tail.new.body c.requires emits in
    let whole = rw c.in_ok-name.ensures at c.finish-code.ensures.value in
    tail_compiles plan g f c.emit_tail.new.body c.requires.named e c.count_of-results.result c.finish-code.result whole c.count_of-results.ensures.value
    (rw c.finish-code.ensures.value c.finish-code.ensures.written) (rw c.finish-code.ensures.value c.finish-code.ensures.small) c.count_of-results.ensures.small
