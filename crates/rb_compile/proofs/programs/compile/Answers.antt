use Rattle.std.proofs.Common.{List, subst}
use Rattle.rb_target.specs.declared.code.CodeFun.{CodeFun}
use Rattle.rb_trim.specs.Trimming.{IsTrimOf}
use Rattle.rb_compile.specs.Plans.{plan_of}
use Rattle.rb_compile.proofs.Refined.{refines, thrifty}
use Rattle.rb_compile.proofs.Trimmed.{trim_refines, trim_thrifty}
use Rattle.rb_compile.proofs.Whole.{valid}
use Rattle.rb_compile.proofs.programs.compile.Goals as goal

pub new-requires : goal.new-requires
new-requires c =
    valid (plan_of c.args.agreed.now) c.in_ok-funs.funs c.functions.ensures.ready (rw c.functions.ensures.same at c.in_ok-funs.ensures)

pub returns-clause-refines : goal.returns-clause-refines
returns-clause-refines c =
    let plan = plan_of c.args.agreed.now in
    trim_refines plan c.in_ok-funs.funs c.in_ok-code.code
    (subst (λ (k : List CodeFun). IsTrimOf k c.in_ok-code.code) c.new.ensures.value c.in_ok-code.ensures)
    (refines plan c.in_ok-funs.funs c.new.ensures.laws c.functions.ensures.ready (rw c.functions.ensures.same at c.in_ok-funs.ensures))

pub returns-clause-thrifty : goal.returns-clause-thrifty
returns-clause-thrifty c =
    let plan = plan_of c.args.agreed.now in
    let first = rw c.functions.ensures.same at c.in_ok-funs.ensures in
    trim_thrifty plan c.in_ok-funs.funs c.in_ok-code.code
    (subst (λ (k : List CodeFun). IsTrimOf k c.in_ok-code.code) c.new.ensures.value c.in_ok-code.ensures)
    (refines plan c.in_ok-funs.funs c.new.ensures.laws c.functions.ensures.ready first)
    (thrifty plan c.in_ok-funs.funs c.new.ensures.laws c.functions.ensures.ready first)
