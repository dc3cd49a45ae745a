use Rattle.std.proofs.Common.{rules, arith, below_more, ap, sym, length, ◌∙◌}
use Rattle.rb_target.proofs.Checks.{first_in_fun, valid_in}
use Rattle.rb_target.specs.declared.code.CodeFun.{CodeFun}
use Rattle.rb_target.proofs.check.check_fun.Goals as goal

pub returns-in_err-check_instr-clause-err : goal.returns-in_err-check_instr-clause-err
returns-in_err-check_instr-clause-err c =
    let first = first_in_fun _ _ _ _ c.loop-pc.invariant c.in_err-check_instr.ensures.err in
    search rules

pub loop-pc-preserved : goal.loop-pc-preserved
loop-pc-preserved c = below_more _ _ c.loop-pc.invariant c.in_ok-check_instr.ensures.ok

pub returns-clause-ok : goal.returns-clause-ok
returns-clause-ok c =
    valid_in c.args.funs.now c.args.n c.len-len.result c.index-funs-n.result c.requires.spelled c.requires.within c.index-funs-n.is
    (c.len-len.ensures ∙ ap (λ (f : CodeFun). length f.body) (sym c.index-funs-n.is)) c.len-len.type_inv
    (λ k lt. c.loop-pc.invariant k (omega arith))
