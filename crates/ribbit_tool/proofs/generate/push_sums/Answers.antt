use Rattle.std.proofs.Common.{◌≡◌, ◌+◌, ◌%◌, ◌++◌, ap, ◌∙◌, arith}
use Rattle.rb_core.proofs.TextLemmas.{appended}
use Rattle.ribbit_tool.specs.Generate.{sum_line, sum_lines}
use Rattle.ribbit_tool.proofs.GenerateLaws.{sums_next}
use Rattle.ribbit_tool.proofs.generate.push_sums.Goals as goal

pub loop-i-preserved : goal.loop-i-preserved
loop-i-preserved c =
    let n = c.args.functions.count in
    let i = c.loop-i.i in
    let z : 0 + i ≡ i = omega arith in
    appended _ _ _ _ _ _ c.loop-i.invariant c.in_ok-push_sum.ensures
    (sums_next n 0 i ∙ ap (λ k. sum_lines n 0 i ++ sum_line k ((k + 1) % n)) z)
