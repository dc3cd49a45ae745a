use Rattle.std.proofs.Common.{◌≤◌, ℕ, List, [], length, sym, subst, ◌∙◌}
use Rattle.rb_command.specs.View.{limits_view}
use Rattle.rb_core.specs.Limits.{most_file_bytes}
use Rattle.rb_lines.proofs.Meeting.{met}
use Rattle.ribbit_tool.specs.Count.{CountsFile}
use Rattle.ribbit_tool.specs.Generate.{CountsGenerated}
use Rattle.ribbit_tool.proofs.GenerateLaws.{generated_short}
use Rattle.ribbit_tool.proofs.generate.count_generated.Goals as goal

pub count_bytes-requires : goal.count_bytes-requires
count_bytes-requires g c =
    let n = c.args.functions in
    subst (λ (bytes : List ℕ). length bytes ≤ most_file_bytes) (sym (c.as_slice.ensures.value ∙ c.in_ok-file.ensures)) (generated_short n.count n.some n.few)

pub returns : goal.returns
returns g c =
    let limits = limits_view c.args.limits in
    let is = c.as_slice.ensures.value ∙ c.in_ok-file.ensures in
    met (λ due. CountsFile limits [] c.as_slice.result.now due) (λ due. CountsGenerated c.args.functions.count limits due)
    (λ due h. subst (λ (bytes : List ℕ). CountsFile limits [] bytes due) is h)
    c.args.steps.now.taken c.count_bytes.new.steps.taken c.count_bytes.result c.count_bytes.ensures
