use Rattle.std.proofs.Common.{List, ap, ◌∙◌, slice_set}
use Rattle.rb_agree.specs.declared.runs.Run.{Run}
use Rattle.rb_agree.proofs.Gathering.{run-added}
use Rattle.rb_agree.proofs.runs.add_run.Goals as goal

pub returns : goal.returns
returns c =
    run-added c.args.rows.now c.replace-runs.new.self c.replace.new.self c.args.n c.replace-runs.result c.args.run c.replace-runs.ensures.old
    (c.replace-runs.ensures.new ∙ ap (λ (r : List Run). slice_set c.args.rows.now c.args.n r) c.new.ensures)
    (c.replace.ensures.new ∙ ap (λ (r : List Run). slice_set c.replace-runs.new.self c.args.n r) c.in_ok-push.ensures.ok)
