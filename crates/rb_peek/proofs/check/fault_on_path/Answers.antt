use Rattle.std.proofs.Common.{◌∙◌}
use Rattle.std.proofs.lemmas.Result.{IfOk-weaker}
use Rattle.rb_peek.specs.Walks.{where_of}
use Rattle.rb_peek.specs.inner.Checking.{all_seen}
use Rattle.rb_peek.proofs.PathAnswers.{same_faults}
use Rattle.rb_peek.proofs.check.fault_on_path.Goals as goal

pub returns : goal.returns
returns c =
    let same = same_faults c.args.agreed.now.layouts c.args.image.now (all_seen (where_of c.args.walk.now)) c.in_ok-words.words c.in_ok-words.ensures in
    IfOk-weaker c.fault_of.result _ _ (λ fault is. is ∙ same) c.fault_of.ensures
