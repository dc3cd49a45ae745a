use Rattle.std.proofs.Common.{ℕ, List, ap, ◌∙◌}
use Rattle.rb_edge.specs.History.{Account, no_account}
use Rattle.rb_edge.specs.inner.Events.{account_event, account_after}
use Rattle.rb_edge.proofs.Histories.{account_snoc}
use Rattle.rb_edge.proofs.history.Said.take.Goals as goal

pub returns : goal.returns
returns c =
    ap (λ (es : List (ℕ × List ℕ)). account_after no_account es) c.note.ensures ∙ account_snoc no_account c.self.inside.log.events (0, c.args.bytes.now)
    ∙ ap (λ (a : Account). account_event a (0, c.args.bytes.now)) c.self.view_is
