use Rattle.std.proofs.Common.{ℕ, List, [], ap, ◌∙◌}
use Rattle.rb_edge.specs.History.{Reading}
use Rattle.rb_edge.specs.inner.Events.{reading_event, readings_after}
use Rattle.rb_edge.proofs.Histories.{readings_snoc}
use Rattle.rb_edge.proofs.history.Readings.end.Goals as goal

pub returns : goal.returns
returns c =
    ap (λ (es : List (ℕ × List ℕ)). readings_after [] es) c.note.ensures ∙ readings_snoc [] c.self.inside.log.events (3, [])
    ∙ ap (λ (rs : List Reading). reading_event rs (3, [])) c.self.view_is
