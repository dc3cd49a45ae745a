use Rattle.std.proofs.Common.{List, ℕ, ap, ◌∙◌}
use Rattle.std.proofs.lemmas.Result.{err_from_is_err_and}
use Rattle.rb_accept.specs.Accepting.{IsRefused, turned_down, accepted}
use Rattle.rb_accept.proofs.Accepted.{is_accepted}
use Rattle.rb_layout.specs.declared.layout.Layout.{Layout}
use Rattle.rb_lines.specs.Answer.{printed}
use Rattle.rb_lines.proofs.Meeting.{refusal_met}
use Rattle.rb_show.specs.Lines.{layouts_text}
use Rattle.ribbit_tool.specs.Layout.{LaysOutFile}
use Rattle.ribbit_tool.proofs.layout.layout_bytes.Goals as goal

pub returns-in_err-accepted-clause-refused : goal.returns-in_err-accepted-clause-refused
returns-in_err-accepted-clause-refused c =
    let p = err_from_is_err_and c.from_residual.result c.from_residual.ensures.1 in
    rw (p.1, p.2) (refusal_met (λ due. IsRefused c.args.bytes.now due) (λ due. LaysOutFile c.args.bytes.now due) (λ due h. turned_down h) _ c.in_err-accepted.ensures.refused)

pub returns-clause-text : goal.returns-clause-text
returns-clause-text c =
    let a = c.in_ok-accepted.accepted in
    let p = a.agreed.covered.program in
    let acceptance = c.in_ok-accepted.ensures.accepted in
    accepted p (is_accepted c.args.bytes.now a acceptance)
    (ap (λ (text : List ℕ). printed text 0) (c.in_ok-text.ensures ∙ ap (λ (ls : List Layout). layouts_text p.types ls) acceptance.agreed.0))
