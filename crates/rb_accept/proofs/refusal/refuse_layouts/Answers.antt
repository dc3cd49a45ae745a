use Rattle.std.proofs.Common.{List, ℕ, ap, ◌∙◌}
use Rattle.rb_core.specs.declared.types.DataDecl.{DataDecl}
use Rattle.rb_layout.specs.declared.layout.Layout.{Layout}
use Rattle.rb_lines.specs.Answer.{refusal}
use Rattle.rb_lines.specs.Lines.{named_line}
use Rattle.rb_lines.specs.declared.status.Status.TheVariants as status
use Rattle.rb_show.specs.Lines.{line}
use Rattle.rb_show.specs.Refusals.{refusal_text}
use Rattle.rb_accept.proofs.LayoutRefusals.{have_layouts, given_text}
use Rattle.rb_accept.proofs.refusal.refuse_layouts.Goals as goal

pub named_layouts-requires : goal.named_layouts-requires
named_layouts-requires c = have_layouts c.args.covered.now.program c.args.fault.now c.requires

pub returns : goal.returns
returns c =
    let p = c.args.covered.now.program in
    let r = c.args.fault.now in
    let types = c.as_slice-types.ensures ∙ ap (λ x. x.types) c.program.ensures.same in
    let text = c.in_ok-text.ensures ∙ ap (λ (ts : List DataDecl). refusal_text ts c.as_slice.result.now r) types
    ∙ ap (λ (ls : List Layout). refusal_text p.types ls r) c.as_slice.ensures
    ∙ given_text p r c.requires c.in_ok-layouts.layouts c.in_ok-layouts.ensures in
    ap (λ (t : List ℕ). refusal status.Layout t)
    (c.in_ok-line-2.ensures ∙ ap (λ t. line t) (c.in_ok-line.ensures ∙ ap (λ t. named_line t) (c.as_slice-2.ensures.value ∙ text)))
