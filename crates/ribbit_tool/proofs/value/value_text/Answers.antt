use Rattle.std.proofs.Common.{List, ℕ, ap, ◌∙◌}
use Rattle.rb_core.specs.declared.types.DataDecl.{DataDecl}
use Rattle.rb_lines.specs.Answer.{printed}
use Rattle.rb_show.specs.Lines.{line}
use Rattle.rb_values.specs.Texts.{text_of}
use Rattle.ribbit_tool.specs.Value.{holds}
use Rattle.ribbit_tool.proofs.ValueLaws.{refused_back}
use Rattle.ribbit_tool.proofs.value.value_text.Goals as goal

pub returns-in_ok-text-in-Ok-clause-text : goal.returns-in_ok-text-in-Ok-clause-text
returns-in_ok-text-in-Ok-clause-text c =
    let m = c.in-Ok in
    let ty = c.args.ty in
    let types = c.as_slice-types.ensures ∙ ap (λ x. x.types) (c.program.ensures.same ∙ ap (λ x. x.program) c.covered.ensures.same) in
    let text = c.in_ok-text-in-Ok.ensures ∙ ap (λ (ts : List DataDecl). line (text_of ts m.value ty)) types in
    holds m.value m.ensures.value.0 m.ensures.value.1 (ap (λ (t : List ℕ). printed t 0) text)

pub returns-in_ok-refused-in-Err-clause-refused : goal.returns-in_ok-refused-in-Err-clause-refused
returns-in_ok-refused-in-Err-clause-refused c =
    let agreed = c.args.agreed.now in
    let m = c.in-Err in
    let r = c.in_ok-refused-in-Err in
    refused_back agreed.covered.program agreed.layouts c.layouts_are_flat.ensures c.args.ty c.args.image.now m.fault m.ensures.fault r.ensures.other _ r.ensures.due
