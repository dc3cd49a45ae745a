use Rattle.std.proofs.Common.{sym, ap, ◌∙◌}
use Rattle.std.specs.Prelude.{slice_get}
use Rattle.rb_core.specs.declared.pattern.Pat.TheVariants.{outs-Con}
use Rattle.rb_layout.proofs.OpenLemmas.{fields_same}
use Rattle.rb_image.specs.Fields.{field_in, field_of, with_type}
use Rattle.rb_image.proofs.inside.field_of.Goals as goal

pub returns-in-Con : goal.returns-in-Con
returns-in-Con c =
    let i = c.args.field in
    c.typed_pattern.ensures ∙ ap (λ p. with_type p c.type_at-ty.result) c.get.ensures.value
    ∙ ap (λ t. with_type (slice_get c.in-Con.pats i) t) (c.type_at-ty.ensures ∙ ap (λ ts. slice_get ts i) (c.types_of_fields.ensures ∙ fields_same c.args.types.now c.in-Con.con))
    ∙ sym (ap (λ p. field_of c.args.types.now p i) c.in-Con.is ∙ ap (field_in c.args.types.now i) (outs-Con c.in-Con.field-0 c.in-Con.con c.in-Con.pats))
