use Rattle.std.proofs.Common.{length, refl, sym, ap, ◌∙◌}
use Rattle.std.specs.Prelude.{slice_get}
use Rattle.std.proofs.lemmas.Option.{slice_get_read}
use Rattle.rb_fetch.proofs.Rebuilding.{fields_same}
use Rattle.rb_fetch.proofs.rebuild.field_at.Goals as goal

pub returns : goal.returns
returns c =
    let l = c.in-Some.ensures.lookup in
    let at = slice_get_read c.types_of_fields-fields.result.now (length c.types_of_fields-fields.result.now) c.args.number c.in-Some.ty.now refl l.3.0 l.1 in
    let field = rw (c.types_of_fields-fields.ensures, c.as_slice.ensures, c.program.ensures.same, c.covered.ensures.same) at at in
    let same = fields_same c.args.agreed.now.covered.program.types c.args.con in
    (c.in_ok-path.ensures, ap (λ ts. slice_get ts c.args.number) (sym same) ∙ field)
