use Rattle.std.proofs.Common.{◌≡◌, ◌++◌, ◌∙◌, drop, length, Some, sym, ap}
use Rattle.std.specs.Option.{option_copied}
use Rattle.rb_matrix.specs.Heads.{column_fields}
use Rattle.rb_matrix.specs.Specialize.{special}
use Rattle.rb_matrix.proofs.SpecializeLaws.{unfolds-alike}
use Rattle.rb_matrix.proofs.specialization.specialize.Goals as goal

pub returns-clause-same : goal.returns-clause-same
returns-clause-same c =
    let at : column_fields c.args.types.now c.args.matrix.now.tys c.args.head.now ≡ Some c.in-Some.fields.now =
    ap (λ tys. column_fields c.args.types.now tys c.args.head.now) (sym c.as_slice.ensures) ∙ sym c.first_fields.ensures ∙ ap option_copied c.in-Some.is in
    unfolds-alike c.args.types.now c.args.head.now c.args.matrix.now c.in-Some.fields.now at
    (record { tys = c.in_ok-tys.tys; rows = c.in_ok-rows.rows })
    (c.in_ok-tys.ensures ∙ ap (λ tys. c.in-Some.fields.now ++ drop 1 tys) c.as_slice-2.ensures)
    (c.in_ok-rows.ensures ∙ ap (special c.args.head.now (length c.in-Some.fields.now)) c.as_slice-3.ensures)
