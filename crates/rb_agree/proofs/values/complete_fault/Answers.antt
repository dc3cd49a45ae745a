use Rattle.std.proofs.Common.{List, Result, Err, ◌∙◌, ap, subst}
use Rattle.rb_core.specs.declared.pattern.Pat.{Pat}
use Rattle.rb_core.specs.declared.types.Ty.TheVariants.{Named}
use Rattle.rb_core.specs.Matching.{IsExhaustive}
use Rattle.rb_layout.specs.declared.layout.Leaf.{Leaf}
use Rattle.rb_matrix.specs.Exhaust.{IsExhaustAnswer, IsMissing}
use Rattle.rb_matrix.specs.declared.coverage.MatrixFault.{MatrixFault}
use Rattle.rb_agree.specs.inner.Values.{provenances_in}
use Rattle.rb_agree.proofs.Covering.{is-complete, is-without}
use Rattle.rb_agree.proofs.values.complete_fault.Goals as goal

pub returns-in-Ok : goal.returns-in-Ok
returns-in-Ok c =
    let is = c.as_slice-2.ensures ∙ c.in_ok-pats.ensures ∙ ap (λ (ls : List Leaf). provenances_in ls) c.as_slice.ensures in
    is-complete c.args.types.now c.args.ty c.args.layout.now (subst (λ (ps : List Pat). IsExhaustive c.args.types.now (Named c.args.ty) ps) is c.in-Ok.ensures)

pub returns-in-Err-Missing : goal.returns-in-Err-Missing
returns-in-Err-Missing c =
    let is = c.as_slice-2.ensures ∙ c.in_ok-pats.ensures ∙ ap (λ (ls : List Leaf). provenances_in ls) c.as_slice.ensures in
    is-without c.args.types.now c.args.ty c.args.layout.now c.in-Err-Missing.pat
    (subst (λ (ps : List Pat). IsMissing c.args.types.now (Named c.args.ty) ps c.in-Err-Missing.pat) is
    (subst (λ (r : Result (Unit {0}) MatrixFault). IsExhaustAnswer c.args.types.now (Named c.args.ty) c.as_slice-2.result.now r)
    (c.in-Err-Missing.is ∙ ap (λ (f : MatrixFault). Err f) c.in-Err-Missing.field-0-is) c.exhaust.ensures))
