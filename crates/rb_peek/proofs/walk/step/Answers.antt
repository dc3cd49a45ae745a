use Rattle.std.proofs.Common.{◌≡◌, Result, Some, sym, subst, ap, ◌∙◌}
use Rattle.rb_image_text.specs.declared.fault.ImageFault.{ImageFault}
use Rattle.rb_image.specs.Fields.{field_of, position_of}
use Rattle.rb_image.specs.Given.{IsGiven}
use Rattle.rb_peek.specs.Walks.{Where, where_settled, where_of}
use Rattle.rb_peek.proofs.WayLemmas.{field_small, step_some}
use Rattle.rb_peek.proofs.walk.step.Goals as goal

pub settle-requires-clause-declared : goal.settle-requires-clause-declared
settle-requires-clause-declared g c =
    let types = c.args.agreed.now.covered.program.types in
    let p = c.args.walk.here.pat.now in
    let same : c.as_slice-types.result.now ≡ types = c.as_slice-types.ensures ∙ ap (λ q. q.types) (c.program.ensures.same ∙ ap (λ k. k.program) c.covered.ensures.same) in
    field_small types c.args.agreed.now.layouts c.tell_orderly.ensures p c.args.field (position_of c.in-Some.next) c.in-Some-open_data.ty
    (ap (λ ts. field_of ts p c.args.field) (sym same) ∙ sym c.in-Some.ensures) (sym c.in-Some-open_data.ensures)

pub returns-in-Some-open_data-clause-walk : goal.returns-in-Some-open_data-clause-walk
returns-in-Some-open_data-clause-walk g c =
    let types = c.args.agreed.now.covered.program.types in
    let layouts = c.args.agreed.now.layouts in
    let m = c.args.image.now.blocks in
    let p = c.args.walk.here.pat.now in
    let same : c.as_slice-types.result.now ≡ types = c.as_slice-types.ensures ∙ ap (λ q. q.types) (c.program.ensures.same ∙ ap (λ k. k.program) c.covered.ensures.same) in
    let w = where_of c.args.walk in
    let pos = position_of c.in-Some.next in
    let t = c.in-Some-open_data.ty in
    let is = step_some types layouts m c.args.number w c.args.field pos (Some t) (ap (λ ts. field_of ts p c.args.field) (sym same) ∙ sym c.in-Some.ensures) (sym c.in-Some-open_data.ensures) in
    let there = ap (λ at. record { before = w.before; last = record w.last { at = at }; here = pos }) c.in_ok-push.ensures.ok in
    subst (λ (d : Result Where ImageFault). IsGiven where_of d c.settle.result) (sym is)
    (subst (λ (v : Where). IsGiven where_of (where_settled layouts m v (Some t)) c.settle.result) there c.settle.ensures.walk)
