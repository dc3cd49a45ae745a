use Rattle.std.proofs.Common.{IfOk, IfErr, sym, subst}
use Rattle.rb_image_text.specs.Places.{AreInPlace}
use Rattle.rb_image_text.specs.declared.image.Image.{Image}
use Rattle.rb_lines.specs.Answer.{printed}
use Rattle.rb_lines.specs.View.{IsRefusal}
use Rattle.ribbit_tool.specs.Value.{IsDueToImage}
use Rattle.ribbit_tool.proofs.PeekLaws.{part_shown, part_refused, path_refused}
use Rattle.ribbit_tool.proofs.peek.part_text.Goals as goal

pub value_text-requires-clause-placed : goal.value_text-requires-clause-placed
value_text-requires-clause-placed c = subst (λ (i : Image). AreInPlace i.blocks) (sym c.image_of.ensures) c.requires.placed

pub returns-in-Ok-clause-text : goal.returns-in-Ok-clause-text
returns-in-Ok-clause-text c =
    let agreed = c.args.agreed.now in
    let part = c.in-Ok.part in
    let r = c.value_text.result in
    part_shown agreed.covered.program agreed.layouts c.layouts_are_flat.ensures c.args.ty c.args.path.now c.args.image part c.in-Ok.ensures.part r
    (subst (λ (i : Image). IfOk r (λ text. IsDueToImage agreed.covered.program part.ty i (printed text.items 0))) c.image_of.ensures c.value_text.ensures.text)

pub returns-in-Ok-clause-refused : goal.returns-in-Ok-clause-refused
returns-in-Ok-clause-refused c =
    let agreed = c.args.agreed.now in
    let part = c.in-Ok.part in
    let r = c.value_text.result in
    part_refused agreed.covered.program agreed.layouts c.layouts_are_flat.ensures c.args.ty c.args.path.now c.args.image part c.in-Ok.ensures.part r
    (subst (λ (i : Image). IfErr r (IsRefusal (IsDueToImage agreed.covered.program part.ty i))) c.image_of.ensures c.value_text.ensures.refused)

pub returns-in_ok-refused-in-Err-clause-refused : goal.returns-in_ok-refused-in-Err-clause-refused
returns-in_ok-refused-in-Err-clause-refused c =
    let agreed = c.args.agreed.now in
    let m = c.in-Err in
    let r = c.in_ok-refused-in-Err in
    path_refused agreed.covered.program agreed.layouts c.layouts_are_flat.ensures c.args.ty c.args.path.now c.args.image m.fault m.ensures.fault r.ensures.other _
    r.ensures.due
