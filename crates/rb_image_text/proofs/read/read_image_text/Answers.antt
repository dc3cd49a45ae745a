use Rattle.std.proofs.Common.{◌∙◌, ap, subst}
use Rattle.rb_image_text.specs.Places.{AreInPlace}
use Rattle.rb_image_text.specs.declared.image.Image.{Image}
use Rattle.rb_image_text.proofs.PlaceLemmas.{misplaced_only}
use Rattle.rb_image_text.proofs.ReadLemmas.{unread_this, handed_on}
use Rattle.rb_image_text.proofs.read.read_image_text.Goals as goal

pub returns-in_err-image-clause-each : goal.returns-in_err-image-clause-each
returns-in_err-image-clause-each c i is placed e =
    let fault = c.in_err-image.field-0.0 in
    handed_on i c.from_residual.result fault c.from_residual.ensures.0 c.from_residual.ensures.1 (unread_this c.args.bytes.now fault i c.in_err-image.ensures.reading (record { image = is; is = e }))

pub returns-in-None-clause-placed : goal.returns-in-None-clause-placed
returns-in-None-clause-placed c = subst AreInPlace c.as_slice.ensures c.in-None.ensures

pub returns-in-Some-clause-each : goal.returns-in-Some-clause-each
returns-in-Some-clause-each c i is placed e =
    let same = c.in_ok-image.ensures.only i (record { image = is; is = e }) in
    misplaced_only c.as_slice.result.now i.blocks c.in-Some.i (c.as_slice.ensures ∙ ap (λ (j : Image). j.blocks) same) c.in-Some.ensures placed
