use Rattle.rb_image.proofs.DescendingValues.{Descends-represents}
use Rattle.rb_image.proofs.ReadLemmas.{read_err, read_ok}
use Rattle.rb_image.proofs.value.read_image.Goals as goal

pub returns-clause-value : goal.returns-clause-value
returns-clause-value c =
    let p = c.args.agreed.now.covered.program in
    let image = c.args.image.now in
    let sound = c.in_ok-examine_image.ensures.sound in
    let v = c.images_descend.ensures.held image c.requires.placed c.requires.sized c.args.ty c.requires.declared sound in
    let read = c.value_of.ensures v.0 (Descends-represents v.1) in
    read_ok p c.args.agreed.now.layouts image c.args.ty c.args.limit v.0 v.1 c.value_of.result read

pub returns-clause-fault : goal.returns-clause-fault
returns-clause-fault c =
    let p = c.args.agreed.now.covered.program in
    let image = c.args.image.now in
    let sound = c.in_ok-examine_image.ensures.sound in
    let v = c.images_descend.ensures.held image c.requires.placed c.requires.sized c.args.ty c.requires.declared sound in
    let read = c.value_of.ensures v.0 (Descends-represents v.1) in
    read_err p c.args.agreed.now.layouts image c.args.ty c.args.limit v.0 v.1 c.value_of.result read

pub returns-clause-each : goal.returns-clause-each
returns-clause-each c = λ v descends. c.value_of.ensures v (Descends-represents descends)
