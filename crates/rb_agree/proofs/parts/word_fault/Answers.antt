use Rattle.rb_layout.specs.Positions.{open_positions}
use Rattle.rb_agree.proofs.PartLists.{each-found, word-found}
use Rattle.rb_agree.proofs.parts.word_fault.Goals as goal

pub returns-in-Some : goal.returns-in-Some
returns-in-Some c =
    each-found c.args.decls.now (open_positions c.args.types.now c.args.prov.now) c.args.i c.args.width c.args.parts.now c.in_ok-why.field-0 c.in-Some.why c.in-Some.is c.in_ok-why.ensures

pub returns : goal.returns
returns c =
    word-found c.args.decls.now (open_positions c.args.types.now c.args.prov.now) c.args.i c.args.width c.args.parts.now c.in_ok-why.field-0 c.overlap_fault.result c.in_default.is c.in_ok-why.ensures c.overlap_fault.ensures
