use Rattle.rb_agree.proofs.Marking.{no-pointer, has-pointer}
use Rattle.rb_agree.proofs.pointers.pointer_fault.Goals as goal

pub returns-in-None : goal.returns-in-None
returns-in-None c = no-pointer c.args.layouts.now c.args.marks.now c.requires c.args.leaf.now c.in-None.ensures

pub returns-in-Some : goal.returns-in-Some
returns-in-Some c = has-pointer c.args.layouts.now c.args.marks.now c.requires c.args.leaf.now c.in-Some.ty c.in-Some.ensures
