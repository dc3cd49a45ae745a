use Rattle.std.proofs.Common.{◌≡◌, List, Some, subst, ◌∙◌}
use Rattle.std.specs.Prelude.{slice_get}
use Rattle.rb_layout.specs.declared.layout.Leaf.{Leaf}
use Rattle.rb_layout.specs.Flattening.{decl_of}
use Rattle.rb_layout.specs.Items.{leaves_in}
use Rattle.rb_agree.proofs.Lists.{at-item}
use Rattle.rb_agree.proofs.Reading.{items-are}
use Rattle.rb_agree.proofs.Ruling.{leaf-fails, leaf-passes, leaves-done}
use Rattle.rb_agree.proofs.rules.leaves_fault.Goals as goal

pub loop-n-init : goal.loop-n-init
loop-n-init c = λ r found. found

pub loop-n-preserved : goal.loop-n-preserved
loop-n-preserved c =
    leaf-passes c.args.ruled.now.program.now c.args.ruled.now.layouts.now c.args.ruled.now.ty c.args.ruled.now.layout.now c.args.ruled.now.rule c.as_slice-leaves.result.now c.loop-n.n c.index-leaves-n.result c.in_ok-why.field-0
    c.as_slice-leaves.ensures c.loop-n-test.true c.index-leaves-n.is c.in_ok-why.ensures c.in_default.is c.loop-n.invariant

pub returns-in-Some : goal.returns-in-Some
returns-in-Some c =
    leaf-fails c.args.ruled.now.program.now c.args.ruled.now.layouts.now c.args.ruled.now.ty c.args.ruled.now.layout.now c.args.ruled.now.rule c.as_slice-leaves.result.now c.loop-n.n c.in_ok-leaf.leaf c.rule_number.result c.index-leaves-n.result c.in_ok-why.field-0
    c.in-Some.why c.as_slice-leaves.ensures c.loop-n-test.true c.index-leaves-n.is c.in_ok-leaf.ensures c.rule_number.ensures c.in_ok-why.ensures c.in-Some.is c.loop-n.invariant

pub returns : goal.returns
returns c =
    leaves-done c.args.ruled.now.program.now c.args.ruled.now.layouts.now c.args.ruled.now.ty c.args.ruled.now.layout.now c.args.ruled.now.rule c.as_slice-leaves.result.now c.loop-n.n c.as_slice-leaves.ensures c.loop-n-test.false c.loop-n.invariant

pub doubted_fault-requires-clause-leaf : goal.doubted_fault-requires-clause-leaf
doubted_fault-requires-clause-leaf c =
    subst (λ (ls : List Leaf). slice_get ls c.loop-n.n ≡ Some c.index-leaves-n.result) c.as_slice-leaves.ensures
    (at-item c.as_slice-leaves.result.now c.loop-n.n c.index-leaves-n.result c.loop-n-test.true c.index-leaves-n.is)

pub doubted_fault-requires-clause-items : goal.doubted_fault-requires-clause-items
doubted_fault-requires-clause-items c =
    c.items_at-items.ensures ∙ items-are c.args.written.now (leaves_in (decl_of c.args.ruled.now.program.now.layouts c.args.ruled.now.ty)) c.loop-n.n c.requires.written
