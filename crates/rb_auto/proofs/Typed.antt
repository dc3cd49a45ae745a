-- The layouts of a typed program have typed provenances, and so have the written ones of a completed program.
use Rattle.std.proofs.Common.{◌++◌, List, map}
use Rattle.rb_core.specs.declared.program.Program.{Program}
use Rattle.rb_core.specs.declared.layout_decl.LayoutDecl.{LayoutDecl}
use Rattle.rb_core.specs.TypedPrograms.{IsTyped, function_fault, layout_fault}
use Rattle.rb_layout.proofs.Blocks.{get_left}
use Rattle.rb_auto.specs.Completed.{HaveTypedProvenances, completed_program}
use Rattle.rb_auto.proofs.Leaves.{map-get}
use Rattle.rb_auto.proofs.Provenances.{no-fault}

pub typed-provenances : (p : Program) → IsTyped p → HaveTypedProvenances p
typed-provenances p typed k d e =
    no-fault p.types (map (layout_fault p.types) p.layouts ++ map (function_fault p.types p.funs) p.funs) k (layout_fault p.types d) typed.rules
    (get_left (map (layout_fault p.types) p.layouts) (map (function_fault p.types p.funs) p.funs) k (layout_fault p.types d)
    (map-get (layout_fault p.types) p.layouts k d e))

pub written-provenances : (p : Program) (derived : List LayoutDecl) → HaveTypedProvenances (completed_program p derived) → HaveTypedProvenances p
written-provenances p derived typed k d e = typed k d (get_left p.layouts derived k d e)
