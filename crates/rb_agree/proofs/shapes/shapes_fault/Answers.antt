use Rattle.std.proofs.Common.{List, ap, ◌∙◌, arith}
use Rattle.std.specs.Option.{option_copied}
use Rattle.rb_core.specs.declared.layout_decl.LayoutDecl.{LayoutDecl}
use Rattle.rb_layout.specs.Flattening.{decl_of}
use Rattle.rb_agree.proofs.Finding.{shape-passes, shape-fails, shapes-end}
use Rattle.rb_agree.proofs.shapes.shapes_fault.Goals as goal

pub loop-t-init : goal.loop-t-init
loop-t-init c = λ layouts r found. found

pub loop-t-preserved : goal.loop-t-preserved
loop-t-preserved c =
    shape-passes c.args.program.now c.loop-t.t (option_copied c.decl_of.result) c.in_ok-why.field-0 (omega (arith, c.loop-t-test.true, c.len-t-end.ensures))
    (c.decl_of.ensures ∙ ap (λ (ds : List LayoutDecl). decl_of ds c.in_ok-ty.ty) c.as_slice.ensures ∙ ap (λ t. decl_of c.args.program.now.layouts t) c.in_ok-ty.ensures)
    c.in_ok-why.ensures c.in_default.is c.loop-t.invariant

pub returns : goal.returns
returns c = shapes-end c.args.program.now c.loop-t.t (omega (arith, c.loop-t-test.false, c.len-t-end.ensures)) c.loop-t.invariant

pub returns-in-Some : goal.returns-in-Some
returns-in-Some c =
    shape-fails c.args.program.now c.loop-t.t c.in_ok-ty.ty (option_copied c.decl_of.result) c.in_ok-why.field-0 c.in-Some.why (omega (arith, c.loop-t-test.true, c.len-t-end.ensures))
    (c.decl_of.ensures ∙ ap (λ (ds : List LayoutDecl). decl_of ds c.in_ok-ty.ty) c.as_slice.ensures ∙ ap (λ t. decl_of c.args.program.now.layouts t) c.in_ok-ty.ensures)
    c.in_ok-why.ensures c.in-Some.is c.in_ok-ty.ensures c.loop-t.invariant
