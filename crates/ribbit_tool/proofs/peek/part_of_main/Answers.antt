use Rattle.std.proofs.Common.{ap, sym, subst, ◌∙◌}
use Rattle.rb_core.specs.Typing.{result_type}
use Rattle.rb_core.specs.declared.program.Program.{Program}
use Rattle.rb_core.specs.declared.types.Ty.{Ty}
use Rattle.rb_core.specs.TypedPrograms.{IsTyped}
use Rattle.rb_core.specs.declared.typed.Noted.{Noted}
use Rattle.rb_image.specs.Values.{IsDeclared}
use Rattle.ribbit_tool.proofs.ResultTypes.{result_declared}
use Rattle.ribbit_tool.proofs.peek.part_of_main.Goals as goal

pub part_text-requires-clause-declared : goal.part_text-requires-clause-declared
part_text-requires-clause-declared c =
    let p = c.args.agreed.now.covered.program in
    let same = c.program.ensures.same ∙ ap (λ x. x.program) c.covered.ensures.same in
    let typed : IsTyped p = subst (λ (n : Noted). IsTyped n.program) c.covered.ensures.same c.program.ensures.typed in
    let is = c.result_of_main-ty.ensures ∙ ap (λ (q : Program). result_type q.funs q.main) same in
    subst (λ (ty : Ty). IsDeclared p.types ty) (sym is) (result_declared p typed)
