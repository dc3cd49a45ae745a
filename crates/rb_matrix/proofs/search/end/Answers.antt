use Rattle.std.proofs.Common.{[], refl, sym, ap, ◌∙◌, arith}
use Rattle.rb_matrix.specs.declared.problem.Problem.{Problem}
use Rattle.rb_matrix.specs.Rows.{any_row, all_rows}
use Rattle.rb_matrix.proofs.Working.{lost-wanted, lost-unwanted, solved}
use Rattle.rb_matrix.proofs.search.end.Goals as goal

pub returns-then-not-all_are_empty : goal.returns-then-not-all_are_empty
returns-then-not-all_are_empty c = λ types.
    let p : Problem = record { tys = []; wanted = c.args.wanted.now; unwanted = c.args.unwanted.now; steps = c.args.steps } in
    lost-wanted types p _ c.new.ensures.items (omega arith)
    (ap (λ rows. all_rows rows []) (sym c.as_slice.ensures) ∙ sym c.all_are_empty.ensures ∙ c.if-not-all_are_empty.true)

pub returns-then-some_is_empty : goal.returns-then-some_is_empty
returns-then-some_is_empty c = λ types.
    let p : Problem = record { tys = []; wanted = c.args.wanted.now; unwanted = c.args.unwanted.now; steps = c.args.steps } in
    lost-unwanted types p _ c.new-then-some_is_empty.ensures.items (omega arith)
    (ap (λ rows. any_row rows []) (sym c.as_slice-2.ensures) ∙ sym c.some_is_empty.ensures ∙ c.if-some_is_empty.true)

pub returns : goal.returns
returns c = λ types. (
  solved types [] c.args.wanted.now c.args.unwanted.now refl
      (ap (λ rows. all_rows rows []) (sym c.as_slice.ensures) ∙ sym c.all_are_empty.ensures ∙ c.if-not-all_are_empty.false)
      (ap (λ rows. any_row rows []) (sym c.as_slice-2.ensures) ∙ sym c.some_is_empty.ensures ∙ c.if-some_is_empty.false),
  refl,
)
