use Rattle.std.proofs.Common.{subst}
use Rattle.rb_decide.specs.Decisions.{IsTried}
use Rattle.rb_match.proofs.Chosen.{chooses_tree}
use Rattle.rb_match.proofs.ClauseForms.{chooses_all}
use Rattle.rb_match.proofs.choosing.emit_match.Goals as goal

pub returns-in-Built-clause-chooses : goal.returns-in-Built-clause-chooses
returns-in-Built-clause-chooses c =
    let types = c.as_slice-types.ensures in
    let tried = subst (λ r. IsTried c.as_slice-types.result.now c.args.ty c.args.pats.now 512 r) c.in-Built.is c.in_ok-tree.ensures.tried in
    let is = rw (c.as_slice-types.ensures, c.program.ensures.same, c.covered.ensures.same) at tried.0 in
    chooses_tree c.args.agreed.now c.args.ty c.args.pats.now c.args.words.now c.in-Built.tree c.args.body.now c.emit_tree.new.body c.in_ok-holes-in-Built.holes
    (rw c.covered.ensures.same at c.program.ensures.typed) c.covered.ensures.agree c.layouts-flat.ensures.flat is tried.1
    (rw (c.as_slice.ensures, c.in_ok-words.ensures) at c.in_ok-holes-in-Built.ensures.takes)

pub returns-clause-chooses : goal.returns-clause-chooses
returns-clause-chooses c =
    let tried = subst (λ r. IsTried c.as_slice-types.result.now c.args.ty c.args.pats.now 512 r) c.in-Over.is c.in_ok-tree.ensures.tried in
    let large = rw (c.as_slice-types.ensures, c.program.ensures.same, c.covered.ensures.same) at tried in
    chooses_all c.args.agreed.now c.args.ty c.args.pats.now c.args.words.now c.args.body.now c.emit_clauses.new.body c.in_ok-holes-in-Over.holes large (rw (c.as_slice-in-Over.ensures, c.in_ok-words.ensures) at c.in_ok-holes-in-Over.ensures.tries)

pub returns-in-Built-clause-holes : goal.returns-in-Built-clause-holes
returns-in-Built-clause-holes c = c.in_ok-holes-in-Built.ensures.holes

pub returns-in-Built-clause-ways : goal.returns-in-Built-clause-ways
returns-in-Built-clause-ways c = c.in_ok-holes-in-Built.ensures.ways

pub returns-in-Built-clause-grows : goal.returns-in-Built-clause-grows
returns-in-Built-clause-grows c = c.in_ok-holes-in-Built.ensures.grows
