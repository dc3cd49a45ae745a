use Rattle.std.proofs.Common.{length, sym, ap, ◌∙◌, subst}
use Rattle.rb_matrix.specs.declared.problem.Left.TheVariants.{Whole}
use Rattle.rb_matrix.specs.inner.Open.{any_open}
use Rattle.rb_matrix.specs.Search.{AreTypesIn}
use Rattle.rb_matrix.specs.inner.Left.{IsOutcome}
use Rattle.rb_matrix.proofs.Opens.{lost-open}
use Rattle.rb_matrix.proofs.Working.{split-column}
use Rattle.rb_matrix.proofs.search.split.Goals as goal

pub returns-then-some_is_open : goal.returns-then-some_is_open
returns-then-some_is_open c =
    let rows = c.as_slice.result.now in
    lost-open c.args.types.now c.args.problem _ c.new.ensures.items
    (ap (λ l. any_open l (length c.args.problem.tys)) (sym c.as_slice.ensures) ∙ ap (λ n. any_open rows n) (sym c.len.ensures) ∙ sym c.some_is_open.ensures ∙ c.if-some_is_open.true)

pub returns-in_default : goal.returns-in_default
returns-in_default c =
    let p = c.args.problem in
    subst (λ l. IsOutcome c.args.types.now (Whole (record { tys = l; wanted = p.wanted; unwanted = p.unwanted; steps = p.steps })) c.end.result) (sym c.in_default.ensures.0) (c.end.ensures c.args.types.now)

pub parts_of-requires-clause-live : goal.parts_of-requires-clause-live
parts_of-requires-clause-live c = (subst (AreTypesIn c.args.types.now) c.in-Some.ensures c.requires.live).0

pub parts_of-requires-clause-lives : goal.parts_of-requires-clause-lives
parts_of-requires-clause-lives c = (subst (AreTypesIn c.args.types.now) c.in-Some.ensures c.requires.live).1

pub returns : goal.returns
returns c = split-column c.args.types.now c.args.problem c.in-Some.ty c.pop.new.self c.in_ok-parts.parts.items c.in-Some.ensures c.in_ok-parts.ensures
