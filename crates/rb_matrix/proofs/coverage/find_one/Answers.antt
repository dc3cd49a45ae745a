use Rattle.std.proofs.Common.{◌∷◌, ap, ◌∙◌, subst}
use Rattle.rb_matrix.specs.Search.{IsSearchAnswer}
use Rattle.rb_matrix.proofs.Exhausts.{found-one}
use Rattle.rb_matrix.proofs.coverage.find_one.Goals as goal

pub returns-in-Some-pop : goal.returns-in-Some-pop
returns-in-Some-pop c =
    let types = c.args.types.now in
    let found = c.in_ok-found.found in
    let one = c.in_ok-push.ensures ∙ ap (λ l. c.args.ty ∷ l) c.new-tys.ensures in
    let answer = subst (λ l. IsSearchAnswer types l c.args.wanted c.args.unwanted found) one c.in_ok-found.ensures in
    found-one types c.args.ty c.args.wanted c.args.unwanted found answer c.in-Some.row _ c.in-Some-pop.pat c.in-Some.is c.in-Some-pop.ensures
