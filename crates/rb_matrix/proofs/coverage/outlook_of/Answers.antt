use Rattle.std.proofs.Common.{[], take, subst}
use Rattle.rb_matrix.specs.inner.OneColumn.{IsOneAnswer, one_each}
use Rattle.rb_matrix.proofs.Exhausts.{end-all, end-useless}
use Rattle.rb_matrix.proofs.coverage.outlook_of.Goals as goal

pub returns-in-None : goal.returns-in-None
returns-in-None c =
    let types = c.args.types.now in let ty = c.args.ty in let pats = c.args.pats.now in let n = c.min-count.result in let found = c.in_ok-find_one.field-0 in
    end-useless types ty pats n
    (subst (IsOneAnswer types ty [] (one_each (take n pats))) c.in-None.is
    (subst (λ l. IsOneAnswer types ty [] l found) c.in_ok-unwanted.ensures
    (subst (λ l. IsOneAnswer types ty l c.in_ok-unwanted.unwanted found) c.new.ensures c.in_ok-find_one.ensures)))

pub returns : goal.returns
returns c = end-all c.args.types.now c.args.ty c.args.pats.now
