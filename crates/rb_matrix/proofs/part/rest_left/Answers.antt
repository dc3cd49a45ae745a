use Rattle.std.proofs.Common.{◌∷◌, [], refl, sym, subst, arith}
use Rattle.rb_matrix.specs.declared.problem.Problem.{Problem}
use Rattle.rb_matrix.specs.declared.problem.Left.TheVariants.{Whole}
use Rattle.rb_matrix.specs.inner.Problems.{with_column}
use Rattle.rb_matrix.specs.inner.Left.{IsSplit}
use Rattle.rb_matrix.proofs.Splits.{rest-gone, rest-split}
use Rattle.rb_matrix.proofs.Working.{split-made}
use Rattle.rb_matrix.proofs.part.rest_left.Goals as goal

pub returns-then-len-count : goal.returns-then-len-count
returns-then-len-count c =
    let types = c.args.types.now in let ty = c.args.ty in let p = c.args.behind in
    subst (IsSplit types (Whole (with_column ty p))) (sym c.new.ensures.items)
    (rest-gone types ty p.tys (with_column ty p) refl c.requires.none c.in_ok-wanted.wanted c.in_ok-wanted.ensures (omega arith))

pub returns : goal.returns
returns c =
    let types = c.args.types.now in let ty = c.args.ty in let p = c.args.behind in
    let part : Problem = record { tys = p.tys; wanted = c.in_ok-wanted.wanted; unwanted = c.in_ok-unwanted.unwanted; steps = c.push.new.self } in
    split-made types (Whole (with_column ty p)) (Whole part ∷ []) c.part_left.result c.part_left.ensures
    (rest-split types ty p.tys (with_column ty p) refl c.args.absent c.requires.none c.requires.absent c.requires.lives part
    refl c.in_ok-wanted.ensures c.in_ok-unwanted.ensures (omega arith) c.in_ok-push.ensures.ok)
