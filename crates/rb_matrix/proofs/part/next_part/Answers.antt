use Rattle.std.proofs.Common.{◌∷◌}
use Rattle.rb_matrix.specs.declared.problem.Left.{Left}
use Rattle.rb_matrix.specs.declared.problem.Left.TheVariants.{ByHead}
use Rattle.rb_matrix.specs.inner.Left.{wholes}
use Rattle.rb_matrix.proofs.Branches.{next-split, last-split}
use Rattle.rb_matrix.proofs.Working.{split-made}
use Rattle.rb_matrix.proofs.part.next_part.Goals as goal

pub returns-then-is_empty : goal.returns-then-is_empty
returns-then-is_empty c =
    let types = c.args.types.now in let b = c.args.branches in let part = c.in_ok-part.part in
    split-made types (ByHead b) (wholes part) c.part_left.result c.part_left.ensures
    (last-split types b c.in-Some.head c.pop.new.self part c.in-Some.ensures (c.is_empty.ensures.0 c.if-is_empty.true) c.in_ok-part.ensures)

pub returns : goal.returns
returns c =
    let types = c.args.types.now in let b = c.args.branches in let part = c.in_ok-part-2.part in
    let others : Left = ByHead (record { ty = b.ty; behind = b.behind; heads = c.pop.new.self; groups = b.groups }) in
    split-made types (ByHead b) (others ∷ wholes part) c.branches_left.result c.branches_left.ensures
    (next-split types b c.in-Some.head c.pop.new.self part c.in-Some.ensures c.in_ok-part-2.ensures)
