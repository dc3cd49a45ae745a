use Rattle.std.proofs.Common.{nat_le, rules, of_calls, arith}
use Rattle.std.proofs.lemmas.List.Sorted.{IsPartitionedBy-leb, IsPartitionPoint-from_clause}
use Rattle.rb_core.proofs.ScopeLemmas.{found-at_end, found-nowhere}
use Rattle.rb_core.proofs.scope.ordered_type.Goals.{else-end-gt0-via-then-end-gt0+else-binders-end, else-end-gt0-via-else-end-gt0}
use Rattle.rb_core.proofs.scope.ordered_type.Goals as goal

pub returns-then-binders-end : goal.returns-then-binders-end
returns-then-binders-end c =
    let point = IsPartitionPoint-from_clause (λ p. nat_le p.var c.args.var) c.args.binders.now c.partition_point-end.result
    c.partition_point-end.ensures.partitioned (IsPartitionedBy-leb (λ p. p.var) c.args.binders.now c.args.var c.requires)
    (λ a r f k. search (rules, of_calls)) in
    found-at_end c.args.var c.args.binders.now c.partition_point-end.result _ c.partition_point-end.ensures.bound c.requires point c.if-end-gt0.true c.if-binders-end.true

pub returns : goal.returns
returns c =
    let point = IsPartitionPoint-from_clause (λ p. nat_le p.var c.args.var) c.args.binders.now c.partition_point-end.result
    c.partition_point-end.ensures.partitioned (IsPartitionedBy-leb (λ p. p.var) c.args.binders.now c.args.var c.requires)
    (λ a r f k. search (rules, of_calls)) in
    found-nowhere c.args.var c.args.binders.now c.partition_point-end.result _ c.partition_point-end.ensures.bound c.requires point
    (λ some. elim c.else-end-gt0.branch [
      | else-end-gt0-via-then-end-gt0+else-binders-end w ↦ w.if-binders-end.false
      | else-end-gt0-via-else-end-gt0 w ↦ absurd (omega (arith, w.if-end-gt0.false, some))
    ])
