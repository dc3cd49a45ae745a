use Rattle.std.proofs.Common.{◌≡◌, ◌++◌, length}
use Rattle.rb_matrix.specs.Specialize.{special}
use Rattle.rb_matrix.specs.inner.Groups.{merge_of, rows_at}
use Rattle.rb_matrix.proofs.rows.special_numbered.Given as goal

abbrev pub invariant-loop-number : goal.invariant-loop-number
invariant-loop-number l =
    l.kept ++ special l.head l.fields (rows_at l.rows (merge_of l.numbers.ones.now l.numbers.others.now))
    ≡ special l.head l.fields (rows_at l.rows (merge_of l.fn.numbers.ones.now l.fn.numbers.others.now))

abbrev pub decreases-loop-number : goal.decreases-loop-number
decreases-loop-number l = length (merge_of l.numbers.ones.now l.numbers.others.now)
