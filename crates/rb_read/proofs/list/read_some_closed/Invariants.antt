use Rattle.std.proofs.Common.{◌≡◌, ◌-◌, length}
use Rattle.rb_syntax.specs.Tokens.{tokens}
use Rattle.rb_read.specs.inner.Combining.{Reader, some_of, with_all}
use Rattle.rb_read.specs.inner.Gives.{Reads}
use Rattle.rb_read.proofs.list.read_some_closed.Given as goal

-- the parts so far and what is read of the rest are what is read of all
abbrev pub invariant-loop-turn : goal.invariant-loop-turn
invariant-loop-turn g l =
    (part : Reader g.row.T.Denot) → Reads part (goal.F-post g l.read)
    → with_all l.parts (some_of part l.separator l.close (l._turn-end - l._turn) (tokens l.rest))
    ≡ some_of part l.separator l.close (length (tokens l.placed)) (tokens l.placed)
