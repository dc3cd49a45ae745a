use Rattle.std.proofs.Common.{◌≡◌, ◌-◌, Bool, length}
use Rattle.rb_syntax.specs.declared.token.Token.{Token}
use Rattle.rb_syntax.specs.Tokens.{tokens}
use Rattle.rb_read.specs.inner.Combining.{Reader, many_of, with_all}
use Rattle.rb_read.specs.inner.Gives.{Reads, Tests}
use Rattle.rb_read.proofs.each.read_each.Given as goal

-- the parts so far and what is read of the rest are what is read of all
abbrev pub invariant-loop-turn : goal.invariant-loop-turn
invariant-loop-turn g l =
    (test : Token → Bool) (part : Reader g.row.T.Denot) → Tests test (goal.B-post g l.begins) → Reads part (goal.F-post g l.read)
    → with_all l.parts (many_of test part (l._turn-end - l._turn) (tokens l.rest))
    ≡ many_of test part (length (tokens l.placed)) (tokens l.placed)
