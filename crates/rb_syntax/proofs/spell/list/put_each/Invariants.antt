use Rattle.std.proofs.Common.{◌≡◌, List, map, drop, reverse}
use Rattle.rb_syntax.specs.Written.{Written, tokens_in, each}
use Rattle.rb_syntax.proofs.spell.list.put_each.Given as goal

-- the parts from i on are written
abbrev pub invariant-loop-i : goal.invariant-loop-i
invariant-loop-i g l = (rest : List Written) → reverse l.initial.out.items ≡ tokens_in rest
    → reverse l.out.items ≡ tokens_in (each (map g.T.Spell.writing (drop l.i l.parts)) rest)
