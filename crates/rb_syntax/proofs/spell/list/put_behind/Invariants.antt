use Rattle.std.proofs.Common.{◌≡◌, List, map, drop, reverse}
use Rattle.rb_syntax.specs.declared.token.Token.TheVariants.{Symbol}
use Rattle.rb_syntax.specs.Written.{Written, tokens_in, each_behind}
use Rattle.rb_syntax.proofs.spell.list.put_behind.Given as goal

-- the parts from i on are written
abbrev pub invariant-loop-i : goal.invariant-loop-i
invariant-loop-i g l = (rest : List Written) → reverse l.initial.out.items ≡ tokens_in rest
    → reverse l.out.items ≡ tokens_in (each_behind (Symbol l.separator) (map g.T.Spell.writing (drop l.i l.parts)) rest)
