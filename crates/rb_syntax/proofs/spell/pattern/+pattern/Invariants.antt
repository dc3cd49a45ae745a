use Rattle.std.proofs.Common.{◌≡◌, ℕ, List, map, drop, reverse}
use Rattle.rb_syntax.specs.Written.{Written, tokens_in, each_behind}
use Rattle.rb_syntax.specs.Spelling.{pat_written, at_level, comma}
use Rattle.rb_syntax.proofs.spell.pattern.+pattern.Given as goal

-- the patterns from i on are written
abbrev pub invariant-put_subpats-loop-i : goal.invariant-put_subpats-loop-i
invariant-put_subpats-loop-i l = (level : ℕ) (rest : List Written) → reverse l.initial.out.items ≡ tokens_in rest
    → reverse l.out.items ≡ tokens_in (each_behind comma (at_level level (map pat_written (drop l.i l.others))) rest)
