use Rattle.std.proofs.Common.{◌≡◌, ℕ, List, map, drop, reverse}
use Rattle.rb_syntax.specs.Written.{Written, tokens_in, each_behind}
use Rattle.rb_syntax.specs.Spelling.{below_written, at_level, comma}
use Rattle.rb_syntax.proofs.spell.split.+provenance.Given as goal

-- the parts from i on are written
abbrev pub invariant-put_parts_below-loop-i : goal.invariant-put_parts_below-loop-i
invariant-put_parts_below-loop-i l = (level : ℕ) (rest : List Written) → reverse l.initial.out.items ≡ tokens_in rest
    → reverse l.out.items ≡ tokens_in (each_behind comma (at_level level (map below_written (drop l.i l.others))) rest)
