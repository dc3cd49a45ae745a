use Rattle.std.proofs.Common.{◌≡◌, ◌++◌, map, drop}
use Rattle.rb_rel.specs.Switches.{heads_below, heads_of}
use Rattle.rb_fetch.specs.inner.Heads.{head_under, shown_heads}
use Rattle.rb_fetch.proofs.heads.+heads.Given as goal

abbrev pub invariant-add_heads_below-loop-i : goal.invariant-add_heads_below-loop-i
invariant-add_heads_below-loop-i l =
    shown_heads l.out ++ map (head_under l.path) (heads_below (map heads_of (drop l.i l.pats)) l.i)
    ≡ shown_heads l.fn.out ++ map (head_under l.path) (heads_below (map heads_of l.pats) 0)
