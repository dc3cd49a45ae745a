use Rattle.std.proofs.Common.{◌≡◌, map, drop, length}
use Rattle.rb_core.specs.Matching.{matches_of, all_pass}
use Rattle.rb_core.specs.Values.{subs}
use Rattle.rb_values.specs.Nodes.{at}
use Rattle.rb_coding.proofs.leaf.+matching.Given as goal

abbrev pub invariant-all_match-loop-i : goal.invariant-all_match-loop-i
invariant-all_match-loop-i l =
    l.count ≡ length (subs (at l.nodes l.node))
    → all_pass (map matches_of (drop l.i l.pats)) (drop l.i (subs (at l.nodes l.node))) ≡ all_pass (map matches_of l.pats) (subs (at l.nodes l.node))
