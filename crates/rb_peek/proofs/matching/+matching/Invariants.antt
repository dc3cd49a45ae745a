use Rattle.std.proofs.Common.{◌≡◌, ◌+◌, ◌*◌, map, drop}
use Rattle.rb_peek.specs.Rebuilds.{match_fields, matches}
use Rattle.rb_peek.specs.inner.Standing.{position_shown}
use Rattle.rb_peek.proofs.MatchLemmas.{weight, weights}
use Rattle.rb_peek.proofs.matching.+matching.Given as goal

abbrev pub invariant-match_fields-loop-i : goal.invariant-match_fields-loop-i
invariant-match_fields-loop-i l =
    let types = l.agreed.covered.program.types in
    let gos = matches types l.agreed.layouts l.image.blocks in
    match_fields types (map gos l.pats) (position_shown l.view) 0 ≡ match_fields types (map gos (drop l.i l.pats)) (position_shown l.view) l.i

abbrev pub decreases-matches : goal.decreases-matches
decreases-matches l = 4 * weight l.prov.now

abbrev pub decreases-match_field : goal.decreases-match_field
decreases-match_field l = 4 * weight l.pat.now + 1

abbrev pub decreases-match_fields : goal.decreases-match_fields
decreases-match_fields l = 4 * weights l.pats.now + 2

abbrev pub decreases-match_con : goal.decreases-match_con
decreases-match_con l = 4 * weights l.pats.now + 3
