-- Lists of matches that are exhaustive, and two truths that hold together.
use Rattle.std.proofs.Common.{◌≡◌, List, [], ◌∷◌, ◌++◌, Bool, true, false, ◌&&◌}
use Rattle.rb_core.specs.declared.types.DataDecl.{DataDecl}
use Rattle.rb_core.specs.declared.site.Site.{Site}
use Rattle.rb_core.specs.Coverage.{AreExhaustive}

pub exhaustive-append : (types : List DataDecl) (a b : List Site) → AreExhaustive types (a ++ b) → AreExhaustive types a × AreExhaustive types b
exhaustive-append types [] b h = (tt, h)
exhaustive-append types (s ∷ a) b h = let rest = exhaustive-append types a b h.1 in ((h.0, rest.0), rest.1)

pub and_true : (a b : Bool) → a ≡ true → b ≡ true → (a && b) ≡ true
and_true true b e e' = e'
and_true false b e e' = cc
