use Rattle.std.proofs.Common.{◌≡◌, ◌++◌, drop}
use Rattle.rb_image.specs.Roots.{kept_from}
use Rattle.rb_image.proofs.roots.root_place.Given as goal

abbrev pub invariant-loop-i : goal.invariant-loop-i
invariant-loop-i l = l.kept.items ++ kept_from l.i (drop l.i l.words) ≡ kept_from 0 l.words
