use Rattle.std.proofs.Common.{◌≡◌, drop, map}
use Rattle.std.specs.List.{list_all}
use Rattle.rb_sound.specs.Words.{body_has_words}
use Rattle.rb_sound.proofs.numbers.see_functions.Given as goal

abbrev pub invariant-loop-fun : goal.invariant-loop-fun
invariant-loop-fun l = list_all (λ b. b) (map body_has_words (drop l.fun-index l.funs)) ≡ list_all (λ b. b) (map body_has_words l.funs)
