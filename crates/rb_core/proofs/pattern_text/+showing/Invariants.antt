use Rattle.std.proofs.Common.{◌≡◌, ◌++◌, take, map}
use Rattle.rb_core.specs.Texts.{opening_text, pattern_text}
use Rattle.rb_core.proofs.pattern_text.+showing.Given as goal

abbrev pub invariant-push_fields-loop-i : goal.invariant-push_fields-loop-i
invariant-push_fields-loop-i l = l.text.items ≡ l.initial.text.items ++ opening_text (map (pattern_text l.types) (take l.i l.pats))
