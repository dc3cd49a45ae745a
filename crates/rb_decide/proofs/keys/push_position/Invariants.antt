use Rattle.std.proofs.Common.{◌≡◌, ◌++◌, take}
use Rattle.rb_decide.proofs.keys.push_position.Given as goal

abbrev pub invariant-loop-field : goal.invariant-loop-field
invariant-loop-field l = l.key.items ≡ l.initial.key.items ++ take l.field-index l.position
