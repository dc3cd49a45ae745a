use Rattle.std.proofs.Common.{◌≡◌, reverse, take}
use Rattle.rb_names.specs.Tables.{meaning}
use Rattle.rb_names.specs.inner.Frames.{scope_of}
use Rattle.rb_names.proofs.scope.innermost.Given as goal

-- no frame further in binds the name
abbrev pub invariant-loop-i : goal.invariant-loop-i
invariant-loop-i l = meaning (scope_of (reverse (take l.i l.frames))) l.name ≡ meaning (scope_of (reverse l.frames)) l.name
