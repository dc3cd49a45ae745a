use Rattle.std.proofs.Common.{◌≡◌, ◌++◌, map, drop}
use Rattle.rb_agree.specs.Written.{shown_part}
use Rattle.rb_agree.specs.inner.Around.{written_part}
use Rattle.rb_agree.proofs.items.parts_of.Given as goal

abbrev pub invariant-loop-part : goal.invariant-loop-part
invariant-loop-part l = map shown_part l.written ++ map written_part (drop l.part-index l.parts) ≡ map written_part l.parts
