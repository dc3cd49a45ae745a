use Rattle.std.proofs.Common.{◌≡◌, ◌+◌, ◌-◌}
use Rattle.rb_bytes.specs.Memory.{write_le}
use Rattle.rb_raw.proofs.bytes.RawBytes.write_word.Given as goal

-- what is left to write gives what all of it gives
abbrev pub invariant-loop-i : goal.invariant-loop-i
invariant-loop-i l = write_le l.fn.self l.count l.at l.word ≡ write_le l.self (l.count - l.i) (l.at + l.i) l.rest
