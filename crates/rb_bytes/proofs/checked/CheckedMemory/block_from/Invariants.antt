use Rattle.std.proofs.Common.{◌≡◌, ℕ, ◌<◌, ◌≤◌, map, None}
use Rattle.rb_bytes.specs.Memory.{byte_at}
use Rattle.rb_bytes.specs.Starts.{size_in}
use Rattle.rb_bytes.proofs.checked.CheckedMemory.block_from.Given as goal

-- no block begins at the addresses so far
abbrev pub invariant-loop-at : goal.invariant-loop-at
invariant-loop-at l = (a : ℕ) → l.address ≤ a → a < l.at → byte_at (map size_in l.self-inside.sizes.items) a ≡ None
