-- Calls of a source or a sink in memory, which are numbered from 0 and fail by their numbers.
use Rattle.std.specs.Prelude.{ℕ, ◌+◌, ◌-◌, ◌^◌, ◌==◌, min, List, Bool}
use Rattle.std.specs.List.{list_any}

-- whether the call of that number fails: it is in the list of those that fail
abbrev pub fails_at : List ℕ → ℕ → Bool
fails_at fail call = list_any (λ n. n == call) fail

-- The number of the call after that one. It stands still at 2 ^ 128 - 1, far beyond every `u64`, so that no list of
-- these names it.
abbrev pub next_call : ℕ → ℕ
next_call call = min (call + 1) (2 ^ 128 - 1)
