-- A sink in memory: what it is between two calls, and what a write does.
use Rattle.std.specs.Prelude.{ℕ, ◌-◌, ◌==◌, nat_lt, ◌&&◌, ◌||◌, min, List, [], ◌++◌, length, take, Bool, Result, Ok, Err, if◌then◌else◌}
use Rattle.rb_edge.specs.declared.source.Failed.{Failed}
use Rattle.rb_edge.specs.Faults.{one_more}
use Rattle.rb_edge.specs.History.{Account, no_account, after_take, after_break}
use Rattle.rb_edge.specs.Calls.{fails_at, next_call}

-- a sink in memory between two calls
pub record SinkState : Type 0 where
  -- the most bytes that it takes in all
  pub room : ℕ
  -- the most bytes that one write takes
  pub step : ℕ
  -- the numbers of the calls that fail
  pub fail : List ℕ
  -- the number of the next call
  pub calls : ℕ
  -- the bytes taken
  pub taken : List ℕ
  -- what it said: the bytes that it took, and where a write failed
  pub account : Account
  -- how many faults there were since it was made
  pub faults : ℕ

-- a sink before its first call: it takes at most `room` bytes in all and `step` at once, and the calls whose numbers
-- are in `fail` fail
abbrev pub new_sink : ℕ → ℕ → List ℕ → SinkState
new_sink room step fail =
    record { room = room; step = step; fail = fail; calls = 0; taken = []; account = no_account; faults = 0 }

-- how many bytes a sink can still take; 0 where its room is used up
abbrev pub room_left : SinkState → ℕ
room_left s = s.room - length s.taken

-- whether the next write, of `len` bytes, fails: its number says so, or there are some and no room is left
abbrev pub write_fails : SinkState → ℕ → Bool
write_fails s len = fails_at s.fail s.calls || (nat_lt 0 len && (room_left s == 0))

-- how many bytes a write of `len` bytes takes, where it doesn't fail: as many as there are, one write takes and there
-- is room for
abbrev pub write_count : SinkState → ℕ → ℕ
write_count s len = min (min len s.step) (room_left s)

-- What a write of some bytes answers, and the sink after it. Where it fails, nothing is taken, and there is one fault
-- more; else the answer is how many bytes from their front were taken. What the sink said tells either, and
-- the call is counted in both.
abbrev pub after_write : SinkState → List ℕ → Result ℕ Failed × SinkState
after_write s bytes =
    let n = write_count s (length bytes) in
    if write_fails s (length bytes)
    then (
      Err (record {}),
      record s {
        calls = next_call s.calls;
        account = after_break s.account;
        faults = one_more s.faults;
      },
    )
    else (
      Ok n,
      record s {
        calls = next_call s.calls;
        taken = s.taken ++ take n bytes;
        account = after_take (take n bytes) s.account;
      },
    )
