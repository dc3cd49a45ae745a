-- A source in memory: what it is between two calls, and what each call does.
use Rattle.std.specs.Prelude.{ℕ, min, List, [], ◌∷◌, ◌++◌, length, take, drop, find, Option, Some, None, Result, Ok, Err, if◌then◌else◌, slice_get}
use Rattle.std.specs.Option.{option_map}
use Rattle.std.specs.Str.{bytes_eq}
use Rattle.rb_edge.specs.declared.named.NamedBytes.{NamedBytes}
use Rattle.rb_edge.specs.declared.source.Failed.{Failed}
use Rattle.rb_edge.specs.Calls.{fails_at, next_call}
use Rattle.rb_edge.specs.Faults.{one_more}
use Rattle.rb_edge.specs.History as history
use Rattle.rb_edge.specs.History.{Reading, fresh_reading, missed_reading, broken_reading, on_last}

-- a source in memory between two calls
pub record SourceState : Type 0 where
  -- the files, of which the first of a name is held under it
  pub files : List NamedBytes
  -- the most bytes that one read gives
  pub step : ℕ
  -- the numbers of the calls that fail
  pub fail : List ℕ
  -- the number of the next call
  pub calls : ℕ
  -- the bytes left of the opened file; none where no file is open
  pub left : List ℕ
  -- what it handed out: the readings since it was made, in their order
  pub readings : List Reading
  -- how many faults there were since it was made
  pub faults : ℕ

-- a source that holds those files, before its first call: a read gives at most `step` bytes, and the calls whose
-- numbers are in `fail` fail
abbrev pub new_source : List NamedBytes → ℕ → List ℕ → SourceState
new_source files step fail =
    record { files = files; step = step; fail = fail; calls = 0; left = []; readings = []; faults = 0 }

-- the bytes of a file; none where there is no file
abbrev pub bytes_in : Option NamedBytes → List ℕ
bytes_in None = []
bytes_in (Some file) = file.bytes

-- the bytes of the opened file, by its index among the files; none where no file is open, or none has that index
abbrev pub open_file_bytes : List NamedBytes → Option ℕ → List ℕ
open_file_bytes files None = []
open_file_bytes files (Some i) = bytes_in (slice_get files i)

-- the bytes of the first file of that name; None where no file has it
abbrev pub file_bytes : List NamedBytes → List ℕ → Option (List ℕ)
file_bytes files name = option_map (λ f. f.bytes) (find (λ f. bytes_eq f.name name) files)

-- a source after a call that was no fault, with these bytes left of the opened file and these readings
abbrev pub after_service : SourceState → List ℕ → List Reading → SourceState
after_service s left readings = record s { calls = next_call s.calls; left = left; readings = readings }

-- a source after a call that was a fault, with these bytes left of the opened file and these readings
abbrev pub after_fault : SourceState → List ℕ → List Reading → SourceState
after_fault s left readings = record (after_service s left readings) { faults = one_more s.faults }

-- What opening a name answers, and the source after it, by the bytes that are held under the name: where nothing is
-- held it fails, which is no fault; else where the call's number says so it fails, which is one. After both no file
-- is open, and one reading more has failed. Else all of those bytes are left, and one reading more is begun.
abbrev pub opening_of : SourceState → List ℕ → Option (List ℕ) → Result (Unit {0}) Failed × SourceState
opening_of s name None = (Err (record {}), after_service s [] (s.readings ++ missed_reading name ∷ []))
opening_of s name (Some bytes) =
    if fails_at s.fail s.calls then (Err (record {}), after_fault s [] (s.readings ++ missed_reading name ∷ []))
    else (Ok tt, after_service s bytes (s.readings ++ fresh_reading name ∷ []))

-- what opening a name answers, and the source after it
abbrev pub after_open : SourceState → List ℕ → Result (Unit {0}) Failed × SourceState
after_open s name = opening_of s name (file_bytes s.files name)

-- how many bytes a read into a buffer of `room` bytes gives, where it doesn't fail: as many as there is room for, one
-- read gives and are left, so 0 where none is left
abbrev pub read_count : SourceState → ℕ → ℕ
read_count s room = min (min room s.step) (length s.left)

-- What a read into a buffer answers, and the buffer and the source after it. Where the call's number says so it
-- fails, which is a fault, and no byte is lost; else the answer is how many bytes it gives, which stand at the front
-- of the buffer, and what is behind them there stays. The last reading, if there is one, tells either.
abbrev pub after_read_into : SourceState → List ℕ → Result ℕ Failed × List ℕ × SourceState
after_read_into s buffer =
    let n = read_count s (length buffer) in
    let readings = on_last (history.after_read (length buffer) (take n s.left)) s.readings in
    if fails_at s.fail s.calls then (Err (record {}), buffer, after_fault s s.left (on_last broken_reading s.readings))
    else (Ok n, take n s.left ++ drop n buffer, after_service s (drop n s.left) readings)
