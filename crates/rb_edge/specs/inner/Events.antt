-- How a log keeps what a source handed out, and what a sink said. An event of a log is a number, its kind, and bytes.
use Rattle.std.specs.Prelude.{ℕ, ◌==◌, List, [], ◌∷◌, ◌++◌, if◌then◌else◌}
use Rattle.rb_edge.specs.History.{Reading, Account, fresh_reading, missed_reading, longer_reading, reading_at_end, broken_reading, on_last, after_take, after_break}

-- The readings of a source after one event more, by its kind: 0, a name was opened; 1, the opening of a name failed;
-- 2, bytes were handed out; 3, the end was told; 4 and above, a read failed. The name or the bytes are the event's.
abbrev pub reading_event : List Reading → ℕ × List ℕ → List Reading
reading_event rs (kind, bytes) =
    if kind == 0 then rs ++ fresh_reading bytes ∷ [] else
    if kind == 1 then rs ++ missed_reading bytes ∷ [] else
    if kind == 2 then on_last (longer_reading bytes) rs else
    if kind == 3 then on_last reading_at_end rs else on_last broken_reading rs

-- the readings of a source after some events more, in their order
abbrev pub readings_after : List Reading → List (ℕ × List ℕ) → List Reading
readings_after rs [] = rs
readings_after rs (e ∷ es) = readings_after (reading_event rs e) es

-- What a sink said after one event more, by its kind: 0, the event's bytes were taken; 1 and above, a write failed.
abbrev pub account_event : Account → ℕ × List ℕ → Account
account_event a (kind, bytes) = if kind == 0 then after_take bytes a else after_break a

-- what a sink said after some events more, in their order
abbrev pub account_after : Account → List (ℕ × List ℕ) → Account
account_after a [] = a
account_after a (e ∷ es) = account_after (account_event a e) es
