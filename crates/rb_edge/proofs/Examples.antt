-- Worked examples of the definitions, which the checker computes.
use Rattle.std.proofs.Common.{◌≡◌, ℕ, List, [], ◌∷◌, ◌++◌, Some, None, Ok, Err, refl}
use Rattle.rb_edge.specs.declared.named.NamedBytes.{NamedBytes}
use Rattle.rb_edge.specs.Faults.{one_more}
use Rattle.rb_edge.specs.History.{Reading, Course, going, ended, failed, fresh_reading, missed_reading, reading_at_end, broken_reading}
use Rattle.rb_edge.specs.MemSource.{SourceState, file_bytes, after_open, after_read_into}
use Rattle.rb_edge.specs.MemSink.{SinkState, after_write}

-- two files of one name, 7, and one of the name 8
abbrev three : List NamedBytes
three =
    record { name = 7 ∷ []; bytes = 1 ∷ 2 ∷ 3 ∷ [] } ∷ record { name = 7 ∷ []; bytes = 4 ∷ [] } ∷ record { name = 8 ∷ []; bytes = [] } ∷ []

first-held : file_bytes three (7 ∷ []) ≡ Some (1 ∷ 2 ∷ 3 ∷ [])
first-held = refl

none-held : file_bytes three (9 ∷ []) ≡ None
none-held = refl

-- a source before a call, where call 5 fails
abbrev before : ℕ → List ℕ → List Reading → SourceState
before calls left readings = record { files = three; step = 2; fail = 5 ∷ []; calls = calls; left = left; readings = readings; faults = 0 }

-- the file 7, as far as it was read
abbrev seven : List ℕ → Course → List Reading
seven bytes course = record { name = 7 ∷ []; bytes = bytes; course = course } ∷ []

opens : after_open (before 0 [] []) (7 ∷ []) ≡ (Ok tt, before 1 (1 ∷ 2 ∷ 3 ∷ []) (seven [] going))
opens = refl

-- a failing call leaves nothing, and is counted
fails-to-open : after_open (before 5 (9 ∷ []) []) (7 ∷ []) ≡ (Err (record {}), record (before 6 [] (seven [] failed)) { faults = 1 })
fails-to-open = refl

-- a name that isn't held is no fault
not-held : after_open (before 5 (1 ∷ []) (seven [] going)) (9 ∷ []) ≡ (Err (record {}), before 6 [] (seven [] going ++ missed_reading (9 ∷ []) ∷ []))
not-held = refl

-- a read gives no more than the step, and what stands behind in the buffer stays
reads : after_read_into (before 1 (1 ∷ 2 ∷ 3 ∷ []) (seven (0 ∷ []) going)) (0 ∷ 0 ∷ 0 ∷ [])
    ≡ (Ok 2, 1 ∷ 2 ∷ 0 ∷ [], before 2 (3 ∷ []) (seven (0 ∷ 1 ∷ 2 ∷ []) going))
reads = refl

-- no bytes tell the end, where there is room for one
at-end : after_read_into (before 1 [] (seven (3 ∷ []) going)) (0 ∷ []) ≡ (Ok 0, 0 ∷ [], before 2 [] (seven (3 ∷ []) ended))
at-end = refl

no-room-to-read : after_read_into (before 1 (1 ∷ []) (seven [] going)) [] ≡ (Ok 0, [], before 2 (1 ∷ []) (seven [] going))
no-room-to-read = refl

-- what failed does not come to an end
fails-to-read : after_read_into (before 5 [] (seven [] going)) (0 ∷ []) ≡ (Err (record {}), 0 ∷ [], record (before 6 [] (seven [] failed)) { faults = 1 })
fails-to-read = refl

stays-failed : reading_at_end (broken_reading (fresh_reading (7 ∷ []))) ≡ missed_reading (7 ∷ [])
stays-failed = refl

-- a sink with room for four bytes, where call 5 fails, which said what it took
abbrev sink : ℕ → List ℕ → ℕ → SinkState
sink calls taken faults =
    record { room = 4; step = 3; fail = 5 ∷ []; calls = calls; taken = taken; account = record { said = taken; breaks = [] }; faults = faults }

takes-step : after_write (sink 0 [] 0) (1 ∷ 2 ∷ 3 ∷ 4 ∷ []) ≡ (Ok 3, sink 1 (1 ∷ 2 ∷ 3 ∷ []) 0)
takes-step = refl

takes-room : after_write (sink 1 (1 ∷ 2 ∷ 3 ∷ []) 0) (4 ∷ 5 ∷ []) ≡ (Ok 1, sink 2 (1 ∷ 2 ∷ 3 ∷ 4 ∷ []) 0)
takes-room = refl

no-room : after_write (sink 2 (1 ∷ 2 ∷ 3 ∷ 4 ∷ []) 0) (5 ∷ []) ≡ (Err (record {}), record (sink 3 (1 ∷ 2 ∷ 3 ∷ 4 ∷ []) 1) { account = record { said = 1 ∷ 2 ∷ 3 ∷ 4 ∷ []; breaks = 4 ∷ [] } })
no-room = refl

-- an empty piece needs no room
nothing-to-take : after_write (sink 2 (1 ∷ 2 ∷ 3 ∷ 4 ∷ []) 0) [] ≡ (Ok 0, sink 3 (1 ∷ 2 ∷ 3 ∷ 4 ∷ []) 0)
nothing-to-take = refl

stands-still : one_more 18446744073709551615 ≡ 18446744073709551615
stands-still = refl
