-- What a source handed out, and what a sink said it took, since they were made. Names and texts are lists of bytes.
use Rattle.std.specs.Prelude.{ℕ, ◌==◌, nat_lt, ◌&&◌, List, [], ◌∷◌, ◌++◌, length, if◌then◌else◌}

-- how far the reading of a file has come
pub data Course : Type 0 where
  -- more bytes may follow
  going : Course
  -- its end was told
  ended : Course
  -- its opening or a read of it failed
  failed : Course

-- A file that was opened, or should have been: its name, the bytes that were handed out since, and how far
-- that came.
pub record Reading : Type 0 where
  pub name : List ℕ
  pub bytes : List ℕ
  pub course : Course

-- the reading of a file of that name as it is opened: no byte is handed out yet
abbrev pub fresh_reading : List ℕ → Reading
fresh_reading name = record { name = name; bytes = []; course = going }

-- the reading of a file of that name whose opening failed
abbrev pub missed_reading : List ℕ → Reading
missed_reading name = record { name = name; bytes = []; course = failed }

-- a reading after more bytes of it were handed out
abbrev pub longer_reading : List ℕ → Reading → Reading
longer_reading bytes r = record r { bytes = r.bytes ++ bytes }

-- a course after the end was told; what failed does not come to an end
abbrev pub course_at_end : Course → Course
course_at_end going = ended
course_at_end ended = ended
course_at_end failed = failed

-- a reading after its end was told; one that failed stays failed
abbrev pub reading_at_end : Reading → Reading
reading_at_end r = record r { course = course_at_end r.course }

-- a reading after a read of it failed: it keeps the bytes that were handed out, and has failed whatever it was before
abbrev pub broken_reading : Reading → Reading
broken_reading r = record r { course = failed }

-- readings of which the last goes on as `more` says, and the others stay; where there is none, nothing changes
abbrev pub on_last : (Reading → Reading) → List Reading → List Reading
on_last more [] = []
on_last more (r ∷ []) = more r ∷ []
on_last more (r ∷ s ∷ rs) = r ∷ on_last more (s ∷ rs)

-- A reading after a read gave these bytes into a buffer with so much room, in bytes: no bytes where there is room
-- tell the end, and else the bytes were handed out.
abbrev pub after_read : ℕ → List ℕ → Reading → Reading
after_read room bytes r = if (length bytes == 0) && nat_lt 0 room then reading_at_end r else longer_reading bytes r

-- what a sink said: the bytes that it took, and how many it had taken at each write that failed
pub record Account : Type 0 where
  pub said : List ℕ
  pub breaks : List ℕ

-- what a sink said before its first write: nothing was taken, and no write failed
abbrev pub no_account : Account
no_account = record { said = []; breaks = [] }

-- an account after the sink took these bytes
abbrev pub after_take : List ℕ → Account → Account
after_take bytes a = record a { said = a.said ++ bytes }

-- an account after a write failed: one break more, at the number of bytes taken until then
abbrev pub after_break : Account → Account
after_break a = record a { breaks = a.breaks ++ length a.said ∷ [] }
