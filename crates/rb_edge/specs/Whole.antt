-- Whole files and whole texts, over a source or a sink of any type.
--
-- A reading is a file that was opened, or should have been: its name, the bytes that were handed out since, and its
-- course, which says how far that came. A limit is a number of bytes.
use Rattle.std.specs.Prelude.{◌≡◌, ◌≤◌, ◌<◌, ◌+◌, leb, ℕ, List, [], ◌∷◌, ◌++◌, length, take, Bool, IsTrue, Option, Some, None, Result, IfOk, IfErr, if◌then◌else◌}
use Rattle.rb_edge.specs.History.{Reading, Course, going, ended, failed, Account, after_take, after_break}
use Rattle.rb_edge.specs.declared.whole.SourceFault.{SourceFault}
use Rattle.rb_edge.specs.declared.whole.SourceFault.TheVariants.{Failed, Memory}

-- what is held under a name begins with these bytes; where nothing is held, there is none of them
abbrev pub Begins : Option (List ℕ) → List ℕ → Type 0
Begins None bytes = bytes ≡ []
Begins (Some whole) bytes = (rest : List ℕ) × (whole ≡ bytes ++ rest)

-- the reading of a file of which these bytes were read: to its end where they are within the limit, and else no
-- further
abbrev pub read_to : ℕ → List ℕ → List ℕ → Reading
read_to limit name bytes =
    record { name = name; bytes = bytes; course = if leb (length bytes) limit then ended else going }

-- the course of a file that was not read because of this fault: for want of memory more bytes may follow
abbrev pub course_by : SourceFault → Course
course_by Failed = failed
course_by Memory = going

-- Between the sources `old` and `new` the file of that name was opened once, or failed to be, and nothing else was;
-- at most one byte over the limit was taken. `result` has the bytes that were handed out, or why there is none. Where
-- the source tells its bytes, those that were handed out are the first of those that it holds under the name.
pub record ReadsOnce {S : Type 0} (tells : S → Bool) (held : S → List ℕ → Option (List ℕ))
    (readings : S → List Reading) (old new : S)
    (name : List ℕ) (limit : ℕ) (result : Result (List ℕ) SourceFault) : Type 0 where
  pub reading : Reading
  pub one_more : readings new ≡ readings old ++ reading ∷ []
  pub named : reading.name ≡ name
  pub within : length reading.bytes ≤ limit + 1
  pub held_so : IsTrue (tells old) → Begins (held old name) reading.bytes
  pub given : IfOk result (λ bytes. reading ≡ read_to limit name bytes)
  pub stopped : IfErr result (λ fault. reading.course ≡ course_by fault)

-- Some bytes were written until a write failed. A front of them, which is not all, was taken, and the write that
-- failed was the last: `old` and `new` are what the sink had taken before and after, where it tells that, and
-- `before` and `after` what it said.
pub record TakesFront (tells : Bool) (bytes old new : List ℕ) (before after : Account) : Type 0 where
  pub count : ℕ
  pub short : count < length bytes
  pub taken : IsTrue tells → new ≡ old ++ take count bytes
  pub broke : after ≡ after_break (after_take (take count bytes) before)
