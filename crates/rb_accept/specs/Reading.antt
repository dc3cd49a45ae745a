-- Reading a file with its limit: a step of an answer, with what follows it. What is due to a command is the answer
-- that the program owes to it. A source has files by their names. A reading is what it handed out of one file: the
-- name, the bytes, and whether their end was told or a read failed.
use Rattle.std.specs.Prelude.{◌≡◌, ◌≤◌, ◌+◌, ℕ, List, [], ◌∷◌, ◌++◌, ◌⊎◌, length, drop, Bool, IsTrue, Option, Some, None}
use Rattle.rb_core.specs.Limits.{most_file_bytes}
use Rattle.rb_edge.specs.Faults.{Rose}
use Rattle.rb_edge.specs.History.{Reading, going, ended, failed}
use Rattle.rb_edge.specs.Whole.{Begins}
use Rattle.rb_lines.specs.Answer.{Due, refusal}
use Rattle.rb_lines.specs.Lines.{read_fault_line, file_bytes_line}
use Rattle.rb_lines.specs.declared.status.Status.TheVariants.{Unread, Limit}

-- what is held under names: for each name its bytes, or nothing
abbrev pub HeldFiles : Type 0
HeldFiles = List ℕ → Option (List ℕ)

-- the most bytes that a file may have
abbrev pub file_limit : ℕ
file_limit = most_file_bytes

-- the most bytes that a code text may have
abbrev pub code_limit : ℕ
code_limit = 16777216

-- the most bytes that an image's text may have
abbrev pub image_limit : ℕ
image_limit = 16777216

-- the reading of a file that was read to its end
abbrev pub whole : List ℕ → List ℕ → Reading
whole name bytes = record { name = name; bytes = bytes; course = ended }

-- What is due where a file was not read to its end, and nothing was read after it: it is over the limit, of
-- which one byte further was read, and no more, so the count that is shown is one more than the limit; or
-- its opening or a read failed.
pub data IsUnread (name : List ℕ) (limit : ℕ) (readings : List Reading) (due : Due) : Type 0 where
  too_long : (bytes : List ℕ) → length bytes ≡ limit + 1
      → readings ≡ record { name = name; bytes = bytes; course = going } ∷ []
      → due ≡ refusal Limit (file_bytes_line (limit + 1) limit) → IsUnread name limit readings due
  not_read : (bytes : List ℕ) → readings ≡ record { name = name; bytes = bytes; course = failed } ∷ []
      → due ≡ refusal Unread read_fault_line → IsUnread name limit readings due

-- What is due where a file is read with its limit: it was not read to its end; or it is within the limit, and
-- `Then` follows, over its bytes and what is read after it.
pub data ReadsFile (name : List ℕ) (limit : ℕ) (Then : List ℕ → List Reading → Due → Type 0) (readings : List Reading)
    (due : Due) : Type 0 where
  unread : IsUnread name limit readings due → ReadsFile name limit Then readings due
  within : (bytes : List ℕ) (later : List Reading) → readings ≡ whole name bytes ∷ later → length bytes ≤ limit
      → Then bytes later due
      → ReadsFile name limit Then readings due

-- what is due where a file is read with its limit, and nothing is read after it; `Then` follows over its bytes
abbrev pub ReadsOne : List ℕ → ℕ → (List ℕ → Due → Type 0) → List Reading → Due → Type 0
ReadsOne name limit Then readings due =
    ReadsFile name limit (λ bytes later d. (later ≡ []) × Then bytes d) readings due

-- Sources -----------------------------------------------------------------------------------

-- a source before and after a call: whether it tells what it holds, that, what it handed out, and its count
-- of faults
pub record Source : Type 0 where
  pub tells : Bool
  pub held : HeldFiles
  pub old : List Reading
  pub new : List Reading
  pub before : ℕ
  pub now : ℕ

-- a source `old` before a call and `new` after it, by what the trait says of it: whether it tells what it holds,
-- that, what it handed out, and its count of faults
abbrev pub source_of : {S : Type 0} → (S → Bool) → (S → HeldFiles) → (S → List Reading) → (S → ℕ) → S → S → Source
source_of tells held readings faults old new = record {
  tells = tells old;
  held = held old;
  old = readings old;
  new = readings new;
  before = faults old;
  now = faults new;
}

-- what the source handed out in the call, without what it had handed out before
abbrev pub handed_out : Source → List Reading
handed_out source = drop (length source.old) source.new

-- A reading of a file with its limit: at most one byte over it was taken. Where the source tells, the bytes
-- are those that it holds, and all of them where their end was told. It failed only where a fault was counted
-- or nothing is held under the name.
pub record IsReading (source : Source) (name : List ℕ) (limit : ℕ) (r : Reading) : Type 0 where
  pub named : r.name ≡ name
  pub taken : length r.bytes ≤ limit + 1
  pub front : IsTrue source.tells → Begins (source.held name) r.bytes
  pub all : IsTrue source.tells → r.course ≡ ended → source.held name ≡ Some r.bytes
  pub cause : r.course ≡ failed → Rose source.before source.now ⊎ (IsTrue source.tells × (source.held name ≡ None))

-- Files with their limits are read in turn, each once at most, and nothing else is.
abbrev pub AreInTurn : Source → List (List ℕ × ℕ) → List Reading → Type 0
AreInTurn source files [] = Unit {0}
AreInTurn source [] (r ∷ rs) = ⊥
AreInTurn source ((name, limit) ∷ files) (r ∷ rs) = IsReading source name limit r × AreInTurn source files rs

-- In the call these files were read in turn, and what was handed out before stays.
pub record ReadsInTurn (files : List (List ℕ × ℕ)) (source : Source) : Type 0 where
  pub grew : source.new ≡ source.old ++ handed_out source
  pub in_turn : AreInTurn source files (handed_out source)

-- The file gave these bytes: they were handed out, and then their end was told. Nothing else was read.
abbrev pub Gave : Source → List ℕ → List ℕ → Type 0
Gave source file bytes = handed_out source ≡ whole file bytes ∷ []
