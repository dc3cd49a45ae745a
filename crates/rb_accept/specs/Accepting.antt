-- Files that are accepted, and why others are refused. What is due to a file is the answer that the program owes to
-- it: a status with a line, where it is refused. `placed` are the tokens of a file with their bytes, `size` is how
-- many bytes it has, `t` is the number of a token or of a type, and `ts` are the types of the program. A derived
-- layout is one that is left to the compiler.
use Rattle.std.specs.Prelude.{◌≡◌, ◌≢◌, ℕ, List, length, codes, Option, Some, None, Ok, Err}
use Rattle.rb_auto.specs.declared.fault.AutoFault.{AutoFault}
use Rattle.rb_auto.specs.declared.fault.AutoFault.TheVariants as auto
use Rattle.rb_check.specs.Covering.{IsCoverFault}
use Rattle.rb_check.specs.declared.coverage.CoverFault.TheVariants.{Missing}
use Rattle.rb_core.specs.Coverage.{AreExhaustive, sites_of}
use Rattle.rb_core.specs.Limits.{most_levels}
use Rattle.rb_core.specs.TypedPrograms.{IsTyped, IsFirstFault}
use Rattle.rb_core.specs.declared.pattern.Pat.{Pat}
use Rattle.rb_core.specs.declared.program.Program.{Program}
use Rattle.rb_core.specs.declared.types.DataDecl.{DataDecl}
use Rattle.rb_core.specs.declared.typing.TypeFault.{TypeFault}
use Rattle.rb_core.specs.declared.typing.TypeFault.TheVariants as types
use Rattle.rb_layout.specs.Agreement.{Agrees}
use Rattle.rb_layout.specs.Flattening.{flat_layouts}
use Rattle.rb_layout.specs.Spots.{IsRefusedBy}
use Rattle.rb_layout.specs.declared.evidence.Refused.{Refused as Disagreed}
use Rattle.rb_lines.specs.Places.{byte_of}
use Rattle.rb_lines.specs.Answer.{Due, refusal}
use Rattle.rb_lines.specs.Lines.{named_line, no_memory_line}
use Rattle.rb_lines.specs.declared.status.Status.TheVariants as status
use Rattle.rb_lines.specs.FileLines.{at_byte, limit_line, nesting_line, unknown_line, twice_line, no_main_line, empty_line, mismatch_line, arity_line, missing_line, recursive_line, wide_line}
use Rattle.rb_names.specs.Completing.{IsCompleted}
use Rattle.rb_names.specs.Programs.{program_of}
use Rattle.rb_names.specs.declared.complete.Completed.{Completed}
use Rattle.rb_names.specs.declared.fault.NameFault.{NameFault}
use Rattle.rb_names.specs.declared.fault.NameFault.TheVariants as names
use Rattle.rb_read.specs.Files.{IsFileAnswer}
use Rattle.rb_read.specs.declared.fault.ReadFault.{ReadFault}
use Rattle.rb_read.specs.declared.fault.ReadFault.TheVariants as reading
use Rattle.rb_show.specs.Lines.{line}
use Rattle.rb_show.specs.Refusals.{refusal_text}
use Rattle.rb_syntax.specs.Cutting.{HasTokens, HasBadByte, HasWideNumber}
use Rattle.rb_syntax.specs.Tokens.{tokens}
use Rattle.rb_syntax.specs.declared.lex.LexFault.{LexFault}
use Rattle.rb_syntax.specs.declared.lex.LexFault.TheVariants as lexing
use Rattle.rb_syntax.specs.declared.token.Placed.{Placed}
use Rattle.rb_syntax.specs.declared.tree.FileTree.{FileTree}

-- Accepted files ----------------------------------------------------------------------------

-- the bytes are cut into these tokens, and the tokens are this file, within its limits
pub record FileIsRead (bytes : List ℕ) (placed : List Placed) (file : FileTree) : Type 0 where
  pub cut : HasTokens bytes placed
  pub tree : IsFileAnswer (tokens placed) (Ok file)

-- the bytes are a file of these tokens, and `c` is its program with the layouts that are left to the compiler, and
-- the first of them that is refused, if one is
pub record IsNamedWith (bytes : List ℕ) (placed : List Placed) (c : Completed) : Type 0 where
  pub file : FileTree
  pub read : FileIsRead bytes placed file
  pub written : Program
  pub named : program_of file ≡ Ok written
  pub completed : IsCompleted file written c

-- a program with its derived layouts, and the fault of the first of them that is refused, if there is one
abbrev pub completed_as : Program → Option AutoFault → Completed
completed_as p refused = record { program = p; refused = refused }

-- the bytes are a file of these tokens with this program, and no layout that is left to the compiler is refused
abbrev pub IsNamed : List ℕ → List Placed → Program → Type 0
IsNamed bytes placed p = IsNamedWith bytes placed (completed_as p None)

-- the bytes are a file of these tokens with this program, whether a layout left to the compiler is refused or not
abbrev pub IsProgramOf : List ℕ → List Placed → Program → Type 0
IsProgramOf bytes placed p = (refused : Option AutoFault) × IsNamedWith bytes placed (completed_as p refused)

-- the bytes are a file with this program, no derived layout is refused, the program is typed, each of its matches is
-- exhaustive, and its layouts agree
pub record IsAccepted (bytes : List ℕ) (p : Program) : Type 0 where
  pub placed : List Placed
  pub named : IsNamed bytes placed p
  pub typed : IsTyped p
  pub exhaustive : AreExhaustive p.types (sites_of p)
  pub agrees : Agrees p

-- Refused files -----------------------------------------------------------------------------

-- why the bytes are no tokens: a bad byte, or a number that is too wide; never want of memory
abbrev pub IsUncut : List ℕ → LexFault → Type 0
IsUncut bytes (lexing.BadByte at) = HasBadByte bytes at
IsUncut bytes (lexing.NumberTooWide at) = HasWideNumber bytes at
IsUncut bytes lexing.Memory = ⊥

-- what is due where the bytes are no tokens
abbrev pub lex_due : LexFault → Due
lex_due (lexing.BadByte at) = refusal status.Syntax (at_byte (codes "bad byte") at)
lex_due (lexing.NumberTooWide at) = refusal status.Syntax (at_byte (codes "number over 64 bits") at)
lex_due lexing.Memory = refusal status.NoMemory no_memory_line

-- what is due where the tokens are no file within its limits, in a file of so many bytes
abbrev pub read_due : List Placed → ℕ → ReadFault → Due
read_due placed size (reading.TooDeep t) =
    refusal status.Limit (nesting_line most_levels (byte_of placed size t))
read_due placed size (reading.Syntax t) = refusal status.Syntax (at_byte (codes "syntax") (byte_of placed size t))
read_due placed size (reading.Limit q count) = refusal status.Limit (limit_line q count)
read_due placed size reading.Memory = refusal status.NoMemory no_memory_line

-- what is due where a name is defined twice or stands for nothing, or there is no `main`, in a file of these tokens
-- and so many bytes
abbrev pub name_due : List Placed → ℕ → NameFault → Due
name_due placed size (names.Twice name t) = refusal status.Meaning (twice_line name (byte_of placed size t))
name_due placed size (names.Unknown name t) = refusal status.Meaning (unknown_line name (byte_of placed size t))
name_due placed size names.NoMain = refusal status.Meaning no_main_line
name_due placed size names.Memory = refusal status.NoMemory no_memory_line

-- what is due where the program is not typed, with its types, the tokens of its file, and the count of its bytes
abbrev pub type_due : List DataDecl → List Placed → ℕ → TypeFault → Due
type_due ts placed size (types.Empty t) = refusal status.Meaning (empty_line ts t)
type_due ts placed size (types.Mismatch t wanted found) =
    refusal status.Meaning (mismatch_line ts wanted found (byte_of placed size t))
type_due ts placed size (types.Arity t wanted found) =
    refusal status.Meaning (arity_line wanted found (byte_of placed size t))
type_due ts placed size (types.VariableTwice t) =
    refusal status.Meaning (at_byte (codes "variable twice") (byte_of placed size t))
type_due ts placed size types.Memory = refusal status.NoMemory no_memory_line

-- what is due where the match at token `t` misses the values of pattern `q`, in a file of so many bytes
abbrev pub match_due : List DataDecl → List Placed → ℕ → ℕ → Pat → Due
match_due ts placed size t q = refusal status.Meaning (missing_line ts q (byte_of placed size t))

-- what is due where a layout cannot be derived
abbrev pub derived_due : List DataDecl → AutoFault → Due
derived_due ts (auto.PackedRecursive t) = refusal status.Layout (recursive_line ts t)
derived_due ts (auto.PackedWide t bits) = refusal status.Layout (wide_line ts t bits)
derived_due ts auto.Memory = refusal status.NoMemory no_memory_line

-- what is due where a layout breaks a rule
abbrev pub layout_due : Program → Disagreed → Due
layout_due p fault = refusal status.Layout (line (named_line (refusal_text p.types (flat_layouts p) fault)))

-- What is due to a file by the first of these that refuses it: tokens, grammar and limits, names,
-- types, exhaustiveness, layouts that are derived, layouts.
pub data IsRefused (bytes : List ℕ) (due : Due) : Type 0 where
  uncut : (fault : LexFault) → IsUncut bytes fault → due ≡ lex_due fault → IsRefused bytes due
  misread : (placed : List Placed) → HasTokens bytes placed → (fault : ReadFault)
      → IsFileAnswer (tokens placed) (Err fault)
      → due ≡ read_due placed (length bytes) fault → IsRefused bytes due
  misnamed : (placed : List Placed) (file : FileTree) → FileIsRead bytes placed file → (fault : NameFault)
      → program_of file ≡ Err fault
      → due ≡ name_due placed (length bytes) fault → IsRefused bytes due
  mistyped : (placed : List Placed) (p : Program) → IsProgramOf bytes placed p → (fault : TypeFault)
      → fault ≢ types.Memory → IsFirstFault p fault
      → due ≡ type_due p.types placed (length bytes) fault → IsRefused bytes due
  uncovered : (placed : List Placed) (p : Program) → IsProgramOf bytes placed p → IsTyped p → (t : ℕ) (q : Pat)
      → IsCoverFault p (Missing t q)
      → due ≡ match_due p.types placed (length bytes) t q → IsRefused bytes due
  underived : (placed : List Placed) (p : Program) (fault : AutoFault)
      → IsNamedWith bytes placed (completed_as p (Some fault)) → IsTyped p
      → AreExhaustive p.types (sites_of p) → due ≡ derived_due p.types fault → IsRefused bytes due
  mislaid : (placed : List Placed) (p : Program) → IsNamed bytes placed p → IsTyped p
      → AreExhaustive p.types (sites_of p)
      → (fault : Disagreed) → IsRefusedBy p (flat_layouts p) fault → due ≡ layout_due p fault → IsRefused bytes due

-- The step ----------------------------------------------------------------------------------

-- A file is refused; or it is accepted, and something follows.
pub data Accepts (bytes : List ℕ) (Then : (p : Program) → IsAccepted bytes p → Due → Type 0) (due : Due) : Type 0 where
  turned_down : IsRefused bytes due → Accepts bytes Then due
  accepted : (p : Program) (a : IsAccepted bytes p) → Then p a due → Accepts bytes Then due
