-- The lines of files that are refused, and the notes on clauses that no value reaches. A line is a list of bytes, and
-- bytes of a file are counted from 0. `types` are the types of the program, by which types are named.
use Rattle.std.specs.Prelude.{ℕ, List, ◌++◌, codes, slice_get}
use Rattle.std.specs.Fmt.{decimal}
use Rattle.rb_core.specs.declared.types.Ty.{Ty}
use Rattle.rb_core.specs.declared.types.DataDecl.{DataDecl}
use Rattle.rb_core.specs.declared.pattern.Pat.{Pat}
use Rattle.rb_core.specs.Texts.{pattern_text, type_name, type_text}
use Rattle.rb_read.specs.declared.fault.Quantity.{Quantity}
use Rattle.rb_read.specs.declared.fault.Quantity.TheVariants.{FileBytes, Types, Functions, Constructors, Fields, Parameters, ShapeWords}
use Rattle.rb_read.specs.Limits.{limit_of}
use Rattle.rb_show.specs.Lines.{line}
use Rattle.rb_lines.specs.Lines.{named_line}

-- the line of a fault, told by its words, and of the byte where it stands
abbrev pub at_byte : List ℕ → ℕ → List ℕ
at_byte fault at = line (named_line fault ++ codes " at byte " ++ decimal at)

-- Limits ------------------------------------------------------------------------------------

-- what is counted, as a line names it
abbrev pub quantity_text : Quantity → List ℕ
quantity_text FileBytes = codes "file bytes"
quantity_text Types = codes "types"
quantity_text Functions = codes "functions"
quantity_text Constructors = codes "constructors"
quantity_text Fields = codes "fields"
quantity_text Parameters = codes "parameters"
quantity_text ShapeWords = codes "shape words"

-- the line of a count over its limit
abbrev pub limit_line : Quantity → ℕ → List ℕ
limit_line q count =
    line (named_line (codes "limit ") ++ quantity_text q ++ codes ": " ++ decimal count ++ codes " over "
    ++ decimal (limit_of q))

-- the line of a text that nests over so many levels, and of the byte at which it does
abbrev pub nesting_line : ℕ → ℕ → List ℕ
nesting_line levels at =
    line (named_line (codes "nesting over ") ++ decimal levels ++ codes " at byte " ++ decimal at)

-- Names -------------------------------------------------------------------------------------

-- the line of a name at a byte that stands for nothing
abbrev pub unknown_line : List ℕ → ℕ → List ℕ
unknown_line name at = line (named_line (codes "unknown name ") ++ name ++ codes " at byte " ++ decimal at)

-- the line of a name that stands for two things, the second at a byte
abbrev pub twice_line : List ℕ → ℕ → List ℕ
twice_line name at = line (named_line (codes "name ") ++ name ++ codes " twice at byte " ++ decimal at)

-- the line of a program without the function `main`
abbrev pub no_main_line : List ℕ
no_main_line = line (named_line (codes "no function main"))

-- Types -------------------------------------------------------------------------------------

-- the line of a type without a value
abbrev pub empty_line : List DataDecl → ℕ → List ℕ
empty_line types t = line (named_line (codes "type ") ++ type_name (slice_get types t) ++ codes " has no value")

-- the line of another type than the wanted one, at a byte
abbrev pub mismatch_line : List DataDecl → Ty → Ty → ℕ → List ℕ
mismatch_line types wanted found at =
    line (named_line (codes "wanted ") ++ type_text types wanted ++ codes ", found " ++ type_text types found
    ++ codes " at byte " ++ decimal at)

-- the line of another number of parts than the wanted one, at a byte: of arguments, as the line calls them, or of
-- fields
abbrev pub arity_line : ℕ → ℕ → ℕ → List ℕ
arity_line wanted found at =
    line (named_line (codes "wanted ") ++ decimal wanted ++ codes " arguments, found " ++ decimal found
    ++ codes " at byte " ++ decimal at)

-- Derived layouts ---------------------------------------------------------------------------

-- the line of a packed type that reaches itself through its fields
abbrev pub recursive_line : List DataDecl → ℕ → List ℕ
recursive_line types t =
    line (named_line (codes "layout of ") ++ type_name (slice_get types t) ++ codes ": packed: recursive")

-- the line of a packed type that needs so many bits, over 64
abbrev pub wide_line : List DataDecl → ℕ → ℕ → List ℕ
wide_line types t bits =
    line (named_line (codes "layout of ") ++ type_name (slice_get types t) ++ codes ": packed: " ++ decimal bits
    ++ codes " bits")

-- Patterns ----------------------------------------------------------------------------------

-- the line of a match at a byte that misses a pattern's values
abbrev pub missing_line : List DataDecl → Pat → ℕ → List ℕ
missing_line types p at =
    line (named_line (codes "match at byte ") ++ decimal at ++ codes " misses " ++ pattern_text types p)

-- Notes -------------------------------------------------------------------------------------

-- the line of a clause that is never reached, by its number from 0 on, in a match at a byte
abbrev pub note_line : ℕ → ℕ → List ℕ
note_line clause at =
    codes "note: clause " ++ decimal clause ++ codes " of the match at byte " ++ decimal at
    ++ codes " is never reached\n"
