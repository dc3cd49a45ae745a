-- Texts of a program's types, constructors and patterns. Texts are lists of bytes, and `types` are the types of the
-- program, by which names are found.
use Rattle.std.specs.Prelude.{ℕ, List, [], ◌∷◌, ◌++◌, codes, Option, Some, None, slice_get}
use Rattle.std.specs.Fmt.{decimal}
use Rattle.std.specs.List.{flat_map}
use Rattle.rb_core.specs.declared.types.Ty.{Ty}
use Rattle.rb_core.specs.declared.types.Ty.TheVariants.{Int, Named}
use Rattle.rb_core.specs.declared.types.Con.{Con}
use Rattle.rb_core.specs.declared.types.ConRef.{ConRef}
use Rattle.rb_core.specs.declared.types.DataDecl.{DataDecl}
use Rattle.rb_core.specs.declared.pattern.Pat.{Pat}
use Rattle.rb_core.specs.declared.pattern.Pat.TheOpen as P
use Rattle.rb_core.specs.declared.pattern.Pat.TheOpen.{Pat-F}
use Rattle.rb_core.specs.declared.pattern.Pat.TheFolds.{fold-Pat}
use Rattle.rb_core.specs.Values.{con_of}

-- Types -------------------------------------------------------------------------------------

-- the name of a type that was looked up; empty where none was found
abbrev pub type_name : Option DataDecl → List ℕ
type_name None = []
type_name (Some d) = d.name

-- a type as it is shown: an integer by its width, a data type by its name
abbrev pub type_text : List DataDecl → Ty → List ℕ
type_text types (Int bits) = codes "u" ++ decimal bits
type_text types (Named t) = type_name (slice_get types t)

-- Constructors ------------------------------------------------------------------------------

-- the name of a constructor that was looked up; empty where none was found
abbrev pub con_name : Option Con → List ℕ
con_name None = []
con_name (Some c) = c.name

-- the name of a constructor, by its type's number and its own; empty where there is none
abbrev pub con_text : List DataDecl → ConRef → List ℕ
con_text types c = con_name (con_of types c)

-- Patterns ----------------------------------------------------------------------------------

-- the texts of fields behind a `(` and with commas between them, but without the `)`; empty where there is no field
abbrev pub opening_text : List (List ℕ) → List ℕ
opening_text [] = []
opening_text (t ∷ ts) = codes "(" ++ t ++ flat_map (λ u. codes ", " ++ u) ts

-- the `)` behind these fields; empty where there is no field
abbrev pub closing_text : List (List ℕ) → List ℕ
closing_text [] = []
closing_text (t ∷ ts) = codes ")"

-- the texts of fields in parentheses, with commas between them; empty where there is no field
abbrev pub fields_text : List (List ℕ) → List ℕ
fields_text ts = opening_text ts ++ closing_text ts

-- the text of a pattern, by the texts of its fields; a variable is shown as `_`, as a wildcard is
abbrev pub pattern_text_step : List DataDecl → Pat-F (List ℕ) → List ℕ
pattern_text_step types (P.Wild at) = codes "_"
pattern_text_step types (P.Var at x) = codes "_"
pattern_text_step types (P.Num at n) = decimal n
pattern_text_step types (P.Con at c ts) = con_text types c ++ fields_text ts

-- the text of a pattern: `_`, a number, a constructor's name, or its name with its fields
abbrev pub pattern_text : List DataDecl → Pat → List ℕ
pattern_text types = fold-Pat (List ℕ) (pattern_text_step types)
