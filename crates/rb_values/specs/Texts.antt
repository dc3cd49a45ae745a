-- The text of a value: a number in decimal, or its constructor's name and its fields with ', ' between.
use Rattle.std.specs.Prelude.{ℕ, zero, suc, ◌+◌, List, [], ◌∷◌, ◌++◌, codes, Option, Some, None, slice_index_or}
use Rattle.std.specs.Fmt.{decimal}
use Rattle.rb_core.specs.declared.value.Value.{Value}
use Rattle.rb_core.specs.declared.value.Value.TheOpen as Layer
use Rattle.rb_core.specs.declared.value.Value.TheOpen.{Value-F}
use Rattle.rb_core.specs.declared.value.Value.TheFolds.{fold-Value}
use Rattle.rb_core.specs.declared.types.Ty.{Ty}
use Rattle.rb_core.specs.declared.types.Ty.TheVariants.{Int, Named}
use Rattle.rb_core.specs.declared.types.Con.{Con}
use Rattle.rb_core.specs.declared.types.ConRef.{ConRef}
use Rattle.rb_core.specs.declared.types.DataDecl.{DataDecl}
use Rattle.rb_core.specs.Texts.{con_text}
use Rattle.rb_core.specs.Values.{con_of}

-- Constructors. What a value of its type never asks for is filled in: type 0, a field of u1.

-- constructor k of a type; of data type 0 for an integer type, which has none
abbrev pub con_ref : Ty → ℕ → ConRef
con_ref (Int bits) k = record { ty = 0; con = k }
con_ref (Named t) k = record { ty = t; con = k }

-- the type of field j of a constructor; u1 where there is no such constructor or field
abbrev pub type_of_field : Option Con → ℕ → Ty
type_of_field None j = Int 1
type_of_field (Some c) j = slice_index_or c.fields j (Int 1)

-- the type of field j of a constructor of the program; u1 where there is no such field
unfoldable pub field_of : List DataDecl → ConRef → ℕ → Ty
field_of types c j = type_of_field (con_of types c) j

-- Texts.

-- what stands before field j: a parenthesis before field 0, else a comma and a blank
unfoldable pub before : ℕ → List ℕ
before zero = codes "("
before (suc j) = codes ", "

-- what stands behind the last of so many fields: a parenthesis, and nothing where there are no fields
unfoldable pub after_last : ℕ → List ℕ
after_last zero = []
after_last (suc j) = codes ")"

-- the text of the fields from field j on, up to the parenthesis behind the last: each gives its text at a type, and
-- `tys` has the type of each by its number
abbrev pub fields_text : (ℕ → Ty) → ℕ → List (Ty → List ℕ) → List ℕ
fields_text tys j [] = after_last j
fields_text tys j (f ∷ fs) = before j ++ (f (tys j) ++ fields_text tys (j + 1) fs)

-- one level of `text_of`: a number in decimal, or a constructor's name and the text of its fields
abbrev pub text_step : List DataDecl → Value-F (Ty → List ℕ) → Ty → List ℕ
text_step types (Layer.Num n) ty = decimal n
text_step types (Layer.Con k fs) ty =
    con_text types (con_ref ty k) ++ fields_text (field_of types (con_ref ty k)) 0 fs

-- the text of a value at a type
abbrev pub text_of : List DataDecl → Value → Ty → List ℕ
text_of types = fold-Value (Ty → List ℕ) (text_step types)
