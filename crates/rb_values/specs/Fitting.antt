-- Where a term does not fit a type, and the value that it names where it does. A term is what a text says before
-- types are looked at: a number, or a name with its fields. Its nodes are its numbers and names, each with the byte
-- at which it begins. `types` are the types of the program, and names are lists of bytes.
use Rattle.std.specs.Prelude.{ℕ, List, [], ◌∷◌, ◌++◌, length, if◌then◌else◌, ◌==◌, Option, Some, None, slice_get, unwrap_or}
use Rattle.std.specs.List.{position}
use Rattle.std.specs.Option.{option_map}
use Rattle.std.specs.Str.{bytes_eq}
use Rattle.rb_core.specs.declared.value.Value.{Value, Num}
use Rattle.rb_core.specs.declared.value.Value as val
use Rattle.rb_core.specs.declared.types.Ty.{Ty}
use Rattle.rb_core.specs.declared.types.Ty.TheVariants.{Int, Named}
use Rattle.rb_core.specs.declared.types.Con.{Con}
use Rattle.rb_core.specs.declared.types.ConRef.{ConRef}
use Rattle.rb_core.specs.declared.types.DataDecl.{DataDecl}
use Rattle.rb_core.specs.Typing.{type_holds}
use Rattle.rb_core.specs.Values.{fields_of}
use Rattle.rb_values.specs.Terms.{Term, Terms, number, build, none, also, term_count}

-- the number of the first constructor of this name in a list of constructors; none where there is none
abbrev pub con_index : List Con → List ℕ → Option ℕ
con_index cons name = position (λ c. bytes_eq c.name name) cons

-- in data type number t, the first constructor of this name; none where there is no such type or constructor
abbrev pub con_in : ℕ → List ℕ → Option DataDecl → Option ConRef
con_in t name None = None
con_in t name (Some d) = option_map (λ k. record { ty = t; con = k }) (con_index d.cons name)

-- the constructor of this name of a type; none where the type has none, as an integer type has
abbrev pub con_named : List DataDecl → Ty → List ℕ → Option ConRef
con_named types (Int bits) name = None
con_named types (Named t) name = con_in t name (slice_get types t)

-- the types of a constructor's fields; none where there is no constructor
abbrev pub con_fields : List DataDecl → Option ConRef → Option (List Ty)
con_fields types None = None
con_fields types (Some c) = fields_of types c

-- what does not fit of a name at byte `at` with `count` fields, given its constructor's field types: the name, where
-- these are missing or not as many, else `each`, what does not fit of its fields
abbrev pub misfits_of : ℕ → ℕ → (List Ty → List ℕ) → Option (List Ty) → List ℕ
misfits_of at count each None = at ∷ []
misfits_of at count each (Some tys) = if count == length tys then each tys else at ∷ []

-- the bytes of the nodes of a term that do not fit their type, outer before inner and left to right: a number fits an
-- integer type that holds it, and below a name that does not fit nothing is tried
abbrev mutual
  pub misfits : List DataDecl → Term → Ty → List ℕ
  misfits types (number at n) ty = if type_holds ty n then [] else at ∷ []
  misfits types (build at name fields) ty =
      misfits_of at (term_count fields) (misfits_each types fields) (con_fields types (con_named types ty name))

  -- the bytes of the nodes that do not fit, of terms each at its own type, as far as both lists reach
  pub misfits_each : List DataDecl → Terms → List Ty → List ℕ
  misfits_each types none tys = []
  misfits_each types (also t ts) [] = []
  misfits_each types (also t ts) (ty ∷ tys) = misfits types t ty ++ misfits_each types ts tys

-- the first number of a list; none where it is empty
abbrev pub first : List ℕ → Option ℕ
first [] = None
first (x ∷ xs) = Some x

-- the number of a constructor in its type; 0 where there is none
abbrev pub con_number : Option ConRef → ℕ
con_number None = 0
con_number (Some c) = c.con

-- the value that a term names at a type that it fits
abbrev mutual
  pub value_of : List DataDecl → Term → Ty → Value
  value_of types (number at n) ty = Num n
  value_of types (build at name fields) ty =
      val.Con (con_number (con_named types ty name))
      (values_of types fields (unwrap_or (con_fields types (con_named types ty name)) []))

  -- the values that terms name, each at its own type, as far as both lists reach
  pub values_of : List DataDecl → Terms → List Ty → List Value
  values_of types none tys = []
  values_of types (also t ts) [] = []
  values_of types (also t ts) (ty ∷ tys) = value_of types t ty ∷ values_of types ts tys
