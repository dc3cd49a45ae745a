-- Values: how many nodes one has, its type, and its parts by position. A value is a number, or a construction
-- by the constructor with a number in its type; its nodes are its numbers and constructions. A constructor's
-- fields and a construction's subvalues are numbered from 0. The argument `types` is the data types of the
-- program.
use Rattle.std.specs.Prelude.{ℕ, ◌+◌, ◌^◌, List, [], ◌∷◌, sum, Bool, true, false, ◌&&◌, nat_lt, Option, Some, None, slice_get}
use Rattle.rb_core.specs.declared.value.Value.{Value, out-Value}
use Rattle.rb_core.specs.declared.value.Value.TheOpen as Layer
use Rattle.rb_core.specs.declared.value.Value.TheOpen.{Value-F}
use Rattle.rb_core.specs.declared.value.Value.TheFolds.{fold-Value}
use Rattle.rb_core.specs.declared.types.Ty.{Ty}
use Rattle.rb_core.specs.declared.types.Ty.TheVariants.{Int, Named}
use Rattle.rb_core.specs.declared.types.ConRef.{ConRef}
use Rattle.rb_core.specs.declared.types.Con.{Con}
use Rattle.rb_core.specs.declared.types.DataDecl.{DataDecl}

-- the nodes of one layer of a value, where how many nodes each subvalue has stands in its place
abbrev pub nodes_step : Value-F ℕ → ℕ
nodes_step (Layer.Num n) = 1
nodes_step (Layer.Con k ns) = 1 + sum ns

-- how many nodes a value has: a number is one, and a construction has one more than its subvalues have
-- together
abbrev pub node_count : Value → ℕ
node_count = fold-Value ℕ nodes_step

-- the types of a constructor's fields; none where there is no constructor
abbrev pub fields_of_con : Option Con → Option (List Ty)
fields_of_con None = None
fields_of_con (Some c) = Some c.fields

-- constructor k of a data type; none where there is no data type, or it has no such constructor
abbrev pub con_in : Option DataDecl → ℕ → Option Con
con_in None k = None
con_in (Some d) k = slice_get d.cons k

-- a constructor of the program; none where the program has no such constructor
abbrev pub con_of : List DataDecl → ConRef → Option Con
con_of types c = con_in (slice_get types c.ty) c.con

-- the types of the fields of constructor k of a data type; none where there is no data type, or it has no
-- such constructor
abbrev pub fields_in : Option DataDecl → ℕ → Option (List Ty)
fields_in d k = fields_of_con (con_in d k)

-- the types of the fields of a constructor of the program; none where the program has no such constructor
abbrev pub fields_of : List DataDecl → ConRef → Option (List Ty)
fields_of types c = fields_in (slice_get types c.ty) c.con

-- each value is of the type in its place, and there are as many of one as of the other; a value is given as
-- whether it is of a type
abbrev pub all_of_types : List (Ty → Bool) → List Ty → Bool
all_of_types [] [] = true
all_of_types [] (t ∷ ts) = false
all_of_types (v ∷ vs) [] = false
all_of_types (v ∷ vs) (t ∷ ts) = v t && all_of_types vs ts

-- the subvalues are of these types, one each; they are not where there are no types, since there is no such
-- constructor
abbrev pub are_of : List (Ty → Bool) → Option (List Ty) → Bool
are_of vs None = false
are_of vs (Some ts) = all_of_types vs ts

-- whether one layer of a value is of a type, where each subvalue stands as whether it is of a type
abbrev pub of_type_step : List DataDecl → Value-F (Ty → Bool) → Ty → Bool
of_type_step types (Layer.Num n) (Int bits) = nat_lt n (2 ^ bits)
of_type_step types (Layer.Num n) (Named t) = false
of_type_step types (Layer.Con k vs) (Int bits) = false
of_type_step types (Layer.Con k vs) (Named t) = are_of vs (fields_in (slice_get types t) k)

-- whether a value is of a type: a number is of the integer types that hold it, and a construction is of a
-- data type whose constructor with its number has fields of the subvalues' types
abbrev pub is_of_type : List DataDecl → Value → Ty → Bool
is_of_type types = fold-Value (Ty → Bool) (of_type_step types)

-- the subvalues of one layer of a value; a number has none
abbrev pub subs_in : Value-F Value → List Value
subs_in (Layer.Num n) = []
subs_in (Layer.Con k vs) = vs

-- the subvalues of a value, in the order of the constructor's fields; a number has none
abbrev pub subs : Value → List Value
subs v = subs_in (out-Value v)

-- the subvalue of field i; none where there is no value, or it has no such field
abbrev pub sub_at : Option Value → ℕ → Option Value
sub_at None i = None
sub_at (Some v) i = slice_get (subs v) i

-- the part of a value at a position, a list of field numbers from the root, where the empty list is the root
-- itself; none where there is no value, or it has no such part
abbrev pub part_from : Option Value → List ℕ → Option Value
part_from v [] = v
part_from v (i ∷ is) = part_from (sub_at v i) is

-- the part of a value at a position, the list of field numbers from its root; none where it has no such part
abbrev pub part_at : Value → List ℕ → Option Value
part_at v is = part_from (Some v) is
