-- Heads: what patterns and values begin with. A head is a number or a constructor; where it belongs to a pattern,
-- Maranget calls it the pattern's head constructor. Every value has one; a wildcard and a variable have none. A
-- vector is a list of values, and a row a list of patterns, one for each column of a pattern matrix. A layer is the
-- outermost node of a value or a pattern, with what stands below it as it is: a number, a wildcard, a variable, or a
-- constructor with its subvalues or subpatterns.
use Rattle.std.specs.Prelude.{ℕ, ◌^◌, List, [], ◌∷◌, ◌++◌, Bool, false, ◌||◌, ◌==◌, nat_lt, if◌then◌else◌, Option, Some, None, slice_get}
use Rattle.rb_core.specs.declared.value.Value.{Value, out-Value}
use Rattle.rb_core.specs.declared.value.Value.TheOpen as V
use Rattle.rb_core.specs.declared.value.Value.TheOpen.{Value-F}
use Rattle.rb_core.specs.declared.types.Ty.{Ty}
use Rattle.rb_core.specs.declared.types.Ty.TheVariants.{Int, Named}
use Rattle.rb_core.specs.declared.types.DataDecl.{DataDecl}
use Rattle.rb_core.specs.declared.pattern.Pat.{Pat, out-Pat}
use Rattle.rb_core.specs.declared.pattern.Pat.TheOpen as P
use Rattle.rb_core.specs.declared.pattern.Pat.TheOpen.{Pat-F}
use Rattle.rb_core.specs.Values.{fields_in, subs}
use Rattle.rb_matrix.specs.declared.matrix.Head.{Head}
use Rattle.rb_matrix.specs.declared.matrix.Head.TheVariants as H

-- whether a value, given by its layer, begins with a head: it is the same number, or its constructor has the same
-- number in its type; the type that the head's constructor names is not looked at
abbrev pub layer_begins : Head → Value-F Value → Bool
layer_begins (H.Num m) (V.Num n) = m == n
layer_begins (H.Num m) (V.Con k vs) = false
layer_begins (H.Con c) (V.Num n) = false
layer_begins (H.Con c) (V.Con k vs) = c.con == k

-- whether a value begins with a head: it is the same number, or its constructor has the same number in its type
abbrev pub begins : Head → Value → Bool
begins h v = layer_begins h (out-Value v)

-- whether a value, given by its layer, begins with some head of a list; false where the list is empty
abbrev pub any_begins : List Head → Value-F Value → Bool
any_begins [] v = false
any_begins (h ∷ hs) v = layer_begins h v || any_begins hs v

-- a vector with the subvalues of its first value in that value's place; a number has none, and the empty vector
-- stays
abbrev pub unfolded_vector : List Value → List Value
unfolded_vector [] = []
unfolded_vector (v ∷ vs) = subs v ++ vs

-- the head of a pattern, given by its layer; None for a wildcard or a variable
abbrev pub layer_head : Pat-F Pat → Option Head
layer_head (P.Wild at) = None
layer_head (P.Var at x) = None
layer_head (P.Num at n) = Some (H.Num n)
layer_head (P.Con at c ps) = Some (H.Con c)

-- the head of a row's first pattern; None where that is a wildcard or a variable, or where the row is empty
abbrev pub row_head : List Pat → Option Head
row_head [] = None
row_head (p ∷ ps) = layer_head (out-Pat p)

-- whether a value, given by its layer, begins with this head; false where there is no head
abbrev pub option_begins : Option Head → Value-F Value → Bool
option_begins None v = false
option_begins (Some h) v = layer_begins h v

-- whether a value, given by its layer, begins with the head of the first pattern of some row; false where no row
-- has one
abbrev pub column_begins : List (List Pat) → Value-F Value → Bool
column_begins [] v = false
column_begins (r ∷ rs) v = option_begins (row_head r) v || column_begins rs v

-- the layer of a value that begins with the head: the number, or the constructor without subvalues, however many
-- fields it has
abbrev pub sample : Head → Value-F Value
sample (H.Num n) = V.Num n
sample (H.Con c) = V.Con c.con []

-- how many heads there are: 1, or 0 for None
abbrev pub some_head : Option Head → ℕ
some_head None = 0
some_head (Some h) = 1

-- the types of a head's fields, where the head is of the type, and else None. A number has no field and is of an
-- integer type that holds it. A constructor is of a data type that has one with its number, whatever type the head
-- names; where there is no such data type, it is None too
abbrev pub fields_at : List DataDecl → Ty → Head → Option (List Ty)
fields_at types (Int bits) (H.Num n) = if nat_lt n (2 ^ bits) then Some [] else None
fields_at types (Int bits) (H.Con c) = None
fields_at types (Named t) (H.Num n) = None
fields_at types (Named t) (H.Con c) = fields_in (slice_get types t) c.con

-- the types of a head's fields, where the head is of the first column's type; None where it is not, or where there is
-- no column
abbrev pub column_fields : List DataDecl → List Ty → Head → Option (List Ty)
column_fields types [] h = None
column_fields types (t ∷ ts) h = fields_at types t h
