-- Laws of reading. A limit is the most nodes that a value may have: its numbers and constructors, inner ones among
-- them.
use Rattle.std.specs.Prelude.{◌≡◌, ◌≢◌, ℕ, ◌≤◌, List, true, Result, Ok, Err}
use Rattle.std.specs.List.{list_all, flat_map}
use Rattle.std.specs.Str.{bytes_eq}
use Rattle.rb_core.specs.declared.value.Value.{Value}
use Rattle.rb_core.specs.declared.types.Ty.{Ty}
use Rattle.rb_core.specs.declared.types.DataDecl.{DataDecl}
use Rattle.rb_core.specs.Values.{is_of_type, node_count}
use Rattle.rb_core.specs.WellNumbered.{is_distinct, is_type, con_names, type_is_numbered}
use Rattle.rb_values.specs.declared.fault.ValueFault.{ValueFault}
use Rattle.rb_values.specs.declared.fault.ValueFault.TheVariants.{Memory}
use Rattle.rb_values.specs.Reading.{ValueIsRead}
use Rattle.rb_values.specs.Texts.{text_of}

-- a text at a type within a limit has one answer, want of memory aside
abbrev pub AnswersOnce : Type 0
AnswersOnce = (types : List DataDecl) (ty : Ty) (limit : ℕ) (text : List ℕ) (r s : Result Value ValueFault)
    → r ≢ Err Memory → s ≢ Err Memory
    → ValueIsRead types ty limit text r → ValueIsRead types ty limit text s → r ≡ s

-- types as a program has them: each names types that there are, and no two constructors have one name
pub record AreDeclared (types : List DataDecl) : Type 0 where
  pub numbered : list_all (type_is_numbered types) types ≡ true
  pub names : is_distinct bytes_eq (flat_map con_names types) ≡ true

-- a text is read as this value, and as nothing else, want of memory aside
pub record IsReadAs (types : List DataDecl) (ty : Ty) (limit : ℕ) (text : List ℕ) (v : Value) : Type 0 where
  pub read : ValueIsRead types ty limit text (Ok v)
  pub alone : (r : Result Value ValueFault) → r ≢ Err Memory → ValueIsRead types ty limit text r → r ≡ Ok v

-- the text of a value of a type, which has no more nodes than the limit, is read as that value
abbrev pub ReadsBack : Type 0
ReadsBack = (types : List DataDecl) (ty : Ty) (limit : ℕ) (v : Value) → AreDeclared types → is_type types ty ≡ true
    → is_of_type types v ty ≡ true → node_count v ≤ limit → IsReadAs types ty limit (text_of types v ty) v
