-- What the VALUEs of a command line come to at the types of the parameters of `main`. The words are those VALUEs.
-- What is due to a command is the answer that the program owes to it. The nodes of a value are its numbers and
-- constructors, inner ones among them.
use Rattle.std.specs.Prelude.{◌≡◌, ◌≢◌, ℕ, ◌+◌, List, [], ◌∷◌, length, take, Some, slice_get, Ok, Err}
use Rattle.rb_core.specs.Typing.{param_types}
use Rattle.rb_core.specs.declared.program.Program.{Program}
use Rattle.rb_core.specs.declared.types.DataDecl.{DataDecl}
use Rattle.rb_core.specs.declared.types.Ty.{Ty}
use Rattle.rb_core.specs.declared.value.Value.{Value}
use Rattle.rb_lines.specs.Answer.{Due, refusal}
use Rattle.rb_lines.specs.ArgumentLines.{node_limit, argument_line}
use Rattle.rb_lines.specs.Lines.{count_line}
use Rattle.rb_lines.specs.declared.status.Status.TheVariants.{Argument}
use Rattle.rb_values.specs.Reading.{ValueIsRead}
use Rattle.rb_values.specs.declared.fault.ValueFault.{ValueFault}
use Rattle.rb_values.specs.declared.fault.ValueFault.TheVariants as kind

-- Values ------------------------------------------------------------------------------------

-- there are as many words and values as types, and each word spells its value, which is of its type and within the
-- limit of nodes
abbrev pub AreRead : List DataDecl → List Ty → List (List ℕ) → List Value → Type 0
AreRead types [] [] [] = Unit {0}
AreRead types (t ∷ ts) (w ∷ ws) (v ∷ vs) = ValueIsRead types t node_limit w (Ok v) × AreRead types ts ws vs
AreRead types [] [] (v ∷ vs) = ⊥
AreRead types [] (w ∷ ws) vs = ⊥
AreRead types (t ∷ ts) [] vs = ⊥
AreRead types (t ∷ ts) (w ∷ ws) [] = ⊥

-- the words spell these arguments of `main`, one for each of its parameters
abbrev pub Spell : Program → List (List ℕ) → List Value → Type 0
Spell p words args = AreRead p.types (param_types p.funs p.main) words args

-- Refusals ----------------------------------------------------------------------------------

-- the word of this number, counted from 1, is no value of its type within the limit of nodes, and this is due to it
pub record IsRefusedAt (types : List DataDecl) (number : ℕ) (ty : Ty) (word : List ℕ) (due : Due) : Type 0 where
  pub fault : ValueFault
  pub known : fault ≢ kind.Memory
  pub refused : ValueIsRead types ty node_limit word (Err fault)
  pub shown : due ≡ refusal Argument (argument_line types number ty fault)

-- this is due to the first word that spells no value of its type, where all words before it spell theirs
pub record IsFirstBadWord (types : List DataDecl) (tys : List Ty) (words : List (List ℕ)) (due : Due) : Type 0 where
  pub place : ℕ
  pub ty : Ty
  pub has_type : slice_get tys place ≡ Some ty
  pub word : List ℕ
  pub has_word : slice_get words place ≡ Some word
  pub before : List Value
  pub read : AreRead types (take place tys) (take place words) before
  pub refused : IsRefusedAt types (place + 1) ty word due

-- The words spell no arguments of `main`: there are more or fewer than parameters; or there are as many, and the
-- first that spells no value of its type is shown.
pub data IsMisfit (p : Program) (words : List (List ℕ)) (due : Due) : Type 0 where
  miscounted : length words ≢ length (param_types p.funs p.main)
      → due ≡ refusal Argument (count_line (length (param_types p.funs p.main)) (length words)) → IsMisfit p words due
  misspelled : length words ≡ length (param_types p.funs p.main)
      → IsFirstBadWord p.types (param_types p.funs p.main) words due → IsMisfit p words due
