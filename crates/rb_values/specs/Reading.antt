-- What is read from a text at a type. A sign is what a token of the text is to a value, and a term is what the text
-- says before types are looked at: a number, or a name with its fields. Its nodes are its numbers and names. Places
-- are bytes of the text.
use Rattle.std.specs.Prelude.{◌≡◌, ℕ, ◌<◌, ◌≤◌, List, [], ◌∷◌, ◌++◌, length, Some, None, Result, Ok, Err}
use Rattle.rb_core.specs.declared.value.Value.{Value}
use Rattle.rb_core.specs.declared.types.Ty.{Ty}
use Rattle.rb_core.specs.declared.types.DataDecl.{DataDecl}
use Rattle.rb_syntax.specs.declared.token.Placed.{Placed}
use Rattle.rb_syntax.specs.Fronts.{front}
use Rattle.rb_values.specs.declared.sign.Sign.{Sign}
use Rattle.rb_values.specs.declared.fault.ValueFault.{ValueFault}
use Rattle.rb_values.specs.declared.fault.ValueFault.TheVariants.{ValueSyntax, ValueTooLarge, ValueType, Memory}
use Rattle.rb_values.specs.Terms.{Term, term_nodes, term_signs, sign_of, signs, SpellsTerm}
use Rattle.rb_values.specs.Fitting.{misfits, first, value_of}

-- the spelling of some value begins with these signs, or is just these
abbrev pub IsSignFront : List Sign → Type 0
IsSignFront before = (t : Term) × (more : List Sign) × (before ++ more ≡ term_signs t [])

-- the text spells no value, which shows at byte p
pub data StopsAt (text : List ℕ) (p : ℕ) : Type 0 where
  -- a value goes on up to this token, which begins there, and none goes on with it
  token : (before : List Placed) (here : Placed) (behind : List Placed)
      → (front text).tokens ≡ before ++ here ∷ behind → here.at ≡ p
      → IsSignFront (signs before) → (IsSignFront (signs before ++ sign_of here ∷ []) → ⊥) → StopsAt text p
  -- a value goes on up to the byte at which the text has no token
  refused : (front text).fault ≡ Some p → IsSignFront (signs (front text).tokens) → StopsAt text p
  -- a value goes on up to the text's end, and is not whole there
  ended : (front text).fault ≡ None → p ≡ length text → IsSignFront (signs (front text).tokens)
      → ((t : Term) → signs (front text).tokens ≡ term_signs t [] → ⊥) → StopsAt text p

-- the text spells a term of at most so many nodes, which fits the type, and v is the value that it names there
pub record SpellsValue (types : List DataDecl) (ty : Ty) (limit : ℕ) (text : List ℕ) (v : Value) : Type 0 where
  pub term : Term
  pub spells : SpellsTerm text term
  pub within : term_nodes term ≤ limit
  pub fits : misfits types term ty ≡ []
  pub value : v ≡ value_of types term ty

-- what is read of a text at a type: a value; or the first of these: no value is spelled, it has too many nodes, it
-- has a node that does not fit. Want of memory says nothing of it
abbrev pub ValueIsRead : List DataDecl → Ty → ℕ → List ℕ → Result Value ValueFault → Type 0
ValueIsRead types ty limit text (Ok v) = SpellsValue types ty limit text v
ValueIsRead types ty limit text (Err (ValueSyntax p)) = StopsAt text p
ValueIsRead types ty limit text (Err ValueTooLarge) = (t : Term) × SpellsTerm text t × (limit < term_nodes t)
ValueIsRead types ty limit text (Err (ValueType p)) = (t : Term) × SpellsTerm text t × (term_nodes t ≤ limit)
    × (first (misfits types t ty) ≡ Some p)
ValueIsRead types ty limit text (Err Memory) = Unit {0}
