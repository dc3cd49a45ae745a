-- What is kept of a value while it is read, and what is answered at its end. A state is where reading stands: which
-- names have fields that are not yet whole, and what may come next. Nodes are the numbers and names of a value's
-- text; one that does not fit its type is told by its byte. Want of memory says nothing of the text.
use Rattle.std.specs.Prelude.{◌≡◌, ℕ, ◌<◌, ◌≤◌, List, [], Option, Some, None, Result, Ok, Err}
use Rattle.rb_core.specs.declared.value.Value.{Value}
use Rattle.rb_core.specs.declared.types.Ty.{Ty}
use Rattle.rb_core.specs.declared.types.DataDecl.{DataDecl}
use Rattle.rb_values.specs.declared.typing.Typing.{Typing}
use Rattle.rb_values.specs.declared.fault.ValueFault.{ValueFault}
use Rattle.rb_values.specs.declared.fault.ValueFault.TheVariants.{ValueSyntax, ValueTooLarge, ValueType, Memory}
use Rattle.rb_values.specs.Terms.{Term, term_nodes}
use Rattle.rb_values.specs.Fitting.{misfits, first, value_of}
use Rattle.rb_values.specs.inner.States.{State, term_of, outline_of}
use Rattle.rb_values.specs.inner.Typing.{IsTyped}

-- what may be kept of state s, where a value of type `root` is read: nothing, only where it has more than `limit`
-- nodes; or how it fits that type so far
abbrev pub TypingIsKept : List DataDecl → Ty → ℕ → State → Option Typing → Type 0
TypingIsKept types root limit s None = limit < (outline_of s).nodes
TypingIsKept types root limit s (Some t) = IsTyped types root s t

-- what is answered for a term that is read whole: its value, where it fits the type, or the
-- first node that does not fit
abbrev pub IsSettled : List DataDecl → Ty → Term → Result Value ValueFault → Type 0
IsSettled types ty t (Ok v) = (misfits types t ty ≡ []) × (v ≡ value_of types t ty)
IsSettled types ty t (Err (ValueSyntax p)) = ⊥
IsSettled types ty t (Err ValueTooLarge) = ⊥
IsSettled types ty t (Err (ValueType p)) = first (misfits types t ty) ≡ Some p
IsSettled types ty t (Err Memory) = Unit {0}

-- what is answered where a text of `len` bytes ends in state s: its value; or that no value is whole there, that it
-- has more than `limit` nodes, or the first node that does not fit
abbrev pub IsFinished : List DataDecl → Ty → ℕ → State → ℕ → Result Value ValueFault → Type 0
IsFinished types ty limit s len (Ok v) = (t : Term) × (term_of s ≡ Some t) × (term_nodes t ≤ limit)
    × (misfits types t ty ≡ []) × (v ≡ value_of types t ty)
IsFinished types ty limit s len (Err (ValueSyntax p)) = (p ≡ len) × (term_of s ≡ None)
IsFinished types ty limit s len (Err ValueTooLarge) = (t : Term) × (term_of s ≡ Some t) × (limit < term_nodes t)
IsFinished types ty limit s len (Err (ValueType p)) = (t : Term) × (term_of s ≡ Some t) × (term_nodes t ≤ limit)
    × (first (misfits types t ty) ≡ Some p)
IsFinished types ty limit s len (Err Memory) = Unit {0}
