-- The laws of calls and of parts.
use Rattle.std.specs.Prelude.{◌≡◌, ℕ, List, [], map, Some, slice_get}
use Rattle.rb_core.specs.declared.value.Value.{Value}
use Rattle.rb_core.specs.declared.types.Ty.{Ty}
use Rattle.rb_core.specs.declared.program.Fun.{Fun}
use Rattle.rb_core.specs.declared.outcome.Outcome.{Outcome}
use Rattle.rb_core.specs.Meaning.{Calls, Meaning, all_of, then_with}
use Rattle.rb_target.specs.Sheet.{Sheet}
use Rattle.rb_fragment.specs.declared.held.Held.{Held}
use Rattle.rb_fragment.specs.declared.held.Local.{Local}
use Rattle.rb_fragment.specs.Plan.{Plan, words_needed, types_of}
use Rattle.rb_fragment.specs.Slots.{slots_from}
use Rattle.rb_fragment.specs.Holding.{AllGiven, held_type, scope_of}
use Rattle.rb_fragment.specs.Fragments.{AnyValues, Applies, Emits, EmitsAll, with_call}

-- a call instruction over held arguments of the right types does what the call of the source does, wherever it stands
abbrev pub CallsApply : Type 0
CallsApply =
    (plan : Plan) (a : Sheet) (g : ℕ) (f : Fun) (hs : List Held) → slice_get plan.program.funs g ≡ Some f
    → map held_type hs ≡ types_of f
    → AllGiven plan a.slots hs
    → Applies plan AnyValues (λ calls vs left. calls g left vs) hs a (with_call plan a g f hs) f.result
    (slots_from a.slots (words_needed plan f.result))

-- code that leaves the values of parts, and behind it code that does f of them, is code for the expression that
-- does both, the parts from left to right
abbrev pub PartsThenApply : Type 0
PartsThenApply =
    (plan : Plan) (ts : List Ty) (ls : List Local) (ms : Calls → List Meaning)
    (f : Calls → List Value → ℕ → Outcome) (a b c : Sheet)
    (hs : List Held) (t : Ty) (slots : List ℕ) → EmitsAll plan AnyValues ms ts ls a b hs
    → Applies plan AnyValues f hs b c t slots
    → Emits plan (λ calls left env. then_with (all_of (ms calls) ts (scope_of ls) [] left env) (f calls)) ls a c t slots
