-- What is promised of the code of expressions. A sheet is code that is not finished, with the number of its slots;
-- code is appended to an old one, and gives the new one. Values are held: they stand in slots, a word each. `locals`
-- are the variables that are bound, each with its type and its slots. A plan has a program with its layouts, and f is
-- the number of a function. What is `wanted` of an expression is the type that its place asks for, or nothing. An
-- expression is ready where it has a type, its numbers name something, its matches are exhaustive and paid for, and
-- its variables have slots. What it shows of its value is a pattern: the constructors that are written in it.
use Rattle.std.specs.Prelude.{◌≡◌, ◌==◌, ℕ, max, List, [], ◌∷◌, map, take, Option, Some, None, if◌then◌else◌, slice_index}
use Rattle.rb_core.specs.declared.types.Ty.{Ty}
use Rattle.rb_core.specs.declared.types.Ty.TheVariants.{Int}
use Rattle.rb_core.specs.declared.binding.Binding.{Binding}
use Rattle.rb_core.specs.declared.outcome.Outcome.{Outcome}
use Rattle.rb_core.specs.declared.expression.Expr.{Expr}
use Rattle.rb_core.specs.declared.expression.Op.{Op}
use Rattle.rb_core.specs.Inference.{width_of}
use Rattle.rb_core.specs.Meaning.{Calls, meaning_of}
use Rattle.rb_target.specs.declared.instr.Instr.{Instr}
use Rattle.rb_target.specs.declared.instr.Instr.TheVariants.{Alu, Const, Take}
use Rattle.rb_target.specs.Operators.{alu_op_of}
use Rattle.rb_target.specs.Sheet.{Sheet, with_more, with_slot}
use Rattle.rb_fragment.specs.declared.held.Held.{Held}
use Rattle.rb_fragment.specs.declared.held.Local.{Local}
use Rattle.rb_fragment.specs.Plan.{Plan, words_needed}
use Rattle.rb_fragment.specs.Slots.{slots_from}
use Rattle.rb_fragment.specs.Fragments.{Emits, EmitsAll}
use Rattle.rb_fragment.specs.Holding.{AreGiven, scope_of}
use Rattle.rb_fetch.specs.Constructing.{AreAsShown}
use Rattle.rb_compile.specs.inner.Ready.{ExprIsReady, AreReady}
use Rattle.rb_compile.specs.inner.Shown.{shown_of}

-- what an expression of function f means where its variables have the values env, `calls` gives what calls of
-- functions do, and so many calls are left
abbrev pub meaning_within : Plan → ℕ → Expr → Option Ty → List Local → Calls → ℕ → List Binding → Outcome
meaning_within plan f e wanted locals calls left env = meaning_of plan.program calls f e wanted (scope_of locals) left env

-- where the expression is ready, the appended code leaves its value, of its type t, in the slots of `held`
abbrev pub EmitsExpr : Plan → ℕ → Expr → Option Ty → List Local → Sheet → Sheet → Held → Type 0
EmitsExpr plan f e wanted locals old new held =
    (t : Ty) → ExprIsReady plan f e wanted locals old.slots t
    → (held.ty ≡ t) × Emits plan (meaning_within plan f e wanted locals) locals old new t held.slots

-- where the expressions es are ready at the types ts, the appended code leaves the values of the first n of them in
-- the slots of hs, each at its wanted type; these values are as the expressions show
abbrev pub EmitsFirst : Plan → ℕ → ℕ → List Expr → List Ty → List Local → Sheet → Sheet → List Held → Type 0
EmitsFirst plan f n es ts locals old new hs =
    AreReady plan f es ts locals old.slots → AreGiven plan old.slots locals
    → EmitsAll plan (AreAsShown (map shown_of (take n es)))
    (λ calls. map (meaning_of plan.program calls f) (take n es)) ts locals old new hs

-- the width in bits that an instruction states for an integer type; at least 1, since no typed program has an integer
-- of no bits
abbrev pub stated_width : Ty → ℕ
stated_width t = max 1 (width_of t)

-- one instruction is appended, and its value of type t stands in a new slot
abbrev pub IsOne : Sheet → Instr → Ty → Sheet → Held → Type 0
IsOne old i t new held = (new ≡ with_more (with_slot old) i) × (held ≡ record { ty = t; slots = old.slots ∷ [] })

-- the instruction of an operator on two values of type t that are held, a word each: the result goes to a new slot
abbrev pub alu_on : Sheet → Op → Ty → Held → Held → Instr
alu_on b op t x y = Alu (alu_op_of op) (stated_width t) b.slots (slice_index x.slots 0) (slice_index y.slots 0)

-- the instruction that takes so many low bits of a value that is held in a word to a new slot
abbrev pub low_bits_of : Sheet → Held → ℕ → Instr
low_bits_of b x bits = Take b.slots (slice_index x.slots 0) 0 bits

-- a value of type t in new slots, which are those behind the slots of the sheet b
abbrev pub new_held : Plan → Sheet → Ty → Held
new_held plan b t = record { ty = t; slots = slots_from b.slots (words_needed plan t) }

-- the slots and the type of the last of the variables that has number x, or d where none has
abbrev pub held_or : Option Held → ℕ → List Local → Option Held
held_or d x [] = d
held_or d x (l ∷ ls) = held_or (if l.var == x then Some (record { ty = l.ty; slots = l.slots }) else d) x ls

-- a variable that is held takes no code; one that is bound nowhere is 0, as in the meaning, in a new slot
abbrev pub IsHeldOrZero : Option Held → Sheet → Sheet → Held → Type 0
IsHeldOrZero None old new held = IsOne old (Const old.slots 0) (Int 64) new held
IsHeldOrZero (Some h) old new held = (new ≡ old) × (held ≡ h)

-- variable number x takes no code where it is among those that are bound, and is 0 in a new slot where it is not
abbrev pub VariableIs : List Local → ℕ → Sheet → Sheet → Held → Type 0
VariableIs ls x old new held = IsHeldOrZero (held_or None x ls) old new held
