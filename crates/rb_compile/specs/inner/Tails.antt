-- What is promised of code in a tail position, where a value is the function's result: each way through it returns. A
-- sheet is code that is not finished, with the number of its slots; code is appended to an old one, and gives the new
-- one: the code from a to d is what d has behind the end of a. An arm is the code of one clause of a match, and
-- `starts` are the numbers of the arms' first instructions. A plan has a program with its layouts; f is the number of
-- a function, t the type of its result, s the type of a match's scrutinee, the value that is matched, which is held
-- in slots, and ls or `locals` are the variables that are bound, each with its slots. A target is the number of an
-- instruction to which a jump or a switch leads.
use Rattle.std.specs.Prelude.{◌≡◌, ℕ, ◌+◌, ◌<◌, ◌≤◌, ◌⊎◌, Bool, true, List, ◌++◌, length, Some, slice_get, slice_index}
use Rattle.rb_core.specs.declared.value.Value.{Value}
use Rattle.rb_core.specs.declared.types.Ty.{Ty}
use Rattle.rb_core.specs.declared.binding.Binding.{Binding}
use Rattle.rb_core.specs.declared.outcome.Outcome.{Outcome}
use Rattle.rb_core.specs.declared.expression.Clause.{Clause}
use Rattle.rb_core.specs.declared.expression.Expr.{Expr}
use Rattle.rb_core.specs.Matching.{bindings, matches_of}
use Rattle.rb_core.specs.Meaning.{Calls, meaning_of}
use Rattle.rb_bytes.specs.Memory.{Memory, IsGood}
use Rattle.rb_target.specs.declared.instr.Instr.{Instr}
use Rattle.rb_target.specs.declared.instr.Instr.TheVariants.{Return}
use Rattle.rb_target.specs.Growth.{AgreesBut, Grows, Nowhere}
use Rattle.rb_target.specs.Laws.{Law}
use Rattle.rb_target.specs.Meaning.{World, Next, Callee, slots_at}
use Rattle.rb_target.specs.Sheet.{Sheet}
use Rattle.rb_target.specs.Validity.{EndsInReturn, IsBounded, SlotsFit, TargetsFit}
use Rattle.rb_fragment.specs.declared.held.Held.{Held}
use Rattle.rb_fragment.specs.declared.held.Local.{Local}
use Rattle.rb_fragment.specs.Adding.{CallsWell, IsWrittenFrom}
use Rattle.rb_fragment.specs.Holding.{Holds}
use Rattle.rb_fragment.specs.Owing.{Does, GivesValue, CallsAgree}
use Rattle.rb_fragment.specs.Plan.{Plan, Rep, words_needed}
use Rattle.rb_fragment.specs.Slots.{AllFrom}
use Rattle.rb_match.specs.Bounding.{binding_bound}
use Rattle.rb_compile.specs.inner.Ready.{ExprIsReady}
use Rattle.rb_compile.specs.inner.Forms.{meaning_within}
use Rattle.rb_compile.specs.inner.Arms.{ClauseIsReady, GroundIsReady, clause_scope}

-- What such code is

-- a return of as many words as a value of type t has
abbrev pub IsReturn : Plan → Ty → Instr → Type 0
IsReturn plan t i = (froms : List ℕ) × (i ≡ Return froms) × (length froms ≡ words_needed plan t)

-- instruction i with number pc fits code of so many slots and `long` instructions: nothing stands behind the last, so
-- no target does; what calls or returns does so with as many words as the program's types have
pub record FitsTail (plan : Plan) (t : Ty) (slots long pc : ℕ) (i : Instr) : Type 0 where
  pub bounded : IsBounded i
  pub slots_fit : SlotsFit slots i
  pub targets : TargetsFit long pc i
  pub calls : CallsWell plan i ⊎ IsReturn plan t i

-- instructions and slots are appended to the old sheet; each new slot is written, and each new instruction fits
pub record AddsTail (plan : Plan) (t : Ty) (old new : Sheet) : Type 0 where
  pub grows : Grows old.code new.code
  pub more : old.slots ≤ new.slots
  pub params : new.params ≡ old.params
  pub written : (s : ℕ) → old.slots ≤ s → s < new.slots → IsWrittenFrom new.code (length old.code) s
  pub fine : (pc : ℕ) (i : Instr) → length old.code ≤ pc → slice_get new.code pc ≡ Some i
      → FitsTail plan t new.slots (length new.code) pc i

-- there is code behind that of the old sheet, and its last instruction is a return
pub record IsTail (plan : Plan) (t : Ty) (old new : Sheet) : Type 0 where
  pub adds : AddsTail plan t old new
  pub longer : length old.code < length new.code
  pub ends : EndsInReturn new.code

-- What it does

-- From the end of the old code the run does what o does and returns the value's words, wherever Pre holds of its
-- slots and its memory, with at most so many extra switches: in any finished code that has the new code, and with any
-- calls that are the source's.
pub record Tail (plan : Plan) (clean : Bool) (calls : Calls) (extra : ℕ) (old new : Sheet)
    (Pre : List ℕ → Memory → Type 0) (o : ℕ → Outcome) (t : Ty) : Type 0 where
  pub runs : (final : List Instr) (callee : Callee) (next : Next)
      → Law final callee next → CallsAgree plan calls callee
      → AgreesBut final new.code (length old.code) (length new.code) Nowhere
      → (s : List ℕ) (w : World) → new.slots ≤ length s → IsGood w.memory → Pre s w.memory
      → Does plan (w.switches + extra) (next (length old.code) s w) w.memory (o w.left)
      (GivesValue plan clean t (next (length old.code) s w))

-- the appended code returns what ev gives of what calls do, of the calls that are left, and of the variables' values
pub record EmitsTail (plan : Plan) (ev : Calls → ℕ → List Binding → Outcome) (locals : List Local)
    (old new : Sheet) (t : Ty) : Type 0 where
  pub tail : IsTail plan t old new
  pub does : (calls : Calls) (clean : Bool) (env : List Binding)
      → Tail plan clean calls 0 old new (λ s m. Holds plan clean s m locals env) (λ left. ev calls left env) t

-- where the expression is ready at type t, the appended code returns its value
abbrev pub EmitsReturn : Plan → ℕ → Expr → Ty → List Local → Sheet → Sheet → Type 0
EmitsReturn plan f e t locals old new =
    ExprIsReady plan f e (Some t) locals old.slots t
    → EmitsTail plan (meaning_within plan f e (Some t) locals) locals old new t

-- Arms

-- the code from a to d does clause c on each value in the slots xs that its pattern matches, and returns; of its own
-- it takes no more switches than those that bind the pattern's variables
pub record DoesTailArm (plan : Plan) (f : ℕ) (c : Clause) (ls : List Local) (s t : Ty) (xs : List ℕ)
    (a d : Sheet) : Type 0 where
  pub tail : IsTail plan t a d
  pub does : (calls : Calls) (clean : Bool) (env : List Binding) (v : Value) → matches_of c.pat v ≡ true
      → Tail plan clean calls (binding_bound plan.program.types plan.layouts s c.pat) a d
      (λ sl m. Rep plan m clean s v (slots_at sl xs) × Holds plan clean sl m ls env)
      (λ left. meaning_of plan.program calls f c.body (Some t) (clause_scope plan c ls s) left
      (env ++ bindings c.pat v)) t

-- where the clause and what stands before the match are ready, the code from a to d does the clause and returns
abbrev pub EmitsTailArm : Plan → ℕ → Clause → Ty → List Local → Held → Sheet → Sheet → Type 0
EmitsTailArm plan f c t ls held a d =
    (s : Ty) (n : ℕ) → ClauseIsReady plan f c (Some t) ls s t → GroundIsReady plan ls held s n a.slots
    → DoesTailArm plan f c ls s t held.slots a d

-- an arm that stands behind e in longer code q, from start on: what it does, `DoesArm`, is said of the sheet before
-- it and of the one behind it
pub record TailArmIn (e q : Sheet) (start : ℕ) (DoesArm : Sheet → Sheet → Type 0) : Type 0 where
  pub first : Sheet
  pub last : Sheet
  pub begins : start ≡ length first.code
  pub behind : length e.code ≤ length first.code
  pub some : length first.code < length last.code
  pub longer : Grows last.code q.code
  pub more : last.slots ≤ q.slots
  pub does : DoesArm first last

-- the first `count` arms of a match stand behind e in longer code q, each at its start; `DoesArm` says what the arm
-- of each number does
abbrev pub TailArmsIn : ℕ → Sheet → Sheet → List ℕ → (ℕ → Sheet → Sheet → Type 0) → Type 0
TailArmsIn count e q starts DoesArm = (k : ℕ) → k < count → TailArmIn e q (slice_index starts k) (DoesArm k)

-- so many arms behind e in longer code q, whatever they do: where they begin
pub record TailArmsAre (count : ℕ) (e q : Sheet) (starts : List ℕ) : Type 0 where
  pub grows : Grows e.code q.code
  pub starts_from : AllFrom (length e.code) starts
  pub count_is : length starts ≡ count

-- the code from a to d does the clause with number k of the clauses cs, if there is one, and returns
abbrev pub DoesTailNumber :
    Plan → ℕ → List Clause → List Local → Ty → Ty → List ℕ → ℕ → Sheet → Sheet → Type 0
DoesTailNumber plan f cs ls s t xs k a d =
    (c : Clause) → slice_get cs k ≡ Some c → DoesTailArm plan f c ls s t xs a d

-- the first i arms of the clauses cs stand behind e, and each returns; where there is one, a return is last
pub record TailArmsDone (plan : Plan) (f i : ℕ) (cs : List Clause) (ls : List Local) (s t : Ty) (xs : List ℕ)
    (e q : Sheet) (starts : List ℕ) : Type 0 where
  pub adds : AddsTail plan t e q
  pub ends : 0 < i → (length e.code < length q.code) × EndsInReturn q.code
  pub arms : TailArmsIn i e q starts (DoesTailNumber plan f cs ls s t xs)

-- the clauses are ready, each at the type of the match
abbrev pub TailsAreReady : Plan → ℕ → List Clause → List Local → Ty → Ty → Type 0
TailsAreReady plan f cs ls s t =
    (k : ℕ) (c : Clause) → slice_get cs k ≡ Some c → ClauseIsReady plan f c (Some t) ls s t

-- where the clauses and what stands before the match are ready, the first i arms stand behind e, and each returns
abbrev pub EmitsTailArms :
    Plan → ℕ → ℕ → List Clause → Ty → List Local → Held → Sheet → Sheet → List ℕ → Type 0
EmitsTailArms plan f i cs t ls held e q starts =
    (s : Ty) (n : ℕ) → TailsAreReady plan f cs ls s t → GroundIsReady plan ls held s n e.slots
    → TailArmsDone plan f i cs ls s t held.slots e q starts
