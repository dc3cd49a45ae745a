-- What is promised of the code of a match's arms. An arm is the code of one clause: it binds the variables of the
-- clause's pattern and does the clause's body. A sheet is code that is not finished: the code from a to d is what d
-- has behind the end of a. What a match looks at, its subject, and each variable is held: it has slots, a word each.
-- An arm leaves its value in slots that all arms share, `into`, and ends in an open jump, its join, to where all arms
-- meet. The numbers `starts` are those of the arms' first instructions. A plan has a program with its layouts; f is
-- the number of a function, ls are the variables before the match, s is the type of its scrutinee, the value that is
-- matched, t that of its value. What is `wanted` of a match or a clause is a type, or nothing.
use Rattle.std.specs.Prelude.{◌≡◌, ℕ, zero, suc, ◌≤◌, Bool, true, List, ◌++◌, length, Option, Some, None, Ok, slice_get}
use Rattle.rb_core.specs.declared.value.Value.{Value}
use Rattle.rb_core.specs.declared.types.Ty.{Ty}
use Rattle.rb_core.specs.declared.typing.Binder.{Binder}
use Rattle.rb_core.specs.declared.binding.Binding.{Binding}
use Rattle.rb_core.specs.declared.expression.Clause.{Clause}
use Rattle.rb_core.specs.Clauses.{PatternIsTyped, wanted_of}
use Rattle.rb_core.specs.Coverage.{sites}
use Rattle.rb_core.specs.Inference.{binders}
use Rattle.rb_core.specs.Matching.{bindings, matches_of}
use Rattle.rb_core.specs.Meaning.{Calls, meaning_of}
use Rattle.rb_core.specs.Typing.{type_of}
use Rattle.rb_core.specs.WellNumbered.{expression_is_numbered}
use Rattle.rb_target.specs.declared.body.Hole.{Hole}
use Rattle.rb_target.specs.Meaning.{slots_at}
use Rattle.rb_target.specs.Sheet.{Sheet}
use Rattle.rb_fragment.specs.declared.held.Held.{Held}
use Rattle.rb_fragment.specs.declared.held.Joined.{Joined}
use Rattle.rb_fragment.specs.declared.held.Local.{Local}
use Rattle.rb_fragment.specs.Adding.{Adds}
use Rattle.rb_fragment.specs.Arms.{AreShared, CodeArm, ArmsIn}
use Rattle.rb_fragment.specs.Holding.{AreGiven, Holds, scope_of}
use Rattle.rb_fragment.specs.Plan.{Plan, Rep, words_needed}
use Rattle.rb_fragment.specs.Slots.{AllBelow}
use Rattle.rb_compose.specs.Subvalues.{held_slots}
use Rattle.rb_fetch.specs.Fetching.{PlanIsSound}
use Rattle.rb_match.specs.Bounding.{binding_bound}
use Rattle.rb_compile.specs.inner.Ready.{SitesAreReady}

-- slots below n that hold a value of type s
abbrev pub IsSubject : Plan → ℕ → Held → Ty → Type 0
IsSubject plan n held s = (held.ty ≡ s) × AllBelow n held.slots × (length held.slots ≡ words_needed plan s)

-- what is wanted of the next arm: of the first what is wanted of the match, of a later one the type of what the arms
-- before it gave
abbrev pub wanted_in : Option Ty → Option Held → Option Ty
wanted_in wanted None = wanted
wanted_in wanted (Some h) = Some h.ty

-- the slots that the arms share, once an arm stands, hold a value of type t, from slot n on and below m; before that
-- nothing is said
abbrev pub IsShared : Plan → ℕ → ℕ → Ty → Option Held → Type 0
IsShared plan n m t None = Unit {0}
IsShared plan n m t (Some h) = (h.ty ≡ t) × AreShared n m (words_needed plan t) h.slots

-- the values of the arms of a match have slots just where the number of arms that stand is not 0
abbrev pub Reaches : ℕ → Option Held → Type 0
Reaches zero None = Unit {0}
Reaches zero (Some h) = ⊥
Reaches (suc i) None = ⊥
Reaches (suc i) (Some h) = Unit {0}

-- the scope in which a clause's body stands: the variables before the match, and then those that its pattern binds at
-- a scrutinee of type s
abbrev pub clause_scope : Plan → Clause → List Local → Ty → List Binder
clause_scope plan c ls s = scope_of ls ++ binders plan.program.types c.pat s

-- a clause of a match of function f, whose scrutinee is of type s: its body has type t in its scope, its pattern is
-- typed, its numbers name something, and the matches within it are exhaustive and paid for by the plan
pub record ClauseIsReady (plan : Plan) (f : ℕ) (c : Clause) (wanted : Option Ty) (ls : List Local)
    (s t : Ty) : Type 0 where
  pub sound : PlanIsSound plan
  pub typed : type_of plan.program.types plan.program.funs c.body wanted (clause_scope plan c ls s) ≡ Ok t
  pub pattern : PatternIsTyped plan.program.types s c.pat
  pub within : List ℕ
  pub numbered : expression_is_numbered plan.program.types plan.program.funs c.body within ≡ true
  pub ready_sites : SitesAreReady plan f (sites plan.program.types plan.program.funs c.body (clause_scope plan c ls s))

-- each clause of a match is ready, at type t: of the first one `wanted` is wanted, which may be no type, of the
-- others t
abbrev pub ClausesAreReady : Plan → ℕ → List Clause → Option Ty → List Local → Ty → Ty → Type 0
ClausesAreReady plan f cs wanted ls s t =
    (k : ℕ) (c : Clause) → slice_get cs k ≡ Some c → ClauseIsReady plan f c (wanted_of k wanted (Some t)) ls s t

-- before an arm whose sheet has m slots: the slots below n hold the scrutinee, of type s, and the variables ls, and n
-- is at most m
pub record GroundIsReady (plan : Plan) (ls : List Local) (held : Held) (s : Ty) (n m : ℕ) : Type 0 where
  pub subject : IsSubject plan n held s
  pub given : AreGiven plan n ls
  pub low : n ≤ m

-- the code from a to d is an arm, which does clause c on each value that its pattern matches, and takes no more
-- switches of its own than those that bind the pattern's variables; the scrutinee is in the slots xs, the first n
-- slots are kept, the value comes to the slots `into`, and `join` is the number of the open jump
pub record DoesClause (plan : Plan) (f : ℕ) (c : Clause) (wanted : Option Ty) (ls : List Local) (s t : Ty)
    (xs : List ℕ) (n : ℕ) (into : List ℕ) (a d : Sheet) (join : ℕ) : Type 0 where
  pub adds : Adds plan a d
  pub does : (calls : Calls) (clean : Bool) (env : List Binding) (v : Value) → matches_of c.pat v ≡ true
      → CodeArm plan clean calls n a d join (binding_bound plan.program.types plan.layouts s c.pat)
      (λ sl m. Rep plan m clean s v (slots_at sl xs) × Holds plan clean sl m ls env)
      (λ left. meaning_of plan.program calls f c.body wanted (clause_scope plan c ls s) left (env ++ bindings c.pat v))
      t into

-- the code from a to d is an arm for clause c, whose value is where the arms before it left theirs, `into`, or in new
-- slots where it is the first; r has these slots and the arm's open jump
pub record ArmIsDone (plan : Plan) (f : ℕ) (c : Clause) (wanted : Option Ty) (ls : List Local) (s t : Ty)
    (xs : List ℕ) (n : ℕ) (into : Option Held) (a d : Sheet) (r : Joined) : Type 0 where
  pub shared : IsShared plan n d.slots t (Some r.into)
  pub same : (h : Held) → into ≡ Some h → r.into ≡ h
  pub clause : DoesClause plan f c wanted ls s t xs n r.into.slots a d r.join.pc

-- where the clause and what stands before the match are ready, and the arms before it, if there are any, left their
-- values in slots to share, the code from a to d is an arm for the clause, whose value is where they left theirs
abbrev pub EmitsArm : Plan → ℕ → Clause → Option Ty → List Local → Held → Option Held → Sheet → Sheet → Joined → Type 0
EmitsArm plan f c wanted ls held into a d r =
    (s t : Ty) (n : ℕ) → ClauseIsReady plan f c wanted ls s t → GroundIsReady plan ls held s n a.slots
    → IsShared plan n a.slots t into → ArmIsDone plan f c wanted ls s t held.slots n into a d r

-- the code from a to d is the arm with number k of the clauses cs, if there is such a clause
abbrev pub DoesNumber : Plan → ℕ → List Clause → Option Ty → List Local → Ty → Ty → List ℕ → ℕ → List ℕ
    → ℕ → Sheet → Sheet → ℕ → Type 0
DoesNumber plan f cs wanted ls s t xs n into k a d join =
    (c : Clause) → slice_get cs k ≡ Some c → DoesClause plan f c (wanted_of k wanted (Some t)) ls s t xs n into a d join

-- in the code q the arms of the first i of the clauses cs stand behind e, and leave their values in the same slots,
-- those of `into`; no slots where that is None
pub record ArmsDone (plan : Plan) (f i : ℕ) (cs : List Clause) (wanted : Option Ty) (ls : List Local) (s t : Ty)
    (xs : List ℕ) (n : ℕ) (e q : Sheet) (into : Option Held) (joins : List Hole) (starts : List ℕ) : Type 0 where
  pub adds : Adds plan e q
  pub shared : IsShared plan n q.slots t into
  pub arms : ArmsIn i e q joins starts (DoesNumber plan f cs wanted ls s t xs n (held_slots into))

-- where the clauses and what stands before the match are ready, the arms of the first i of the clauses cs stand
-- behind e in the code q
abbrev pub EmitsArms : Plan → ℕ → ℕ → List Clause → Option Ty → List Local → Held → Sheet → Sheet
    → Option Held → List Hole → List ℕ → Type 0
EmitsArms plan f i cs wanted ls held e q into joins starts =
    (s t : Ty) (n : ℕ) → ClausesAreReady plan f cs wanted ls s t → GroundIsReady plan ls held s n e.slots
    → ArmsDone plan f i cs wanted ls s t held.slots n e q into joins starts
