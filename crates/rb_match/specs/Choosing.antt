-- What code that chooses a match's clause owes, and what code that binds a pattern's variables owes. A sheet is the
-- code and the number of slots so far: `old` before some code is appended, `new` behind it. `agreed` is the program
-- with the layouts of its types, a plan of it those with the switches that its matches may cost. `words` are the
-- slots of a value's words. A memory is good where it is one that can come to be; `clean` asks that bits that no part
-- of a value takes are 0. `bound` lists variables, each with its type and the slots of its value.
use Rattle.std.specs.Prelude.{◌≡◌, ℕ, ◌≤◌, ◌⊎◌, List, [], ◌∷◌, length, Bool, true, Some}
use Rattle.rb_core.specs.declared.value.Value.{Value}
use Rattle.rb_core.specs.declared.types.Ty.{Ty}
use Rattle.rb_core.specs.declared.types.DataDecl.{DataDecl}
use Rattle.rb_core.specs.declared.pattern.Pat.{Pat}
use Rattle.rb_core.specs.Clauses.{PatternIsTyped}
use Rattle.rb_core.specs.Inference.{binders}
use Rattle.rb_core.specs.Matching.{IsExhaustive, bindings, chosen_clause, matches_of}
use Rattle.rb_bytes.specs.Memory.{Memory, IsGood}
use Rattle.rb_target.specs.declared.body.Hole.{Hole}
use Rattle.rb_target.specs.Growth.{Nowhere}
use Rattle.rb_target.specs.Meaning.{slots_at}
use Rattle.rb_target.specs.Sheet.{Sheet}
use Rattle.rb_layout.specs.declared.agreed.LaidOut.{LaidOut}
use Rattle.rb_fragment.specs.declared.held.Local.{Local}
use Rattle.rb_fragment.specs.Adding.{Adds}
use Rattle.rb_fragment.specs.Holding.{AreGiven, Holds, IsOfLocal, scope_of}
use Rattle.rb_fragment.specs.Pieces.{AtEnd, Branches, CodePiece}
use Rattle.rb_fragment.specs.Plan.{Plan, Rep, words_needed}
use Rattle.rb_fragment.specs.Slots.{AllBelow, IsOneOf}
use Rattle.rb_fetch.specs.Finding.{IsPlanOf}
use Rattle.rb_match.specs.Bounding.{binding_bound, choosing_bound}

-- Choosing --------------------------------------------------------------------------------------

-- each pattern of the list is typed at t, the type of the value that is matched; so it is of no patterns
abbrev pub PatternsAreTyped : List DataDecl → Ty → List Pat → Type 0
PatternsAreTyped types t [] = Unit {0}
PatternsAreTyped types t (p ∷ ps) = PatternIsTyped types t p × PatternsAreTyped types t ps

-- the words represent, in memory m, a value of type t that chooses clause k of these patterns
pub record WordsChoose (plan : Plan) (t : Ty) (pats : List Pat) (k : ℕ) (ws : List ℕ) (m : Memory) : Type 0 where
  pub clean : Bool
  pub value : Value
  pub represents : Rep plan m clean t value ws
  pub chosen : chosen_clause pats value ≡ Some k

-- Run on words of a value, the appended code leaves by a hole (an open target, with the number of a clause) of the
-- clause that the value chooses, within the share of the bound that is left to choosing, and keeps all slots that
-- there were.
abbrev pub ChoosesClause : LaidOut → Ty → List Pat → List ℕ → Sheet → Sheet → List Hole → Type 0
ChoosesClause agreed t pats words old new holes =
    (plan : Plan) → IsPlanOf agreed plan → PatternsAreTyped plan.program.types t pats
    → IsExhaustive plan.program.types t pats → AllBelow old.slots words → length words ≡ words_needed plan t
    → Branches plan old.slots old new holes (choosing_bound plan.program.types plan.layouts t pats)
    (λ k s m. WordsChoose plan t pats k (slots_at s words) m) (λ k s m. Unit {0})

-- Binding ---------------------------------------------------------------------------------------

-- Run on the words of a value of type t that the pattern matches, the appended code leaves what the pattern binds in
-- slots that are new or the value's own, and goes on at its end. It keeps all slots that there were, and does at most
-- as many switches as are left to binding.
pub record Binds (plan : Plan) (pat : Pat) (t : Ty) (words : List ℕ) (old new : Sheet)
    (bound : List Local) : Type 0 where
  pub adds : Adds plan old new
  pub scope : scope_of bound ≡ binders plan.program.types pat t
  pub given : AreGiven plan new.slots bound
  pub origin : (x : ℕ) → IsOfLocal x bound → (old.slots ≤ x) ⊎ IsOneOf x words
  pub runs : (clean : Bool) (v : Value) → matches_of pat v ≡ true
      → CodePiece plan old.slots old new Nowhere (binding_bound plan.program.types plan.layouts t pat)
      (λ s m. IsGood m × Rep plan m clean t v (slots_at s words))
      (AtEnd new (λ s m. Holds plan clean s m bound (bindings pat v)))

-- in each plan of the layouts, and where each word of type t has a slot that there was, the appended code binds the
-- variables of a pattern that matches the value in these slots
abbrev pub BindsPattern : LaidOut → Ty → Pat → List ℕ → Sheet → Sheet → List Local → Type 0
BindsPattern agreed t pat words old new bound =
    (plan : Plan) → IsPlanOf agreed plan → AllBelow old.slots words → length words ≡ words_needed plan t
    → Binds plan pat t words old new bound
