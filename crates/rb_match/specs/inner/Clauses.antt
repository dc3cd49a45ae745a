-- Clause by clause: code that tries one pattern of a match after another. A hole is a target of a jump or a switch
-- that is still open, with the number of what it is to lead to, its way: here mostly that of a clause, its place
-- among the patterns. A sheet is the code and the number of slots so far: `old` before some code is appended, `new`
-- behind it. `words` are reads of the words of a value of type `ty`: each says where a word is, by bits of slots and
-- of memory. `final` is the finished code of a whole function, and `next start s w` what a run in it comes to from
-- instruction `start` with the slots s and the world w. To look at a place, a position and its type, is to test what
-- stands there. `agreed` is a program with layouts that agree with its types; a plan of it has these, and the
-- switches that its matches may cost.
use Rattle.std.specs.Prelude.{◌≡◌, ℕ, ◌+◌, ◌*◌, ◌<◌, ◌≤◌, ◌==◌, List, [], ◌∷◌, length, Bool, true, false, Some, slice_get, if◌then◌else◌}
use Rattle.rb_core.specs.declared.value.Value.{Value}
use Rattle.rb_core.specs.declared.types.Ty.{Ty}
use Rattle.rb_core.specs.declared.pattern.Pat.{Pat, Wild}
use Rattle.rb_decide.specs.Trees.{match_tree}
use Rattle.rb_core.specs.Matching.{chosen_clause, matches_of}
use Rattle.rb_bytes.specs.Memory.{IsGood}
use Rattle.rb_target.specs.declared.instr.Instr.{Instr}
use Rattle.rb_target.specs.declared.body.Hole.{Hole}
use Rattle.rb_target.specs.Growth.{Grows, Keeps}
use Rattle.rb_target.specs.Laws.{Law}
use Rattle.rb_target.specs.Meaning.{World, Next, Callee}
use Rattle.rb_target.specs.Sheet.{Sheet}
use Rattle.rb_target.specs.Targets.{Finishes}
use Rattle.rb_layout.specs.declared.agreed.LaidOut.{LaidOut}
use Rattle.rb_fragment.specs.declared.reads.Read.{Read}
use Rattle.rb_fragment.specs.Arms.{AreHoles, AreOfOneWay}
use Rattle.rb_fragment.specs.Plan.{Plan, Rep, words_needed}
use Rattle.rb_fragment.specs.Adding.{Adds}
use Rattle.rb_fragment.specs.Pieces.{IsLater, GoesOutBy}
use Rattle.rb_fragment.specs.WordReads.{AreMeant, AllFit}
use Rattle.rb_fetch.specs.Finding.{IsPlanOf}
use Rattle.rb_facts.specs.Looks.{choosing_look, looks_with}
use Rattle.rb_match.specs.Bounding.{places_of_patterns}
use Rattle.rb_match.specs.inner.Trees.{TakesTree}

-- those of the holes that have the number `way`, with the number `name` instead, in their order
abbrev pub way_holes : ℕ → ℕ → List Hole → List Hole
way_holes way name [] = []
way_holes way name (h ∷ hs) =
    if h.leaf == way then record { pc = h.pc; arm = h.arm; leaf = name } ∷ way_holes way name hs
    else way_holes way name hs

-- the code leads each value out by a hole of 0 or of 1, as the decision tree of this pattern and of a wildcard behind
-- it says, whose clauses 0 and 1 are these two
abbrev pub TakesAlone : LaidOut → Ty → List Read → Pat → Sheet → Sheet → List Hole → Type 0
TakesAlone agreed ty words pat old new holes =
    TakesTree agreed ty words (pat ∷ Wild 0 ∷ [])
    (match_tree agreed.covered.program.types ty (pat ∷ Wild 0 ∷ [])) old new holes

-- the run from `start` comes to `end`, the end of the code, after at most so many switches, with the first n slots
-- kept
pub record ComesToEnd (next : Next) (n most start end : ℕ) (s : List ℕ) (w : World) : Type 0 where
  pub slots : List ℕ
  pub world : World
  pub runs : next start s w ≡ next end slots world
  pub keeps : Keeps n s slots
  pub later : IsLater most w world

-- the switches that one look at each place of a match costs at most when a clause is chosen: trying one clause costs
-- no more
abbrev pub round_of : Plan → Ty → List Pat → ℕ
round_of plan ty pats = looks_with (choosing_look plan.layouts) (places_of_patterns plan.program.types ty pats)

-- `Ends` is so of each run of the code over reads of a value of the type, in any finished code that has it, whatever
-- its open targets become
abbrev pub OnValues : Plan → Ty → List Read → Sheet → Sheet → List Hole
    → (List Instr → Next → List ℕ → World → Value → Type 0) → Type 0
OnValues plan ty words old new holes Ends =
    (final : List Instr) (callee : Callee) (next : Next) → Law final callee next
    → Finishes final new.code holes (length old.code) (length new.code)
    → (s : List ℕ) (w : World) (v : Value) (clean : Bool) (ws : List ℕ) → new.slots ≤ length s → IsGood w.memory
    → AreMeant words s w.memory ws → Rep plan w.memory clean ty v ws → Ends final next s w v

-- the code tries one clause: where its pattern matches, the run leaves by a hole of the clause's number, and else it
-- goes on behind the code
pub record ClauseTried (plan : Plan) (ty : Ty) (words : List Read) (pats : List Pat) (pat : Pat) (number : ℕ)
    (old new : Sheet) (holes : List Hole) : Type 0 where
  pub adds : Adds plan old new
  pub matched : OnValues plan ty words old new holes (λ final next s w v. matches_of pat v ≡ true
      → GoesOutBy final next holes old.slots (round_of plan ty pats) (length old.code) s w number (λ s' m. Unit {0}))
  pub other : OnValues plan ty words old new holes (λ final next s w v. matches_of pat v ≡ false
      → ComesToEnd next old.slots (round_of plan ty pats) (length old.code) (length new.code) s w)

-- a plan of the layouts, and a read for each word of the type, which fits all slots that the code has or adds
pub record IsFineFor (agreed : LaidOut) (plan : Plan) (ty : Ty) (words : List Read) (old : Sheet) : Type 0 where
  pub of : IsPlanOf agreed plan
  pub fit : (k : ℕ) → old.slots ≤ k → AllFit k words
  pub count : length words ≡ words_needed plan ty

-- holes in the code from old to new, each of one of so many clauses, and one target is of one clause
pub record HolesStand (old new : Sheet) (count : ℕ) (holes : List Hole) : Type 0 where
  pub grows : Grows old.code new.code
  pub holes_are : AreHoles (length old.code) count new.code holes
  pub ways : AreOfOneWay holes

-- the code tries the clause of this pattern, whatever other clauses the match has; its holes have the clause's number
pub record TriesClause (agreed : LaidOut) (ty : Ty) (words : List Read) (pat : Pat) (number : ℕ) (old new : Sheet)
    (holes : List Hole) : Type 0 where
  pub stand : HolesStand old new (number + 1) holes
  pub tries : (plan : Plan) → IsFineFor agreed plan ty words old → (pats : List Pat) (k : ℕ)
      → slice_get pats k ≡ Some pat → ClauseTried plan ty words pats pat number old new holes

-- the code tries the first `count` clauses of a match: where the value chooses one of them, the run leaves by a hole
-- of it, and where it chooses a later one, it goes on behind the code; each clause may cost a round of looks
pub record AllTried (plan : Plan) (ty : Ty) (words : List Read) (pats : List Pat) (count : ℕ) (old new : Sheet)
    (holes : List Hole) : Type 0 where
  pub adds : Adds plan old new
  pub chosen : OnValues plan ty words old new holes (λ final next s w v. (k : ℕ) → chosen_clause pats v ≡ Some k
      → k < count
      → GoesOutBy final next holes old.slots (count * round_of plan ty pats) (length old.code) s w k (λ s' m. Unit {0}))
  pub later : OnValues plan ty words old new holes (λ final next s w v. (k : ℕ) → chosen_clause pats v ≡ Some k
      → count ≤ k
      → ComesToEnd next old.slots (count * round_of plan ty pats) (length old.code) (length new.code) s w)

-- in each plan of the layouts the code tries the first `count` clauses of a match, and leaves by a hole of the first
-- that matches
pub record TriesAll (agreed : LaidOut) (ty : Ty) (words : List Read) (pats : List Pat) (count : ℕ) (old new : Sheet)
    (holes : List Hole) : Type 0 where
  pub stand : HolesStand old new count holes
  pub tries : (plan : Plan) → IsFineFor agreed plan ty words old → AllTried plan ty words pats count old new holes
