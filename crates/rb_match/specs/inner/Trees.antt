-- The code of a decision tree. A hole is an open target of the code, with the number of the clause to which it is to
-- lead. An edge is a hole for a node instead; a tree's code leaves by none, since each is closed once its node has
-- code. A way through the tree is the positions that are tested from its root down to one clause, one after another.
-- A position is the numbers of the fields that lead from the value to a part of it; a place is a position and the
-- type there. A read says where a word of the value is: bits of slots and of memory. `words` are the reads of the
-- value's words, `ty` is its type, and `pats` are the patterns of the clauses. A sheet is the code and the number of
-- slots so far: `old` before the tree's code, `new` behind it; the finished code `final` is that of a whole function.
-- `agreed` is a program with layouts that agree with its types; a plan of it has these, and the switches that its
-- matches may cost. A look is code that finds the leaf, or the number, of the part at a place.
use Rattle.std.specs.Prelude.{◌≡◌, ℕ, ◌≤◌, List, map, length, Bool, Some}
use Rattle.rb_core.specs.declared.value.Value.{Value}
use Rattle.rb_core.specs.declared.types.Ty.{Ty}
use Rattle.rb_core.specs.declared.pattern.Pat.{Pat}
use Rattle.rb_decide.specs.declared.decision_graph.Graph.{Graph}
use Rattle.rb_decide.specs.declared.decision_tree.Tree.{Tree}
use Rattle.rb_decide.specs.Graphs.{LinksAreLower, unfolding_of}
use Rattle.rb_decide.specs.Trees.{clause_taken, ways}
use Rattle.rb_bytes.specs.Memory.{IsGood}
use Rattle.rb_target.specs.declared.instr.Instr.{Instr}
use Rattle.rb_target.specs.declared.body.Hole.{Hole}
use Rattle.rb_target.specs.Laws.{Law}
use Rattle.rb_target.specs.Meaning.{World, Next, Callee}
use Rattle.rb_target.specs.Sheet.{Sheet}
use Rattle.rb_target.specs.Targets.{Finishes}
use Rattle.rb_layout.specs.declared.agreed.LaidOut.{LaidOut}
use Rattle.rb_fragment.specs.declared.reads.Read.{Read}
use Rattle.rb_fragment.specs.Plan.{Plan, Rep, words_needed}
use Rattle.rb_fragment.specs.Adding.{Adds}
use Rattle.rb_fragment.specs.Pieces.{GoesOutBy}
use Rattle.rb_fragment.specs.WordReads.{AreMeant, AllFit}
use Rattle.rb_fetch.specs.Finding.{IsPlanOf}
use Rattle.rb_facts.specs.Looks.{TypedPosition}
use Rattle.rb_facts.specs.Places.{IsLookedAt, IsPlaceIn}
use Rattle.rb_facts.specs.Ways.{HasWay, path_of, looks}

-- the run, from instruction `start` with the slots s and the world w, leaves by a hole of clause k, after looks at
-- the places of one way through the tree: with at most the switches of these, and the first n slots kept
pub record LeavesTree (plan : Plan) (ty : Ty) (pats : List Pat) (tree : Tree) (final : List Instr) (next : Next)
    (holes : List Hole) (n start : ℕ) (s : List ℕ) (w : World) (k : ℕ) : Type 0 where
  pub path : List TypedPosition
  pub is_way : HasWay (ways tree) (map path_of path)
  pub looked : (p : TypedPosition) → IsPlaceIn p path → IsLookedAt plan.program.types ty pats p.path p.ty
  pub leaves : GoesOutBy final next holes n (looks plan path) start s w k (λ s' m. Unit {0})

-- what the code of a decision tree owes in one plan: the code from old to new, over reads of the words of a value of
-- type ty, adds to the old code, and each run of it, in any finished code that closes its holes, leaves by a hole of
-- the clause that the tree takes of the value; of a value of which the tree takes no clause it says nothing
pub record TakesTreeIn (plan : Plan) (ty : Ty) (words : List Read) (pats : List Pat) (tree : Tree) (old new : Sheet)
    (holes : List Hole) : Type 0 where
  pub adds : Adds plan old new
  pub leaves : (final : List Instr) (callee : Callee) (next : Next) → Law final callee next
      → Finishes final new.code holes (length old.code) (length new.code)
      → (s : List ℕ) (w : World) (v : Value) (clean : Bool) (ws : List ℕ) (k : ℕ) → new.slots ≤ length s
      → IsGood w.memory → AreMeant words s w.memory ws → Rep plan w.memory clean ty v ws
      → clause_taken tree v ≡ Some k → LeavesTree plan ty pats tree final next holes old.slots (length old.code) s w k

-- in each plan of the layouts the code from old to new, over reads of the value's words, leads each value out by a
-- hole of the clause that the tree takes of it
abbrev pub TakesTree : LaidOut → Ty → List Read → List Pat → Tree → Sheet → Sheet → List Hole → Type 0
TakesTree agreed ty words pats tree old new holes =
    (plan : Plan) → IsPlanOf agreed plan → ((k : ℕ) → old.slots ≤ k → AllFit k words) → length words
    ≡ words_needed plan ty
    → TakesTreeIn plan ty words pats tree old new holes

-- the code from old to new leads each value out by a hole of the clause that the tree takes to which the graph
-- unfolds, whatever tree that is
abbrev pub TakesShared : LaidOut → Ty → List Read → List Pat → Graph → Sheet → Sheet → List Hole → Type 0
TakesShared agreed ty words pats graph old new holes =
    (tree : Tree) → unfolding_of graph ≡ Some tree → LinksAreLower graph.nodes
    → TakesTree agreed ty words pats tree old new holes
