-- Edges that are open in code. A hole is a target of a jump or a switch that is still open. An edge is a way out of the
-- code: a hole, whose `leaf` is the number of the node to which it is to lead, with what is known of the value there. A
-- sheet is the code and the number of slots so far: `old` before some code is appended, `new` behind it.
use Rattle.std.specs.Prelude.{◌≡◌, ℕ, ◌≤◌, List, map, length}
use Rattle.rb_target.specs.declared.instr.Instr.{Instr}
use Rattle.rb_target.specs.declared.body.Hole.{Hole}
use Rattle.rb_target.specs.Sheet.{Sheet, IsHole}
use Rattle.rb_facts.specs.declared.knowledge.Edge.{Edge}
use Rattle.rb_facts.specs.Knowing.{IsEdge}

-- the hole of an edge
abbrev pub hole_of : Edge → Hole
hole_of e = e.hole

-- the holes of edges, in their order
abbrev pub holes_of : List Edge → List Hole
holes_of es = map hole_of es

-- each of these edges is a hole of the code, at an instruction with the number `from` or a later one
abbrev pub AreOpen : ℕ → List Instr → List Edge → Type 0
AreOpen from code edges = (e : Edge) → IsEdge e edges → (from ≤ e.hole.pc) × IsHole code e.hole

-- edges by the same instruction and the same arm of it lead to the same node, since they have one target
abbrev pub LeadOneWay : List Edge → Type 0
LeadOneWay edges =
    (e f : Edge) → IsEdge e edges → IsEdge f edges → e.hole.pc ≡ f.hole.pc → e.hole.arm ≡ f.hole.arm
    → e.hole.leaf ≡ f.hole.leaf

-- edges are open in the code from old to new, and each target of theirs leads to one node
pub record StandOpen (old new : Sheet) (edges : List Edge) : Type 0 where
  pub are_open : AreOpen (length old.code) new.code edges
  pub one : LeadOneWay edges
