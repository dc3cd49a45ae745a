-- What facts on a value tell of its parts, and so decide of tests. A position is the numbers of the fields that lead from
-- the value to a part of it. The facts `known` say which leaves parts have and which spots, slots in which parts are
-- saved, hold theirs. A leaf is one of the forms in which a layout stores the values of a data type; its provenance is
-- the pattern of these values. A view is a value, and the run in which facts are so of it. A test looks at the part at a
-- position of a value of type `ty`, at which some of the patterns `pats` look: its `arms` lead to nodes by what the part
-- begins with, and all other values to node `other`, if there is one. An edge is an open target of the code, for the
-- node to which it is to lead. `agreed` is a program with layouts that agree with its types; a plan of it has these, and
-- the switches that its matches may cost.
use Rattle.std.specs.Prelude.{◌≡◌, ℕ, ◌+◌, ◌≤◌, List, [], ◌∷◌, Option, Some, true, slice_get}
use Rattle.rb_core.specs.declared.value.Value.{Value, out-Value}
use Rattle.rb_core.specs.declared.value.Value.TheOpen as V
use Rattle.rb_core.specs.declared.types.Ty.{Ty}
use Rattle.rb_core.specs.declared.pattern.Pat.{Pat}
use Rattle.rb_core.specs.Matching.{matches_of}
use Rattle.rb_core.specs.Values.{part_at}
use Rattle.rb_decide.specs.declared.decision_graph.GraphArm.{GraphArm}
use Rattle.rb_layout.specs.declared.agreed.LaidOut.{LaidOut}
use Rattle.rb_layout.specs.declared.layout.Layout.{Layout}
use Rattle.rb_layout.specs.declared.layout.Leaf.{Leaf}
use Rattle.rb_layout.specs.Positions.{layout_of, leaf_from}
use Rattle.rb_fetch.specs.Finding.{IsPlanOf}
use Rattle.rb_facts.specs.declared.knowledge.Known.{Known}
use Rattle.rb_facts.specs.declared.knowledge.Edge.{Edge}
use Rattle.rb_facts.specs.Knowing.{AreKnown, IsKnown, View}
use Rattle.rb_facts.specs.Places.{IsLookedAt}
use Rattle.rb_facts.specs.Links.{take_link}

-- value v has a part at the position, and pattern `sub` matches it
abbrev pub MatchesAt : Value → List ℕ → Pat → Type 0
MatchesAt v position sub = (part : Value) × (part_at v position ≡ Some part) × (matches_of sub part ≡ true)

-- each value that pattern `pat` matches has at the position a part that pattern `sub` matches
abbrev pub HasSub : Pat → List ℕ → Pat → Type 0
HasSub pat position sub = (v : Value) → matches_of pat v ≡ true → MatchesAt v position sub

-- each value of which the fact is known has at the position a part that pattern `sub` matches
abbrev pub Tells : LaidOut → Known → List ℕ → Pat → Type 0
Tells agreed fact position sub =
    (at : View) → IsPlanOf agreed at.plan → IsKnown at fact → MatchesAt at.value position sub

-- each value of which all these facts are known has at the position a part that pattern `sub` matches
abbrev pub TellTogether : LaidOut → List Known → List ℕ → Pat → Type 0
TellTogether agreed known position sub =
    (at : View) → IsPlanOf agreed at.plan → AreKnown at known → MatchesAt at.value position sub

-- the pattern tells the constructor: each value that it matches begins with constructor number c
abbrev pub TellsConstructor : Pat → ℕ → Type 0
TellsConstructor pat c = (v : Value) → matches_of pat v ≡ true → (us : List Value) × (out-Value v ≡ V.Con c us)

-- what is known decides a test at a position that some pattern looks at: it leads to this node whatever the value
pub record IsDecided (agreed : LaidOut) (ty : Ty) (pats : List Pat) (known : List Known) (position : List ℕ)
    (arms : List GraphArm) (other : Option ℕ) (node : ℕ) : Type 0 where
  pub at : Ty
  pub looked : IsLookedAt agreed.covered.program.types ty pats position at
  pub takes : (view : View) → IsPlanOf agreed view.plan → AreKnown view known
      → (part : Value) × (part_at view.value position ≡ Some part) × (take_link arms other (out-Value part) ≡ Some node)

-- the pattern matches all values
abbrev pub IsWild : Pat → Type 0
IsWild p = (v : Value) → matches_of p v ≡ true

-- each pattern of the list matches all values
abbrev pub AreWild : List Pat → Type 0
AreWild pats = (n : ℕ) (p : Pat) → slice_get pats n ≡ Some p → IsWild p

-- each value that the pattern matches has the leaf with this number among some leaves: it is the first of them whose
-- provenance, the pattern of a leaf's values, matches the value
abbrev pub IsFirst : List Leaf → Pat → ℕ → Type 0
IsFirst leaves pat leaf = (v : Value) → matches_of pat v ≡ true → leaf_from leaves v 0 ≡ Some leaf

-- each value that the pattern matches has leaf number `leaf` of data type t
abbrev pub IsLeafOfAll : LaidOut → ℕ → Pat → ℕ → Type 0
IsLeafOfAll agreed t pat leaf =
    (layout : Layout) × (layout_of agreed.layouts t ≡ Some layout) × IsFirst layout.leaves pat leaf

-- the fact is known of each value whose part at the position the pattern matches
abbrev pub IsAtLeaf : LaidOut → Pat → List ℕ → Known → Type 0
IsAtLeaf agreed pat position fact =
    (at : View) → IsPlanOf agreed at.plan → MatchesAt at.value position pat → IsKnown at fact

-- the fact is known wherever all facts of the list are
abbrev pub ShowTogether : LaidOut → List Known → Known → Type 0
ShowTogether agreed known fact = (at : View) → IsPlanOf agreed at.plan → AreKnown at known → IsKnown at fact

-- each edge is at a later instruction than those before it, the first at that with number `from` or a later one; so
-- it is of no edges
abbrev pub Ascend : ℕ → List Edge → Type 0
Ascend from [] = Unit {0}
Ascend from (e ∷ es) = (from ≤ e.hole.pc) × Ascend (e.hole.pc + 1) es
