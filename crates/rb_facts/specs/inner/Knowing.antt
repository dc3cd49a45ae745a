-- What follows from facts on a value, and what is shared by two lists of them. A fact says which leaf a part of the
-- value has, or that a part is saved in a spot, slots for it. A leaf is one of the forms in which a layout stores the
-- values of a data type, given by its number there. An edge is a way out of the code to a node, given by its number,
-- with what is known of the value there. `known` are facts; a view is a value, and the run in which facts are so of it.
use Rattle.std.specs.Prelude.{◌≡◌, ℕ, ◌⊎◌, List, Option}
use Rattle.rb_facts.specs.declared.knowledge.Known.{Known}
use Rattle.rb_facts.specs.declared.knowledge.Edge.{Edge}
use Rattle.rb_facts.specs.Knowing.{AreFound, AreKnown, IsKnown, IsLeafAt, View}

-- wherever these facts are so, the part at the position has this leaf of data type ty
abbrev pub FollowsLeaf : List Known → ℕ → List ℕ → ℕ → Type 0
FollowsLeaf known ty position leaf =
    (at : View) → AreKnown at known → IsLeafAt at.plan at.value position ty leaf

-- the fact is so wherever all facts of the one list are, or all of the other
abbrev pub IsShared : List Known → List Known → Known → Type 0
IsShared known other x = (at : View) → AreKnown at known ⊎ AreKnown at other → IsKnown at x

-- all facts of the list `both` are so wherever all of `known` are, or all of `other`
abbrev pub SharesKnown : List Known → List Known → List Known → Type 0
SharesKnown known other both = (at : View) → AreKnown at known ⊎ AreKnown at other → AreKnown at both

-- the facts r are so where those found at the node with this number before are, or where this edge leads to it and
-- what the edge says is so: they hold by whichever edge the node is reached; r is none only where neither can be
abbrev pub IsMet : Option (List Known) → Edge → ℕ → Option (List Known) → Type 0
IsMet found edge node r =
    (at : View) → AreFound at found ⊎ ((edge.hole.leaf ≡ node) × AreKnown at edge.known) → AreFound at r
