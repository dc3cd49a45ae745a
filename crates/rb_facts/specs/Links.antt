-- Where a test leads values. A test looks at a part of a value: by one of its `arms` it leads the part to a node by its
-- head, the constructor or number with which it begins, and other values to node `other`, if there is one. A leaf is one
-- of the forms in which a layout stores the values of data type t, given by its number; its provenance is the pattern of
-- these values. `agreed` is a program with layouts that agree with its types.
use Rattle.std.specs.Prelude.{ℕ, List, [], ◌∷◌, Option, Some, None, if◌then◌else◌}
use Rattle.rb_core.specs.declared.value.Value.{Value}
use Rattle.rb_core.specs.declared.value.Value.TheOpen as V
use Rattle.rb_core.specs.declared.value.Value.TheOpen.{Value-F}
use Rattle.rb_core.specs.declared.pattern.Pat.{out-Pat}
use Rattle.rb_matrix.specs.Heads.{layer_begins}
use Rattle.rb_decide.specs.declared.decision_graph.GraphArm.{GraphArm}
use Rattle.rb_layout.specs.declared.agreed.LaidOut.{LaidOut}
use Rattle.rb_layout.specs.declared.layout.Leaf.{Leaf}
use Rattle.rb_layout.specs.Positions.{con_of_layer, layout_of}
use Rattle.rb_fetch.specs.Finding.{leaf_within}

-- the node to which a test leads a value: that of the first arm with whose head it begins, or else the other one, if
-- there is one
abbrev pub take_link : List GraphArm → Option ℕ → Value-F Value → Option ℕ
take_link [] other tested = other
take_link (a ∷ arms) other tested = if layer_begins a.head tested then Some a.under else take_link arms other tested

-- the number of the constructor with which a leaf's provenance begins; none where there is no leaf, or it begins
-- with none
abbrev pub con_in : Option Leaf → Option ℕ
con_in None = None
con_in (Some leaf) = con_of_layer (out-Pat leaf.prov)

-- the number of the constructor with which the values of leaf l of data type t begin, if there is such a leaf and its
-- provenance begins with one
abbrev pub leaf_con : LaidOut → ℕ → ℕ → Option ℕ
leaf_con agreed t l = con_in (leaf_within (layout_of agreed.layouts t) l)

-- the node to which a test leads the values of the constructor with this number; none where the test has none for
-- them, or where no constructor is given
abbrev pub link_at : List GraphArm → Option ℕ → Option ℕ → Option ℕ
link_at arms other None = None
link_at arms other (Some c) = take_link arms other (V.Con c [])
