-- What code that chooses the leaf of a construction owes. The arguments hs are values in slots, one a field of the
-- constructor, and what is shown of one is a pattern that it matches. A way is where runs have come to one leaf: an
-- open jump, the leaf's number, and parts of the value in slots; hole k is the jump of way k, to be set. A leaf's
-- provenance is the pattern of the values that it holds; its wildcards are the open positions. A representation is
-- clean where all bits are 0 that stand in no part of a word. A plan has a program and its layouts, and a sheet is a
-- function's code so far. A leaf is one of the forms in which a layout stores the values of a data type. To look into
-- an argument is to find its leaf, or that of a part of it, by code. `agreed` is a program with layouts that agree
-- with its types.
use Rattle.std.specs.Prelude.{◌≡◌, ℕ, List, map, Bool, true, Some, slice_get}
use Rattle.rb_core.specs.declared.value.Value.{Value, Con}
use Rattle.rb_core.specs.declared.types.Ty.{Ty}
use Rattle.rb_core.specs.declared.types.Ty.TheVariants.{Named}
use Rattle.rb_core.specs.declared.types.ConRef.{ConRef}
use Rattle.rb_core.specs.declared.pattern.Pat.{Pat}
use Rattle.rb_core.specs.Values.{fields_of, is_of_type}
use Rattle.rb_target.specs.Sheet.{Sheet}
use Rattle.rb_layout.specs.declared.agreed.LaidOut.{LaidOut}
use Rattle.rb_layout.specs.declared.layout.Layout.{Layout}
use Rattle.rb_layout.specs.declared.layout.Leaf.{Leaf}
use Rattle.rb_layout.specs.Positions.{leaf_of, layout_of, open_positions}
use Rattle.rb_rel.specs.Switches.{choose_of}
use Rattle.rb_fragment.specs.declared.held.Held.{Held}
use Rattle.rb_fragment.specs.Adding.{Adds}
use Rattle.rb_fragment.specs.Holding.{AllGiven, AreHeld, held_type}
use Rattle.rb_fragment.specs.Pieces.{Branches}
use Rattle.rb_fragment.specs.Plan.{Plan}
use Rattle.rb_compose.specs.Subvalues.{AreGivenAt, ArePartsHeld}
use Rattle.rb_fetch.specs.declared.choice.Choices.{Choices}
use Rattle.rb_fetch.specs.declared.choice.Way.{Way}
use Rattle.rb_fetch.specs.Constructing.{AreAsShown}
use Rattle.rb_fetch.specs.Finding.{IsPlanOf}

-- the way's leaf is one of the layout, and the way has a value at each open position of the leaf, in slots below n
pub record IsWay (plan : Plan) (layout : Layout) (n : ℕ) (way : Way) : Type 0 where
  pub leaf : Leaf
  pub is_leaf : slice_get layout.leaves way.leaf ≡ Some leaf
  pub given : AreGivenAt plan n (open_positions plan.program.types leaf.prov) way.fields

-- For the arguments vs there is one way, which is of the construction's leaf: where the slots of hs represent them,
-- the run leaves by that way's hole, and slots represent, as cleanly, the parts at the leaf's open positions. It does
-- no more switches than `choose_of` counts for the constructor.
pub record TakesWay (plan : Plan) (layout : Layout) (con : ConRef) (hs : List Held) (old new : Sheet)
    (choices : Choices) (vs : List Value) : Type 0 where
  pub number : ℕ
  pub way : Way
  pub is_way : slice_get choices.ways number ≡ Some way
  pub is_leaf : leaf_of layout (Con con.con vs) ≡ Some way.leaf
  pub leaves : (clean : Bool) (leaf : Leaf) → slice_get layout.leaves way.leaf ≡ Some leaf
      → Branches plan old.slots old new choices.holes (choose_of plan.layouts con.ty con.con)
      (λ k s m. (k ≡ number) × AreHeld plan clean s m hs vs)
      (λ k s m. ArePartsHeld plan clean s m (open_positions plan.program.types leaf.prov) way.fields (Con con.con vs))

-- The code from old to new looks into the arguments hs of a construction by con until its leaf is known, where each
-- argument matches the pattern that is shown of it: it takes them to a way of that leaf, one of the layout.
pub record Chooses (plan : Plan) (layout : Layout) (con : ConRef) (hs : List Held) (shown : List Pat)
    (old new : Sheet) (choices : Choices) : Type 0 where
  pub adds : Adds plan old new
  pub ways : (k : ℕ) (way : Way) → slice_get choices.ways k ≡ Some way → IsWay plan layout new.slots way
  pub takes : (vs : List Value) → AreAsShown shown vs
      → is_of_type plan.program.types (Con con.con vs) (Named con.ty) ≡ true
      → TakesWay plan layout con hs old new choices vs

-- in every plan of the agreed program, the code from old to new chooses the leaf of a construction by constructor con
-- of values that are held, one a field, and match what is shown of them
abbrev pub ChoosesLeaf : LaidOut → ConRef → List Held → List Pat → Sheet → Sheet → Choices → Type 0
ChoosesLeaf agreed con hs shown old new choices =
    (plan : Plan) → IsPlanOf agreed plan → (fields : List Ty) → fields_of plan.program.types con ≡ Some fields
    → map held_type hs ≡ fields
    → AllGiven plan old.slots hs → (layout : Layout) → layout_of plan.layouts con.ty ≡ Some layout
    → Chooses plan layout con hs shown old new choices
