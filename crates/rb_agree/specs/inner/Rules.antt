-- The rules behind that on shapes, each with its places. A place, or spot, is a type, a leaf or an item at which a
-- rule is checked. `decls` are the layouts that the program declares, `layouts` their flat forms, one for each type.
-- A mark is off where it is false. `why` is evidence: how a rule fails at a place; a refusal names the rule, the
-- type, the leaf if the place has one, and the evidence.
use Rattle.std.specs.Prelude.{◌≡◌, ℕ, List, [], ◌∷◌, ◌++◌, length, Bool, Option, Some, None, slice_get}
use Rattle.std.specs.Bool.{OnTrue}
use Rattle.std.specs.List.{flat_map}
use Rattle.rb_core.specs.declared.layout_decl.LayoutDecl.{LayoutDecl}
use Rattle.rb_core.specs.declared.program.Program.{Program}
use Rattle.rb_core.specs.TypedPrograms.{IsTyped}
use Rattle.rb_layout.specs.declared.layout.Layout.{Layout}
use Rattle.rb_layout.specs.declared.layout.Leaf.{Leaf}
use Rattle.rb_layout.specs.declared.evidence.Why.{Why}
use Rattle.rb_layout.specs.declared.evidence.Refused.{Refused}
use Rattle.rb_layout.specs.Items.{items_of}
use Rattle.rb_layout.specs.Cycles.{HasNoCycle}
use Rattle.rb_layout.specs.Positions.{layout_of}
use Rattle.rb_layout.specs.Each.{EachLeaf}
use Rattle.rb_layout.specs.Readable.{IsReadable}
use Rattle.rb_layout.specs.A9.{Flattens}
use Rattle.rb_layout.specs.A10.{HoldsField}
use Rattle.rb_layout.specs.Spots.{Spot, Checked, by_leaves, by_types, part_spots}
use Rattle.rb_layout.specs.Spots as S
use Rattle.rb_agree.specs.declared.rules.Rule.{Rule}
use Rattle.rb_agree.specs.declared.rules.Rule.TheVariants.{Roots, Parts, Blocks, Values, Fields, Tests, Splits, Flattening, Holding}
use Rattle.rb_agree.specs.declared.rules.Related.{Related}
use Rattle.rb_agree.specs.declared.rules.Ruled.{Ruled}
use Rattle.rb_agree.specs.Answers.{Finds}
use Rattle.rb_agree.specs.Graphs.{IsGraphOf}
use Rattle.rb_agree.specs.Pointing.{AreMarks}
use Rattle.rb_agree.specs.inner.Leaves.{AreWritten}
use Rattle.rb_agree.specs.inner.Passing.{IsOff}

-- the number of a rule, as it is printed
abbrev pub rule_number : Rule → ℕ
rule_number Roots = 2
rule_number Parts = 3
rule_number Blocks = 4
rule_number Values = 5
rule_number Fields = 6
rule_number Tests = 7
rule_number Splits = 8
rule_number Flattening = 9
rule_number Holding = 10

-- the places at which a rule is checked at type t without a leaf; they come before those at leaves
abbrev pub type_spots : Rule → ℕ → Layout → List Spot
type_spots Roots t layout = []
type_spots Parts t layout = []
type_spots Blocks t layout = []
type_spots Values t layout = S.Complete t layout ∷ []
type_spots Fields t layout = []
type_spots Tests t layout = []
type_spots Splits t layout = S.Splits t layout ∷ []
type_spots Flattening t layout = S.Flattening t ∷ []
type_spots Holding t layout = S.Holding t ∷ []

-- the places at which a rule is checked at leaf n of the layout of type t
abbrev pub leaf_spots : List LayoutDecl → Rule → ℕ → Layout → ℕ → Leaf → List Spot
leaf_spots decls Roots t layout n leaf = S.Root t n layout leaf ∷ []
leaf_spots decls Parts t layout n leaf = part_spots t n leaf 0 (items_of decls t n)
leaf_spots decls Blocks t layout n leaf = S.Blocks t n leaf ∷ []
leaf_spots decls Values t layout n leaf = S.Apart t n layout leaf ∷ []
leaf_spots decls Fields t layout n leaf = S.Held t n leaf ∷ []
leaf_spots decls Tests t layout n leaf = S.Tests t n layout leaf ∷ []
leaf_spots decls Splits t layout n leaf = []
leaf_spots decls Flattening t layout n leaf = S.NoPointer t n leaf ∷ []
leaf_spots decls Holding t layout n leaf = []

-- the places of a layout's leaves under a rule, leaf by leaf
abbrev pub leaves_spots : List LayoutDecl → Rule → ℕ → Layout → List Spot
leaves_spots decls rule t layout = by_leaves (leaf_spots decls rule t layout) 0 layout.leaves

-- the places of a layout under a rule: those of its type, then those of its leaves
abbrev pub spots_of : List LayoutDecl → Rule → ℕ → Layout → List Spot
spots_of decls rule t layout = type_spots rule t layout ++ leaves_spots decls rule t layout

-- the places of all layouts under a rule, type by type
abbrev pub rule_spots : List LayoutDecl → List Layout → Rule → List Spot
rule_spots decls layouts rule = by_types (spots_of decls rule) 0 layouts

-- the places of all layouts under these rules, rule by rule
abbrev pub rules_spots : List LayoutDecl → List Layout → List Rule → List Spot
rules_spots decls layouts rules = flat_map (rule_spots decls layouts) rules

-- the rules between that on shapes and that on tests, in their order
abbrev pub early_rules : List Rule
early_rules = Roots ∷ Parts ∷ Blocks ∷ Values ∷ Fields ∷ []

-- the rules from that on tests on, which are looked at once all layouts keep the others
abbrev pub late_rules : List Rule
late_rules = Tests ∷ Splits ∷ Flattening ∷ Holding ∷ []

-- the refusal by a rule at type t, and at a leaf if one is given, for what was found there; none where nothing was
abbrev pub refusal : ℕ → ℕ → Option ℕ → Option Why → Option Refused
refusal rule t leaf None = None
refusal rule t leaf (Some why) = Some (record { rule = rule; ty = t; leaf = leaf; why = why })

-- a rule may be checked: that on tests where all leaves can be read, and any other always
abbrev pub RuleIsReady : List Layout → Rule → Type 0
RuleIsReady layouts Tests = EachLeaf layouts (λ t layout n leaf. IsReadable leaf)
RuleIsReady layouts rule = Unit {0}

-- these are the layouts of a typed program, one for each type, and `related` says how they are related
pub record IsKnown (p : Program) (layouts : List Layout) (related : Related) : Type 0 where
  pub typed : IsTyped p
  pub count : length layouts ≡ length p.types
  pub written : AreWritten p.layouts (length layouts) related.written
  pub marks : AreMarks layouts related.marks
  pub flattened : IsGraphOf (Flattens layouts) related.flattened
  pub held : IsGraphOf (HoldsField p.types layouts) related.held
  pub flattens_in_order : OnTrue related.flattens_in_order ((t : ℕ) → HasNoCycle (Flattens layouts) t)
  pub holds_in_order : OnTrue related.holds_in_order ((t : ℕ) → HasNoCycle (HoldsField p.types layouts) t)

-- a rule holds at each leaf of the layout of type t whose mark is off
abbrev pub HoldsWhereOff : Program → List Layout → Rule → ℕ → Layout → List Bool → Type 0
HoldsWhereOff p layouts rule t layout marks =
    (n : ℕ) (leaf : Leaf) → IsOff marks n → slice_get layout.leaves n ≡ Some leaf
    → Checked p layouts (leaf_spots p.layouts rule t layout n leaf) None

-- A layout under a rule ---------------------------------------------------------------------

-- the layouts of the typed program in r are related as r says, and its layout is that of its type
pub record IsRuled (r : Ruled) : Type 0 where
  pub known : IsKnown r.program.now r.layouts.now r.related.now
  pub layout : layout_of r.layouts.now r.ty ≡ Some r.layout.now

-- what is found at these places in their order: nothing, or the refusal of the first that fails its rule
abbrev pub FindsOf : Ruled → List Spot → Option Refused → Type 0
FindsOf r spots found = Finds r.program.now r.layouts.now spots found

-- what is found where the rule of r is checked at its type without a leaf
abbrev pub FindsAtType : Ruled → Option Why → Type 0
FindsAtType r why = FindsOf r (type_spots r.rule r.ty r.layout.now) (refusal (rule_number r.rule) r.ty None why)

-- what is found where the rule of r is checked at leaf n of its layout
abbrev pub FindsAtLeaf : Ruled → ℕ → Leaf → Option Why → Type 0
FindsAtLeaf r n leaf why =
    FindsOf r (leaf_spots r.program.now.layouts r.rule r.ty r.layout.now n leaf)
    (refusal (rule_number r.rule) r.ty (Some n) why)

-- what is found where the rule of r is checked at the leaves of its layout, leaf by leaf
abbrev pub FindsAtLeaves : Ruled → Option Refused → Type 0
FindsAtLeaves r = FindsOf r (leaves_spots r.program.now.layouts r.rule r.ty r.layout.now)

-- what is found where the rule of r is checked at its type, and then at the leaves of its layout
abbrev pub RuleFinds : Ruled → Option Refused → Type 0
RuleFinds r = FindsOf r (spots_of r.program.now.layouts r.rule r.ty r.layout.now)

-- the rule of r holds at each leaf of its layout whose mark is off
abbrev pub RuleHoldsWhereOff : Ruled → List Bool → Type 0
RuleHoldsWhereOff r = HoldsWhereOff r.program.now r.layouts.now r.rule r.ty r.layout.now
