-- A9: what flattening does to types. A layout flattens a type where a constructor of it stands inside a provenance,
-- below the root. The leaves of such a type keep no pointer; and from no type does flattening, from layout to layout,
-- lead back to it. Types are named by their numbers.
use Rattle.std.specs.Prelude.{◌≡◌, ℕ, List, [], ◌∷◌, Some, slice_get}
use Rattle.std.specs.List.{flat_map}
use Rattle.rb_core.specs.declared.types.ConRef.{ConRef}
use Rattle.rb_core.specs.declared.pattern.Pat.{Pat, out-Pat}
use Rattle.rb_core.specs.declared.pattern.Pat.TheOpen as P
use Rattle.rb_core.specs.declared.pattern.Pat.TheOpen.{Pat-F}
use Rattle.rb_core.specs.declared.pattern.Pat.TheFolds.{fold-Pat}
use Rattle.rb_layout.specs.declared.layout.Layout.{Layout}
use Rattle.rb_layout.specs.declared.layout.Leaf.{Leaf}
use Rattle.rb_layout.specs.declared.layout.WordRef.{WordRef}
use Rattle.rb_layout.specs.declared.evidence.Why.{Why}
use Rattle.rb_layout.specs.declared.evidence.Why.TheVariants.{HasPointer, FlatCycle}
use Rattle.rb_layout.specs.Positions.{layout_of}
use Rattle.rb_layout.specs.Pointers.{PointsTo}
use Rattle.rb_layout.specs.Cycles.{HasNoCycle, IsCycleFrom}
use Rattle.rb_layout.specs.Each.{EachLayout, EachLeaf}

-- the constructors of one layer of a pattern, where those of its subpatterns are given: a constructor, and then
-- theirs; wildcards, variables and numbers have none
abbrev pub cons_step : Pat-F (List ConRef) → List ConRef
cons_step (P.Wild at) = []
cons_step (P.Var at x) = []
cons_step (P.Num at n) = []
cons_step (P.Con at c css) = c ∷ flat_map (λ cs. cs) css

-- the constructors of a pattern, that of its root first, each as often as it stands there
abbrev pub pattern_cons : Pat → List ConRef
pattern_cons = fold-Pat (List ConRef) cons_step

-- the constructors in the subpatterns of a pattern's outermost layer, from left to right; a wildcard, a variable and
-- a number have no subpatterns, and so none
abbrev pub cons_below_root : Pat-F Pat → List ConRef
cons_below_root (P.Wild at) = []
cons_below_root (P.Var at x) = []
cons_below_root (P.Num at n) = []
cons_below_root (P.Con at c ps) = flat_map pattern_cons ps

-- the constructors of a pattern that stand below its root, each as often as it stands there; none where the root is
-- no constructor
abbrev pub cons_below : Pat → List ConRef
cons_below p = cons_below_root (out-Pat p)

-- a leaf flattens type s: a constructor of s stands below the root of the leaf's provenance
pub record LeafFlattens (leaf : Leaf) (s : ℕ) : Type 0 where
  pub number : ℕ
  pub con : ConRef
  pub is_below : slice_get (cons_below leaf.prov) number ≡ Some con
  pub is_type : con.ty ≡ s

-- some leaf of type t's layout flattens type s
pub record Flattens (layouts : List Layout) (t s : ℕ) : Type 0 where
  pub layout : Layout
  pub number : ℕ
  pub leaf : Leaf
  pub is_layout : layout_of layouts t ≡ Some layout
  pub is_leaf : slice_get layout.leaves number ≡ Some leaf
  pub flattens : LeafFlattens leaf s

-- some leaf of type s's layout has a pointer part, in a root word or in a block
pub record HasPointerPart (layouts : List Layout) (s : ℕ) : Type 0 where
  pub layout : Layout
  pub number : ℕ
  pub leaf : Leaf
  pub ref : WordRef
  pub length : ℕ
  pub align : ℕ
  pub block : ℕ
  pub is_layout : layout_of layouts s ≡ Some layout
  pub is_leaf : slice_get layout.leaves number ≡ Some leaf
  pub points : PointsTo leaf ref length align block

-- no type that the leaf flattens has a pointer part in its layout
abbrev pub FlattensNoPointer : List Layout → Leaf → Type 0
FlattensNoPointer layouts leaf = (s : ℕ) → LeafFlattens leaf s → HasPointerPart layouts s → ⊥

-- The rule. `no_pointer`: no leaf flattens a type that has a pointer part. `no_cycle`: no type that has a layout is
-- on a cycle of types, each of which flattens the next.
pub record A9 (layouts : List Layout) : Type 0 where
  pub no_pointer : EachLeaf layouts (λ t layout n leaf. FlattensNoPointer layouts leaf)
  pub no_cycle : EachLayout layouts (λ t layout. HasNoCycle (Flattens layouts) t)

-- how a leaf fails the rule, by the evidence: it flattens a type s that has a pointer part; no other evidence fails
-- this half of the rule
abbrev pub FailsNoPointer : List Layout → Leaf → Why → Type 0
FailsNoPointer layouts leaf (HasPointer s) = LeafFlattens leaf s × HasPointerPart layouts s
FailsNoPointer layouts leaf why = ⊥

-- how type t fails the rule, by the evidence: a cycle of types is listed from t on, each of which flattens the next;
-- no other evidence fails this half of the rule
abbrev pub FailsFlattening : List Layout → ℕ → Why → Type 0
FailsFlattening layouts t (FlatCycle ts) = IsCycleFrom (Flattens layouts) t ts
FailsFlattening layouts t why = ⊥
