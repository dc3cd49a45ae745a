-- A10: no derived layout stands on a cycle of types that hold each other in their root words. A leaf is for the
-- values of its provenance, a pattern; its root words are those of the value itself, without blocks. A position is
-- open where a wildcard or a variable stands in the provenance. A type holds another where a word of an open position
-- of that type stands in the root words of one of its leaves. `decls` are the layouts of a program, `rooms` how wide
-- its derived words are.
use Rattle.std.specs.Prelude.{◌≡◌, ℕ, List, Some}
use Rattle.rb_core.specs.declared.types.Ty.TheVariants.{Named}
use Rattle.rb_core.specs.declared.program.Program.{Program}
use Rattle.rb_core.specs.declared.layout_decl.LayoutDecl.{LayoutDecl}
use Rattle.rb_layout.specs.declared.layout.Layout.{Layout}
use Rattle.rb_layout.specs.Positions.{layout_of, open_positions}
use Rattle.rb_layout.specs.Flattening.{type_at}
use Rattle.rb_layout.specs.Cycles.{HasNoCycle, IsChain}
use Rattle.rb_layout.specs.A10.{HoldsField}
use Rattle.rb_auto.specs.declared.form.Form.TheVariants.{Boxed}
use Rattle.rb_auto.specs.declared.room.Room.{Room}
use Rattle.rb_auto.specs.Fields.{HasField, IsFinite}
use Rattle.rb_auto.specs.inner.Standing.{EachDerivedLeaf, flat_derived}
use Rattle.rb_auto.specs.inner.Rules.{OfEach}

-- each data type that stands open in a leaf of the derived layout of type t is the type of a field of t
abbrev pub OpensItsFields : Type 0
OpensItsFields = OfEach (λ p decls rooms t form. EachDerivedLeaf p decls rooms t form (λ n leaf. (path : List ℕ) (s : ℕ)
    → type_at (open_positions p.types leaf.prov) path ≡ Some (Named s) → HasField p.types t s))

-- a type with the derived boxed layout is on no cycle of types that hold each other in their root words, as it holds
-- nothing there
abbrev pub BoxIsOnNoCycle : Type 0
BoxIsOnNoCycle = (p : Program) (decls : List LayoutDecl) (rooms : List Room) (t : ℕ) (layouts : List Layout)
    → layout_of layouts t ≡ Some (flat_derived p decls rooms t Boxed) → HasNoCycle (HoldsField p.types layouts) t

-- from each type fields lead, in one step or several, to each type that it holds in its root words
abbrev pub HoldWhatTheyReach : Program → List Layout → Type 0
HoldWhatTheyReach p layouts =
    (t s : ℕ) → HoldsField p.types layouts t s → (ts : List ℕ) × IsChain (HasField p.types) t ts s

-- a type that does not reach itself through fields is on no cycle of types that hold each other in their root words,
-- where types hold only what they reach
abbrev pub FiniteIsOnNoCycle : Type 0
FiniteIsOnNoCycle = (p : Program) (layouts : List Layout) (t : ℕ)
    → HoldWhatTheyReach p layouts → IsFinite p.types t → HasNoCycle (HoldsField p.types layouts) t
