-- A1: each declared data type has a layout; shape widths are 1 to 64. A shape is the list of the widths in bits of
-- the words that a type's values have.
use Rattle.std.specs.Prelude.{◌≡◌, ℕ, ◌<◌, ◌≤◌, length, Option, Some, None, slice_get}
use Rattle.rb_core.specs.declared.program.Program.{Program}
use Rattle.rb_core.specs.declared.layout_decl.LayoutDecl.{LayoutDecl}
use Rattle.rb_layout.specs.declared.evidence.Why.{Why}
use Rattle.rb_layout.specs.declared.evidence.Why.TheVariants.{NoLayout, ShapeWidth}
use Rattle.rb_layout.specs.Flattening.{decl_of}

-- a word of a shape has 1 to 64 bits
abbrev pub IsShapeWidth : ℕ → Type 0
IsShapeWidth w = (1 ≤ w) × (w ≤ 64)

-- a type with this declared layout passes the rule: there is one, and each word of its shape has 1 to 64 bits; a
-- shape without words is no fault
abbrev pub HasShape : Option LayoutDecl → Type 0
HasShape None = ⊥
HasShape (Some d) = (i w : ℕ) → slice_get d.shape i ≡ Some w → IsShapeWidth w

-- the rule: each data type of a program has a layout declared for it, whose shape has only words of 1 to 64 bits
abbrev pub A1 : Program → Type 0
A1 p = (t : ℕ) → t < length p.types → HasShape (decl_of p.layouts t)

-- How a type with this declared layout fails the rule, by the evidence: there is no layout; or word i of its shape
-- has w bits, and w is not 1 to 64. No other evidence fails the rule.
abbrev pub FailsShape : Option LayoutDecl → Why → Type 0
FailsShape None NoLayout = Unit {0}
FailsShape (Some d) (ShapeWidth i w) = (slice_get d.shape i ≡ Some w) × (IsShapeWidth w → ⊥)
FailsShape d why = ⊥
