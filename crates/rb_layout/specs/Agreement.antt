-- Agreement: all ten rules, A1 to A10, over the flat forms of a program's layouts. They ask that the words of each
-- leaf hold just what its provenance leaves open, and that each value has one leaf, which splits can find in its
-- words; the file named after a rule says what it asks.
use Rattle.std.specs.Prelude.{◌≡◌, List}
use Rattle.rb_core.specs.declared.program.Program.{Program}
use Rattle.rb_layout.specs.declared.layout.Layout.{Layout}
use Rattle.rb_layout.specs.Flattening.{flat_layouts}
use Rattle.rb_layout.specs.A1.{A1}
use Rattle.rb_layout.specs.A2.{A2}
use Rattle.rb_layout.specs.A3.{A3}
use Rattle.rb_layout.specs.A4.{A4}
use Rattle.rb_layout.specs.A5.{A5}
use Rattle.rb_layout.specs.A6.{A6}
use Rattle.rb_layout.specs.A7.{A7}
use Rattle.rb_layout.specs.A8.{A8}
use Rattle.rb_layout.specs.A9.{A9}
use Rattle.rb_layout.specs.A10.{A10}

-- all ten rules hold of a program with these layouts, which stand for the flat forms of those that it declares
pub record Obeys (p : Program) (layouts : List Layout) : Type 0 where
  pub a1 : A1 p
  pub a2 : A2 layouts
  pub a3 : A3 p layouts
  pub a4 : A4 layouts
  pub a5 : A5 p.types layouts
  pub a6 : A6 p layouts
  pub a7 : A7 p.types layouts
  pub a8 : A8 layouts
  pub a9 : A9 layouts
  pub a10 : A10 p.types layouts

-- the layouts that a program declares agree with its types: their flat forms obey all ten rules
abbrev pub Agrees : Program → Type 0
Agrees p = Obeys p (flat_layouts p)

-- these layouts are the flat forms of those that a program declares, and they agree with its types
abbrev pub AreAgreed : Program → List Layout → Type 0
AreAgreed p layouts = (layouts ≡ flat_layouts p) × Agrees p
