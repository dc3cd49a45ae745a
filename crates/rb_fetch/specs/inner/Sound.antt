-- What is so of each agreed program: of a program with layouts that agree with its types.
use Rattle.std.specs.Prelude.{◌≡◌}
use Rattle.rb_core.specs.TypedPrograms.{IsTyped}
use Rattle.rb_layout.specs.declared.agreed.LaidOut.{LaidOut}
use Rattle.rb_layout.specs.Agreement.{Agrees}
use Rattle.rb_layout.specs.Flattening.{flat_layouts}

-- the program is typed, its layouts are the flat forms of those that it declares, and they agree with its types
pub record IsSound (agreed : LaidOut) : Type 0 where
  pub typed : IsTyped agreed.covered.program
  pub flat : agreed.layouts ≡ flat_layouts agreed.covered.program
  pub agrees : Agrees agreed.covered.program
