-- What was read and accepted, as the definitions see it.
use Rattle.std.specs.Prelude.{ℕ, List, length, drop}
use Rattle.rb_core.specs.Coverage.{IsCovered}
use Rattle.rb_core.specs.TypedPrograms.{IsTyped}
use Rattle.rb_edge.specs.History.{Reading}
use Rattle.rb_layout.specs.Agreement.{AreAgreed}
use Rattle.rb_accept.specs.Accepting.{IsNamed}
use Rattle.rb_accept.specs.declared.accepting.Accepted.{Accepted}

-- what a source handed out between two calls
abbrev pub handed_between : {S : Type 0} → (S → List Reading) → S → S → List Reading
handed_between readings old new = drop (length (readings old)) (readings new)

-- an accepted file: its tokens, and its typed and covered program, whose layouts agree
pub record IsAcceptance (bytes : List ℕ) (a : Accepted) : Type 0 where
  pub named : IsNamed bytes a.placed.items a.agreed.covered.program
  pub typed : IsTyped a.agreed.covered.program
  pub covered : IsCovered a.agreed.covered.program a.agreed.covered.notes
  pub agreed : AreAgreed a.agreed.covered.program a.agreed.layouts
