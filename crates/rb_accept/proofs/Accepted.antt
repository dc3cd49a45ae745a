-- What was found of a file makes it an accepted one.
use Rattle.std.proofs.Common.{ℕ, List}
use Rattle.rb_accept.specs.Accepting.{IsAccepted}
use Rattle.rb_accept.specs.View.{IsAcceptance}
use Rattle.rb_accept.specs.declared.accepting.Accepted.{Accepted}

abbrev pub is_accepted : (bytes : List ℕ) (a : Accepted) → IsAcceptance bytes a → IsAccepted bytes a.agreed.covered.program
is_accepted bytes a h = record {
  placed = a.placed.items;
  named = h.named;
  typed = h.typed;
  exhaustive = h.covered.exhaustive;
  agrees = h.agreed.1;
}
