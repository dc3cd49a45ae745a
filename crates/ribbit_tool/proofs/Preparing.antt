-- A file that is prepared, or not: what is due to it.
use Rattle.std.proofs.Common.{List, ℕ, refl}
use Rattle.rb_accept.specs.Accepting.{IsRefused, turned_down, accepted}
use Rattle.rb_accept.specs.Arguments.{IsMisfit, Spell}
use Rattle.rb_accept.specs.View.{IsAcceptance}
use Rattle.rb_accept.specs.declared.accepting.Accepted.{Accepted}
use Rattle.rb_accept.proofs.Accepted.{is_accepted}
use Rattle.rb_core.specs.declared.value.Value.{Value}
use Rattle.rb_layout.specs.declared.agreed.LaidOut.{LaidOut}
use Rattle.rb_lines.specs.Answer.{Due}
use Rattle.rb_target.specs.declared.code.CodeFun.{CodeFun}
use Rattle.ribbit_tool.specs.Run.{IsPrepared, PreparesFile, misfit, prepared}

module _ (words : List (List ℕ)) (bytes : List ℕ) (Then : LaidOut → List CodeFun → List Value → Due → Type 0) where
  pub refused_due : (due : Due) → IsRefused bytes due → PreparesFile words bytes Then due
  refused_due due h = turned_down h

  module _ (a : Accepted) (acceptance : IsAcceptance bytes a) where
    pub misfit_due : (due : Due) → IsMisfit a.agreed.covered.program words due → PreparesFile words bytes Then due
    misfit_due due h = accepted a.agreed.covered.program (is_accepted bytes a acceptance) (misfit h)

    pub prepared_due : (code : List CodeFun) (args : List Value) → IsPrepared a.agreed code args → Spell a.agreed.covered.program words args
        → (due : Due) → Then a.agreed code args due → PreparesFile words bytes Then due
    prepared_due code args ready spells due h =
        accepted a.agreed.covered.program (is_accepted bytes a acceptance)
        (prepared a.agreed (record { program = refl; layouts = acceptance.agreed.0 }) code args ready spells h)
