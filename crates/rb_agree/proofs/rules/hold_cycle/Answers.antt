use Rattle.std.proofs.Common.{ℕ, List, Option, IfOk, sym, subst}
use Rattle.std.specs.Prelude.{MatchOption}
use Rattle.rb_core.specs.declared.types.DataDecl.{DataDecl}
use Rattle.rb_layout.specs.declared.evidence.Why.{Why}
use Rattle.rb_layout.specs.Cycles.{HasNoCycle}
use Rattle.rb_layout.specs.A10.{FailsHolding, HoldsField}
use Rattle.rb_agree.specs.Graphs.{IsGraphOf}
use Rattle.rb_agree.proofs.rules.hold_cycle.Goals as goal

pub holding_fault-requires : goal.holding_fault-requires
holding_fault-requires c =
    subst (λ (ts : List DataDecl). IsGraphOf (HoldsField ts c.args.layouts.now) c.as_slice-2.result.now) (sym c.as_slice.ensures)
    (subst (λ (g : List (List ℕ)). IsGraphOf (HoldsField c.args.program.now.types c.args.layouts.now) g) (sym c.as_slice-2.ensures) c.requires.held)

pub returns : goal.returns
returns c =
    subst (λ (ts : List DataDecl). IfOk c.holding_fault.result (λ (x : Option Why). MatchOption x (HasNoCycle (HoldsField ts c.args.layouts.now) c.args.ty) (FailsHolding ts c.args.layouts.now c.args.ty)))
    c.as_slice.ensures c.holding_fault.ensures
