use Rattle.std.proofs.Common.{List, ap, sym, subst, ◌∙◌}
use Rattle.rb_core.specs.declared.types.DataDecl.{DataDecl}
use Rattle.rb_layout.specs.Positions.{open_positions}
use Rattle.rb_layout.specs.declared.opens.OpenPosition.{OpenPosition}
use Rattle.rb_agree.specs.declared.runs.Run.{Run}
use Rattle.rb_layout.specs.Opens.{opens_at}
use Rattle.rb_agree.specs.inner.Gathered.{AreGathered}
use Rattle.rb_agree.proofs.Halving.{ordered}
use Rattle.rb_agree.proofs.Holding.{each-held}
use Rattle.rb_agree.proofs.held.places_fault.Goals as goal

pub runs_of-requires : goal.runs_of-requires
runs_of-requires c =
    ordered c.as_slice.result.now c.args.leaf.now.prov c.as_slice-2.result.now (ap (λ (ps : List OpenPosition). opens_at ps) c.as_slice-2.ensures ∙ c.in_ok-list.ensures)

pub some_place_fault-requires : goal.some_place_fault-requires
some_place_fault-requires c =
    subst (λ (rows : List (List Run)). AreGathered c.args.leaf.now c.as_slice-3.result.now rows) (sym c.as_slice-4.ensures)
    (subst (λ (ps : List OpenPosition). AreGathered c.args.leaf.now ps c.in_ok-rows.rows) (c.as_slice-2.ensures ∙ sym c.as_slice-3.ensures) c.in_ok-rows.ensures)

pub returns : goal.returns
returns c =
    each-held c.args.program.now c.args.leaf.now c.as_slice-3.result.now
    (ap (λ (ps : List OpenPosition). opens_at ps) c.as_slice-3.ensures ∙ c.in_ok-list.ensures ∙ ap (λ (ts : List DataDecl). open_positions ts c.args.leaf.now.prov) c.as_slice.ensures)
    c.some_place_fault.result c.some_place_fault.ensures
