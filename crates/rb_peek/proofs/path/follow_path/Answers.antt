use Rattle.std.proofs.Common.{sym, subst}
use Rattle.rb_image.specs.Roots.{kept_from}
use Rattle.rb_peek.specs.Paths.{IsPathFault}
use Rattle.rb_peek.specs.Walks.{where_of}
use Rattle.rb_peek.proofs.CheckLemmas.{if_err}
use Rattle.rb_peek.proofs.PathAnswers.{came, faultless, faulty, stopped}
use Rattle.rb_peek.proofs.PathEnds.{walk_typed}
use Rattle.rb_peek.proofs.WellLeaves.{AreWell, wells}
use Rattle.rb_peek.proofs.path.follow_path.Goals as goal

pub returns-in_err-walk-clause-fault : goal.returns-in_err-walk-clause-fault
returns-in_err-walk-clause-fault g c =
    let types = c.args.agreed.now.covered.program.types in
    let layouts = c.args.agreed.now.layouts in
    let image = c.args.image.now in
    let well = subst AreWell (sym c.tell_agreed.ensures.flat) (wells c.args.agreed.now.covered.program c.tell_typed.ensures c.tell_agreed.ensures.agree) in
    if_err (IsPathFault types layouts image c.args.ty c.args.path.now) c.from_residual.result _ c.from_residual.ensures.0 c.from_residual.ensures.1
    (stopped types layouts image c.args.ty c.args.path.now c.requires.placed well _ c.in_err-walk.ensures.walk)

pub returns-in-None-clause-walk : goal.returns-in-None-clause-walk
returns-in-None-clause-walk g c =
    came c.args.agreed.now.covered.program.types c.args.agreed.now.layouts c.args.image.now c.args.ty c.args.path.now c.in_ok-walk.walk c.in_ok-walk.ensures.walk

pub returns-in-None-clause-declared : goal.returns-in-None-clause-declared
returns-in-None-clause-declared g c =
    let types = c.args.agreed.now.covered.program.types in
    let layouts = c.args.agreed.now.layouts in
    let image = c.args.image.now in
    let walk = c.in_ok-walk.walk in
    walk_typed types layouts image.blocks c.tell_orderly.ensures c.args.ty (kept_from 0 image.root) c.args.path.now (where_of walk) c.requires.declared
    (came types layouts image c.args.ty c.args.path.now walk c.in_ok-walk.ensures.walk)

pub returns-in-None-clause-sound : goal.returns-in-None-clause-sound
returns-in-None-clause-sound g c =
    faultless c.args.agreed.now.covered.program.types c.args.agreed.now.layouts c.args.image.now c.args.ty c.args.path.now c.in_ok-walk.walk c.in_ok-walk.ensures.walk
    _ c.in_ok-fault_on_path.ensures c.in-None.is

pub returns-clause-fault : goal.returns-clause-fault
returns-clause-fault g c =
    faulty c.args.agreed.now.covered.program.types c.args.agreed.now.layouts c.args.image.now c.args.ty c.args.path.now c.in_ok-walk.walk c.in_ok-walk.ensures.walk
    _ c.in-Some.fault c.in_ok-fault_on_path.ensures c.in-Some.is
