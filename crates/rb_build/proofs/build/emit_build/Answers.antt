use Rattle.rb_build.proofs.Building.{builds}
use Rattle.rb_build.proofs.build.emit_build.Goals as goal

pub returns-clause-builds : goal.returns-clause-builds
returns-clause-builds c = builds c.args.agreed.now c.args.con c.args.args.now c.args.shown.now c.args.body.now c.construct.new.body c.in_ok-held.held c.in_ok-held.ensures.constructs
