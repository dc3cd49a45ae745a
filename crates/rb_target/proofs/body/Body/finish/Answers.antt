use Rattle.std.proofs.Common.{◌≤◌, ap, arith}
use Rattle.rb_target.proofs.Written.{written_slots}
use Rattle.rb_target.specs.Sheet.{Sheet}
use Rattle.rb_target.proofs.body.Body.finish.Goals as goal

pub returns-clause-written : goal.returns-clause-written
returns-clause-written c =
    let params = ap (λ (s : Sheet). s.params) c.self.view_is in
    let slots = ap (λ (s : Sheet). s.slots) c.self.view_is in
    let le : c.args.self.params ≤ c.args.self.slots = omega arith in
    written_slots c.args.self le c.requires
