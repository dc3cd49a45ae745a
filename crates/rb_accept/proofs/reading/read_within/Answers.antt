use Rattle.std.proofs.Common.{Err, ap, subst, arith}
use Rattle.rb_edge.specs.Whole.{ReadsOnce}
use Rattle.rb_edge.specs.declared.whole.SourceFault.{SourceFault}
use Rattle.rb_accept.specs.Reading.{too_long, not_read}
use Rattle.rb_accept.proofs.ReadLaws.{turn_ok, turn_err, long_read, failed_read}
use Rattle.rb_accept.proofs.reading.read_within.Goals as goal

pub returns-in_err-refused-in-Ok-clause-read : goal.returns-in_err-refused-in-Ok-clause-read
returns-in_err-refused-in-Ok-clause-read g c =
    turn_ok g.S.Source.tells g.S.Source.held g.S.Source.readings g.S.Source.faults c.args.src.now c.read_whole.new.source c.args.name.now c.args.limit
    c.in-Ok.bytes c.in-Ok.ensures.once c.in-Ok.ensures.bytes

pub returns-then-len-limit-clause-read : goal.returns-then-len-limit-clause-read
returns-then-len-limit-clause-read g c =
    turn_ok g.S.Source.tells g.S.Source.held g.S.Source.readings g.S.Source.faults c.args.src.now c.read_whole.new.source c.args.name.now c.args.limit
    c.in-Ok.bytes c.in-Ok.ensures.once c.in-Ok.ensures.bytes

pub returns-then-len-limit-clause-refused : goal.returns-then-len-limit-clause-refused
returns-then-len-limit-clause-refused g c =
    too_long c.in-Ok.bytes (omega (arith, c.if-len-limit.true, c.len.ensures, c.in-Ok.ensures.within)) (long_read g.S.Source.tells g.S.Source.held g.S.Source.readings g.S.Source.faults c.args.src.now c.read_whole.new.source c.args.name.now c.args.limit
    c.in-Ok.bytes c.in-Ok.ensures.once (omega (arith, c.if-len-limit.true, c.len.ensures))) c.in_ok-refused-in-Ok.ensures

pub returns-in_err-refused-in-Err-clause-read : goal.returns-in_err-refused-in-Err-clause-read
returns-in_err-refused-in-Err-clause-read g c =
    turn_err g.S.Source.tells g.S.Source.held g.S.Source.readings g.S.Source.faults c.args.src.now c.read_whole.new.source c.args.name.now c.args.limit
    c.in-Err.fault c.in-Err.ensures.once (λ is. c.in-Err.ensures.cause (ap Err is))

pub returns-in_ok-refused-in-Err-clause-refused : goal.returns-in_ok-refused-in-Err-clause-refused
returns-in_ok-refused-in-Err-clause-refused g c =
    let once = subst (λ (f : SourceFault). ReadsOnce g.S.Source.tells g.S.Source.held g.S.Source.readings c.args.src.now c.read_whole.new.source c.args.name.now c.args.limit (Err f))
    c.in_ok-refused-in-Err.ensures.failed c.in-Err.ensures.once in
    not_read once.reading.bytes (failed_read g.S.Source.tells g.S.Source.held g.S.Source.readings g.S.Source.faults c.args.src.now c.read_whole.new.source c.args.name.now c.args.limit once) c.in_ok-refused-in-Err.ensures.due
