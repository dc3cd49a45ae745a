use Rattle.rb_target.proofs.ReadLemmas.{handed_on, handed_answer, unread_these, unread_answer, checked_these, checked_answer, text_of_valid}
use Rattle.rb_target.proofs.read.read_code.Goals as goal

pub returns-in_err-funs-clause-each : goal.returns-in_err-funs-clause-each
returns-in_err-funs-clause-each c funs valid e =
    let fault = c.in_err-funs.field-0.0 in
    handed_on funs c.from_residual.result fault c.from_residual.ensures.0 c.from_residual.ensures.1 (unread_these c.args.bytes.now fault funs c.in_err-funs.ensures.reading valid e)

pub returns-clause-each : goal.returns-clause-each
returns-clause-each c funs valid e =
    checked_these funs c.in_ok-funs.funs c.check.result (c.in_ok-funs.ensures.only funs (text_of_valid c.args.bytes.now funs valid e)) c.check.ensures.ok c.check.ensures.valid valid

pub returns-in_err-funs-clause-every : goal.returns-in_err-funs-clause-every
returns-in_err-funs-clause-every c funs text =
    let fault = c.in_err-funs.field-0.0 in
    handed_answer funs c.from_residual.result fault c.from_residual.ensures.0 c.from_residual.ensures.1 (unread_answer c.args.bytes.now fault funs c.in_err-funs.ensures.reading text)

pub returns-clause-every : goal.returns-clause-every
returns-clause-every c funs text =
    checked_answer funs c.in_ok-funs.funs c.check.result (c.in_ok-funs.ensures.only funs text) c.check.ensures.ok c.check.ensures.valid c.check.ensures.first
