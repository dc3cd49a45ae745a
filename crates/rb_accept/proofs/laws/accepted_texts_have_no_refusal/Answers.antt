use Rattle.rb_accept.proofs.OneProgram.{accepted_unrefused}
use Rattle.rb_accept.proofs.laws.accepted_texts_have_no_refusal.Goals as goal

pub returns : goal.returns
returns c = accepted_unrefused
