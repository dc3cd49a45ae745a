use Rattle.rb_accept.proofs.OneCut.{one_cut}
use Rattle.rb_accept.proofs.OneProgram.{never_uncut}
use Rattle.rb_accept.proofs.laws.texts_have_one_cut.Goals as goal

pub returns : goal.returns
returns c bytes ps h = (λ qs k. one_cut bytes ps qs h k, λ fault k. never_uncut bytes ps fault h k)
