use Rattle.rb_layout.proofs.Disjoint.{not_beside}
use Rattle.rb_layout.proofs.laws.evidence_never_beside.Goals as goal

pub returns : goal.returns
returns c = not_beside
