use Rattle.rb_peek.proofs.PathParts.{paths_lead}
use Rattle.rb_peek.proofs.laws.paths_lead_to_parts.Goals as goal

pub returns : goal.returns
returns c = paths_lead
