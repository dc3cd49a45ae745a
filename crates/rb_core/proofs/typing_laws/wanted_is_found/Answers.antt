use Rattle.rb_core.proofs.InferenceAgreement.{wanted-is_found}
use Rattle.rb_core.proofs.typing_laws.wanted_is_found.Goals as goal

pub returns : goal.returns
returns c = wanted-is_found
