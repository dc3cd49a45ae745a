use Rattle.rb_core.proofs.InferenceAgreement.{inferred-is_found, pattern_binders-are}
use Rattle.rb_core.proofs.typing_laws.inferred_is_found.Goals as goal

pub returns : goal.returns
returns c = record { types = inferred-is_found; binders = pattern_binders-are }
