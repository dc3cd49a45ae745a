use Rattle.rb_core.proofs.WidthLaws.{least_width-least}
use Rattle.rb_core.proofs.typing_laws.width_is_least.Goals as goal

pub returns : goal.returns
returns c = least_width-least
