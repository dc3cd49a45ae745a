use Rattle.ribbit_tool.proofs.Executing.{executed_themselves}
use Rattle.ribbit_tool.proofs.laws.texts_of_valid_code_are_executed.Goals as goal

pub returns : goal.returns
returns c = executed_themselves
