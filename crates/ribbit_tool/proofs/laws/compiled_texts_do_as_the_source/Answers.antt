use Rattle.ribbit_tool.proofs.CompileLaws.{compiled_texts_run}
use Rattle.ribbit_tool.proofs.laws.compiled_texts_do_as_the_source.Goals as goal

pub returns : goal.returns
returns c = compiled_texts_run
