use Rattle.ribbit_tool.proofs.CompileLaws.{compile_headlined}
use Rattle.ribbit_tool.proofs.HeadlineLaws.{headlined}
use Rattle.ribbit_tool.proofs.ImageLaws.{image_headlined, count_headlined, generate_headlined}
use Rattle.ribbit_tool.proofs.PromiseLaws.{promised, gives_held}
use Rattle.ribbit_tool.proofs.top.ribbit.Goals as goal

pub returns-clause-right : goal.returns-clause-right
returns-clause-right g c = promised _ _ _ _ _ _ (rw c.as_slice.ensures at c.answer.ensures)

pub returns-clause-held : goal.returns-clause-held
returns-clause-held g c = gives_held _ _ _ _ _ _ (rw c.as_slice.ensures at c.answer.ensures)

pub returns-clause-headline : goal.returns-clause-headline
returns-clause-headline g c = headlined _ _ _ _ _ _ (promised _ _ _ _ _ _ (rw c.as_slice.ensures at c.answer.ensures))

pub returns-clause-compile : goal.returns-clause-compile
returns-clause-compile g c = compile_headlined _ _ _ _ _ _ (promised _ _ _ _ _ _ (rw c.as_slice.ensures at c.answer.ensures))

pub returns-clause-image : goal.returns-clause-image
returns-clause-image g c = image_headlined _ _ _ _ _ _ (promised _ _ _ _ _ _ (rw c.as_slice.ensures at c.answer.ensures))

pub returns-clause-count : goal.returns-clause-count
returns-clause-count g c = count_headlined _ _ _ _ _ _ (promised _ _ _ _ _ _ (rw c.as_slice.ensures at c.answer.ensures))

pub returns-clause-generate : goal.returns-clause-generate
returns-clause-generate g c = generate_headlined _ _ _ _ _ _ (promised _ _ _ _ _ _ (rw c.as_slice.ensures at c.answer.ensures))
