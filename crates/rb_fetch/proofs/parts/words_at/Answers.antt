use Rattle.std.proofs.Common.{Some, sym, ap, ◌∙◌, arith}
use Rattle.std.proofs.lemmas.Option.{slice_get-get_or}
use Rattle.rb_fetch.proofs.Costs.{path_same}
use Rattle.rb_fetch.proofs.parts.words_at.Goals as goal

pub returns-then-eq : goal.returns-then-eq
returns-then-eq c = (
  c.loop-part.part-index,
  c.part-item.result,
  slice_get-get_or c.args.parts.now c.loop-part.part-index c.part-item.result c.loop-part-test.true ∙ ap Some (sym c.part-item.is),
  path_same c.part-item.result.path c.args.path.now (sym (rw c.as_slice.ensures at c.same_path.ensures) ∙ c.if-same_path.true),
  grind (arith, c.eq.ensures, c.if-eq.true),
  sym c.in_ok-words.ensures,
)
