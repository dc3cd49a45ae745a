use Rattle.std.proofs.Common.{sym, ap, ◌∙◌}
use Rattle.rb_matrix.specs.declared.problem.Left.TheVariants.{Whole}
use Rattle.rb_matrix.specs.FirstHead.{first_head}
use Rattle.rb_matrix.specs.inner.Problems.{with_column}
use Rattle.rb_matrix.specs.inner.Left.{wholes}
use Rattle.rb_matrix.proofs.Branches.{one-split}
use Rattle.rb_matrix.proofs.Working.{split-made}
use Rattle.rb_matrix.proofs.part.parts_of.Goals as goal

pub parts_by_signature-requires-clause-none : goal.parts_by_signature-requires-clause-none
parts_by_signature-requires-clause-none c = ap first_head (sym c.as_slice.ensures) ∙ sym c.first_head_in.ensures ∙ c.in-None.is

pub returns-in_ok-part-in-Some : goal.returns-in_ok-part-in-Some
returns-in_ok-part-in-Some c =
    let types = c.args.types.now in let ty = c.args.ty in let p = c.args.behind in let part = c.in_ok-part-in-Some.part in
    split-made types (Whole (with_column ty p)) (wholes part) c.part_left.result c.part_left.ensures
    (one-split types ty p c.in-Some.head part (ap first_head (sym c.as_slice.ensures) ∙ sym c.first_head_in.ensures ∙ c.in-Some.is) c.in_ok-part-in-Some.ensures)
