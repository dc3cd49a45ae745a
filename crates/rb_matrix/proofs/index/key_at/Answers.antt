use Rattle.std.proofs.Common.{arith, drop}
use Rattle.std.proofs.lemmas.List.{drop_all}
use Rattle.rb_matrix.proofs.Keys.{leads-end}
use Rattle.rb_matrix.proofs.index.key_at.Goals as goal

pub returns : goal.returns
returns c =
    let path = c.args.path.now in let i = c.loop-field.field-index in
    leads-end c.args.pat.now path c.loop-field.here.now (drop i path) c.head_number.result (drop_all i path (omega arith)) c.loop-field.invariant c.head_number.ensures
