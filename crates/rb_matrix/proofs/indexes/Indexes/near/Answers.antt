use Rattle.std.proofs.lemmas.Result.{IfOk-weaker}
use Rattle.rb_matrix.specs.inner.Index.{AreNear}
use Rattle.rb_matrix.specs.inner.Indexes.{AreNearIn}
use Rattle.rb_matrix.proofs.indexes.Indexes.near.Goals as goal

pub returns-then-count_near : goal.returns-then-count_near
returns-then-count_near c =
    let x = c.args.self.now in let p = c.args.pat.now in let n = c.args.count in
    IfOk-weaker c.near.result (AreNear p n x.first) (AreNearIn p n x) (λ js h ps len both. h ps len both.first) c.near.ensures

pub returns-else-count_near : goal.returns-else-count_near
returns-else-count_near c =
    let x = c.args.self.now in let p = c.args.pat.now in let n = c.args.count in
    IfOk-weaker c.near-else-count_near.result (AreNear p n x.second) (AreNearIn p n x) (λ js h ps len both. h ps len both.second) c.near-else-count_near.ensures
