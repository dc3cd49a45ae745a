use Rattle.std.proofs.Common.{refl, subst}
use Rattle.std.specs.Prelude.{IfSome}
use Rattle.std.proofs.lemmas.Result.{on_ok_weaker}
use Rattle.rb_matrix.specs.inner.Index.{HasKey}
use Rattle.rb_matrix.proofs.Keys.{extends-added}
use Rattle.rb_matrix.proofs.index.Index.add.Goals as goal

pub returns : goal.returns
returns c =
    let x = c.args.self.now in let i = c.args.number in let p = c.args.pat.now in let key = c.key_at-key.result in
    on_ok_weaker c.add.result
    (extends-added i p x (record { path = x.path; numbers = c.add.new.self }) refl key (subst (λ path. IfSome key (HasKey p path)) c.as_slice.ensures c.key_at-key.ensures))
    c.add.ensures
