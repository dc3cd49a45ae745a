use Rattle.std.proofs.Common.{ap, ◌∙◌}
use Rattle.std.specs.Map.{lookup}
use Rattle.std.specs.Str.{bytes_eq}
use Rattle.std.proofs.lemmas.Map.Text.{is_eq-slice_cmp}
use Rattle.rb_decide.proofs.NodeKeys.{lookup-inserted}
use Rattle.rb_decide.proofs.sharing.Sharing.push.Goals as goal

pub returns-clause-keys : goal.returns-clause-keys
returns-clause-keys c = λ q. ap (lookup (λ k. bytes_eq q k.items)) c.in_ok-insert.ensures.entries
    ∙ lookup-inserted (λ k. k.items) _ (λ x y. is_eq-slice_cmp x.items y.items) c.args.key c.in_ok-number.number q c.args.self.now.numbers.entries
