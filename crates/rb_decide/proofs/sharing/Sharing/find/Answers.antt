use Rattle.std.proofs.Common.{◌∙◌}
use Rattle.std.proofs.lemmas.Map.Text.{is_eq-slice_cmp}
use Rattle.rb_decide.proofs.NodeKeys.{lookup-same}
use Rattle.rb_decide.proofs.sharing.Sharing.find.Goals as goal

pub returns : goal.returns
returns c = c.copied.ensures ∙ c.get.ensures.value ∙ lookup-same _ _ (λ k. is_eq-slice_cmp c.args.key.now k.items) c.args.self.now.numbers.entries
