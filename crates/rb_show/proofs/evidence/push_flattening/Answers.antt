use Rattle.std.proofs.Common.{◌++◌, ℕ, List, ap, ◌∙◌, append_assoc}
use Rattle.std.specs.Prelude.{codes}
use Rattle.rb_show.specs.Refusals.{names_text}
use Rattle.rb_show.proofs.evidence.push_flattening.Goals as goal

pub returns : goal.returns
returns c =
    let names = names_text c.args.types.now c.args.tys.now in
    c.in_ok-push_names.ensures ∙ ap (λ (l : List ℕ). l ++ names) c.in_ok-push.ensures.ok ∙ append_assoc c.args.text.now.items (codes "flattening cycle ") names
