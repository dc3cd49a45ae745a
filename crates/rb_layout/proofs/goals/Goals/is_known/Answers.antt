use Rattle.std.proofs.Common.{refl, ap, ◌∙◌}
use Rattle.rb_layout.specs.inner.Barring.{knows}
use Rattle.rb_layout.proofs.GoalLemmas.{told, known-entries}
use Rattle.rb_layout.proofs.goals.Goals.is_known.Goals as goal

pub returns-in-None : goal.returns-in-None
returns-in-None c =
    let g = c.args.goal.now in
    ap told c.in-None.ensures.value ∙ known-entries g _ (λ k. refl) c.self.inside.known.entries ∙ ap (λ es. knows es g) c.self.view_is

pub returns-in-Some : goal.returns-in-Some
returns-in-Some c =
    let g = c.args.goal.now in
    ap told c.in-Some.ensures.value ∙ known-entries g _ (λ k. refl) c.self.inside.known.entries ∙ ap (λ es. knows es g) c.self.view_is
