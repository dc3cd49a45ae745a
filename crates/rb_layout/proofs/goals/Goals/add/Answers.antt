use Rattle.std.proofs.Common.{◌≡◌, true, false, refl, sym, ap, ◌∙◌}
use Rattle.indexmap.proofs.CallerLemmas.{insert_entry-new}
use Rattle.rb_layout.specs.inner.Finding.{has_goal}
use Rattle.rb_layout.proofs.GoalLemmas.{has-entries, goal-there, goal-new, none-here}
use Rattle.rb_layout.proofs.goals.Goals.add.Goals as goal

pub returns-then-contains_key : goal.returns-then-contains_key
returns-then-contains_key c =
    let g = c.args.goal in
    let seen = has-entries g _ (λ k. refl) c.self.inside.known.entries ∙ ap (λ es. has_goal es g) c.self.view_is in
    let there : has_goal c.args.self.now g ≡ true = sym seen ∙ sym c.contains_key.ensures ∙ c.if-contains_key.true in
    goal-there c.args.self.now g there

pub returns : goal.returns
returns c =
    let g = c.args.goal in
    let seen = has-entries g _ (λ k. refl) c.self.inside.known.entries ∙ ap (λ es. has_goal es g) c.self.view_is in
    let absent : has_goal c.args.self.now g ≡ false = sym seen ∙ sym c.contains_key.ensures ∙ c.if-contains_key.false in
    let new = c.in_ok-insert.ensures.entries ∙ insert_entry-new _ c.self.inside.known g false (none-here _ (sym c.contains_key.ensures ∙ c.if-contains_key.false)) in
    goal-new c.self.inside.known.entries c.insert.new.self.entries g c.args.self.now new c.self.view_is absent
