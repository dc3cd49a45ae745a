use Rattle.std.proofs.Common.{ap, sym, ◌∙◌, subst}
use Rattle.rb_decide.specs.inner.Sharing.{number_at, AddsKey}
use Rattle.rb_decide.proofs.NodeKeys.{found-added, pushed-added}
use Rattle.rb_decide.proofs.sharing.Sharing.add.Goals as goal

pub returns-in-Some : goal.returns-in-Some
returns-in-Some c =
    let key = c.as_slice.ensures.value ∙ c.in_ok-key.ensures in
    found-added c.args.self.now c.args.node c.in-Some.number c.requires.fine (ap (number_at c.args.self.now) (sym key) ∙ sym c.find.ensures ∙ c.in-Some.is)

pub returns : goal.returns
returns c =
    let key = c.as_slice.ensures.value ∙ c.in_ok-key.ensures in
    pushed-added c.args.self.now c.push.new.self c.args.node c.in_ok-number.number c.requires.fine c.requires.links
    (ap (number_at c.args.self.now) (sym key) ∙ sym c.find.ensures ∙ c.in_default.is)
    c.in_ok-number.ensures.number c.in_ok-number.ensures.nodes
    (subst (λ k. AddsKey c.args.self.now c.push.new.self k c.in_ok-number.number) c.in_ok-key.ensures c.in_ok-number.ensures.keys)
