use Rattle.std.proofs.Common.{◌≡◌, ◌∙◌, length, ◌++◌, ◌∷◌, [], refl, subst, arith}
use Rattle.rb_core.specs.inner.Order.{Follows}
use Rattle.rb_core.proofs.ScopeLemmas.{order-grows}
use Rattle.rb_core.proofs.scope.Scope.push.Goals as goal

pub invariant_of-self-then-follows : goal.invariant_of-self-then-follows
invariant_of-self-then-follows c =
    let new : c.push.new.self ≡ c.self.inside.binders ++ c.args.binder ∷ [] = c.in_ok-push.ensures.ok in
    let len : c.len-self-inside.result ≡ length c.push.new.self = c.len-self-inside.ensures in
    let whole : c.self.inside.ordered ≡ length c.self.inside.binders = c.if-whole.true ∙ c.len.ensures in
    let follows : Follows c.args.binder.var c.self.inside.binders = subst (Follows c.args.binder.var) c.as_slice.ensures (c.if-follows.ensures.0 refl) in
    (omega (arith, len), rw (len, new) (order-grows c.self.inside.ordered c.self.inside.binders c.args.binder whole c.self.invariant.1 follows))
