use Rattle.rb_values.proofs.PostLemmas as posts
use Rattle.rb_values.proofs.builder.Builder.number.Goals as goal

pub invariant_of-self-in-Ok : goal.invariant_of-self-in-Ok
invariant_of-self-in-Ok c =
    let o = posts.built_number c.self.inside.nodes c.self.inside.done.items c.args.n c.self.invariant in
    rw (c.in-Ok.ensures.ok, c.in_ok-push.ensures.items, c.len-at.ensures) o.built

pub returns-in-Ok : goal.returns-in-Ok
returns-in-Ok c =
    let o = posts.built_number c.self.inside.nodes c.self.inside.done.items c.args.n c.self.invariant in
    rw (c.in-Ok.ensures.ok, c.in_ok-push.ensures.items, c.len-at.ensures, ← c.self.view_is) o.shows
