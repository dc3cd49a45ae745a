use Rattle.std.proofs.Common.{length, refl, ap, ◌∙◌, Some}
use Rattle.std.proofs.lemmas.Option.{slice_get_read}
use Rattle.rb_facts.proofs.Following.{follows}
use Rattle.rb_facts.proofs.knowledge.leaf_at.Goals as goal

pub returns-then-same_position : goal.returns-then-same_position
returns-then-same_position c =
    let known = c.args.known.now in
    let fact = c.in_ok-fact.field-0.now in
    let at = slice_get_read known (length known) c.args.place fact refl c.in_ok-fact.ensures.lookup.3.0 c.in_ok-fact.ensures.lookup.1 in
    follows known c.args.place c.in-Leaf.found c.in-Leaf.of c.in-Leaf.leaf c.args.ty c.args.position.now (at ∙ ap Some c.in-Leaf.is) c.if-of-ty.true (c.same_position.ensures c.if-same_position.true)
