use Rattle.std.proofs.Common.{◌≡◌, length, refl, sym, subst, ap, ◌∙◌, Some, arith}
use Rattle.std.proofs.lemmas.Option.{slice_get_read}
use Rattle.rb_core.specs.declared.types.Ty.TheVariants.{Named}
use Rattle.rb_facts.specs.Places.{FindsPlace}
use Rattle.rb_facts.proofs.Following.{follows}
use Rattle.rb_facts.proofs.Placing.{reaches}
use Rattle.rb_facts.proofs.place.place_inside.Goals as goal

pub returns : goal.returns
returns c =
    let known = c.args.known.now in
    let at = slice_get_read known (length known) c.args.i c.in-Some.fact.now refl c.in-Some.ensures.lookup.3.0 c.in-Some.ensures.lookup.1 in
    let follow = follows known c.args.i c.in-Leaf.above c.in-Leaf.of c.in-Leaf.leaf c.in-Leaf.of c.in-Leaf.above.now (at ∙ ap Some c.in-Leaf.is) refl refl in
    let same : c.in-Named.found ≡ c.in-Leaf.of = omega (arith, c.if-found-of.false) in
    subst (λ position. FindsPlace c.args.agreed.now c.args.ty c.args.words.now c.args.spots.now known position (record { ty = c.in-Some-field_of.at; reads = c.in_ok-reads.reads })) (sym c.in-Some-position_below.ensures)
    (reaches c.args.agreed.now c.in_ok-part.part known c.in-Leaf.above.now c.in-Some-position_below.path.now c.in-Leaf.of c.in-Leaf.leaf c.in-Some-field_of.at c.in_ok-reads.reads c.args.ty c.args.words.now c.args.spots.now
    (c.in-Named.is ∙ ap Named same) follow c.in-Some-field_of.ensures (rw c.as_slice.ensures at c.in_ok-reads.ensures.reads) c.in_ok-part.ensures)
