use Rattle.std.proofs.Common.{length, refl, sym, subst, ◌∙◌}
use Rattle.std.proofs.lemmas.Option.{slice_get_read}
use Rattle.rb_facts.specs.Knowing.{AreKnown, IsKnown, View}
use Rattle.rb_facts.proofs.Following.{is-shared}
use Rattle.rb_facts.proofs.knowledge.shared_fact.Goals as goal
use Rattle.rb_facts.proofs.knowledge.shared_fact.Goals.{in-Leaf, in-Saved}

pub returns-then-both : goal.returns-then-both
returns-then-both c =
    let known = c.args.known.now in
    let other = c.args.other.now in
    let fact = c.in_ok-fact.field-0.now in
    let at = slice_get_read known (length known) c.args.i fact refl c.in_ok-fact.ensures.lookup.3.0 c.in_ok-fact.ensures.lookup.1 in
    let both = c.if-both.true in
    let follows : (view : View) → AreKnown view other → IsKnown view fact = elim c.match-fact.branch [
      | in-Leaf w ↦ λ view all. subst (IsKnown view) (sym w.in-Leaf.is) (w.shared_leaf-both.ensures (sym w.both-is ∙ both) view all)
      | in-Saved w ↦ λ view all. subst (IsKnown view) (sym w.in-Saved.is) (w.shared_spot-both.ensures (sym w.both-is ∙ both) view all)
    ] in
    is-shared known other c.args.i fact at follows
