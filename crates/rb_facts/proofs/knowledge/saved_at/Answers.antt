use Rattle.std.proofs.Common.{length, refl, ap, ◌∙◌, Some}
use Rattle.std.proofs.lemmas.Option.{slice_get_read}
use Rattle.rb_facts.proofs.Numbers.{same-nat}
use Rattle.rb_facts.proofs.Following.{follows-saved}
use Rattle.rb_facts.proofs.knowledge.saved_at.Goals as goal

pub returns-in-Saved : goal.returns-in-Saved
returns-in-Saved c same =
    let known = c.args.known.now in
    let at = slice_get_read known (length known) c.args.place c.in-Some.fact.now refl c.in-Some.ensures.lookup.3.0 c.in-Some.ensures.lookup.1 in
    follows-saved known c.args.place c.in-Saved.found c.args.spot (at ∙ ap Some c.in-Saved.is) (same-nat c.in-Saved.found c.args.spot same)
