use Rattle.std.proofs.Common.{length, refl}
use Rattle.std.proofs.lemmas.Option.{slice_get_read}
use Rattle.rb_facts.proofs.Shown.{tell_option}
use Rattle.rb_facts.proofs.threading.sub_by.Goals as goal

pub returns : goal.returns
returns c =
    let known = c.args.known.now in
    let fact = c.in_ok-fact.field-0.now in
    let at = slice_get_read known (length known) c.args.place fact refl c.in_ok-fact.ensures.lookup.3.0 c.in_ok-fact.ensures.lookup.1 in
    tell_option c.args.agreed.now known c.args.place fact c.args.position.now c.sub_from.result at c.sub_from.ensures
