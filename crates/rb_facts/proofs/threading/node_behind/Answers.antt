use Rattle.std.proofs.Common.{length, refl, ap, ◌∙◌, Some}
use Rattle.std.proofs.lemmas.Option.{slice_get_read}
use Rattle.rb_facts.proofs.Threads.{leads_test}
use Rattle.rb_facts.proofs.threading.node_behind.Goals as goal

pub returns-in_ok-next-in-Test : goal.returns-in_ok-next-in-Test
returns-in_ok-next-in-Test c =
    let nodes = c.args.nodes.now in
    let at = slice_get_read nodes (length nodes) c.args.node c.in_ok-found.found.now refl c.in_ok-found.ensures.lookup.3.0 c.in_ok-found.ensures.lookup.1 in
    leads_test c.args.agreed.now c.args.ty c.args.pats.now nodes c.args.known.now c.args.node c.in_ok-next-in-Test.next c.in-Test.position c.in-Test.arms c.in-Test.other (at ∙ ap Some c.in-Test.is)
    (rw (c.as_slice-position.ensures, c.as_slice-arms.ensures) at c.in_ok-next-in-Test.ensures)
