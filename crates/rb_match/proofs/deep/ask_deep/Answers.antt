use Rattle.rb_target.proofs.Growing.{Grows-trans}
use Rattle.rb_match.proofs.Opening.{asks_deep, stands_open}
use Rattle.rb_match.proofs.deep.ask_deep.Goals as goal

pub returns-clause-asks : goal.returns-clause-asks
returns-clause-asks c =
    asks_deep c.args.agreed.now c.args.graph.now c.args.ty c.args.spots.now c.args.reads.now c.args.test.now.known.now c.args.test.now.position c.args.test.now.arms.now c.args.test.now.other c.in_ok-onward.onward c.args.body.now c.make_all.new.body c.open_ways.new.body c.in_ok-words.words
    c.in_ok-edges.edges c.in_ok-words.ensures.makes c.in_ok-words.ensures.count c.in_ok-edges.ensures.stands c.in_ok-onward.ensures (rw (c.as_slice-words.ensures, c.as_slice-onward.ensures) at c.in_ok-edges.ensures.leads)

pub returns-clause-stand : goal.returns-clause-stand
returns-clause-stand c = stands_open c.args.body.now c.make_all.new.body c.open_ways.new.body c.in_ok-edges.edges c.in_ok-words.ensures.grows c.in_ok-edges.ensures.stands

pub returns-clause-grows : goal.returns-clause-grows
returns-clause-grows c = Grows-trans _ _ _ c.in_ok-words.ensures.grows c.in_ok-edges.ensures.grows
