use Rattle.rb_compose.proofs.Composing.{makes}
use Rattle.rb_compose.proofs.Longer.{leaf_grows}
use Rattle.rb_compose.proofs.leaf.emit_leaf.Goals as goal

pub returns-clause-makes : goal.returns-clause-makes
returns-clause-makes c =
    makes c.args.leaf.now c.args.subs.now c.args.body.now c.emit_words.new.body c.in_ok-slots.slots c.in_ok-slots.ensures.slots c.in_ok-slots.ensures.code

pub returns-clause-grows : goal.returns-clause-grows
returns-clause-grows c = leaf_grows c.args.subs.now c.args.leaf.now c.args.body.now c.emit_words.new.body c.in_ok-slots.ensures.code
