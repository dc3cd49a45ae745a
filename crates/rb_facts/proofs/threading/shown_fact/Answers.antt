use Rattle.rb_facts.proofs.Shown.{show_option}
use Rattle.rb_facts.proofs.threading.shown_fact.Goals as goal

pub returns : goal.returns
returns c = show_option c.args.agreed.now c.args.known.now c.args.position.now c.in_ok-sub.sub.now c.leaf_shown.result c.in_ok-sub.ensures c.leaf_shown.ensures
