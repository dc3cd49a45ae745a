use Rattle.rb_layout.proofs.OpenLemmas.{opens-all}
use Rattle.rb_layout.proofs.opens.opens.Goals as goal

pub returns : goal.returns
returns c = opens-all c.args.types.now c.args.prov.now c.type_of_root.result c.new-found.result c.new.result c.add_opens-2.new.found c.new-found.ensures c.new.ensures c.type_of_root.ensures c.in_ok-add_opens.ensures
