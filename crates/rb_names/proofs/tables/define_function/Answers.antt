use Rattle.rb_names.proofs.DefiningLemmas.{function-added}
use Rattle.rb_names.proofs.tables.define_function.Goals as goal

pub returns-clause-added : goal.returns-clause-added
returns-clause-added c before a =
    function-added before c.args.known.now a c.args.name.now c.in_ok-number.number c.define.new.table c.in_ok-define.ensures.table c.in_ok-define.ensures.new
