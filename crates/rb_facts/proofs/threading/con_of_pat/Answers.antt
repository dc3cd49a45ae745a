use Rattle.rb_facts.proofs.Shown.{con_begins}
use Rattle.rb_facts.proofs.threading.con_of_pat.Goals as goal

pub returns-in-Con : goal.returns-in-Con
returns-in-Con c = con_begins c.args.pat.now c.in-Con.field-0 c.in-Con.con c.in-Con.field-2 c.in-Con.is
