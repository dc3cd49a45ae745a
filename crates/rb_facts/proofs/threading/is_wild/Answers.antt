use Rattle.rb_facts.proofs.Shown.{var_is, wild_is}
use Rattle.rb_facts.proofs.threading.is_wild.Goals as goal

pub returns-in-Wild : goal.returns-in-Wild
returns-in-Wild c holds = wild_is c.args.pat.now c.in-Wild.field-0 c.in-Wild.is

pub returns-in-Var : goal.returns-in-Var
returns-in-Var c holds = var_is c.args.pat.now c.in-Var.field-0 c.in-Var.field-1 c.in-Var.is
