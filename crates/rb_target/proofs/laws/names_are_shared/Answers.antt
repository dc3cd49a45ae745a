use Rattle.rb_target.proofs.Names.{lower_name, name_is_lower}
use Rattle.rb_target.proofs.laws.names_are_shared.Goals as goal

pub returns-clause-of_programs : goal.returns-clause-of_programs
returns-clause-of_programs c = lower_name

pub returns-clause-of_code : goal.returns-clause-of_code
returns-clause-of_code c = name_is_lower
