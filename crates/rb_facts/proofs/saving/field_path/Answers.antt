use Rattle.rb_facts.proofs.saving.field_path.Goals as goal

pub returns : goal.returns
returns c = rw c.in_ok-number.ensures at c.path_below.ensures
