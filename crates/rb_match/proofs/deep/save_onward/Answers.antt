use Rattle.rb_match.proofs.deep.save_onward.Goals as goal

pub returns-clause-saves : goal.returns-clause-saves
returns-clause-saves c = rw (c.in_ok-facts.ensures, c.as_slice.ensures) at c.save_fields.ensures.saves

pub returns-clause-grows : goal.returns-clause-grows
returns-clause-grows c = c.save_fields.ensures.grows
