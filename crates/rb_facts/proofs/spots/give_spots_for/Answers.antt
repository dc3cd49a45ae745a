use Rattle.rb_facts.proofs.spots.give_spots_for.Goals as goal

pub returns-clause-gives : goal.returns-clause-gives
returns-clause-gives c = c.give_spots.ensures.gives

pub returns-clause-grows : goal.returns-clause-grows
returns-clause-grows c = c.give_spots.ensures.grows
