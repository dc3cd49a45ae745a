use Rattle.rb_facts.proofs.place.place_of_part.Goals as goal

pub returns : goal.returns
returns c = c.place_by_fields.ensures
