use Rattle.rb_fetch.proofs.parts.find_fields.Goals as goal

pub returns : goal.returns
returns c = rw c.new-root.ensures at c.in_ok-find_parts.ensures
