use Rattle.rb_peek.proofs.arrival.at_root.Goals as goal

pub returns-clause-read : goal.returns-clause-read
returns-clause-read c = λ m readable. record { readable = readable; numbers = c.in_ok-words.ensures.numbers m }
