use Rattle.std.proofs.Common.{subst}
use Rattle.rb_sound.specs.Words.{HasWords}
use Rattle.rb_sound.proofs.typed_has_words.Goals as goal

pub returns : goal.returns
returns c = subst HasWords c.program.ensures.same c.see_numbers.ensures
