use Rattle.std.proofs.Common.{refl, ap, ◌∙◌}
use Rattle.rb_peek.specs.inner.Checking.{with_word}
use Rattle.rb_peek.proofs.PathWordLemmas.{add_keys}
use Rattle.rb_peek.proofs.path_words.PathWords.add.Goals as goal

pub returns : goal.returns
returns c = λ base place.
    add_keys (record { base = c.args.word.base; place = c.args.word.place }) _ (λ w. refl) c.self.inside.places.keys c.insert.new.self.keys c.in_ok-insert.ensures.keys base place
    ∙ ap (λ ks. with_word ks c.args.word base place) c.self.view_is
