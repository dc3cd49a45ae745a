use Rattle.std.proofs.Common.{refl, ap, ◌∙◌}
use Rattle.rb_image.specs.Parts.{at_of}
use Rattle.rb_image.specs.inner.Knowing.{with_place}
use Rattle.rb_image.proofs.KnownLemmas.{add-keys}
use Rattle.rb_image.proofs.known.Known.add.Goals as goal

pub returns : goal.returns
returns c =
    add-keys c.args.place _ (λ q. refl) c.self.inside.places.keys c.insert.new.self.keys c.in_ok-insert.ensures.keys
    ∙ ap (λ ps. with_place ps (at_of c.args.place)) c.self.view_is
