use Rattle.std.proofs.Common.{refl, ap, ◌∙◌}
use Rattle.rb_image.specs.Parts.{at_of}
use Rattle.rb_image.specs.inner.Knowing.{is_among}
use Rattle.rb_image.proofs.KnownLemmas.{has-keys}
use Rattle.rb_image.proofs.known.Known.has.Goals as goal

pub returns : goal.returns
returns c =
    let p = at_of c.args.place.now in
    c.contains.ensures ∙ has-keys p _ (λ q. refl) c.self.inside.places.keys ∙ ap (λ ps. is_among ps p) c.self.view_is
