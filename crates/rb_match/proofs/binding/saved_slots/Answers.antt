use Rattle.std.proofs.Common.{◌≡◌, true, arith}
use Rattle.std.proofs.lemmas.Result.{IfOk-weaker}
use Rattle.rb_match.specs.inner.Binding.{StandsInSpot}
use Rattle.rb_match.proofs.FieldSources.{spot_stands}
use Rattle.rb_match.proofs.binding.saved_slots.Goals as goal

pub returns : goal.returns
returns c =
    let known : c.saved_known.result ≡ true = grind (arith, c.if-not-saved_known.false) in
    let words = c.as_slice-words.result.now in
    IfOk-weaker c.copy_slots.result (λ slots. slots ≡ words) (λ slots. StandsInSpot c.args.spots.now c.args.known.now c.args.field c.args.ty slots)
    (λ slots is. rw (is, c.as_slice-words.ensures) (spot_stands c.args.spots.now c.args.known.now c.args.field c.args.ty c.in-Some.k c.index-spots-k.result c.in-Some.ensures (c.saved_known.ensures known))) c.copy_slots.ensures
