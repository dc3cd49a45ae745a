use Rattle.std.proofs.Common.{◌++◌, codes, refl}
use Rattle.std.specs.Fmt.{decimal}
use Rattle.rb_core.proofs.TextLemmas.{appended, two}
use Rattle.rb_show.proofs.Texts.{flat_map_next}
use Rattle.rb_show.proofs.piece.push_path.Goals as goal

pub loop-field-preserved : goal.loop-field-preserved
loop-field-preserved c =
    appended _ _ _ _ _ _ c.loop-field.invariant (two _ (codes ".") _ _ _ _ c.in_ok-push.ensures.ok refl c.in_ok-push_number.ensures.ok)
    (flat_map_next (λ i. codes "." ++ decimal i) c.args.path.now c.loop-field.field-index _ c.loop-field-test.true)
