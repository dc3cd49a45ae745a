use Rattle.rb_names.proofs.DerivingLemmas.{derived-next}
use Rattle.rb_names.proofs.derivation.derive_all.Goals as goal

pub loop-ty-preserved : goal.loop-ty-preserved
loop-ty-preserved c =
    derived-next c.args.program.now c.args.kinds.now c.args.types.now c.loop-ty.ty-index c.loop-ty.derived c.derive_next.new.derived c.loop-ty-test.true c.loop-ty.invariant
    c.in_ok-derive_next.ensures
