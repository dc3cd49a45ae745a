use Rattle.rb_target.specs.Growth.{Grows}
use Rattle.rb_facts.specs.inner.Saving.{SavesSome}
use Rattle.rb_facts.proofs.saving.+saving.Given as goal

abbrev pub invariant-save_below-loop-j : goal.invariant-save_below-loop-j
invariant-save_below-loop-j l = record {
  saves : SavesSome l.agreed l.source l.path l.j l.fn.known l.known l.fn.body l.body;
  grows : Grows l.fn.body.code l.body.code;
}
