use Rattle.std.proofs.Common.{◌≡◌, ◌++◌, drop}
use Rattle.rb_fragment.specs.Slots.{copies}
use Rattle.rb_fragment.proofs.emit.emit_copies.Given as goal

abbrev pub invariant-loop-i : goal.invariant-loop-i
invariant-loop-i l = record {
  code : l.fn.body.code ++ copies l.dests l.froms ≡ l.body.code ++ copies (drop l.i l.dests) (drop l.i l.froms);
  params : l.body.params ≡ l.fn.body.params;
  slots : l.body.slots ≡ l.fn.body.slots;
}
