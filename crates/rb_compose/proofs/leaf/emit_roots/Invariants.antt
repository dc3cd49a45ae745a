use Rattle.std.proofs.Common.{◌≡◌, ◌++◌, drop}
use Rattle.rb_compose.specs.inner.Code.{root_slots, roots_code}
use Rattle.rb_compose.proofs.leaf.emit_roots.Given as goal

abbrev pub invariant-loop-word : goal.invariant-loop-word
invariant-loop-word l = record {
  code : roots_code l.subs l.blocks (drop l.word-index l.words) l.body ≡ roots_code l.subs l.blocks l.words l.fn.body;
  slots : l.slots ++ root_slots l.subs l.blocks (drop l.word-index l.words) l.body ≡ root_slots l.subs l.blocks l.words l.fn.body;
}
