use Rattle.std.proofs.Common.{◌≡◌, drop}
use Rattle.rb_compose.specs.inner.Code.{stores_code}
use Rattle.rb_compose.proofs.block.emit_stores.Given as goal

abbrev pub invariant-loop-word : goal.invariant-loop-word
invariant-loop-word l = stores_code l.subs l.blocks l.address (drop l.word-index l.words) l.at l.body ≡ stores_code l.subs l.blocks l.address l.words 0 l.fn.body
