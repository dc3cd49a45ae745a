use Rattle.std.proofs.Common.{◌≡◌, drop}
use Rattle.rb_compose.specs.inner.Code.{parts_code}
use Rattle.rb_compose.proofs.word.emit_parts.Given as goal

abbrev pub invariant-loop-part : goal.invariant-loop-part
invariant-loop-part l = parts_code l.subs l.blocks l.into (drop l.part-index l.parts) l.body ≡ parts_code l.subs l.blocks l.into l.parts l.fn.body
