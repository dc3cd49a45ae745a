use Rattle.std.proofs.Common.{◌≡◌, drop}
use Rattle.rb_coding.specs.inner.Gathering.{put_parts as all_parts}
use Rattle.rb_coding.proofs.gather.put_parts.Given as goal

abbrev pub invariant-loop-part : goal.invariant-loop-part
invariant-loop-part l = all_parts l.wanted l.path l.word l.parts l.fn.table ≡ all_parts l.wanted l.path l.word (drop l.part-index l.parts) l.table
