use Rattle.std.proofs.Common.{◌≡◌, drop}
use Rattle.rb_coding.specs.inner.Gathering.{put_blocks as all_blocks}
use Rattle.rb_coding.proofs.gather.put_blocks.Given as goal

abbrev pub invariant-loop-b : goal.invariant-loop-b
invariant-loop-b l = all_blocks l.path l.blocks l.loaded l.fn.table ≡ all_blocks l.path (drop l.b l.blocks) l.loaded l.table
