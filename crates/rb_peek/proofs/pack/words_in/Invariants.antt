use Rattle.std.proofs.Common.{◌≡◌, drop}
use Rattle.rb_peek.specs.Rebuilds.{words_at_path}
use Rattle.rb_peek.proofs.pack.words_in.Given as goal

abbrev pub invariant-loop-field : goal.invariant-loop-field
invariant-loop-field l = words_at_path l.fields l.path ≡ words_at_path (drop l.field-index l.fields) l.path
