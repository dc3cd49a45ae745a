use Rattle.rb_fetch.specs.inner.Fields.{ReadWords}
use Rattle.rb_fetch.proofs.field.word_reads.Given as goal

abbrev pub invariant-loop-j : goal.invariant-loop-j
invariant-loop-j l = ReadWords l.leaf l.words l.path l.ty l.j l.reads
