use Rattle.std.proofs.Common.{◌≡◌, drop}
use Rattle.rb_fetch.specs.inner.Heads.{is_among}
use Rattle.rb_fetch.proofs.heads.is_among.Given as goal

abbrev pub invariant-loop-own : goal.invariant-loop-own
invariant-loop-own l = is_among (drop l.own-index l.paths) l.path ≡ is_among l.paths l.path
