use Rattle.std.proofs.Common.{◌≡◌, drop, Some}
use Rattle.rb_agree.specs.inner.Sharing.{con_from}
use Rattle.rb_agree.proofs.sharing.con_at.Given as goal

abbrev pub invariant-loop-field : goal.invariant-loop-field
invariant-loop-field l = con_from (Some l.here) (drop l.field-index l.path) ≡ con_from (Some l.fn.pat) l.path
