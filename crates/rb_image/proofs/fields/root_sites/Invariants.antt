use Rattle.std.proofs.Common.{◌≡◌, ◌++◌, ◌-◌}
use Rattle.rb_image.specs.inner.Siting.{sites_from, whole_root}
use Rattle.rb_image.proofs.fields.root_sites.Given as goal

abbrev pub invariant-loop-number : goal.invariant-loop-number
invariant-loop-number l = sites_from whole_root 0 l.count ≡ l.found.items ++ sites_from whole_root l.number (l.count - l.number)
