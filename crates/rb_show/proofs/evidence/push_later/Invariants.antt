use Rattle.std.proofs.Common.{◌≡◌, ◌++◌, take}
use Rattle.std.specs.List.{flat_map}
use Rattle.rb_show.specs.Refusals.{later_name}
use Rattle.rb_show.proofs.evidence.push_later.Given as goal

abbrev pub invariant-loop-ty : goal.invariant-loop-ty
invariant-loop-ty l = l.text.items ≡ l.initial.text.items ++ flat_map (later_name l.types) (take l.ty-index l.tys)
