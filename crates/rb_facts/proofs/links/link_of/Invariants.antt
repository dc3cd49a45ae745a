use Rattle.std.proofs.Common.{◌≡◌, drop, []}
use Rattle.rb_core.specs.declared.value.Value.TheOpen as V
use Rattle.rb_facts.specs.Links.{take_link}
use Rattle.rb_facts.proofs.links.link_of.Given as goal

abbrev pub invariant-loop-arm : goal.invariant-loop-arm
invariant-loop-arm l = take_link (drop l.arm-index l.arms) l.other (V.Con l.con []) ≡ take_link l.arms l.other (V.Con l.con [])
