use Rattle.std.proofs.Common.{◌≡◌, map, drop, get_or}
use Rattle.rb_target.specs.Meaning.{put_slots}
use Rattle.rb_machine.proofs.calls.put_back.Given as goal

abbrev pub invariant-loop-k : goal.invariant-loop-k
invariant-loop-k l =
    put_slots l.fn.slots l.dests (map (λ a. get_or l.words a 0) l.froms)
    ≡ put_slots l.slots (drop l.k l.dests) (map (λ a. get_or l.words a 0) (drop l.k l.froms))
