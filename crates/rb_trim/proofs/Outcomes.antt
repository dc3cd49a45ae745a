-- Two outcomes, one no dearer, where what goes on is.
use Rattle.std.proofs.Common.{◌≡◌, ℕ, ◌≤◌, List, Result, Ok, Err, refl, arith}
use Rattle.rb_bytes.specs.declared.fault.Full.{Full}
use Rattle.rb_bytes.specs.declared.fault.Trap.{Trap}
use Rattle.rb_bytes.specs.Memory.{Memory}
use Rattle.rb_target.specs.Meaning.{World, CallEnd, over, after_load, after_store, after_place, after_call, taken, with_switch, with_memory}
use Rattle.rb_target.specs.declared.outcome.End.{End}
use Rattle.rb_target.specs.declared.outcome.End.TheVariants.{Returned, Spent, Full as Filled, Trapped}
use Rattle.rb_trim.specs.Trimming.{IsNoDearer}

-- the same calls left and memory, and no more switches and instructions
pub record Near (v w : World) : Type 0 where
  pub left : v.left ≡ w.left
  pub memory : v.memory ≡ w.memory
  pub switches : v.switches ≤ w.switches
  pub taken : v.taken ≤ w.taken

pub over_near : (e : End) (v w : World) → Near v w → IsNoDearer (over e v) (over e w)
over_near e v w n = record { ended = refl; left = n.left; memory = n.memory; switches = n.switches; taken = n.taken }

pub near_taken : (v w : World) → Near v w → Near (taken v) (taken w)
near_taken v w n = record { left = n.left; memory = n.memory; switches = n.switches; taken = omega (arith, n.taken) }

-- an instruction that is left out is taken by the old code alone
pub near_behind : (v w : World) → Near v w → Near v (taken w)
near_behind v w n = record { left = n.left; memory = n.memory; switches = n.switches; taken = omega (arith, n.taken) }

pub near_switched : (v w : World) → Near v w → Near (with_switch v) (with_switch w)
near_switched v w n = record { left = n.left; memory = n.memory; switches = omega (arith, n.switches); taken = n.taken }

-- a switch that is left out is done by the old code alone
pub near_more : (v w : World) → Near v w → Near v (with_switch w)
near_more v w n = record { left = n.left; memory = n.memory; switches = omega (arith, n.switches); taken = n.taken }

pub near_memory : (v w : World) (m : Memory) → Near v w → Near (with_memory v m) (with_memory w m)
near_memory v w m n = record { left = n.left; memory = refl; switches = n.switches; taken = n.taken }

pub near_of : (o p : CallEnd) → IsNoDearer o p → Near o.world p.world
near_of o p d = record { left = d.left; memory = d.memory; switches = d.switches; taken = d.taken }

pub load_near : (r : Result ℕ Trap) (v w : World) (g h : ℕ → CallEnd) → Near v w → ((x : ℕ) → r ≡ Ok x → IsNoDearer (g x) (h x)) → IsNoDearer (after_load r v g) (after_load r w h)
load_near (Ok x) v w g h n e = e x refl
load_near (Err t) v w g h n e = over_near (Trapped t) v w n

pub store_near : (r : Result (Unit {0}) Trap) (v w : World) (a b : CallEnd) → Near v w → IsNoDearer a b → IsNoDearer (after_store r v a) (after_store r w b)
store_near (Ok x) v w a b n e = e
store_near (Err t) v w a b n e = over_near (Trapped t) v w n

pub place_near : (r : Result ℕ Full) (v w : World) (g h : ℕ → CallEnd) → Near v w → ((x : ℕ) → IsNoDearer (g x) (h x)) → IsNoDearer (after_place r v g) (after_place r w h)
place_near (Ok x) v w g h n e = e x
place_near (Err t) v w g h n e = over_near (Filled t) v w n

pub call_near : (e : End) (v w : World) (g h : List ℕ → CallEnd) → Near v w → ((x : List ℕ) → IsNoDearer (g x) (h x)) → IsNoDearer (after_call e v g) (after_call e w h)
call_near (Returned x l) v w g h n e = e x
call_near Spent v w g h n e = over_near Spent v w n
call_near (Filled f) v w g h n e = over_near (Filled f) v w n
call_near (Trapped t) v w g h n e = over_near (Trapped t) v w n
