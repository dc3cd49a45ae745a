-- A run of valid code keeps a good memory good.
use Rattle.std.proofs.Common.{◌≡◌, ℕ, zero, suc, ◌+◌, List, length, Option, Some, None, Result, Ok, Err, refl}
use Rattle.std.specs.Prelude.{slice_get}
use Rattle.rb_bytes.specs.Memory.{IsGood}
use Rattle.rb_bytes.specs.declared.fault.Full.{Full}
use Rattle.rb_bytes.specs.declared.fault.Trap.{Trap}
use Rattle.rb_bytes.proofs.MemoryLemmas.{place_good, store_good}
use Rattle.rb_target.specs.Calls.{KeepGood}
use Rattle.rb_target.specs.Meaning.{World, CallEnd, Next, Callee, act, act_at, steps, from, enter, body_in, body_of, after_load, after_store, after_place, after_switch, after_call, after_one_call, taken, with_switch, with_left, slots_at, put_slots}
use Rattle.rb_target.specs.Validity.{IsBounded, IsValidFun, IsValid}
use Rattle.rb_target.specs.declared.outcome.End.{End}
use Rattle.rb_target.specs.declared.outcome.End.TheVariants.{Returned, Spent, Full as Filled, Trapped}
use Rattle.rb_target.specs.declared.code.CodeFun.{CodeFun}
use Rattle.rb_target.specs.declared.instr.Instr.{Instr}
use Rattle.rb_target.specs.declared.instr.Instr.TheVariants.{Const, Copy, Alu, Take, Put, Load, Store, Place, Jump, Switch, Call, Return}

abbrev Good : CallEnd → Type 0
Good o = IsGood o.world.memory

load_good : (r : Result ℕ Trap) (w : World) (go : ℕ → CallEnd) → IsGood w.memory → ((x : ℕ) → Good (go x)) → Good (after_load r w go)
load_good (Ok x) w go good h = h x
load_good (Err t) w go good h = good

stored_good : (r : Result (Unit {0}) Trap) (w : World) (go : CallEnd) → IsGood w.memory → Good go → Good (after_store r w go)
stored_good (Ok x) w go good h = h
stored_good (Err t) w go good h = good

placed_good : (r : Result ℕ Full) (w : World) (go : ℕ → CallEnd) → IsGood w.memory → ((x : ℕ) → Good (go x)) → Good (after_place r w go)
placed_good (Ok x) w go good h = h x
placed_good (Err t) w go good h = good

switch_good : (o : Option ℕ) (word : ℕ) (w : World) (go : ℕ → CallEnd) → IsGood w.memory → ((t : ℕ) → Good (go t)) → Good (after_switch o word w go)
switch_good None word w go good h = good
switch_good (Some t) word w go good h = h t

call_good : (e : End) (w : World) (go : List ℕ → CallEnd) → IsGood w.memory → ((x : List ℕ) → Good (go x)) → Good (after_call e w go)
call_good (Returned x l) w go good h = h x
call_good Spent w go good h = good
call_good (Filled f) w go good h = good
call_good (Trapped t) w go good h = good

module _ (callee : Callee) (called : (f : ℕ) (words : List ℕ) (w : World) → IsGood w.memory → Good (callee f words w)) where
  act_good : (i : Instr) → IsBounded i → (g : Next) (pc : ℕ) (slots : List ℕ) (w : World) → IsGood w.memory → ((t : ℕ) (s : List ℕ) (v : World) → IsGood v.memory → Good (g t s v)) → Good (act i g callee pc slots w)
  act_good (Const d c) b g pc slots w good h = h _ _ w good
  act_good (Copy d a) b g pc slots w good h = h _ _ w good
  act_good (Alu op n d x y) b g pc slots w good h = h _ _ w good
  act_good (Take d a o l) b g pc slots w good h = h _ _ w good
  act_good (Put d a o l) b g pc slots w good h = h _ _ w good
  act_good (Load d a offset width) b g pc slots w good h = load_good _ w _ good (λ x. h _ _ w good)
  act_good (Store a offset width v) b g pc slots w good h =
      let kept = store_good w.memory _ offset width _ good in stored_good _ _ _ kept (h _ _ _ kept)
  act_good (Place d size align) b g pc slots w good h =
      let kept = place_good w.memory size align good b.0 b.1 in placed_good _ _ _ kept (λ x. h _ _ _ kept)
  act_good (Jump t) b g pc slots w good h = h _ _ w good
  act_good (Switch a other arms) b g pc slots w good h = switch_good _ _ (with_switch w) _ good (λ t. h _ _ (with_switch w) good)
  act_good (Call f ds froms) b g pc slots w good h =
      let back = callee f (slots_at slots froms) w in
      let kept = called f (slots_at slots froms) w good in
      call_good back.ended back.world (λ x. g (pc + 1) (put_slots slots ds x) back.world) kept (λ x. h _ _ back.world kept)
  act_good (Return froms) b g pc slots w good h = good

  at_good : (o : Option Instr) → ((i : Instr) → o ≡ Some i → IsBounded i) → (g : Next) (pc : ℕ) (slots : List ℕ) (w : World) → IsGood w.memory → ((t : ℕ) (s : List ℕ) (v : World) → IsGood v.memory → Good (g t s v)) → Good (act_at o g callee pc slots w)
  at_good None b g pc slots w good h = good
  at_good (Some i) b g pc slots w good h = act_good i (b i refl) g pc slots (taken w) good h

  steps_good : (n : ℕ) (body : List Instr) → ((pc : ℕ) (i : Instr) → slice_get body pc ≡ Some i → IsBounded i) → (pc : ℕ) (slots : List ℕ) (w : World) → IsGood w.memory → Good (steps n body callee pc slots w)
  steps_good zero body b pc slots w good = good
  steps_good (suc n) body b pc slots w good = at_good (slice_get body pc) (b pc) (steps n body callee) pc slots w good (λ t s v kept. steps_good n body b t s v kept)

one_call_good : (left : ℕ) (w : World) (go : World → CallEnd) → IsGood w.memory → ((v : World) → IsGood v.memory → Good (go v)) → Good (after_one_call left w go)
one_call_good zero w go good h = good
one_call_good (suc l) w go good h = h (with_left w l) good

bounded_in : (funs : List CodeFun) (o : Option CodeFun) → ((f : CodeFun) → o ≡ Some f → IsValidFun funs f) → (pc : ℕ) (i : Instr) → slice_get (body_in o) pc ≡ Some i → IsBounded i
bounded_in funs None valid pc i is = cc
bounded_in funs (Some f) valid pc i is = ((valid f refl).each pc i is).bounded

pub keep_good : (funs : List CodeFun) → IsValid funs → KeepGood funs
unfolding enter from
keep_good funs valid zero f words w good = good
keep_good funs valid (suc depth) f words w good =
    one_call_good w.left w _ good
    (λ v kept. steps_good (enter funs depth) (keep_good funs valid depth) (length (body_of funs f)) (body_of funs f) (bounded_in funs (slice_get funs f) (valid.each f)) 0 _ v kept)
