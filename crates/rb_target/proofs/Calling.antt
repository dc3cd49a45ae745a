-- What a call is: none left, one less, and the calls left that a return tells.
use Rattle.std.proofs.Common.{◌≡◌, ℕ, zero, suc, ◌+◌, List, length, Option, Some, None, Result, Ok, Err, refl, ap}
use Rattle.std.specs.Prelude.{slice_get}
use Rattle.rb_bytes.specs.declared.fault.Full.{Full}
use Rattle.rb_bytes.specs.declared.fault.Trap.{Trap}
use Rattle.rb_target.specs.Calls.{CallLaws}
use Rattle.rb_target.specs.Meaning.{World, CallEnd, over, Next, Callee, act, act_at, steps, from, enter, body_of, first_slots, after_load, after_store, after_place, after_switch, after_call, after_one_call, taken, with_switch, with_left, slots_at, put_slots}
use Rattle.rb_target.specs.declared.outcome.End.{End}
use Rattle.rb_target.specs.declared.outcome.End.TheVariants.{Returned, Spent, Full as Filled, Trapped}
use Rattle.rb_target.specs.declared.code.CodeFun.{CodeFun}
use Rattle.rb_target.specs.declared.instr.Instr.{Instr}
use Rattle.rb_target.specs.declared.instr.Instr.TheVariants.{Const, Copy, Alu, Take, Put, Load, Store, Place, Jump, Switch, Call, Return}

-- where a run returns, it tells the calls that are left then
record Tells (o : CallEnd) : Type 0 where
  by : (words : List ℕ) (left : ℕ) → o.ended ≡ Returned words left → left ≡ o.world.left

load_tells : (r : Result ℕ Trap) (w : World) (go : ℕ → CallEnd) → ((x : ℕ) → Tells (go x)) → Tells (after_load r w go)
load_tells (Ok x) w go h = h x
load_tells (Err t) w go h = record { by = λ words left e. cc }

store_tells : (r : Result (Unit {0}) Trap) (w : World) (go : CallEnd) → Tells go → Tells (after_store r w go)
store_tells (Ok x) w go h = h
store_tells (Err t) w go h = record { by = λ words left e. cc }

place_tells : (r : Result ℕ Full) (w : World) (go : ℕ → CallEnd) → ((x : ℕ) → Tells (go x)) → Tells (after_place r w go)
place_tells (Ok x) w go h = h x
place_tells (Err t) w go h = record { by = λ words left e. cc }

switch_tells : (o : Option ℕ) (word : ℕ) (w : World) (go : ℕ → CallEnd) → ((t : ℕ) → Tells (go t)) → Tells (after_switch o word w go)
switch_tells None word w go h = record { by = λ words left e. cc }
switch_tells (Some t) word w go h = h t

call_tells : (e : End) (w : World) (go : List ℕ → CallEnd) → ((x : List ℕ) → Tells (go x)) → Tells (after_call e w go)
call_tells (Returned x l) w go h = h x
call_tells Spent w go h = record { by = λ words left e. cc }
call_tells (Filled f) w go h = record { by = λ words left e. cc }
call_tells (Trapped t) w go h = record { by = λ words left e. cc }

module _ (callee : Callee) where
  act_tells : (i : Instr) (g : Next) (pc : ℕ) (slots : List ℕ) (w : World) → ((t : ℕ) (s : List ℕ) (v : World) → Tells (g t s v)) → Tells (act i g callee pc slots w)
  act_tells (Const d c) g pc slots w h = h _ _ w
  act_tells (Copy d a) g pc slots w h = h _ _ w
  act_tells (Alu op n d a b) g pc slots w h = h _ _ w
  act_tells (Take d a o l) g pc slots w h = h _ _ w
  act_tells (Put d a o l) g pc slots w h = h _ _ w
  act_tells (Load d a offset width) g pc slots w h = load_tells _ w _ (λ x. h _ _ w)
  act_tells (Store a offset width v) g pc slots w h = store_tells _ _ _ (h _ _ _)
  act_tells (Place d size align) g pc slots w h = place_tells _ _ _ (λ x. h _ _ _)
  act_tells (Jump t) g pc slots w h = h _ _ w
  act_tells (Switch a other arms) g pc slots w h = switch_tells _ _ (with_switch w) _ (λ t. h _ _ _)
  act_tells (Call f ds froms) g pc slots w h =
      let back = callee f (slots_at slots froms) w in
      call_tells back.ended back.world (λ x. g (pc + 1) (put_slots slots ds x) back.world) (λ x. h _ _ back.world)
  act_tells (Return froms) g pc slots w h = record { by = λ words left e. cc }

  at_tells : (o : Option Instr) (g : Next) (pc : ℕ) (slots : List ℕ) (w : World) → ((t : ℕ) (s : List ℕ) (v : World) → Tells (g t s v)) → Tells (act_at o g callee pc slots w)
  at_tells None g pc slots w h = record { by = λ words left e. cc }
  at_tells (Some i) g pc slots w h = act_tells i g pc slots (taken w) h

  steps_tell : (n : ℕ) (body : List Instr) (pc : ℕ) (slots : List ℕ) (w : World) → Tells (steps n body callee pc slots w)
  steps_tell zero body pc slots w = record { by = λ words left e. cc }
  steps_tell (suc n) body pc slots w = at_tells (slice_get body pc) (steps n body callee) pc slots w (steps_tell n body)

one_call_tells : (left : ℕ) (w : World) (go : World → CallEnd) → ((v : World) → Tells (go v)) → Tells (after_one_call left w go)
one_call_tells zero w go h = record { by = λ words left e. cc }
one_call_tells (suc l) w go h = h (with_left w l)

enter_tells : (funs : List CodeFun) (depth f : ℕ) (words : List ℕ) (w : World) → Tells (enter funs depth f words w)
unfolding enter from
enter_tells funs zero f words w = record { by = λ words left e. cc }
enter_tells funs (suc depth) f words w = one_call_tells w.left w _ (λ v. steps_tell (enter funs depth) (length (body_of funs f)) (body_of funs f) 0 _ v)

pub enter_none : (funs : List CodeFun) (depth f : ℕ) (words : List ℕ) (w : World) → w.left ≡ 0 → enter funs depth f words w ≡ over Spent w
unfolding enter
enter_none funs zero f words w e = refl
enter_none funs (suc depth) f words w e =
    ap (λ n. after_one_call n w (λ v. from (body_of funs f) (enter funs depth) 0 (first_slots funs f words) v)) e

pub enter_one : (funs : List CodeFun) (depth f n : ℕ) (words : List ℕ) (w : World) → w.left ≡ suc n
    → enter funs (suc depth) f words w ≡ from (body_of funs f) (enter funs depth) 0 (first_slots funs f words) (with_left w n)
unfolding enter
enter_one funs depth f n words w e =
    ap (λ k. after_one_call k w (λ v. from (body_of funs f) (enter funs depth) 0 (first_slots funs f words) v)) e

pub calls_are : (funs : List CodeFun) → CallLaws funs
calls_are funs = record {
  none = enter_none funs;
  one = enter_one funs;
  tells = λ depth f left words results w e. (enter_tells funs depth f words w).by results left e;
}
