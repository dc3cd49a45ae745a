-- Two bounds on the nesting of calls that are no less than the calls left give the same.
use Rattle.std.proofs.Common.{◌≡◌, ℕ, zero, suc, ◌+◌, ◌≤◌, List, length, Option, Some, None, refl, sym, ap, ◌∙◌, arith}
use Rattle.std.specs.Prelude.{slice_get}
use Rattle.rb_target.proofs.Calling.{enter_none}
use Rattle.rb_target.proofs.Results.{load_same, store_same, place_same, switch_same, call_same, one_call_same, load_left, store_left, place_left, switch_left, call_left, one_call_left}
use Rattle.rb_target.specs.Meaning.{World, CallEnd, Next, Callee, act, act_at, steps, from, enter, body_of, after_call, taken, slots_at, put_slots, with_memory, with_switch}
use Rattle.rb_target.specs.declared.code.CodeFun.{CodeFun}
use Rattle.rb_target.specs.declared.instr.Instr.{Instr}
use Rattle.rb_target.specs.declared.instr.Instr.TheVariants.{Const, Copy, Alu, Take, Put, Load, Store, Place, Jump, Switch, Call, Return}

-- no call gives calls back
record Falls (callee : Callee) : Type 0 where
  by : (f : ℕ) (words : List ℕ) (w : World) → (callee f words w).world.left ≤ w.left

module _ (callee : Callee) (falls : Falls callee) where
  act_left : (i : Instr) (g : Next) (pc : ℕ) (slots : List ℕ) (w : World) → ((t : ℕ) (s : List ℕ) (v : World) → (g t s v).world.left ≤ v.left) → (act i g callee pc slots w).world.left ≤ w.left
  act_left (Const d c) g pc slots w h = h _ _ w
  act_left (Copy d a) g pc slots w h = h _ _ w
  act_left (Alu op n d a b) g pc slots w h = h _ _ w
  act_left (Take d a o l) g pc slots w h = h _ _ w
  act_left (Put d a o l) g pc slots w h = h _ _ w
  act_left (Load d a offset width) g pc slots w h = load_left _ w _ (λ x. h _ _ w)
  act_left (Store a offset width v) g pc slots w h = store_left _ (with_memory w _) _ (h _ _ _)
  act_left (Place d size align) g pc slots w h = place_left _ (with_memory w _) _ (λ x. h _ _ _)
  act_left (Jump t) g pc slots w h = h _ _ w
  act_left (Switch a other arms) g pc slots w h = switch_left _ _ (with_switch w) _ (λ t. h _ _ _)
  act_left (Call f ds froms) g pc slots w h =
      let words = slots_at slots froms in
      let back = callee f words w in
      let rest = call_left back.ended back.world (λ x. g (pc + 1) (put_slots slots ds x) back.world) (λ x. h _ _ back.world) in
      omega (arith, rest, falls.by f words w)
  act_left (Return froms) g pc slots w h = omega arith

  at_left : (o : Option Instr) (g : Next) (pc : ℕ) (slots : List ℕ) (w : World) → ((t : ℕ) (s : List ℕ) (v : World) → (g t s v).world.left ≤ v.left) → (act_at o g callee pc slots w).world.left ≤ w.left
  at_left None g pc slots w h = omega arith
  at_left (Some i) g pc slots w h = act_left i g pc slots (taken w) h

  steps_left : (n : ℕ) (body : List Instr) (pc : ℕ) (slots : List ℕ) (w : World) → (steps n body callee pc slots w).world.left ≤ w.left
  steps_left zero body pc slots w = omega arith
  steps_left (suc n) body pc slots w = at_left (slice_get body pc) (steps n body callee) pc slots w (steps_left n body)

pub enter_left : (funs : List CodeFun) (depth f : ℕ) (words : List ℕ) (w : World) → (enter funs depth f words w).world.left ≤ w.left
unfolding enter from
enter_left funs zero f words w = omega arith
enter_left funs (suc depth) f words w =
    let falls : Falls (enter funs depth) = record { by = enter_left funs depth } in
    one_call_left w.left w _ (omega arith) (λ v. steps_left (enter funs depth) falls (length (body_of funs f)) (body_of funs f) 0 _ v)

-- two callees that agree where few calls are left
record Agree (most : ℕ) (a b : Callee) : Type 0 where
  by : (f : ℕ) (words : List ℕ) (w : World) → w.left ≤ most → a f words w ≡ b f words w

module _ (most : ℕ) (a b : Callee) (falls : Falls a) (agree : Agree most a b) where
  act_agrees : (i : Instr) (g h : Next) (pc : ℕ) (slots : List ℕ) (w : World) → w.left ≤ most → ((t : ℕ) (s : List ℕ) (v : World) → v.left ≤ most → g t s v ≡ h t s v) → act i g a pc slots w ≡ act i h b pc slots w
  act_agrees (Const d c) g h pc slots w le e = e _ _ w le
  act_agrees (Copy d x) g h pc slots w le e = e _ _ w le
  act_agrees (Alu op n d x y) g h pc slots w le e = e _ _ w le
  act_agrees (Take d x o l) g h pc slots w le e = e _ _ w le
  act_agrees (Put d x o l) g h pc slots w le e = e _ _ w le
  act_agrees (Load d x offset width) g h pc slots w le e = load_same _ w _ _ (λ z. e _ _ w le)
  act_agrees (Store x offset width v) g h pc slots w le e = store_same _ _ _ _ (e _ _ _ le)
  act_agrees (Place d size align) g h pc slots w le e = place_same _ _ _ _ (λ z. e _ _ _ le)
  act_agrees (Jump t) g h pc slots w le e = e _ _ w le
  act_agrees (Switch x other arms) g h pc slots w le e = switch_same _ _ _ _ _ (λ t is. e _ _ _ le)
  act_agrees (Call f ds froms) g h pc slots w le e =
      let words = slots_at slots froms in
      let back = a f words w in
      let low : back.world.left ≤ most = omega (arith, falls.by f words w) in
      call_same back.ended back.world _ (λ x. h (pc + 1) (put_slots slots ds x) back.world) (λ x. e _ _ back.world low)
      ∙ ap (λ (o : CallEnd). after_call o.ended o.world (λ x. h (pc + 1) (put_slots slots ds x) o.world)) (agree.by f words w le)
  act_agrees (Return froms) g h pc slots w le e = refl

  at_agrees : (o : Option Instr) (g h : Next) (pc : ℕ) (slots : List ℕ) (w : World) → w.left ≤ most → ((t : ℕ) (s : List ℕ) (v : World) → v.left ≤ most → g t s v ≡ h t s v) → act_at o g a pc slots w ≡ act_at o h b pc slots w
  at_agrees None g h pc slots w le e = refl
  at_agrees (Some i) g h pc slots w le e = act_agrees i g h pc slots (taken w) le e

  steps_agree : (n : ℕ) (body : List Instr) (pc : ℕ) (slots : List ℕ) (w : World) → w.left ≤ most → steps n body a pc slots w ≡ steps n body b pc slots w
  steps_agree zero body pc slots w le = refl
  steps_agree (suc n) body pc slots w le = at_agrees (slice_get body pc) (steps n body a) (steps n body b) pc slots w le (steps_agree n body)

pub enter_deep : (funs : List CodeFun) (d e f : ℕ) (words : List ℕ) (w : World) → w.left ≤ d → w.left ≤ e → enter funs d f words w ≡ enter funs e f words w
unfolding enter from
enter_deep funs zero e f words w a b = sym (enter_none funs e f words w (omega arith))
enter_deep funs (suc d) zero f words w a b = enter_none funs (suc d) f words w (omega arith)
enter_deep funs (suc d) (suc e) f words w a b =
    one_call_same w.left w _ _ (λ v lt.
    let falls : Falls (enter funs d) = record { by = enter_left funs d } in
    let agree : Agree v.left (enter funs d) (enter funs e) = record { by = λ g ws u le. enter_deep funs d e g ws u (omega arith) (omega arith) } in
    steps_agree v.left (enter funs d) (enter funs e) falls agree (length (body_of funs f)) (body_of funs f) 0 _ v (omega arith))
