-- What follows a load, a store, a place, a switch or a call agrees where what goes on does.
use Rattle.std.proofs.Common.{◌≡◌, ℕ, zero, suc, ◌≤◌, List, Option, Some, None, Result, Ok, Err, refl, arith}
use Rattle.rb_bytes.specs.declared.fault.Full.{Full}
use Rattle.rb_bytes.specs.declared.fault.Trap.{Trap}
use Rattle.rb_target.specs.Meaning.{World, CallEnd, over, after_load, after_store, after_place, after_switch, after_call, after_one_call, with_left}
use Rattle.rb_target.specs.Laws.{IsFinal}
use Rattle.rb_target.specs.declared.outcome.End.{End}
use Rattle.rb_target.specs.declared.outcome.End.TheVariants.{Returned, Spent, Full as Filled, Trapped}

pub load_same : (r : Result ℕ Trap) (w : World) (g h : ℕ → CallEnd) → ((x : ℕ) → g x ≡ h x) → after_load r w g ≡ after_load r w h
load_same (Ok x) w g h e = e x
load_same (Err t) w g h e = refl

pub store_same : (r : Result (Unit {0}) Trap) (w : World) (a b : CallEnd) → a ≡ b → after_store r w a ≡ after_store r w b
store_same (Ok x) w a b e = e
store_same (Err t) w a b e = refl

pub place_same : (r : Result ℕ Full) (w : World) (g h : ℕ → CallEnd) → ((x : ℕ) → g x ≡ h x) → after_place r w g ≡ after_place r w h
place_same (Ok x) w g h e = e x
place_same (Err t) w g h e = refl

pub switch_same : (o : Option ℕ) (word : ℕ) (w : World) (g h : ℕ → CallEnd) → ((t : ℕ) → o ≡ Some t → g t ≡ h t) → after_switch o word w g ≡ after_switch o word w h
switch_same None word w g h e = refl
switch_same (Some t) word w g h e = e t refl

pub call_same : (e : End) (w : World) (g h : List ℕ → CallEnd) → ((x : List ℕ) → g x ≡ h x) → after_call e w g ≡ after_call e w h
call_same (Returned x l) w g h e = e x
call_same Spent w g h e = refl
call_same (Filled f) w g h e = refl
call_same (Trapped t) w g h e = refl

pub one_call_same : (left : ℕ) (w : World) (g h : World → CallEnd) → ((v : World) → suc v.left ≤ left → g v ≡ h v) → after_one_call left w g ≡ after_one_call left w h
one_call_same zero w g h e = refl
one_call_same (suc l) w g h e = e (with_left w l) (omega arith)

-- and leaves no more calls where what goes on does not
pub load_left : (r : Result ℕ Trap) (w : World) (go : ℕ → CallEnd) → ((x : ℕ) → (go x).world.left ≤ w.left) → (after_load r w go).world.left ≤ w.left
load_left (Ok x) w go h = h x
load_left (Err t) w go h = omega arith

pub store_left : (r : Result (Unit {0}) Trap) (w : World) (go : CallEnd) → go.world.left ≤ w.left → (after_store r w go).world.left ≤ w.left
store_left (Ok x) w go h = h
store_left (Err t) w go h = omega arith

pub place_left : (r : Result ℕ Full) (w : World) (go : ℕ → CallEnd) → ((x : ℕ) → (go x).world.left ≤ w.left) → (after_place r w go).world.left ≤ w.left
place_left (Ok x) w go h = h x
place_left (Err t) w go h = omega arith

pub switch_left : (o : Option ℕ) (word : ℕ) (w : World) (go : ℕ → CallEnd) → ((x : ℕ) → (go x).world.left ≤ w.left) → (after_switch o word w go).world.left ≤ w.left
switch_left None word w go h = omega arith
switch_left (Some t) word w go h = h t

pub call_left : (e : End) (w : World) (go : List ℕ → CallEnd) → ((x : List ℕ) → (go x).world.left ≤ w.left) → (after_call e w go).world.left ≤ w.left
call_left (Returned x l) w go h = h x
call_left Spent w go h = omega arith
call_left (Filled f) w go h = omega arith
call_left (Trapped t) w go h = omega arith

pub one_call_left : (left : ℕ) (w : World) (go : World → CallEnd) → left ≤ w.left → ((v : World) → (go v).world.left ≤ v.left) → (after_one_call left w go).world.left ≤ w.left
one_call_left zero w go le h = omega arith
one_call_left (suc l) w go le h = omega (arith, h (with_left w l))

final_end : (e : End) (w : World) (go : List ℕ → CallEnd) → IsFinal e → after_call e w go ≡ over e w
final_end (Returned words left) w go f = absurd f
final_end Spent w go f = refl
final_end (Filled r) w go f = refl
final_end (Trapped t) w go f = refl

pub final_call : (o : CallEnd) (go : List ℕ → CallEnd) → IsFinal o.ended → after_call o.ended o.world go ≡ o
final_call o go f = final_end o.ended o.world go f
