-- One instruction of a body and the one that stands for it do alike.
use Rattle.std.proofs.Common.{◌≡◌, ℕ, ◌+◌, ◌%◌, ◌^◌, ◌<◌, ◌≤◌, ◌⊎◌, inl, inr, Bool, true, false, nat_eq, cond, List, [], ◌∷◌, ◌++◌, map, length, Option, Some, None, refl, sym, subst, ap, ◌∙◌, arith, eqb-true, zero, suc, get_or}
use Rattle.std.proofs.lemmas.Bool.{eq-eqb}
use Rattle.std.proofs.lemmas.List.{length-set, length-map}
use Rattle.std.proofs.lemmas.List.Elements.{All-head, All-tail}
use Rattle.std.specs.Prelude.{slice_get, slice_index, slice_set, IfSome, All}
use Rattle.rb_bits.specs.Words.{take_of, put_of}
use Rattle.rb_bytes.specs.Memory.{Memory, load_of, store_of, place_of}
use Rattle.rb_target.specs.Meaning.{World, CallEnd, Next, Callee, act, over, with_switch, with_memory, target_of, alu_of, slots_at, put_slots, after_load, after_store, after_place, after_switch, after_call}
use Rattle.rb_target.specs.Validity.{SlotsFit, CallsFit, FitsCall}
use Rattle.rb_target.specs.declared.outcome.End.TheVariants.{Returned, Trapped}
use Rattle.rb_bytes.specs.declared.fault.Trap.TheVariants.{Unmatched}
use Rattle.rb_target.specs.declared.instr.SwitchArm.{SwitchArm}
use Rattle.rb_target.specs.declared.instr.Instr.{Instr}
use Rattle.rb_target.specs.declared.instr.Instr.TheVariants.{Const, Copy, Alu, Take, Put, Load, Store, Place, Jump, Switch, Call, Return}
use Rattle.rb_target.specs.declared.code.CodeFun.{CodeFun}
use Rattle.rb_trim.specs.declared.fact.Content.{Content}
use Rattle.rb_trim.specs.declared.fact.Content.TheVariants.{Number, Same, Part, Computed, Loaded}
use Rattle.rb_trim.specs.declared.fact.Fact.{Fact}
use Rattle.rb_trim.specs.declared.hints.Hints.{Hints}
use Rattle.rb_trim.specs.Trimming.{IsNoDearer}
use Rattle.rb_trim.specs.inner.Facts.{IsContent, Hold, FactSays, Turns}
use Rattle.rb_trim.specs.inner.Following.{AreSame, IsNarrow, FactIsMade, IsTold, Sets}
use Rattle.rb_trim.specs.inner.Moving.{tells, FindsWay, SlotIsRead, Agree, NumbersAreApart, IsDest, IsName, landing, landing_in, moved_arm, MakesContent, IsWrite, IsRemade, IsPut, IsJumped, IsMoved, LeadsAhead}
use Rattle.rb_trim.specs.inner.Stepping.{HasArm}
use Rattle.rb_trim.proofs.Outcomes.{Near, over_near, near_switched, near_memory, near_of, load_near, store_near, place_near, call_near}
use Rattle.rb_trim.proofs.Slots.{AgreeOn, Borne, set_agrees, put_agrees, put_long, names_same}

-- two callees, one no dearer, for the words that functions take
pub record CallsNear (funs : List CodeFun) (new old : Callee) : Type 0 where
  pub by : (g : ℕ) (f : CodeFun) → slice_get funs g ≡ Some f → (words : List ℕ) → length words ≡ f.params → (v w : World) → Near v w
      → IsNoDearer (new g words v) (old g words w)

fits_some : (o : Option CodeFun) (ds froms : List ℕ) → FitsCall o ds froms → (f : CodeFun) × (o ≡ Some f) × (length froms ≡ f.params)
fits_some None ds froms fits = absurd fits
fits_some (Some f) ds froms fits = (f, refl, fits.1)

-- a moved switch leads where the switch leads
pub moved_target : (h : Hints) (arms : List SwitchArm) (other : Option ℕ) (word : ℕ) → target_of (map (λ (arm : SwitchArm). moved_arm h arm) arms) (landing_in h other) word ≡ landing_in h (target_of arms other word)
moved_target h [] other word = refl
moved_target h (arm ∷ arms) other word =
    let more = moved_target h arms other word in
    let P : Bool → Type 0 = λ b. cond b (Some (landing h arm.target)) (target_of (map (λ (arm : SwitchArm). moved_arm h arm) arms) (landing_in h other) word) ≡ landing_in h (cond b (Some arm.target) (target_of arms other word)) in
    elim (nat_eq arm.number word) as P [ true ↦ refl | false ↦ more ]

same_nat : (a b : ℕ) → (nat_eq a b ≡ false) ⊎ ((nat_eq a b ≡ true) × (a ≡ b))
same_nat a b =
    let Q : Bool → Type 0 = λ c. nat_eq a b ≡ c → (nat_eq a b ≡ false) ⊎ ((nat_eq a b ≡ true) × (a ≡ b)) in
    (elim (nat_eq a b) as Q [ true ↦ λ e. inr (e, eqb-true a b e) | false ↦ λ e. inl e ]) refl

-- a switch takes the arm of a number, where it has one
module _ (other : Option ℕ) (x : ℕ) where
  pub some_arm : (arms : List SwitchArm) (k : ℕ) (arm : SwitchArm) → k < length arms → get_or arms k arm ≡ arm → arm.number ≡ x → target_of arms other x ≡ None → ⊥
  some_arm [] k arm lt at is e = absurd (omega (arith, lt))
  some_arm (a ∷ arms) zero arm lt at is e =
      let same : a.number ≡ x = ap (λ (y : SwitchArm). y.number) at ∙ is in
      let hit : nat_eq a.number x ≡ true = subst (λ n. nat_eq a.number n ≡ true) same (eq-eqb a.number a.number refl) in
      let no : Some a.target ≡ None = subst (λ b. cond b (Some a.target) (target_of arms other x) ≡ None) hit e in cc
  some_arm (a ∷ arms) (suc k) arm lt at is e =
      elim (same_nat a.number x) [
        | inl off ↦ some_arm arms k arm (omega (arith, lt)) at is (subst (λ b. cond b (Some a.target) (target_of arms other x) ≡ None) off e)
        | inr same ↦ let no : Some a.target ≡ None = subst (λ b. cond b (Some a.target) (target_of arms other x) ≡ None) same.0 e in cc
      ]

-- a switch on few bits with an arm for each number comes to one
pub whole_arms : (facts : List Fact) (slot from l count : ℕ) (other : Option ℕ) (arms : List SwitchArm) → AreSame facts slot from → IsNarrow facts from l → 2 ^ l ≤ count
    → ((n : ℕ) → n < count → HasArm arms n) → FindsWay facts slot other arms
whole_arms facts slot from l count other arms same narrow most all = record {
  by = λ s m hold e.
      let x = slice_index s slot in
      let below : slice_index s from < 2 ^ l = narrow s m hold in
      let has : HasArm arms x = all x (omega (arith, below, most, same s m hold)) in
      some_arm other x arms has.0 has.1 has.2 has.3 has.4 e;
}

-- one with another way comes to that
pub whole_other : (facts : List Fact) (slot : ℕ) (other : Option ℕ) (t : ℕ) (arms : List SwitchArm) → other ≡ Some t → FindsWay facts slot other arms
whole_other facts slot other t arms is = record { by = λ s m hold e. some_way arms (slice_index s slot) (subst (λ (o : Option ℕ). target_of arms o (slice_index s slot) ≡ None) is e) }
  where
    some_way : (arms : List SwitchArm) (x : ℕ) → target_of arms (Some t) x ≡ None → ⊥
    some_way [] x e = cc
    some_way (arm ∷ arms) x e =
        elim (same_nat arm.number x) [
          | inl off ↦ some_way arms x (subst (λ b. cond b (Some arm.target) (target_of arms (Some t) x) ≡ None) off e)
          | inr same ↦ let no : Some arm.target ≡ None = subst (λ b. cond b (Some arm.target) (target_of arms (Some t) x) ≡ None) same.0 e in cc
        ]

-- by some way a switch leads to a place, and what the way tells is so
abbrev pub LedTo : (Option Fact → ℕ → Type 0) → List ℕ → Memory → ℕ → Type 0
LedTo P s m t = (told : Option Fact) × P told t × FactSays told s m

module _ (P : Option Fact → ℕ → Type 0) (a : ℕ) (s : List ℕ) (m : Memory) where
  pub led_to : (arms : List SwitchArm) (other : Option ℕ) (word t : ℕ) → slice_index s a ≡ word → All (λ (arm : SwitchArm). P (tells a arm.number) arm.target) arms → IfSome other (P None) → target_of arms other word ≡ Some t → LedTo P s m t
  led_to [] other word t is all o e = (None, subst (λ (x : Option ℕ). IfSome x (P None)) e o, tt)
  led_to (arm ∷ arms) other word t is all o e =
      let Q : Bool → Type 0 = λ b. cond b (Some arm.target) (target_of arms other word) ≡ Some t in
      elim (same_nat arm.number word) [
        | inl off ↦ led_to arms other word t is (All-tail (λ (arm : SwitchArm). P (tells a arm.number) arm.target) arm arms all) o (subst Q off e)
        | inr same ↦
            let hit : Some arm.target ≡ Some t = subst Q same.0 e in
            (tells a arm.number, subst (λ (x : Option ℕ). IfSome x (P (tells a arm.number))) hit (All-head (λ (arm : SwitchArm). P (tells a arm.number) arm.target) arm arms all), is ∙ sym same.1)
      ]

pub switch_near : (h : Hints) (o : Option ℕ) (word : ℕ) (v w : World) (g k : ℕ → CallEnd) → Near v w → ((t : ℕ) → o ≡ Some t → IsNoDearer (g (landing h t)) (k t)) → IsNoDearer (after_switch (landing_in h o) word v g) (after_switch o word w k)
switch_near h None word v w g k n e = over_near (Trapped (Unmatched word)) v w n
switch_near h (Some t) word v w g k n e = e t refl

-- of the arms of two switches the first one's are taken first
pub first_or : (h : Hints) (P : Option Fact → ℕ → Type 0) (a : ℕ) (s : List ℕ) (m : Memory) (arms more : List SwitchArm) (other : Option ℕ) (t word : ℕ) → slice_index s a ≡ word → All (λ (arm : SwitchArm). P (tells a arm.number) arm.target) arms
    → ((u : ℕ) × LedTo P s m u × (target_of arms (Some t) word ≡ Some u) × (target_of (map (λ (arm : SwitchArm). moved_arm h arm) arms ++ more) other word ≡ Some (landing h u)))
    ⊎ ((target_of arms (Some t) word ≡ Some t) × (target_of (map (λ (arm : SwitchArm). moved_arm h arm) arms ++ more) other word ≡ target_of more other word))
first_or h P a s m [] more other t word is all = inr (refl, refl)
first_or h P a s m (arm ∷ arms) more other t word is all =
    let rest = first_or h P a s m arms more other t word is (All-tail (λ (arm : SwitchArm). P (tells a arm.number) arm.target) arm arms all) in
    let old = target_of arms (Some t) word in
    let new = target_of (map (λ (arm : SwitchArm). moved_arm h arm) arms ++ more) other word in
    let Q : Bool → Type 0 = λ b.
    ((u : ℕ) × LedTo P s m u × (cond b (Some arm.target) old ≡ Some u) × (cond b (Some (landing h arm.target)) new ≡ Some (landing h u)))
    ⊎ ((cond b (Some arm.target) old ≡ Some t) × (cond b (Some (landing h arm.target)) new ≡ target_of more other word)) in
    elim (same_nat arm.number word) [
      | inl off ↦ subst Q (sym off) rest
      | inr same ↦ subst Q (sym same.0) (inl (arm.target, (tells a arm.number, All-head (λ (arm : SwitchArm). P (tells a arm.number) arm.target) arm arms all, is ∙ sym same.1), refl, refl))
    ]

sets_one : (i : Instr) (a b : ℕ) → Sets i a → Sets i b → a ≡ b
sets_one (Const d c) a b e f = sym e ∙ f
sets_one (Copy d x) a b e f = sym e ∙ f
sets_one (Alu op n d x y) a b e f = sym e ∙ f
sets_one (Take d x o l) a b e f = sym e ∙ f
sets_one (Put d x o l) a b e f = sym e ∙ f
sets_one (Load d x offset width) a b e f = sym e ∙ f
sets_one (Store x offset width v) a b e f = absurd e
sets_one (Place d size align) a b e f = sym e ∙ f
sets_one (Jump t) a b e f = absurd e
sets_one (Switch x other arms) a b e f = absurd e
sets_one (Call g ds froms) a b e f = absurd e
sets_one (Return froms) a b e f = absurd e

-- where a run goes on: at the instruction behind, or at a target
abbrev pub Comes : Hints → ℕ → ℕ → (ℕ → Type 0) → (Option Fact → ℕ → Type 0) → List ℕ → Memory → ℕ → ℕ → Type 0
Comes h pc pc' F J s m t t' = (F t × (t ≡ pc + 1) × (t' ≡ pc' + 1)) ⊎ (LedTo J s m t × (t' ≡ landing h t))

-- what goes on behind an instruction
abbrev pub GoesFrom : Hints → ℕ → ℕ → ℕ → ℕ → (ℕ → Type 0) → (Option Fact → ℕ → Type 0) → Next → Next → Instr → List ℕ → World → Type 0
GoesFrom h slots slots' pc pc' F J next' next i s w =
    (t t' : ℕ) (s1 s1' : List ℕ) (w1 w1' : World) → Comes h pc pc' F J s w.memory t t' → Turns i s w.memory s1 w1.memory
    → slots ≤ length s1 → slots' ≤ length s1' → AgreeOn h (Borne h pc i) s1 s1' → Near w1' w1 → IsNoDearer (next' t' s1' w1') (next t s1 w1)

module _ (h : Hints) (apart : NumbersAreApart h) (funs : List CodeFun) (body : List Instr) (results slots slots' pc pc' : ℕ) (facts : List Fact) (new old : Callee) (calls : CallsNear funs new old)
    (F : ℕ → Type 0) (J : Option Fact → ℕ → Type 0) (next' next : Next) (s s' : List ℕ) (v w : World) (near : Near v w) (long : slots ≤ length s) (long' : slots' ≤ length s')
    (agree : Agree h pc s s') (hold : Hold s w.memory facts) where
  -- the slots as they are
  as_is : (i : Instr) → ((k : ℕ) → Sets i k → ⊥) → AgreeOn h (Borne h pc i) s s'
  as_is i none k (inl read) e = agree k read
  as_is i none k (inr sets) e = absurd (none k sets)

  named : (a a' : ℕ) → IsName h facts pc a a' → slice_index s' a' ≡ slice_index s a
  named a a' name = name.same s s' w.memory agree hold

  -- the same word goes to a slot
  one_set : (i : Instr) (d d' x : ℕ) → Sets i d → IsDest h d d' → d < slots → d' < slots' → AgreeOn h (Borne h pc i) (slice_set s d x) (slice_set s' d' x)
  one_set i d d' x sets dest lt lt' k borne e =
      set_agrees h apart (λ n. SlotIsRead h pc n) d d' x s s' (λ n read more. agree n read) dest (omega (arith, lt, long)) (omega (arith, lt', long')) k (one k borne) e
    where
      one : (k : ℕ) → Borne h pc i k → SlotIsRead h pc k ⊎ (d ≡ k)
      one k (inl read) = inl read
      one k (inr more) = inr (sets_one i d k sets more)

  set_long : (d x : ℕ) → slots ≤ length (slice_set s d x)
  set_long d x = omega (arith, long, length-set s d x)

  set_long' : (d x : ℕ) → slots' ≤ length (slice_set s' d x)
  set_long' d x = omega (arith, long', length-set s' d x)

  -- one word is written, and no memory
  writes : (i : Instr) (d d' x y : ℕ) → Sets i d → F (pc + 1) → IsDest h d d' → d < slots → d' < slots' → y ≡ x → Turns i s w.memory (slice_set s d x) w.memory
      → GoesFrom h slots slots' pc pc' F J next' next i s w → IsNoDearer (next' (pc' + 1) (slice_set s' d' y) v) (next (pc + 1) (slice_set s d x) w)
  writes i d d' x y sets to dest lt lt' e turns go =
      subst (λ z. IsNoDearer (next' (pc' + 1) (slice_set s' d' z) v) (next (pc + 1) (slice_set s d x) w)) (sym e)
      (go (pc + 1) (pc' + 1) (slice_set s d x) (slice_set s' d' x) w v (inl (to, refl, refl)) turns (set_long d x) (set_long' d' x) (one_set i d d' x sets dest lt lt') near)

  makes_fit : (c : Content) (d' : ℕ) (j : Instr) → MakesContent h facts pc c d' j → SlotsFit slots' j → d' < slots'
  makes_fit (Number n) d' j m fit' = let f : SlotsFit slots' (Const d' n) = subst (λ (k : Instr). SlotsFit slots' k) m fit' in f
  makes_fit (Same a) d' j m fit' = let f : SlotsFit slots' (Copy d' m.0) = subst (λ (k : Instr). SlotsFit slots' k) m.1 fit' in f.0
  makes_fit (Part a o l) d' j m fit' = let f : SlotsFit slots' (Take d' m.0 o l) = subst (λ (k : Instr). SlotsFit slots' k) m.1 fit' in f.0
  makes_fit (Computed op n a b) d' j m fit' = let f : SlotsFit slots' (Alu op n d' m.0 m.1) = subst (λ (k : Instr). SlotsFit slots' k) m.2 fit' in f.0
  makes_fit (Loaded a offset width) d' j m fit' = absurd m

  -- the new instruction makes the content
  makes_acts : (c : Content) (d' : ℕ) (j : Instr) (x : ℕ) → MakesContent h facts pc c d' j → IsContent s w.memory c x → act j next' new pc' s' v ≡ next' (pc' + 1) (slice_set s' d' x) v
  makes_acts (Number n) d' j x m is =
      ap (λ (k : Instr). act k next' new pc' s' v) m ∙ ap (λ y. next' (pc' + 1) (slice_set s' d' y) v) (sym is)
  makes_acts (Same a) d' j x m is =
      ap (λ (k : Instr). act k next' new pc' s' v) m.1 ∙ ap (λ y. next' (pc' + 1) (slice_set s' d' y) v) (named a m.0 m.2 ∙ sym is)
  makes_acts (Part a o l) d' j x m is =
      ap (λ (k : Instr). act k next' new pc' s' v) m.1 ∙ ap (λ y. next' (pc' + 1) (slice_set s' d' y) v) (ap (λ y. take_of y o l) (named a m.0 m.2) ∙ sym is)
  makes_acts (Computed op n a b) d' j x m is =
      let e : alu_of op n (slice_index s' m.0) (slice_index s' m.1) ≡ alu_of op n (slice_index s a) (slice_index s b) =
      ap (λ y. alu_of op n y (slice_index s' m.1)) (named a m.0 m.3) ∙ ap (λ y. alu_of op n (slice_index s a) y) (named b m.1 m.4) in
      ap (λ (k : Instr). act k next' new pc' s' v) m.2 ∙ ap (λ y. next' (pc' + 1) (slice_set s' d' y) v) (e ∙ sym is)
  makes_acts (Loaded a offset width) d' j x m is = absurd m

  -- an instruction that is told in other words
  remade_acts : (i j : Instr) (d x : ℕ) → IsRemade h facts pc i j → F (pc + 1) → SlotsFit slots i → SlotsFit slots' j → Turns i s w.memory (slice_set s d x) w.memory
      → GoesFrom h slots slots' pc pc' F J next' next i s w → IsNoDearer (act j next' new pc' s' v) (next (pc + 1) (slice_set s d x) w)
  remade_acts i j d x m to fit fit' turns go =
      let told : IsTold facts i m.0 = m.1 in
      let write : IsWrite h facts pc m.0 j = m.2 in
      let made : FactIsMade m.0 slots s (slice_set s d x) w.memory w.memory = told.by slots s (slice_set s d x) w.memory w.memory fit hold turns in
      let e : act j next' new pc' s' v ≡ next' (pc' + 1) (slice_set s' write.0 made.word) v = makes_acts m.0.content write.0 j made.word write.2 made.is in
      let turned : Turns i s w.memory (slice_set s m.0.slot made.word) w.memory = subst (λ y. Turns i s w.memory y w.memory) made.slot turns in
      subst (λ (o : CallEnd). IsNoDearer o (next (pc + 1) (slice_set s d x) w)) (sym e)
      (subst (λ y. IsNoDearer (next' (pc' + 1) (slice_set s' write.0 made.word) v) (next (pc + 1) y w)) (sym made.slot)
      (writes i m.0.slot write.0 made.word made.word told.sets to write.1 made.within (makes_fit m.0.content write.0 j write.2 fit') refl turned go))

  put_acts : (d a o l : ℕ) (j : Instr) → IsPut h facts pc d a o l j → F (pc + 1) → SlotsFit slots (Put d a o l) → SlotsFit slots' j
      → GoesFrom h slots slots' pc pc' F J next' next (Put d a o l) s w → IsNoDearer (act j next' new pc' s' v) (act (Put d a o l) next old pc s w)
  put_acts d a o l j m to fit fit' go =
      let f : SlotsFit slots' (Put m.0 m.1 o l) = subst (λ (k : Instr). SlotsFit slots' k) m.2 fit' in
      let e : put_of (slice_index s' m.0) o l (slice_index s' m.1 % 2 ^ l) ≡ put_of (slice_index s d) o l (slice_index s a % 2 ^ l) =
      ap (λ x. put_of x o l (slice_index s' m.1 % 2 ^ l)) (named d m.0 m.4) ∙ ap (λ x. put_of (slice_index s d) o l (x % 2 ^ l)) (named a m.1 m.5) in
      subst (λ (k : Instr). IsNoDearer (act k next' new pc' s' v) (act (Put d a o l) next old pc s w)) (sym m.2)
      (writes (Put d a o l) d m.0 (put_of (slice_index s d) o l (slice_index s a % 2 ^ l)) (put_of (slice_index s' m.0) o l (slice_index s' m.1 % 2 ^ l)) refl to m.3 fit.0 f.0 e (refl, refl) go)

  -- a jump, or the return to which it comes
  abbrev pub Jumps : ℕ → Instr → Type 0
  Jumps t j = IsJumped h body t j → J None t → IsNoDearer (act j next' new pc' s' v) (next t s w)

  pub acts_alike : (i j : Instr) → IsMoved h facts body pc i j → SlotsFit slots i → SlotsFit slots' j → CallsFit funs results i → LeadsAhead F J i pc
      → ((t : ℕ) → i ≡ Jump t → Jumps t j) → GoesFrom h slots slots' pc pc' F J next' next i s w → IsNoDearer (act j next' new pc' s' v) (act i next old pc s w)
  acts_alike (Const d c) j m fit fit' call leads jumps go = remade_acts (Const d c) j d c m leads fit fit' (refl, refl) go
  acts_alike (Copy d a) j m fit fit' call leads jumps go = remade_acts (Copy d a) j d (slice_index s a) m leads fit fit' (refl, refl) go
  acts_alike (Alu op n d a b) j m fit fit' call leads jumps go =
      remade_acts (Alu op n d a b) j d (alu_of op n (slice_index s a) (slice_index s b)) m leads fit fit' (refl, refl) go
  acts_alike (Take d a o l) j m fit fit' call leads jumps go = remade_acts (Take d a o l) j d (take_of (slice_index s a) o l) m leads fit fit' (refl, refl) go
  acts_alike (Put d a o l) j m fit fit' call leads jumps go =
      elim m [
        | inl more ↦ remade_acts (Put d a o l) j d (put_of (slice_index s d) o l (slice_index s a % 2 ^ l)) more leads fit fit' (refl, refl) go
        | inr more ↦ put_acts d a o l j more leads fit fit' go
      ]
  acts_alike (Load d a offset width) j m fit fit' call leads jumps go =
      let f : SlotsFit slots' (Load m.0 m.1 offset width) = subst (λ (k : Instr). SlotsFit slots' k) m.2 fit' in
      let e : load_of v.memory (slice_index s' m.1) offset width ≡ load_of w.memory (slice_index s a) offset width =
      ap (λ x. load_of x (slice_index s' m.1) offset width) near.memory ∙ ap (λ x. load_of w.memory x offset width) (named a m.1 m.4) in
      subst (λ (k : Instr). IsNoDearer (act k next' new pc' s' v) (act (Load d a offset width) next old pc s w)) (sym m.2)
      (subst (λ r. IsNoDearer (after_load r v (λ x. next' (pc' + 1) (slice_set s' m.0 x) v)) (act (Load d a offset width) next old pc s w)) (sym e)
      (load_near (load_of w.memory (slice_index s a) offset width) v w (λ x. next' (pc' + 1) (slice_set s' m.0 x) v) (λ x. next (pc + 1) (slice_set s d x) w) near
      (λ x is. writes (Load d a offset width) d m.0 x x refl leads m.3 fit.0 f.0 refl (x, is, refl, refl) go)))
  acts_alike (Store a offset width k) j m fit fit' call leads jumps go =
      let e : store_of v.memory (slice_index s' m.0) offset width (slice_index s' m.1) ≡ store_of w.memory (slice_index s a) offset width (slice_index s k) =
      ap (λ x. store_of x (slice_index s' m.0) offset width (slice_index s' m.1)) near.memory
      ∙ ap (λ x. store_of w.memory x offset width (slice_index s' m.1)) (named a m.0 m.3)
      ∙ ap (λ x. store_of w.memory (slice_index s a) offset width x) (named k m.1 m.4) in
      let stored = store_of w.memory (slice_index s a) offset width (slice_index s k) in
      let n1 = near_memory v w stored.1 near in
      subst (λ (i : Instr). IsNoDearer (act i next' new pc' s' v) (act (Store a offset width k) next old pc s w)) (sym m.2)
      (subst (λ r. IsNoDearer (after_store r.0 (with_memory v r.1) (next' (pc' + 1) s' (with_memory v r.1))) (act (Store a offset width k) next old pc s w)) (sym e)
      (store_near stored.0 (with_memory v stored.1) (with_memory w stored.1) (next' (pc' + 1) s' (with_memory v stored.1)) (next (pc + 1) s (with_memory w stored.1)) n1
      (go (pc + 1) (pc' + 1) s s' (with_memory w stored.1) (with_memory v stored.1) (inl (leads, refl, refl)) refl long long' (as_is (Store a offset width k) (λ n sets. sets)) n1)))
  acts_alike (Place d size align) j m fit fit' call leads jumps go =
      let f : SlotsFit slots' (Place m.0 size align) = subst (λ (k : Instr). SlotsFit slots' k) m.1 fit' in
      let e : place_of v.memory size align ≡ place_of w.memory size align = ap (λ x. place_of x size align) near.memory in
      let placed = place_of w.memory size align in
      let n1 = near_memory v w placed.1 near in
      subst (λ (i : Instr). IsNoDearer (act i next' new pc' s' v) (act (Place d size align) next old pc s w)) (sym m.1)
      (subst (λ r. IsNoDearer (after_place r.0 (with_memory v r.1) (λ x. next' (pc' + 1) (slice_set s' m.0 x) (with_memory v r.1))) (act (Place d size align) next old pc s w)) (sym e)
      (place_near placed.0 (with_memory v placed.1) (with_memory w placed.1) (λ x. next' (pc' + 1) (slice_set s' m.0 x) (with_memory v placed.1)) (λ x. next (pc + 1) (slice_set s d x) (with_memory w placed.1)) n1
      (λ x. go (pc + 1) (pc' + 1) (slice_set s d x) (slice_set s' m.0 x) (with_memory w placed.1) (with_memory v placed.1) (inl (leads, refl, refl)) (x, refl) (set_long d x) (set_long' m.0 x)
      (one_set (Place d size align) d m.0 x refl m.2 fit f) n1)))
  acts_alike (Jump t) j m fit fit' call leads jumps go = jumps t refl m leads
  acts_alike (Switch a other arms) j m fit fit' call leads jumps go =
      let x = slice_index s a in
      let n1 = near_switched v w near in
      let e : target_of (map (λ (arm : SwitchArm). moved_arm h arm) arms) (landing_in h other) x ≡ landing_in h (target_of arms other x) = moved_target h arms other x in
      subst (λ (k : Instr). IsNoDearer (act k next' new pc' s' v) (act (Switch a other arms) next old pc s w)) (sym m.1)
      (subst (λ y. IsNoDearer (after_switch (target_of (map (λ (arm : SwitchArm). moved_arm h arm) arms) (landing_in h other) y) y (with_switch v) (λ t. next' t s' (with_switch v))) (act (Switch a other arms) next old pc s w)) (sym (named a m.0 m.2))
      (subst (λ o. IsNoDearer (after_switch o x (with_switch v) (λ t. next' t s' (with_switch v))) (act (Switch a other arms) next old pc s w)) (sym e)
      (switch_near h (target_of arms other x) x (with_switch v) (with_switch w) (λ t. next' t s' (with_switch v)) (λ t. next t s (with_switch w)) n1
      (λ t is. go t (landing h t) s s' (with_switch w) (with_switch v) (inr (led_to J a s w.memory arms other x t refl leads.1 leads.0 is, refl)) (refl, refl) long long' (as_is (Switch a other arms) (λ n sets. sets)) n1))))
  acts_alike (Call g ds froms) j m fit fit' call leads jumps go =
      let f : SlotsFit slots' (Call g m.0 m.1) = subst (λ (k : Instr). SlotsFit slots' k) m.2 fit' in
      let words = slots_at s froms in
      let e : slots_at s' m.1 ≡ words = names_same h facts pc froms m.1 s s' w.memory agree hold m.4 in
      let fits = fits_some (slice_get funs g) ds froms call in
      let d : IsNoDearer (new g words v) (old g words w) = calls.by g fits.0 fits.1 words (length-map froms (λ a. slice_index s a) ∙ fits.2) v w near in
      let n1 = near_of (new g words v) (old g words w) d in
      subst (λ (i : Instr). IsNoDearer (act i next' new pc' s' v) (act (Call g ds froms) next old pc s w)) (sym m.2)
      (subst (λ us. IsNoDearer (after_call (new g us v).ended (new g us v).world (λ x. next' (pc' + 1) (put_slots s' m.0 x) (new g us v).world)) (act (Call g ds froms) next old pc s w)) (sym e)
      (subst (λ k. IsNoDearer (after_call k (new g words v).world (λ x. next' (pc' + 1) (put_slots s' m.0 x) (new g words v).world)) (act (Call g ds froms) next old pc s w)) (sym d.ended)
      (call_near (old g words w).ended (new g words v).world (old g words w).world _ _ n1
      (λ x. go (pc + 1) (pc' + 1) (put_slots s ds x) (put_slots s' m.0 x) (old g words w).world (new g words v).world (inl (leads, refl, refl)) (x, refl)
      (omega (arith, long, put_long ds x s)) (omega (arith, long', put_long m.0 x s'))
      (put_agrees h apart (Borne h pc (Call g ds froms)) ds m.0 x s s' slots slots' (as_is (Call g ds froms) (λ n sets. sets)) m.3 fit.0 f.0 long long') n1))))
  acts_alike (Return froms) j m fit fit' call leads jumps go =
      let e : slots_at s' m.0 ≡ slots_at s froms = names_same h facts pc froms m.0 s s' w.memory agree hold m.2 in
      subst (λ (k : Instr). IsNoDearer (act k next' new pc' s' v) (act (Return froms) next old pc s w)) (sym m.1)
      (subst (λ us. IsNoDearer (over (Returned us v.left) v) (act (Return froms) next old pc s w)) (sym e)
      (subst (λ n. IsNoDearer (over (Returned (slots_at s froms) n) v) (over (Returned (slots_at s froms) w.left) w)) (sym near.left)
      (over_near (Returned (slots_at s froms) w.left) v w near)))
