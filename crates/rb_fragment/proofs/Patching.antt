-- Targets that are set: what stands in the code then, and that additions stay additions.
use Rattle.std.proofs.Common.{◌≡◌, ◌≢◌, ℕ, zero, suc, ◌+◌, ◌<◌, ◌≤◌, ◌⊎◌, inl, inr, eqb, Bool, true, false, List, [], ◌∷◌, length, Option, Some, None, refl, sym, subst, ap, ◌∙◌, arith}
use Rattle.std.proofs.lemmas.List.{length-set}
use Rattle.std.proofs.lemmas.List.Elements.{All-cons, All-head, All-tail}
use Rattle.std.proofs.lemmas.Option.{slice_get_within, same_Some}
use Rattle.std.specs.Prelude.{slice_get, slice_index, slice_set, Contains, All, option_map, if◌then◌else◌}
use Rattle.rb_target.specs.declared.instr.SwitchArm.{SwitchArm}
use Rattle.rb_target.specs.declared.instr.Instr.{Instr}
use Rattle.rb_target.specs.declared.instr.Instr.TheVariants.{Const, Copy, Alu, Take, Put, Load, Store, Place, Jump, Switch, Call, Return}
use Rattle.rb_target.specs.declared.body.Hole.{Hole}
use Rattle.rb_target.specs.Sheet.{Sheet, with_one_target, with_arm_target, with_instr, with_target_at, IsHole, IsHoleIn}
use Rattle.rb_target.specs.Validity.{dests, IsTarget}
use Rattle.rb_fragment.specs.Adding.{Adds, IsFitting, IsWrittenFrom}
use Rattle.rb_fragment.specs.Arms.{AreHoles, AreJoins, ArePatchable, HasHole, IsOpenJump, with_targets}
use Rattle.rb_fragment.specs.Plan.{Plan}
use Rattle.rb_fragment.specs.Slots.{AllFrom}
use Rattle.rb_target.proofs.Growing.{get-set_other, get-set_same}
use Rattle.rb_target.proofs.Shapes.{HoleView, IsPatched, branch, jump, other, patch_is}
use Rattle.rb_target.specs.Growth.{Grows}
use Rattle.rb_target.specs.Meaning.{from}

-- One target

module _ (plan : Plan) where
  all_retargeted : (P : SwitchArm → Type 0) (arms : List SwitchArm) (k t : ℕ) → ((x : SwitchArm) → P x → P (record x { target = t })) → All P arms → All P (with_arm_target arms k t)
  all_retargeted P [] k t f h = h
  all_retargeted P (x ∷ arms) zero t f h = All-cons P (record x { target = t }) arms (f x (All-head P x arms h)) (All-tail P x arms h)
  all_retargeted P (x ∷ arms) (suc k) t f h = All-cons P x (with_arm_target arms k t) (All-head P x arms h) (all_retargeted P arms k t f (All-tail P x arms h))

  retarget_fits : (n long pc : ℕ) (i : Instr) (x : Option ℕ) (t : ℕ) → HoleView i x → pc < t → t ≤ long → IsFitting plan n long pc i → IsFitting plan n long pc (with_one_target i x t)
  retarget_fits n long pc _ _ t (jump u) lt le f = record { bounded = tt; slots_fit = tt; targets = (lt, omega (arith, le)); calls = tt }
  retarget_fits n long pc _ _ t (other a u arms) lt le f = record { bounded = f.bounded; slots_fit = f.slots_fit; targets = ((lt, omega (arith, le)), f.targets.1); calls = tt }
  retarget_fits n long pc _ _ t (branch a o arms k h) lt le f = record {
    bounded = all_retargeted (λ (x : SwitchArm). x.number < 18446744073709551616) arms k t (λ x p. p) f.bounded;
    slots_fit = f.slots_fit;
    targets = (f.targets.0, all_retargeted (λ (x : SwitchArm). IsTarget (long + 1) pc x.target) arms k t (λ x p. (lt, omega (arith, le))) f.targets.1);
    calls = tt;
  }

  writes_none : (i : Instr) (x : Option ℕ) (s : ℕ) → HoleView i x → Contains (dests i) s → ⊥
  writes_none _ _ s (jump u) h = omega (arith, h.1)
  writes_none _ _ s (other a u arms) h = omega (arith, h.1)
  writes_none _ _ s (branch a o arms k lt) h = omega (arith, h.1)

  -- a target that is set
  module _ (a b : Sheet) (h : Hole) (t : ℕ) (g : Adds plan a b) (p : IsPatched b h t (with_target_at b h t)) (low : length a.code ≤ h.pc) (forward : h.pc < t) (within : t ≤ length b.code) where
    abbrev c : Sheet
    c = with_target_at b h t

    set_written : (s : ℕ) (x : IsWrittenFrom b.code (length a.code) s) → (q : Bool) → eqb x.0 h.pc ≡ q → IsWrittenFrom c.code (length a.code) s
    set_written s x true e =
        let same : x.0 ≡ h.pc = grind arith in
        let is : p.old ≡ x.1 = same_Some p.old x.1 (sym p.is_old ∙ ap (λ n. slice_get b.code n) (sym same) ∙ x.3) in
        absurd (writes_none p.old h.arm s p.view (subst (λ (i : Instr). Contains (dests i) s) (sym is) x.4))
    set_written s x false e =
        let ne : x.0 ≢ h.pc = grind arith in (x.0, x.1, x.2, p.elsewhere x.0 ne ∙ x.3, x.4)

    set_fine : (pc : ℕ) (i : Instr) → length a.code ≤ pc → slice_get c.code pc ≡ Some i → (q : Bool) → eqb pc h.pc ≡ q → IsFitting plan b.slots (length b.code) pc i
    set_fine pc i lo at true e =
        let same : pc ≡ h.pc = grind arith in
        let old : IsFitting plan b.slots (length b.code) h.pc p.old = g.fine h.pc p.old low p.is_old in
        let is : with_one_target p.old h.arm t ≡ i = same_Some (with_one_target p.old h.arm t) i (sym p.here ∙ ap (λ n. slice_get c.code n) (sym same) ∙ at) in
        subst (λ n. IsFitting plan b.slots (length b.code) n i) (sym same) (subst (λ (j : Instr). IsFitting plan b.slots (length b.code) h.pc j) is (retarget_fits b.slots (length b.code) h.pc p.old h.arm t p.view forward within old))
    set_fine pc i lo at false e =
        let ne : pc ≢ h.pc = grind arith in g.fine pc i lo (sym (p.elsewhere pc ne) ∙ at)

    pub patch_adds : Adds plan a c
    patch_adds = record {
      grows = record { longer = omega (arith, p.long, g.grows.longer); same = λ pc lt. let ne : pc ≢ h.pc = omega (arith, lt, low) in p.elsewhere pc ne ∙ g.grows.same pc lt };
      more = g.more;
      params = g.params;
      written = λ s lo hi. let x = g.written s lo hi in set_written s x (eqb x.0 h.pc) refl;
      fine = λ pc i lo at. subst (λ n. IsFitting plan b.slots n pc i) (sym p.long) (set_fine pc i lo at (eqb pc h.pc) refl);
    }

-- Several

arms_length : (arms : List SwitchArm) (k t : ℕ) → length (with_arm_target arms k t) ≡ length arms
arms_length [] k t = refl
arms_length (arm ∷ arms) zero t = refl
arms_length (arm ∷ arms) (suc k) t = ap suc (arms_length arms k t)

-- what is a hole stays one
hole_kept : (i : Instr) (arm arm' : Option ℕ) (t : ℕ) → IsHoleIn (Some i) arm → IsHoleIn (Some (with_one_target i arm' t)) arm
hole_kept (Jump o) None None t h = tt
hole_kept (Jump o) None (Some k) t h = tt
hole_kept (Jump o) (Some j) arm' t h = absurd h
hole_kept (Switch a (Some o) arms) None None t h = tt
hole_kept (Switch a (Some o) arms) None (Some k) t h = tt
hole_kept (Switch a None arms) None arm' t h = absurd h
hole_kept (Switch a None arms) (Some j) None t h = h
hole_kept (Switch a (Some o) arms) (Some j) None t h = h
hole_kept (Switch a None arms) (Some j) (Some k) t h = omega (arith, h, arms_length arms k t)
hole_kept (Switch a (Some o) arms) (Some j) (Some k) t h = omega (arith, h, arms_length arms k t)
hole_kept (Const d c) arm arm' t h = absurd h
hole_kept (Copy d a) arm arm' t h = absurd h
hole_kept (Alu op n d a b) arm arm' t h = absurd h
hole_kept (Take d a o l) arm arm' t h = absurd h
hole_kept (Put d a o l) arm arm' t h = absurd h
hole_kept (Load d a o w) arm arm' t h = absurd h
hole_kept (Store a o w v) arm arm' t h = absurd h
hole_kept (Place d s a) arm arm' t h = absurd h
hole_kept (Call f ds fs) arm arm' t h = absurd h
hole_kept (Return fs) arm arm' t h = absurd h

-- One place

abbrev pub retarget_at : ℕ → Hole → ℕ → Option Instr → Option Instr
retarget_at pc h t o = if eqb pc h.pc then option_map (λ i. with_one_target i h.arm t) o else o

abbrev pub retarget_all : ℕ → List Hole → List ℕ → Option Instr → Option Instr
retarget_all pc [] ts o = o
retarget_all pc (h ∷ hs) ts o = retarget_all pc hs ts (retarget_at pc h (slice_index ts h.leaf) o)

pub at_patched : (b : Sheet) (h : Hole) (t pc : ℕ) → slice_get (with_target_at b h t).code pc ≡ retarget_at pc h t (slice_get b.code pc)
at_patched b h t pc = go (slice_get b.code h.pc) refl (eqb pc h.pc) refl
  where
    go : (o : Option Instr) → slice_get b.code h.pc ≡ o → (e : Bool) → eqb pc h.pc ≡ e
        → slice_get (with_instr o b.code h t) pc ≡ (if e then option_map (λ i. with_one_target i h.arm t) (slice_get b.code pc) else slice_get b.code pc)
    go None at true e =
        let same : pc ≡ h.pc = grind arith in
        let none : slice_get b.code pc ≡ None = ap (λ n. slice_get b.code n) same ∙ at in none ∙ sym (ap (option_map (λ i. with_one_target i h.arm t)) none)
    go None at false e = refl
    go (Some i) at true e =
        let same : pc ≡ h.pc = grind arith in
        let some : slice_get b.code pc ≡ Some i = ap (λ n. slice_get b.code n) same ∙ at in
        ap (λ n. slice_get (slice_set b.code h.pc (with_one_target i h.arm t)) n) same ∙ get-set_same b.code h.pc (with_one_target i h.arm t) (slice_get_within b.code h.pc i at)
        ∙ sym (ap (option_map (λ i. with_one_target i h.arm t)) some)
    go (Some i) at false e = let ne : pc ≢ h.pc = grind arith in get-set_other b.code h.pc pc (with_one_target i h.arm t) ne

pub at_closed : (b : Sheet) (hs : List Hole) (ts : List ℕ) (pc : ℕ) → slice_get (with_targets b hs ts).code pc ≡ retarget_all pc hs ts (slice_get b.code pc)
at_closed b [] ts pc = refl
at_closed b (h ∷ hs) ts pc = at_closed (with_target_at b h (slice_index ts h.leaf)) hs ts pc ∙ ap (retarget_all pc hs ts) (at_patched b h (slice_index ts h.leaf) pc)

pub with_length : (o : Option Instr) (code : List Instr) (h : Hole) (t : ℕ) → length (with_instr o code h t) ≡ length code
with_length None code h t = refl
with_length (Some i) code h t = length-set code h.pc (with_one_target i h.arm t)

pub closed_length : (b : Sheet) (hs : List Hole) (ts : List ℕ) → length (with_targets b hs ts).code ≡ length b.code
closed_length b [] ts = refl
closed_length b (h ∷ hs) ts = closed_length (with_target_at b h (slice_index ts h.leaf)) hs ts ∙ with_length (slice_get b.code h.pc) b.code h (slice_index ts h.leaf)

pub closed_slots : (b : Sheet) (hs : List Hole) (ts : List ℕ) → (with_targets b hs ts).slots ≡ b.slots
closed_slots b [] ts = refl
closed_slots b (h ∷ hs) ts = closed_slots (with_target_at b h (slice_index ts h.leaf)) hs ts

retarget_other : (pc : ℕ) (h : Hole) (t : ℕ) (o : Option Instr) → pc ≢ h.pc → retarget_at pc h t o ≡ o
retarget_other pc h t o ne = go (eqb pc h.pc) refl
  where
    go : (e : Bool) → eqb pc h.pc ≡ e → (if e then option_map (λ i. with_one_target i h.arm t) o else o) ≡ o
    go true e = let same : pc ≡ h.pc = grind arith in absurd (ne same)
    go false e = refl

-- where there is no hole nothing is changed
pub retarget_none : (pc : ℕ) (hs : List Hole) (ts : List ℕ) (o : Option Instr) → (HasHole pc hs → ⊥) → retarget_all pc hs ts o ≡ o
retarget_none pc [] ts o out = refl
retarget_none pc (h ∷ hs) ts o out = ap (retarget_all pc hs ts) (retarget_other pc h (slice_index ts h.leaf) o (λ e. out (inl e))) ∙ retarget_none pc hs ts o (λ k. out (inr k))

-- Joins: all lead to the one target

module _ (pc from : ℕ) (code : List Instr) (ts : List ℕ) where
  abbrev end : ℕ
  end = slice_index ts 0

  join_step : (h : Hole) → h.leaf ≡ 0 → h.arm ≡ None → (x : ℕ) → (e : Bool) → (if e then option_map (λ i. with_one_target i h.arm (slice_index ts h.leaf)) (Some (Jump x)) else Some (Jump x)) ≡ (if e then Some (Jump end) else Some (Jump x))
  join_step h leaf arm x true = ap (λ k. Some (with_one_target (Jump x) k (slice_index ts h.leaf))) arm ∙ ap (λ k. Some (Jump (slice_index ts k))) leaf
  join_step h leaf arm x false = refl

  join_kept : (hs : List Hole) → AreJoins from code hs → retarget_all pc hs ts (Some (Jump end)) ≡ Some (Jump end)
  join_kept [] j = refl
  join_kept (h ∷ hs) j = ap (retarget_all pc hs ts) (join_step h j.0.1 j.0.2.2 end (eqb pc h.pc) ∙ one (eqb pc h.pc)) ∙ join_kept hs j.1
    where
      one : (e : Bool) → (if e then Some (Jump end) else Some (Jump end)) ≡ Some (Jump end)
      one true = refl
      one false = refl

  pub join_closed : (hs : List Hole) → AreJoins from code hs → (x : ℕ) → HasHole pc hs → retarget_all pc hs ts (Some (Jump x)) ≡ Some (Jump end)
  join_closed [] j x has = absurd has
  join_closed (h ∷ hs) j x has = ap (retarget_all pc hs ts) (join_step h j.0.1 j.0.2.2 x (eqb pc h.pc)) ∙ go (eqb pc h.pc) refl has (λ k. join_closed hs j.1 x k)
    where
      go : (e : Bool) → eqb pc h.pc ≡ e → (pc ≡ h.pc) ⊎ HasHole pc hs → (HasHole pc hs → retarget_all pc hs ts (Some (Jump x)) ≡ Some (Jump end)) → retarget_all pc hs ts (if e then Some (Jump end) else Some (Jump x)) ≡ Some (Jump end)
      go true e k rest = join_kept hs j.1
      go false e (inl same) rest = let ne : pc ≢ h.pc = grind arith in absurd (ne same)
      go false e (inr k) rest = rest k

pub join_at : (pc from : ℕ) (code : List Instr) (hs : List Hole) → AreJoins from code hs → HasHole pc hs → (x : ℕ) × (slice_get code pc ≡ Some (Jump x))
join_at pc from code [] j has = absurd has
join_at pc from code (h ∷ hs) j (inl same) = (j.0.2.0, ap (λ n. slice_get code n) same ∙ j.0.2.1)
join_at pc from code (h ∷ hs) j (inr k) = join_at pc from code hs j.1 k

pub join_from : (pc from : ℕ) (code : List Instr) (hs : List Hole) → AreJoins from code hs → HasHole pc hs → (from ≤ pc) × (pc < length code)
join_from pc from code [] j has = absurd has
join_from pc from code (h ∷ hs) j (inl same) = (omega (arith, same, j.0.0), (let lt = slice_get_within code h.pc (Jump j.0.2.0) j.0.2.1 in omega (arith, lt, same)))
join_from pc from code (h ∷ hs) j (inr k) = join_from pc from code hs j.1 k

-- Holes in any case

hole_some : (code : List Instr) (h : Hole) → IsHole code h → (i : Instr) × (slice_get code h.pc ≡ Some i)
hole_some code h hole = go (slice_get code h.pc) refl hole
  where
    none : (arm : Option ℕ) → IsHoleIn None arm → ⊥
    none None k = k
    none (Some j) k = k

    go : (o : Option Instr) → slice_get code h.pc ≡ o → IsHoleIn o h.arm → (i : Instr) × (slice_get code h.pc ≡ Some i)
    go None e k = absurd (none h.arm k)
    go (Some i) e k = (i, e)

pub hole_within : (code : List Instr) (h : Hole) → IsHole code h → h.pc < length code
hole_within code h hole = let s = hole_some code h hole in slice_get_within code h.pc s.0 s.1

pub hole_from : (pc from count : ℕ) (code : List Instr) (hs : List Hole) → AreHoles from count code hs → HasHole pc hs → (from ≤ pc) × (pc < length code)
hole_from pc from count code [] a has = absurd has
hole_from pc from count code (h ∷ hs) a (inl same) = (omega (arith, same, a.0), (let lt = hole_within code h a.2 in omega (arith, lt, same)))
hole_from pc from count code (h ∷ hs) a (inr k) = hole_from pc from count code hs a.3 k

kept_at : (pc : ℕ) (h : Hole) (t : ℕ) (o : Option Instr) (arm : Option ℕ) → IsHoleIn o arm → IsHoleIn (retarget_at pc h t o) arm
kept_at pc h t o arm hole = go o hole (eqb pc h.pc)
  where
    go : (o : Option Instr) → IsHoleIn o arm → (e : Bool) → IsHoleIn (if e then option_map (λ i. with_one_target i h.arm t) o else o) arm
    go None k true = k
    go (Some i) k true = hole_kept i arm h.arm t k
    go o k false = k

pub patched_hole : (b : Sheet) (h : Hole) (t : ℕ) (k : Hole) → IsHole b.code k → IsHole (with_target_at b h t).code k
patched_hole b h t k hole = subst (λ o. IsHoleIn o k.arm) (sym (at_patched b h t k.pc)) (kept_at k.pc h t (slice_get b.code k.pc) k.arm hole)

pub closed_hole : (b : Sheet) (hs : List Hole) (ts : List ℕ) (k : Hole) → IsHole b.code k → IsHole (with_targets b hs ts).code k
closed_hole b [] ts k hole = hole
closed_hole b (h ∷ hs) ts k hole = closed_hole (with_target_at b h (slice_index ts h.leaf)) hs ts k (patched_hole b h (slice_index ts h.leaf) k hole)

pub patchable_patched : (b : Sheet) (h : Hole) (t : ℕ) (hs : List Hole) (ts : List ℕ) → ArePatchable b.code hs ts → ArePatchable (with_target_at b h t).code hs ts
patchable_patched b h t [] ts p = tt
patchable_patched b h t (k ∷ hs) ts p = (patched_hole b h t k p.0, p.1, p.2, patchable_patched b h t hs ts p.3)

pub from_at : (n : ℕ) (xs : List ℕ) (k : ℕ) → AllFrom n xs → k < length xs → n ≤ slice_index xs k
from_at n [] k all lt = absurd (omega (arith, lt))
from_at n (x ∷ xs) zero all lt = all.0
from_at n (x ∷ xs) (suc k) all lt = from_at n xs k all.1 (omega (arith, lt))

-- the chooser's holes behind the arms
pub holes_patchable : (from : ℕ) (e q : Sheet) (hs : List Hole) (ts : List ℕ) → Grows e.code q.code → AreHoles from (length ts) e.code hs → AllFrom (length e.code) ts → ArePatchable q.code hs ts
holes_patchable from e q [] ts g a starts = tt
holes_patchable from e q (h ∷ hs) ts g a starts =
    let lt = hole_within e.code h a.2 in
    let le = from_at (length e.code) ts h.leaf starts a.1 in
    (subst (λ o. IsHoleIn o h.arm) (sym (g.same h.pc lt)) a.2, a.1, omega (arith, lt, le), holes_patchable from e q hs ts g a.3 starts)

pub jump_hole : (code : List Instr) (h : Hole) → IsOpenJump code h → IsHole code h
jump_hole code h j = subst (λ arm. IsHoleIn (slice_get code h.pc) arm) (sym j.2) (subst (λ o. IsHoleIn o None) (sym j.1) tt)

pub joins_patchable : (from : ℕ) (q : Sheet) (hs : List Hole) (starts : List ℕ) (js : List Hole) → AreJoins from q.code js → ArePatchable (with_targets q hs starts).code js (length q.code ∷ [])
joins_patchable from q hs starts [] j = tt
joins_patchable from q hs starts (h ∷ js) j =
    let lt = slice_get_within q.code h.pc (Jump j.0.2.0) j.0.2.1 in
    let to : slice_index (length q.code ∷ []) h.leaf ≡ length q.code = ap (λ k. slice_index (length q.code ∷ []) k) j.0.1 in
    (closed_hole q hs starts h (jump_hole q.code h j.0.2), omega (arith, j.0.1), omega (arith, to, lt), joins_patchable from q hs starts js j.1)

-- each is a hole
abbrev pub AreAllHoles : List Instr → List Hole → Type 0
AreAllHoles code [] = Unit {0}
AreAllHoles code (h ∷ hs) = IsHole code h × AreAllHoles code hs

pub all_holes_patched : (b : Sheet) (h : Hole) (t : ℕ) (hs : List Hole) → AreAllHoles b.code hs → AreAllHoles (with_target_at b h t).code hs
all_holes_patched b h t [] a = tt
all_holes_patched b h t (k ∷ hs) a = (patched_hole b h t k a.0, all_holes_patched b h t hs a.1)

pub all_holes_closed : (b : Sheet) (ks hs : List Hole) (ts : List ℕ) → AreAllHoles b.code hs → AreAllHoles (with_targets b ks ts).code hs
all_holes_closed b [] hs ts a = a
all_holes_closed b (k ∷ ks) hs ts a = all_holes_closed (with_target_at b k (slice_index ts k.leaf)) ks hs ts (all_holes_patched b k (slice_index ts k.leaf) hs a)

-- What is added stays so

-- each target lies behind its hole and within so many instructions
abbrev pub AreClosable : ℕ → ℕ → List Hole → List ℕ → Type 0
AreClosable from m [] ts = Unit {0}
AreClosable from m (h ∷ hs) ts = (from ≤ h.pc) × (h.pc < slice_index ts h.leaf) × (slice_index ts h.leaf ≤ m) × AreClosable from m hs ts

pub adds_closed : (plan : Plan) (b q : Sheet) (hs : List Hole) (ts : List ℕ) (m : ℕ) → m ≡ length q.code → Adds plan b q → AreAllHoles q.code hs → AreClosable (length b.code) m hs ts → Adds plan b (with_targets q hs ts)
adds_closed plan b q [] ts m len adds holes c = adds
adds_closed plan b q (h ∷ hs) ts m len adds holes c =
    let t = slice_index ts h.leaf in
    let p = patch_is q h t holes.0 in
    adds_closed plan b (with_target_at q h t) hs ts m (len ∙ sym p.long) (patch_adds plan b q h t adds p c.0 c.1 (omega (arith, len, c.2))) (all_holes_patched q h t hs holes.1) c.3

-- holes of ways are holes
pub all_holes_of : (from count : ℕ) (code : List Instr) (hs : List Hole) → AreHoles from count code hs → AreAllHoles code hs
all_holes_of from count code [] a = tt
all_holes_of from count code (h ∷ hs) a = (a.2, all_holes_of from count code hs a.3)

pub all_joins_holes : (from : ℕ) (code : List Instr) (hs : List Hole) → AreJoins from code hs → AreAllHoles code hs
all_joins_holes from code [] j = tt
all_joins_holes from code (h ∷ hs) j = (jump_hole code h j.0.2, all_joins_holes from code hs j.1)

pub all_holes_grow : (old new : List Instr) (hs : List Hole) → Grows old new → AreAllHoles old hs → AreAllHoles new hs
all_holes_grow old new [] g a = tt
all_holes_grow old new (h ∷ hs) g a =
    let lt = hole_within old h a.0 in (subst (λ o. IsHoleIn o h.arm) (sym (g.same h.pc lt)) a.0, all_holes_grow old new hs g a.1)
