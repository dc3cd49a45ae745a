-- Instructions without their targets, and what changing a target keeps.
use Rattle.std.proofs.Common.{◌≡◌, ◌≢◌, ℕ, zero, suc, ◌<◌, Bool, true, false, eqb, List, [], ◌∷◌, map, length, Option, Some, None, refl, sym, subst, ap, ◌∙◌, arith, length-set}
use Rattle.std.specs.Prelude.{slice_get, slice_set, nat_eq, if◌then◌else◌}
use Rattle.std.proofs.lemmas.Option.{slice_get_within}
use Rattle.rb_target.specs.declared.instr.SwitchArm.{SwitchArm}
use Rattle.rb_target.specs.declared.instr.Instr.{Instr}
use Rattle.rb_target.specs.declared.instr.Instr.TheVariants.{Const, Copy, Alu, Take, Put, Load, Store, Place, Jump, Switch, Call, Return}
use Rattle.rb_target.specs.declared.body.Hole.{Hole}
use Rattle.rb_target.specs.Meaning.{target_of}
use Rattle.rb_target.specs.Sheet.{Sheet, with_one_target, with_arm_target, IsHole, IsHoleIn, with_instr, with_target_at}
use Rattle.rb_target.specs.Targets.{without_target, no_target, without_targets, without_targets_in, arm_target, target_at, target_in, dests_in, SetsTarget}
use Rattle.rb_target.specs.Validity.{dests}
use Rattle.rb_target.proofs.Growing.{get-set_same, get-set_other}

-- a hole, instruction by instruction: the instruction is a jump or a switch with that target
pub data HoleView : Instr → Option ℕ → Type 0 where
  jump : (t : ℕ) → HoleView (Jump t) None
  other : (a t : ℕ) (arms : List SwitchArm) → HoleView (Switch a (Some t) arms) None
  branch : (a : ℕ) (o : Option ℕ) (arms : List SwitchArm) (k : ℕ) → k < length arms → HoleView (Switch a o arms) (Some k)

pub hole_view : (i : Instr) (x : Option ℕ) → IsHoleIn (Some i) x → HoleView i x
hole_view (Const d c) x h = absurd h
hole_view (Copy d a) x h = absurd h
hole_view (Alu op n d a b) x h = absurd h
hole_view (Take d a o l) x h = absurd h
hole_view (Put d a o l) x h = absurd h
hole_view (Load d a o n) x h = absurd h
hole_view (Store a o n v) x h = absurd h
hole_view (Place d n k) x h = absurd h
hole_view (Jump t) None h = jump t
hole_view (Jump t) (Some k) h = absurd h
hole_view (Switch a None arms) None h = absurd h
hole_view (Switch a (Some t) arms) None h = other a t arms
hole_view (Switch a None arms) (Some k) h = branch a None arms k h
hole_view (Switch a (Some t) arms) (Some k) h = branch a (Some t) arms k h
hole_view (Call f ds fs) x h = absurd h
hole_view (Return fs) x h = absurd h

-- arms
arm_shapes : (arms : List SwitchArm) (k t : ℕ) → map without_target (with_arm_target arms k t) ≡ map without_target arms
arm_shapes [] k t = refl
arm_shapes (a ∷ arms) zero t = refl
arm_shapes (a ∷ arms) (suc k) t = ap (λ l. without_target a ∷ l) (arm_shapes arms k t)

arm_same : (arms : List SwitchArm) (k t : ℕ) → k < length arms → arm_target (slice_get (with_arm_target arms k t) k) ≡ Some t
arm_same [] k t lt = absurd (omega (arith, lt))
arm_same (a ∷ arms) zero t lt = refl
arm_same (a ∷ arms) (suc k) t lt = arm_same arms k t (omega (arith, lt))

arm_other : (arms : List SwitchArm) (k j t : ℕ) → j ≢ k → arm_target (slice_get (with_arm_target arms k t) j) ≡ arm_target (slice_get arms j)
arm_other [] k j t ne = refl
arm_other (a ∷ arms) zero zero t ne = absurd (ne refl)
arm_other (a ∷ arms) zero (suc j) t ne = refl
arm_other (a ∷ arms) (suc k) zero t ne = refl
arm_other (a ∷ arms) (suc k) (suc j) t ne = arm_other arms k j t (λ e. ne (ap suc e))

arm_exists : (arms : List SwitchArm) (k : ℕ) → k < length arms → (t : ℕ) × (arm_target (slice_get arms k) ≡ Some t)
arm_exists [] k lt = absurd (omega (arith, lt))
arm_exists (a ∷ arms) zero lt = (a.target, refl)
arm_exists (a ∷ arms) (suc k) lt = arm_exists arms k (omega (arith, lt))

length-shapes : (xs ys : List SwitchArm) → map without_target xs ≡ map without_target ys → length xs ≡ length ys
length-shapes xs ys e = sym (len xs) ∙ ap length e ∙ len ys
  where
    len : (zs : List SwitchArm) → length (map without_target zs) ≡ length zs
    len [] = refl
    len (z ∷ zs) = ap suc (len zs)

-- one target changed
pub retarget_shape : (i : Instr) (x : Option ℕ) (t : ℕ) → HoleView i x → without_targets (with_one_target i x t) ≡ without_targets i
retarget_shape _ _ t (jump u) = refl
retarget_shape _ _ t (other a u arms) = refl
retarget_shape _ _ t (branch a o arms k lt) = ap (λ l. Switch a (no_target o) l) (arm_shapes arms k t)

pub retarget_same : (i : Instr) (x : Option ℕ) (t : ℕ) → HoleView i x → target_at (with_one_target i x t) x ≡ Some t
retarget_same _ _ t (jump u) = refl
retarget_same _ _ t (other a u arms) = refl
retarget_same _ _ t (branch a o arms k lt) = arm_same arms k t lt

pub retarget_other : (i : Instr) (x y : Option ℕ) (t : ℕ) → HoleView i x → (y ≡ x → ⊥) → target_at (with_one_target i x t) y ≡ target_at i y
retarget_other _ _ None t (jump u) ne = absurd (ne refl)
retarget_other _ _ (Some k) t (jump u) ne = refl
retarget_other _ _ None t (other a u arms) ne = absurd (ne refl)
retarget_other _ _ (Some k) t (other a u arms) ne = refl
retarget_other _ _ None t (branch a o arms k lt) ne = refl
retarget_other _ _ (Some j) t (branch a o arms k lt) ne = arm_other arms k j t (λ e. ne (ap Some e))

pub hole_target : (i : Instr) (x : Option ℕ) → HoleView i x → (t : ℕ) × (target_at i x ≡ Some t)
hole_target _ _ (jump u) = (u, refl)
hole_target _ _ (other a u arms) = (u, refl)
hole_target _ _ (branch a o arms k lt) = arm_exists arms k lt

-- what has the shape of a switch is a switch
pub record IsSwitch (o : Option Instr) (a : ℕ) (e : Option ℕ) (arms : List SwitchArm) : Type 0 where
  pub other : Option ℕ
  pub list : List SwitchArm
  pub is : o ≡ Some (Switch a other list)
  pub others : no_target other ≡ no_target e
  pub same : map without_target list ≡ map without_target arms

pub switch_shape : (o : Option Instr) (a : ℕ) (e : Option ℕ) (arms : List SwitchArm) → without_targets_in o ≡ Some (without_targets (Switch a e arms)) → IsSwitch o a e arms
switch_shape None a e arms h = absurd cc
switch_shape (Some (Const d c)) a e arms h = absurd cc
switch_shape (Some (Copy d x)) a e arms h = absurd cc
switch_shape (Some (Alu op n d x b)) a e arms h = absurd cc
switch_shape (Some (Take d x o l)) a e arms h = absurd cc
switch_shape (Some (Put d x o l)) a e arms h = absurd cc
switch_shape (Some (Load d x o n)) a e arms h = absurd cc
switch_shape (Some (Store x o n v)) a e arms h = absurd cc
switch_shape (Some (Place d n k)) a e arms h = absurd cc
switch_shape (Some (Jump t)) a e arms h = absurd cc
switch_shape (Some (Call f ds fs)) a e arms h = absurd cc
switch_shape (Some (Return fs)) a e arms h = absurd cc
switch_shape (Some (Switch b o list)) a e arms h =
    let eb : b ≡ a = cc in
    let eo : no_target o ≡ no_target e = cc in
    let el : map without_target list ≡ map without_target arms = cc in
    record { other = o; list = list; is = ap (λ k. Some (Switch k o list)) eb; others = eo; same = el }

pub jump_shape : (o : Option Instr) (t : ℕ) → without_targets_in o ≡ Some (without_targets (Jump t)) → (u : ℕ) × (o ≡ Some (Jump u))
jump_shape None t h = absurd cc
jump_shape (Some (Const d c)) t h = absurd cc
jump_shape (Some (Copy d x)) t h = absurd cc
jump_shape (Some (Alu op n d x b)) t h = absurd cc
jump_shape (Some (Take d x o l)) t h = absurd cc
jump_shape (Some (Put d x o l)) t h = absurd cc
jump_shape (Some (Load d x o n)) t h = absurd cc
jump_shape (Some (Store x o n v)) t h = absurd cc
jump_shape (Some (Place d n k)) t h = absurd cc
jump_shape (Some (Jump u)) t h = (u, refl)
jump_shape (Some (Switch b o list)) t h = absurd cc
jump_shape (Some (Call f ds fs)) t h = absurd cc
jump_shape (Some (Return fs)) t h = absurd cc

some_target : (o e : Option ℕ) (t : ℕ) → no_target o ≡ no_target e → e ≡ Some t → (u : ℕ) × (o ≡ Some u)
some_target None e t h is = absurd (let q = ap no_target is in cc)
some_target (Some u) e t h is = (u, refl)

arm_is_hole : (a : ℕ) (o : Option ℕ) (list : List SwitchArm) (k : ℕ) → k < length list → IsHoleIn (Some (Switch a o list)) (Some k)
arm_is_hole a None list k lt = lt
arm_is_hole a (Some t) list k lt = lt

-- a switch with this shape has these holes
pub arm_hole : (o : Option Instr) (a : ℕ) (e : Option ℕ) (arms : List SwitchArm) (k : ℕ) → without_targets_in o ≡ Some (without_targets (Switch a e arms)) → k < length arms → IsHoleIn o (Some k)
arm_hole o a e arms k h lt =
    let v = switch_shape o a e arms h in
    subst (λ x. IsHoleIn x (Some k)) (sym v.is) (arm_is_hole a v.other v.list k (omega (arith, length-shapes v.list arms v.same, lt)))

pub else_hole : (o : Option Instr) (a t : ℕ) (arms : List SwitchArm) → without_targets_in o ≡ Some (without_targets (Switch a (Some t) arms)) → IsHoleIn o None
else_hole o a t arms h =
    let v = switch_shape o a (Some t) arms h in
    let u = some_target v.other (Some t) t v.others refl in
    subst (λ x. IsHoleIn x None) (sym (v.is ∙ ap (λ x. Some (Switch a x v.list)) u.1)) tt

-- a hole of an instruction that is there
pub hole_in : (o : Option Instr) (x : Option ℕ) → IsHoleIn o x → (i : Instr) × (o ≡ Some i) × HoleView i x
hole_in None x h = absurd h
hole_in (Some i) x h = (i, refl, hole_view i x h)

-- Sheets

-- what patching does
pub record IsPatched (b : Sheet) (h : Hole) (t : ℕ) (c : Sheet) : Type 0 where
  pub old : Instr
  pub is_old : slice_get b.code h.pc ≡ Some old
  pub view : HoleView old h.arm
  pub inside : h.pc < length b.code
  pub code : c.code ≡ slice_set b.code h.pc (with_one_target old h.arm t)
  pub long : length c.code ≡ length b.code
  pub here : slice_get c.code h.pc ≡ Some (with_one_target old h.arm t)
  pub elsewhere : (q : ℕ) → q ≢ h.pc → slice_get c.code q ≡ slice_get b.code q
  pub shapes : without_targets_in (slice_get c.code h.pc) ≡ without_targets_in (slice_get b.code h.pc)
  pub target : target_in (slice_get c.code h.pc) h.arm ≡ Some t
  pub others : (x : Option ℕ) → (x ≡ h.arm → ⊥) → target_in (slice_get c.code h.pc) x ≡ target_in (slice_get b.code h.pc) x

pub patch_is : (b : Sheet) (h : Hole) (t : ℕ) → IsHole b.code h → IsPatched b h t (with_target_at b h t)
patch_is b h t hole =
    let v = hole_in (slice_get b.code h.pc) h.arm hole in
    let i = v.0 in
    let j = with_one_target i h.arm t in
    let c = with_target_at b h t in
    let inside = slice_get_within b.code h.pc i v.1 in
    let code : c.code ≡ slice_set b.code h.pc j = ap (λ o. with_instr o b.code h t) v.1 in
    let here : slice_get c.code h.pc ≡ Some j = ap (λ l. slice_get l h.pc) code ∙ get-set_same b.code h.pc j inside in
    record {
      old = i;
      is_old = v.1;
      view = v.2;
      inside = inside;
      code = code;
      long = ap length code ∙ length-set b.code h.pc j;
      here = here;
      elsewhere = λ q ne. ap (λ l. slice_get l q) code ∙ get-set_other b.code h.pc q j ne;
      shapes = ap without_targets_in here ∙ ap Some (retarget_shape i h.arm t v.2) ∙ sym (ap without_targets_in v.1);
      target = ap (λ o. target_in o h.arm) here ∙ retarget_same i h.arm t v.2;
      others = λ x ne. ap (λ o. target_in o x) here ∙ retarget_other i h.arm x t v.2 ne ∙ sym (ap (λ o. target_in o x) v.1);
    }

-- patching sets the hole's target and changes nothing else
keeps_dests : (i : Instr) (x : Option ℕ) (t : ℕ) → HoleView i x → dests (with_one_target i x t) ≡ dests i
keeps_dests _ _ t (jump u) = refl
keeps_dests _ _ t (other a u arms) = refl
keeps_dests _ _ t (branch a o arms k lt) = refl

pub patch_sets : (b : Sheet) (h : Hole) (t : ℕ) → IsHole b.code h → SetsTarget b h t (with_target_at b h t)
patch_sets b h t hole =
    let p = patch_is b h t hole in
    record {
      long = p.long;
      target = p.target;
      others = p.others;
      shapes = p.shapes;
      elsewhere = p.elsewhere;
      written = λ pc. written pc p (eqb pc h.pc) refl;
      slots = (refl, refl);
    }
  where
    written : (pc : ℕ) → IsPatched b h t (with_target_at b h t) → (u : Bool) → eqb pc h.pc ≡ u → dests_in (slice_get (with_target_at b h t).code pc) ≡ dests_in (slice_get b.code pc)
    written pc p true e =
        let same : pc ≡ h.pc = grind arith in
        ap (λ n. dests_in (slice_get (with_target_at b h t).code n)) same ∙ ap dests_in p.here ∙ keeps_dests p.old h.arm t p.view ∙ sym (ap dests_in p.is_old) ∙ sym (ap (λ n. dests_in (slice_get b.code n)) same)
    written pc p false e = let ne : pc ≢ h.pc = grind arith in ap dests_in (p.elsewhere pc ne)

-- Choices

-- the first arm with a number
abbrev pub next_arm : Option ℕ → Option ℕ
next_arm None = None
next_arm (Some k) = Some (suc k)

abbrev pub pick : List ℕ → ℕ → Option ℕ
pick [] x = None
pick (c ∷ cs) x = if nat_eq c x then Some 0 else next_arm (pick cs x)

abbrev pub numbers : List SwitchArm → List ℕ
numbers [] = []
numbers (a ∷ arms) = a.number ∷ numbers arms

numbers-same : (xs ys : List SwitchArm) → map without_target xs ≡ map without_target ys → numbers xs ≡ numbers ys
numbers-same xs ys e = sym (plain xs) ∙ ap numbers e ∙ plain ys
  where
    plain : (zs : List SwitchArm) → numbers (map without_target zs) ≡ numbers zs
    plain [] = refl
    plain (z ∷ zs) = ap (λ l. z.number ∷ l) (plain zs)

picked : (a : ℕ) (e : Option ℕ) (arm : SwitchArm) (arms : List SwitchArm) (p : Option ℕ) → target_at (Switch a e (arm ∷ arms)) (next_arm p) ≡ target_at (Switch a e arms) p
picked a e arm arms None = refl
picked a e arm arms (Some k) = refl

-- a switch goes to the target of the arm that is picked
pub target_picked : (a : ℕ) (e : Option ℕ) (arms : List SwitchArm) (x : ℕ) → target_of arms e x ≡ target_at (Switch a e arms) (pick (numbers arms) x)
target_picked a e [] x = refl
target_picked a e (arm ∷ arms) x = go (nat_eq arm.number x) (target_picked a e arms x)
  where
    go : (t : Bool) → target_of arms e x ≡ target_at (Switch a e arms) (pick (numbers arms) x)
        → ◌≡◌ {A = Option ℕ} (if t then Some arm.target else target_of arms e x) (target_at (Switch a e (arm ∷ arms)) (if t then Some 0 else next_arm (pick (numbers arms) x)))
    go true h = refl
    go false h = h ∙ sym (picked a e arm arms (pick (numbers arms) x))

pub target_shaped : (a : ℕ) (e : Option ℕ) (arms list : List SwitchArm) (x : ℕ) → map without_target list ≡ map without_target arms → target_of list e x ≡ target_at (Switch a e list) (pick (numbers arms) x)
target_shaped a e arms list x same = target_picked a e list x ∙ ap (λ cs. target_at (Switch a e list) (pick cs x)) (numbers-same list arms same)
