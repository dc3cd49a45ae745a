-- The arms of a match, one behind the other, and the code that is made of them and of what chooses one. A hole is a
-- target of a jump or a switch that is still open; its `leaf` is the number of the way, or arm, to which it leads.
use Rattle.std.specs.Prelude.{◌≡◌, ℕ, ◌+◌, ◌<◌, ◌≤◌, ◌⊎◌, Bool, List, [], ◌∷◌, length, Option, Some, None, slice_get, slice_index}
use Rattle.rb_core.specs.declared.types.Ty.{Ty}
use Rattle.rb_core.specs.declared.outcome.Outcome.{Outcome}
use Rattle.rb_core.specs.Meaning.{Calls}
use Rattle.rb_bytes.specs.Memory.{Memory, IsGood}
use Rattle.rb_target.specs.declared.instr.Instr.{Instr}
use Rattle.rb_target.specs.declared.instr.Instr.TheVariants.{Jump}
use Rattle.rb_target.specs.declared.body.Hole.{Hole}
use Rattle.rb_target.specs.Growth.{AgreesBut, Grows}
use Rattle.rb_target.specs.Laws.{Law}
use Rattle.rb_target.specs.Meaning.{World, Next, Callee}
use Rattle.rb_target.specs.Sheet.{Sheet, with_target_at, IsHole}
use Rattle.rb_target.specs.Targets.{IsHoleAmong}
use Rattle.rb_fragment.specs.declared.held.Held.{Held}
use Rattle.rb_fragment.specs.declared.held.Joined.{Joined}
use Rattle.rb_fragment.specs.Plan.{Plan}
use Rattle.rb_fragment.specs.Owing.{Does, CallsAgree}
use Rattle.rb_fragment.specs.Adding.{Adds}
use Rattle.rb_fragment.specs.Slots.{AllBelow, AllFrom, IsDistinct, copies, with_join, slots_from, with_slots}
use Rattle.rb_fragment.specs.Fragments.{Comes}

-- Holes

-- the sheet with the target of each hole set to that of its way: ts has one target a way
abbrev pub with_targets : Sheet → List Hole → List ℕ → Sheet
with_targets b [] ts = b
with_targets b (h ∷ hs) ts = with_targets (with_target_at b h (slice_index ts h.leaf)) hs ts

-- each hole is one of the code, and stands in front of the target that ts has for its way
abbrev pub ArePatchable : List Instr → List Hole → List ℕ → Type 0
ArePatchable code [] ts = Unit {0}
ArePatchable code (h ∷ hs) ts =
    IsHole code h × (h.leaf < length ts) × (h.pc < slice_index ts h.leaf) × ArePatchable code hs ts

-- each is a hole of the code, of an instruction from number `from` on, and of one of `count` ways
abbrev pub AreHoles : ℕ → ℕ → List Instr → List Hole → Type 0
AreHoles from count code [] = Unit {0}
AreHoles from count code (h ∷ hs) = (from ≤ h.pc) × (h.leaf < count) × IsHole code h × AreHoles from count code hs

-- holes that are the same target of the same instruction belong to the same way
abbrev pub AreOfOneWay : List Hole → Type 0
AreOfOneWay holes =
    (h k : Hole) → IsHoleAmong h holes → IsHoleAmong k holes → h.pc ≡ k.pc → h.arm ≡ k.arm → h.leaf ≡ k.leaf

-- the hole is the target of a jump of the code
abbrev pub IsOpenJump : List Instr → Hole → Type 0
IsOpenJump code h = (t : ℕ) × (slice_get code h.pc ≡ Some (Jump t)) × (h.arm ≡ None)

-- the hole is the target of a jump of the code, from number `from` on, that leads to where all ways meet
abbrev pub IsJoin : ℕ → List Instr → Hole → Type 0
IsJoin from code h = (from ≤ h.pc) × (h.leaf ≡ 0) × IsOpenJump code h

-- each hole is the target of a jump of the code, from number `from` on, that leads to where all ways meet
abbrev pub AreJoins : ℕ → List Instr → List Hole → Type 0
AreJoins from code [] = Unit {0}
AreJoins from code (h ∷ hs) = IsJoin from code h × AreJoins from code hs

-- one of the holes belongs to instruction pc
abbrev pub HasHole : ℕ → List Hole → Type 0
HasHole pc [] = ⊥
HasHole pc (h ∷ hs) = (pc ≡ h.pc) ⊎ HasHole pc hs

-- Arms

-- From the end of a, where Pre holds, the run does what o does, with at most so many extra switches, leaves the
-- value in slots that all arms share, and comes to an open jump. The first n slots are kept.
pub record CodeArm (plan : Plan) (clean : Bool) (calls : Calls) (n : ℕ) (a d : Sheet) (join extra : ℕ)
    (Pre : List ℕ → Memory → Type 0) (o : ℕ → Outcome) (t : Ty) (into : List ℕ) : Type 0 where
  pub adds : Adds plan a d
  pub runs : (final : List Instr) (callee : Callee) (next : Next) → Law final callee next → CallsAgree plan calls callee
      → AgreesBut final d.code (length a.code) (length d.code) (λ pc. pc ≡ join)
      → (s : List ℕ) (w : World) → d.slots ≤ length s → IsGood w.memory → Pre s w.memory
      → Does plan (w.switches + extra) (next (length a.code) s w) w.memory (o w.left)
      (Comes plan clean (next (length a.code) s w) next join n t into s)

-- where an arm leaves its value: the slots that the arms before it share, or new ones for the first
abbrev pub shared_held : Option Held → Sheet → Held → Held
shared_held None c held = record { ty = held.ty; slots = slots_from c.slots (length held.slots) }
shared_held (Some h) c held = h

-- the sheet c with new slots for the value of the first arm; c itself for a later arm, whose slots are shared
abbrev pub shared_sheet : Option Held → Sheet → Held → Sheet
shared_sheet None c held = with_slots c (length held.slots)
shared_sheet (Some h) c held = c

-- behind the code c of an arm's value its words are moved to the shared slots, and a jump is open
pub record JoinedIs (into : Option Held) (held : Held) (c d : Sheet) (r : Joined) : Type 0 where
  pub shared : r.into ≡ shared_held into c held
  pub code : d ≡ with_join (shared_sheet into c held) r.into.slots held.slots
  pub join : r.join ≡ record { pc = length c.code + length (copies r.into.slots held.slots); arm = None; leaf = 0 }

-- slots that arms share: so many of one value, from n on and below m
pub record AreShared (n m words : ℕ) (slots : List ℕ) : Type 0 where
  pub from : AllFrom n slots
  pub below : AllBelow m slots
  pub distinct : IsDistinct slots
  pub count : length slots ≡ words

-- An arm that stands behind e in longer code q: it begins at start, and of the open jumps only its own lies
-- in it. What it does is said of its sheets and its jump.
pub record ArmIn (e q : Sheet) (joins : List Hole) (start : ℕ) (DoesArm : Sheet → Sheet → ℕ → Type 0) : Type 0 where
  pub first : Sheet
  pub last : Sheet
  pub join : ℕ
  pub begins : start ≡ length first.code
  pub behind : length e.code ≤ length first.code
  pub longer : Grows last.code q.code
  pub more : last.slots ≤ q.slots
  pub jumps : HasHole join joins
  pub alone : (pc : ℕ) → HasHole pc joins → length first.code ≤ pc → pc < length last.code → pc ≡ join
  pub does : DoesArm first last join

-- the first `count` arms stand behind e in longer code q, each at its start, and DoesArm holds of each
abbrev pub ArmsIn : ℕ → Sheet → Sheet → List Hole → List ℕ → (ℕ → Sheet → Sheet → ℕ → Type 0) → Type 0
ArmsIn count e q joins starts DoesArm = (k : ℕ) → k < count → ArmIn e q joins (slice_index starts k) (DoesArm k)

-- arms behind e, whatever they do: where they begin, and their open jumps
pub record ArmsAre (count : ℕ) (e q : Sheet) (joins : List Hole) (starts : List ℕ) : Type 0 where
  pub grows : Grows e.code q.code
  pub joins_are : AreJoins (length e.code) q.code joins
  pub starts_from : AllFrom (length e.code) starts
  pub starts_below : AllBelow (length q.code + 1) starts
  pub count_is : length starts ≡ count

-- the targets of a match can be set: behind a chooser with these holes stand arms, one a way, with open jumps
pub record CanClose (q : Sheet) (holes : List Hole) (starts : List ℕ) (joins : List Hole) : Type 0 where
  pub before : ℕ
  pub chooser : Sheet
  pub holes_are : AreHoles before (length starts) chooser.code holes
  pub arms : ArmsAre (length starts) chooser q joins starts

-- the chooser's holes lead to the arms, and the arms' jumps to behind them
abbrev pub whole_match : Sheet → List Hole → List ℕ → List Hole → Sheet
whole_match q holes starts joins = with_targets (with_targets q holes starts) joins (length q.code ∷ [])
