-- When the instructions of a shorter body stand for those of a body. Hints h tell how: the place of an instruction is
-- its number in the shorter body, its end is where a run goes on that jumps to it; a slot's name is its new number,
-- its number in the shorter body, and the origin of a new number the slot that has it. A number that the hints do not
-- have is 0. `pc` and t are numbers of instructions of the old body, i is one of them, and j a new one. A fact says
-- of a slot what it holds, its content; `facts` are those known before an instruction. Behind an instruction is where
-- the run goes on after it, by a way: to the next instruction or to a target. The way of a switch's arm tells the
-- fact that the switch's slot holds the arm's number; the other way is taken where no arm has the number. An
-- instruction that need not be there is idle. A new one may stand for one instruction, which is plain then, or for it
-- and others behind it.
use Rattle.std.specs.Prelude.{◌≡◌, ℕ, ◌+◌, ◌<◌, ◌≤◌, ◌⊎◌, List, [], ◌∷◌, ◌++◌, map, Option, Some, None, All, IfSome, Contains, slice_get, slice_index}
use Rattle.rb_bytes.specs.Memory.{Memory}
use Rattle.rb_target.specs.declared.instr.SwitchArm.{SwitchArm}
use Rattle.rb_target.specs.declared.instr.Instr.{Instr}
use Rattle.rb_target.specs.declared.instr.Instr.TheVariants.{Const, Copy, Alu, Take, Put, Load, Store, Place, Jump, Switch, Call, Return}
use Rattle.rb_target.specs.declared.code.CodeFun.{CodeFun}
use Rattle.rb_target.specs.Meaning.{target_of}
use Rattle.rb_target.specs.Validity.{IsValidFun}
use Rattle.rb_trim.specs.Trimming.{HasSameHead}
use Rattle.rb_trim.specs.declared.fact.Fact.{Fact}
use Rattle.rb_trim.specs.declared.hints.Hints.{Hints}
use Rattle.rb_trim.specs.declared.fact.Content.{Content}
use Rattle.rb_trim.specs.declared.fact.Content.TheVariants.{Number, Same, Part, Computed, Loaded}
use Rattle.rb_trim.specs.inner.Facts.{Hold, Follows}
use Rattle.rb_trim.specs.inner.Following.{IsLoaded, IsTold, Sets}

-- the facts that are given, or none if none are
abbrev pub facts_in : Option (List Fact) → List Fact
facts_in None = []
facts_in (Some facts) = facts

-- what is known before instruction pc; nothing past the end
abbrev pub facts_at : Hints → ℕ → List Fact
facts_at h pc = facts_in (slice_get h.facts pc)

-- the slots that are given, or none if none are
abbrev pub slots_in : Option (List ℕ) → List ℕ
slots_in None = []
slots_in (Some slots) = slots

-- some slots that no way from instruction pc on reads before it sets them anew; none past the end
abbrev pub dead_at : Hints → ℕ → List ℕ
dead_at h pc = slots_in (slice_get h.dead pc)

-- the number in the new body of instruction pc, or, if it is left out, of the next one that stays; 0 where there are
-- no hints for pc
abbrev pub place : Hints → ℕ → ℕ
place h pc = slice_index h.places pc

-- the instruction at which a run goes on that jumps to instruction pc
abbrev pub end : Hints → ℕ → ℕ
end h pc = slice_index h.ends pc

-- the number in the new body at which a run goes on that jumps to instruction pc
abbrev pub landing : Hints → ℕ → ℕ
landing h pc = place h (end h pc)

-- a run may come to instruction pc
abbrev pub IsReached : Hints → ℕ → Type 0
IsReached h pc = 0 < slice_index h.reached pc

-- what stands for instruction pc stands for no other one behind it
abbrev pub IsPlain : Hints → ℕ → Type 0
IsPlain h pc = slice_index h.given pc ≡ 0

-- some instruction reads the slot k
abbrev pub IsEverRead : Hints → ℕ → Type 0
IsEverRead h k = 0 < slice_index h.reads k

-- a slot is read from an instruction on: a later line reads it, and it is not known that no way from there on reads
-- the slot before it sets it anew
abbrev pub SlotIsRead : Hints → ℕ → ℕ → Type 0
SlotIsRead h pc k = (pc < slice_index h.reads k) × (¬ Contains (dead_at h pc) k)

-- no way from instruction pc on reads the slot k before it sets it anew
pub record IsUnread (h : Hints) (pc k : ℕ) : Type 0 where
  pub by : ¬ SlotIsRead h pc k

-- each slot that is read from instruction pc on has the same word in s, the old slots, as in s', the new ones, under
-- its new number
abbrev pub Agree : Hints → ℕ → List ℕ → List ℕ → Type 0
Agree h pc s s' = (k : ℕ) → SlotIsRead h pc k → slice_index s' (slice_index h.names k) ≡ slice_index s k

-- the slot k, if it is read, has a new number of its own
abbrev pub IsApart : Hints → ℕ → Type 0
IsApart h k = IsEverRead h k → slice_index h.origins (slice_index h.names k) ≡ k

-- each slot that is read has a new number of its own
abbrev pub NumbersAreApart : Hints → Type 0
NumbersAreApart h = (k : ℕ) → IsApart h k

-- the slot k, if it is read, keeps its number where it is a parameter, and has none of a parameter where it is none
abbrev pub KeepsParam : Hints → ℕ → ℕ → Type 0
KeepsParam h params k =
    IsEverRead h k → ((k < params) × (slice_index h.names k ≡ k)) ⊎ ((params ≤ k) × (params ≤ slice_index h.names k))

-- all parameters that are read keep their numbers, and no other slot that is read has one of theirs
abbrev pub KeepParams : Hints → ℕ → Type 0
KeepParams h params = (k : ℕ) → KeepsParam h params k

-- d' is the new number of the slot d, and d the slot that has it, so that what is written to d may be written to d'
abbrev pub IsDest : Hints → ℕ → ℕ → Type 0
IsDest h d d' = (d' ≡ slice_index h.names d) × (slice_index h.origins d' ≡ d)

-- the slot a' holds in the new body what the slot a holds in the old one, before instruction pc and where the facts
-- hold, so that it may be read instead
pub record IsName (h : Hints) (facts : List Fact) (pc a a' : ℕ) : Type 0 where
  pub same : (s s' : List ℕ) (m : Memory) → Agree h pc s s' → Hold s m facts → slice_index s' a' ≡ slice_index s a

-- the second slots are the new numbers of the first ones, as many and in the same order, as `IsDest` says
abbrev pub AreDests : Hints → List ℕ → List ℕ → Type 0
AreDests h [] [] = Unit {0}
AreDests h [] (d' ∷ ds') = ⊥
AreDests h (d ∷ ds) [] = ⊥
AreDests h (d ∷ ds) (d' ∷ ds') = IsDest h d d' × AreDests h ds ds'

-- the second slots may be read instead of the first ones, as many and in the same order, as `IsName` says
abbrev pub AreNames : Hints → List Fact → ℕ → List ℕ → List ℕ → Type 0
AreNames h facts pc [] [] = Unit {0}
AreNames h facts pc [] (a' ∷ xs') = ⊥
AreNames h facts pc (a ∷ xs) [] = ⊥
AreNames h facts pc (a ∷ xs) (a' ∷ xs') = IsName h facts pc a a' × AreNames h facts pc xs xs'

-- the number in the new body at which a run goes on that jumps to a target, if there is one
abbrev pub landing_in : Hints → Option ℕ → Option ℕ
landing_in h None = None
landing_in h (Some t) = Some (landing h t)

-- an arm of a switch with its target in the new body
abbrev pub moved_arm : Hints → SwitchArm → SwitchArm
moved_arm h arm = record arm { target = landing h arm.target }

-- the new instruction j, for instruction pc, puts the content into the new slot d'; none does so with a loaded word
abbrev pub MakesContent : Hints → List Fact → ℕ → Content → ℕ → Instr → Type 0
MakesContent h facts pc (Number c) d' j = j ≡ Const d' c
MakesContent h facts pc (Same a) d' j = (a' : ℕ) × (j ≡ Copy d' a') × IsName h facts pc a a'
MakesContent h facts pc (Part a o l) d' j = (a' : ℕ) × (j ≡ Take d' a' o l) × IsName h facts pc a a'
MakesContent h facts pc (Computed op n a b) d' j =
    (a' b' : ℕ) × (j ≡ Alu op n d' a' b') × IsName h facts pc a a' × IsName h facts pc b b'
MakesContent h facts pc (Loaded a offset width) d' j = ⊥

-- the new instruction puts the fact's content into its slot, under new numbers
abbrev pub IsWrite : Hints → List Fact → ℕ → Fact → Instr → Type 0
IsWrite h facts pc fact j = (d' : ℕ) × IsDest h fact.slot d' × MakesContent h facts pc fact.content d' j

-- the new instruction j makes what the old one i, instruction pc, makes: i is told as a fact, which j puts in place
abbrev pub IsRemade : Hints → List Fact → ℕ → Instr → Instr → Type 0
IsRemade h facts pc i j = (fact : Fact) × IsTold facts i fact × IsWrite h facts pc fact j

-- the new instruction puts the low l bits of slot a into slot d from bit o on, under new numbers: d is read, too
abbrev pub IsPut : Hints → List Fact → ℕ → ℕ → ℕ → ℕ → ℕ → Instr → Type 0
IsPut h facts pc d a o l j =
    (d' a' : ℕ) × (j ≡ Put d' a' o l) × IsDest h d d' × IsName h facts pc d d' × IsName h facts pc a a'

-- j may stand for a jump to instruction t: it jumps to where such a run goes on, or is the return that stands there
abbrev pub IsJumped : Hints → List Instr → ℕ → Instr → Type 0
IsJumped h body t j =
    (j ≡ Jump (landing h t))
    ⊎ ((froms froms' : List ℕ) × (slice_get body (end h t) ≡ Some (Return froms)) × (j ≡ Return froms')
    × AreNames h (facts_at h (end h t)) (end h t) froms froms')

-- the new instruction j does to the new slots what the old one, instruction pc of `body`, does to the old
abbrev pub IsMoved : Hints → List Fact → List Instr → ℕ → Instr → Instr → Type 0
IsMoved h facts body pc (Const d c) j = IsRemade h facts pc (Const d c) j
IsMoved h facts body pc (Copy d a) j = IsRemade h facts pc (Copy d a) j
IsMoved h facts body pc (Alu op n d a b) j = IsRemade h facts pc (Alu op n d a b) j
IsMoved h facts body pc (Take d a o l) j = IsRemade h facts pc (Take d a o l) j
IsMoved h facts body pc (Put d a o l) j = IsRemade h facts pc (Put d a o l) j ⊎ IsPut h facts pc d a o l j
IsMoved h facts body pc (Load d a offset width) j =
    (d' a' : ℕ) × (j ≡ Load d' a' offset width) × IsDest h d d' × IsName h facts pc a a'
IsMoved h facts body pc (Store a offset width v) j =
    (a' v' : ℕ) × (j ≡ Store a' offset width v') × IsName h facts pc a a' × IsName h facts pc v v'
IsMoved h facts body pc (Place d size align) j = (d' : ℕ) × (j ≡ Place d' size align) × IsDest h d d'
IsMoved h facts body pc (Jump t) j = IsJumped h body t j
IsMoved h facts body pc (Switch a other arms) j =
    (a' : ℕ) × (j ≡ Switch a' (landing_in h other) (map (λ arm. moved_arm h arm) arms)) × IsName h facts pc a a'
IsMoved h facts body pc (Call f ds froms) j =
    (ds' froms' : List ℕ) × (j ≡ Call f ds' froms') × AreDests h ds ds' × AreNames h facts pc froms froms'
IsMoved h facts body pc (Return froms) j = (froms' : List ℕ) × (j ≡ Return froms') × AreNames h facts pc froms froms'

-- instruction pc need not be there: what it writes is not read behind it, and it cannot end the run; never one that
-- stores, places, jumps, switches, calls or returns
abbrev pub IsIdle : Hints → List Fact → ℕ → Instr → Type 0
IsIdle h facts pc (Const d c) = IsUnread h (pc + 1) d
IsIdle h facts pc (Copy d a) = IsUnread h (pc + 1) d
IsIdle h facts pc (Alu op n d a b) = IsUnread h (pc + 1) d
IsIdle h facts pc (Take d a o l) = IsUnread h (pc + 1) d
IsIdle h facts pc (Put d a o l) = IsUnread h (pc + 1) d
IsIdle h facts pc (Load d a offset width) = IsUnread h (pc + 1) d × IsLoaded facts a offset width
IsIdle h facts pc i = ⊥

-- instruction pc may be left out: it is idle, or it is a jump and all that stands between it and where it leads is
-- left out
abbrev pub IsLeftOut : Hints → ℕ → Instr → Type 0
IsLeftOut h pc (Jump t) = landing h t ≡ place h pc
IsLeftOut h pc i = IsIdle h (facts_at h pc) pc i

-- a run that jumps to instruction pc goes on at another one: where the jump leads that stands there, or where a run
-- goes on that jumps to the next one, if the instruction is idle
abbrev pub EndsOn : Hints → ℕ → Instr → Type 0
EndsOn h pc (Jump t) = end h pc ≡ end h t
EndsOn h pc i = (end h pc ≡ end h (pc + 1)) × IsIdle h (facts_at h pc) pc i

-- a run that jumps to instruction pc goes on there, or at another one for a reason that `EndsOn` tells
abbrev pub EndsWell : Hints → ℕ → Instr → Type 0
EndsWell h pc i = (end h pc ≡ pc) ⊎ EndsOn h pc i

-- each slot that is read from t on, behind instruction pc, is read from pc on, or set by that instruction, i
pub record LivesOn (h : Hints) (pc : ℕ) (i : Instr) (t : ℕ) : Type 0 where
  pub by : (k : ℕ) → SlotIsRead h t k → SlotIsRead h pc k ⊎ Sets i k

-- what the way of an arm with this number tells, behind a switch on slot a: that the slot holds the number
abbrev pub tells : ℕ → ℕ → Option Fact
tells a number = Some (record { slot = a; content = Number number })

-- what the hints say of instruction t holds behind instruction pc: which slots are read from t on, and which facts
-- hold before t, where the way there tells `told`
pub record HintsHold (h : Hints) (pc : ℕ) (i : Instr) (told : Option Fact) (t : ℕ) : Type 0 where
  pub lives : LivesOn h pc i t
  pub follows : Follows (facts_at h pc) told i (facts_at h t)

-- a run may go on from instruction pc to the next one, t: what the hints say of t holds there
pub record FallsOn (h : Hints) (pc : ℕ) (i : Instr) (t : ℕ) : Type 0 where
  pub on : HintsHold h pc i None t
  pub comes : IsPlain h pc → IsReached h pc → IsReached h t

-- a run may jump from instruction pc to t by a way that tells `told`: what the hints say of t holds there
pub record JumpsOn (h : Hints) (pc : ℕ) (i : Instr) (told : Option Fact) (t : ℕ) : Type 0 where
  pub on : HintsHold h pc i told t
  pub comes : IsPlain h pc → IsReached h pc → IsReached h (end h t)

-- F holds of the next instruction's number, where the run goes on there, and J of each target to which it may jump,
-- with what the way to it tells; nothing is said behind a return
abbrev pub LeadsAhead : (ℕ → Type 0) → (Option Fact → ℕ → Type 0) → Instr → ℕ → Type 0
LeadsAhead F J (Jump t) pc = J None t
LeadsAhead F J (Switch a other arms) pc =
    IfSome other (J None) × All (λ (arm : SwitchArm). J (tells a arm.number) arm.target) arms
LeadsAhead F J (Return froms) pc = Unit {0}
LeadsAhead F J i pc = F (pc + 1)

-- the instruction with number `at` copies the word of `slot` to slot `to`, and behind it `slot` is not read before it
-- is set anew
pub record IsCopied (h : Hints) (body : List Instr) (at slot to : ℕ) : Type 0 where
  pub from : ℕ
  pub stands : slice_get body at ≡ Some (Copy to from)
  pub name : ℕ
  pub own : IsDest h slot name
  pub same : IsName h (facts_at h at) at from name
  pub unread : IsUnread h (at + 1) slot
  pub comes : IsReached h (at + 1)

-- j may stand for the load i, instruction pc, and the copy of its word right behind: it is a load into the copy's
-- slot
pub record IsInto (h : Hints) (body : List Instr) (pc : ℕ) (i j : Instr) : Type 0 where
  pub slot : ℕ
  pub base : ℕ
  pub offset : ℕ
  pub width : ℕ
  pub to : ℕ
  pub to' : ℕ
  pub base' : ℕ
  pub is : i ≡ Load slot base offset width
  pub stands : j ≡ Load to' base' offset width
  pub dest : IsDest h to to'
  pub name : IsName h (facts_at h pc) pc base base'
  pub copied : IsCopied h body (end h (pc + 1)) slot to
  pub next : place h (end h (pc + 1) + 1) ≡ place h pc + 1

-- j may stand for the switch i, instruction pc, and for one on the same word to which the other way of i leads: it is
-- a switch with the arms of both, those of i first
pub record IsFolded (h : Hints) (body : List Instr) (pc : ℕ) (i j : Instr) : Type 0 where
  pub slot : ℕ
  pub target : ℕ
  pub arms : List SwitchArm
  pub from : ℕ
  pub other : Option ℕ
  pub more : List SwitchArm
  pub word : ℕ
  pub is : i ≡ Switch slot (Some target) arms
  pub next : slice_get body (end h target) ≡ Some (Switch from other more)
  pub stands : j ≡ Switch word (landing_in h other)
      (map (λ arm. moved_arm h arm) arms ++ map (λ arm. moved_arm h arm) more)
  pub name : IsName h (facts_at h pc) pc slot word
  pub same : IsName h (facts_at h (end h target)) (end h target) from word
  pub arms_come : All (λ (arm : SwitchArm). IsReached h (end h arm.target)) arms
  pub more_come : All (λ (arm : SwitchArm). IsReached h (end h arm.target)) more
  pub other_comes : IfSome other (λ t. IsReached h (end h t))

-- a switch on a slot, with these arms and this other way, if any, finds one of its ways where the facts hold
pub record FindsWay (facts : List Fact) (slot : ℕ) (other : Option ℕ) (arms : List SwitchArm) : Type 0 where
  pub by : (s : List ℕ) (m : Memory) → Hold s m facts → target_of arms other (slice_index s slot) ≡ None → ⊥

-- a run that jumps to instruction t returns at once, and `words` are the new numbers of the slots that it returns
pub record ComesBack (h : Hints) (body : List Instr) (words : List ℕ) (t : ℕ) : Type 0 where
  pub froms : List ℕ
  pub stands : slice_get body (end h t) ≡ Some (Return froms)
  pub names : AreNames h (facts_at h (end h t)) (end h t) froms words

-- j may stand for the switch i, instruction pc, and the returns behind it: all ways of i return the same words at
-- once, and j is the return of these
pub record IsBack (h : Hints) (body : List Instr) (pc : ℕ) (i j : Instr) : Type 0 where
  pub slot : ℕ
  pub other : Option ℕ
  pub arms : List SwitchArm
  pub words : List ℕ
  pub first : ℕ
  pub is : i ≡ Switch slot other arms
  pub stands : j ≡ Return words
  pub whole : FindsWay (facts_at h pc) slot other arms
  pub one : ComesBack h body words first
  pub arms_back : All (λ (arm : SwitchArm). ComesBack h body words arm.target) arms
  pub other_back : IfSome other (ComesBack h body words)

-- the new instruction j stands for the instruction i of a body, and for others behind it
abbrev pub IsMerged : Hints → List Instr → ℕ → Instr → Instr → Type 0
IsMerged h body pc i j = IsInto h body pc i j ⊎ (IsFolded h body pc i j ⊎ IsBack h body pc i j)

-- the new instruction j stands for the instruction i of a body, alone or with others behind it
abbrev pub StandsFor : Hints → List Instr → ℕ → Instr → Instr → Type 0
StandsFor h body pc i j =
    (IsPlain h pc × IsMoved h (facts_at h pc) body pc i j × (place h (pc + 1) ≡ place h pc + 1)) ⊎ IsMerged h body
    pc i j

-- an instruction that stands for instruction pc has its place in the new body
abbrev pub InstrIsKept : Hints → List Instr → List Instr → ℕ → Instr → Type 0
InstrIsKept h body new pc i = (j : Instr) × (slice_get new (place h pc) ≡ Some j) × StandsFor h body pc i j

-- no new instruction stands for instruction pc: it may be left out, or no run comes to it
abbrev pub IsSkipped : Hints → ℕ → Instr → Type 0
IsSkipped h pc i = (IsReached h pc → IsLeftOut h pc i) × IsPlain h pc × (place h (pc + 1) ≡ place h pc)

-- what makes the new body right at instruction pc: one stands for it or need not, a jump to it goes on well, and what
-- the hints say of the places behind it holds
pub record IsStep (h : Hints) (body new : List Instr) (pc : ℕ) (i : Instr) : Type 0 where
  pub stands : InstrIsKept h body new pc i ⊎ IsSkipped h pc i
  pub ends : EndsWell h pc i
  pub known : LeadsAhead (FallsOn h pc i) (JumpsOn h pc i) i pc

-- each function of the first list has one with the same head in the second, at its number; the second may have more
abbrev pub HaveSameHeads : List CodeFun → List CodeFun → Type 0
HaveSameHeads funs funs' =
    (g : ℕ) (f : CodeFun) → slice_get funs g ≡ Some f → (q : CodeFun) × (slice_get funs' g ≡ Some q) × HasSameHead f q

-- the function q does what f does: some hints tell how
pub record IsTrimmed (f q : CodeFun) : Type 0 where
  pub head : HasSameHead f q
  pub valid : (funs funs' : List CodeFun) → HaveSameHeads funs funs' → IsValidFun funs f → IsValidFun funs' q
  pub hints : Hints
  pub apart : NumbersAreApart hints
  pub params : KeepParams hints f.params
  pub begins : (place hints 0 ≡ 0) × (facts_at hints 0 ≡ []) × IsReached hints 0
  pub steps : (pc : ℕ) (i : Instr) → slice_get f.body pc ≡ Some i → IsStep hints f.body q.body pc i
