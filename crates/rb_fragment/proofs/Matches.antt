-- The arms of a match: one more, and all with what chooses one.
use Rattle.std.proofs.Common.{◌≡◌, ◌++◌, ℕ, zero, suc, ◌+◌, ◌<◌, ◌≤◌, ◌⊎◌, inl, inr, Bool, List, [], ◌∷◌, length, Some, refl, sym, subst, ap, ◌∙◌, arith, length-append}
use Rattle.std.proofs.lemmas.Option.{slice_get_within, same_Some}
use Rattle.std.specs.Prelude.{slice_get, slice_index}
use Rattle.rb_core.specs.declared.types.Ty.{Ty}
use Rattle.rb_core.specs.declared.outcome.Outcome.{Outcome}
use Rattle.rb_core.specs.declared.outcome.Event.TheVariants.{Matched}
use Rattle.rb_core.specs.Meaning.{Calls, after}
use Rattle.rb_bytes.specs.Memory.{Memory, IsGood}
use Rattle.rb_target.specs.declared.instr.Instr.{Instr}
use Rattle.rb_target.specs.declared.instr.Instr.TheVariants.{Jump}
use Rattle.rb_target.specs.declared.body.Hole.{Hole}
use Rattle.rb_target.specs.Laws.{Law}
use Rattle.rb_target.specs.Meaning.{World, Next, Callee, taken}
use Rattle.rb_target.specs.Sheet.{Sheet, with_target_at, IsHoleIn}
use Rattle.rb_fragment.proofs.Adding.{Adds-trans}
use Rattle.rb_fragment.proofs.Closing.{closed_is}
use Rattle.rb_fragment.proofs.Holds.{AllBelow-more}
use Rattle.rb_fragment.proofs.Laying.{does_later, does_map}
use Rattle.rb_fragment.proofs.Patching.{AreClosable, adds_closed, all_holes_closed, all_holes_grow, all_holes_of, all_joins_holes, at_closed, closed_hole, closed_length, closed_slots, from_at, hole_from, hole_within, join_at, join_closed, join_from, jump_hole, retarget_all, retarget_none}
use Rattle.rb_fragment.proofs.Pieces.{does_event, jumps, reached_does}
use Rattle.rb_fragment.specs.Adding.{Adds}
use Rattle.rb_fragment.specs.Arms.{AreHoles, AreJoins, AreOfOneWay, ArePatchable, CodeArm, ArmIn, ArmsAre, ArmsIn, HasHole, IsJoin, with_targets, whole_match}
use Rattle.rb_fragment.specs.Fragments.{Comes, Fragment}
use Rattle.rb_fragment.specs.Owing.{Does, CallsAgree}
use Rattle.rb_fragment.specs.Pieces.{Branches, ReachesExit}
use Rattle.rb_fragment.specs.Plan.{Plan}
use Rattle.rb_fragment.specs.Slots.{AllBelow, AllFrom}
use Rattle.rb_target.proofs.Growing.{Grows-refl, Grows-trans, Keeps-trans, below_or}
use Rattle.rb_target.specs.Growth.{AgreesBut, Grows, Nowhere}
use Rattle.rb_target.specs.Targets.{IsHoleAmong, target_in}

-- The arms

has-left : (pc : ℕ) (js ks : List Hole) → HasHole pc js → HasHole pc (js ++ ks)
has-left pc [] ks h = absurd h
has-left pc (j ∷ js) ks (inl e) = inl e
has-left pc (j ∷ js) ks (inr h) = inr (has-left pc js ks h)

has-last : (js : List Hole) (j : Hole) → HasHole j.pc (js ++ j ∷ [])
has-last [] j = inl refl
has-last (k ∷ js) j = inr (has-last js j)

has-split : (pc : ℕ) (js : List Hole) (j : Hole) → HasHole pc (js ++ j ∷ []) → HasHole pc js ⊎ (pc ≡ j.pc)
has-split pc [] j (inl e) = inr e
has-split pc [] j (inr h) = absurd h
has-split pc (k ∷ js) j (inl e) = inl (inl e)
has-split pc (k ∷ js) j (inr h) = elim (has-split pc js j h) [ inl a ↦ inl (inr a) | inr e ↦ inr e ]

index-append : (xs : List ℕ) (y k : ℕ) → k < length xs → slice_index (xs ++ y ∷ []) k ≡ slice_index xs k
index-append [] y k lt = absurd (omega (arith, lt))
index-append (x ∷ xs) y zero lt = refl
index-append (x ∷ xs) y (suc k) lt = index-append xs y k (omega (arith, lt))

index-last : (xs : List ℕ) (y : ℕ) → slice_index (xs ++ y ∷ []) (length xs) ≡ y
index-last [] y = refl
index-last (x ∷ xs) y = index-last xs y

AllFrom-append : (n : ℕ) (xs : List ℕ) (y : ℕ) → AllFrom n xs → n ≤ y → AllFrom n (xs ++ y ∷ [])
AllFrom-append n [] y all le = (le, tt)
AllFrom-append n (x ∷ xs) y all le = (all.0, AllFrom-append n xs y all.1 le)

AllBelow-append : (n : ℕ) (xs : List ℕ) (y : ℕ) → AllBelow n xs → y < n → AllBelow n (xs ++ y ∷ [])
AllBelow-append n [] y all lt = (lt, tt)
AllBelow-append n (x ∷ xs) y all lt = (all.0, AllBelow-append n xs y all.1 lt)

joins-more : (from : ℕ) (q d : Sheet) (js : List Hole) → Grows q.code d.code → AreJoins from q.code js → AreJoins from d.code js
joins-more from q d [] g j = tt
joins-more from q d (h ∷ js) g j =
    let lt = slice_get_within q.code h.pc (Jump j.0.2.0) j.0.2.1 in
    ((j.0.0, j.0.1, (j.0.2.0, g.same h.pc lt ∙ j.0.2.1, j.0.2.2)), joins-more from q d js g j.1)

joins-append : (from : ℕ) (d : Sheet) (js : List Hole) (j : Hole) → AreJoins from d.code js → IsJoin from d.code j → AreJoins from d.code (js ++ j ∷ [])
joins-append from d [] j all one = (one, tt)
joins-append from d (h ∷ js) j all one = (all.0, joins-append from d js j all.1 one)

pub are_none : (e : Sheet) → ArmsAre 0 e e [] []
are_none e = record { grows = Grows-refl e.code; joins_are = tt; starts_from = tt; starts_below = tt; count_is = refl }

pub are_next : (i : ℕ) (e q d : Sheet) (joins : List Hole) (starts : List ℕ) (j : Hole) → ArmsAre i e q joins starts → Grows q.code d.code → IsJoin (length q.code) d.code j
    → ArmsAre (i + 1) e d (joins ++ j ∷ []) (starts ++ length q.code ∷ [])
are_next i e q d joins starts j a g one = record {
  grows = Grows-trans e.code q.code d.code a.grows g;
  joins_are = joins-append (length e.code) d joins j (joins-more (length e.code) q d joins g a.joins_are) (omega (arith, a.grows.longer, one.0), one.1, one.2);
  starts_from = AllFrom-append (length e.code) starts (length q.code) a.starts_from a.grows.longer;
  starts_below = AllBelow-append (length d.code + 1) starts (length q.code) (AllBelow-more (length q.code + 1) (length d.code + 1) starts (omega (arith, g.longer)) a.starts_below) (omega (arith, g.longer));
  count_is = length-append starts (length q.code ∷ []) ∙ ap (λ n. n + 1) a.count_is;
}

-- one more arm behind those that stand
module _ (i : ℕ) (e q d : Sheet) (joins : List Hole) (starts : List ℕ) (j : Hole) (DoesArm : ℕ → Sheet → Sheet → ℕ → Type 0) (are : ArmsAre i e q joins starts) (stand : ArmsIn i e q joins starts DoesArm)
    (grows : Grows q.code d.code) (more : q.slots ≤ d.slots) (one : IsJoin (length q.code) d.code j) (does : DoesArm i q d j.pc) where
  abbrev joins1 : List Hole
  joins1 = joins ++ j ∷ []

  abbrev starts1 : List ℕ
  starts1 = starts ++ length q.code ∷ []

  new : ArmIn e d joins1 (slice_index starts1 i) (DoesArm i)
  new = record {
    first = q;
    last = d;
    join = j.pc;
    begins = ap (λ k. slice_index starts1 k) (sym are.count_is) ∙ index-last starts (length q.code);
    behind = are.grows.longer;
    longer = Grows-refl d.code;
    more = omega arith;
    jumps = has-last joins j;
    alone = λ pc h lo hi. elim (has-split pc joins j h) [
      | inl old ↦ (let in_q = join_from pc (length e.code) q.code joins are.joins_are old in absurd (omega (arith, lo, in_q.1)))
      | inr is ↦ is
    ];
    does = does;
  }

  old : (k : ℕ) → k < i → ArmIn e d joins1 (slice_index starts1 k) (DoesArm k)
  old k lt =
      let o = stand k lt in
      let few : k < length starts = omega (arith, lt, are.count_is) in
      record {
        first = o.first;
        last = o.last;
        join = o.join;
        begins = index-append starts (length q.code) k few ∙ o.begins;
        behind = o.behind;
        longer = Grows-trans o.last.code q.code d.code o.longer grows;
        more = omega (arith, o.more, more);
        jumps = has-left o.join joins (j ∷ []) o.jumps;
        alone = λ pc h lo hi. elim (has-split pc joins j h) [
          | inl h1 ↦ o.alone pc h1 lo hi
          | inr is ↦ absurd (omega (arith, is, hi, o.longer.longer, one.0))
        ];
        does = o.does;
      }

  pub arms_more : ArmsIn (i + 1) e d joins1 starts1 DoesArm
  arms_more k lt = elim (below_or k i) [
    | inl less ↦ old k less
    | inr le ↦ (let same : i ≡ k = omega (arith, lt, le) in subst (λ m. ArmIn e d joins1 (slice_index starts1 m) (DoesArm m)) same new)
  ]

-- no arm yet
pub arms_none : (e : Sheet) (DoesArm : ℕ → Sheet → Sheet → ℕ → Type 0) → ArmsIn 0 e e [] [] DoesArm
arms_none e DoesArm k lt = absurd (omega (arith, lt))

-- Holes and joins may be closed

low_at : (n : ℕ) (xs : List ℕ) (k : ℕ) → AllBelow n xs → k < length xs → slice_index xs k < n
low_at n [] k all lt = absurd (omega (arith, lt))
low_at n (x ∷ xs) zero all lt = all.0
low_at n (x ∷ xs) (suc k) all lt = low_at n xs k all.1 (omega (arith, lt))

pub holes_closable : (from : ℕ) (e q : Sheet) (hs : List Hole) (ts : List ℕ) → AreHoles from (length ts) e.code hs → AllFrom (length e.code) ts → AllBelow (length q.code + 1) ts → AreClosable from (length q.code) hs ts
holes_closable from e q [] ts a starts low = tt
holes_closable from e q (h ∷ hs) ts a starts low =
    let lt = hole_within e.code h a.2 in
    let le = from_at (length e.code) ts h.leaf starts a.1 in
    let hi = low_at (length q.code + 1) ts h.leaf low a.1 in
    (a.0, omega (arith, lt, le), omega (arith, hi), holes_closable from e q hs ts a.3 starts low)

pub joins_closable : (from low : ℕ) (q : Sheet) (js : List Hole) → low ≤ from → AreJoins from q.code js → AreClosable low (length q.code) js (length q.code ∷ [])
joins_closable from low q [] le j = tt
joins_closable from low q (h ∷ js) le j =
    let lt = slice_get_within q.code h.pc (Jump j.0.2.0) j.0.2.1 in
    let to : slice_index (length q.code ∷ []) h.leaf ≡ length q.code = ap (λ k. slice_index (length q.code ∷ []) k) j.0.1 in
    (omega (arith, le, j.0.0), omega (arith, to, lt), omega (arith, to), joins_closable from low q js le j.1)

pub holes_patchable : (from : ℕ) (e q : Sheet) (hs : List Hole) (ts : List ℕ) → Grows e.code q.code → AreHoles from (length ts) e.code hs → AllFrom (length e.code) ts → ArePatchable q.code hs ts
holes_patchable from e q [] ts g a starts = tt
holes_patchable from e q (h ∷ hs) ts g a starts =
    let lt = hole_within e.code h a.2 in
    let le = from_at (length e.code) ts h.leaf starts a.1 in
    (subst (λ o. IsHoleIn o h.arm) (sym (g.same h.pc lt)) a.2, a.1, omega (arith, lt, le), holes_patchable from e q hs ts g a.3 starts)

pub joins_patchable : (from : ℕ) (q : Sheet) (hs : List Hole) (starts : List ℕ) (js : List Hole) → AreJoins from q.code js → ArePatchable (with_targets q hs starts).code js (length q.code ∷ [])
joins_patchable from q hs starts [] j = tt
joins_patchable from q hs starts (h ∷ js) j =
    let lt = slice_get_within q.code h.pc (Jump j.0.2.0) j.0.2.1 in
    let to : slice_index (length q.code ∷ []) h.leaf ≡ length q.code = ap (λ k. slice_index (length q.code ∷ []) k) j.0.1 in
    (closed_hole q hs starts h (jump_hole q.code h j.0.2), omega (arith, j.0.1), omega (arith, to, lt), joins_patchable from q hs starts js j.1)

pub patch_step : (b b1 : Sheet) (h : Hole) (t : ℕ) (hs : List Hole) (ts : List ℕ) → b1 ≡ with_target_at b h t → t ≡ slice_index ts h.leaf → with_targets b (h ∷ hs) ts ≡ with_targets b1 hs ts
patch_step b b1 h t hs ts e at = ap (λ k. with_targets (with_target_at b h k) hs ts) (sym at) ∙ ap (λ (k : Sheet). with_targets k hs ts) (sym e)

-- The whole: what chooses a way leads to its arm, and each arm to behind all.
module _ (plan : Plan) (n most count : ℕ) (b e q : Sheet) (holes joins : List Hole) (starts : List ℕ) (Pre Mid : ℕ → List ℕ → Memory → Type 0)
    (choice : Branches plan n b e holes most Pre Mid) (holes_are : AreHoles (length b.code) count e.code holes) (ways : AreOfOneWay holes) (adds : Adds plan e q) (are : ArmsAre count e q joins starts) where
  abbrev ends : List ℕ
  ends = length q.code ∷ []

  abbrev inner : Sheet
  inner = with_targets q holes starts

  abbrev whole : Sheet
  whole = whole_match q holes starts joins

  len : length whole.code ≡ length q.code
  len = closed_length inner joins ends ∙ closed_length q holes starts

  pub match_slots : whole.slots ≡ q.slots
  match_slots = closed_slots inner joins ends ∙ closed_slots q holes starts

  pub match_adds : Adds plan b whole
  match_adds =
      let holes1 = subst (λ m. AreHoles (length b.code) m e.code holes) (sym are.count_is) holes_are in
      let first = adds_closed plan b q holes starts (length q.code) refl (Adds-trans plan b e q choice.adds adds) (all_holes_grow e.code q.code holes are.grows (all_holes_of (length b.code) count e.code holes holes_are))
      (holes_closable (length b.code) e q holes starts holes1 are.starts_from are.starts_below) in
      adds_closed plan b inner joins ends (length q.code) (sym (closed_length q holes starts)) first (all_holes_closed q holes joins starts (all_joins_holes (length e.code) q.code joins are.joins_are))
      (joins_closable (length e.code) (length b.code) q joins choice.adds.grows.longer are.joins_are)

  module _ (final : List Instr) (callee : Callee) (next : Next) (law : Law final callee next) (agrees : AgreesBut final whole.code (length b.code) (length whole.code) Nowhere) where
    stands : (pc : ℕ) → length b.code ≤ pc → pc < length q.code → slice_get final pc ≡ retarget_all pc joins ends (retarget_all pc holes starts (slice_get q.code pc))
    stands pc lo hi = agrees.same pc lo (omega (arith, hi, len)) (λ x. x) ∙ at_closed inner joins ends pc ∙ ap (retarget_all pc joins ends) (at_closed q holes starts pc)

    of_choice : AgreesBut final (with_targets e holes starts).code (length b.code) (length e.code) Nowhere
    of_choice = record {
      same = λ pc lo hi out.
          stands pc lo (omega (arith, hi, adds.grows.longer))
          ∙ retarget_none pc joins ends _ (λ h. let k = join_from pc (length e.code) q.code joins are.joins_are h in omega (arith, k.0, hi))
          ∙ ap (retarget_all pc holes starts) (adds.grows.same pc hi) ∙ sym (at_closed e holes starts pc);
    }

    of_arm : (st : ℕ) (P : Sheet → Sheet → ℕ → Type 0) (x : ArmIn e q joins st P) → AgreesBut final x.last.code (length x.first.code) (length x.last.code) (λ pc. pc ≡ x.join)
    of_arm st P x = record {
      same = λ pc lo hi out.
          stands pc (omega (arith, lo, x.behind, choice.adds.grows.longer)) (omega (arith, hi, x.longer.longer))
          ∙ retarget_none pc joins ends _ (λ h. out (x.alone pc h lo hi))
          ∙ retarget_none pc holes starts _ (λ h. let k = hole_from pc (length b.code) count e.code holes holes_are h in omega (arith, k.1, lo, x.behind))
          ∙ x.longer.same pc hi;
    }

    join_is : (j : ℕ) → HasHole j joins → slice_get final j ≡ Some (Jump (length q.code))
    join_is j has =
        let k = join_from j (length e.code) q.code joins are.joins_are has in
        let x = join_at j (length e.code) q.code joins are.joins_are has in
        stands j (omega (arith, k.0, choice.adds.grows.longer)) k.1
        ∙ ap (retarget_all j joins ends) (retarget_none j holes starts _ (λ h. let m = hole_from j (length b.code) count e.code holes holes_are h in omega (arith, m.1, k.0)) ∙ x.1)
        ∙ join_closed j (length e.code) q.code ends joins are.joins_are x.0 has

    -- the way that is taken leads to its arm's start
    pub match_chooses : (s : List ℕ) (w : World) (k : ℕ) → whole.slots ≤ length s → IsGood w.memory → Pre k s w.memory
        → ReachesExit next (length b.code) n most (λ pc s' m. (pc ≡ slice_index starts k) × Mid k s' m) s w
    match_chooses s w k room good pre =
        let all = closed_is final holes starts e (length b.code) (length e.code) of_choice (all_holes_of (length b.code) count e.code holes holes_are) ways in
        let r = choice.leaves final callee next law all.finishes s w k (omega (arith, room, match_slots, adds.more)) good pre in
        let in_code = one_hole r.hole holes r.is_hole holes_are in
        let to = all.leads r.hole r.is_hole in_code.0 in_code.1 in
        let same : r.target ≡ slice_index starts k = same_Some r.target (slice_index starts k) (◌∙◌ {b = target_in (slice_get final r.hole.pc) r.hole.arm} (sym r.is_target) to ∙ ap (λ i. Some (slice_index starts i)) r.is_way) in
        (r.target, r.slots, r.world, r.runs, r.keeps, r.later, (same, r.exit))
      where
        one_hole : (h : Hole) (hs : List Hole) → IsHoleAmong h hs → AreHoles (length b.code) count e.code hs → (length b.code ≤ h.pc) × (h.pc < length e.code)
        one_hole h [] (k, at) a = cc at
        one_hole h (x ∷ hs) (zero, at) a =
            let is : x ≡ h = same_Some x h at in
            let lt = hole_within e.code x a.2 in
            subst (λ (y : Hole). (length b.code ≤ y.pc) × (y.pc < length e.code)) is (a.0, lt)
        one_hole h (x ∷ hs) (suc k, at) a = one_hole h hs (k, at) a.3

  -- from the end of b the run does what the way that is taken does, and comes to behind all
  module _ (clean : Bool) (calls : Calls) (o : ℕ → ℕ → Outcome) (t : Ty) (into : List ℕ) (extra : ℕ → ℕ) (stand : ArmsIn count e q joins starts (λ k a d join. CodeArm plan clean calls n a d join (extra k) (Mid k) (o k) t into)) where
    pub match_does : (final : List Instr) (callee : Callee) (next : Next) → Law final callee next → CallsAgree plan calls callee → AgreesBut final whole.code (length b.code) (length whole.code) Nowhere
        → (s : List ℕ) (w : World) (k : ℕ) → k < count → whole.slots ≤ length s → IsGood w.memory → Pre k s w.memory
        → Does plan (w.switches + (most + extra k)) (next (length b.code) s w) w.memory (o k w.left) (Comes plan clean (next (length b.code) s w) next (length whole.code) n t into s)
    match_does final callee next law rel agrees s w k lt room good pre =
        let x = stand k lt in
        let r = match_chooses final callee next law agrees s w k room good pre in
        let to : r.0 ≡ length x.first.code = r.6.0 ∙ x.begins in
        let out1 = next (length x.first.code) r.1 r.2 in
        let long_d : x.last.slots ≤ length r.1 = omega (arith, r.4.long, room, match_slots, x.more) in
        let good1 : IsGood r.2.memory = subst (λ m. IsGood m) (sym r.5.memory) good in
        let mid1 : Mid k r.1 r.2.memory = subst (λ m. Mid k r.1 m) (sym r.5.memory) r.6.1 in
        let ok = o k r.2.left in
        let Ok1 = Comes plan clean out1 next x.join n t into r.1 in
        let Ok2 = Comes plan clean out1 next (length q.code) n t into r.1 in
        let d1 : Does plan (r.2.switches + extra k) out1 r.2.memory ok Ok1 =
        x.does.runs final callee next law rel (of_arm final callee next law agrees (slice_index starts k) (λ a d join. CodeArm plan clean calls n a d join (extra k) (Mid k) (o k) t into) x) r.1 r.2 long_d good1 mid1 in
        let d2 : Does plan (r.2.switches + extra k) out1 r.2.memory ok Ok2 = does_later plan (r.2.switches + extra k) out1 Ok2 Ok1 r.2.memory ok
        (λ u w' y. (taken w', refl, refl, omega arith, (y.0, y.1 ∙ jumps final callee next law x.join (length q.code) y.0 w' (join_is final callee next law agrees x.join x.jumps), y.2, y.3))) d1 in
        let d3 : Does plan (r.2.switches + extra k) (next r.0 r.1 r.2) r.2.memory ok Ok2 = subst (λ pc. Does plan (r.2.switches + extra k) (next pc r.1 r.2) r.2.memory ok Ok2) (sym to) d2 in
        let Ok = Comes plan clean (next (length b.code) s w) next (length whole.code) n t into s in
        let d4 = reached_does plan next (length b.code) n most (extra k) (λ pc s' m. (pc ≡ slice_index starts k) × Mid k s' m) s w ok Ok Ok2 r
        (λ u w' y. (y.0, r.3 ∙ ap (λ pc. next pc r.1 r.2) to ∙ y.1 ∙ ap (λ pc. next pc y.0 w') (sym len), Keeps-trans n n s r.1 y.0 (omega arith) r.4 y.2, y.3)) d3 in
        subst (λ l. Does plan (w.switches + (most + extra k)) (next (length b.code) s w) w.memory (o k l) Ok) r.5.left d4

    -- a whole match: its event pays for the switches that choose, and for those of the chosen arm
    pub match_fragment : (f at : ℕ) → ((k : ℕ) → k < count → most + extra k ≤ plan.bound f at) → n ≡ b.slots → (From : List ℕ → Memory → Type 0) (meaning : ℕ → Outcome)
        → ((s : List ℕ) (m : Memory) → IsGood m → From s m → (k : ℕ) × (k < count) × Pre k s m × ((left : ℕ) → meaning left ≡ o k left))
        → Fragment plan clean calls b whole From (λ left. after (Matched f at ∷ []) (meaning left)) t into
    match_fragment f at few same From meaning choose = record {
      runs = λ final callee next law rel agrees s w long good from.
          let c = choose s w.memory good from in
          let out = next (length b.code) s w in
          let Ok = Comes plan clean out next (length whole.code) b.slots t into s in
          let Ok1 = Comes plan clean out next (length whole.code) n t into s in
          let d = match_does final callee next law rel agrees s w c.0 c.1 long good c.2 in
          let paid = few c.0 c.1 in
          let most1 : w.switches + (most + extra c.0) ≤ w.switches + plan.bound f at = omega (arith, paid) in
          let d1 = does_map plan (w.switches + plan.bound f at) (w.switches + (most + extra c.0)) out out Ok Ok1 w.memory (o c.0 w.left) most1 refl (λ v w' y. (y.0, y.1, record { long = y.2.long; same = λ x lt. y.2.same x (omega (arith, lt, same)) }, y.3)) d in
          does_event plan w.switches out w.memory (Matched f at) (meaning w.left) Ok refl
          (subst (λ r. Does plan (w.switches + plan.bound f at) out w.memory r Ok) (sym (c.3 w.left)) d1);
    }
