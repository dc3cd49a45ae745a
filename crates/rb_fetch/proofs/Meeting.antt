-- The arms of a construction, one a way to a leaf, and where they meet.
use Rattle.std.proofs.Common.{◌≡◌, ℕ, zero, suc, ◌+◌, ◌<◌, ◌≤◌, Bool, true, map, List, [], ◌∷◌, ◌++◌, length, Option, Some, None, refl, sym, subst, ap, ◌∙◌, arith, length-append, append_assoc}
use Rattle.std.specs.Prelude.{slice_get, slice_index}
use Rattle.std.proofs.lemmas.List.{append-nil}
use Rattle.std.proofs.lemmas.Option.{same_Some, slice_get_within}
use Rattle.rb_core.specs.declared.value.Value.{Value, Con}
use Rattle.rb_core.specs.declared.types.Ty.{Ty}
use Rattle.rb_core.specs.declared.types.Ty.TheVariants.{Named}
use Rattle.rb_core.specs.declared.types.ConRef.{ConRef}
use Rattle.rb_core.specs.declared.pattern.Pat.{Pat}
use Rattle.rb_core.specs.declared.outcome.SourceEnd.TheVariants.{Done}
use Rattle.rb_core.specs.TypedPrograms.{IsTyped}
use Rattle.rb_core.specs.Values.{all_of_types, are_of, fields_of, is_of_type}
use Rattle.rb_core.proofs.ValueLaws.{is_of_type-Con}
use Rattle.rb_bytes.specs.Memory.{Memory, IsGood}
use Rattle.rb_bytes.specs.Growth.{Grown}
use Rattle.rb_target.specs.declared.instr.Instr.{Instr}
use Rattle.rb_target.specs.declared.instr.Instr.TheVariants.{Jump}
use Rattle.rb_target.specs.declared.body.Hole.{Hole}
use Rattle.rb_target.specs.Growth.{AgreesBut, Grows, Nowhere}
use Rattle.rb_target.specs.Laws.{Law}
use Rattle.rb_target.specs.Meaning.{World, CallEnd as Run, Next, Callee, slots_at, taken}
use Rattle.rb_target.specs.Sheet.{Sheet, with_more}
use Rattle.rb_target.proofs.Growing.{Agrees-part, Grows-append, Keeps-trans, get-seam}
use Rattle.rb_layout.specs.declared.layout.Layout.{Layout}
use Rattle.rb_layout.specs.declared.layout.Leaf.{Leaf}
use Rattle.rb_layout.specs.Agreement.{AreAgreed}
use Rattle.rb_layout.specs.Flattening.{flat_layouts}
use Rattle.rb_layout.specs.Positions.{layout_of, open_positions}
use Rattle.rb_rel.specs.Relation.{Represents}
use Rattle.rb_rel.proofs.Agreeing.{lawful}
use Rattle.rb_rel.proofs.Lists.{and_true}
use Rattle.rb_rel.proofs.Typing.{Represents-typed}
use Rattle.rb_rel.specs.Placing.{Laid, Fits, Over, blocks_of, lay}
use Rattle.rb_fragment.specs.declared.held.Held.{Held}
use Rattle.rb_fragment.specs.Adding.{Adds}
use Rattle.rb_fragment.specs.Arms.{AreHoles, AreOfOneWay, AreShared, ArmIn, ArmsAre, ArmsIn, CanClose, HasHole, IsJoin, with_targets, whole_match}
use Rattle.rb_fragment.specs.Fragments.{Comes}
use Rattle.rb_fragment.specs.Holding.{AreHeld, held_type}
use Rattle.rb_fragment.specs.Owing.{Ends}
use Rattle.rb_fragment.specs.Pieces.{Branches}
use Rattle.rb_fragment.specs.Plan.{Plan, Rep, words_needed}
use Rattle.rb_fragment.specs.Slots.{AllBelow, AllFrom, SlotsAreApart, copies, with_join}
use Rattle.rb_fragment.proofs.Adding.{Adds-refl, Adds-trans}
use Rattle.rb_fragment.proofs.Holds.{AllBelow-more}
use Rattle.rb_fragment.proofs.Matches.{arms_more, match_adds, match_chooses, match_slots}
use Rattle.rb_fragment.proofs.Moves.{CodeStands, copied, copied-kept, copies_run, joining_adds, joining_length, one-below, one-from, slots_at-copied, stands_from}
use Rattle.rb_fragment.proofs.Patching.{at_closed, closed_length, hole_from, join_at, join_closed, join_from, retarget_all, retarget_none}
use Rattle.rb_fragment.proofs.Pieces.{jumps}
use Rattle.rb_compose.specs.declared.subvalue.Subvalue.{Subvalue}
use Rattle.rb_compose.specs.Making.{LeafIsMade, MakesValue, MakesLeaf}
use Rattle.rb_compose.specs.Subvalues.{AreGivenAt, ArePartsHeld}
use Rattle.rb_rel.specs.Switches.{choose_of}
use Rattle.rb_fetch.specs.declared.choice.Choices.{Choices}
use Rattle.rb_fetch.specs.declared.choice.Way.{Way}
use Rattle.rb_fetch.specs.declared.construct.Met.{Met}
use Rattle.rb_fetch.specs.inner.Choice.{Chooses, IsWay}
use Rattle.rb_fetch.specs.Constructing.{AreAsShown, IsConstructed}
use Rattle.rb_fetch.specs.inner.Constructing.{ArmIsMade, ArmsAreMade, EmitsArm, EmitsArms, IsMet, IsShared, WaysMeet, MakesArm, MakesNumber, Reaches, meeting_slots, with_moves, move_sources, move_targets}

-- What a run owes ----------------------------------------------------------------------------------

-- the same run, with more switches allowed, and a little more code behind it
pub ends_map : (l : Laid) (v : Value) (left most most1 : ℕ) (out out1 : Run) (m : Memory) (Ok Ok1 : Value → World → Type 0) → out ≡ out1 → most1 ≤ most
    → ((w1 : World) → Ok1 v w1 → (w2 : World) × (w2.memory ≡ w1.memory) × (w2.left ≡ w1.left) × (w2.switches ≤ w1.switches) × Ok v w2)
    → Ends most1 out1 m l (Done v left) Ok1 → Ends most out m l (Done v left) Ok
ends_map (Over full) v left most most1 out out1 m Ok Ok1 same le f r = (r.0, same ∙ r.1, (let few = r.2 in omega (arith, few, le)))
ends_map (Fits bs p) v left most most1 out out1 m Ok Ok1 same le f r =
    let x = f r.0 r.4 in
    (x.0, subst (λ m1. Grown m m1 bs p) (sym x.1) r.1, x.2 ∙ r.2, (let few = r.3 in let less = x.3 in omega (arith, few, less, le)), x.4)

-- Where arms meet ----------------------------------------------------------------------------------

moved_is : (c : Sheet) (into : Option (List ℕ)) (slots : List ℕ) → with_moves c into slots ≡ record c { code = c.code ++ copies (move_targets into) (move_sources into slots) }
moved_is c None slots = sym (ap (λ k. let s : Sheet = record c { code = k } in s) (append-nil c.code))
moved_is c (Some xs) slots = refl

pub met_is : (into : Option (List ℕ)) (slots : List ℕ) (c c2 c3 : Sheet) (pc : ℕ) → c2 ≡ with_moves c into slots → pc ≡ length c2.code → c3 ≡ with_more c2 (Jump (pc + 1))
    → IsMet into slots c c3 (record { into = meeting_slots into slots; join = record { pc = pc; arm = None; leaf = 0 } })
met_is into slots c c2 c3 pc e0 at e3 =
    let instrs = copies (move_targets into) (move_sources into slots) in
    let e2 = e0 ∙ moved_is c into slots in
    let len : pc ≡ length c.code + length instrs = at ∙ ap (λ (k : Sheet). length k.code) e2 ∙ length-append c.code instrs in
    let last : Instr = Jump (length c.code + length instrs + 1) in
    record {
      shared = refl;
      code = e3 ∙ ap (λ (k : Sheet). with_more k (Jump (pc + 1))) e2 ∙ ap (λ k. let s : Sheet = record c { code = (c.code ++ instrs) ++ Jump (k + 1) ∷ [] } in s) len
          ∙ ap (λ k. let s : Sheet = record c { code = k } in s) (append_assoc c.code instrs (last ∷ []));
      join = ap (λ k. let x : Hole = record { pc = k; arm = None; leaf = 0 } in x) len;
    }

pub met_join : (into : Option (List ℕ)) (slots : List ℕ) (c d : Sheet) (r : Met) → IsMet into slots c d r → IsJoin (length c.code) d.code r.join × Grows c.code d.code
met_join into slots c d r j =
    let with_moves = copies (move_targets into) (move_sources into slots) in
    let last : Instr = Jump (length c.code + length with_moves + 1) in
    let code : d.code ≡ c.code ++ (with_moves ++ last ∷ []) = ap (λ (k : Sheet). k.code) j.code in
    let pc : r.join.pc ≡ length c.code + length with_moves = ap (λ (h : Hole). h.pc) j.join in
    let leaf : r.join.leaf ≡ 0 = ap (λ (h : Hole). h.leaf) j.join in
    let none : r.join.arm ≡ None = ap (λ (h : Hole). h.arm) j.join in
    let at : slice_get d.code r.join.pc ≡ Some last = ap (λ k. slice_get k r.join.pc) (code ∙ sym (append_assoc c.code with_moves (last ∷ []))) ∙ ap (λ k. slice_get ((c.code ++ with_moves) ++ last ∷ []) k) (pc ∙ sym (length-append c.code with_moves)) ∙ get-seam (c.code ++ with_moves) last [] in
    ((omega (arith, pc), leaf, (length c.code + length with_moves + 1, at, none)), subst (λ k. Grows c.code k) (sym code) (Grows-append c.code (with_moves ++ last ∷ [])))

pub met_starts : (into : Option (List ℕ)) (slots : List ℕ) (a c d : Sheet) (r : Met) → Grows a.code c.code → IsMet into slots c d r → IsJoin (length a.code) d.code r.join
met_starts into slots a c d r g j = let x = (met_join into slots c d r j).0 in let longer = g.longer in (omega (arith, x.0, longer), x.1, x.2)

-- One arm ------------------------------------------------------------------------------------------

module _ (plan : Plan) (t : ℕ) (layout : Layout) (way : Way) (leaf : Leaf) (is_leaf : slice_get layout.leaves way.leaf ≡ Some leaf) (n : ℕ) (a c : Sheet) (slots into ds fs : List ℕ) (low : n ≤ a.slots)
    (made : LeafIsMade plan t way.leaf layout leaf way.fields a c slots) (same : length ds ≡ length fs) (from : AllFrom n ds) (below_ds : AllBelow c.slots ds) (below_fs : AllBelow c.slots fs)
    (moves : (s : List ℕ) → c.slots ≤ length s → slots_at (copied s ds fs) into ≡ slots_at s slots) where
  abbrev d : Sheet
  d = with_join c ds fs

  abbrev join : ℕ
  join = length c.code + length (copies ds fs)

  len : length d.code ≡ length c.code + length (copies ds fs) + 1
  len = joining_length plan c c.slots ds fs (omega arith) below_ds below_fs same (λ x lo hi. absurd (omega (arith, lo, hi)))

  pub arm_adds : Adds plan a d
  arm_adds = Adds-trans plan a c d made.adds (joining_adds plan c c.slots ds fs (omega arith) below_ds below_fs same (λ x lo hi. absurd (omega (arith, lo, hi))))

  pub arm_makes : MakesArm plan t layout way n into a d join
  arm_makes found at clean v is final callee next law agrees s w room good held =
      let code = d.code in
      let l1 = made.adds.grows.longer in
      let more = Grows-append c.code (copies ds fs ++ Jump (length c.code + length (copies ds fs) + 1) ∷ []) in
      let agrees1 = Agrees-part final code c.code (length a.code) (length code) (length a.code) (length c.code) (λ pc. pc ≡ join) Nowhere more (omega arith) (omega (arith, len)) (omega arith) (λ pc lo hi e. absurd (omega (arith, hi, e))) agrees in
      let there : CodeStands final (length c.code) (copies ds fs) = stands_from final (copies ds fs) c.code (Jump (length c.code + length (copies ds fs) + 1) ∷ []) (length c.code) refl
      (λ j lo hi. agrees.same j (omega (arith, lo, l1)) (omega (arith, hi, len)) (λ e. absurd (omega (arith, hi, e)))) in
      let held1 = subst (λ (y : Leaf). ArePartsHeld plan clean s w.memory (open_positions plan.program.types y.prov) way.fields v) (same_Some found leaf (sym at ∙ is_leaf)) held in
      let out = next (length a.code) s w in
      let Ok1 = λ (u : Value) (w' : World). Comes plan clean out next (length c.code) a.slots (Named t) slots s u w' × (blocks_of plan.layouts t v ≡ [] → w'.memory ≡ w.memory) in
      let Ok = λ (u : Value) (w' : World). Comes plan clean out next join n (Named t) into s u w' × (blocks_of plan.layouts t v ≡ [] → w'.memory ≡ w.memory) in
      ends_map (lay w.memory.limit w.memory.next (blocks_of plan.layouts t v)) v w.left w.switches w.switches out out w.memory Ok Ok1 refl (omega arith)
      (λ w1 q.
      let s1 = q.0.0 in
      let ran = copies_run final callee next law ds fs (length c.code) s1 w1 there in
      let w2 = ran.0 in
      let room1 : c.slots ≤ length s1 = (let k = q.0.2.long in omega (arith, k, room)) in (
        w2,
        ran.2.memory,
        ran.2.left,
        (let few = ran.2.switches in omega (arith, few)),
        (
          (
            copied s1 ds fs,
            q.0.1 ∙ ran.1,
            Keeps-trans n n s s1 (copied s1 ds fs) (omega arith) (record { long = q.0.2.long; same = λ x lt. q.0.2.same x (omega (arith, lt, low)) }) (copied-kept n ds s1 fs from),
            subst (λ m. Rep plan m clean (Named t) v (slots_at (copied s1 ds fs) into)) (sym ran.2.memory) (subst (λ us. Rep plan w1.memory clean (Named t) v us) (sym (moves s1 room1)) q.0.3),
          ),
          λ none. ran.2.memory ∙ q.1 none,
        ),
      ))
      (made.does clean v is final callee next law agrees1 s w room good held1)

-- as code does it: the first arm, or a later one
module _ (plan : Plan) (t : ℕ) (layout : Layout) (way : Way) (leaf : Leaf) (is_leaf : slice_get layout.leaves way.leaf ≡ Some leaf) (n : ℕ) (a c d : Sheet) (slots : List ℕ) (r : Met) (low : n ≤ a.slots)
    (made : LeafIsMade plan t way.leaf layout leaf way.fields a c slots) where
  from-low : (k : ℕ) (xs : List ℕ) → k ≤ a.slots → AllFrom a.slots xs → AllFrom k xs
  from-low k [] le all = tt
  from-low k (x ∷ xs) le all = (omega (arith, le, all.0), from-low k xs le all.1)

  pub arm_is_made : (into : Option (List ℕ)) → IsMet into slots c d r → IsShared plan n a.slots t into → ArmIsMade plan t layout way n into a d r
  arm_is_made None j shared =
      let m = arm_makes plan t layout way leaf is_leaf n a c slots slots [] [] low made refl tt tt tt (λ s long. refl) in
      record {
        adds = subst (λ (x : Sheet). Adds plan a x) (sym j.code) (arm_adds plan t layout way leaf is_leaf n a c slots slots [] [] low made refl tt tt tt (λ s long. refl));
        shared = subst (λ xs. AreShared n d.slots (words_needed plan (Named t)) xs) (sym j.shared) (record {
          from = from-low n slots low made.fresh;
          below = subst (λ (x : Sheet). AllBelow x.slots slots) (sym j.code) made.given;
          distinct = made.distinct;
          count = made.count;
        });
        same = λ xs e. absurd cc;
        makes = subst (λ xs. MakesArm plan t layout way n xs a d r.join.pc) (sym j.shared)
            (subst (λ (x : Sheet). MakesArm plan t layout way n slots a x r.join.pc) (sym j.code) (subst (λ k. MakesArm plan t layout way n slots a (with_join c [] []) k) (sym (ap (λ (h : Hole). h.pc) j.join)) m));
      }
  arm_is_made (Some xs) j shared =
      let up = made.adds.more in
      let same : length xs ≡ length slots = shared.count ∙ sym made.count in
      let below = AllBelow-more a.slots c.slots xs up shared.below in
      let apart : SlotsAreApart xs slots = λ x i k. (let hi = one-below a.slots x xs shared.below i in let lo = one-from a.slots x slots made.fresh k in omega (arith, hi, lo)) in
      let moves : (s : List ℕ) → c.slots ≤ length s → slots_at (copied s xs slots) xs ≡ slots_at s slots = λ s long. slots_at-copied s xs slots same (AllBelow-more c.slots (length s) xs long below) shared.distinct apart in
      let m = arm_makes plan t layout way leaf is_leaf n a c slots xs xs slots low made same shared.from below made.given moves in
      record {
        adds = subst (λ (x : Sheet). Adds plan a x) (sym j.code) (arm_adds plan t layout way leaf is_leaf n a c slots xs xs slots low made same shared.from below made.given moves);
        shared = subst (λ ys. AreShared n d.slots (words_needed plan (Named t)) ys) (sym j.shared) (record {
          from = shared.from;
          below = subst (λ (x : Sheet). AllBelow x.slots xs) (sym j.code) below;
          distinct = shared.distinct;
          count = shared.count;
        });
        same = λ ys e. j.shared ∙ same_Some xs ys e;
        makes = subst (λ ys. MakesArm plan t layout way n ys a d r.join.pc) (sym j.shared)
            (subst (λ (x : Sheet). MakesArm plan t layout way n xs a x r.join.pc) (sym j.code) (subst (λ k. MakesArm plan t layout way n xs a (with_join c xs slots) k) (sym (ap (λ (h : Hole). h.pc) j.join)) m));
      }

given-more : (plan : Plan) (n k : ℕ) (leaf : Leaf) (xs : List Subvalue) → n ≤ k → AreGivenAt plan n (open_positions plan.program.types leaf.prov) xs → AreGivenAt plan k (open_positions plan.program.types leaf.prov) xs
given-more plan n k leaf xs le given i o e =
    let g = given i o e in record { held = g.held; is_there = g.is_there; kind = g.kind; below = AllBelow-more n k g.held.slots le g.below; count = g.count }

pub arm_emits : (t : ℕ) (leaves : List Leaf) (way : Way) (into : Option (List ℕ)) (leaf : Leaf) (slots : List ℕ) (a c d : Sheet) (r : Met) → slice_get leaves way.leaf ≡ Some leaf → MakesLeaf leaf way.fields a c slots → IsMet into slots c d r
    → EmitsArm t leaves way into a d r
arm_emits t leaves way into leaf slots a c d r at makes met plan typed agreed layout is_layout are n low is shared =
    let at1 : slice_get layout.leaves way.leaf ≡ Some leaf = ap (λ ls. slice_get ls way.leaf) are ∙ at in
    let given = subst (λ (x : Leaf). AreGivenAt plan n (open_positions plan.program.types x.prov) way.fields) (same_Some is.leaf leaf (sym is.is_leaf ∙ at1)) is.given in
    let made = makes plan typed agreed t way.leaf layout is_layout at1 (given-more plan n a.slots leaf way.fields low given) in
    arm_is_made plan t layout way leaf at1 n a c d slots r low made into met shared

-- Several ------------------------------------------------------------------------------------------

pub arms_none_made : (t : ℕ) (leaves : List Leaf) (ways : List Way) (e : Sheet) → EmitsArms t leaves ways 0 e e None [] []
arms_none_made t leaves ways e plan typed agreed layout is_layout are given = record { adds = Adds-refl plan e; shared = tt; arms = λ k lt. absurd (omega (arith, lt)) }

module _ (t : ℕ) (leaves : List Leaf) (ways : List Way) (i : ℕ) (e q d : Sheet) (into : Option (List ℕ)) (joins : List Hole) (starts : List ℕ) (way : Way) (r : Met) (arms : EmitsArms t leaves ways i e q into joins starts)
    (are : ArmsAre i e q joins starts) (reach : Reaches i into) (arm : EmitsArm t leaves way into q d r) (at : slice_get ways i ≡ Some way) (one : IsJoin (length q.code) d.code r.join) where
  pub arms_next_made : EmitsArms t leaves ways (i + 1) e d (Some r.into) (joins ++ r.join ∷ []) (starts ++ length q.code ∷ [])
  arms_next_made plan typed agreed layout is_layout same given =
      let n = e.slots in
      let before = arms plan typed agreed layout is_layout same given in
      let x = arm plan typed agreed layout is_layout same n before.adds.more (given i way at) before.shared in
      let P = MakesNumber plan t layout ways n r.into in
      let does : P i q d r.join.pc = λ other h. subst (λ (y : Way). MakesArm plan t layout y n r.into q d r.join.pc) (same_Some way other (sym at ∙ h)) x.makes in
      record {
        adds = Adds-trans plan e q d before.adds x.adds;
        shared = x.shared;
        arms = arms_more i e q d joins starts r.join P are (stand plan layout n into i reach x.same before.arms) x.adds.grows x.adds.more one does;
      }
    where
      stand : (plan : Plan) (layout : Layout) (n : ℕ) (into : Option (List ℕ)) (k : ℕ) → Reaches k into → ((xs : List ℕ) → into ≡ Some xs → r.into ≡ xs) → ArmsIn k e q joins starts (MakesNumber plan t layout ways n (move_targets into))
          → ArmsIn k e q joins starts (MakesNumber plan t layout ways n r.into)
      stand plan layout n None zero reach is old = λ k lt. absurd (omega (arith, lt))
      stand plan layout n None (suc k) reach is old = absurd reach
      stand plan layout n (Some xs) k reach is old = subst (λ ys. ArmsIn k e q joins starts (MakesNumber plan t layout ways n ys)) (sym (is xs refl)) old

pub reached_next : (i : ℕ) (xs : List ℕ) → Reaches (i + 1) (Some xs)
reached_next i xs = let z : suc i ≡ i + 1 = omega arith in subst (λ k. Reaches k (Some xs)) z tt

-- The whole ----------------------------------------------------------------------------------------

pub can_meet : (from : ℕ) (choices : Choices) (e q : Sheet) (joins : List Hole) (starts : List ℕ) → AreHoles from (length choices.ways) e.code choices.holes → ArmsAre (length choices.ways) e q joins starts
    → CanClose q choices.holes starts joins
can_meet from choices e q joins starts are arms = record {
  before = from;
  chooser = e;
  holes_are = subst (λ k. AreHoles from k e.code choices.holes) (sym arms.count_is) are;
  arms = subst (λ k. ArmsAre k e q joins starts) (sym arms.count_is) arms;
}

pub ways_meet : (t : ℕ) (leaves : List Leaf) (choices : Choices) (e q new : Sheet) (joins : List Hole) (starts slots : List ℕ) → EmitsArms t leaves choices.ways (length choices.ways) e q (Some slots) joins starts
    → ArmsAre (length choices.ways) e q joins starts → new ≡ whole_match q choices.holes starts joins → WaysMeet t leaves choices e new (record { ty = Named t; slots = slots })
ways_meet t leaves choices e q new joins starts slots emits are code = record { kind = refl; last = q; joins = joins; starts = starts; are = are; emits = emits; code = code }

module _ (n count : ℕ) (b e q : Sheet) (holes joins : List Hole) (starts : List ℕ) (low : length b.code ≤ length e.code) (holes_are : AreHoles (length b.code) count e.code holes)
    (are : ArmsAre count e q joins starts) (final : List Instr) (agrees : AgreesBut final (whole_match q holes starts joins).code (length b.code) (length (whole_match q holes starts joins).code) Nowhere) where
  abbrev ends : List ℕ
  ends = length q.code ∷ []

  abbrev inner : Sheet
  inner = with_targets q holes starts

  pub whole_length : length (whole_match q holes starts joins).code ≡ length q.code
  whole_length = closed_length inner joins ends ∙ closed_length q holes starts

  stands : (pc : ℕ) → length b.code ≤ pc → pc < length q.code → slice_get final pc ≡ retarget_all pc joins ends (retarget_all pc holes starts (slice_get q.code pc))
  stands pc lo hi = agrees.same pc lo (omega (arith, hi, whole_length)) (λ x. x) ∙ at_closed inner joins ends pc ∙ ap (retarget_all pc joins ends) (at_closed q holes starts pc)

  pub of_arm : (st : ℕ) (P : Sheet → Sheet → ℕ → Type 0) (x : ArmIn e q joins st P) → AgreesBut final x.last.code (length x.first.code) (length x.last.code) (λ pc. pc ≡ x.join)
  of_arm st P x = record {
    same = λ pc lo hi out.
        stands pc (omega (arith, lo, x.behind, low)) (omega (arith, hi, x.longer.longer))
        ∙ retarget_none pc joins ends _ (λ h. out (x.alone pc h lo hi))
        ∙ retarget_none pc holes starts _ (λ h. let k = hole_from pc (length b.code) count e.code holes holes_are h in omega (arith, k.1, lo, x.behind))
        ∙ x.longer.same pc hi;
  }

  pub join_is : (j : ℕ) → HasHole j joins → slice_get final j ≡ Some (Jump (length q.code))
  join_is j has =
      let k = join_from j (length e.code) q.code joins are.joins_are has in
      let x = join_at j (length e.code) q.code joins are.joins_are has in
      stands j (omega (arith, k.0, low)) k.1
      ∙ ap (retarget_all j joins ends) (retarget_none j holes starts _ (λ h. let m = hole_from j (length b.code) count e.code holes holes_are h in omega (arith, m.1, k.0)) ∙ x.1)
      ∙ join_closed j (length e.code) q.code ends joins are.joins_are x.0 has

-- values that are held are of their types, and so is what is made of them
all_typed : (plan : Plan) → IsTyped plan.program → AreAgreed plan.program plan.layouts → (clean : Bool) (s : List ℕ) (m : Memory) (hs : List Held) (vs : List Value) → AreHeld plan clean s m hs vs
    → all_of_types (map (is_of_type plan.program.types) vs) (map held_type hs) ≡ true
all_typed plan typed agreed clean s m [] [] held = refl
all_typed plan typed agreed clean s m [] (v ∷ vs) held = absurd held
all_typed plan typed agreed clean s m (h ∷ hs) [] held = absurd held
all_typed plan typed agreed clean s m (h ∷ hs) (v ∷ vs) held =
    let rep = subst (λ ls. Represents plan.program.types ls m clean h.ty v (slots_at s h.slots)) agreed.0 held.0 in
    and_true (is_of_type plan.program.types v h.ty) (all_of_types (map (is_of_type plan.program.types) vs) (map held_type hs))
    (Represents-typed plan.program.types (flat_layouts plan.program) m clean (lawful plan.program agreed.1 typed).provenances rep) (all_typed plan typed agreed clean s m hs vs held.1)

held_typed : (plan : Plan) → IsTyped plan.program → AreAgreed plan.program plan.layouts → (con : ConRef) (hs : List Held) (fields : List Ty) → fields_of plan.program.types con ≡ Some fields → map held_type hs ≡ fields
    → (clean : Bool) (vs : List Value) (s : List ℕ) (m : Memory) → AreHeld plan clean s m hs vs → is_of_type plan.program.types (Con con.con vs) (Named con.ty) ≡ true
held_typed plan typed agreed con hs fields is kinds clean vs s m held =
    is_of_type-Con plan.program.types con.con vs (Named con.ty) ∙ ap (are_of (map (is_of_type plan.program.types) vs)) is
    ∙ ap (all_of_types (map (is_of_type plan.program.types) vs)) (sym kinds) ∙ all_typed plan typed agreed clean s m hs vs held

module _ (plan : Plan) (layout : Layout) (con : ConRef) (hs : List Held) (b e q : Sheet) (choices : Choices) (into : List ℕ) (joins : List Hole) (starts : List ℕ)
    (shown : List Pat) (chooses : Chooses plan layout con hs shown b e choices) (holes_are : AreHoles (length b.code) (length choices.ways) e.code choices.holes) (ways : AreOfOneWay choices.holes)
    (are : ArmsAre (length choices.ways) e q joins starts) (arms : ArmsAreMade plan con.ty layout choices.ways (length choices.ways) e q (Some into) joins starts)
    (typed_by : (clean : Bool) (vs : List Value) (s : List ℕ) (m : Memory) → AreHeld plan clean s m hs vs → is_of_type plan.program.types (Con con.con vs) (Named con.ty) ≡ true) where
  abbrev whole : Sheet
  whole = whole_match q choices.holes starts joins

  abbrev count : ℕ
  count = length choices.ways

  abbrev most : ℕ
  most = choose_of plan.layouts con.ty con.con

  abbrev Never : ℕ → List ℕ → Memory → Type 0
  Never k s m = ⊥

  -- what chooses, where nothing comes
  none : Branches plan b.slots b e choices.holes 0 Never Never
  none = record { adds = chooses.adds; low = omega arith; leaves = λ final callee next law finishes s w k long good pre. absurd pre }

  whole_slots : whole.slots ≡ q.slots
  whole_slots = match_slots plan b.slots 0 count b e q choices.holes joins starts Never Never none holes_are ways arms.adds are

  all-from : (k n : ℕ) (xs : List ℕ) → k ≤ n → AllFrom n xs → AllFrom k xs
  all-from k n [] le all = tt
  all-from k n (x ∷ xs) le all = (omega (arith, le, all.0), all-from k n xs le all.1)

  does : (clean : Bool) (vs : List Value) → AreAsShown shown vs → (final : List Instr) (callee : Callee) (next : Next) → Law final callee next → AgreesBut final whole.code (length b.code) (length whole.code) Nowhere
      → (s : List ℕ) (w : World) → whole.slots ≤ length s → IsGood w.memory → AreHeld plan clean s w.memory hs vs
      → MakesValue plan clean (w.switches + most) next (length b.code) (length whole.code) b.slots con.ty into (Con con.con vs) s w
  does clean vs as_shown final callee next law agrees s w room good held =
      let v = Con con.con vs in
      let takes = chooses.takes vs as_shown (typed_by clean vs s w.memory held) in
      let k = takes.number in
      let is = chooses.ways k takes.way takes.is_way in
      let opens = open_positions plan.program.types is.leaf.prov in
      let Pre = λ (i : ℕ) (s1 : List ℕ) (m : Memory). (i ≡ k) × AreHeld plan clean s1 m hs vs in
      let Mid = λ (i : ℕ) (s1 : List ℕ) (m : Memory). ArePartsHeld plan clean s1 m opens takes.way.fields v in
      let choice = takes.leaves clean is.leaf is.is_leaf in
      let r = match_chooses plan b.slots most count b e q choices.holes joins starts Pre Mid choice holes_are ways arms.adds are final callee next law agrees s w k room good (refl, held) in
      let lt : k < count = slice_get_within choices.ways k takes.way takes.is_way in
      let x = arms.arms k lt in
      let P = MakesNumber plan con.ty layout choices.ways e.slots into in
      let to : r.0 ≡ length x.first.code = r.6.0 ∙ x.begins in
      let start = length x.first.code in
      let out1 = next start r.1 r.2 in
      let out = next (length b.code) s w in
      let long : x.last.slots ≤ length r.1 = (let l = r.4.long in let up = x.more in omega (arith, l, room, whole_slots, up)) in
      let good1 : IsGood r.2.memory = subst (λ m. IsGood m) (sym r.5.memory) good in
      let mid1 : Mid k r.1 r.2.memory = subst (λ m. Mid k r.1 m) (sym r.5.memory) r.6.1 in
      let low = chooses.adds.grows.longer in
      let inside = of_arm b.slots count b e q choices.holes joins starts low holes_are are final agrees (slice_index starts k) (P k) x in
      let bs = blocks_of plan.layouts con.ty v in
      let Ok1 = λ (u : Value) (w' : World). Comes plan clean out1 next x.join e.slots (Named con.ty) into r.1 u w' × (bs ≡ [] → w'.memory ≡ r.2.memory) in
      let Ok = λ (u : Value) (w' : World). Comes plan clean out next (length whole.code) b.slots (Named con.ty) into s u w' × (bs ≡ [] → w'.memory ≡ w.memory) in
      let d1 : Ends r.2.switches out1 r.2.memory (lay r.2.memory.limit r.2.memory.next bs) (Done v r.2.left) Ok1 =
      x.does takes.way takes.is_way is.leaf is.is_leaf clean v takes.is_leaf final callee next law inside r.1 r.2 long good1 mid1 in
      let d2 : Ends r.2.switches out1 w.memory (lay w.memory.limit w.memory.next bs) (Done v w.left) Ok1 =
      subst (λ l. Ends r.2.switches out1 w.memory (lay w.memory.limit w.memory.next bs) (Done v l) Ok1) r.5.left
      (subst (λ m. Ends r.2.switches out1 m (lay m.limit m.next bs) (Done v r.2.left) Ok1) r.5.memory d1) in
      let same : out ≡ out1 = r.3 ∙ ap (λ pc. next pc r.1 r.2) to in
      let low_slots = chooses.adds.more in
      ends_map (lay w.memory.limit w.memory.next bs) v w.left (w.switches + most) r.2.switches out out1 w.memory Ok Ok1 same r.5.switches
      (λ w1 z. (
        taken w1,
        refl,
        refl,
        omega arith,
        (
          (
            z.0.0,
            same ∙ z.0.1 ∙ jumps final callee next law x.join (length q.code) z.0.0 w1 (join_is b.slots count b e q choices.holes joins starts low holes_are are final agrees x.join x.jumps)
                ∙ ap (λ pc. next pc z.0.0 (taken w1)) (sym (whole_length b.slots count b e q choices.holes joins starts low holes_are are final agrees)),
            Keeps-trans b.slots b.slots s r.1 z.0.0 (omega arith) r.4 (record { long = z.0.2.long; same = λ y lo. z.0.2.same y (omega (arith, lo, low_slots)) }),
            z.0.3,
          ),
          λ none1. z.1 none1 ∙ r.5.memory,
        ),
      )) d2

  pub ways_construct : IsConstructed plan con hs shown b whole (record { ty = Named con.ty; slots = into })
  ways_construct = record {
    kind = refl;
    adds = match_adds plan b.slots 0 count b e q choices.holes joins starts Never Never none holes_are ways arms.adds are;
    given = subst (λ k. AllBelow k into) (sym whole_slots) arms.shared.below;
    count = arms.shared.count;
    fresh = all-from b.slots e.slots into chooses.adds.more arms.shared.from;
    does = does;
  }

-- of any arguments
pub ways_constructs : (plan : Plan) → IsTyped plan.program → AreAgreed plan.program plan.layouts → (layout : Layout) (con : ConRef) (hs : List Held) (shown : List Pat) (b e new : Sheet) (choices : Choices) (held : Held) → layout_of plan.layouts con.ty ≡ Some layout
    → (fields : List Ty) → fields_of plan.program.types con ≡ Some fields → map held_type hs ≡ fields
    → Chooses plan layout con hs shown b e choices → AreHoles (length b.code) (length choices.ways) e.code choices.holes → AreOfOneWay choices.holes → WaysMeet con.ty layout.leaves choices e new held → IsConstructed plan con hs shown b new held
ways_constructs plan typed agreed layout con hs shown b e new choices held is_layout fields is_fields kinds chooses holes_are ways meets =
    let given : (k : ℕ) (way : Way) → slice_get choices.ways k ≡ Some way → IsWay plan layout e.slots way = chooses.ways in
    let arms = meets.emits plan typed agreed layout is_layout refl given in
    let made = ways_construct plan layout con hs b e meets.last choices held.slots meets.joins meets.starts shown chooses holes_are ways meets.are arms (λ clean vs s m h. held_typed plan typed agreed con hs fields is_fields kinds clean vs s m h) in
    subst (λ (x : Sheet). IsConstructed plan con hs shown b x held) (sym meets.code) (subst (λ t. IsConstructed plan con hs shown b (whole_match meets.last choices.holes meets.starts meets.joins) (record { ty = t; slots = held.slots })) (sym meets.kind) made)

-- the code in front of the choice stays
pub ways_grow : (t : ℕ) (leaves : List Leaf) (b e new : Sheet) (choices : Choices) (held : Held) → Grows b.code e.code → AreHoles (length b.code) (length choices.ways) e.code choices.holes → WaysMeet t leaves choices e new held → Grows b.code new.code
ways_grow t leaves b e new choices held g holes_are meets =
    let q = meets.last in
    let inner = with_targets q choices.holes meets.starts in
    let ends = length q.code ∷ [] in
    let len = closed_length inner meets.joins ends ∙ closed_length q choices.holes meets.starts in
    let are = meets.are in
    subst (λ (x : Sheet). Grows b.code x.code) (sym meets.code) (record {
      longer = (let l1 = g.longer in let l2 = are.grows.longer in omega (arith, len, l1, l2));
      same = λ pc lt.
          let in_e : pc < length e.code = (let l1 = g.longer in omega (arith, lt, l1)) in
          at_closed inner meets.joins ends pc
          ∙ retarget_none pc meets.joins ends _ (λ h. let k = join_from pc (length e.code) q.code meets.joins are.joins_are h in omega (arith, k.0, in_e))
          ∙ at_closed q choices.holes meets.starts pc
          ∙ retarget_none pc choices.holes meets.starts _ (λ h. let k = hole_from pc (length b.code) (length choices.ways) e.code choices.holes holes_are h in omega (arith, k.0, lt))
          ∙ are.grows.same pc in_e ∙ g.same pc lt;
    })
