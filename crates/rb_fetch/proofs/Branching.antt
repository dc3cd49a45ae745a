-- Code that goes one of several ways, each of which has its own code behind: the whole is a piece.
use Rattle.std.proofs.Common.{◌≡◌, ℕ, zero, suc, ◌+◌, ◌<◌, ◌≤◌, List, [], ◌∷◌, length, Some, refl, sym, subst, ap, ◌∙◌, arith}
use Rattle.std.proofs.lemmas.Option.{same_Some}
use Rattle.std.specs.Prelude.{slice_get, slice_index}
use Rattle.rb_bytes.specs.Memory.{Memory, IsGood}
use Rattle.rb_target.specs.declared.instr.Instr.{Instr}
use Rattle.rb_target.specs.declared.body.Hole.{Hole}
use Rattle.rb_target.specs.Growth.{AgreesBut, Grows, Keeps, Nowhere}
use Rattle.rb_target.specs.Laws.{Law}
use Rattle.rb_target.specs.Meaning.{Callee, Next, World}
use Rattle.rb_target.specs.Sheet.{Sheet}
use Rattle.rb_target.specs.Targets.{IsHoleAmong}
use Rattle.rb_target.proofs.Growing.{Keeps-trans}
use Rattle.rb_fragment.specs.Adding.{Adds}
use Rattle.rb_fragment.specs.Arms.{AreHoles, AreOfOneWay, with_targets}
use Rattle.rb_fragment.specs.Pieces.{Branches, CodePiece, GoesOutBy, ReachesExit}
use Rattle.rb_fragment.specs.Plan.{Plan}
use Rattle.rb_fragment.specs.Slots.{AllBelow, AllFrom}
use Rattle.rb_fragment.proofs.Adding.{Adds-trans}
use Rattle.rb_fragment.proofs.Closing.{closed_is}
use Rattle.rb_fragment.proofs.Matches.{holes_closable}
use Rattle.rb_fragment.proofs.Pieces.{later-trans}
use Rattle.rb_fragment.proofs.Patching.{adds_closed, all_holes_grow, all_holes_of, at_closed, closed_length, closed_slots, hole_from, hole_within, retarget_all, retarget_none}

one_hole : (from count : ℕ) (code : List Instr) (h : Hole) (hs : List Hole) → IsHoleAmong h hs → AreHoles from count code hs → (from ≤ h.pc) × (h.pc < length code)
one_hole from count code h [] (k, at) a = cc at
one_hole from count code h (x ∷ hs) (zero, at) a =
    let is : x ≡ h = same_Some x h at in
    let lt = hole_within code x a.2 in
    subst (λ (y : Hole). (from ≤ y.pc) × (y.pc < length code)) is (a.0, lt)
one_hole from count code h (x ∷ hs) (suc k, at) a = one_hole from count code h hs (k, at) a.3

-- the code that goes one of so many ways, its holes closed: what stands in it and behind it
module _ (b e q : Sheet) (count : ℕ) (holes : List Hole) (starts : List ℕ) (holes_are : AreHoles (length b.code) count e.code holes) (longer : Grows e.code q.code) where
  abbrev whole : Sheet
  whole = with_targets q holes starts

  -- behind it nothing changes
  pub behind_same : (pc : ℕ) → length e.code ≤ pc → slice_get whole.code pc ≡ slice_get q.code pc
  behind_same pc le = at_closed q holes starts pc ∙ retarget_none pc holes starts (slice_get q.code pc) (λ h. let k = hole_from pc (length b.code) count e.code holes holes_are h in omega (arith, k.1, le))

  -- nor before it
  pub before_same : (pc : ℕ) → pc < length b.code → slice_get whole.code pc ≡ slice_get q.code pc
  before_same pc lt = at_closed q holes starts pc ∙ retarget_none pc holes starts (slice_get q.code pc) (λ h. let k = hole_from pc (length b.code) count e.code holes holes_are h in omega (arith, k.0, lt))

  pub whole_length : length whole.code ≡ length q.code
  whole_length = closed_length q holes starts

  pub whole_grows : Grows b.code e.code → Grows b.code whole.code
  whole_grows g = record {
    longer = let l = whole_length in let m = g.longer in let k = longer.longer in omega (arith, l, m, k);
    same = λ pc lt. before_same pc lt ∙ longer.same pc (let m = g.longer in omega (arith, lt, m)) ∙ g.same pc lt;
  }

  module _ (plan : Plan) (n most : ℕ) (Pre Mid : ℕ → List ℕ → Memory → Type 0) (choice : Branches plan n b e holes most Pre Mid) (ways : AreOfOneWay holes) (adds : Adds plan e q)
      (many : length starts ≡ count) (starts_from : AllFrom (length e.code) starts) (starts_below : AllBelow (length q.code + 1) starts) where
    pub whole_adds : Adds plan b whole
    whole_adds =
        let holes1 = subst (λ m. AreHoles (length b.code) m e.code holes) (sym many) holes_are in
        adds_closed plan b q holes starts (length q.code) refl (Adds-trans plan b e q choice.adds adds) (all_holes_grow e.code q.code holes longer (all_holes_of (length b.code) count e.code holes holes_are))
        (holes_closable (length b.code) e q holes starts holes1 starts_from starts_below)

    -- A way that is taken: its code begins at its start. Of the open places only its own lie in it.
    module _ (k : ℕ) (first last : Sheet) (start : slice_index starts k ≡ length first.code) (behind : length e.code ≤ length first.code) (more : Grows last.code q.code) (slots : last.slots ≤ q.slots)
        (Open Own : ℕ → Type 0) (opens : (pc : ℕ) → Open pc → length e.code ≤ pc) (alone : (pc : ℕ) → Open pc → length first.code ≤ pc → pc < length last.code → Own pc)
        (j : ℕ) (P Mid1 : List ℕ → Memory → Type 0) (Exit : ℕ → List ℕ → Memory → Type 0) (arm : CodePiece plan n first last Own j Mid1 Exit)
        (enters : (s : List ℕ) (m : Memory) → P s m → IsGood m × Pre k s m) (goes : (s s' : List ℕ) (m : Memory) → P s m → Keeps n s s' → Mid k s' m → Mid1 s' m) where
      -- a run that went out by a hole of the way
      module _ (final : List Instr) (callee : Callee) (next : Next) (law : Law final callee next) (agrees : AgreesBut final whole.code (length b.code) (length whole.code) Open) (s : List ℕ) (w : World)
          (long : whole.slots ≤ length s) (pre : P s w.memory) where
        of_choice : AgreesBut final (with_targets e holes starts).code (length b.code) (length e.code) Nowhere
        of_choice = record {
          same = λ pc lo hi out.
              let len = whole_length in
              let on = longer.longer in
              agrees.same pc lo (omega (arith, hi, len, on)) (λ o. let h = opens pc o in omega (arith, h, hi))
              ∙ at_closed q holes starts pc ∙ ap (retarget_all pc holes starts) (longer.same pc hi) ∙ sym (at_closed e holes starts pc);
        }

        of_arm : AgreesBut final last.code (length first.code) (length last.code) Own
        of_arm = record {
          same = λ pc lo hi out.
              let len = whole_length in
              let grown = choice.adds.grows.longer in
              agrees.same pc (omega (arith, lo, behind, grown)) (let l = more.longer in omega (arith, hi, len, l)) (λ o. out (alone pc o lo hi))
              ∙ behind_same pc (omega (arith, lo, behind)) ∙ more.same pc hi;
        }

        module _ (r : GoesOutBy final next holes n most (length b.code) s w k (Mid k)) where
          to_arm : r.target ≡ length first.code
          to_arm =
              let all = closed_is final holes starts e (length b.code) (length e.code) of_choice (all_holes_of (length b.code) count e.code holes holes_are) ways in
              let in_code = one_hole (length b.code) count e.code r.hole holes r.is_hole holes_are in
              let to = all.leads r.hole r.is_hole in_code.0 in_code.1 in
              same_Some r.target (slice_index starts k) (sym r.is_target ∙ to ∙ ap (λ i. Some (slice_index starts i)) r.is_way) ∙ start

          through : ReachesExit next (length first.code) n j Exit r.slots r.world → ReachesExit next (length b.code) n (most + j) Exit s w
          through x = (
            x.0,
            x.1,
            x.2,
            r.runs ∙ (ap (λ pc. next pc r.slots r.world) to_arm ∙ x.3),
            Keeps-trans n n s r.slots x.1 (omega arith) r.keeps x.4,
            later-trans most j w r.world x.2 r.later x.5,
            subst (λ m. Exit x.0 x.1 m) r.later.memory x.6,
          )

          by_arm : ReachesExit next (length b.code) n (most + j) Exit s w
          by_arm =
              let sl = closed_slots q holes starts in
              let kl = r.keeps.long in
              let mid = subst (λ m. Mid1 r.slots m) (sym r.later.memory) (goes s r.slots w.memory pre r.keeps r.exit) in
              through (arm.runs final callee next law of_arm r.slots r.world (omega (arith, long, sl, slots, kl)) mid)

        by_way : ReachesExit next (length b.code) n (most + j) Exit s w
        by_way =
            let all = closed_is final holes starts e (length b.code) (length e.code) of_choice (all_holes_of (length b.code) count e.code holes holes_are) ways in
            let sl = closed_slots q holes starts in
            let sm = adds.more in
            let enter = enters s w.memory pre in
            by_arm (choice.leaves final callee next law all.finishes s w k (omega (arith, long, sl, sm)) enter.0 enter.1)

      pub way_piece : CodePiece plan n b whole Open (most + j) P Exit
      way_piece = record {
        adds = whole_adds;
        low = choice.low;
        runs = λ final callee next law agrees s w long pre. by_way final callee next law agrees s w long pre;
      }
