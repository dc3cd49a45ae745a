-- How pieces compose: one behind another, with what stays, with a target that is set, with many ways out.
use Rattle.std.proofs.Common.{◌≡◌, ◌≢◌, ℕ, ◌+◌, ◌<◌, ◌≤◌, ◌⊎◌, inl, inr, eqb, Bool, true, false, List, [], ◌∷◌, ◌++◌, length, Some, refl, sym, subst, ap, ◌∙◌, arith, length-append, None}
use Rattle.std.proofs.lemmas.Option.{same_Some}
use Rattle.std.specs.Prelude.{slice_get, slice_set, Contains}
use Rattle.rb_core.specs.declared.value.Value.{Value}
use Rattle.rb_core.specs.declared.outcome.Event.{Event}
use Rattle.rb_core.specs.declared.outcome.Outcome.{Outcome}
use Rattle.rb_core.specs.Meaning.{after}
use Rattle.rb_bytes.specs.Memory.{Memory, IsGood}
use Rattle.rb_target.specs.declared.instr.Instr.{Instr}
use Rattle.rb_target.specs.declared.instr.Instr.TheVariants.{Jump}
use Rattle.rb_target.specs.declared.body.Hole.{Hole}
use Rattle.rb_target.specs.Laws.{Law}
use Rattle.rb_target.specs.Meaning.{World, CallEnd as Run, Next, Callee, taken, act}
use Rattle.rb_target.specs.Sheet.{Sheet, with_one_target, with_target_at, with_more, with_slot}
use Rattle.rb_target.specs.Validity.{dests}
use Rattle.rb_fragment.proofs.Adding.{Adds-one, Adds-refl, Adds-trans, push_adds}
use Rattle.rb_fragment.proofs.Laying.{does_map}
use Rattle.rb_fragment.proofs.Patching.{jump_hole, patch_adds}
use Rattle.rb_fragment.specs.Adding.{Adds, IsFitting}
use Rattle.rb_fragment.specs.Arms.{IsOpenJump}
use Rattle.rb_fragment.specs.Owing.{Does, Ends}
use Rattle.rb_fragment.specs.Pieces.{AtEnd, Branches, IsLater, CodePiece, GoesOutBy, ReachesExit, Straight}
use Rattle.rb_fragment.specs.Plan.{Plan, cost_at, cost_of}
use Rattle.rb_rel.specs.Placing.{lay, requests_at, requests_of}
use Rattle.rb_target.proofs.Growing.{Agrees-part, Grows-refl, Keeps-refl, Keeps-set, Keeps-trans, get-seam}
use Rattle.rb_target.proofs.Shapes.{IsPatched, patch_is}
use Rattle.rb_target.specs.Growth.{AgreesBut, Keeps, Nowhere}
use Rattle.rb_target.specs.Targets.{Finishes, IsHoleAmong}

pub later-refl : (w : World) → IsLater 0 w w
later-refl w = record { memory = refl; left = refl; switches = omega arith }

pub later-trans : (k j : ℕ) (w w1 w2 : World) → IsLater k w w1 → IsLater j w1 w2 → IsLater (k + j) w w2
later-trans k j w w1 w2 a b = record { memory = b.memory ∙ a.memory; left = b.left ∙ a.left; switches = omega (arith, a.switches, b.switches) }

-- A run that comes to where a way out begins, with no switch and as many slots kept, goes out that way.
goes_on_out : (final : List Instr) (next : Next) (holes : List Hole) (n k start middle : ℕ) (s s1 : List ℕ) (w w1 : World) (i : ℕ) (Exit : List ℕ → Memory → Type 0) → next start s w ≡ next middle s1 w1 → Keeps n s s1 → IsLater 0 w w1
    → GoesOutBy final next holes n k middle s1 w1 i Exit → GoesOutBy final next holes n k start s w i Exit
goes_on_out final next holes n k start middle s s1 w w1 i Exit ran kept later out = record {
  hole = out.hole;
  is_hole = out.is_hole;
  is_way = out.is_way;
  target = out.target;
  is_target = out.is_target;
  slots = out.slots;
  world = out.world;
  runs = ran ∙ out.runs;
  keeps = Keeps-trans n n s s1 out.slots (omega arith) kept out.keeps;
  later = record { memory = out.later.memory ∙ later.memory; left = out.later.left ∙ later.left; switches = omega (arith, later.switches, out.later.switches) };
  exit = subst (λ m. Exit out.slots m) later.memory out.exit;
}

-- What a run owes, where a piece comes first: its switches are added to the base.
pub reached_does : (plan : Plan) (next : Next) (start n most extra : ℕ) (Exit : ℕ → List ℕ → Memory → Type 0) (s : List ℕ) (w : World) (o : Outcome) (Ok Ok1 : Value → World → Type 0) (r : ReachesExit next start n most Exit s w)
    → ((v : Value) (w' : World) → Ok1 v w' → Ok v w') → Does plan (r.2.switches + extra) (next r.0 r.1 r.2) r.2.memory o Ok1 → Does plan (w.switches + (most + extra)) (next start s w) w.memory o Ok
reached_does plan next start n most extra Exit s w o Ok Ok1 r f d =
    does_map plan (w.switches + (most + extra)) (r.2.switches + extra) (next start s w) (next r.0 r.1 r.2) Ok Ok1 w.memory o (let few = r.5.switches in omega (arith, few)) r.3 f
    (subst (λ m. Does plan (r.2.switches + extra) (next r.0 r.1 r.2) m o Ok1) r.5.memory d)

-- An event that places nothing pays for the switches before it.
pub does_event : (plan : Plan) (base : ℕ) (out : Run) (m : Memory) (e : Event) (o : Outcome) (Ok : Value → World → Type 0) → requests_at plan.layouts e ≡ []
    → Does plan (base + cost_at plan e) out m o Ok → Does plan base out m (after (e ∷ []) o) Ok
does_event plan base out m e o Ok none d =
    let sum : base + cost_at plan e + cost_of plan o.log ≡ base + (cost_at plan e + cost_of plan o.log) = omega arith in
    subst (λ bs. Ends (base + (cost_at plan e + cost_of plan o.log)) out m (lay m.limit m.next (bs ++ requests_of plan.layouts o.log)) o.end Ok) (sym none)
    (subst (λ k. Ends k out m (lay m.limit m.next (requests_of plan.layouts o.log)) o.end Ok) sum d)

module _ (plan : Plan) where
  -- fewer slots kept, more switches, more known before and less after
  pub piece_weaken : (n n' : ℕ) (a b : Sheet) (Open : ℕ → Type 0) (k k' : ℕ) (Pre Pre' : List ℕ → Memory → Type 0) (Exit Exit' : ℕ → List ℕ → Memory → Type 0) → n' ≤ n → k ≤ k'
      → ((s : List ℕ) (m : Memory) → Pre' s m → Pre s m) → ((pc : ℕ) (s : List ℕ) (m : Memory) → Exit pc s m → Exit' pc s m) → CodePiece plan n a b Open k Pre Exit → CodePiece plan n' a b Open k' Pre' Exit'
  piece_weaken n n' a b Open k k' Pre Pre' Exit Exit' fewer le f g p = record {
    adds = p.adds;
    low = omega (arith, fewer, p.low);
    runs = λ final callee next law agrees s w long pre.
        let r = p.runs final callee next law agrees s w long (f s w.memory pre) in (
          r.0,
          r.1,
          r.2,
          r.3,
          record { long = r.4.long; same = λ x lt. r.4.same x (omega (arith, lt, fewer)) },
          record { memory = r.5.memory; left = r.5.left; switches = omega (arith, r.5.switches, le) },
          g r.0 r.1 w.memory r.6,
        );
  }

  -- what is said of kept slots stays
  pub piece_frame : (n : ℕ) (a b : Sheet) (Open : ℕ → Type 0) (k : ℕ) (F Pre : List ℕ → Memory → Type 0) (Exit : ℕ → List ℕ → Memory → Type 0)
      → ((s s' : List ℕ) (m : Memory) → Keeps n s s' → F s m → F s' m) → CodePiece plan n a b Open k Pre Exit → CodePiece plan n a b Open k (λ s m. F s m × Pre s m) (λ pc s m. F s m × Exit pc s m)
  piece_frame n a b Open k F Pre Exit stays p = record {
    adds = p.adds;
    low = p.low;
    runs = λ final callee next law agrees s w long pre.
        let r = p.runs final callee next law agrees s w long pre.1 in
        (r.0, r.1, r.2, r.3, r.4, r.5, (stays s r.1 w.memory r.4 pre.0, r.6));
  }

  -- no code
  pub piece_none : (n : ℕ) (a : Sheet) (Pre Post : List ℕ → Memory → Type 0) → n ≤ a.slots → ((s : List ℕ) (m : Memory) → Pre s m → Post s m) → Straight plan n a a Pre Post
  piece_none n a Pre Post le f = record {
    adds = Adds-refl plan a;
    low = le;
    runs = λ final callee next law agrees s w long pre. (length a.code, s, w, refl, Keeps-refl n s, later-refl w, (refl, f s w.memory pre));
  }

  -- a piece, and another behind it where the first comes to its end
  module _ (n : ℕ) (a b c : Sheet) (O1 O2 : ℕ → Type 0) (k1 k2 : ℕ) (Pre Mid : List ℕ → Memory → Type 0) (Exit1 Exit2 : ℕ → List ℕ → Memory → Type 0)
      (first : CodePiece plan n a b O1 k1 Pre Exit1) (second : CodePiece plan n b c O2 k2 Mid Exit2)
      (opens1 : (pc : ℕ) → O1 pc → pc < length b.code) (opens2 : (pc : ℕ) → O2 pc → length b.code ≤ pc)
      (leads : (pc : ℕ) (s : List ℕ) (m : Memory) → Exit1 pc s m → ((pc ≡ length b.code) × Mid s m) ⊎ Exit2 pc s m) where
    pub piece_seq : CodePiece plan n a c (λ pc. O1 pc ⊎ O2 pc) (k1 + k2) Pre Exit2
    piece_seq = record {
      adds = Adds-trans plan a b c first.adds second.adds;
      low = first.low;
      runs = λ final callee next law agrees s w long pre.
          let l1 = first.adds.grows.longer in let l2 = second.adds.grows.longer in
          let agrees1 : AgreesBut final b.code (length a.code) (length b.code) O1 = Agrees-part final c.code b.code (length a.code) (length c.code) (length a.code) (length b.code) (λ pc. O1 pc ⊎ O2 pc) O1 second.adds.grows (omega arith) (omega (arith, l2)) (omega arith)
          (λ pc lo hi o. elim o [ inl x ↦ x | inr x ↦ (let q = opens2 pc x in absurd (omega (arith, q, hi))) ]) agrees in
          let agrees2 : AgreesBut final c.code (length b.code) (length c.code) O2 = Agrees-part final c.code c.code (length a.code) (length c.code) (length b.code) (length c.code) (λ pc. O1 pc ⊎ O2 pc) O2 (Grows-refl c.code) (omega (arith, l1)) (omega arith) (omega arith)
          (λ pc lo hi o. elim o [ inl x ↦ (let q = opens1 pc x in absurd (omega (arith, q, lo))) | inr x ↦ x ]) agrees in
          let long1 : b.slots ≤ length s = omega (arith, second.adds.more, long) in
          let r = first.runs final callee next law agrees1 s w long1 pre in
          go final callee next law agrees2 s w long r (leads r.0 r.1 w.memory r.6);
    }
      where
        go : (final : List Instr) (callee : Callee) (next : Next) → Law final callee next → AgreesBut final c.code (length b.code) (length c.code) O2 → (s : List ℕ) (w : World) → c.slots ≤ length s
            → (r : ReachesExit next (length a.code) n k1 Exit1 s w) → ((r.0 ≡ length b.code) × Mid r.1 w.memory) ⊎ Exit2 r.0 r.1 w.memory → ReachesExit next (length a.code) n (k1 + k2) Exit2 s w
        go final callee next law agrees2 s w long r (inr x) = (r.0, r.1, r.2, r.3, r.4, record { memory = r.5.memory; left = r.5.left; switches = omega (arith, r.5.switches) }, x)
        go final callee next law agrees2 s w long r (inl x) =
            let long2 : c.slots ≤ length r.1 = omega (arith, r.4.long, long) in
            let q = second.runs final callee next law agrees2 r.1 r.2 long2 (subst (λ m. Mid r.1 m) (sym r.5.memory) x.1) in
            (q.0, q.1, q.2, r.3 ∙ ap (λ pc. next pc r.1 r.2) x.0 ∙ q.3, Keeps-trans n n s r.1 q.1 (omega arith) r.4 q.4, later-trans k1 k2 w r.2 q.2 r.5 q.5, subst (λ m. Exit2 q.0 q.1 m) r.5.memory q.6)

  -- straight code, one piece behind the other
  pub straight_seq : (n : ℕ) (a b c : Sheet) (Pre Mid Post : List ℕ → Memory → Type 0) → Straight plan n a b Pre Mid → Straight plan n b c Mid Post → Straight plan n a c Pre Post
  straight_seq n a b c Pre Mid Post first second =
      let p = piece_seq n a b c Nowhere Nowhere 0 0 Pre Mid (AtEnd b Mid) (AtEnd c Post) first second (λ pc x. absurd x) (λ pc x. absurd x) (λ pc s m x. inl x) in
      record {
        adds = p.adds;
        low = p.low;
        runs = λ final callee next law agrees s w long pre.
            p.runs final callee next law (record { same = λ pc lo hi out. agrees.same pc lo hi (λ x. x) }) s w long pre;
      }

  pub straight_weaken : (n : ℕ) (a b : Sheet) (Pre Pre' Post Post' : List ℕ → Memory → Type 0) → ((s : List ℕ) (m : Memory) → Pre' s m → Pre s m) → ((s : List ℕ) (m : Memory) → Post s m → Post' s m)
      → Straight plan n a b Pre Post → Straight plan n a b Pre' Post'
  straight_weaken n a b Pre Pre' Post Post' f g p = piece_weaken n n a b Nowhere 0 0 Pre Pre' (AtEnd b Post) (AtEnd b Post') (omega arith) (omega arith) f (λ pc s m x. (x.0, g s m x.1)) p

  pub straight_frame : (n : ℕ) (a b : Sheet) (F Pre Post : List ℕ → Memory → Type 0) → ((s s' : List ℕ) (m : Memory) → Keeps n s s' → F s m → F s' m)
      → Straight plan n a b Pre Post → Straight plan n a b (λ s m. F s m × Pre s m) (λ s m. F s m × Post s m)
  straight_frame n a b F Pre Post stays p =
      let f = piece_frame n a b Nowhere 0 F Pre (AtEnd b Post) stays p in
      piece_weaken n n a b Nowhere 0 0 (λ s m. F s m × Pre s m) (λ s m. F s m × Pre s m) (λ pc s m. F s m × AtEnd b Post pc s m) (AtEnd b (λ s m. F s m × Post s m)) (omega arith) (omega arith) (λ s m x. x) (λ pc s m x. (x.1.0, (x.0, x.1.1))) f

  -- one instruction that writes one fresh slot
  pub straight_one : (n : ℕ) (a : Sheet) (i : Instr) (Pre Post : List ℕ → Memory → Type 0) → n ≤ a.slots → Contains (dests i) a.slots → IsFitting plan (a.slots + 1) (length a.code + 1) (length a.code) i
      → ((next : Next) (callee : Callee) (pc : ℕ) (s : List ℕ) (w : World) → a.slots < length s → Pre s w.memory
      → (word : ℕ) × (act i next callee pc s w ≡ next (pc + 1) (slice_set s a.slots word) w) × Post (slice_set s a.slots word) w.memory)
      → Straight plan n a (with_more (with_slot a) i) Pre Post
  straight_one n a i Pre Post le writes fits does = record {
    adds = Adds-one plan a i writes fits;
    low = le;
    runs = λ final callee next law agrees s w long pre.
        let code = a.code ++ i ∷ [] in
        let len : length code ≡ length a.code + 1 = length-append a.code (i ∷ []) in
        let here : slice_get final (length a.code) ≡ Some i = agrees.same (length a.code) (omega arith) (omega (arith, len)) (λ x. x) ∙ get-seam a.code i [] in
        let r = does next callee (length a.code) s (taken w) (omega (arith, long)) pre in
        let s' = slice_set s a.slots r.0 in
        let ran : next (length a.code) s w ≡ next (length code) s' (taken w) = law.step (length a.code) i s w here ∙ r.1 ∙ ap (λ k. next k s' (taken w)) (sym len) in
        (length code, s', taken w, ran, Keeps-set n s a.slots r.0 le, record { memory = refl; left = refl; switches = omega arith }, (refl, r.2));
  }

  -- one instruction that writes a slot which is not kept
  pub straight_write : (n : ℕ) (a : Sheet) (i : Instr) (d : ℕ) (Pre Post : List ℕ → Memory → Type 0) → n ≤ a.slots → n ≤ d → IsFitting plan a.slots (length a.code + 1) (length a.code) i
      → ((next : Next) (callee : Callee) (pc : ℕ) (s : List ℕ) (w : World) → a.slots ≤ length s → Pre s w.memory
      → (word : ℕ) × (act i next callee pc s w ≡ next (pc + 1) (slice_set s d word) w) × Post (slice_set s d word) w.memory)
      → Straight plan n a (with_more a i) Pre Post
  straight_write n a i d Pre Post le high fits does = record {
    adds = push_adds plan a i fits;
    low = le;
    runs = λ final callee next law agrees s w long pre.
        let code = a.code ++ i ∷ [] in
        let len : length code ≡ length a.code + 1 = length-append a.code (i ∷ []) in
        let here : slice_get final (length a.code) ≡ Some i = agrees.same (length a.code) (omega arith) (omega (arith, len)) (λ x. x) ∙ get-seam a.code i [] in
        let r = does next callee (length a.code) s (taken w) long pre in
        let s' = slice_set s d r.0 in
        let ran : next (length a.code) s w ≡ next (length code) s' (taken w) = law.step (length a.code) i s w here ∙ r.1 ∙ ap (λ k. next k s' (taken w)) (sym len) in
        (length code, s', taken w, ran, Keeps-set n s d r.0 high, record { memory = refl; left = refl; switches = omega arith }, (refl, r.2));
  }

-- Patching

-- a jump leads to its target
pub jumps : (final : List Instr) (callee : Callee) (next : Next) → Law final callee next → (h t : ℕ) (s : List ℕ) (w : World) → slice_get final h ≡ Some (Jump t) → next h s w ≡ next t s (taken w)
jumps final callee next law h t s w at = law.step h (Jump t) s w at

-- an open jump that is set: the run that came to it goes on at its target
module _ (plan : Plan) (n : ℕ) (a b : Sheet) (Open : ℕ → Type 0) (k : ℕ) (h : Hole) (t : ℕ) (Pre : List ℕ → Memory → Type 0) (Exit : ℕ → List ℕ → Memory → Type 0) (p : CodePiece plan n a b Open k Pre Exit)
    (is_open : Open h.pc) (jump : IsOpenJump b.code h) (low : length a.code ≤ h.pc) (forward : h.pc < t) (within : t ≤ length b.code) where
  abbrev new : Sheet
  new = with_target_at b h t

  set : IsPatched b h t new
  set = patch_is b h t (jump_hole b.code h jump)

  is_jump : slice_get new.code h.pc ≡ Some (Jump t)
  is_jump =
      let old : set.old ≡ Jump jump.0 = same_Some set.old (Jump jump.0) (sym set.is_old ∙ jump.1) in
      set.here ∙ ap (λ arm. Some (with_one_target set.old arm t)) jump.2 ∙ ap (λ (i : Instr). Some (with_one_target i None t)) old

  abbrev pub ExitAfter : ℕ → List ℕ → Memory → Type 0
  ExitAfter pc s m = ((pc ≢ h.pc) × Exit pc s m) ⊎ ((pc ≡ t) × Exit h.pc s m)

  pub piece_patch : CodePiece plan n a new (λ pc. Open pc × (pc ≢ h.pc)) k Pre ExitAfter
  piece_patch = record {
    adds = patch_adds plan a b h t p.adds set low forward within;
    low = p.low;
    runs = λ final callee next law agrees s w long pre.
        let agrees1 : AgreesBut final b.code (length a.code) (length b.code) Open = record {
          same = λ pc lo hi out.
              let ne : pc ≢ h.pc = λ e. out (subst (λ x. Open x) (sym e) is_open) in
              agrees.same pc lo (omega (arith, hi, set.long)) (λ o. out o.0) ∙ set.elsewhere pc ne;
        } in
        let r = p.runs final callee next law agrees1 s w long pre in
        let at : slice_get final h.pc ≡ Some (Jump t) = agrees.same h.pc low (omega (arith, set.inside, set.long)) (λ o. o.1 refl) ∙ is_jump in
        go final callee next law s w at r (eqb r.0 h.pc) refl;
  }
    where
      go : (final : List Instr) (callee : Callee) (next : Next) → Law final callee next → (s : List ℕ) (w : World) → slice_get final h.pc ≡ Some (Jump t) → (r : ReachesExit next (length a.code) n k Exit s w) → (u : Bool) → eqb r.0 h.pc ≡ u
          → ReachesExit next (length a.code) n k ExitAfter s w
      go final callee next law s w at r true e =
          let same : r.0 ≡ h.pc = grind arith in
          (t, r.1, taken r.2, r.3 ∙ ap (λ pc. next pc r.1 r.2) same ∙ jumps final callee next law h.pc t r.1 r.2 at, r.4, record { memory = r.5.memory; left = r.5.left; switches = r.5.switches }, inr (refl, subst (λ pc. Exit pc r.1 w.memory) same r.6))
      go final callee next law s w at r false e =
          let ne : r.0 ≢ h.pc = grind arith in
          (r.0, r.1, r.2, r.3, r.4, r.5, inl (ne, r.6))

-- Ways out

module _ (plan : Plan) where
  pub branches_weaken : (n n' : ℕ) (a b : Sheet) (holes : List Hole) (k k' : ℕ) (Pre Pre' Exit Exit' : ℕ → List ℕ → Memory → Type 0) → n' ≤ n → k ≤ k'
      → ((i : ℕ) (s : List ℕ) (m : Memory) → Pre' i s m → Pre i s m) → ((i : ℕ) (s : List ℕ) (m : Memory) → Exit i s m → Exit' i s m) → Branches plan n a b holes k Pre Exit → Branches plan n' a b holes k' Pre' Exit'
  branches_weaken n n' a b holes k k' Pre Pre' Exit Exit' fewer le f g p = record {
    adds = p.adds;
    low = omega (arith, fewer, p.low);
    leaves = λ final callee next law finishes s w i long good pre.
        let r = p.leaves final callee next law finishes s w i long good (f i s w.memory pre) in
        record {
          hole = r.hole;
          is_hole = r.is_hole;
          is_way = r.is_way;
          target = r.target;
          is_target = r.is_target;
          slots = r.slots;
          world = r.world;
          runs = r.runs;
          keeps = record { long = r.keeps.long; same = λ x lt. r.keeps.same x (omega (arith, lt, fewer)) };
          later = record { memory = r.later.memory; left = r.later.left; switches = omega (arith, r.later.switches, le) };
          exit = g i r.slots w.memory r.exit;
        };
  }

  -- what is said of kept slots stays
  pub branches_frame : (n : ℕ) (a b : Sheet) (holes : List Hole) (k : ℕ) (F Pre Exit : ℕ → List ℕ → Memory → Type 0)
      → ((i : ℕ) (s s' : List ℕ) (m : Memory) → Keeps n s s' → F i s m → F i s' m) → Branches plan n a b holes k Pre Exit → Branches plan n a b holes k (λ i s m. F i s m × Pre i s m) (λ i s m. F i s m × Exit i s m)
  branches_frame n a b holes k F Pre Exit stays p = record {
    adds = p.adds;
    low = p.low;
    leaves = λ final callee next law finishes s w i long good pre.
        let r = p.leaves final callee next law finishes s w i long good pre.1 in
        record {
          hole = r.hole;
          is_hole = r.is_hole;
          is_way = r.is_way;
          target = r.target;
          is_target = r.is_target;
          slots = r.slots;
          world = r.world;
          runs = r.runs;
          keeps = r.keeps;
          later = r.later;
          exit = (stays i s r.slots w.memory r.keeps pre.0, r.exit);
        };
  }

  -- straight code in front of ways out
  pub straight_branches : (n : ℕ) (a b c : Sheet) (holes : List Hole) (k : ℕ) (Pre Mid Exit : ℕ → List ℕ → Memory → Type 0) → Adds plan a b → n ≤ a.slots → ((i : ℕ) → Straight plan n a b (Pre i) (Mid i)) → Branches plan n b c holes k Mid Exit
      → ((h : Hole) → IsHoleAmong h holes → length b.code ≤ h.pc) → Branches plan n a c holes k Pre Exit
  straight_branches n a b c holes k Pre Mid Exit adds le first second high = record {
    adds = Adds-trans plan a b c adds second.adds;
    low = le;
    leaves = λ final callee next law finishes s w i long good pre.
        let l1 = adds.grows.longer in let l2 = second.adds.grows.longer in
        let agrees1 : AgreesBut final b.code (length a.code) (length b.code) Nowhere = record {
          same = λ pc lo hi out.
              (finishes pc lo (omega (arith, hi, l2))).same (λ arm o. let h = high o.0 o.1 in absurd (omega (arith, h, o.2, hi))) ∙ second.adds.grows.same pc hi;
        } in
        let finishes2 : Finishes final c.code holes (length b.code) (length c.code) = λ pc lo hi. finishes pc (omega (arith, lo, l1)) hi in
        let r = (first i).runs final callee next law agrees1 s w (omega (arith, second.adds.more, long)) pre in
        let long2 : c.slots ≤ length r.1 = omega (arith, r.4.long, long) in
        let good2 = subst (λ m. IsGood m) (sym r.5.memory) good in
        goes_on_out final next holes n k (length a.code) (length b.code) s r.1 w r.2 i (Exit i) (r.3 ∙ ap (λ pc. next pc r.1 r.2) r.6.0) r.4 r.5
        (second.leaves final callee next law finishes2 r.1 r.2 i long2 good2 (subst (λ m. Mid i r.1 m) (sym r.5.memory) r.6.1));
  }
