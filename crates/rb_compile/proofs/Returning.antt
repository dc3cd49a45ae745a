-- Code that returns: what it adds, a value and its return, and what stands in front.
use Rattle.std.proofs.Common.{◌≡◌, ◌≢◌, ℕ, zero, suc, ◌+◌, ◌-◌, ◌<◌, ◌≤◌, ◌⊎◌, inl, inr, eqb, Bool, true, false, List, [], ◌∷◌, ◌++◌, length, Option, Some, refl, sym, subst, ap, ◌∙◌, arith, length-append}
use Rattle.std.proofs.lemmas.List.Elements.{All-cons, All-head, All-tail}
use Rattle.std.proofs.lemmas.Option.{slice_get_within, same_Some}
use Rattle.std.specs.Prelude.{slice_get, slice_index, Contains, All}
use Rattle.rb_core.specs.declared.value.Value.{Value}
use Rattle.rb_core.specs.declared.types.Ty.{Ty}
use Rattle.rb_core.specs.declared.binding.Binding.{Binding}
use Rattle.rb_core.specs.declared.outcome.Outcome.{Outcome}
use Rattle.rb_core.specs.Meaning.{Calls, then_do}
use Rattle.rb_bytes.specs.Memory.{Memory, IsGood}
use Rattle.rb_bytes.specs.Laws.{Extends}
use Rattle.rb_bytes.proofs.GrowthLemmas.{Grown-extends}
use Rattle.rb_target.specs.declared.instr.SwitchArm.{SwitchArm}
use Rattle.rb_target.specs.declared.instr.Instr.{Instr}
use Rattle.rb_target.specs.declared.instr.Instr.TheVariants.{Return}
use Rattle.rb_target.specs.declared.body.Hole.{Hole}
use Rattle.rb_target.specs.Growth.{Grows, Keeps, Nowhere}
use Rattle.rb_target.specs.Meaning.{slots_at, taken}
use Rattle.rb_target.specs.Sheet.{Sheet, with_target_at, with_more, with_one_target, with_arm_target}
use Rattle.rb_target.specs.Validity.{IsTarget, dests}
use Rattle.rb_target.proofs.Growing.{Agrees-part, Grows-append, Grows-refl, Grows-trans, SlotsFit-more, TargetsFit-more, below_or, get-seam}
use Rattle.rb_target.proofs.Shapes.{HoleView, IsPatched, branch, jump, other, patch_is}
use Rattle.rb_fragment.specs.declared.held.Local.{Local}
use Rattle.rb_fragment.specs.Adding.{Adds, IsFitting, IsWrittenFrom}
use Rattle.rb_fragment.specs.Arms.{with_targets}
use Rattle.rb_fragment.specs.Fragments.{Comes, Emits, Fragment}
use Rattle.rb_fragment.specs.Holding.{Holds}
use Rattle.rb_fragment.specs.Owing.{Does, GivesValue}
use Rattle.rb_fragment.specs.Pieces.{AtEnd, CodePiece}
use Rattle.rb_fragment.specs.Plan.{Plan, Rep, words_needed}
use Rattle.rb_fragment.specs.Slots.{AllBelow}
use Rattle.rb_fragment.proofs.Laying.{bind, does_later, does_map}
use Rattle.rb_fragment.proofs.Moves.{below-all}
use Rattle.rb_fragment.proofs.Patching.{AreAllHoles, AreClosable, all_holes_patched}
use Rattle.rb_compile.specs.inner.Tails.{AddsTail, EmitsTail, FitsTail, IsTail, Tail}

-- Additions

module _ (plan : Plan) (t : Ty) where
  fits_more : (n n' long long' pc : ℕ) (i : Instr) → n ≤ n' → long ≤ long' → FitsTail plan t n long pc i → FitsTail plan t n' long' pc i
  fits_more n n' long long' pc i le le' f = record {
    bounded = f.bounded;
    slots_fit = SlotsFit-more n n' le i f.slots_fit;
    targets = TargetsFit-more long long' pc le' i f.targets;
    calls = f.calls;
  }

  fits_within : (n n' long long' pc : ℕ) (i : Instr) → n ≤ n' → long < long' → IsFitting plan n long pc i → FitsTail plan t n' long' pc i
  fits_within n n' long long' pc i le lt f = record {
    bounded = f.bounded;
    slots_fit = SlotsFit-more n n' le i f.slots_fit;
    targets = TargetsFit-more (long + 1) long' pc (omega (arith, lt)) i f.targets;
    calls = inl f.calls;
  }

  pub tail_none : (a : Sheet) → AddsTail plan t a a
  tail_none a = record {
    grows = Grows-refl a.code;
    more = omega arith;
    params = refl;
    written = λ s lo hi. absurd (omega (arith, lo, hi));
    fine = λ pc i lo e. let lt = slice_get_within a.code pc i e in absurd (omega (arith, lo, lt));
  }

  -- code in front, which fits among all
  module _ (a b c : Sheet) (grows : Grows a.code b.code) (more : a.slots ≤ b.slots) (params : b.params ≡ a.params) (written : (s : ℕ) → a.slots ≤ s → s < b.slots → IsWrittenFrom b.code (length a.code) s)
      (fine : (pc : ℕ) (i : Instr) → length a.code ≤ pc → slice_get b.code pc ≡ Some i → FitsTail plan t c.slots (length c.code) pc i) (h : AddsTail plan t b c) where
    both_written : (s : ℕ) → a.slots ≤ s → s < c.slots → (s < b.slots) ⊎ (b.slots ≤ s) → IsWrittenFrom c.code (length a.code) s
    both_written s lo hi (inl lt) =
        let w = written s lo lt in
        (w.0, w.1, w.2, h.grows.same w.0 (slice_get_within b.code w.0 w.1 w.3) ∙ w.3, w.4)
    both_written s lo hi (inr le) =
        let w = h.written s le hi in (w.0, w.1, omega (arith, w.2, grows.longer), w.3, w.4)

    both_fine : (pc : ℕ) (i : Instr) → length a.code ≤ pc → slice_get c.code pc ≡ Some i → (pc < length b.code) ⊎ (length b.code ≤ pc) → FitsTail plan t c.slots (length c.code) pc i
    both_fine pc i lo e (inl lt) = fine pc i lo (sym (h.grows.same pc lt) ∙ e)
    both_fine pc i lo e (inr le) = h.fine pc i le e

    both : AddsTail plan t a c
    both = record {
      grows = Grows-trans a.code b.code c.code grows h.grows;
      more = omega (arith, more, h.more);
      params = h.params ∙ params;
      written = λ s lo hi. both_written s lo hi (below_or s b.slots);
      fine = λ pc i lo e. both_fine pc i lo e (below_or pc (length b.code));
    }

  pub tail_behind : (a b c : Sheet) → Adds plan a b → length b.code < length c.code → AddsTail plan t b c → AddsTail plan t a c
  tail_behind a b c g lt h =
      both a b c g.grows g.more g.params g.written (λ pc i lo e. fits_within b.slots c.slots (length b.code) (length c.code) pc i h.more lt (g.fine pc i lo e)) h

  pub tail_trans : (a b c : Sheet) → AddsTail plan t a b → AddsTail plan t b c → AddsTail plan t a c
  tail_trans a b c g h =
      both a b c g.grows g.more g.params g.written (λ pc i lo e. fits_more b.slots c.slots (length b.code) (length c.code) pc i h.more h.grows.longer (g.fine pc i lo e)) h

  pub is_tail_behind : (a b c : Sheet) → Adds plan a b → IsTail plan t b c → IsTail plan t a c
  is_tail_behind a b c g h = record {
    adds = tail_behind a b c g h.longer h.adds;
    longer = omega (arith, g.grows.longer, h.longer);
    ends = h.ends;
  }

  -- a return of a value's words
  return_adds : (b : Sheet) (xs : List ℕ) → AllBelow b.slots xs → length xs ≡ words_needed plan t → AddsTail plan t b (with_more b (Return xs))
  return_adds b xs below count = record {
    grows = Grows-append b.code (Return xs ∷ []);
    more = omega arith;
    params = refl;
    written = λ s lo hi. absurd (omega (arith, lo, hi));
    fine = λ pc j lo e.
        let code = b.code ++ Return xs ∷ [] in
        let long : length code ≡ length b.code + 1 = length-append b.code (Return xs ∷ []) in
        let lt = slice_get_within code pc j e in
        let same : pc ≡ length b.code = omega (arith, lo, lt, long) in
        let is : Return xs ≡ j = same_Some (Return xs) j (sym (get-seam b.code (Return xs) []) ∙ ap (λ k. slice_get code k) (sym same) ∙ e) in
        subst (λ (k : Instr). FitsTail plan t b.slots (length code) pc k) is (record { bounded = tt; slots_fit = below-all b.slots xs below; targets = tt; calls = inr (xs, refl, count) });
  }

  pub return_is : (b : Sheet) (xs : List ℕ) → AllBelow b.slots xs → length xs ≡ words_needed plan t → IsTail plan t b (with_more b (Return xs))
  return_is b xs below count =
      let code = b.code ++ Return xs ∷ [] in
      let long : length code ≡ length b.code + 1 = length-append b.code (Return xs ∷ []) in
      let last : length code - 1 ≡ length b.code = omega (arith, long) in
      record {
        adds = return_adds b xs below count;
        longer = omega (arith, long);
        ends = (xs, ap (λ k. slice_get code k) last ∙ get-seam b.code (Return xs) []);
      }

-- Targets that are set

module _ (plan : Plan) (t : Ty) where
  all_retargeted : (P : SwitchArm → Type 0) (arms : List SwitchArm) (k to : ℕ) → ((x : SwitchArm) → P x → P (record x { target = to })) → All P arms → All P (with_arm_target arms k to)
  all_retargeted P [] k to f h = h
  all_retargeted P (x ∷ arms) zero to f h = All-cons P (record x { target = to }) arms (f x (All-head P x arms h)) (All-tail P x arms h)
  all_retargeted P (x ∷ arms) (suc k) to f h = All-cons P x (with_arm_target arms k to) (All-head P x arms h) (all_retargeted P arms k to f (All-tail P x arms h))

  retarget_fits : (n long pc : ℕ) (i : Instr) (x : Option ℕ) (to : ℕ) → HoleView i x → pc < to → to < long → FitsTail plan t n long pc i → FitsTail plan t n long pc (with_one_target i x to)
  retarget_fits n long pc _ _ to (jump u) lt le f = record { bounded = tt; slots_fit = tt; targets = (lt, le); calls = inl tt }
  retarget_fits n long pc _ _ to (other a u arms) lt le f = record { bounded = f.bounded; slots_fit = f.slots_fit; targets = ((lt, le), f.targets.1); calls = inl tt }
  retarget_fits n long pc _ _ to (branch a o arms k h) lt le f = record {
    bounded = all_retargeted (λ (x : SwitchArm). x.number < 18446744073709551616) arms k to (λ x p. p) f.bounded;
    slots_fit = f.slots_fit;
    targets = (f.targets.0, all_retargeted (λ (x : SwitchArm). IsTarget long pc x.target) arms k to (λ x p. (lt, le)) f.targets.1);
    calls = inl tt;
  }

  writes_none : (i : Instr) (x : Option ℕ) (s : ℕ) → HoleView i x → Contains (dests i) s → ⊥
  writes_none _ _ s (jump u) h = omega (arith, h.1)
  writes_none _ _ s (other a u arms) h = omega (arith, h.1)
  writes_none _ _ s (branch a o arms k lt) h = omega (arith, h.1)

  module _ (a b : Sheet) (h : Hole) (to : ℕ) (g : AddsTail plan t a b) (p : IsPatched b h to (with_target_at b h to)) (low : length a.code ≤ h.pc) (forward : h.pc < to) (within : to < length b.code) where
    abbrev c : Sheet
    c = with_target_at b h to

    set_written : (s : ℕ) (x : IsWrittenFrom b.code (length a.code) s) → (q : Bool) → eqb x.0 h.pc ≡ q → IsWrittenFrom c.code (length a.code) s
    set_written s x true e =
        let same : x.0 ≡ h.pc = grind arith in
        let is : p.old ≡ x.1 = same_Some p.old x.1 (sym p.is_old ∙ ap (λ n. slice_get b.code n) (sym same) ∙ x.3) in
        absurd (writes_none p.old h.arm s p.view (subst (λ (i : Instr). Contains (dests i) s) (sym is) x.4))
    set_written s x false e =
        let ne : x.0 ≢ h.pc = grind arith in (x.0, x.1, x.2, p.elsewhere x.0 ne ∙ x.3, x.4)

    set_fine : (pc : ℕ) (i : Instr) → length a.code ≤ pc → slice_get c.code pc ≡ Some i → (q : Bool) → eqb pc h.pc ≡ q → FitsTail plan t b.slots (length b.code) pc i
    set_fine pc i lo at true e =
        let same : pc ≡ h.pc = grind arith in
        let old : FitsTail plan t b.slots (length b.code) h.pc p.old = g.fine h.pc p.old low p.is_old in
        let is : with_one_target p.old h.arm to ≡ i = same_Some (with_one_target p.old h.arm to) i (sym p.here ∙ ap (λ n. slice_get c.code n) (sym same) ∙ at) in
        subst (λ n. FitsTail plan t b.slots (length b.code) n i) (sym same) (subst (λ (j : Instr). FitsTail plan t b.slots (length b.code) h.pc j) is (retarget_fits b.slots (length b.code) h.pc p.old h.arm to p.view forward within old))
    set_fine pc i lo at false e =
        let ne : pc ≢ h.pc = grind arith in g.fine pc i lo (sym (p.elsewhere pc ne) ∙ at)

    set_adds : AddsTail plan t a c
    set_adds = record {
      grows = record { longer = omega (arith, p.long, g.grows.longer); same = λ pc lt. let ne : pc ≢ h.pc = omega (arith, lt, low) in p.elsewhere pc ne ∙ g.grows.same pc lt };
      more = g.more;
      params = g.params;
      written = λ s lo hi. let x = g.written s lo hi in set_written s x (eqb x.0 h.pc) refl;
      fine = λ pc i lo at. subst (λ n. FitsTail plan t b.slots n pc i) (sym p.long) (set_fine pc i lo at (eqb pc h.pc) refl);
    }

  -- each hole of the code is set to a target behind it and within
  pub tail_closed : (b q : Sheet) (hs : List Hole) (ts : List ℕ) (m : ℕ) → m < length q.code → AddsTail plan t b q → AreAllHoles q.code hs → AreClosable (length b.code) m hs ts → AddsTail plan t b (with_targets q hs ts)
  tail_closed b q [] ts m lt adds holes c = adds
  tail_closed b q (h ∷ hs) ts m lt adds holes c =
      let to = slice_index ts h.leaf in
      let p = patch_is q h to holes.0 in
      tail_closed b (with_target_at q h to) hs ts m (omega (arith, lt, p.long)) (set_adds b q h to adds p c.0 c.1 (omega (arith, lt, c.2))) (all_holes_patched q h to hs holes.1) c.3

-- What it does

-- the same by another name of the meaning
pub same_tail : (plan : Plan) (ev ev' : Calls → ℕ → List Binding → Outcome) (ls : List Local) (a b : Sheet) (t : Ty)
    → ((calls : Calls) (left : ℕ) (env : List Binding) → ev calls left env ≡ ev' calls left env) → EmitsTail plan ev' ls a b t → EmitsTail plan ev ls a b t
same_tail plan ev ev' ls a b t eq e = record {
  tail = e.tail;
  does = λ calls clean env. record {
    runs = λ final callee next law rel agrees s w long good pre.
        subst (λ o. Does plan (w.switches + 0) (next (length a.code) s w) w.memory o (GivesValue plan clean t (next (length a.code) s w))) (sym (eq calls w.left env))
        ((e.does calls clean env).runs final callee next law rel agrees s w long good pre);
  };
}

-- a value, and a return of it
module _ (plan : Plan) (ev : Calls → ℕ → List Binding → Outcome) (ls : List Local) (a b : Sheet) (t : Ty) (xs : List ℕ) (e : Emits plan ev ls a b t xs) where
  abbrev last : Sheet
  last = with_more b (Return xs)

  long_is : length (b.code ++ Return xs ∷ []) ≡ length b.code + 1
  long_is = length-append b.code (Return xs ∷ [])

  pub value_returns : EmitsTail plan ev ls a last t
  value_returns = record {
    tail = is_tail_behind plan t a b last e.adds (return_is plan t b xs e.given e.count);
    does = λ calls clean env. record {
      runs = λ final callee next law rel agrees s w long good pre.
          let out = next (length a.code) s w in
          let o = ev calls w.left env in
          let l1 = e.adds.grows.longer in
          let agrees1 = Agrees-part final last.code b.code (length a.code) (length last.code) (length a.code) (length b.code) Nowhere Nowhere (Grows-append b.code (Return xs ∷ [])) (omega arith) (omega (arith, long_is)) (omega arith) (λ pc lo hi x. x) agrees in
          let there : slice_get final (length b.code) ≡ Some (Return xs) = agrees.same (length b.code) l1 (omega (arith, long_is)) (λ x. x) ∙ get-seam b.code (Return xs) [] in
          let Ok = GivesValue plan clean t out in
          does_map plan (w.switches + 0) w.switches out out Ok Ok w.memory o (omega arith) refl (λ v w' x. x)
          (does_later plan w.switches out Ok (Comes plan clean out next (length b.code) a.slots t xs s) w.memory o
          (λ v w' r. (taken w', refl, refl, (let le : w'.switches ≤ w'.switches = omega arith in le), (slots_at r.0 xs, r.1 ∙ law.step (length b.code) (Return xs) r.0 w' there, r.3)))
          ((e.does calls clean env).runs final callee next law rel agrees1 s w long good pre));
    };
  }

-- a value, and then code that returns what depends on it
module _ (plan : Plan) (clean : Bool) (calls : Calls) (a b c : Sheet) (t u : Ty) (xs : List ℕ) (Pre : List ℕ → Memory → Type 0) (Mid : Value → List ℕ → Memory → Type 0) (o : ℕ → Outcome) (go : Value → ℕ → Outcome) (ga : Adds plan a b) (gb : AddsTail plan u b c)
    (first : Fragment plan clean calls a b Pre o t xs) (second : (v : Value) → Tail plan clean calls 0 b c (Mid v) (go v) u)
    (between : (v : Value) (s s' : List ℕ) (m m' : Memory) → Extends m m' → Keeps a.slots s s' → Rep plan m' clean t v (slots_at s' xs) → Pre s m → Mid v s' m') where
  pub value_then_tail : Tail plan clean calls 0 a c Pre (λ left. then_do (o left) go) u
  value_then_tail = record {
    runs = λ final callee next law rel agrees s w long good pre.
        let out = next (length a.code) s w in
        let l1 = ga.grows.longer in let l2 = gb.grows.longer in
        let long1 : b.slots ≤ length s = omega (arith, gb.more, long) in
        let agrees1 = Agrees-part final c.code b.code (length a.code) (length c.code) (length a.code) (length b.code) Nowhere Nowhere gb.grows (omega arith) (omega (arith, l2)) (omega arith) (λ pc lo hi x. x) agrees in
        let agrees2 = Agrees-part final c.code c.code (length a.code) (length c.code) (length b.code) (length c.code) Nowhere Nowhere (Grows-refl c.code) (omega (arith, l1)) (omega arith) (omega arith) (λ pc lo hi x. x) agrees in
        let d1 = first.runs final callee next law rel agrees1 s w long1 good pre in
        let Ok = GivesValue plan clean u out in
        does_map plan (w.switches + 0) w.switches out out Ok Ok w.memory (then_do (o w.left) go) (omega arith) refl (λ v w' x. x)
        (bind plan out Ok (Comes plan clean out next (length b.code) a.slots t xs s) w.switches w.memory (o w.left) go d1
        (λ v w1 bs p g mid.
        let s1 = mid.0 in
        let long2 : c.slots ≤ length s1 = omega (arith, mid.2.long, long) in
        let ext = Grown-extends w.memory w1.memory bs p good g in
        let out1 = next (length b.code) s1 w1 in
        does_map plan w1.switches (w1.switches + 0) out out1 Ok (GivesValue plan clean u out1) w1.memory (go v w1.left) (omega arith) mid.1
        (λ x w' r. (r.0, mid.1 ∙ r.1, r.2))
        ((second v).runs final callee next law rel agrees2 s1 w1 long2 g.good (between v s s1 w.memory w1.memory ext mid.2 mid.3 pre))));
  }

-- an arm: its variables, with their switches, and its body
module _ (plan : Plan) (clean : Bool) (calls : Calls) (n : ℕ) (t : Ty) (a b c : Sheet) (inner : List Local) (Pre : List ℕ → Memory → Type 0) (env : List Binding) (eb : Calls → ℕ → List Binding → Outcome) (extra : ℕ)
    (bound : CodePiece plan n a b Nowhere extra Pre (AtEnd b (λ s m. Holds plan clean s m inner env))) (body : EmitsTail plan eb inner b c t) where
  pub bound_then_tail : Tail plan clean calls extra a c Pre (λ left. eb calls left env) t
  bound_then_tail = record {
    runs = λ final callee next law rel agrees s w room good pre.
        let out = next (length a.code) s w in
        let l1 = bound.adds.grows.longer in let l2 = body.tail.adds.grows.longer in
        let agrees1 = Agrees-part final c.code b.code (length a.code) (length c.code) (length a.code) (length b.code) Nowhere Nowhere body.tail.adds.grows (omega arith) (omega (arith, l2)) (omega arith) (λ pc lo hi x. x) agrees in
        let agrees2 = Agrees-part final c.code c.code (length a.code) (length c.code) (length b.code) (length c.code) Nowhere Nowhere (Grows-refl c.code) (omega (arith, l1)) (omega arith) (omega arith) (λ pc lo hi x. x) agrees in
        let long1 : b.slots ≤ length s = omega (arith, room, body.tail.adds.more) in
        let r = bound.runs final callee next law agrees1 s w long1 pre in
        let long2 : c.slots ≤ length r.1 = omega (arith, r.4.long, room) in
        let good1 : IsGood r.2.memory = subst (λ m. IsGood m) (sym r.5.memory) good in
        let holds : Holds plan clean r.1 r.2.memory inner env = subst (λ m. Holds plan clean r.1 m inner env) (sym r.5.memory) r.6.1 in
        let out1 = next (length b.code) r.1 r.2 in
        let Mid = GivesValue plan clean t out1 in
        let same : out ≡ out1 = subst (λ pc. out ≡ next pc r.1 r.2) r.6.0 r.3 in
        let few = r.5.switches in
        let d1 = (body.does calls clean env).runs final callee next law rel agrees2 r.1 r.2 long2 good1 holds in
        let d2 = subst (λ l. Does plan (r.2.switches + 0) out1 r.2.memory (eb calls l env) Mid) r.5.left d1 in
        let d3 = subst (λ m. Does plan (r.2.switches + 0) out1 m (eb calls w.left env) Mid) r.5.memory d2 in
        does_map plan (w.switches + extra) (r.2.switches + 0) out out1 (GivesValue plan clean t out) Mid w.memory (eb calls w.left env) (omega (arith, few)) same (λ v w' q. (q.0, same ∙ q.1, q.2)) d3;
  }
