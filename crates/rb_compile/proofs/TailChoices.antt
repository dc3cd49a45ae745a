-- A match in a tail position, from its scrutinee, the choice of a clause and the arms.
use Rattle.std.proofs.Common.{◌≡◌, ◌++◌, ℕ, zero, suc, ◌+◌, ◌-◌, ◌<◌, ◌≤◌, Bool, true, false, eqb, List, [], ◌∷◌, map, length, Option, Some, None, Ok, refl, sym, subst, ap, ◌∙◌, arith}
use Rattle.std.proofs.lemmas.Option.{same_Some, slice_get_within}
use Rattle.std.specs.Prelude.{slice_get, slice_index}
use Rattle.rb_core.specs.declared.value.Value.{Value}
use Rattle.rb_core.specs.declared.types.Ty.{Ty}
use Rattle.rb_core.specs.declared.binding.Binding.{Binding}
use Rattle.rb_core.specs.declared.pattern.Pat.{Pat}
use Rattle.rb_core.specs.declared.expression.Clause.{Clause}
use Rattle.rb_core.specs.declared.expression.Expr.{Expr}
use Rattle.rb_core.specs.declared.expression.Expr as X
use Rattle.rb_core.specs.declared.outcome.Event.TheVariants.{Matched}
use Rattle.rb_core.specs.declared.outcome.Outcome.{Outcome}
use Rattle.rb_core.specs.Clauses.{pat_of, wanted_of}
use Rattle.rb_core.specs.Inference.{binders, inferred_type}
use Rattle.rb_core.specs.Matching.{chosen_clause, bindings, matches_of}
use Rattle.rb_core.specs.Meaning.{Calls, after, clause_meaning, first_of, meaning_of, spent_outcome, then_do}
use Rattle.rb_core.specs.Typing.{type_of}
use Rattle.rb_core.proofs.MeaningForms.{meaning-Match}
use Rattle.rb_core.proofs.NumberedForms.{numbered-Match}
use Rattle.rb_core.proofs.PartForms.{first_chosen}
use Rattle.rb_core.proofs.TypedForms.{patterns_typed, typed-Match}
use Rattle.rb_bytes.specs.Memory.{Memory, IsGood}
use Rattle.rb_bytes.proofs.GrowthLemmas.{Grown-extends, Grown-refl}
use Rattle.rb_target.specs.declared.instr.Instr.{Instr}
use Rattle.rb_target.specs.declared.body.Hole.{Hole}
use Rattle.rb_target.specs.Growth.{AgreesBut, Grows, Keeps, Nowhere}
use Rattle.rb_target.specs.Laws.{Law}
use Rattle.rb_target.specs.Meaning.{World, Next, Callee, slots_at}
use Rattle.rb_target.specs.Sheet.{Sheet}
use Rattle.rb_target.specs.Targets.{IsHoleAmong}
use Rattle.rb_target.specs.Validity.{EndsInReturn}
use Rattle.rb_layout.specs.declared.agreed.LaidOut.{LaidOut}
use Rattle.rb_fragment.specs.declared.held.Held.{Held}
use Rattle.rb_fragment.specs.declared.held.Local.{Local}
use Rattle.rb_fragment.specs.Arms.{AreHoles, AreOfOneWay, ArePatchable, with_targets}
use Rattle.rb_fragment.specs.Holding.{AreGiven, Holds, scope_of}
use Rattle.rb_fragment.specs.Owing.{Does, GivesValue, CallsAgree}
use Rattle.rb_fragment.specs.Pieces.{Branches, ReachesExit}
use Rattle.rb_fragment.specs.Plan.{Plan, Rep}
use Rattle.rb_fragment.specs.Slots.{AllBelow, AllFrom}
use Rattle.rb_fragment.proofs.Closing.{closed_is}
use Rattle.rb_fragment.proofs.Holds.{AreGiven-more, Holds-kept, slots_at-kept}
use Rattle.rb_fragment.proofs.Laying.{does_map}
use Rattle.rb_fragment.proofs.Patching.{AreClosable, all_holes_grow, all_holes_of, at_closed, closed_length, closed_slots, from_at, hole_from, hole_within, holes_patchable, retarget_all, retarget_none}
use Rattle.rb_fragment.proofs.Pieces.{branches_frame, branches_weaken, does_event, reached_does}
use Rattle.rb_fetch.specs.Fetching.{PlanIsSound}
use Rattle.rb_fetch.specs.Finding.{IsPlanOf}
use Rattle.rb_match.specs.Bounding.{binding_bound, choosing_bound}
use Rattle.rb_match.proofs.Sharing.{bound_shared}
use Rattle.rb_match.specs.Choosing.{ChoosesClause, WordsChoose}
use Rattle.rb_rel.proofs.Lists.{get-mapped}
use Rattle.rb_compile.specs.inner.Ready.{SiteIsReady}
use Rattle.rb_compile.specs.inner.Forms.{EmitsExpr, meaning_within}
use Rattle.rb_compile.specs.inner.Arms.{GroundIsReady, IsSubject}
use Rattle.rb_compile.specs.inner.Tails.{AddsTail, DoesTailNumber, EmitsReturn, EmitsTailArms, IsTail, Tail, TailArmIn, TailArmsAre, TailArmsDone, TailArmsIn, TailsAreReady}
use Rattle.rb_compile.proofs.Choices.{chosen_is, patterns_are, rep_typed, some_at, some_of}
use Rattle.rb_compile.proofs.Sites.{ready-Match}
use Rattle.rb_compile.proofs.Returning.{is_tail_behind, same_tail, tail_behind, tail_closed, value_then_tail}

-- holes may be set to where the arms begin
closable : (from m : ℕ) (e : Sheet) (hs : List Hole) (ts : List ℕ) → AreHoles from (length ts) e.code hs → AllFrom (length e.code) ts → ((k : ℕ) → k < length ts → slice_index ts k ≤ m) → AreClosable from m hs ts
closable from m e [] ts a starts low = tt
closable from m e (h ∷ hs) ts a starts low =
    let lt = hole_within e.code h a.2 in
    let le = from_at (length e.code) ts h.leaf starts a.1 in
    (a.0, omega (arith, lt, le), low h.leaf a.1, closable from m e hs ts a.3 starts low)

-- What chooses a way leads to its arm, and each arm returns.
module _ (plan : Plan) (n most count : ℕ) (b e q : Sheet) (t : Ty) (holes : List Hole) (starts : List ℕ) (Pre Mid : ℕ → List ℕ → Memory → Type 0)
    (choice : Branches plan n b e holes most Pre Mid) (holes_are : AreHoles (length b.code) count e.code holes) (ways : AreOfOneWay holes)
    (adds : AddsTail plan t e q) (some : length e.code < length q.code) (ends : EndsInReturn q.code) (are : TailArmsAre count e q starts) where
  abbrev whole : Sheet
  whole = with_targets q holes starts

  len : length whole.code ≡ length q.code
  len = closed_length q holes starts

  slots_are : whole.slots ≡ q.slots
  slots_are = closed_slots q holes starts

  -- behind the chooser nothing is changed
  behind_same : (pc : ℕ) → length e.code ≤ pc → slice_get whole.code pc ≡ slice_get q.code pc
  behind_same pc lo = at_closed q holes starts pc
      ∙ retarget_none pc holes starts (slice_get q.code pc) (λ h. let k = hole_from pc (length b.code) count e.code holes holes_are h in omega (arith, k.1, lo))

  whole_is : ((k : ℕ) → k < count → slice_index starts k < length q.code) → IsTail plan t b whole
  whole_is low =
      let m = length q.code - 1 in
      let within : m < length q.code = omega (arith, some) in
      let holes1 = subst (λ j. AreHoles (length b.code) j e.code holes) (sym are.count_is) holes_are in
      let last : length whole.code - 1 ≡ m = omega (arith, len) in
      record {
        adds = tail_closed plan t b q holes starts m within (tail_behind plan t b e q choice.adds some adds) (all_holes_grow e.code q.code holes adds.grows (all_holes_of (length b.code) count e.code holes holes_are))
            (closable (length b.code) m e holes starts holes1 are.starts_from (λ k lt. let hi = low k (omega (arith, lt, are.count_is)) in omega (arith, hi)));
        longer = omega (arith, len, some, choice.adds.grows.longer);
        ends = (ends.0, ap (λ k. slice_get whole.code k) last ∙ behind_same m (omega (arith, some)) ∙ ends.1);
      }

  module _ (final : List Instr) (callee : Callee) (next : Next) (law : Law final callee next) (agrees : AgreesBut final whole.code (length b.code) (length whole.code) Nowhere) where
    stands : (pc : ℕ) → length b.code ≤ pc → pc < length q.code → slice_get final pc ≡ slice_get whole.code pc
    stands pc lo hi = agrees.same pc lo (omega (arith, hi, len)) (λ x. x)

    of_choice : AgreesBut final (with_targets e holes starts).code (length b.code) (length e.code) Nowhere
    of_choice = record {
      same = λ pc lo hi out.
          stands pc lo (omega (arith, hi, adds.grows.longer)) ∙ at_closed q holes starts pc
          ∙ ap (retarget_all pc holes starts) (adds.grows.same pc hi) ∙ sym (at_closed e holes starts pc);
    }

    of_arm : (st : ℕ) (P : Sheet → Sheet → Type 0) (x : TailArmIn e q st P) → AgreesBut final x.last.code (length x.first.code) (length x.last.code) Nowhere
    of_arm st P x = record {
      same = λ pc lo hi out.
          stands pc (omega (arith, lo, x.behind, choice.adds.grows.longer)) (omega (arith, hi, x.longer.longer))
          ∙ behind_same pc (omega (arith, lo, x.behind)) ∙ x.longer.same pc hi;
    }

    -- the way that is taken leads to its arm's start
    chooses : (s : List ℕ) (w : World) (k : ℕ) → whole.slots ≤ length s → IsGood w.memory → Pre k s w.memory
        → ReachesExit next (length b.code) n most (λ pc s' m. (pc ≡ slice_index starts k) × Mid k s' m) s w
    chooses s w k room good pre =
        let all = closed_is final holes starts e (length b.code) (length e.code) of_choice (all_holes_of (length b.code) count e.code holes holes_are) ways in
        let r = choice.leaves final callee next law all.finishes s w k (omega (arith, room, slots_are, adds.more)) good pre in
        let in_code = one_hole r.hole holes r.is_hole holes_are in
        let to = all.leads r.hole r.is_hole in_code.0 in_code.1 in
        let same : r.target ≡ slice_index starts k = same_Some r.target (slice_index starts k) (sym r.is_target ∙ to ∙ ap (λ i. Some (slice_index starts i)) r.is_way) in
        (r.target, r.slots, r.world, r.runs, r.keeps, r.later, (same, r.exit))
      where
        one_hole : (h : Hole) (hs : List Hole) → IsHoleAmong h hs → AreHoles (length b.code) count e.code hs → (length b.code ≤ h.pc) × (h.pc < length e.code)
        one_hole h [] (k, at) a = cc at
        one_hole h (x ∷ hs) (zero, at) a =
            let is : x ≡ h = same_Some x h at in
            let lt = hole_within e.code x a.2 in
            subst (λ (y : Hole). (length b.code ≤ y.pc) × (y.pc < length e.code)) is (a.0, lt)
        one_hole h (x ∷ hs) (suc k, at) a = one_hole h hs (k, at) a.3

  module _ (clean : Bool) (calls : Calls) (o : ℕ → ℕ → Outcome) (extra : ℕ → ℕ) (stand : TailArmsIn count e q starts (λ k a d. Tail plan clean calls (extra k) a d (Mid k) (o k) t)) where
    does : (final : List Instr) (callee : Callee) (next : Next) → Law final callee next → CallsAgree plan calls callee → AgreesBut final whole.code (length b.code) (length whole.code) Nowhere
        → (s : List ℕ) (w : World) (k : ℕ) → k < count → whole.slots ≤ length s → IsGood w.memory → Pre k s w.memory
        → Does plan (w.switches + (most + extra k)) (next (length b.code) s w) w.memory (o k w.left) (GivesValue plan clean t (next (length b.code) s w))
    does final callee next law rel agrees s w k lt room good pre =
        let x = stand k lt in
        let r = chooses final callee next law agrees s w k room good pre in
        let to : r.0 ≡ length x.first.code = r.6.0 ∙ x.begins in
        let out1 = next (length x.first.code) r.1 r.2 in
        let long_d : x.last.slots ≤ length r.1 = omega (arith, r.4.long, room, slots_are, x.more) in
        let good1 : IsGood r.2.memory = subst (λ m. IsGood m) (sym r.5.memory) good in
        let mid1 : Mid k r.1 r.2.memory = subst (λ m. Mid k r.1 m) (sym r.5.memory) r.6.1 in
        let ok = o k r.2.left in
        let Ok1 = GivesValue plan clean t out1 in
        let d1 : Does plan (r.2.switches + extra k) out1 r.2.memory ok Ok1 =
        x.does.runs final callee next law rel (of_arm final callee next law agrees (slice_index starts k) (λ a d. Tail plan clean calls (extra k) a d (Mid k) (o k) t) x) r.1 r.2 long_d good1 mid1 in
        let d2 : Does plan (r.2.switches + extra k) (next r.0 r.1 r.2) r.2.memory ok Ok1 = subst (λ pc. Does plan (r.2.switches + extra k) (next pc r.1 r.2) r.2.memory ok Ok1) (sym to) d1 in
        let out = next (length b.code) s w in
        let same : out ≡ out1 = subst (λ pc. out ≡ next pc r.1 r.2) to r.3 in
        let Ok = GivesValue plan clean t out in
        let d3 = reached_does plan next (length b.code) n most (extra k) (λ pc s' m. (pc ≡ slice_index starts k) × Mid k s' m) s w ok Ok Ok1 r (λ u w' y. (y.0, same ∙ y.1, y.2)) d2 in
        subst (λ l. Does plan (w.switches + (most + extra k)) out w.memory (o k l) Ok) r.5.left d3

    -- the match's event pays for the switches that choose, and for those of the chosen arm
    chosen_returns : (f at : ℕ) → ((k : ℕ) → k < count → most + extra k ≤ plan.bound f at) → (From : List ℕ → Memory → Type 0) (meaning : ℕ → Outcome)
        → ((s : List ℕ) (m : Memory) → IsGood m → From s m → (k : ℕ) × (k < count) × Pre k s m × ((left : ℕ) → meaning left ≡ o k left))
        → Tail plan clean calls 0 b whole From (λ left. after (Matched f at ∷ []) (meaning left)) t
    chosen_returns f at few From meaning choose = record {
      runs = λ final callee next law rel agrees s w long good from.
          let c = choose s w.memory good from in
          let out = next (length b.code) s w in
          let Ok = GivesValue plan clean t out in
          let base = w.switches + 0 in
          let d = does final callee next law rel agrees s w c.0 c.1 long good c.2 in
          let paid = few c.0 c.1 in
          let most1 : w.switches + (most + extra c.0) ≤ base + plan.bound f at = omega (arith, paid) in
          let d1 = does_map plan (base + plan.bound f at) (w.switches + (most + extra c.0)) out out Ok Ok w.memory (o c.0 w.left) most1 refl (λ v w' y. y) d in
          does_event plan base out w.memory (Matched f at) (meaning w.left) Ok refl
          (subst (λ r. Does plan (base + plan.bound f at) out w.memory r Ok) (sym (c.3 w.left)) d1);
    }

-- arms that do one thing do what follows from it
tail_arms_map : (count : ℕ) (e q : Sheet) (starts : List ℕ) (P Q : ℕ → Sheet → Sheet → Type 0) → ((k : ℕ) (a d : Sheet) → k < count → P k a d → Q k a d) → TailArmsIn count e q starts P → TailArmsIn count e q starts Q
tail_arms_map count e q starts P Q g arms k lt =
    let o = arms k lt in
    record {
      first = o.first;
      last = o.last;
      begins = o.begins;
      behind = o.behind;
      some = o.some;
      longer = o.longer;
      more = o.more;
      does = g k o.first o.last lt o.does;
    }

wanted_same : (k : ℕ) (t : Ty) → wanted_of k (Some t) (Some t) ≡ Some t
wanted_same zero t = refl
wanted_same (suc k) t = refl

-- All, where the scrutinee stands in its slots

module _ (plan : Plan) (f at : ℕ) (cs : List Clause) (ls : List Local) (b c q : Sheet) (holes : List Hole) (starts : List ℕ) (s t : Ty) (xs : List ℕ)
    (sound : PlanIsSound plan) (site : SiteIsReady plan f (record { at = at; scrutinee = s; patterns = map pat_of cs })) (given : AreGiven plan b.slots ls) (low : AllBelow b.slots xs)
    (choice : Branches plan b.slots b c holes (choosing_bound plan.program.types plan.layouts s (map pat_of cs)) (λ k sl m. WordsChoose plan s (map pat_of cs) k (slots_at sl xs) m) (λ k sl m. Unit {0}))
    (holes_are : AreHoles (length b.code) (length cs) c.code holes) (ways : AreOfOneWay holes) (are : TailArmsAre (length cs) c q starts)
    (done : TailArmsDone plan f (length cs) cs ls s t xs c q starts) (some : 0 < length cs) where
  abbrev pats : List Pat
  pats = map pat_of cs

  abbrev most : ℕ
  most = choosing_bound plan.program.types plan.layouts s pats

  -- the switches that bind the variables of a clause's pattern
  abbrev binding_in : Option Clause → ℕ
  binding_in None = 0
  binding_in (Some x) = binding_bound plan.program.types plan.layouts s x.pat

  abbrev own : ℕ → ℕ
  own k = binding_in (slice_get cs k)

  shares : (k : ℕ) → k < length cs → most + own k ≤ plan.bound f at
  shares k lt =
      let x = some_at cs k lt in
      let share = bound_shared plan.program.types plan.layouts s pats k x.0.pat (get-mapped pat_of cs k x.0 x.1) in
      let same : own k ≡ binding_bound plan.program.types plan.layouts s x.0.pat = ap binding_in x.1 in
      let paid = site.paid in
      omega (arith, share, same, paid)

  abbrev Chosen : ℕ → List ℕ → Memory → Type 0
  Chosen k sl m = WordsChoose plan s pats k (slots_at sl xs) m

  abbrev Any : ℕ → List ℕ → Memory → Type 0
  Any k sl m = Unit {0}

  pub choice_is : IsTail plan t b (with_targets q holes starts)
  choice_is = whole_is plan b.slots most (length cs) b c q t holes starts Chosen Any choice holes_are ways done.adds (done.ends some).0 (done.ends some).1 are
      (λ k lt. let o = done.arms k lt in omega (arith, o.begins, o.some, o.longer.longer))

  module _ (calls : Calls) (clean : Bool) (env : List Binding) (v : Value) where
    -- clause k is chosen, for the value whose words are in the slots
    abbrev Taken : ℕ → List ℕ → Memory → Type 0
    Taken k sl m = (chosen_clause pats v ≡ Some k) × Rep plan m clean s v (slots_at sl xs) × Holds plan clean sl m ls env × IsGood m

    stays : (k : ℕ) (sl sl' : List ℕ) (m : Memory) → Keeps b.slots sl sl' → Taken k sl m → Taken k sl' m
    stays k sl sl' m keeps h = (
      h.0,
      subst (λ us. Rep plan m clean s v us) (sym (slots_at-kept b.slots sl sl' xs low keeps)) h.1,
      Holds-kept plan clean m m (Grown-extends m m [] m.next h.3 (Grown-refl m h.3)) b.slots sl sl' keeps ls env given h.2,
      h.3,
    )

    takes : Branches plan b.slots b c holes most Taken Taken
    takes = branches_weaken plan b.slots b.slots b c holes most most (λ k sl m. Taken k sl m × Chosen k sl m) Taken (λ k sl m. Taken k sl m × Any k sl m) Taken (omega arith) (omega arith)
        (λ k sl m x. (x, record { clean = clean; value = v; represents = x.1; chosen = x.0 })) (λ k sl m x. x.0)
        (branches_frame plan b.slots b c holes most Taken Chosen Any stays choice)

    abbrev outcome_of : Option Clause → ℕ → Outcome
    outcome_of None left = spent_outcome
    outcome_of (Some x) left = meaning_of plan.program calls f x.body (Some t) (scope_of ls ++ binders plan.program.types x.pat s) left (env ++ bindings x.pat v)

    abbrev outcome : ℕ → ℕ → Outcome
    outcome k left = outcome_of (slice_get cs k) left

    arms_do : TailArmsIn (length cs) c q starts (λ k a d. Tail plan clean calls (own k) a d (Taken k) (outcome k) t)
    arms_do = tail_arms_map (length cs) c q starts (DoesTailNumber plan f cs ls s t xs) (λ k a d. Tail plan clean calls (own k) a d (Taken k) (outcome k) t)
        (λ k a d lt does.
        let x = some_at cs k lt in
        let one = does x.0 x.1 in
        record {
          runs = λ final callee next law rel agrees sl w long good pre.
              let y = chosen_is cs v k pre.0 in
              let same : y.0 ≡ x.0 = same_Some y.0 x.0 (sym y.1 ∙ x.1) in
              let matches = subst (λ (z : Clause). matches_of z.pat v ≡ true) same y.2 in
              let out = next (length a.code) sl w in
              subst (λ o. Does plan (w.switches + binding_in o) out w.memory (outcome_of o w.left) (GivesValue plan clean t out)) (sym x.1)
              ((one.does calls clean env v matches).runs final callee next law rel agrees sl w long good (pre.1, pre.2));
        }) done.arms

    abbrev chosen_does : ℕ → Outcome
    chosen_does left = first_of plan.program.types s (map (clause_meaning plan.program calls f) cs) (Some t) (Some t) (scope_of ls) v left env

    pub choice_returns : Tail plan clean calls 0 b (with_targets q holes starts) (λ sl m. Rep plan m clean s v (slots_at sl xs) × Holds plan clean sl m ls env) (λ left. after (Matched f at ∷ []) (chosen_does left)) t
    choice_returns =
        chosen_returns plan b.slots most (length cs) b c q t holes starts Taken Taken takes holes_are ways done.adds (done.ends some).0 (done.ends some).1 are clean calls outcome own arms_do f at shares
        (λ sl m. Rep plan m clean s v (slots_at sl xs) × Holds plan clean sl m ls env) chosen_does
        (λ sl m good from.
        let k = some_of (chosen_clause pats v) (site.exhaustive v (rep_typed plan sound clean m s v (slots_at sl xs) from.0)) in
        let x = chosen_is cs v k.0 k.1 in (
          k.0,
          slice_get_within cs k.0 x.0 x.1,
          (k.1, from.0, from.1, good),
          λ left. first_chosen plan.program calls f s (scope_of ls) v left env cs (Some t) (Some t) k.0 x.0 k.1 x.1
              ∙ ap (λ u. meaning_of plan.program calls f x.0.body u (scope_of ls ++ binders plan.program.types x.0.pat s) left (env ++ bindings x.0.pat v)) (wanted_same k.0 t)
              ∙ sym (ap (λ o. outcome_of o left) x.1),
        ))

-- The whole

module _ (agreed : LaidOut) (plan : Plan) (of_agreed : IsPlanOf agreed plan) (f at : ℕ) (e : Expr) (cs : List Clause) (t : Ty) (ls : List Local) (a b c q : Sheet) (subject : Held) (holes : List Hole) (starts : List ℕ) (some : 0 < length cs) where
  abbrev returned : Sheet
  returned = with_targets q holes starts

  pub match_return : EmitsExpr plan f e None ls a b subject → ChoosesClause agreed subject.ty (map pat_of cs) subject.slots b c holes → AreHoles (length b.code) (length cs) c.code holes → AreOfOneWay holes
      → EmitsTailArms plan f (length cs) cs t ls subject c q starts → TailArmsAre (length cs) c q starts → EmitsReturn plan f (X.Match at e cs) t ls a returned
  match_return first choose holes_are ways arms are = λ ready.
      let types = plan.program.types in let funs = plan.program.funs in
      let wanted = Some t in
      let scope = scope_of ls in
      let tm = typed-Match types funs at e cs wanted scope t ready.typed in
      let s = tm.0 in
      let nm = numbered-Match types funs at e cs ready.within ready.numbered in
      let sites = ready-Match plan f at e cs scope s tm.2 ready.ready_sites in
      let patterns = patterns_typed types funs at e cs wanted scope t s ready.typed tm.1 in
      let A = first s (record { sound = ready.sound; typed = tm.1; within = ready.within; numbered = nm.0; given = ready.given; ready_sites = sites.1 }) in
      let sub : IsSubject plan b.slots subject s = (A.0, A.1.given, A.1.count) in
      let given1 = AreGiven-more plan a.slots b.slots ls A.1.adds.more ready.given in
      let chooses = subst (λ u. ChoosesClause agreed u (map pat_of cs) subject.slots b c holes) A.0 choose in
      let choice = chooses plan of_agreed (patterns_are types s cs patterns) sites.0.exhaustive A.1.given A.1.count in
      let each : TailsAreReady plan f cs ls s t = (λ k x there. record {
        sound = ready.sound;
        typed = subst (λ u. type_of types funs x.body u (scope ++ binders types x.pat s) ≡ Ok t) (wanted_same k t) (tm.4 k x there);
        pattern = patterns k x there;
        within = _;
        numbered = nm.1 k x there;
        ready_sites = sites.2 k x there;
      }) in
      let ground : GroundIsReady plan ls subject s b.slots c.slots = record { subject = sub; given = given1; low = choice.adds.more } in
      let done = arms s b.slots each ground in
      let sound = ready.sound in
      let tail = choice_is plan f at cs ls b c q holes starts s t subject.slots sound sites.0 given1 A.1.given choice holes_are ways are done some in
      let goes = λ (calls : Calls) (env : List Binding) (v : Value) (rest : ℕ). after (Matched f at ∷ []) (first_of types s (map (clause_meaning plan.program calls f) cs) wanted (Some t) scope v rest env) in
      same_tail plan (meaning_within plan f (X.Match at e cs) wanted ls) (λ calls left env. then_do (meaning_within plan f e None ls calls left env) (goes calls env)) ls a returned t
      (λ calls left env. meaning-Match plan.program calls f wanted scope left env at e cs
      ∙ ap (λ u. then_do (meaning_within plan f e None ls calls left env) (λ v rest. after (Matched f at ∷ []) (first_of types (inferred_type types funs e None scope) (map (clause_meaning plan.program calls f) cs) wanted (Some u) scope v rest env))) tm.3
      ∙ ap (λ u. then_do (meaning_within plan f e None ls calls left env) (λ v rest. after (Matched f at ∷ []) (first_of types u (map (clause_meaning plan.program calls f) cs) wanted (Some t) scope v rest env))) tm.2)
      (record {
        tail = is_tail_behind plan t a b returned A.1.adds tail;
        does = λ calls clean env. value_then_tail plan clean calls a b returned s t subject.slots (λ sl m. Holds plan clean sl m ls env) (λ v sl m. Rep plan m clean s v (slots_at sl subject.slots) × Holds plan clean sl m ls env)
            (λ left. meaning_within plan f e None ls calls left env) (goes calls env) A.1.adds tail.adds (A.1.does calls clean env)
            (λ v. choice_returns plan f at cs ls b c q holes starts s t subject.slots sound sites.0 given1 A.1.given choice holes_are ways are done some calls clean env v)
            (λ v sl sl' m m' ext keeps rep pre. (rep, Holds-kept plan clean m m' ext a.slots sl sl' keeps ls env ready.given pre));
      })

-- In any case

pub has_one : (n : ℕ) → eqb n 0 ≡ false → 0 < n
has_one zero e = cc
has_one (suc n) e = omega arith

pub tail_patchable : (count : ℕ) (b c q : Sheet) (holes : List Hole) (starts : List ℕ) → AreHoles (length b.code) count c.code holes → TailArmsAre count c q starts → ArePatchable q.code holes starts
tail_patchable count b c q holes starts holes_are are =
    holes_patchable (length b.code) c q holes starts are.grows (subst (λ n. AreHoles (length b.code) n c.code holes) (sym are.count_is) holes_are) are.starts_from

pub tail_grows : (a b e q : Sheet) (n : ℕ) (holes : List Hole) (starts : List ℕ) → Grows a.code b.code → Grows b.code e.code → AreHoles (length b.code) n e.code holes → TailArmsAre n e q starts
    → Grows a.code (with_targets q holes starts).code
tail_grows a b e q n holes starts g1 g2 holes_are are =
    let len = closed_length q holes starts in
    record {
      longer = omega (arith, len, g1.longer, g2.longer, are.grows.longer);
      same = λ pc lt.
          let in_b : pc < length b.code = omega (arith, lt, g1.longer) in let in_e : pc < length e.code = omega (arith, in_b, g2.longer) in
          at_closed q holes starts pc
          ∙ retarget_none pc holes starts _ (λ h. let k = hole_from pc (length b.code) n e.code holes holes_are h in omega (arith, k.0, in_b))
          ∙ are.grows.same pc in_e ∙ g2.same pc in_b ∙ g1.same pc lt;
    }
