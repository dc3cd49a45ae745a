-- A match, from its scrutinee, the choice of a clause and the arms.
use Rattle.std.proofs.Common.{◌≡◌, ◌++◌, ℕ, zero, suc, ◌+◌, ◌<◌, ◌≤◌, inl, Bool, true, false, List, [], ◌∷◌, map, length, Option, Some, None, refl, sym, subst, ap, ◌∙◌, arith}
use Rattle.std.proofs.lemmas.Option.{same_Some, slice_get_within}
use Rattle.std.specs.Prelude.{slice_get, is_some, if◌then◌else◌}
use Rattle.rb_core.specs.declared.value.Value.{Value}
use Rattle.rb_core.specs.declared.types.Ty.{Ty}
use Rattle.rb_core.specs.declared.types.DataDecl.{DataDecl}
use Rattle.rb_core.specs.declared.binding.Binding.{Binding}
use Rattle.rb_core.specs.declared.pattern.Pat.{Pat}
use Rattle.rb_core.specs.declared.expression.Clause.{Clause}
use Rattle.rb_core.specs.declared.expression.Expr.{Expr}
use Rattle.rb_core.specs.declared.expression.Expr as X
use Rattle.rb_core.specs.declared.outcome.Event.TheVariants.{Matched}
use Rattle.rb_core.specs.declared.outcome.Outcome.{Outcome}
use Rattle.rb_core.specs.Clauses.{PatternIsTyped, pat_of, wanted_of}
use Rattle.rb_core.specs.Inference.{binders, inferred_type}
use Rattle.rb_core.specs.Matching.{bindings, chosen_clause, matches_of, next_clause}
use Rattle.rb_core.specs.Meaning.{Calls, after, clause_meaning, first_of, meaning_of, spent_outcome, then_do}
use Rattle.rb_core.specs.Values.{is_of_type}
use Rattle.rb_core.proofs.MeaningForms.{meaning-Match}
use Rattle.rb_core.proofs.NumberedForms.{numbered-Match}
use Rattle.rb_core.proofs.PartForms.{first_chosen}
use Rattle.rb_core.proofs.TypedForms.{patterns_typed, typed-Match}
use Rattle.rb_bytes.specs.Memory.{Memory, IsGood}
use Rattle.rb_bytes.proofs.GrowthLemmas.{Grown-extends, Grown-refl}
use Rattle.rb_target.specs.declared.body.Hole.{Hole}
use Rattle.rb_target.specs.Growth.{Grows, Keeps}
use Rattle.rb_target.specs.Meaning.{slots_at}
use Rattle.rb_target.specs.Sheet.{Sheet}
use Rattle.rb_layout.specs.declared.agreed.LaidOut.{LaidOut}
use Rattle.rb_layout.specs.Flattening.{flat_layouts}
use Rattle.rb_rel.specs.Relation.{Represents}
use Rattle.rb_rel.proofs.Agreeing.{lawful}
use Rattle.rb_rel.proofs.Lists.{get-mapped}
use Rattle.rb_rel.proofs.Typing.{Represents-typed}
use Rattle.rb_fragment.specs.declared.held.Held.{Held}
use Rattle.rb_fragment.specs.declared.held.Local.{Local}
use Rattle.rb_fragment.specs.Plan.{Plan, Rep}
use Rattle.rb_fragment.specs.Owing.{Does}
use Rattle.rb_fragment.specs.Adding.{Adds}
use Rattle.rb_fragment.specs.Arms.{AreHoles, AreOfOneWay, CodeArm, ArmsAre, ArmsIn, CanClose, with_targets, whole_match}
use Rattle.rb_fragment.specs.Fragments.{Comes, Fragment}
use Rattle.rb_fragment.specs.Holding.{AreGiven, Holds, scope_of}
use Rattle.rb_fragment.specs.Pieces.{Branches}
use Rattle.rb_fragment.specs.Slots.{AllBelow}
use Rattle.rb_fragment.proofs.Adding.{Adds-trans}
use Rattle.rb_fragment.proofs.Fragments.{seq}
use Rattle.rb_fragment.proofs.Holds.{AreGiven-more, Holds-kept, slots_at-kept}
use Rattle.rb_fragment.proofs.Matches.{match_adds, match_fragment, match_slots}
use Rattle.rb_fragment.proofs.Moves.{one-from}
use Rattle.rb_fragment.proofs.Patching.{at_closed, closed_length, hole_from, join_from, retarget_none}
use Rattle.rb_fragment.proofs.Pieces.{branches_frame, branches_weaken}
use Rattle.rb_fetch.specs.Fetching.{PlanIsSound}
use Rattle.rb_fetch.specs.Finding.{IsPlanOf}
use Rattle.rb_match.specs.Bounding.{binding_bound, choosing_bound}
use Rattle.rb_match.proofs.Sharing.{bound_shared}
use Rattle.rb_match.specs.Choosing.{ChoosesClause, WordsChoose, PatternsAreTyped}
use Rattle.rb_compile.specs.inner.Ready.{SiteIsReady}
use Rattle.rb_compile.specs.inner.Forms.{EmitsExpr, meaning_within}
use Rattle.rb_compile.specs.inner.Arms.{ArmsDone, ClausesAreReady, DoesNumber, EmitsArms, GroundIsReady, IsSubject}
use Rattle.rb_compile.proofs.Forms.{same_emits}
use Rattle.rb_compile.proofs.Sites.{ready-Match}

-- what represents a value has its type
pub rep_typed : (plan : Plan) → PlanIsSound plan → (clean : Bool) (m : Memory) (t : Ty) (v : Value) (ws : List ℕ) → Rep plan m clean t v ws → is_of_type plan.program.types v t ≡ true
rep_typed plan sound clean m t v ws r =
    let p = plan.program in
    Represents-typed p.types (flat_layouts p) m clean (lawful p sound.agreed.1 sound.typed).provenances (subst (λ l. Represents p.types l m clean t v ws) sound.agreed.0 r)

pub some_of : (o : Option ℕ) → is_some o ≡ true → (k : ℕ) × (o ≡ Some k)
some_of None e = cc
some_of (Some k) e = (k, refl)

pub some_at : {A : Type 0} (xs : List A) (k : ℕ) → k < length xs → (x : A) × (slice_get xs k ≡ Some x)
some_at [] k lt = absurd (omega (arith, lt))
some_at (x ∷ xs) zero lt = (x, refl)
some_at (x ∷ xs) (suc k) lt = some_at xs k (omega (arith, lt))

-- the chosen clause is there, and its pattern matches
pub chosen_is : (cs : List Clause) (v : Value) (k : ℕ) → chosen_clause (map pat_of cs) v ≡ Some k → (c : Clause) × (slice_get cs k ≡ Some c) × (matches_of c.pat v ≡ true)
chosen_is [] v k e = cc
chosen_is (c ∷ cs) v k e = go (matches_of c.pat v) refl k e (λ j h. chosen_is cs v j h)
  where
    go : (b : Bool) → matches_of c.pat v ≡ b → (k : ℕ) → (if b then Some 0 else next_clause (chosen_clause (map pat_of cs) v)) ≡ Some k
        → ((j : ℕ) → chosen_clause (map pat_of cs) v ≡ Some j → (x : Clause) × (slice_get cs j ≡ Some x) × (matches_of x.pat v ≡ true))
        → (x : Clause) × (slice_get (c ∷ cs) k ≡ Some x) × (matches_of x.pat v ≡ true)
    go true m zero e rest = (c, refl, m)
    go true m (suc k) e rest = cc
    go false m k e rest = next (chosen_clause (map pat_of cs) v) refl k e
      where
        next : (o : Option ℕ) → chosen_clause (map pat_of cs) v ≡ o → (k : ℕ) → next_clause o ≡ Some k → (x : Clause) × (slice_get (c ∷ cs) k ≡ Some x) × (matches_of x.pat v ≡ true)
        next None is k e = cc
        next (Some j) is zero e = cc
        next (Some j) is (suc k) e = let same : suc j ≡ suc k = same_Some (suc j) (suc k) e in let down : j ≡ k = omega (arith, same) in rest k (is ∙ ap Some down)

pub patterns_are : (types : List DataDecl) (s : Ty) (cs : List Clause) → ((k : ℕ) (c : Clause) → slice_get cs k ≡ Some c → PatternIsTyped types s c.pat) → PatternsAreTyped types s (map pat_of cs)
patterns_are types s [] h = tt
patterns_are types s (c ∷ cs) h = (h 0 c refl, patterns_are types s cs (λ k x at. h (suc k) x at))

-- arms that do one thing do what follows from it
arms_map : (count : ℕ) (e q : Sheet) (joins : List Hole) (starts : List ℕ) (P Q : ℕ → Sheet → Sheet → ℕ → Type 0) → ((k : ℕ) (a d : Sheet) (join : ℕ) → k < count → P k a d join → Q k a d join)
    → ArmsIn count e q joins starts P → ArmsIn count e q joins starts Q
arms_map count e q joins starts P Q g arms k lt =
    let o = arms k lt in
    record {
      first = o.first;
      last = o.last;
      join = o.join;
      begins = o.begins;
      behind = o.behind;
      longer = o.longer;
      more = o.more;
      jumps = o.jumps;
      alone = o.alone;
      does = g k o.first o.last o.join lt o.does;
    }

-- All, where the scrutinee stands in its slots

module _ (plan : Plan) (f at : ℕ) (cs : List Clause) (wanted : Option Ty) (ls : List Local) (b c q : Sheet) (held : Held) (holes joins : List Hole) (starts : List ℕ) (s t : Ty) (xs : List ℕ)
    (sound : PlanIsSound plan) (site : SiteIsReady plan f (record { at = at; scrutinee = s; patterns = map pat_of cs })) (given : AreGiven plan b.slots ls) (low : AllBelow b.slots xs)
    (choice : Branches plan b.slots b c holes (choosing_bound plan.program.types plan.layouts s (map pat_of cs)) (λ k sl m. WordsChoose plan s (map pat_of cs) k (slots_at sl xs) m) (λ k sl m. Unit {0}))
    (holes_are : AreHoles (length b.code) (length cs) c.code holes) (ways : AreOfOneWay holes) (are : ArmsAre (length cs) c q joins starts)
    (done : ArmsDone plan f (length cs) cs wanted ls s t xs b.slots c q (Some held) joins starts) where
  abbrev pats : List Pat
  pats = map pat_of cs

  abbrev most : ℕ
  most = choosing_bound plan.program.types plan.layouts s pats

  -- the switches that bind the variables of a clause's pattern
  abbrev binding_in : Option Clause → ℕ
  binding_in None = 0
  binding_in (Some x) = binding_bound plan.program.types plan.layouts s x.pat

  abbrev own : ℕ → ℕ
  own k = binding_in (slice_get cs k)

  shares : (k : ℕ) → k < length cs → most + own k ≤ plan.bound f at
  shares k lt =
      let x = some_at cs k lt in
      let share = bound_shared plan.program.types plan.layouts s pats k x.0.pat (get-mapped pat_of cs k x.0 x.1) in
      let same : own k ≡ binding_bound plan.program.types plan.layouts s x.0.pat = ap binding_in x.1 in
      let paid = site.paid in
      omega (arith, share, same, paid)

  abbrev Chosen : ℕ → List ℕ → Memory → Type 0
  Chosen k sl m = WordsChoose plan s pats k (slots_at sl xs) m

  abbrev Any : ℕ → List ℕ → Memory → Type 0
  Any k sl m = Unit {0}

  pub choice_slots : (whole_match q holes starts joins).slots ≡ q.slots
  choice_slots = match_slots plan b.slots most (length cs) b c q holes joins starts Chosen Any choice holes_are ways done.adds are

  pub choice_adds : Adds plan b (whole_match q holes starts joins)
  choice_adds = match_adds plan b.slots most (length cs) b c q holes joins starts Chosen Any choice holes_are ways done.adds are

  module _ (calls : Calls) (clean : Bool) (env : List Binding) (v : Value) where
    -- clause k is chosen, for the value whose words are in the slots
    abbrev Taken : ℕ → List ℕ → Memory → Type 0
    Taken k sl m = (chosen_clause pats v ≡ Some k) × Rep plan m clean s v (slots_at sl xs) × Holds plan clean sl m ls env × IsGood m

    stays : (k : ℕ) (sl sl' : List ℕ) (m : Memory) → Keeps b.slots sl sl' → Taken k sl m → Taken k sl' m
    stays k sl sl' m keeps h = (
      h.0,
      subst (λ us. Rep plan m clean s v us) (sym (slots_at-kept b.slots sl sl' xs low keeps)) h.1,
      Holds-kept plan clean m m (Grown-extends m m [] m.next h.3 (Grown-refl m h.3)) b.slots sl sl' keeps ls env given h.2,
      h.3,
    )

    takes : Branches plan b.slots b c holes most Taken Taken
    takes = branches_weaken plan b.slots b.slots b c holes most most (λ k sl m. Taken k sl m × Chosen k sl m) Taken (λ k sl m. Taken k sl m × Any k sl m) Taken (omega arith) (omega arith)
        (λ k sl m x. (x, record { clean = clean; value = v; represents = x.1; chosen = x.0 })) (λ k sl m x. x.0)
        (branches_frame plan b.slots b c holes most Taken Chosen Any stays choice)

    abbrev outcome_of : Option Clause → ℕ → ℕ → Outcome
    outcome_of None k left = spent_outcome
    outcome_of (Some x) k left = meaning_of plan.program calls f x.body (wanted_of k wanted (Some t)) (scope_of ls ++ binders plan.program.types x.pat s) left (env ++ bindings x.pat v)

    abbrev outcome : ℕ → ℕ → Outcome
    outcome k left = outcome_of (slice_get cs k) k left

    arms_do : ArmsIn (length cs) c q joins starts (λ k a d join. CodeArm plan clean calls b.slots a d join (own k) (Taken k) (outcome k) t held.slots)
    arms_do = arms_map (length cs) c q joins starts (DoesNumber plan f cs wanted ls s t xs b.slots held.slots) (λ k a d join. CodeArm plan clean calls b.slots a d join (own k) (Taken k) (outcome k) t held.slots)
        (λ k a d join lt does.
        let x = some_at cs k lt in
        let one = does x.0 x.1 in
        record {
          adds = one.adds;
          runs = λ final callee next law rel agrees sl w long good pre.
              let y = chosen_is cs v k pre.0 in
              let same : y.0 ≡ x.0 = same_Some y.0 x.0 (sym y.1 ∙ x.1) in
              let matches = subst (λ (z : Clause). matches_of z.pat v ≡ true) same y.2 in
              let out = next (length a.code) sl w in
              subst (λ o. Does plan (w.switches + binding_in o) out w.memory (outcome_of o k w.left) (Comes plan clean out next join b.slots t held.slots sl)) (sym x.1)
              ((one.does calls clean env v matches).runs final callee next law rel agrees sl w long good (pre.1, pre.2));
        }) done.arms

    abbrev chosen_does : ℕ → Outcome
    chosen_does left = first_of plan.program.types s (map (clause_meaning plan.program calls f) cs) wanted (Some t) (scope_of ls) v left env

    pub choice_fragment : Fragment plan clean calls b (whole_match q holes starts joins) (λ sl m. Rep plan m clean s v (slots_at sl xs) × Holds plan clean sl m ls env) (λ left. after (Matched f at ∷ []) (chosen_does left)) t held.slots
    choice_fragment =
        match_fragment plan b.slots most (length cs) b c q holes joins starts Taken Taken takes holes_are ways done.adds are clean calls outcome t held.slots own arms_do f at shares refl
        (λ sl m. Rep plan m clean s v (slots_at sl xs) × Holds plan clean sl m ls env) chosen_does
        (λ sl m good from.
        let k = some_of (chosen_clause pats v) (site.exhaustive v (rep_typed plan sound clean m s v (slots_at sl xs) from.0)) in
        let x = chosen_is cs v k.0 k.1 in (
          k.0,
          slice_get_within cs k.0 x.0 x.1,
          (k.1, from.0, from.1, good),
          λ left. first_chosen plan.program calls f s (scope_of ls) v left env cs wanted (Some t) k.0 x.0 k.1 x.1 ∙ sym (ap (λ o. outcome_of o k.0 left) x.1),
        ))

-- The whole

module _ (agreed : LaidOut) (plan : Plan) (of_agreed : IsPlanOf agreed plan) (f at : ℕ) (e : Expr) (cs : List Clause) (wanted : Option Ty) (ls : List Local) (a b c q : Sheet) (subject held : Held) (holes joins : List Hole) (starts : List ℕ) where
  abbrev whole : Sheet
  whole = whole_match q holes starts joins

  pub match_expr : EmitsExpr plan f e None ls a b subject → ChoosesClause agreed subject.ty (map pat_of cs) subject.slots b c holes → AreHoles (length b.code) (length cs) c.code holes → AreOfOneWay holes
      → EmitsArms plan f (length cs) cs wanted ls subject c q (Some held) joins starts → ArmsAre (length cs) c q joins starts → EmitsExpr plan f (X.Match at e cs) wanted ls a whole held
  match_expr first choose holes_are ways arms are = λ t ready.
      let types = plan.program.types in let funs = plan.program.funs in
      let scope = scope_of ls in
      let tm = typed-Match types funs at e cs wanted scope t ready.typed in
      let s = tm.0 in
      let nm = numbered-Match types funs at e cs ready.within ready.numbered in
      let sites = ready-Match plan f at e cs scope s tm.2 ready.ready_sites in
      let patterns = patterns_typed types funs at e cs wanted scope t s ready.typed tm.1 in
      let A = first s (record { sound = ready.sound; typed = tm.1; within = ready.within; numbered = nm.0; given = ready.given; ready_sites = sites.1 }) in
      let sub : IsSubject plan b.slots subject s = (A.0, A.1.given, A.1.count) in
      let given1 = AreGiven-more plan a.slots b.slots ls A.1.adds.more ready.given in
      let chooses = subst (λ u. ChoosesClause agreed u (map pat_of cs) subject.slots b c holes) A.0 choose in
      let pats = map pat_of cs in
      let choice = chooses plan of_agreed (patterns_are types s cs patterns) sites.0.exhaustive A.1.given A.1.count in
      let each : ClausesAreReady plan f cs wanted ls s t = (λ k x there. record { sound = ready.sound; typed = tm.4 k x there; pattern = patterns k x there; within = _; numbered = nm.1 k x there; ready_sites = sites.2 k x there }) in
      let ground : GroundIsReady plan ls subject s b.slots c.slots = record { subject = sub; given = given1; low = choice.adds.more } in
      let done = arms s t b.slots each ground in
      let sound = ready.sound in
      let slots = choice_slots plan f at cs wanted ls b c q held holes joins starts s t subject.slots sound sites.0 given1 A.1.given choice holes_are ways are done in
      let adds = choice_adds plan f at cs wanted ls b c q held holes joins starts s t subject.slots sound sites.0 given1 A.1.given choice holes_are ways are done in
      let goes = λ (calls : Calls) (env : List Binding) (v : Value) (rest : ℕ). after (Matched f at ∷ []) (first_of types s (map (clause_meaning plan.program calls f) cs) wanted (Some t) scope v rest env) in (
        done.shared.0,
        same_emits plan (meaning_within plan f (X.Match at e cs) wanted ls) (λ calls left env. then_do (meaning_within plan f e None ls calls left env) (goes calls env)) ls a whole t held.slots
            (λ calls left env. meaning-Match plan.program calls f wanted scope left env at e cs
            ∙ ap (λ u. then_do (meaning_within plan f e None ls calls left env) (λ v rest. after (Matched f at ∷ []) (first_of types (inferred_type types funs e None scope) (map (clause_meaning plan.program calls f) cs) wanted (Some u) scope v rest env))) tm.3
            ∙ ap (λ u. then_do (meaning_within plan f e None ls calls left env) (λ v rest. after (Matched f at ∷ []) (first_of types u (map (clause_meaning plan.program calls f) cs) wanted (Some t) scope v rest env))) tm.2)
            (record {
              adds = Adds-trans plan a b whole A.1.adds adds;
              given = subst (λ n. AllBelow n held.slots) (sym slots) done.shared.1.below;
              count = done.shared.1.count;
              origin = λ x h. inl (let le = one-from b.slots x held.slots done.shared.1.from h in omega (arith, le, A.1.adds.more));
              does = λ calls clean env. seq plan clean calls a b whole s t subject.slots held.slots (λ sl m. Holds plan clean sl m ls env) (λ v sl m. Rep plan m clean s v (slots_at sl subject.slots) × Holds plan clean sl m ls env)
                  (λ left. meaning_within plan f e None ls calls left env) (goes calls env) A.1.adds adds (A.1.does calls clean env)
                  (λ v. choice_fragment plan f at cs wanted ls b c q held holes joins starts s t subject.slots sound sites.0 given1 A.1.given choice holes_are ways are done calls clean env v)
                  (λ v sl sl' m m' ext keeps rep pre. (rep, Holds-kept plan clean m m' ext a.slots sl sl' keeps ls env ready.given pre));
            }),
      )

-- In any case

pub can_close : (count : ℕ) (b c q : Sheet) (holes joins : List Hole) (starts : List ℕ) → AreHoles (length b.code) count c.code holes → ArmsAre count c q joins starts → CanClose q holes starts joins
can_close count b c q holes joins starts holes_are are = record {
  before = length b.code;
  chooser = c;
  holes_are = subst (λ n. AreHoles (length b.code) n c.code holes) (sym are.count_is) holes_are;
  arms = subst (λ n. ArmsAre n c q joins starts) (sym are.count_is) are;
}

pub match_grows : (a b e q : Sheet) (n : ℕ) (holes joins : List Hole) (starts : List ℕ) → Grows a.code b.code → Grows b.code e.code → AreHoles (length b.code) n e.code holes → ArmsAre n e q joins starts
    → Grows a.code (whole_match q holes starts joins).code
match_grows a b e q n holes joins starts g1 g2 holes_are are =
    let inner = with_targets q holes starts in
    let ends = length q.code ∷ [] in
    let len = closed_length inner joins ends ∙ closed_length q holes starts in
    record {
      longer = omega (arith, len, g1.longer, g2.longer, are.grows.longer);
      same = λ pc lt.
          let in_b : pc < length b.code = omega (arith, lt, g1.longer) in let in_e : pc < length e.code = omega (arith, in_b, g2.longer) in
          at_closed inner joins ends pc
          ∙ retarget_none pc joins ends _ (λ h. let k = join_from pc (length e.code) q.code joins are.joins_are h in omega (arith, k.0, in_e))
          ∙ at_closed q holes starts pc
          ∙ retarget_none pc holes starts _ (λ h. let k = hole_from pc (length b.code) n e.code holes holes_are h in omega (arith, k.0, in_b))
          ∙ are.grows.same pc in_e ∙ g2.same pc in_b ∙ g1.same pc lt;
    }
