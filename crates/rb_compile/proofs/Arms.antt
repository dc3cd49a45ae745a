-- The arms of a match: one, and one more.
use Rattle.std.proofs.Common.{◌≡◌, ◌++◌, ℕ, zero, suc, ◌+◌, ◌<◌, ◌≤◌, ◌⊎◌, inl, inr, Bool, true, List, [], ◌∷◌, length, Option, Some, None, refl, sym, subst, ap, ◌∙◌, arith}
use Rattle.std.proofs.lemmas.List.{map-append}
use Rattle.std.proofs.lemmas.Option.{same_Some}
use Rattle.std.specs.Prelude.{slice_get}
use Rattle.rb_core.specs.declared.value.Value.{Value}
use Rattle.rb_core.specs.declared.types.Ty.{Ty}
use Rattle.rb_core.specs.declared.types.DataDecl.{DataDecl}
use Rattle.rb_core.specs.declared.typing.Binder.{Binder}
use Rattle.rb_core.specs.declared.binding.Binding.{Binding}
use Rattle.rb_core.specs.declared.expression.Clause.{Clause}
use Rattle.rb_core.specs.Clauses.{wanted_of}
use Rattle.rb_core.specs.Coverage.{sites}
use Rattle.rb_core.specs.Inference.{binders}
use Rattle.rb_core.specs.Matching.{bindings, matches_of}
use Rattle.rb_core.specs.declared.pattern.Pat.{Pat}
use Rattle.rb_core.specs.Meaning.{Calls, meaning_of}
use Rattle.rb_core.specs.Typing.{type_of}
use Rattle.rb_bytes.specs.Memory.{Memory, IsGood}
use Rattle.rb_bytes.proofs.GrowthLemmas.{Grown-extends, Grown-refl}
use Rattle.rb_target.specs.declared.body.Hole.{Hole}
use Rattle.rb_target.specs.Growth.{Keeps, Nowhere}
use Rattle.rb_target.specs.Meaning.{slots_at}
use Rattle.rb_target.specs.Sheet.{Sheet}
use Rattle.rb_layout.specs.declared.agreed.LaidOut.{LaidOut}
use Rattle.rb_layout.specs.declared.layout.Layout.{Layout}
use Rattle.rb_fragment.specs.declared.held.Held.{Held}
use Rattle.rb_fragment.specs.declared.held.Joined.{Joined}
use Rattle.rb_fragment.specs.declared.held.Local.{Local}
use Rattle.rb_fragment.specs.Plan.{Plan, Rep}
use Rattle.rb_fragment.specs.Arms.{ArmsAre, ArmsIn, IsJoin, JoinedIs}
use Rattle.rb_fragment.specs.Owing.{Does}
use Rattle.rb_fragment.specs.Fragments.{Comes, Emits}
use Rattle.rb_fragment.specs.Holding.{Holds, binder_in, scope_of}
use Rattle.rb_fragment.specs.Pieces.{AtEnd, CodePiece}
use Rattle.rb_fragment.specs.Slots.{IsOneOf}
use Rattle.rb_fragment.proofs.Adding.{Adds-refl, Adds-trans}
use Rattle.rb_fragment.proofs.Arms.{IsArm, arm_first, arm_later, local-below}
use Rattle.rb_fragment.proofs.Holds.{AllBelow-more, AreGiven-append, AreGiven-more, Holds-append, Holds-kept, IsOfLocal-append}
use Rattle.rb_fragment.proofs.Matches.{arms_more}
use Rattle.rb_fragment.proofs.Moves.{one-below}
use Rattle.rb_fragment.proofs.Pieces.{piece_frame, piece_weaken}
use Rattle.rb_compose.specs.Subvalues.{held_slots}
use Rattle.rb_fetch.specs.Finding.{IsPlanOf}
use Rattle.rb_match.specs.Bounding.{binding_bound}
use Rattle.rb_match.specs.Choosing.{Binds, BindsPattern}
use Rattle.rb_compile.specs.inner.Ready.{ExprIsReady, SitesAreReady}
use Rattle.rb_compile.specs.inner.Forms.{EmitsExpr, meaning_within}
use Rattle.rb_compile.specs.inner.Used.{Serves}
use Rattle.rb_compile.proofs.Agreeing.{same_meaning, same_sites, same_typing}
use Rattle.rb_compile.specs.inner.Arms.{ArmIsDone, ClauseIsReady, DoesClause, DoesNumber, EmitsArm, EmitsArms, GroundIsReady, IsShared, Reaches, wanted_in}

-- One arm

module _ (plan : Plan) (f : ℕ) (c : Clause) (wanted : Option Ty) (ls : List Local) (held : Held) (a b : Sheet) (bound : List Local) (s : Ty) (n : ℕ)
    (q1 : Pat) (served : Serves plan.program.types plan.layouts c.body c.pat q1 s)
    (ground : GroundIsReady plan ls held s n a.slots) (B : Binds plan q1 s held.slots a b bound) where
  abbrev inner : List Local
  inner = ls ++ bound

  scope : scope_of inner ≡ scope_of ls ++ binders plan.program.types q1 s
  scope = map-append binder_in ls bound ∙ ap (λ (k : List Binder). scope_of ls ++ k) B.scope

  -- a run of the arm: on clean words or not, with the values of its variables and of the scrutinee
  abbrev pub Case : Type 0
  Case = (clean : Bool) × (env : List Binding) × (v : Value) × (matches_of c.pat v ≡ true)

  abbrev pub Before : Case → List ℕ → Memory → Type 0
  Before i sl m = IsGood m × (Rep plan m i.0 s i.2 (slots_at sl held.slots) × Holds plan i.0 sl m ls i.1)

  abbrev pub env_of : Case → List Binding
  env_of i = i.1 ++ bindings q1 i.2

  -- the switches that bind the pattern's variables
  abbrev pub own : ℕ
  own = binding_bound plan.program.types plan.layouts s c.pat

  -- those that bind what the body uses
  abbrev less_own : ℕ
  less_own = binding_bound plan.program.types plan.layouts s q1

  pub bound_runs : (i : Case) → CodePiece plan n a b Nowhere own (Before i) (AtEnd b (λ sl m. Holds plan i.0 sl m inner (env_of i)))
  bound_runs i =
      let clean = i.0 in
      let env = i.1 in
      let v = i.2 in
      let F = λ (sl : List ℕ) (m : Memory). IsGood m × Holds plan clean sl m ls env in
      let Pre = λ (sl : List ℕ) (m : Memory). IsGood m × Rep plan m clean s v (slots_at sl held.slots) in
      let Post = λ (sl : List ℕ) (m : Memory). Holds plan clean sl m bound (bindings q1 v) in
      let given = AreGiven-more plan n a.slots ls ground.low ground.given in
      let stays : (sl sl' : List ℕ) (m : Memory) → Keeps a.slots sl sl' → F sl m → F sl' m = λ sl sl' m keeps h.
      (h.0, Holds-kept plan clean m m (Grown-extends m m [] m.next h.0 (Grown-refl m h.0)) a.slots sl sl' keeps ls env given h.1) in
      let less = served.few in
      let framed = piece_frame plan a.slots a b Nowhere less_own F Pre (AtEnd b Post) stays (B.runs clean v (served.matches v i.3)) in
      piece_weaken plan a.slots n a b Nowhere less_own own (λ sl m. F sl m × Pre sl m) (Before i) (λ pc sl m. F sl m × AtEnd b Post pc sl m) (AtEnd b (λ sl m. Holds plan clean sl m inner (env_of i)))
      ground.low (omega (arith, less)) (λ sl m x. ((x.0, x.1.1), (x.0, x.1.0))) (λ pc sl m x. (x.1.0, Holds-append plan clean sl m ls bound env (bindings q1 v) x.0.1 x.1.1)) framed

  -- within what is bound the body means what it means within all of the pattern
  pub means : (calls : Calls) (env : List Binding) (v : Value) (left : ℕ) → meaning_of plan.program calls f c.body wanted (scope_of inner) left (env ++ bindings q1 v)
      ≡ meaning_of plan.program calls f c.body wanted (scope_of ls ++ binders plan.program.types c.pat s) left (env ++ bindings c.pat v)
  means calls env v left = ap (λ sc. meaning_of plan.program calls f c.body wanted sc left (env ++ bindings q1 v)) scope
      ∙ sym (same_meaning plan.program calls f c.body wanted (scope_of ls ++ binders plan.program.types c.pat s) (scope_of ls ++ binders plan.program.types q1 s) left (env ++ bindings c.pat v) (env ++ bindings q1 v) (served.scopes (scope_of ls)) (served.values env v))

  -- and it is ready there
  pub body_ready : (t : Ty) → ClauseIsReady plan f c wanted ls s t → ExprIsReady plan f c.body wanted inner b.slots t
  body_ready t ready =
      let types = plan.program.types in let funs = plan.program.funs in
      let all = scope_of ls ++ binders types c.pat s in
      let less = scope_of ls ++ binders types q1 s in
      record {
        sound = ready.sound;
        typed = ap (type_of types funs c.body wanted) scope ∙ sym (same_typing types funs c.body wanted all less (served.scopes (scope_of ls))) ∙ ready.typed;
        within = ready.within;
        numbered = ready.numbered;
        given = AreGiven-append plan b.slots ls bound (AreGiven-more plan n b.slots ls (omega (arith, ground.low, B.adds.more)) ground.given) B.given;
        ready_sites = subst (λ k. SitesAreReady plan f k) (same_sites types funs c.body all less (served.scopes (scope_of ls)) ∙ ap (sites types funs c.body) (sym scope)) ready.ready_sites;
      }

  module _ (q d : Sheet) (hy : Held) (r : Joined) (t : Ty) (body : Emits plan (meaning_within plan f c.body wanted (ls ++ bound)) (ls ++ bound) b q t hy.slots) where
    outside : (x : ℕ) → IsOneOf x hy.slots → (x < n) ⊎ (a.slots ≤ x)
    outside x i = elim (body.origin x i) [
      | inl le ↦ inr (omega (arith, le, B.adds.more))
      | inr of ↦ elim (IsOfLocal-append x ls bound of) [
        | inl o ↦ inl (local-below plan n ls x ground.given o)
        | inr o ↦ elim (B.origin x o) [
          | inl le ↦ inr le
          | inr o1 ↦ inl (one-below n x held.slots ground.subject.1 o1)
        ]
      ]
    ]

    abbrev Done : Type 0
    Done = IsArm plan t n a b q d inner hy r (meaning_within plan f c.body wanted inner) own ground.low B.adds body outside Case (λ i. i.0) env_of Before bound_runs

    clause_of : Done → DoesClause plan f c wanted ls s t held.slots n r.into.slots a d r.join.pc
    clause_of x = record {
      adds = x.adds;
      does = λ calls clean env v matches.
          let k = x.does calls (clean, env, v, matches) in
          record {
            adds = k.adds;
            runs = λ final callee next law rel agrees sl w long good pre.
                subst (λ o. Does plan (w.switches + own) (next (length a.code) sl w) w.memory o (Comes plan clean (next (length a.code) sl w) next r.join.pc n t r.into.slots sl)) (means calls env v w.left)
                (k.runs final callee next law rel agrees sl w long good (good, pre));
          };
    }

    done : hy.ty ≡ t → (o : Option Held) → JoinedIs o hy q d r → IsShared plan n a.slots t o → ArmIsDone plan f c wanted ls s t held.slots n o a d r
    done same None j shared =
        let x = arm_first plan t n a b q d inner hy r (meaning_within plan f c.body wanted inner) own ground.low B.adds body outside Case (λ i. i.0) env_of Before bound_runs j in
        record { shared = (ap (λ (h : Held). h.ty) j.shared ∙ same, x.shared); same = λ h e. cc e; clause = clause_of x }
    done same (Some h) j shared =
        let x = arm_later plan t n a b q d inner hy r (meaning_within plan f c.body wanted inner) own ground.low B.adds body outside Case (λ i. i.0) env_of Before bound_runs h shared.1 j in
        record { shared = (ap (λ (k : Held). k.ty) j.shared ∙ shared.0, x.shared); same = λ k e. j.shared ∙ same_Some h k e; clause = clause_of x }

-- where the scrutinee's slots are ready the pattern is bound
pub bound_ground : (agreed : LaidOut) (plan : Plan) → IsPlanOf agreed plan → (ls : List Local) (held : Held) (a b : Sheet) (bound : List Local) (s : Ty) (n : ℕ) (q1 : Pat) → GroundIsReady plan ls held s n a.slots
    → BindsPattern agreed held.ty q1 held.slots a b bound → Binds plan q1 s held.slots a b bound
bound_ground agreed plan of_agreed ls held a b bound s n q1 ground binds =
    subst (λ u. BindsPattern agreed u q1 held.slots a b bound) ground.subject.0 binds plan of_agreed (AllBelow-more n a.slots held.slots ground.low ground.subject.1) ground.subject.2

pub arm_emits : (agreed : LaidOut) (plan : Plan) (f : ℕ) (c : Clause) (wanted : Option Ty) (ls : List Local) (held : Held) (a b q d : Sheet) (bound : List Local) (hy : Held) (r : Joined) (into : Option Held) → IsPlanOf agreed plan → (q1 : Pat) → ((types : List DataDecl) (layouts : List Layout) (s : Ty) → Serves types layouts c.body c.pat q1 s)
    → BindsPattern agreed held.ty q1 held.slots a b bound → EmitsExpr plan f c.body wanted (ls ++ bound) b q hy → JoinedIs into hy q d r → EmitsArm plan f c wanted ls held into a d r
arm_emits agreed plan f c wanted ls held a b q d bound hy r into of_agreed q1 serve binds body joined = λ s t n ready ground shared.
    let served = serve plan.program.types plan.layouts s in
    let B = bound_ground agreed plan of_agreed ls held a b bound s n q1 ground binds in
    let E = body t (body_ready plan f c wanted ls held a b bound s n q1 served ground B t ready) in
    done plan f c wanted ls held a b bound s n q1 served ground B q d hy r t E.1 E.0 into joined shared

-- No arm, and one more

pub arms_none : (plan : Plan) (f : ℕ) (cs : List Clause) (wanted : Option Ty) (ls : List Local) (held : Held) (e : Sheet) → EmitsArms plan f 0 cs wanted ls held e e None [] []
arms_none plan f cs wanted ls held e = λ s t n ready ground. record { adds = Adds-refl plan e; shared = tt; arms = λ k lt. absurd (omega (arith, lt)) }

module _ (plan : Plan) (f i : ℕ) (cs : List Clause) (wanted : Option Ty) (ls : List Local) (held : Held) (e q d : Sheet) (into : Option Held) (c : Clause) (r : Joined) (joins : List Hole) (starts : List ℕ)
    (first : EmitsArms plan f i cs wanted ls held e q into joins starts) (are : ArmsAre i e q joins starts) (reaches : Reaches i into)
    (second : EmitsArm plan f c (wanted_in wanted into) ls held into q d r) (at : slice_get cs i ≡ Some c) (one_join : IsJoin (length q.code) d.code r.join) where
  wanted_same : (k : ℕ) (o : Option Held) (t : Ty) (n m : ℕ) → Reaches k o → IsShared plan n m t o → wanted_in wanted o ≡ wanted_of k wanted (Some t)
  wanted_same zero None t n m h sh = refl
  wanted_same zero (Some g) t n m h sh = absurd h
  wanted_same (suc k) None t n m h sh = absurd h
  wanted_same (suc k) (Some g) t n m h sh = ap Some sh.0

  -- the arms that stand left their values where the next one does
  moved : (s t : Ty) (n k : ℕ) (o : Option Held) → Reaches k o → ((h : Held) → o ≡ Some h → r.into ≡ h) → ArmsIn k e q joins starts (DoesNumber plan f cs wanted ls s t held.slots n (held_slots o))
      → ArmsIn k e q joins starts (DoesNumber plan f cs wanted ls s t held.slots n r.into.slots)
  moved s t n zero None h same x = λ k lt. absurd (omega (arith, lt))
  moved s t n zero (Some g) h same x = absurd h
  moved s t n (suc k) None h same x = absurd h
  moved s t n (suc k) (Some g) h same x = subst (λ zs. ArmsIn (suc k) e q joins starts (DoesNumber plan f cs wanted ls s t held.slots n zs)) (ap (λ (y : Held). y.slots) (sym (same g refl))) x

  pub arms_next : EmitsArms plan f (i + 1) cs wanted ls held e d (Some r.into) (joins ++ r.join ∷ []) (starts ++ length q.code ∷ [])
  arms_next = λ s t n ready ground.
      let before = first s t n ready ground in
      let same = wanted_same i into t n q.slots reaches before.shared in
      let here = subst (λ w. ClauseIsReady plan f c w ls s t) (sym same) (ready i c at) in
      let ground1 : GroundIsReady plan ls held s n q.slots = record { subject = ground.subject; given = ground.given; low = omega (arith, ground.low, before.adds.more) } in
      let one = second s t n here ground1 before.shared in
      let stand = moved s t n i into reaches one.same before.arms in
      let clause = subst (λ w. DoesClause plan f c w ls s t held.slots n r.into.slots q d r.join.pc) same one.clause in
      record {
        adds = Adds-trans plan e q d before.adds one.clause.adds;
        shared = one.shared;
        arms = arms_more i e q d joins starts r.join (DoesNumber plan f cs wanted ls s t held.slots n r.into.slots) are stand one.clause.adds.grows one.clause.adds.more one_join
            (λ x there. subst (λ (y : Clause). DoesClause plan f y (wanted_of i wanted (Some t)) ls s t held.slots n r.into.slots q d r.join.pc) (same_Some c x (sym at ∙ there)) clause);
      }
