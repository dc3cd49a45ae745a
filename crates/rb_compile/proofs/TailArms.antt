-- The arms of a match in a tail position: one, and one more.
use Rattle.std.proofs.Common.{◌≡◌, ◌++◌, ℕ, zero, suc, ◌+◌, ◌<◌, ◌≤◌, inl, inr, Bool, true, List, [], ◌∷◌, length, Some, refl, sym, subst, ap, ◌∙◌, arith, length-append}
use Rattle.std.proofs.lemmas.Option.{same_Some}
use Rattle.std.specs.Prelude.{slice_get, slice_index}
use Rattle.rb_core.specs.declared.value.Value.{Value}
use Rattle.rb_core.specs.declared.types.Ty.{Ty}
use Rattle.rb_core.specs.declared.types.DataDecl.{DataDecl}
use Rattle.rb_core.specs.declared.binding.Binding.{Binding}
use Rattle.rb_core.specs.declared.expression.Clause.{Clause}
use Rattle.rb_core.specs.declared.pattern.Pat.{Pat}
use Rattle.rb_core.specs.Matching.{matches_of}
use Rattle.rb_target.specs.Growth.{Grows}
use Rattle.rb_target.specs.Sheet.{Sheet}
use Rattle.rb_target.proofs.Growing.{Grows-refl, Grows-trans, below_or}
use Rattle.rb_layout.specs.declared.agreed.LaidOut.{LaidOut}
use Rattle.rb_layout.specs.declared.layout.Layout.{Layout}
use Rattle.rb_fragment.specs.declared.held.Held.{Held}
use Rattle.rb_fragment.specs.declared.held.Local.{Local}
use Rattle.rb_fragment.specs.Plan.{Plan}
use Rattle.rb_fragment.specs.Owing.{Does, GivesValue}
use Rattle.rb_fragment.specs.Slots.{AllFrom}
use Rattle.rb_fetch.specs.Finding.{IsPlanOf}
use Rattle.rb_match.specs.Choosing.{Binds, BindsPattern}
use Rattle.rb_compile.specs.inner.Forms.{meaning_within}
use Rattle.rb_compile.specs.inner.Used.{Serves}
use Rattle.rb_compile.specs.inner.Arms.{GroundIsReady}
use Rattle.rb_compile.specs.inner.Tails.{DoesTailArm, DoesTailNumber, EmitsReturn, EmitsTail, EmitsTailArm, EmitsTailArms, TailArmIn, TailArmsAre, TailArmsIn}
use Rattle.rb_compile.proofs.Arms.{Before, body_ready, bound_ground, bound_runs, env_of, means, own}
use Rattle.rb_compile.proofs.Returning.{bound_then_tail, is_tail_behind, tail_none, tail_trans}

-- One arm

module _ (plan : Plan) (f : ℕ) (c : Clause) (t : Ty) (ls : List Local) (held : Held) (a b d : Sheet) (bound : List Local) (s : Ty) (n : ℕ)
    (q1 : Pat) (served : Serves plan.program.types plan.layouts c.body c.pat q1 s)
    (ground : GroundIsReady plan ls held s n a.slots) (B : Binds plan q1 s held.slots a b bound)
    (body : EmitsTail plan (meaning_within plan f c.body (Some t) (ls ++ bound)) (ls ++ bound) b d t) where
  clause_returns : DoesTailArm plan f c ls s t held.slots a d
  clause_returns = record {
    tail = is_tail_behind plan t a b d B.adds body.tail;
    does = λ calls clean env v matches.
        let i : (clean : Bool) × (env : List Binding) × (v : Value) × (matches_of c.pat v ≡ true) = (clean, env, v, matches) in
        let extra = own plan f c (Some t) ls held a b bound s n q1 served ground B in
        let k = bound_then_tail plan clean calls n t a b d (ls ++ bound) (Before plan f c (Some t) ls held a b bound s n q1 served ground B i) (env_of plan f c (Some t) ls held a b bound s n q1 served ground B i)
        (meaning_within plan f c.body (Some t) (ls ++ bound)) extra (bound_runs plan f c (Some t) ls held a b bound s n q1 served ground B i) body in
        record {
          runs = λ final callee next law rel agrees sl w long good pre.
              let out = next (length a.code) sl w in
              subst (λ o. Does plan (w.switches + extra) out w.memory o (GivesValue plan clean t out)) (means plan f c (Some t) ls held a b bound s n q1 served ground B calls env v w.left)
              (k.runs final callee next law rel agrees sl w long good (good, pre));
        };
  }

pub tail_arm : (agreed : LaidOut) (plan : Plan) (f : ℕ) (c : Clause) (t : Ty) (ls : List Local) (held : Held) (a b d : Sheet) (bound : List Local) → IsPlanOf agreed plan → (q1 : Pat) → ((types : List DataDecl) (layouts : List Layout) (s : Ty) → Serves types layouts c.body c.pat q1 s)
    → BindsPattern agreed held.ty q1 held.slots a b bound → EmitsReturn plan f c.body t (ls ++ bound) b d → EmitsTailArm plan f c t ls held a d
tail_arm agreed plan f c t ls held a b d bound of_agreed q1 serve binds body = λ s n ready ground.
    let served = serve plan.program.types plan.layouts s in
    let B = bound_ground agreed plan of_agreed ls held a b bound s n q1 ground binds in
    clause_returns plan f c t ls held a b d bound s n q1 served ground B (body (body_ready plan f c (Some t) ls held a b bound s n q1 served ground B t ready))

-- No arm, and one more

index-append : (xs : List ℕ) (y k : ℕ) → k < length xs → slice_index (xs ++ y ∷ []) k ≡ slice_index xs k
index-append [] y k lt = absurd (omega (arith, lt))
index-append (x ∷ xs) y zero lt = refl
index-append (x ∷ xs) y (suc k) lt = index-append xs y k (omega (arith, lt))

index-last : (xs : List ℕ) (y : ℕ) → slice_index (xs ++ y ∷ []) (length xs) ≡ y
index-last [] y = refl
index-last (x ∷ xs) y = index-last xs y

AllFrom-append : (n : ℕ) (xs : List ℕ) (y : ℕ) → AllFrom n xs → n ≤ y → AllFrom n (xs ++ y ∷ [])
AllFrom-append n [] y all le = (le, tt)
AllFrom-append n (x ∷ xs) y all le = (all.0, AllFrom-append n xs y all.1 le)

pub tail_are_none : (e : Sheet) → TailArmsAre 0 e e []
tail_are_none e = record { grows = Grows-refl e.code; starts_from = tt; count_is = refl }

pub tail_are_next : (i : ℕ) (e q d : Sheet) (starts : List ℕ) → TailArmsAre i e q starts → Grows q.code d.code → TailArmsAre (i + 1) e d (starts ++ length q.code ∷ [])
tail_are_next i e q d starts a g = record {
  grows = Grows-trans e.code q.code d.code a.grows g;
  starts_from = AllFrom-append (length e.code) starts (length q.code) a.starts_from a.grows.longer;
  count_is = length-append starts (length q.code ∷ []) ∙ ap (λ n. n + 1) a.count_is;
}

pub tail_arms_none : (plan : Plan) (f : ℕ) (cs : List Clause) (t : Ty) (ls : List Local) (held : Held) (e : Sheet) → EmitsTailArms plan f 0 cs t ls held e e []
tail_arms_none plan f cs t ls held e = λ s n ready ground. record { adds = tail_none plan t e; ends = λ lt. absurd (omega (arith, lt)); arms = λ k lt. absurd (omega (arith, lt)) }

module _ (i : ℕ) (e q d : Sheet) (starts : List ℕ) (DoesArm : ℕ → Sheet → Sheet → Type 0) (are : TailArmsAre i e q starts) (stand : TailArmsIn i e q starts DoesArm)
    (grows : Grows q.code d.code) (more : q.slots ≤ d.slots) (some : length q.code < length d.code) (does : DoesArm i q d) where
  abbrev starts1 : List ℕ
  starts1 = starts ++ length q.code ∷ []

  new : TailArmIn e d (slice_index starts1 i) (DoesArm i)
  new = record {
    first = q;
    last = d;
    begins = ap (λ k. slice_index starts1 k) (sym are.count_is) ∙ index-last starts (length q.code);
    behind = are.grows.longer;
    some = some;
    longer = Grows-refl d.code;
    more = omega arith;
    does = does;
  }

  old : (k : ℕ) → k < i → TailArmIn e d (slice_index starts1 k) (DoesArm k)
  old k lt =
      let o = stand k lt in
      record {
        first = o.first;
        last = o.last;
        begins = index-append starts (length q.code) k (omega (arith, lt, are.count_is)) ∙ o.begins;
        behind = o.behind;
        some = o.some;
        longer = Grows-trans o.last.code q.code d.code o.longer grows;
        more = omega (arith, o.more, more);
        does = o.does;
      }

  one_more : TailArmsIn (i + 1) e d starts1 DoesArm
  one_more k lt = elim (below_or k i) [
    | inl less ↦ old k less
    | inr le ↦ (let same : i ≡ k = omega (arith, lt, le) in subst (λ m. TailArmIn e d (slice_index starts1 m) (DoesArm m)) same new)
  ]

module _ (plan : Plan) (f i : ℕ) (cs : List Clause) (t : Ty) (ls : List Local) (held : Held) (e q d : Sheet) (c : Clause) (starts : List ℕ)
    (first : EmitsTailArms plan f i cs t ls held e q starts) (are : TailArmsAre i e q starts)
    (second : EmitsTailArm plan f c t ls held q d) (at : slice_get cs i ≡ Some c) where
  pub tail_arms_next : EmitsTailArms plan f (i + 1) cs t ls held e d (starts ++ length q.code ∷ [])
  tail_arms_next = λ s n ready ground.
      let before = first s n ready ground in
      let ground1 : GroundIsReady plan ls held s n q.slots = record { subject = ground.subject; given = ground.given; low = omega (arith, ground.low, before.adds.more) } in
      let arm = second s n (ready i c at) ground1 in
      let added = arm.tail.adds in
      record {
        adds = tail_trans plan t e q d before.adds added;
        ends = λ lt. (omega (arith, before.adds.grows.longer, arm.tail.longer), arm.tail.ends);
        arms = one_more i e q d starts (DoesTailNumber plan f cs ls s t held.slots) are before.arms added.grows added.more arm.tail.longer
            (λ x there. subst (λ (y : Clause). DoesTailArm plan f y ls s t held.slots q d) (same_Some c x (sym at ∙ there)) arm);
      }
