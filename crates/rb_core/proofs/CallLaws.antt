-- The equation of a call: with calls left, it is the function's body, where calls do what calls do.
use Rattle.std.proofs.Common.{◌≡◌, ℕ, zero, suc, ◌-◌, ◌<◌, ◌≤◌, List, [], ◌∷◌, ◌++◌, map, Option, Some, None, refl, sym, ap, ◌∙◌, le_refl, le_trans, arith}
use Rattle.std.specs.Prelude.{if◌then◌else◌, slice_get}
use Rattle.rb_core.specs.declared.value.Value.{Value}
use Rattle.rb_core.specs.declared.types.Ty.{Ty}
use Rattle.rb_core.specs.declared.types.DataDecl.{DataDecl}
use Rattle.rb_core.specs.declared.typing.Binder.{Binder}
use Rattle.rb_core.specs.declared.binding.Binding.{Binding}
use Rattle.rb_core.specs.declared.pattern.Pat.{Pat}
use Rattle.rb_core.specs.declared.outcome.Event.TheVariants.{Matched}
use Rattle.rb_core.specs.declared.outcome.SourceEnd.{SourceEnd}
use Rattle.rb_core.specs.declared.outcome.SourceEnd.TheVariants.{Done, Spent}
use Rattle.rb_core.specs.declared.outcome.PartsEnd.{PartsEnd}
use Rattle.rb_core.specs.declared.outcome.PartsEnd.TheVariants.{AllDone, Cut}
use Rattle.rb_core.specs.declared.outcome.Outcome.{Outcome}
use Rattle.rb_core.specs.declared.program.Fun.{Fun}
use Rattle.rb_core.specs.declared.program.Program.{Program}
use Rattle.rb_core.specs.declared.expression.Clause.{Clause}
use Rattle.rb_core.specs.declared.expression.Expr.{Expr}
use Rattle.rb_core.specs.Matching.{matches_of, bindings}
use Rattle.rb_core.specs.Typing.{binder_of}
use Rattle.rb_core.specs.Inference.{binders}
use Rattle.rb_core.specs.Meaning.{Meaning, Calls, after, at_end, then_do, PartsOutcome, at_part, parts_after, first_wanted, later_wanted, all_of, at_parts_end, then_with, first_of, meaning_of, clause_meaning, argument_bindings, body_outcome, call_within, call_of}
use Rattle.rb_core.specs.inner.Evaluation.{IsWithinCalls, IsPartsWithinCalls}
use Rattle.rb_core.proofs.ExpressionLaws.{Each, EachBody, induction}
use Rattle.rb_core.proofs.MeaningForms.{clause_meaning-is, meaning-Num, meaning-Var, meaning-Call, meaning-Build, meaning-Binary, meaning-To, meaning-Let, meaning-Match}
use Rattle.rb_core.proofs.CallsLeft.{fewer, parts_fewer, call-bounded}

-- Two meanings of calls that agree up to a number of calls left

module _ (p : Program) (c c' : Calls) (bounded : (g n : ℕ) (vs : List Value) → IsWithinCalls n (c g n vs).end) (top : ℕ) (agree : (g n : ℕ) (vs : List Value) → n ≤ top → c g n vs ≡ c' g n vs) (f : ℕ) where
  end_same : (n : ℕ) (e : SourceEnd) (go go' : Value → ℕ → Outcome) → IsWithinCalls n e → n ≤ top → ((v : Value) (rest : ℕ) → rest ≤ top → go v rest ≡ go' v rest) → at_end e go ≡ at_end e go'
  end_same n (Done v left) go go' h le k = k v left (le_trans h le)
  end_same n Spent go go' h le k = refl

  do_same : (n : ℕ) (o o' : Outcome) (go go' : Value → ℕ → Outcome) → o ≡ o' → IsWithinCalls n o.end → n ≤ top → ((v : Value) (rest : ℕ) → rest ≤ top → go v rest ≡ go' v rest) → then_do o go ≡ then_do o' go'
  unfolding then_do
  do_same n o o' go go' e h le k = ap (λ (x : Outcome). after o.log x) (end_same n o.end go go' h le k) ∙ ap (λ (x : Outcome). then_do x go') e

  parts_end_same : (n : ℕ) (e : PartsEnd) (go go' : List Value → ℕ → Outcome) → IsPartsWithinCalls n e → n ≤ top → ((vs : List Value) (rest : ℕ) → rest ≤ top → go vs rest ≡ go' vs rest) → at_parts_end e go ≡ at_parts_end e go'
  parts_end_same n (AllDone vs left) go go' h le k = k vs left (le_trans h le)
  parts_end_same n Cut go go' h le k = refl

  with_same : (n : ℕ) (o o' : PartsOutcome) (go go' : List Value → ℕ → Outcome) → o ≡ o' → IsPartsWithinCalls n o.end → n ≤ top → ((vs : List Value) (rest : ℕ) → rest ≤ top → go vs rest ≡ go' vs rest) → then_with o go ≡ then_with o' go'
  unfolding then_with
  with_same n o o' go go' e h le k = ap (λ (x : Outcome). after o.log x) (parts_end_same n o.end go go' h le k) ∙ ap (λ (x : PartsOutcome). then_with x go') e

  part_same : (n : ℕ) (e : SourceEnd) (go go' : Value → ℕ → PartsOutcome) → IsWithinCalls n e → n ≤ top → ((v : Value) (rest : ℕ) → rest ≤ top → go v rest ≡ go' v rest) → at_part e go ≡ at_part e go'
  part_same n (Done v left) go go' h le k = k v left (le_trans h le)
  part_same n Spent go go' h le k = refl

  abbrev one : Expr → Meaning
  one = meaning_of p c f

  abbrev other : Expr → Meaning
  other = meaning_of p c' f

  abbrev Alike : Expr → Type 0
  Alike e = (wanted : Option Ty) (scope : List Binder) (left : ℕ) (env : List Binding) → left ≤ top → one e wanted scope left env ≡ other e wanted scope left env

  all_fewer : (e : Expr) (wanted : Option Ty) (scope : List Binder) (left : ℕ) (env : List Binding) → IsWithinCalls left (one e wanted scope left env).end
  all_fewer = fewer p c bounded f

  each_fewer : (es : List Expr) → Each (λ e. (wanted : Option Ty) (scope : List Binder) (left : ℕ) (env : List Binding) → IsWithinCalls left (one e wanted scope left env).end) es
  each_fewer [] = tt
  each_fewer (e ∷ es) = (all_fewer e, each_fewer es)

  parts_alike : (es : List Expr) → Each Alike es → (ts : List Ty) (scope : List Binder) (vs : List Value) (left : ℕ) (env : List Binding) → left ≤ top → all_of (map one es) ts scope vs left env ≡ all_of (map other es) ts scope vs left env
  parts_alike [] each ts scope vs left env le = refl
  parts_alike (e ∷ es) each ts scope vs left env le =
      ap (parts_after (one e (first_wanted ts) scope left env).log) (part_same left (one e (first_wanted ts) scope left env).end _ _ (all_fewer e (first_wanted ts) scope left env) le
      (λ v rest lt. parts_alike es each.1 (later_wanted ts) scope (vs ++ v ∷ []) rest env lt))
      ∙ ap (λ (o : Outcome). parts_after o.log (at_part o.end (λ v rest. all_of (map other es) (later_wanted ts) scope (vs ++ v ∷ []) rest env))) (each.0 (first_wanted ts) scope left env le)

  clause_opened : (d : Calls) (types : List DataDecl) (t : Ty) (k : Clause) (cs : List (Pat × Meaning)) (wanted others : Option Ty) (scope : List Binder) (v : Value) (left : ℕ) (env : List Binding)
      → first_of types t (clause_meaning p d f k ∷ cs) wanted others scope v left env
      ≡ (if matches_of k.pat v then meaning_of p d f k.body wanted (scope ++ binders types k.pat t) left (env ++ bindings k.pat v) else first_of types t cs others others scope v left env)
  clause_opened d types t k cs wanted others scope v left env =
      ap (λ (b : Pat × Meaning). if matches_of b.0 v then b.1 wanted (scope ++ binders types b.0 t) left (env ++ bindings b.0 v) else first_of types t cs others others scope v left env) (clause_meaning-is p d f k)

  clauses_alike : (types : List DataDecl) (t : Ty) (cs : List Clause) → EachBody Alike cs → (wanted others : Option Ty) (scope : List Binder) (v : Value) (left : ℕ) (env : List Binding) → left ≤ top
      → first_of types t (map (clause_meaning p c f) cs) wanted others scope v left env ≡ first_of types t (map (clause_meaning p c' f) cs) wanted others scope v left env
  clauses_alike types t [] each wanted others scope v left env le = refl
  clauses_alike types t (k ∷ cs) each wanted others scope v left env le = clause_opened c types t k _ wanted others scope v left env
      ∙ (λ i. if matches_of k.pat v then each.0 wanted (scope ++ binders types k.pat t) left (env ++ bindings k.pat v) le i else clauses_alike types t cs each.1 others others scope v left env le i)
      ∙ sym (clause_opened c' types t k _ wanted others scope v left env)

  pub alike : (e : Expr) → Alike e
  alike = induction Alike (record {
    num = λ at n wanted scope left env le. meaning-Num p c f wanted scope left env at n ∙ sym (meaning-Num p c' f wanted scope left env at n);
    var = λ at x wanted scope left env le. meaning-Var p c f wanted scope left env at x ∙ sym (meaning-Var p c' f wanted scope left env at x);
    call = λ at g es each wanted scope left env le. meaning-Call p c f wanted scope left env at g es
        ∙ with_same left _ _ _ _ (parts_alike es each _ scope [] left env le) (parts_fewer p c bounded f es (each_fewer es) _ scope [] left env) le (λ vs rest lt. agree g rest vs lt)
        ∙ sym (meaning-Call p c' f wanted scope left env at g es);
    build = λ at con es each wanted scope left env le. meaning-Build p c f wanted scope left env at con es
        ∙ with_same left _ _ _ _ (parts_alike es each _ scope [] left env le) (parts_fewer p c bounded f es (each_fewer es) _ scope [] left env) le (λ vs rest lt. refl)
        ∙ sym (meaning-Build p c' f wanted scope left env at con es);
    binary = λ at op a b ha hb wanted scope left env le. meaning-Binary p c f wanted scope left env at op a b
        ∙ do_same left _ _ _ _ (ha _ scope left env le) (all_fewer a _ scope left env) le (λ v rest lt. do_same rest _ _ _ _ (hb _ scope rest env lt) (all_fewer b _ scope rest env) lt (λ w last _. refl))
        ∙ sym (meaning-Binary p c' f wanted scope left env at op a b);
    to = λ at bits a ha wanted scope left env le. meaning-To p c f wanted scope left env at bits a
        ∙ do_same left _ _ _ _ (ha None scope left env le) (all_fewer a None scope left env) le (λ v rest _. refl)
        ∙ sym (meaning-To p c' f wanted scope left env at bits a);
    bound = λ at x t a b ha hb wanted scope left env le. meaning-Let p c f wanted scope left env at x t a b
        ∙ do_same left _ _ _ _ (ha (Some t) scope left env le) (all_fewer a (Some t) scope left env) le (λ v rest lt. hb wanted _ rest _ lt)
        ∙ sym (meaning-Let p c' f wanted scope left env at x t a b);
    choice = λ at e cs he hcs wanted scope left env le. meaning-Match p c f wanted scope left env at e cs
        ∙ do_same left _ _ _ _ (he None scope left env le) (all_fewer e None scope left env) le (λ v rest lt. ap (λ (o : Outcome). after (Matched f at ∷ []) o) (clauses_alike p.types _ cs hcs wanted _ scope v rest env lt))
        ∙ sym (meaning-Match p c' f wanted scope left env at e cs);
  })

module _ (p : Program) where
  body_alike : (o : Option Fun) (c c' : Calls) (g n : ℕ) (vs : List Value) → ((g n : ℕ) (vs : List Value) → IsWithinCalls n (c g n vs).end) → ((g m : ℕ) (vs : List Value) → m ≤ n → c g m vs ≡ c' g m vs) → body_outcome p c o g n vs ≡ body_outcome p c' o g n vs
  body_alike None c c' g n vs b h = refl
  body_alike (Some f) c c' g n vs b h = alike p c c' b n h g f.body (Some f.result) (map binder_of f.params) n (argument_bindings f.params vs) (le_refl n)

  -- calls nest no deeper than there are calls
  pub enough : (k k' g n : ℕ) (vs : List Value) → n ≤ k → n ≤ k' → call_within p k g n vs ≡ call_within p k' g n vs
  enough k k' g zero vs le le' = refl
  enough zero k' g (suc n) vs le le' = absurd (omega arith)
  enough (suc k) zero g (suc n) vs le le' = absurd (omega arith)
  enough (suc k) (suc k') g (suc n) vs le le' =
      body_alike (slice_get p.funs g) (call_within p k) (call_within p k') g n vs (call-bounded p k)
      (λ h m ws lt. let a : m ≤ k = omega arith in let b : m ≤ k' = omega arith in enough k k' h m ws a b)

  -- with calls left, a call is the function's body with one call less
  pub call-runs : (g n : ℕ) (vs : List Value) → call_of p g (suc n) vs ≡ body_outcome p (call_of p) (slice_get p.funs g) g n vs
  call-runs g n vs = body_alike (slice_get p.funs g) (call_within p n) (call_of p) g n vs (call-bounded p n) (λ h m ws lt. enough n m h m ws lt (le_refl m))

-- the same, by the calls that are left
pub call_of-runs : (p : Program) (g left : ℕ) (vs : List Value) → 0 < left
    → call_of p g left vs ≡ body_outcome p (call_of p) (slice_get p.funs g) g (left - 1) vs
call_of-runs p g zero vs lt = absurd (omega arith)
call_of-runs p g (suc left) vs lt = let e : suc left - 1 ≡ left = omega arith in rw e (call-runs p g left vs)
