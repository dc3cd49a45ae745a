-- Calls left: an evaluation ends with no more calls left than it began with, if calls do.
use Rattle.std.proofs.Common.{◌≡◌, ℕ, zero, suc, ◌≤◌, List, [], ◌∷◌, ◌++◌, map, Bool, true, false, Option, Some, None, sym, ap, subst, le_refl, le_trans, arith}
use Rattle.std.specs.Prelude.{if◌then◌else◌, slice_get}
use Rattle.rb_core.specs.declared.value.Value.{Value}
use Rattle.rb_core.specs.declared.types.Ty.{Ty}
use Rattle.rb_core.specs.declared.types.DataDecl.{DataDecl}
use Rattle.rb_core.specs.declared.typing.Binder.{Binder}
use Rattle.rb_core.specs.declared.binding.Binding.{Binding}
use Rattle.rb_core.specs.declared.pattern.Pat.{Pat}
use Rattle.rb_core.specs.declared.outcome.Event.{Event}
use Rattle.rb_core.specs.declared.outcome.SourceEnd.{SourceEnd}
use Rattle.rb_core.specs.declared.outcome.SourceEnd.TheVariants.{Done, Spent}
use Rattle.rb_core.specs.declared.outcome.PartsEnd.{PartsEnd}
use Rattle.rb_core.specs.declared.outcome.PartsEnd.TheVariants.{AllDone, Cut}
use Rattle.rb_core.specs.declared.outcome.Outcome.{Outcome}
use Rattle.rb_core.specs.declared.program.Fun.{Fun}
use Rattle.rb_core.specs.declared.program.Program.{Program}
use Rattle.rb_core.specs.declared.expression.Clause.{Clause}
use Rattle.rb_core.specs.declared.expression.Expr.{Expr}
use Rattle.rb_core.specs.Matching.{matches_of, bindings}
use Rattle.rb_core.specs.Typing.{binder_of}
use Rattle.rb_core.specs.Inference.{binders}
use Rattle.rb_core.specs.Meaning.{Meaning, Calls, number_of, at_end, then_do, PartsOutcome, at_part, first_wanted, later_wanted, all_of, at_parts_end, then_with, first_of, meaning_of, clause_meaning, argument_bindings, body_outcome, call_within, call_of}
use Rattle.rb_core.specs.inner.Evaluation.{IsWithinCalls, IsPartsWithinCalls, GivesOutcome, GivesParts, done_number}
use Rattle.rb_core.proofs.ExpressionLaws.{Each, EachBody, induction}
use Rattle.rb_core.proofs.MeaningForms.{clause_meaning-is, meaning-Num, meaning-Var, meaning-Call, meaning-Build, meaning-Binary, meaning-To, meaning-Let, meaning-Match}

within-le : (m n : ℕ) (e : SourceEnd) → m ≤ n → IsWithinCalls m e → IsWithinCalls n e
within-le m n (Done v left) le h = le_trans h le
within-le m n Spent le h = tt

parts-le : (m n : ℕ) (e : PartsEnd) → m ≤ n → IsPartsWithinCalls m e → IsPartsWithinCalls n e
parts-le m n (AllDone vs left) le h = le_trans h le
parts-le m n Cut le h = tt

within_end : (n : ℕ) (e : SourceEnd) (go : Value → ℕ → Outcome) → IsWithinCalls n e → ((v : Value) (rest : ℕ) → IsWithinCalls rest (go v rest).end) → IsWithinCalls n (at_end e go).end
within_end n (Done v left) go h k = within-le left n (go v left).end h (k v left)
within_end n Spent go h k = tt

within_parts : (n : ℕ) (e : PartsEnd) (go : List Value → ℕ → Outcome) → IsPartsWithinCalls n e → ((vs : List Value) (rest : ℕ) → IsWithinCalls rest (go vs rest).end) → IsWithinCalls n (at_parts_end e go).end
within_parts n (AllDone vs left) go h k = within-le left n (go vs left).end h (k vs left)
within_parts n Cut go h k = tt

within_part : (n : ℕ) (e : SourceEnd) (go : Value → ℕ → PartsOutcome) → IsWithinCalls n e → ((v : Value) (rest : ℕ) → IsPartsWithinCalls rest (go v rest).end) → IsPartsWithinCalls n (at_part e go).end
within_part n (Done v left) go h k = parts-le left n (go v left).end h (k v left)
within_part n Spent go h k = tt

within_do : (n : ℕ) (o : Outcome) (go : Value → ℕ → Outcome) → IsWithinCalls n o.end → ((v : Value) (rest : ℕ) → IsWithinCalls rest (go v rest).end) → IsWithinCalls n (then_do o go).end
unfolding then_do
within_do n o go = within_end n o.end go

within_with : (n : ℕ) (o : PartsOutcome) (go : List Value → ℕ → Outcome) → IsPartsWithinCalls n o.end → ((vs : List Value) (rest : ℕ) → IsWithinCalls rest (go vs rest).end) → IsWithinCalls n (then_with o go).end
unfolding then_with
within_with n o go = within_parts n o.end go

module _ (p : Program) (calls : Calls) (bounded : (g n : ℕ) (vs : List Value) → IsWithinCalls n (calls g n vs).end) (f : ℕ) where
  abbrev ev : Expr → Meaning
  ev = meaning_of p calls f

  abbrev Holds : ℕ → Outcome → Type 0
  Holds n o = IsWithinCalls n o.end

  abbrev Fewer : Expr → Type 0
  Fewer e = (wanted : Option Ty) (scope : List Binder) (left : ℕ) (env : List Binding) → Holds left (ev e wanted scope left env)

  same : (n : ℕ) (o o' : Outcome) → o ≡ o' → Holds n o' → Holds n o
  same n o o' e h = subst (Holds n) (sym e) h

  one_of : (b : Bool) (n : ℕ) (o o' : Outcome) → Holds n o → Holds n o' → Holds n (if b then o else o')
  one_of true n o o' h h' = h
  one_of false n o o' h h' = h'

  pub parts_fewer : (es : List Expr) → Each Fewer es → (ts : List Ty) (scope : List Binder) (vs : List Value) (left : ℕ) (env : List Binding) → IsPartsWithinCalls left (all_of (map ev es) ts scope vs left env).end
  parts_fewer [] each ts scope vs left env = le_refl left
  parts_fewer (e ∷ es) each ts scope vs left env =
      within_part left _ _ (each.0 (first_wanted ts) scope left env) (λ v rest. parts_fewer es each.1 (later_wanted ts) scope (vs ++ v ∷ []) rest env)

  clauses_fewer : (types : List DataDecl) (t : Ty) (cs : List Clause) → EachBody Fewer cs → (wanted others : Option Ty) (scope : List Binder) (v : Value) (left : ℕ) (env : List Binding) → Holds left (first_of types t (map (clause_meaning p calls f) cs) wanted others scope v left env)
  clauses_fewer types t [] each wanted others scope v left env = le_refl left
  clauses_fewer types t (c ∷ cs) each wanted others scope v left env =
      same left _ _ (ap (λ (d : Pat × Meaning). if matches_of d.0 v then d.1 wanted (scope ++ binders types d.0 t) left (env ++ bindings d.0 v) else first_of types t (map (clause_meaning p calls f) cs) others others scope v left env) (clause_meaning-is p calls f c))
      (one_of (matches_of c.pat v) left (ev c.body wanted (scope ++ binders types c.pat t) left (env ++ bindings c.pat v)) (first_of types t (map (clause_meaning p calls f) cs) others others scope v left env)
      (each.0 wanted (scope ++ binders types c.pat t) left (env ++ bindings c.pat v)) (clauses_fewer types t cs each.1 others others scope v left env))

  pub fewer : (e : Expr) → Fewer e
  fewer = induction Fewer (record {
    num = λ at n wanted scope left env. same left _ _ (meaning-Num p calls f wanted scope left env at n) (le_refl left);
    var = λ at x wanted scope left env. same left _ _ (meaning-Var p calls f wanted scope left env at x) (le_refl left);
    call = λ at g es each wanted scope left env. same left _ _ (meaning-Call p calls f wanted scope left env at g es)
        (within_with left _ _ (parts_fewer es each _ scope [] left env) (λ vs rest. bounded g rest vs));
    build = λ at c es each wanted scope left env. same left _ _ (meaning-Build p calls f wanted scope left env at c es)
        (within_with left _ _ (parts_fewer es each _ scope [] left env) (λ vs rest. le_refl rest));
    binary = λ at op a b ha hb wanted scope left env. same left _ _ (meaning-Binary p calls f wanted scope left env at op a b)
        (within_do left _ _ (ha _ scope left env) (λ v rest. within_do rest _ _ (hb _ scope rest env) (λ w last. le_refl last)));
    to = λ at bits a ha wanted scope left env. same left _ _ (meaning-To p calls f wanted scope left env at bits a)
        (within_do left _ _ (ha None scope left env) (λ v rest. le_refl rest));
    bound = λ at x t a b ha hb wanted scope left env. same left _ _ (meaning-Let p calls f wanted scope left env at x t a b)
        (within_do left _ _ (ha (Some t) scope left env) (λ v rest. hb wanted _ rest _));
    choice = λ at e cs he hcs wanted scope left env. same left _ _ (meaning-Match p calls f wanted scope left env at e cs)
        (within_do left _ _ (he None scope left env) (λ v rest. clauses_fewer p.types _ cs hcs wanted _ scope v rest env));
  })

module _ (p : Program) where
  bounded_body : (o : Option Fun) (calls : Calls) (g n : ℕ) (vs : List Value) → ((g n : ℕ) (vs : List Value) → IsWithinCalls n (calls g n vs).end) → IsWithinCalls n (body_outcome p calls o g n vs).end
  bounded_body None calls g n vs h = le_refl n
  bounded_body (Some f) calls g n vs h = fewer p calls h g f.body (Some f.result) (map binder_of f.params) n (argument_bindings f.params vs)

  pub call-bounded : (k g n : ℕ) (vs : List Value) → IsWithinCalls n (call_within p k g n vs).end
  call-bounded k g zero vs = tt
  call-bounded zero g (suc n) vs = tt
  call-bounded (suc k) g (suc n) vs =
      let le : n ≤ suc n = omega arith in within-le n (suc n) _ le (bounded_body (slice_get p.funs g) (call_within p k) g n vs (call-bounded k))

-- an end that a meaning gives leaves no more calls than it began with
module _ (p : Program) (f : ℕ) (scope : List Binder) (left : ℕ) (env : List Binding) (old new : List Event) where
  of_call : (g n : ℕ) (vs : List Value) → IsWithinCalls n (call_of p g n vs).end
  of_call g n vs = call-bounded p n g n vs

  pub fewer-gives : (e : Expr) (wanted : Option Ty) (end : SourceEnd)
      → GivesOutcome (meaning_of p (call_of p) f e wanted scope left env) old new end → IsWithinCalls left end
  fewer-gives e wanted end g = subst (IsWithinCalls left) (sym g.same_end) (fewer p (call_of p) of_call f e wanted scope left env)

  all_fewer : (es : List Expr) → Each (λ e. (wanted : Option Ty) (scope : List Binder) (left : ℕ) (env : List Binding) → IsWithinCalls left (meaning_of p (call_of p) f e wanted scope left env).end) es
  all_fewer [] = tt
  all_fewer (e ∷ es) = (fewer p (call_of p) of_call f e, all_fewer es)

  pub parts-fewer-gives : (es : List Expr) (ts : List Ty) (end : PartsEnd)
      → GivesParts (all_of (map (meaning_of p (call_of p) f) es) ts scope [] left env) old new end → IsPartsWithinCalls left end
  parts-fewer-gives es ts end g = subst (IsPartsWithinCalls left) (sym g.same_end) (parts_fewer p (call_of p) of_call f es (all_fewer es) ts scope [] left env)

pub fewer-done : (n m left : ℕ) (end : SourceEnd) → Some (m, left) ≡ done_number end → IsWithinCalls n end → left ≤ n
fewer-done n m left (Done v rest) e le =
    let pair : (m, left) ≡ (number_of v, rest) = cc in
    let same : left ≡ rest = ap (λ (q : ℕ × ℕ). q.1) pair in rw same le
fewer-done n m left Spent e le = absurd (cc e)
