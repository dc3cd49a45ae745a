-- More calls left go on where fewer end: what is done stays done, and a log that ends for want of
-- calls is the beginning of the longer log.
use Rattle.std.proofs.Common.{◌≡◌, ℕ, zero, suc, ◌+◌, List, [], ◌∷◌, ◌++◌, map, Bool, true, false, Option, Some, None, refl, sym, ap, ◌∙◌, subst, le_refl, arith, append_assoc}
use Rattle.std.proofs.lemmas.List.{append-nil}
use Rattle.std.specs.Prelude.{if◌then◌else◌, slice_get, ◌≤◌}
use Rattle.rb_core.specs.declared.value.Value.{Value}
use Rattle.rb_core.specs.declared.types.Ty.{Ty}
use Rattle.rb_core.specs.declared.types.DataDecl.{DataDecl}
use Rattle.rb_core.specs.declared.typing.Binder.{Binder}
use Rattle.rb_core.specs.declared.binding.Binding.{Binding}
use Rattle.rb_core.specs.declared.pattern.Pat.{Pat}
use Rattle.rb_core.specs.declared.outcome.Event.{Event}
use Rattle.rb_core.specs.declared.outcome.Event.TheVariants.{Matched}
use Rattle.rb_core.specs.declared.outcome.SourceEnd.{SourceEnd}
use Rattle.rb_core.specs.declared.outcome.SourceEnd.TheVariants.{Done, Spent}
use Rattle.rb_core.specs.declared.outcome.PartsEnd.{PartsEnd}
use Rattle.rb_core.specs.declared.outcome.PartsEnd.TheVariants.{AllDone, Cut}
use Rattle.rb_core.specs.declared.outcome.Outcome.{Outcome}
use Rattle.rb_core.specs.declared.program.Fun.{Fun}
use Rattle.rb_core.specs.declared.program.Program.{Program}
use Rattle.rb_core.specs.declared.expression.Clause.{Clause}
use Rattle.rb_core.specs.declared.expression.Expr.{Expr}
use Rattle.rb_core.specs.Matching.{matches_of, bindings}
use Rattle.rb_core.specs.Typing.{binder_of}
use Rattle.rb_core.specs.Inference.{binders}
use Rattle.rb_core.specs.Meaning.{Meaning, Calls, after, at_end, then_do, PartsOutcome, at_part, parts_after, first_wanted, later_wanted, all_of, at_parts_end, then_with, first_of, meaning_of, clause_meaning, argument_bindings, body_outcome, call_within, call_of}
use Rattle.rb_core.specs.Outcomes.{BeginsWith, GoesOn, ExtendsOutcome}
use Rattle.rb_core.proofs.ExpressionLaws.{Each, EachBody, induction}
use Rattle.rb_core.proofs.MeaningForms.{clause_meaning-is, meaning-Num, meaning-Var, meaning-Call, meaning-Build, meaning-Binary, meaning-To, meaning-Let, meaning-Match}
use Rattle.rb_core.proofs.CallLaws.{enough}

begins-append : (first all more : List Event) → BeginsWith first all → BeginsWith (first ++ []) (all ++ more)
begins-append first all more b = record { rest = b.rest ++ more; same = ap (λ l. l ++ more) b.same ∙ append_assoc first b.rest more ∙ ap (λ l. l ++ (b.rest ++ more)) (sym (append-nil first)) }

begins-behind : (log first all : List Event) → BeginsWith first all → BeginsWith (log ++ first) (log ++ all)
begins-behind log first all b = record { rest = b.rest; same = ap (λ l. log ++ l) b.same ∙ sym (append_assoc log first b.rest) }

module _ (more : ℕ) where
  abbrev GoesOnParts : List Event → PartsEnd → PartsOutcome → Type 0
  GoesOnParts log (AllDone vs left) o = (log ≡ o.log) × (o.end ≡ AllDone vs (left + more))
  GoesOnParts log Cut o = BeginsWith log o.log

  abbrev ExtendsParts : PartsOutcome → PartsOutcome → Type 0
  ExtendsParts short long = GoesOnParts short.log short.end long

  behind : (log l : List Event) (e : SourceEnd) (o : Outcome) → GoesOn more l e o → GoesOn more (log ++ l) e (after log o)
  behind log l (Done v left) o h = (ap (λ x. log ++ x) h.0, h.1)
  behind log l Spent o h = begins-behind log l o.log h

  parts_behind : (log l : List Event) (e : PartsEnd) (o : PartsOutcome) → GoesOnParts l e o → GoesOnParts (log ++ l) e (parts_after log o)
  parts_behind log l (AllDone vs left) o h = (ap (λ x. log ++ x) h.0, h.1)
  parts_behind log l Cut o h = begins-behind log l o.log h

  do_from : (log : List Event) (e : SourceEnd) (o : Outcome) (go go' : Value → ℕ → Outcome) → GoesOn more log e o → ((v : Value) (left : ℕ) → ExtendsOutcome more (go v left) (go' v (left + more)))
      → ExtendsOutcome more (after log (at_end e go)) (then_do o go')
  unfolding then_do
  do_from log (Done v left) o go go' h k =
      subst (λ (x : Outcome). ExtendsOutcome more (after log (go v left)) x) (ap (λ l. after l (go' v (left + more))) h.0 ∙ ap (λ e. after o.log (at_end e go')) (sym h.1))
      (behind log (go v left).log (go v left).end (go' v (left + more)) (k v left))
  do_from log Spent o go go' h k = begins-append log o.log (at_end o.end go').log h

  extends_do : (o o' : Outcome) (go go' : Value → ℕ → Outcome) → ExtendsOutcome more o o' → ((v : Value) (left : ℕ) → ExtendsOutcome more (go v left) (go' v (left + more))) → ExtendsOutcome more (then_do o go) (then_do o' go')
  unfolding then_do
  extends_do o o' go go' h k = do_from o.log o.end o' go go' h k

  with_from : (log : List Event) (e : PartsEnd) (o : PartsOutcome) (go go' : List Value → ℕ → Outcome) → GoesOnParts log e o → ((vs : List Value) (left : ℕ) → ExtendsOutcome more (go vs left) (go' vs (left + more)))
      → ExtendsOutcome more (after log (at_parts_end e go)) (then_with o go')
  unfolding then_with
  with_from log (AllDone vs left) o go go' h k =
      subst (λ (x : Outcome). ExtendsOutcome more (after log (go vs left)) x) (ap (λ l. after l (go' vs (left + more))) h.0 ∙ ap (λ e. after o.log (at_parts_end e go')) (sym h.1))
      (behind log (go vs left).log (go vs left).end (go' vs (left + more)) (k vs left))
  with_from log Cut o go go' h k = begins-append log o.log (at_parts_end o.end go').log h

  extends_with : (o o' : PartsOutcome) (go go' : List Value → ℕ → Outcome) → ExtendsParts o o' → ((vs : List Value) (left : ℕ) → ExtendsOutcome more (go vs left) (go' vs (left + more))) → ExtendsOutcome more (then_with o go) (then_with o' go')
  unfolding then_with
  extends_with o o' go go' h k = with_from o.log o.end o' go go' h k

  part_from : (log : List Event) (e : SourceEnd) (o : Outcome) (go go' : Value → ℕ → PartsOutcome) → GoesOn more log e o → ((v : Value) (left : ℕ) → ExtendsParts (go v left) (go' v (left + more)))
      → ExtendsParts (parts_after log (at_part e go)) (parts_after o.log (at_part o.end go'))
  part_from log (Done v left) o go go' h k =
      subst (λ (x : PartsOutcome). ExtendsParts (parts_after log (go v left)) x) (ap (λ l. parts_after l (go' v (left + more))) h.0 ∙ ap (λ e. parts_after o.log (at_part e go')) (sym h.1))
      (parts_behind log (go v left).log (go v left).end (go' v (left + more)) (k v left))
  part_from log Spent o go go' h k = begins-append log o.log (at_part o.end go').log h

  module _ (p : Program) (calls : Calls) (longer : (g n : ℕ) (vs : List Value) → ExtendsOutcome more (calls g n vs) (calls g (n + more) vs)) (f : ℕ) where
    abbrev ev : Expr → Meaning
    ev = meaning_of p calls f

    abbrev Longer : Expr → Type 0
    Longer e = (wanted : Option Ty) (scope : List Binder) (left : ℕ) (env : List Binding) → ExtendsOutcome more (ev e wanted scope left env) (ev e wanted scope (left + more) env)

    same : (o o' a a' : Outcome) → o ≡ a → o' ≡ a' → ExtendsOutcome more a a' → ExtendsOutcome more o o'
    same o o' a a' e e' h = subst (λ x. ExtendsOutcome more x o') (sym e) (subst (λ x. ExtendsOutcome more a x) (sym e') h)

    one_of : (b : Bool) (x x' y y' : Outcome) → ExtendsOutcome more x x' → ExtendsOutcome more y y' → ExtendsOutcome more (if b then x else y) (if b then x' else y')
    one_of true x x' y y' h h' = h
    one_of false x x' y y' h h' = h'

    parts_longer : (es : List Expr) → Each Longer es → (ts : List Ty) (scope : List Binder) (vs : List Value) (left : ℕ) (env : List Binding) → ExtendsParts (all_of (map ev es) ts scope vs left env) (all_of (map ev es) ts scope vs (left + more) env)
    parts_longer [] each ts scope vs left env = (refl, refl)
    parts_longer (e ∷ es) each ts scope vs left env =
        part_from (ev e (first_wanted ts) scope left env).log (ev e (first_wanted ts) scope left env).end (ev e (first_wanted ts) scope (left + more) env) _ _
        (each.0 (first_wanted ts) scope left env) (λ v rest. parts_longer es each.1 (later_wanted ts) scope (vs ++ v ∷ []) rest env)

    opened : (types : List DataDecl) (t : Ty) (c : Clause) (cs : List Clause) (wanted others : Option Ty) (scope : List Binder) (v : Value) (left : ℕ) (env : List Binding)
        → first_of types t (clause_meaning p calls f c ∷ map (clause_meaning p calls f) cs) wanted others scope v left env
        ≡ (if matches_of c.pat v then ev c.body wanted (scope ++ binders types c.pat t) left (env ++ bindings c.pat v) else first_of types t (map (clause_meaning p calls f) cs) others others scope v left env)
    opened types t c cs wanted others scope v left env =
        ap (λ (b : Pat × Meaning). if matches_of b.0 v then b.1 wanted (scope ++ binders types b.0 t) left (env ++ bindings b.0 v) else first_of types t (map (clause_meaning p calls f) cs) others others scope v left env) (clause_meaning-is p calls f c)

    clauses_longer : (types : List DataDecl) (t : Ty) (cs : List Clause) → EachBody Longer cs → (wanted others : Option Ty) (scope : List Binder) (v : Value) (left : ℕ) (env : List Binding)
        → ExtendsOutcome more (first_of types t (map (clause_meaning p calls f) cs) wanted others scope v left env) (first_of types t (map (clause_meaning p calls f) cs) wanted others scope v (left + more) env)
    clauses_longer types t [] each wanted others scope v left env = (refl, refl)
    clauses_longer types t (c ∷ cs) each wanted others scope v left env =
        same _ _ _ _ (opened types t c cs wanted others scope v left env) (opened types t c cs wanted others scope v (left + more) env)
        (one_of (matches_of c.pat v) (ev c.body wanted (scope ++ binders types c.pat t) left (env ++ bindings c.pat v)) (ev c.body wanted (scope ++ binders types c.pat t) (left + more) (env ++ bindings c.pat v))
        (first_of types t (map (clause_meaning p calls f) cs) others others scope v left env) (first_of types t (map (clause_meaning p calls f) cs) others others scope v (left + more) env)
        (each.0 wanted (scope ++ binders types c.pat t) left (env ++ bindings c.pat v)) (clauses_longer types t cs each.1 others others scope v left env))

    pub goes_on : (e : Expr) → Longer e
    goes_on = induction Longer (record {
      num = λ at n wanted scope left env. same _ _ _ _ (meaning-Num p calls f wanted scope left env at n) (meaning-Num p calls f wanted scope (left + more) env at n) (refl, refl);
      var = λ at x wanted scope left env. same _ _ _ _ (meaning-Var p calls f wanted scope left env at x) (meaning-Var p calls f wanted scope (left + more) env at x) (refl, refl);
      call = λ at g es each wanted scope left env. same _ _ _ _ (meaning-Call p calls f wanted scope left env at g es) (meaning-Call p calls f wanted scope (left + more) env at g es)
          (extends_with _ _ _ _ (parts_longer es each _ scope [] left env) (λ vs rest. longer g rest vs));
      build = λ at c es each wanted scope left env. same _ _ _ _ (meaning-Build p calls f wanted scope left env at c es) (meaning-Build p calls f wanted scope (left + more) env at c es)
          (extends_with _ _ _ _ (parts_longer es each _ scope [] left env) (λ vs rest. (refl, refl)));
      binary = λ at op a b ha hb wanted scope left env. same _ _ _ _ (meaning-Binary p calls f wanted scope left env at op a b) (meaning-Binary p calls f wanted scope (left + more) env at op a b)
          (extends_do _ _ _ _ (ha _ scope left env) (λ v rest. extends_do _ _ _ _ (hb _ scope rest env) (λ w last. (refl, refl))));
      to = λ at bits a ha wanted scope left env. same _ _ _ _ (meaning-To p calls f wanted scope left env at bits a) (meaning-To p calls f wanted scope (left + more) env at bits a)
          (extends_do _ _ _ _ (ha None scope left env) (λ v rest. (refl, refl)));
      bound = λ at x t a b ha hb wanted scope left env. same _ _ _ _ (meaning-Let p calls f wanted scope left env at x t a b) (meaning-Let p calls f wanted scope (left + more) env at x t a b)
          (extends_do _ _ _ _ (ha (Some t) scope left env) (λ v rest. hb wanted _ rest _));
      choice = λ at e cs he hcs wanted scope left env. same _ _ _ _ (meaning-Match p calls f wanted scope left env at e cs) (meaning-Match p calls f wanted scope (left + more) env at e cs)
          (extends_do _ _ _ _ (he None scope left env) (λ v rest. behind (Matched f at ∷ []) _ _ _ (clauses_longer p.types _ cs hcs wanted _ scope v rest env)));
    })

  module _ (p : Program) where
    body_longer : (calls : Calls) → ((g n : ℕ) (vs : List Value) → ExtendsOutcome more (calls g n vs) (calls g (n + more) vs)) → (o : Option Fun) (g n : ℕ) (vs : List Value) → ExtendsOutcome more (body_outcome p calls o g n vs) (body_outcome p calls o g (n + more) vs)
    body_longer calls longer None g n vs = (refl, refl)
    body_longer calls longer (Some f) g n vs = goes_on p calls longer g f.body (Some f.result) (map binder_of f.params) n (argument_bindings f.params vs)

    within_longer : (k g n : ℕ) (vs : List Value) → ExtendsOutcome more (call_within p k g n vs) (call_within p k g (n + more) vs)
    within_longer k g zero vs = record { rest = (call_within p k g (zero + more) vs).log; same = refl }
    within_longer zero g (suc n) vs = let e : suc n + more ≡ suc (n + more) = omega arith in rw e (record { rest = []; same = refl })
    within_longer (suc k) g (suc n) vs = let e : suc n + more ≡ suc (n + more) = omega arith in rw e (body_longer (call_within p k) (within_longer k) (slice_get p.funs g) g n vs)

    pub call-longer : (g n : ℕ) (vs : List Value) → ExtendsOutcome more (call_of p g n vs) (call_of p g (n + more) vs)
    call-longer g n vs = let le : n ≤ n + more = omega arith in
        subst (λ x. ExtendsOutcome more x (call_of p g (n + more) vs)) (enough p (n + more) n g n vs le (le_refl n)) (within_longer (n + more) g n vs)
