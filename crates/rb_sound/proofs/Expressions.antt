-- Typed expressions end with values of their types, if calls do.
use Rattle.std.proofs.Common.{◌≡◌, ℕ, ◌<◌, ◌≤◌, ◌%◌, ◌^◌, List, [], ◌∷◌, ◌++◌, map, length, Bool, true, false, ◌==◌, ◌&&◌, Option, Some, None, Ok, refl, sym, ap, ◌∙◌, subst, arith, append_assoc, eqb-true, min}
use Rattle.std.proofs.lemmas.List.{append-nil}
use Rattle.std.proofs.lemmas.List.Elements.{All-nil, All-cons, All-append}
use Rattle.std.proofs.Math.Nat.{pow-le-pow_right, mod-lt}
use Rattle.std.proofs.lemmas.Bool.Decides.{nat_tests}
use Rattle.std.specs.Prelude.{if◌then◌else◌, unwrap_or, is_some, IsSome, nat_lt}
use Rattle.std.specs.List.{All, flat_map, list_all}
use Rattle.std.proofs.lemmas.Bool.{and_parts}
use Rattle.rb_core.specs.declared.value.Value.{Value, Num, Con}
use Rattle.rb_core.specs.declared.types.Ty.{Ty}
use Rattle.rb_core.specs.declared.types.Ty.TheVariants.{Int, Named}
use Rattle.rb_core.specs.declared.types.ConRef.{ConRef}
use Rattle.rb_core.specs.declared.types.DataDecl.{DataDecl}
use Rattle.rb_core.specs.declared.typing.Binder.{Binder}
use Rattle.rb_core.specs.declared.binding.Binding.{Binding}
use Rattle.rb_core.specs.declared.program.Param.{Param}
use Rattle.rb_core.specs.declared.program.Fun.{Fun}
use Rattle.rb_core.specs.declared.program.Program.{Program}
use Rattle.rb_core.specs.declared.outcome.Event.{Event}
use Rattle.rb_core.specs.declared.outcome.Event.TheVariants.{Built, Matched}
use Rattle.rb_core.specs.declared.outcome.SourceEnd.{SourceEnd}
use Rattle.rb_core.specs.declared.outcome.SourceEnd.TheVariants.{Done, Spent}
use Rattle.rb_core.specs.declared.outcome.PartsEnd.{PartsEnd}
use Rattle.rb_core.specs.declared.outcome.PartsEnd.TheVariants.{AllDone, Cut}
use Rattle.rb_core.specs.declared.outcome.Outcome.{Outcome}
use Rattle.rb_core.specs.declared.pattern.Pat.{Pat}
use Rattle.rb_core.specs.declared.expression.Op.{Op}
use Rattle.rb_core.specs.declared.expression.Clause.{Clause}
use Rattle.rb_core.specs.declared.expression.Expr.{Expr}
use Rattle.rb_core.specs.declared.expression.Expr as X
use Rattle.rb_core.specs.Values.{is_of_type, are_of, fields_of}
use Rattle.rb_core.specs.Matching.{matches_of, bindings, chosen_clause, next_clause}
use Rattle.rb_core.specs.Typing.{as_wanted, type_holds, number_typing, integer, variable_type, distinct_binders, field_types, pattern_params, pattern_binders, each_argument, arguments, param_types, result_type, operand_wanted, operator_type, integer_operand, operands_typing, clauses_typing, clause_rule, rule_of, type_of}
use Rattle.rb_core.specs.Inference.{width_of, with_binder, binders, operands_type, match_type, inferred_type, clause_inferred}
use Rattle.rb_core.specs.Coverage.{SitedBranch, part_sites, branch_sites, sites, AreExhaustive}
use Rattle.rb_core.specs.Meaning.{Meaning, Calls, op_value, value_outcome, spent_outcome, after, at_end, then_do, PartsOutcome, at_part, parts_after, all_of, at_parts_end, then_with, construction_outcome, first_of, meaning_of, clause_meaning, with_value}
use Rattle.rb_core.proofs.ValueLaws.{is_of_type-Num, is_of_type-Con}
use Rattle.rb_core.proofs.ExpressionLaws.{Each, EachBody, induction}
use Rattle.rb_core.proofs.TypingLemmas.{type-Num, type-Var, type-Call, type-Build, type-Binary, type-To, type-Let, type-Match, type-Clause}
use Rattle.rb_core.proofs.InferenceForms.{inferred-Match}
use Rattle.rb_core.proofs.InferenceAgreement.{wanted-is_found, inferred-is_found, clause_typed, found_is}
use Rattle.rb_core.proofs.TypingAnswers.{ok-same, came, chosen, constructed, fits_found}
use Rattle.rb_core.proofs.TypedForms.{operands_int}
use Rattle.rb_core.proofs.CoverageForms.{part, branch, sites-Clause, sites-Call, sites-Build, sites-Binary, sites-To, sites-Let, sites-Match}
use Rattle.rb_core.proofs.MeaningForms.{clause_meaning-is, meaning-Num, meaning-Var, meaning-Call, meaning-Build, meaning-Binary, meaning-To, meaning-Let, meaning-Match}
use Rattle.rb_sound.specs.Soundness.{AreOfTypes, EndIsOfType, IsBuiltTyped, RunsAs}
use Rattle.rb_sound.proofs.Forms.{and_true, exhaustive-append}
use Rattle.rb_sound.proofs.Whole.{is_whole, clause_whole, clause_whole-is, whole-Num, whole-Call, whole-Build, whole-Binary, whole-To, whole-Let, whole-Match}
use Rattle.rb_sound.proofs.Scopes.{IsOf, Agree, agree-append, variable_is, bound_agrees}

-- Numbers

pow-pos : (k : ℕ) → 0 < 2 ^ k
pow-pos k = let two : 0 < 2 = omega arith in let none : 0 ≤ k = omega arith in let room = pow-le-pow_right two none in omega (arith, room)

below_power : (n k : ℕ) → nat_lt (n % 2 ^ k) (2 ^ k) ≡ true
below_power n k = let positive : 0 < 2 ^ k = pow-pos k in let below = mod-lt n positive in grind (arith, nat_tests, below)

below_width : (n k : ℕ) → nat_lt (n % 2 ^ min k 64) (2 ^ k) ≡ true
below_width n k =
    let two : 0 < 2 = omega arith in
    let positive : 0 < 2 ^ min k 64 = pow-pos (min k 64) in
    let below = mod-lt n positive in
    let most : min k 64 ≤ k = omega arith in
    let room = pow-le-pow_right two most in
    let less : n % 2 ^ min k 64 < 2 ^ k = omega (arith, below, room) in grind (arith, nat_tests, less)

bit_fits : (b : Bool) → nat_lt (if b then 1 else 0) (2 ^ 1) ≡ true
bit_fits true = refl
bit_fits false = refl

module _ (types : List DataDecl) where
  number_is : (n : ℕ) (t : Ty) → type_holds t n ≡ true → IsOf types (Num n) t
  number_is n (Int bits) h = is_of_type-Num types n (Int bits) ∙ h
  number_is n (Named t) h = cc

  op_is : (op : Op) (bits a b : ℕ) → IsOf types (Num (op_value op (width_of (Int bits)) a b)) (operator_type op (Int bits))
  op_is Op.Add bits a b = is_of_type-Num types _ (Int bits) ∙ below_width _ bits
  op_is Op.Sub bits a b = is_of_type-Num types _ (Int bits) ∙ below_width _ bits
  op_is Op.Mul bits a b = is_of_type-Num types _ (Int bits) ∙ below_width _ bits
  op_is Op.And bits a b = is_of_type-Num types _ (Int bits) ∙ below_width _ bits
  op_is Op.Or bits a b = is_of_type-Num types _ (Int bits) ∙ below_width _ bits
  op_is Op.Xor bits a b = is_of_type-Num types _ (Int bits) ∙ below_width _ bits
  op_is Op.Eq bits a b = is_of_type-Num types _ (Int 1) ∙ bit_fits (a == b)
  op_is Op.Lt bits a b = is_of_type-Num types _ (Int 1) ∙ bit_fits (nat_lt a b)

  -- the values of a construction's fields
  built_is : (c : ConRef) (o : Option (List Ty)) (vs : List Value) → fields_of types c ≡ o → is_some o ≡ true → AreOfTypes types vs (unwrap_or o []) → IsOf types (Con c.con vs) (Named c.ty)
  built_is c None vs e some h = cc
  built_is c (Some ts) vs e some h = is_of_type-Con types c.con vs (Named c.ty) ∙ ap (are_of (map (is_of_type types) vs)) e ∙ h

  -- Runs

  abbrev Events : List Event → Type 0
  Events = All (IsBuiltTyped types)

  no_events : Events []
  no_events = All-nil (IsBuiltTyped types)

  pub done_runs : (t : Ty) (v : Value) (left : ℕ) → IsOf types v t → RunsAs types t (value_outcome v left)
  done_runs t v left h = record { ends = h; builds = no_events }

  pub spent_runs : (t : Ty) → RunsAs types t spent_outcome
  spent_runs t = record { ends = tt; builds = no_events }

  -- one event before a run, and several
  event_runs : (t : Ty) (event : Event) (o : Outcome) → IsBuiltTyped types event → RunsAs types t o → RunsAs types t (after (event ∷ []) o)
  event_runs t event o h k = record { ends = k.ends; builds = All-cons (IsBuiltTyped types) event o.log h k.builds }

  -- a construction, whose value is of the construction's type
  built_runs : (c : ConRef) (vs : List Value) (left : ℕ) → IsOf types (Con c.con vs) (Named c.ty) → RunsAs types (Named c.ty) (construction_outcome c vs left)
  built_runs c vs left h = event_runs (Named c.ty) (Built c.ty (Con c.con vs)) (value_outcome (Con c.con vs) left) h (done_runs (Named c.ty) (Con c.con vs) left h)

  after_runs : (t : Ty) (log : List Event) (o : Outcome) → Events log → RunsAs types t o → RunsAs types t (after log o)
  after_runs t log o h k = record { ends = k.ends; builds = All-append (IsBuiltTyped types) log o.log h k.builds }

  end_from : (s t : Ty) (e : SourceEnd) (go : Value → ℕ → Outcome) → EndIsOfType types s e → ((v : Value) (rest : ℕ) → IsOf types v s → RunsAs types t (go v rest)) → RunsAs types t (at_end e go)
  end_from s t (Done v left) go h k = k v left h
  end_from s t Spent go h k = spent_runs t

  runs_do : (s t : Ty) (o : Outcome) (go : Value → ℕ → Outcome) → RunsAs types s o → ((v : Value) (rest : ℕ) → IsOf types v s → RunsAs types t (go v rest)) → RunsAs types t (then_do o go)
  unfolding then_do
  runs_do s t o go h k = after_runs t o.log (at_end o.end go) h.builds (end_from s t o.end go h.ends k)

  abbrev PartsEndAs : List Ty → PartsEnd → Type 0
  PartsEndAs ts (AllDone vs left) = AreOfTypes types vs ts
  PartsEndAs ts Cut = Unit {0}

  record PartsRunAs (ts : List Ty) (o : PartsOutcome) : Type 0 where
    pub ends : PartsEndAs ts o.end
    pub builds : Events o.log

  parts_done : (ts : List Ty) (vs : List Value) (left : ℕ) → AreOfTypes types vs ts → PartsRunAs ts (record { log = []; end = AllDone vs left })
  parts_done ts vs left h = record { ends = h; builds = no_events }

  parts_from : (ts : List Ty) (t : Ty) (e : PartsEnd) (go : List Value → ℕ → Outcome) → PartsEndAs ts e → ((vs : List Value) (rest : ℕ) → AreOfTypes types vs ts → RunsAs types t (go vs rest)) → RunsAs types t (at_parts_end e go)
  parts_from ts t (AllDone vs left) go h k = k vs left h
  parts_from ts t Cut go h k = spent_runs t

  runs_with : (ts : List Ty) (t : Ty) (o : PartsOutcome) (go : List Value → ℕ → Outcome) → PartsRunAs ts o → ((vs : List Value) (rest : ℕ) → AreOfTypes types vs ts → RunsAs types t (go vs rest)) → RunsAs types t (then_with o go)
  unfolding then_with
  runs_with ts t o go h k = after_runs t o.log (at_parts_end o.end go) h.builds (parts_from ts t o.end go h.ends k)

  part_end : (s : Ty) (ts : List Ty) (e : SourceEnd) (go : Value → ℕ → PartsOutcome) → EndIsOfType types s e → ((v : Value) (rest : ℕ) → IsOf types v s → PartsRunAs ts (go v rest)) → PartsRunAs ts (at_part e go)
  part_end s ts (Done v left) go h k = k v left h
  part_end s ts Spent go h k = record { ends = tt; builds = no_events }

  part_from : (s : Ty) (ts : List Ty) (o : Outcome) (go : Value → ℕ → PartsOutcome) → RunsAs types s o → ((v : Value) (rest : ℕ) → IsOf types v s → PartsRunAs ts (go v rest)) → PartsRunAs ts (parts_after o.log (at_part o.end go))
  part_from s ts o go h k =
      let rest = part_end s ts o.end go h.ends k in
      record { ends = rest.ends; builds = All-append (IsBuiltTyped types) o.log (at_part o.end go).log h.builds rest.builds }

  snoc_types : (vs : List Value) (ts : List Ty) (v : Value) (t : Ty) → AreOfTypes types vs ts → IsOf types v t → AreOfTypes types (vs ++ v ∷ []) (ts ++ t ∷ [])
  snoc_types [] [] v t h k = ap (λ b. b && true) k
  snoc_types [] (u ∷ ts) v t h k = cc
  snoc_types (w ∷ vs) [] v t h k = cc
  snoc_types (w ∷ vs) (u ∷ ts) v t h k = let hs = and_parts (is_of_type types w u) _ h in and_true _ _ hs.0 (snoc_types vs ts v t hs.1 k)

module _ (types : List DataDecl) (funs : List Fun) where
  -- a clause that is typed
  record TypedClause (c : Clause) (s : Ty) (wanted : Option Ty) (scope : List Binder) (t : Ty) : Type 0 where
    pub params : List Param
    pub pattern : pattern_params types c.pat s ≡ Ok params
    pub body : type_of types funs c.body wanted (scope ++ binders types c.pat s) ≡ Ok t

  typed_clause : (c : Clause) (s : Ty) (wanted : Option Ty) (scope : List Binder) (t : Ty) → clause_rule types funs c s wanted scope ≡ Ok t → TypedClause c s wanted scope t
  typed_clause c s wanted scope t e =
      let within = came (pattern_binders types c.pat s) (λ bs. type_of types funs c.body wanted (scope ++ bs)) t (sym (type-Clause types funs c.pat c.body s wanted scope) ∙ e) in
      let params = came (pattern_params types c.pat s) distinct_binders within.from within.first_is in
      record {
        params = params.from;
        pattern = params.first_is;
        body = clause_typed types funs c s wanted scope t e;
      }

some_behind : (o : Option ℕ) → IsSome (next_clause o) → IsSome o
some_behind None h = h
some_behind (Some i) h = refl

patterns_of : (types : List DataDecl) (funs : List Fun) (cs : List Clause) → map (λ (b : SitedBranch). b.0.pat) (map (branch types funs) cs) ≡ map (λ (c : Clause). c.pat) cs
patterns_of types funs [] = refl
patterns_of types funs (c ∷ cs) = ap (λ l. c.pat ∷ l) (patterns_of types funs cs)

module _ (p : Program) (calls : Calls) (sound : (g n : ℕ) (vs : List Value) → AreOfTypes p.types vs (param_types p.funs g) → RunsAs p.types (result_type p.funs g) (calls g n vs)) (f : ℕ) where
  abbrev ev : Expr → Meaning
  ev = meaning_of p calls f

  abbrev Sound : Expr → Type 0
  Sound e = (wanted : Option Ty) (scope : List Binder) (left : ℕ) (env : List Binding) (t : Ty) → type_of p.types p.funs e wanted scope ≡ Ok t → is_whole p.types e ≡ true
      → AreExhaustive p.types (sites p.types p.funs e scope) → Agree p.types scope env → RunsAs p.types t (ev e wanted scope left env)

  same : (t u : Ty) (o o' : Outcome) → o ≡ o' → u ≡ t → RunsAs p.types u o' → RunsAs p.types t o
  same t u o o' e e' h = subst (λ x. RunsAs p.types t x) (sym e) (subst (λ x. RunsAs p.types x o') e' h)

  -- one with a type wanted
  wanted_sound : (e : Expr) → Sound e → (w : Ty) (scope : List Binder) (left : ℕ) (env : List Binding) (t : Ty) → type_of p.types p.funs e (Some w) scope ≡ Ok t → is_whole p.types e ≡ true
      → AreExhaustive p.types (sites p.types p.funs e scope) → Agree p.types scope env → RunsAs p.types w (ev e (Some w) scope left env)
  wanted_sound e h w scope left env t typed whole covered agree =
      subst (λ u. RunsAs p.types u (ev e (Some w) scope left env)) (sym (wanted-is_found p.types p.funs e w scope t typed)) (h (Some w) scope left env t typed whole covered agree)

  parts_sound : (es : List Expr) → Each Sound es → (ts : List Ty) (scope : List Binder) (env : List Binding) (u : Unit {0}) → each_argument (map (rule_of p.types p.funs) es) ts scope ≡ Ok u → length (map (rule_of p.types p.funs) es) ≡ length ts
      → list_all (λ b. b) (map (is_whole p.types) es) ≡ true → AreExhaustive p.types (flat_map (part_sites scope) (map (part p.types p.funs) es)) → Agree p.types scope env
      → (us : List Ty) (vs : List Value) (left : ℕ) → AreOfTypes p.types vs us → PartsRunAs p.types (us ++ ts) (all_of (map ev es) ts scope vs left env)
  parts_sound [] each [] scope env u typed len whole covered agree us vs left h = parts_done p.types (us ++ []) vs left (subst (λ l. AreOfTypes p.types vs l) (sym (append-nil us)) h)
  parts_sound [] each (t ∷ ts) scope env u typed len whole covered agree us vs left h = absurd (omega arith)
  parts_sound (e ∷ es) each [] scope env u typed len whole covered agree us vs left h = absurd (omega arith)
  parts_sound (e ∷ es) each (t ∷ ts) scope env u typed len whole covered agree us vs left h =
      let first = came (type_of p.types p.funs e (Some t) scope) (λ found. each_argument (map (rule_of p.types p.funs) es) ts scope) u typed in
      let ws = and_parts (is_whole p.types e) _ whole in
      let cs = exhaustive-append p.types (sites p.types p.funs e scope) _ covered in
      part_from p.types t (us ++ t ∷ ts) (ev e (Some t) scope left env) _ (wanted_sound e each.0 t scope left env first.from first.first_is ws.0 cs.0 agree)
      (λ v rest k. subst (λ l. PartsRunAs p.types l (all_of (map ev es) ts scope (vs ++ v ∷ []) rest env)) (append_assoc us (t ∷ []) ts)
      (parts_sound es each.1 ts scope env u first.then_is (omega arith) ws.1 cs.1 agree (us ++ t ∷ []) (vs ++ v ∷ []) rest (snoc_types p.types vs us v t h k)))

  opened : (s : Ty) (c : Clause) (cs : List Clause) (wanted others : Option Ty) (scope : List Binder) (v : Value) (left : ℕ) (env : List Binding)
      → first_of p.types s (clause_meaning p calls f c ∷ map (clause_meaning p calls f) cs) wanted others scope v left env
      ≡ (if matches_of c.pat v then ev c.body wanted (scope ++ binders p.types c.pat s) left (env ++ bindings c.pat v) else first_of p.types s (map (clause_meaning p calls f) cs) others others scope v left env)
  opened s c cs wanted others scope v left env =
      ap (λ (b : Pat × Meaning). if matches_of b.0 v then b.1 wanted (scope ++ binders p.types b.0 s) left (env ++ bindings b.0 v) else first_of p.types s (map (clause_meaning p calls f) cs) others others scope v left env) (clause_meaning-is p calls f c)

  body_sound : (c : Clause) → Sound c.body → (s : Ty) (wanted : Option Ty) (scope : List Binder) (v : Value) (left : ℕ) (env : List Binding) (t : Ty) → TypedClause p.types p.funs c s wanted scope t
      → clause_whole p.types c ≡ true → AreExhaustive p.types (branch_sites p.types s scope (branch p.types p.funs c)) → Agree p.types scope env → IsOf p.types v s → matches_of c.pat v ≡ true
      → RunsAs p.types t (ev c.body wanted (scope ++ binders p.types c.pat s) left (env ++ bindings c.pat v))
  body_sound c h s wanted scope v left env t typed whole covered agree is hit =
      h wanted _ left _ t typed.body (sym (clause_whole-is p.types c) ∙ whole) (subst (AreExhaustive p.types) (sites-Clause p.types p.funs c (scope ++ binders p.types c.pat s)) covered)
      (agree-append p.types scope _ env _ agree (bound_agrees p.types c.pat s typed.params v typed.pattern hit is))

  rest_sound : (cs : List Clause) → EachBody Sound cs → (s : Ty) (scope : List Binder) (v : Value) (left : ℕ) (env : List Binding) (t : Ty) → clauses_typing (map (clause_rule p.types p.funs) cs) s (Some t) scope ≡ Ok t
      → list_all (λ b. b) (map (clause_whole p.types) cs) ≡ true → AreExhaustive p.types (flat_map (branch_sites p.types s scope) (map (branch p.types p.funs) cs)) → Agree p.types scope env → IsOf p.types v s
      → IsSome (chosen_clause (map (λ (c : Clause). c.pat) cs) v) → RunsAs p.types t (first_of p.types s (map (clause_meaning p calls f) cs) (Some t) (Some t) scope v left env)
  rest_sound [] each s scope v left env t typed whole covered agree is some = cc
  rest_sound (c ∷ cs) each s scope v left env t typed whole covered agree is some =
      let first = came (clause_rule p.types p.funs c s (Some t) scope) (λ found. clauses_typing (map (clause_rule p.types p.funs) cs) s (Some found) scope) t typed in
      let here = typed_clause p.types p.funs c s (Some t) scope first.from first.first_is in
      let is_t : t ≡ first.from = wanted-is_found p.types p.funs c.body t _ first.from here.body in
      let ws = and_parts (clause_whole p.types c) _ whole in
      let covers = exhaustive-append p.types (branch_sites p.types s scope (branch p.types p.funs c)) _ covered in
      subst (λ (o : Outcome). RunsAs p.types t o) (sym (opened s c cs (Some t) (Some t) scope v left env))
      (by_test (matches_of c.pat v) refl some
      (λ hit. subst (λ u. RunsAs p.types u (ev c.body (Some t) (scope ++ binders p.types c.pat s) left (env ++ bindings c.pat v))) (sym is_t)
      (body_sound c each.0 s (Some t) scope v left env first.from here ws.0 covers.0 agree is hit))
      (λ more. rest_sound cs each.1 s scope v left env t (subst (λ u. clauses_typing (map (clause_rule p.types p.funs) cs) s (Some u) scope ≡ Ok t) (sym is_t) first.then_is) ws.1 covers.1 agree is more))
    where
      by_test : (b : Bool) → matches_of c.pat v ≡ b → IsSome (if b then Some 0 else next_clause (chosen_clause (map (λ (d : Clause). d.pat) cs) v))
          → (matches_of c.pat v ≡ true → RunsAs p.types t (ev c.body (Some t) (scope ++ binders p.types c.pat s) left (env ++ bindings c.pat v)))
          → (IsSome (chosen_clause (map (λ (d : Clause). d.pat) cs) v) → RunsAs p.types t (first_of p.types s (map (clause_meaning p calls f) cs) (Some t) (Some t) scope v left env))
          → RunsAs p.types t (if b then ev c.body (Some t) (scope ++ binders p.types c.pat s) left (env ++ bindings c.pat v) else first_of p.types s (map (clause_meaning p calls f) cs) (Some t) (Some t) scope v left env)
      by_test true e h k l = k e
      by_test false e h k l = l (some_behind (chosen_clause (map (λ (d : Clause). d.pat) cs) v) h)

  clauses_sound : (cs : List Clause) → EachBody Sound cs → (s : Ty) (wanted : Option Ty) (scope : List Binder) (v : Value) (left : ℕ) (env : List Binding) (t : Ty) → clauses_typing (map (clause_rule p.types p.funs) cs) s wanted scope ≡ Ok t
      → list_all (λ b. b) (map (clause_whole p.types) cs) ≡ true → AreExhaustive p.types (flat_map (branch_sites p.types s scope) (map (branch p.types p.funs) cs)) → Agree p.types scope env → IsOf p.types v s
      → IsSome (chosen_clause (map (λ (c : Clause). c.pat) cs) v) → RunsAs p.types t (first_of p.types s (map (clause_meaning p calls f) cs) wanted (Some t) scope v left env)
  clauses_sound [] each s wanted scope v left env t typed whole covered agree is some = cc
  clauses_sound (c ∷ cs) each s wanted scope v left env t typed whole covered agree is some =
      let first = came (clause_rule p.types p.funs c s wanted scope) (λ found. clauses_typing (map (clause_rule p.types p.funs) cs) s (Some found) scope) t typed in
      let here = typed_clause p.types p.funs c s wanted scope first.from first.first_is in
      let is_t : first.from ≡ t = found_is p.types p.funs cs s first.from scope t first.then_is in
      let ws = and_parts (clause_whole p.types c) _ whole in
      let covers = exhaustive-append p.types (branch_sites p.types s scope (branch p.types p.funs c)) _ covered in
      subst (λ (o : Outcome). RunsAs p.types t o) (sym (opened s c cs wanted (Some t) scope v left env))
      (by_test (matches_of c.pat v) refl some
      (λ hit. subst (λ u. RunsAs p.types u (ev c.body wanted (scope ++ binders p.types c.pat s) left (env ++ bindings c.pat v))) is_t
      (body_sound c each.0 s wanted scope v left env first.from here ws.0 covers.0 agree is hit))
      (λ more. rest_sound cs each.1 s scope v left env t (subst (λ u. clauses_typing (map (clause_rule p.types p.funs) cs) s (Some u) scope ≡ Ok t) is_t first.then_is) ws.1 covers.1 agree is more))
    where
      by_test : (b : Bool) → matches_of c.pat v ≡ b → IsSome (if b then Some 0 else next_clause (chosen_clause (map (λ (d : Clause). d.pat) cs) v))
          → (matches_of c.pat v ≡ true → RunsAs p.types t (ev c.body wanted (scope ++ binders p.types c.pat s) left (env ++ bindings c.pat v)))
          → (IsSome (chosen_clause (map (λ (d : Clause). d.pat) cs) v) → RunsAs p.types t (first_of p.types s (map (clause_meaning p calls f) cs) (Some t) (Some t) scope v left env))
          → RunsAs p.types t (if b then ev c.body wanted (scope ++ binders p.types c.pat s) left (env ++ bindings c.pat v) else first_of p.types s (map (clause_meaning p calls f) cs) (Some t) (Some t) scope v left env)
      by_test true e h k l = k e
      by_test false e h k l = l (some_behind (chosen_clause (map (λ (d : Clause). d.pat) cs) v) h)

  num_sound : (at n : ℕ) → Sound (X.Num at n)
  num_sound at n wanted scope left env t typed whole covered agree =
      subst (λ (o : Outcome). RunsAs p.types t o) (sym (meaning-Num p calls f wanted scope left env at n)) (done_runs p.types t (Num n) left (of_wanted wanted (sym (type-Num p.types p.funs at n wanted scope) ∙ typed)))
    where
      of_wanted : (o : Option Ty) → number_typing at n o ≡ Ok t → IsOf p.types (Num n) t
      of_wanted None e = subst (λ u. IsOf p.types (Num n) u) (ok-same e) (is_of_type-Num p.types n (Int 64) ∙ sym (whole-Num p.types at n) ∙ whole)
      of_wanted (Some w) e = let h = chosen (type_holds w n) w t _ e in subst (λ u. IsOf p.types (Num n) u) h.1 (number_is p.types n w h.0)

  call_sound : (at g : ℕ) (es : List Expr) → Each Sound es → Sound (X.Call at g es)
  call_sound at g es each wanted scope left env t typed whole covered agree =
      let h = came {A = Unit {0}} (arguments at (map (rule_of p.types p.funs) es) (param_types p.funs g) scope) (λ _. as_wanted at wanted (result_type p.funs g)) t (sym (type-Call p.types p.funs at g es wanted scope) ∙ typed) in
      let args = constructed (length (map (rule_of p.types p.funs) es) == length (param_types p.funs g)) _ _ h.from h.first_is in
      same t (result_type p.funs g) _ _ (meaning-Call p calls f wanted scope left env at g es) (fits_found at wanted (result_type p.funs g) t h.then_is)
      (runs_with p.types (param_types p.funs g) (result_type p.funs g) _ _
      (parts_sound es each (param_types p.funs g) scope env h.from args.1 (eqb-true _ _ args.0) (sym (whole-Call p.types at g es) ∙ whole)
      (subst (AreExhaustive p.types) (sites-Call p.types p.funs at g es scope) covered) agree [] [] left refl)
      (λ vs rest k. sound g rest vs k))

  build_sound : (at : ℕ) (c : ConRef) (es : List Expr) → Each Sound es → Sound (X.Build at c es)
  build_sound at c es each wanted scope left env t typed whole covered agree =
      let h = came {A = Unit {0}} (arguments at (map (rule_of p.types p.funs) es) (field_types p.types c) scope) (λ _. as_wanted at wanted (Named c.ty)) t (sym (type-Build p.types p.funs at c es wanted scope) ∙ typed) in
      let args = constructed (length (map (rule_of p.types p.funs) es) == length (field_types p.types c)) _ _ h.from h.first_is in
      let ws = and_parts (is_some (fields_of p.types c)) _ (sym (whole-Build p.types at c es) ∙ whole) in
      same t (Named c.ty) _ _ (meaning-Build p calls f wanted scope left env at c es) (fits_found at wanted (Named c.ty) t h.then_is)
      (runs_with p.types (field_types p.types c) (Named c.ty) _ _
      (parts_sound es each (field_types p.types c) scope env h.from args.1 (eqb-true _ _ args.0) ws.1
      (subst (AreExhaustive p.types) (sites-Build p.types p.funs at c es scope) covered) agree [] [] left refl)
      (λ vs rest k. built_runs p.types c vs rest (built_is p.types c (fields_of p.types c) vs refl ws.0 k)))

  binary_sound : (at : ℕ) (op : Op) (a b : Expr) → Sound a → Sound b → Sound (X.Binary at op a b)
  binary_sound at op a b ha hb wanted scope left env t typed whole covered agree =
      let h = came (operands_typing op (rule_of p.types p.funs a) (rule_of p.types p.funs b) wanted scope) (λ u. as_wanted at wanted (operator_type op u)) t (sym (type-Binary p.types p.funs at op a b wanted scope) ∙ typed) in
      let parts = operands_int p.types p.funs op a b wanted scope h.from h.first_is in
      let ws = and_parts (is_whole p.types a) _ (sym (whole-Binary p.types at op a b) ∙ whole) in
      let cs = exhaustive-append p.types (sites p.types p.funs a scope) _ (subst (AreExhaustive p.types) (sites-Binary p.types p.funs at op a b scope) covered) in
      let int : operands_type op wanted (inferred_type p.types p.funs a None scope) ≡ Int parts.0 = parts.2 ∙ parts.1 in
      same t (operator_type op h.from) _ _ (meaning-Binary p calls f wanted scope left env at op a b) (fits_found at wanted (operator_type op h.from) t h.then_is)
      (subst (λ u. RunsAs p.types (operator_type op h.from) (then_do (ev a (operand_wanted op wanted) scope left env) (λ v rest. then_do (ev b (Some u) scope rest env) (Rattle.rb_core.specs.Meaning.operation_outcome op (width_of u) v)))) (sym parts.2)
      (subst (λ u. RunsAs p.types (operator_type op u) (then_do (ev a (operand_wanted op wanted) scope left env) (λ v rest. then_do (ev b (Some u) scope rest env) (Rattle.rb_core.specs.Meaning.operation_outcome op (width_of u) v)))) (sym parts.1)
      (runs_do p.types h.from (operator_type op (Int parts.0)) _ _ (ha _ scope left env h.from parts.3 ws.0 cs.0 agree)
      (λ v rest k. runs_do p.types (Int parts.0) (operator_type op (Int parts.0)) _ _
      (hb (Some (Int parts.0)) scope rest env (Int parts.0) (subst (λ u. type_of p.types p.funs b (Some u) scope ≡ Ok u) parts.1 parts.4) ws.1 cs.1 agree)
      (λ w last k'. done_runs p.types (operator_type op (Int parts.0)) _ last (op_is p.types op parts.0 _ _))))))

  to_sound : (at bits : ℕ) (a : Expr) → Sound a → Sound (X.To at bits a)
  to_sound at bits a ha wanted scope left env t typed whole covered agree =
      let h = came (integer_operand (rule_of p.types p.funs a) None scope) (λ _. as_wanted at wanted (Int bits)) t (sym (type-To p.types p.funs at bits a wanted scope) ∙ typed) in
      let found = came (type_of p.types p.funs a None scope) (integer (rule_of p.types p.funs a).at) h.from h.first_is in
      same t (Int bits) _ _ (meaning-To p calls f wanted scope left env at bits a) (fits_found at wanted (Int bits) t h.then_is)
      (runs_do p.types found.from (Int bits) _ _ (ha None scope left env found.from found.first_is (sym (whole-To p.types at bits a) ∙ whole) (subst (AreExhaustive p.types) (sites-To p.types p.funs at bits a scope) covered) agree)
      (λ v rest k. done_runs p.types (Int bits) _ rest (is_of_type-Num p.types _ (Int bits) ∙ below_power _ bits)))

  let_sound : (at x : ℕ) (u : Ty) (a b : Expr) → Sound a → Sound b → Sound (X.Let at x u a b)
  let_sound at x u a b ha hb wanted scope left env t typed whole covered agree =
      let h = came (type_of p.types p.funs a (Some u) scope) (λ _. type_of p.types p.funs b wanted (with_binder scope x u)) t (sym (type-Let p.types p.funs at x u a b wanted scope) ∙ typed) in
      let ws = and_parts (is_whole p.types a) _ (sym (whole-Let p.types at x u a b) ∙ whole) in
      let cs = exhaustive-append p.types (sites p.types p.funs a scope) _ (subst (AreExhaustive p.types) (sites-Let p.types p.funs at x u a b scope) covered) in
      same t t _ _ (meaning-Let p calls f wanted scope left env at x u a b) refl
      (runs_do p.types u t _ _ (wanted_sound a ha u scope left env h.from h.first_is ws.0 cs.0 agree)
      (λ v rest k. hb wanted (with_binder scope x u) rest (with_value env x v) t h.then_is ws.1 cs.1 (agree-append p.types scope _ env _ agree (refl, k, tt))))

  match_sound : (at : ℕ) (e : Expr) (cs : List Clause) → Sound e → EachBody Sound cs → Sound (X.Match at e cs)
  match_sound at e cs he hcs wanted scope left env t typed whole covered agree =
      let h = came (type_of p.types p.funs e None scope) (λ s. clauses_typing (map (clause_rule p.types p.funs) cs) s wanted scope) t (sym (type-Match p.types p.funs at e cs wanted scope) ∙ typed) in
      let is_s : inferred_type p.types p.funs e None scope ≡ h.from = inferred-is_found p.types p.funs e None scope h.from h.first_is in
      let is_t : match_type p.types wanted (map (clause_inferred p.types p.funs) cs) (inferred_type p.types p.funs e None scope) scope ≡ t
      = sym (inferred-Match p.types p.funs wanted scope at e cs) ∙ inferred-is_found p.types p.funs (X.Match at e cs) wanted scope t typed in
      let ws = and_parts (is_whole p.types e) _ (sym (whole-Match p.types at e cs) ∙ whole) in
      let all = subst (AreExhaustive p.types) (sites-Match p.types p.funs at e cs scope) covered in
      let covers = exhaustive-append p.types (sites p.types p.funs e scope) _ all.1 in
      same t t _ _ (meaning-Match p calls f wanted scope left env at e cs) refl
      (runs_do p.types h.from t _ _ (he None scope left env h.from h.first_is ws.0 covers.0 agree)
      (λ v rest k. event_runs p.types t (Matched f at) _ tt (subst (λ s. RunsAs p.types t (first_of p.types s (map (clause_meaning p calls f) cs) wanted (Some (match_type p.types wanted (map (clause_inferred p.types p.funs) cs) s scope)) scope v rest env)) (sym is_s)
      (subst (λ u. RunsAs p.types t (first_of p.types h.from (map (clause_meaning p calls f) cs) wanted (Some u) scope v rest env)) (sym (subst (λ s. match_type p.types wanted (map (clause_inferred p.types p.funs) cs) s scope ≡ t) is_s is_t))
      (clauses_sound cs hcs h.from wanted scope v rest env t h.then_is ws.1
      (subst (λ s. AreExhaustive p.types (flat_map (branch_sites p.types s scope) (map (branch p.types p.funs) cs))) is_s covers.1) agree k
      (subst (λ ps. IsSome (chosen_clause ps v)) (patterns_of p.types p.funs cs) (all.0 v (subst (λ s. IsOf p.types v s) (sym is_s) k))))))))

  pub typed_sound : (e : Expr) → Sound e
  typed_sound = induction Sound (record {
    num = num_sound;
    var = λ at x wanted scope left env t typed whole covered agree. same t (variable_type x scope) _ _ (meaning-Var p calls f wanted scope left env at x)
        (fits_found at wanted _ t (sym (type-Var p.types p.funs at x wanted scope) ∙ typed)) (done_runs p.types (variable_type x scope) _ left (variable_is p.types x scope env agree));
    call = call_sound;
    build = build_sound;
    binary = binary_sound;
    to = to_sound;
    bound = let_sound;
    choice = match_sound;
  })
