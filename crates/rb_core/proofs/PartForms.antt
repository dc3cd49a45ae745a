-- Lists of parts and clauses: the first part and then the others, one more part, and the clause that is chosen.
use Rattle.std.proofs.Common.{◌≡◌, ℕ, zero, suc, Bool, true, false, List, [], ◌∷◌, ◌++◌, map, length, Option, Some, None, refl, sym, ap, ◌∙◌, arith, append_assoc}
use Rattle.std.specs.Prelude.{slice_get, if◌then◌else◌}
use Rattle.rb_core.specs.declared.value.Value.{Value}
use Rattle.rb_core.specs.declared.types.Ty.{Ty}
use Rattle.rb_core.specs.declared.typing.Binder.{Binder}
use Rattle.rb_core.specs.declared.binding.Binding.{Binding}
use Rattle.rb_core.specs.declared.pattern.Pat.{Pat}
use Rattle.rb_core.specs.declared.program.Program.{Program}
use Rattle.rb_core.specs.declared.expression.Clause.{Clause}
use Rattle.rb_core.specs.declared.outcome.Event.{Event}
use Rattle.rb_core.specs.declared.outcome.SourceEnd.{SourceEnd}
use Rattle.rb_core.specs.declared.outcome.SourceEnd.TheVariants.{Done, Spent as Stopped}
use Rattle.rb_core.specs.declared.outcome.Outcome.{Outcome}
use Rattle.rb_core.specs.Matching.{matches_of, bindings, chosen_clause, next_clause}
use Rattle.rb_core.specs.Inference.{binders}
use Rattle.rb_core.specs.Meaning.{Calls, Meaning, PartsOutcome, after, at_end, at_part, at_parts_end, then_do, then_with, all_of, first_wanted, later_wanted, first_of, meaning_of, clause_meaning}
use Rattle.rb_core.specs.Clauses.{pat_of, wanted_of}
use Rattle.rb_core.proofs.MeaningForms.{clause_meaning-is}

head_case : (log : List Event) (e : SourceEnd) (k : Value → ℕ → PartsOutcome) (go : List Value → ℕ → Outcome)
    → after (log ++ (at_part e k).log) (at_parts_end (at_part e k).end go) ≡ after log (at_end e (λ v rest. then_with (k v rest) go))
unfolding then_with
head_case log (Done v left) k go =
    let x = k v left in
    ap (λ l. let o : Outcome = record { log = l; end = (at_parts_end x.end go).end } in o) (append_assoc log x.log (at_parts_end x.end go).log)
head_case log Stopped k go = ap (λ l. let o : Outcome = record { log = l; end = Stopped } in o) (append_assoc log [] [])

-- the first part, and then the others
pub all_of-head : (m : Meaning) (ms : List Meaning) (ts : List Ty) (scope : List Binder) (vs : List Value) (left : ℕ) (env : List Binding) (go : List Value → ℕ → Outcome)
    → then_with (all_of (m ∷ ms) ts scope vs left env) go ≡ then_do (m (first_wanted ts) scope left env) (λ v rest. then_with (all_of ms (later_wanted ts) scope (vs ++ v ∷ []) rest env) go)
unfolding then_do then_with
all_of-head m ms ts scope vs left env go =
    let o = m (first_wanted ts) scope left env in
    head_case o.log o.end (λ v rest. all_of ms (later_wanted ts) scope (vs ++ v ∷ []) rest env) go

pub all_of-none : (ts : List Ty) (scope : List Binder) (vs : List Value) (left : ℕ) (env : List Binding) (go : List Value → ℕ → Outcome) → then_with (all_of [] ts scope vs left env) go ≡ go vs left
unfolding then_with
all_of-none ts scope vs left env go = refl

end_same : (e : SourceEnd) (g h : Value → ℕ → Outcome) → ((v : Value) (l : ℕ) → g v l ≡ h v l) → at_end e g ≡ at_end e h
end_same (Done v l) g h e = e v l
end_same Stopped g h e = refl

pub then_do_same : (o : Outcome) (g h : Value → ℕ → Outcome) → ((v : Value) (l : ℕ) → g v l ≡ h v l) → then_do o g ≡ then_do o h
unfolding then_do
then_do_same o g h e = ap (λ k. after o.log k) (end_same o.end g h e)

pub first_is : (ts : List Ty) → first_wanted ts ≡ slice_get ts 0
first_is [] = refl
first_is (t ∷ ts) = refl

pub later_is : (ts : List Ty) (n : ℕ) → slice_get (later_wanted ts) n ≡ slice_get ts (suc n)
later_is [] n = refl
later_is (t ∷ ts) n = refl

-- one more part, behind the others
pub all_of-append : (ms : List Meaning) (m : Meaning) (ts : List Ty) (scope : List Binder) (vs : List Value) (left : ℕ) (env : List Binding) (go : List Value → ℕ → Outcome)
    → then_with (all_of (ms ++ m ∷ []) ts scope vs left env) go ≡ then_with (all_of ms ts scope vs left env) (λ us l. then_do (m (slice_get ts (length ms)) scope l env) (λ v k. go (us ++ v ∷ []) k))
all_of-append [] m ts scope vs left env go =
    all_of-head m [] ts scope vs left env go
    ∙ then_do_same (m (first_wanted ts) scope left env) _ _ (λ v l. all_of-none (later_wanted ts) scope (vs ++ v ∷ []) l env go)
    ∙ ap (λ w. then_do (m w scope left env) (λ v k. go (vs ++ v ∷ []) k)) (first_is ts)
    ∙ sym (all_of-none ts scope vs left env (λ us l. then_do (m (slice_get ts 0) scope l env) (λ v k. go (us ++ v ∷ []) k)))
all_of-append (x ∷ ms) m ts scope vs left env go =
    all_of-head x (ms ++ m ∷ []) ts scope vs left env go
    ∙ then_do_same (x (first_wanted ts) scope left env) _ _ (λ v l.
    all_of-append ms m (later_wanted ts) scope (vs ++ v ∷ []) l env go
    ∙ ap (λ w. then_with (all_of ms (later_wanted ts) scope (vs ++ v ∷ []) l env) (λ us k. then_do (m w scope k env) (λ u j. go (us ++ u ∷ []) j))) (later_is ts (length ms)))
    ∙ sym (all_of-head x ms ts scope vs left env (λ us l. then_do (m (slice_get ts (suc (length ms))) scope l env) (λ v k. go (us ++ v ∷ []) k)))

-- Clauses

next_none : (o : Option ℕ) → next_clause o ≡ Some 0 → ⊥
next_none None e = cc
next_none (Some k) e = let h : suc k ≡ 0 = cc e in absurd (omega (arith, h))

next_some : (o : Option ℕ) (k : ℕ) → next_clause o ≡ Some (suc k) → o ≡ Some k
next_some None k e = cc
next_some (Some j) k e = let h : suc j ≡ suc k = cc e in ap Some (let s : j ≡ k = omega (arith, h) in s)

module _ (p : Program) (calls : Calls) (f : ℕ) (s : Ty) (scope : List Binder) (v : Value) (left : ℕ) (env : List Binding) where
  abbrev does : Clause → Option Ty → Outcome
  does c wanted = meaning_of p calls f c.body wanted (scope ++ binders p.types c.pat s) left (env ++ bindings c.pat v)

  opened : (c : Clause) (cs : List Clause) (wanted others : Option Ty) → first_of p.types s (map (clause_meaning p calls f) (c ∷ cs)) wanted others scope v left env
      ≡ (if matches_of c.pat v then does c wanted else first_of p.types s (map (clause_meaning p calls f) cs) others others scope v left env)
  opened c cs wanted others =
      ap (λ (b : Pat × Meaning). if matches_of b.0 v then b.1 wanted (scope ++ binders p.types b.0 s) left (env ++ bindings b.0 v) else first_of p.types s (map (clause_meaning p calls f) cs) others others scope v left env) (clause_meaning-is p calls f c)

  -- the chosen clause is done, at its wanted type
  pub first_chosen : (cs : List Clause) (wanted others : Option Ty) (k : ℕ) (c : Clause) → chosen_clause (map pat_of cs) v ≡ Some k → slice_get cs k ≡ Some c
      → first_of p.types s (map (clause_meaning p calls f) cs) wanted others scope v left env ≡ does c (wanted_of k wanted others)
  first_chosen [] wanted others k c chosen at = cc
  first_chosen (d ∷ cs) wanted others k c chosen at =
      opened d cs wanted others ∙ by_test (matches_of d.pat v) k chosen at (λ j h there. first_chosen cs others others j c h there ∙ same j)
    where
      same : (j : ℕ) → does c (wanted_of j others others) ≡ does c others
      same zero = refl
      same (suc j) = refl

      by_test : (b : Bool) (i : ℕ) → (if b then Some 0 else next_clause (chosen_clause (map pat_of cs) v)) ≡ Some i → slice_get (d ∷ cs) i ≡ Some c
          → ((j : ℕ) → chosen_clause (map pat_of cs) v ≡ Some j → slice_get cs j ≡ Some c → first_of p.types s (map (clause_meaning p calls f) cs) others others scope v left env ≡ does c others)
          → (if b then does d wanted else first_of p.types s (map (clause_meaning p calls f) cs) others others scope v left env) ≡ does c (wanted_of i wanted others)
      by_test true zero e there rest = let is : d ≡ c = cc there in ap (λ (x : Clause). does x wanted) is
      by_test true (suc i) e there rest = cc
      by_test false zero e there rest = absurd (next_none _ e)
      by_test false (suc i) e there rest = rest i (next_some _ i e) there
