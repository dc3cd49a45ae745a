-- How what a step gives goes on into what follows it.
use Rattle.std.proofs.Common.{◌≡◌, ℕ, List, ◌++◌, Some, None, Result, IfOk, refl, sym, ap, subst, ◌∙◌, append_assoc}
use Rattle.std.proofs.lemmas.List.{append-nil}
use Rattle.std.proofs.lemmas.Result.{IfOk-weaker}
use Rattle.rb_core.specs.declared.value.Value.{Value}
use Rattle.rb_core.specs.declared.outcome.Event.{Event}
use Rattle.rb_core.specs.declared.outcome.SourceEnd.{SourceEnd}
use Rattle.rb_core.specs.declared.outcome.SourceEnd.TheVariants.{Done, Spent}
use Rattle.rb_core.specs.declared.outcome.PartsEnd.TheVariants.{AllDone, Cut}
use Rattle.rb_core.specs.declared.outcome.Outcome.{Outcome}
use Rattle.rb_core.specs.Meaning.{number_of, value_outcome, after, at_end, then_do, PartsOutcome, at_parts_end, then_with}
use Rattle.rb_core.specs.inner.Evaluation.{GivesOutcome, GivesParts, done_number}

-- an outcome's end and log go on with what follows
pub Gives-spent : (o : Outcome) (go : Value → ℕ → Outcome) (old new : List Event) → GivesOutcome o old new Spent → GivesOutcome (then_do o go) old new Spent
unfolding then_do
Gives-spent o go old new g = record {
  same_end = ap (λ e. (at_end e go).end) g.same_end;
  same_log = g.same_log ∙ ap (λ l. old ++ l) (sym (append-nil o.log) ∙ ap (λ e. o.log ++ (at_end e go).log) g.same_end);
}

pub Gives-done : (o : Outcome) (go : Value → ℕ → Outcome) (old mid new : List Event) (v : Value) (left : ℕ) (end : SourceEnd)
    → GivesOutcome o old mid (Done v left) → GivesOutcome (go v left) mid new end → GivesOutcome (then_do o go) old new end
unfolding then_do
Gives-done o go old mid new v left end g h = record {
  same_end = h.same_end ∙ ap (λ e. (at_end e go).end) g.same_end;
  same_log = h.same_log ∙ ap (λ l. l ++ (go v left).log) g.same_log ∙ append_assoc old o.log (go v left).log
      ∙ ap (λ e. old ++ (o.log ++ (at_end e go).log)) g.same_end;
}

pub Gives-cut : (o : PartsOutcome) (go : List Value → ℕ → Outcome) (old new : List Event) → GivesParts o old new Cut → GivesOutcome (then_with o go) old new Spent
unfolding then_with
Gives-cut o go old new g = record {
  same_end = ap (λ e. (at_parts_end e go).end) g.same_end;
  same_log = g.same_log ∙ ap (λ l. old ++ l) (sym (append-nil o.log) ∙ ap (λ e. o.log ++ (at_parts_end e go).log) g.same_end);
}

pub Gives-all : (o : PartsOutcome) (go : List Value → ℕ → Outcome) (old mid new : List Event) (vs : List Value) (left : ℕ) (end : SourceEnd)
    → GivesParts o old mid (AllDone vs left) → GivesOutcome (go vs left) mid new end → GivesOutcome (then_with o go) old new end
unfolding then_with
Gives-all o go old mid new vs left end g h = record {
  same_end = h.same_end ∙ ap (λ e. (at_parts_end e go).end) g.same_end;
  same_log = h.same_log ∙ ap (λ l. l ++ (go vs left).log) g.same_log ∙ append_assoc old o.log (go vs left).log
      ∙ ap (λ e. old ++ (o.log ++ (at_parts_end e go).log)) g.same_end;
}

pub Gives-here : (v : Value) (left : ℕ) (old : List Event) → GivesOutcome (value_outcome v left) old old (Done v left)
Gives-here v left old = record { same_end = refl; same_log = sym (append-nil old) }

pub Gives-after : (o : Outcome) (events old mid new : List Event) (end : SourceEnd) → mid ≡ old ++ events → GivesOutcome o mid new end → GivesOutcome (after events o) old new end
Gives-after o events old mid new end e g = record {
  same_end = g.same_end;
  same_log = g.same_log ∙ ap (λ l. l ++ o.log) e ∙ append_assoc old events o.log;
}

-- the same, where what follows may be an error
pub Gives-done-if : {E : Type 0} (r : Result SourceEnd E) (o : Outcome) (go : Value → ℕ → Outcome) (old mid new : List Event) (v : Value) (left : ℕ)
    → GivesOutcome o old mid (Done v left) → IfOk r (GivesOutcome (go v left) mid new) → IfOk r (GivesOutcome (then_do o go) old new)
Gives-done-if r o go old mid new v left g h = IfOk-weaker r (GivesOutcome (go v left) mid new) (GivesOutcome (then_do o go) old new) (λ end. Gives-done o go old mid new v left end g) h

pub Gives-all-if : {E : Type 0} (r : Result SourceEnd E) (o : PartsOutcome) (go : List Value → ℕ → Outcome) (old mid new : List Event) (vs : List Value) (left : ℕ)
    → GivesParts o old mid (AllDone vs left) → IfOk r (GivesOutcome (go vs left) mid new) → IfOk r (GivesOutcome (then_with o go) old new)
Gives-all-if r o go old mid new vs left g h = IfOk-weaker r (GivesOutcome (go vs left) mid new) (GivesOutcome (then_with o go) old new) (λ end. Gives-all o go old mid new vs left end g) h

pub Gives-after-if : {E : Type 0} (r : Result SourceEnd E) (o : Outcome) (events old mid new : List Event)
    → mid ≡ old ++ events → IfOk r (GivesOutcome o mid new) → IfOk r (GivesOutcome (after events o) old new)
Gives-after-if r o events old mid new e h = IfOk-weaker r (GivesOutcome o mid new) (GivesOutcome (after events o) old new) (λ end. Gives-after o events old mid new end e) h

-- an operand goes on with its number
pub Gives-none : (o : Outcome) (go : Value → ℕ → Outcome) (old new : List Event) (end : SourceEnd)
    → None ≡ done_number end → GivesOutcome o old new end → GivesOutcome (then_do o go) old new Spent
Gives-none o go old new (Done v left) e g = absurd (cc e)
Gives-none o go old new Spent e g = Gives-spent o go old new g

pub Gives-number : (o : Outcome) (go : Value → ℕ → Outcome) (old mid new : List Event) (first end : SourceEnd) (n left : ℕ)
    → Some (n, left) ≡ done_number first → GivesOutcome o old mid first
    → ((v : Value) → n ≡ number_of v → GivesOutcome (go v left) mid new end) → GivesOutcome (then_do o go) old new end
Gives-number o go old mid new (Done v rest) end n left e g h =
    let pair : (n, left) ≡ (number_of v, rest) = cc in
    let same : left ≡ rest = ap (λ (q : ℕ × ℕ). q.1) pair in let number : n ≡ number_of v = ap (λ (q : ℕ × ℕ). q.0) pair in
    Gives-done o go old mid new v left end (subst (λ (l : ℕ). GivesOutcome o old mid (Done v l)) (sym same) g) (h v number)
Gives-number o go old mid new Spent end n left e g h = absurd (cc e)
