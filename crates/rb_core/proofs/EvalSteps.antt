-- One step of the loops over parts and over clauses.
use Rattle.std.proofs.Common.{◌≡◌, ℕ, zero, suc, ◌+◌, ◌<◌, List, [], ◌∷◌, ◌++◌, map, drop, length, get_or, Bool, true, false, Option, refl, sym, ap, ◌∙◌, arith, append_assoc, add-one}
use Rattle.std.specs.Prelude.{if◌then◌else◌, slice_get}
use Rattle.std.proofs.lemmas.List.{append-nil}
use Rattle.rb_core.specs.declared.value.Value.{Value}
use Rattle.rb_core.specs.declared.types.Ty.{Ty}
use Rattle.rb_core.specs.declared.types.DataDecl.{DataDecl}
use Rattle.rb_core.specs.declared.typing.Binder.{Binder}
use Rattle.rb_core.specs.declared.binding.Binding.{Binding}
use Rattle.rb_core.specs.declared.pattern.Pat.{Pat}
use Rattle.rb_core.specs.declared.outcome.Event.{Event}
use Rattle.rb_core.specs.declared.outcome.SourceEnd.TheVariants.{Done, Spent}
use Rattle.rb_core.specs.declared.outcome.PartsEnd.TheVariants.{AllDone, Cut}
use Rattle.rb_core.specs.declared.outcome.Outcome.{Outcome}
use Rattle.rb_core.specs.declared.program.Program.{Program}
use Rattle.rb_core.specs.declared.expression.Clause.{Clause}
use Rattle.rb_core.specs.declared.expression.Expr.{Expr}
use Rattle.rb_core.specs.Matching.{matches_of, bindings}
use Rattle.rb_core.specs.Inference.{binders}
use Rattle.rb_core.specs.Meaning.{Meaning, Calls, PartsOutcome, at_part, parts_after, first_wanted, later_wanted, all_of, first_of, meaning_of, clause_meaning}
use Rattle.rb_core.specs.inner.Evaluation.{GivesOutcome, GivesParts}
use Rattle.rb_core.proofs.MeaningForms.{clause_meaning-is}

from_here : {A : Type 0} (xs : List A) (i : ℕ) (x : A) → i < length xs → x ≡ get_or xs i x → drop i xs ≡ x ∷ drop (i + 1) xs
from_here [] i x lt e = absurd (omega arith)
from_here (y ∷ xs) zero x lt e = let here : x ≡ y = e in ap (λ z. z ∷ xs) (sym here)
from_here (y ∷ xs) (suc i) x lt e = let rest = from_here xs i x (omega arith) e in rw add-one (rw add-one at rest)

first_wanted-drop : (ts : List Ty) (i : ℕ) → first_wanted (drop i ts) ≡ slice_get ts i
first_wanted-drop [] zero = refl
first_wanted-drop [] (suc i) = refl
first_wanted-drop (t ∷ ts) zero = refl
first_wanted-drop (t ∷ ts) (suc i) = first_wanted-drop ts i

later_next : (ts : List Ty) (i : ℕ) → later_wanted (drop i ts) ≡ drop (suc i) ts
later_next [] zero = refl
later_next [] (suc i) = refl
later_next (t ∷ ts) zero = refl
later_next (t ∷ ts) (suc i) = later_next ts i

later_wanted-drop : (ts : List Ty) (i : ℕ) → later_wanted (drop i ts) ≡ drop (i + 1) ts
later_wanted-drop ts i = rw (add-one i) (later_next ts i)

module _ (p : Program) (calls : Calls) (f : ℕ) (scope : List Binder) (left : ℕ) (env : List Binding) where
  module _ (types : List DataDecl) (t : Ty) (wanted others : Option Ty) where
    abbrev opened : (cs : List Clause) (c : Clause) (v : Value) → first_of types t (clause_meaning p calls f c ∷ map (clause_meaning p calls f) cs) wanted others scope v left env
        ≡ (if matches_of c.pat v then meaning_of p calls f c.body wanted (scope ++ binders types c.pat t) left (env ++ bindings c.pat v) else first_of types t (map (clause_meaning p calls f) cs) others others scope v left env)
    opened cs c v = ap (λ (b : Pat × Meaning). if matches_of b.0 v then b.1 wanted (scope ++ binders types b.0 t) left (env ++ bindings b.0 v) else first_of types t (map (clause_meaning p calls f) cs) others others scope v left env) (clause_meaning-is p calls f c)

    pub first_of-hit : (cs : List Clause) (i : ℕ) (c : Clause) (v : Value) → i < length cs → c ≡ get_or cs i c → matches_of c.pat v ≡ true
        → first_of types t (map (clause_meaning p calls f) (drop i cs)) wanted others scope v left env ≡ meaning_of p calls f c.body wanted (scope ++ binders types c.pat t) left (env ++ bindings c.pat v)
    first_of-hit cs i c v lt e hit = ap (λ (l : List Clause). first_of types t (map (clause_meaning p calls f) l) wanted others scope v left env) (from_here cs i c lt e) ∙ opened (drop (i + 1) cs) c v
        ∙ ap (λ (b : Bool). if b then meaning_of p calls f c.body wanted (scope ++ binders types c.pat t) left (env ++ bindings c.pat v) else first_of types t (map (clause_meaning p calls f) (drop (i + 1) cs)) others others scope v left env) hit

    pub first_of-miss : (cs : List Clause) (i : ℕ) (c : Clause) (v : Value) → i < length cs → c ≡ get_or cs i c → matches_of c.pat v ≡ false
        → first_of types t (map (clause_meaning p calls f) (drop i cs)) wanted others scope v left env ≡ first_of types t (map (clause_meaning p calls f) (drop (i + 1) cs)) others others scope v left env
    first_of-miss cs i c v lt e miss = ap (λ (l : List Clause). first_of types t (map (clause_meaning p calls f) l) wanted others scope v left env) (from_here cs i c lt e) ∙ opened (drop (i + 1) cs) c v
        ∙ ap (λ (b : Bool). if b then meaning_of p calls f c.body wanted (scope ++ binders types c.pat t) left (env ++ bindings c.pat v) else first_of types t (map (clause_meaning p calls f) (drop (i + 1) cs)) others others scope v left env) miss

  pub all_of-next : (es : List Expr) (ts : List Ty) (i : ℕ) (e : Expr) (wanted : Option Ty) (vs : List Value) → i < length es → e ≡ get_or es i e → wanted ≡ slice_get ts i
      → all_of (map (meaning_of p calls f) (drop i es)) (drop i ts) scope vs left env
      ≡ parts_after (meaning_of p calls f e wanted scope left env).log (at_part (meaning_of p calls f e wanted scope left env).end
      (λ v rest. all_of (map (meaning_of p calls f) (drop (i + 1) es)) (drop (i + 1) ts) scope (vs ++ v ∷ []) rest env))
  all_of-next es ts i e wanted vs lt is at = rw (from_here es i e lt is, ← later_wanted-drop ts i, at, ← first_wanted-drop ts i) refl

after_both : (a b : List Event) (o : PartsOutcome) → parts_after a (parts_after b o) ≡ parts_after (a ++ b) o
after_both a b o = ap (λ l. record { log = l; end = o.end }) (sym (append_assoc a b o.log))

module _ (all rest : PartsOutcome) (o : Outcome) (go : Value → ℕ → PartsOutcome) (old mid new : List Event)
    (so_far : parts_after old all ≡ parts_after mid rest) (next : rest ≡ parts_after o.log (at_part o.end go)) where
  pub parts-next : (v : Value) (left : ℕ) → GivesOutcome o mid new (Done v left) → parts_after old all ≡ parts_after new (go v left)
  parts-next v left g = so_far ∙ ap (parts_after mid) next ∙ ap (λ e. parts_after mid (parts_after o.log (at_part e go))) (sym g.same_end)
      ∙ after_both mid o.log (go v left) ∙ ap (λ l. parts_after l (go v left)) (sym g.same_log)

  pub parts-cut : GivesOutcome o mid new Spent → GivesParts all old new Cut
  parts-cut g =
      let same : parts_after old all ≡ parts_after new (record { log = []; end = Cut })
      = so_far ∙ ap (parts_after mid) next ∙ ap (λ e. parts_after mid (parts_after o.log (at_part e go))) (sym g.same_end)
      ∙ after_both mid o.log (record { log = []; end = Cut }) ∙ ap (λ l. parts_after l (record { log = []; end = Cut })) (sym g.same_log) in
      record { same_end = sym (ap (λ p. p.end) same); same_log = sym (append-nil new) ∙ sym (ap (λ p. p.log) same) }

pub parts-done : (all : PartsOutcome) (old new : List Event) (vs : List Value) (left : ℕ)
    → parts_after old all ≡ parts_after new (record { log = []; end = AllDone vs left }) → GivesParts all old new (AllDone vs left)
parts-done all old new vs left same =
    record { same_end = sym (ap (λ p. p.end) same); same_log = sym (append-nil new) ∙ sym (ap (λ p. p.log) same) }
