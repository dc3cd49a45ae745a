-- Slots that are all written are no more than the slots named as written.
use Rattle.std.proofs.Common.{◌≡◌, ℕ, zero, suc, ◌+◌, ◌-◌, ◌<◌, ◌≤◌, ◌≢◌, ◌⊎◌, inl, inr, nat_eq, cond, List, [], ◌∷◌, ◌++◌, length, get_or, Some, refl, sym, ap, subst, ◌∙◌, arith, length-append}
use Rattle.std.specs.Prelude.{slice_get}
use Rattle.std.proofs.lemmas.List.Sums.{sum_by-cons}
use Rattle.std.proofs.lemmas.Bool.Decides.{eqb_tells}
use Rattle.std.proofs.lemmas.Option.{same_Some}
use Rattle.rb_target.specs.Sheet.{Sheet, AreWritten}
use Rattle.rb_target.specs.Validity.{dests, dest_count}
use Rattle.rb_target.specs.declared.instr.Instr.{Instr}

Has : List ℕ → ℕ → Type 0
Has [] s = ⊥
Has (x ∷ xs) s = (x ≡ s) ⊎ Has xs s

without : ℕ → List ℕ → List ℕ
without s [] = []
without s (x ∷ xs) = cond (nat_eq x s) xs (x ∷ without s xs)

length-without : (s : ℕ) (xs : List ℕ) → Has xs s → suc (length (without s xs)) ≡ length xs
unfolding Has without
length-without s [] h = absurd h
length-without s (x ∷ xs) h =
    elim (eqb_tells x s) [
      | inl e ↦ rw e.0 refl
      | inr e ↦ rw e.0 (elim h [ inl is ↦ absurd (e.1 is) | inr rest ↦ ap suc (length-without s xs rest) ])
    ]

Has-without : (s u : ℕ) (xs : List ℕ) → u ≢ s → Has xs u → Has (without s xs) u
unfolding Has without
Has-without s u [] ne h = h
Has-without s u (x ∷ xs) ne h =
    elim (eqb_tells x s) [
      | inl e ↦ rw e.0 (elim h [ inl is ↦ absurd (ne (sym is ∙ e.1)) | inr rest ↦ rest ])
      | inr e ↦ rw e.0 (elim h [ inl is ↦ inl is | inr rest ↦ inr (Has-without s u xs ne rest) ])
    ]

-- a list that has k numbers in a row has at least k items
covers : (k p : ℕ) (xs : List ℕ) → ((s : ℕ) → p ≤ s → s < p + k → Has xs s) → k ≤ length xs
covers zero p xs h = omega arith
covers (suc k) p xs h =
    let last = p + k in
    let has : Has xs last = h last (omega arith) (omega arith) in
    let rest = covers k p (without last xs) (λ s low high. let ne : s ≢ last = omega arith in Has-without last s xs ne (h s low (omega arith))) in
    omega (arith, rest, length-without last xs has)

Has-from : (xs : List ℕ) (s k : ℕ) → k < length xs → get_or xs k s ≡ s → Has xs s
unfolding Has
Has-from [] s k lt e = absurd (omega arith)
Has-from (x ∷ xs) s zero lt e = inl e
Has-from (x ∷ xs) s (suc k) lt e = inr (Has-from xs s k (omega arith) e)

Has-left : (xs ys : List ℕ) (s : ℕ) → Has xs s → Has (xs ++ ys) s
unfolding Has
Has-left [] ys s h = absurd h
Has-left (x ∷ xs) ys s h = elim h [ inl is ↦ inl is | inr rest ↦ inr (Has-left xs ys s rest) ]

Has-right : (xs ys : List ℕ) (s : ℕ) → Has ys s → Has (xs ++ ys) s
unfolding Has
Has-right [] ys s h = h
Has-right (x ∷ xs) ys s h = inr (Has-right xs ys s h)

all_dests : List Instr → List ℕ
all_dests [] = []
all_dests (i ∷ is) = dests i ++ all_dests is

length-all_dests : (body : List Instr) → length (all_dests body) ≡ dest_count body
unfolding all_dests
length-all_dests [] = refl
length-all_dests (i ∷ is) =
    length-append (dests i) (all_dests is) ∙ ap (λ n. length (dests i) + n) (length-all_dests is)
    ∙ sym (sum_by-cons (λ (j : Instr). length (dests j)) i is)

Has-all_dests : (body : List Instr) (pc : ℕ) (i : Instr) (s : ℕ) → slice_get body pc ≡ Some i → Has (dests i) s → Has (all_dests body) s
unfolding all_dests
Has-all_dests [] pc i s is h = cc
Has-all_dests (j ∷ body) zero i s is h = Has-left (dests j) (all_dests body) s (subst (λ x. Has (dests x) s) (sym (same_Some j i is)) h)
Has-all_dests (j ∷ body) (suc pc) i s is h = Has-right (dests j) (all_dests body) s (Has-all_dests body pc i s is h)

pub written_slots : (b : Sheet) → b.params ≤ b.slots → AreWritten b → b.slots ≤ b.params + dest_count b.code
written_slots b le written =
    let most = covers (b.slots - b.params) b.params (all_dests b.code) (λ s low high.
    let w = written s low (omega arith) in
    Has-all_dests b.code w.0 w.1 s w.2 (Has-from (dests w.1) s w.3.0 w.3.1 w.3.2)) in
    omega (arith, most, length-all_dests b.code)
