-- Tests of a list's items, one after another.
use Rattle.std.proofs.Common.{◌≡◌, ℕ, zero, suc, ◌+◌, ◌<◌, List, [], ◌∷◌, map, drop, length, Bool, true, false, Option, Some, None, ◌&&◌, get_or, refl, sym, ap, ◌∙◌, arith, add-one}
use Rattle.std.proofs.Math.Bool.{and-false}
use Rattle.rb_core.specs.declared.value.Value.{Value}
use Rattle.std.specs.Prelude.{slice_get, if◌then◌else◌}
use Rattle.std.specs.List.{list_all}
use Rattle.std.proofs.lemmas.Bool.{and_parts}
use Rattle.std.proofs.lemmas.Option.{same_Some}
use Rattle.rb_core.specs.declared.pattern.Pat.{Pat}
use Rattle.rb_core.specs.Matching.{all_pass, matches_of, clause_matches, next_clause, chosen_clause, IsChosen}

-- what all items pass, each passes
pub all_at : {A : Type 0} (test : A → Bool) (xs : List A) (k : ℕ) (x : A) → list_all test xs ≡ true → slice_get xs k ≡ Some x → test x ≡ true
all_at test [] k x all at = absurd cc
all_at test (y ∷ xs) zero x all at = ap test (sym (same_Some y x at)) ∙ (and_parts (test y) (list_all test xs) all).0
all_at test (y ∷ xs) (suc k) x all at = all_at test xs k x (and_parts (test y) (list_all test xs) all).1 at

module _ {A : Type 0} (m : A → Value → Bool) where
  from_next : (ps : List A) (vs : List Value) (i : ℕ) (p : A) (v : Value) → i < length ps → length ps ≡ length vs
      → all_pass (map m (drop i ps)) (drop i vs) ≡ (m (get_or ps i p) (get_or vs i v) && all_pass (map m (drop (suc i) ps)) (drop (suc i) vs))
  from_next [] vs i p v lt e = absurd (omega arith)
  from_next (q ∷ ps) [] i p v lt e = absurd (omega arith)
  from_next (q ∷ ps) (w ∷ vs) zero p v lt e = refl
  from_next (q ∷ ps) (w ∷ vs) (suc i) p v lt e = from_next ps vs i p v (omega arith) (omega arith)

  pub all_pass-drop : (ps : List A) (vs : List Value) (i : ℕ) (p : A) (v : Value) → i < length ps → length ps ≡ length vs
      → all_pass (map m (drop i ps)) (drop i vs) ≡ (m (get_or ps i p) (get_or vs i v) && all_pass (map m (drop (i + 1) ps)) (drop (i + 1) vs))
  all_pass-drop ps vs i p v lt e = rw (add-one i) (from_next ps vs i p v lt e)

  pub all_pass-lengths : (ps : List A) (vs : List Value) → (length ps ≡ length vs → ⊥) → all_pass (map m ps) vs ≡ false
  all_pass-lengths [] [] ne = absurd (ne refl)
  all_pass-lengths [] (v ∷ vs) ne = refl
  all_pass-lengths (p ∷ ps) [] ne = refl
  all_pass-lengths (p ∷ ps) (v ∷ vs) ne = ap (λ b. m p v && b) (all_pass-lengths ps vs (λ e. ne (ap suc e))) ∙ and-false (m p v)

pub ruleset loop_lemmas = (all_pass-drop, all_pass-lengths)

-- The chosen clause is the least that matches, and there is none where none matches

least_below : (p : Pat) (ps : List Pat) (v : Value) (i : ℕ) → matches_of p v ≡ false → ((j : ℕ) → j < i → clause_matches ps j v ≡ false) → (j : ℕ) → j < suc i → clause_matches (p ∷ ps) j v ≡ false
least_below p ps v i miss below zero lt = miss
least_below p ps v i miss below (suc j) lt = below j (omega arith)

none_behind : (p : Pat) (ps : List Pat) (v : Value) → matches_of p v ≡ false → ((j : ℕ) → clause_matches ps j v ≡ false) → (j : ℕ) → clause_matches (p ∷ ps) j v ≡ false
none_behind p ps v miss none zero = miss
none_behind p ps v miss none (suc j) = none j

chosen_behind : (p : Pat) (ps : List Pat) (v : Value) (c : Option ℕ) → matches_of p v ≡ false → IsChosen ps v c → IsChosen (p ∷ ps) v (next_clause c)
chosen_behind p ps v None miss is = none_behind p ps v miss is
chosen_behind p ps v (Some i) miss is = record { matches = is.matches; least = least_below p ps v i miss is.least }

chosen_by : (b : Bool) (p : Pat) (ps : List Pat) (v : Value) → matches_of p v ≡ b → IsChosen ps v (chosen_clause ps v) → IsChosen (p ∷ ps) v (if b then Some 0 else next_clause (chosen_clause ps v))
chosen_by true p ps v hit is = record { matches = hit; least = λ j lt. absurd (omega arith) }
chosen_by false p ps v miss is = chosen_behind p ps v (chosen_clause ps v) miss is

pub chosen-is : (ps : List Pat) (v : Value) → IsChosen ps v (chosen_clause ps v)
chosen-is [] v = λ j. refl
chosen-is (p ∷ ps) v = chosen_by (matches_of p v) p ps v refl (chosen-is ps v)
