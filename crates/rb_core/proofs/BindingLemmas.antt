-- Steps of the loops that bind arguments and the variables of patterns.
use Rattle.std.proofs.Common.{◌≡◌, ℕ, zero, suc, ◌+◌, ◌<◌, ◌≤◌, List, [], ◌∷◌, ◌++◌, drop, map, length, get_or, refl, arith, add-one}
use Rattle.rb_core.specs.declared.value.Value.{Value}
use Rattle.rb_core.specs.declared.binding.Binding.{Binding}
use Rattle.rb_core.specs.declared.program.Param.{Param}
use Rattle.std.proofs.lemmas.List.{append-nil}
use Rattle.rb_core.specs.Matching.{all_bindings}
use Rattle.rb_core.specs.Meaning.{argument_bindings}

next_argument : (ps : List Param) (vs : List Value) (i : ℕ) (p : Param) (v : Value) → i < length ps → i < length vs
    → argument_bindings (drop i ps) (drop i vs) ≡ record { var = (get_or ps i p).var; value = get_or vs i v } ∷ argument_bindings (drop (suc i) ps) (drop (suc i) vs)
next_argument [] vs i p v lt lt' = absurd (omega arith)
next_argument (q ∷ ps) [] i p v lt lt' = absurd (omega arith)
next_argument (q ∷ ps) (w ∷ vs) zero p v lt lt' = refl
next_argument (q ∷ ps) (w ∷ vs) (suc i) p v lt lt' = next_argument ps vs i p v (omega arith) (omega arith)

pub arguments-drop : (ps : List Param) (vs : List Value) (i : ℕ) (p : Param) (v : Value) → i < length ps → i < length vs
    → argument_bindings (drop i ps) (drop i vs) ≡ record { var = (get_or ps i p).var; value = get_or vs i v } ∷ argument_bindings (drop (i + 1) ps) (drop (i + 1) vs)
arguments-drop ps vs i p v lt lt' = rw (add-one i) (next_argument ps vs i p v lt lt')

none_left : (ps : List Param) → argument_bindings ps [] ≡ []
none_left [] = refl
none_left (p ∷ ps) = refl

pub arguments-past : (ps : List Param) (vs : List Value) (i : ℕ) → length vs ≤ i → argument_bindings (drop i ps) (drop i vs) ≡ []
arguments-past ps [] zero le = none_left ps
arguments-past ps [] (suc i) le = none_left (drop (suc i) ps)
arguments-past ps (v ∷ vs) zero le = absurd (omega arith)
arguments-past [] (v ∷ vs) (suc i) le = refl
arguments-past (p ∷ ps) (v ∷ vs) (suc i) le = arguments-past ps vs i (omega arith)

pub ruleset argument_steps = (arguments-drop, arguments-past)

module _ {A : Type 0} (b : A → Value → List Binding) where
  next_bound : (ps : List A) (vs : List Value) (i : ℕ) (p : A) (v : Value) → i < length ps → i < length vs
      → all_bindings (map b (drop i ps)) (drop i vs) ≡ b (get_or ps i p) (get_or vs i v) ++ all_bindings (map b (drop (suc i) ps)) (drop (suc i) vs)
  next_bound [] vs i p v lt lt' = absurd (omega arith)
  next_bound (q ∷ ps) [] i p v lt lt' = absurd (omega arith)
  next_bound (q ∷ ps) (w ∷ vs) zero p v lt lt' = refl
  next_bound (q ∷ ps) (w ∷ vs) (suc i) p v lt lt' = next_bound ps vs i p v (omega arith) (omega arith)

  pub all_bound-drop : (ps : List A) (vs : List Value) (i : ℕ) (p : A) (v : Value) → i < length ps → i < length vs
      → all_bindings (map b (drop i ps)) (drop i vs) ≡ b (get_or ps i p) (get_or vs i v) ++ all_bindings (map b (drop (i + 1) ps)) (drop (i + 1) vs)
  all_bound-drop ps vs i p v lt lt' = rw (add-one i) (next_bound ps vs i p v lt lt')

  none_bound : (ps : List A) → all_bindings (map b ps) [] ≡ []
  none_bound [] = refl
  none_bound (p ∷ ps) = refl

  pub all_bound-past : (ps : List A) (vs : List Value) (i : ℕ) → length vs ≤ i → all_bindings (map b (drop i ps)) (drop i vs) ≡ []
  all_bound-past ps [] zero le = none_bound ps
  all_bound-past ps [] (suc i) le = none_bound (drop (suc i) ps)
  all_bound-past ps (v ∷ vs) zero le = absurd (omega arith)
  all_bound-past [] (v ∷ vs) (suc i) le = refl
  all_bound-past (p ∷ ps) (v ∷ vs) (suc i) le = all_bound-past ps vs i (omega arith)

pub ruleset bound_steps = (all_bound-drop, all_bound-past, append-nil)
