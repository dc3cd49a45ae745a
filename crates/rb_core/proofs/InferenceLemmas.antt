-- One step of the loop over a pattern's subpatterns, which binds their types.
use Rattle.std.proofs.Common.{◌≡◌, ℕ, zero, suc, ◌+◌, ◌<◌, ◌≤◌, List, [], ◌∷◌, ◌++◌, drop, map, length, get_or, refl, arith, add-one}
use Rattle.std.proofs.lemmas.List.{append-nil}
use Rattle.rb_core.specs.declared.types.Ty.{Ty}
use Rattle.rb_core.specs.declared.typing.Binder.{Binder}
use Rattle.rb_core.specs.Inference.{all_binders}

module _ {A : Type 0} (b : A → Ty → List Binder) where
  next_binders : (ps : List A) (ts : List Ty) (i : ℕ) (p : A) (t : Ty) → i < length ps → i < length ts
      → all_binders (map b (drop i ps)) (drop i ts) ≡ b (get_or ps i p) (get_or ts i t) ++ all_binders (map b (drop (suc i) ps)) (drop (suc i) ts)
  next_binders [] ts i p t lt lt' = absurd (omega arith)
  next_binders (q ∷ ps) [] i p t lt lt' = absurd (omega arith)
  next_binders (q ∷ ps) (u ∷ ts) zero p t lt lt' = refl
  next_binders (q ∷ ps) (u ∷ ts) (suc i) p t lt lt' = next_binders ps ts i p t (omega arith) (omega arith)

  pub all_binders-drop : (ps : List A) (ts : List Ty) (i : ℕ) (p : A) (t : Ty) → i < length ps → i < length ts
      → all_binders (map b (drop i ps)) (drop i ts) ≡ b (get_or ps i p) (get_or ts i t) ++ all_binders (map b (drop (i + 1) ps)) (drop (i + 1) ts)
  all_binders-drop ps ts i p t lt lt' = rw (add-one i) (next_binders ps ts i p t lt lt')

  none_bound : (ps : List A) → all_binders (map b ps) [] ≡ []
  none_bound [] = refl
  none_bound (p ∷ ps) = refl

  pub all_binders-past : (ps : List A) (ts : List Ty) (i : ℕ) → length ts ≤ i → all_binders (map b (drop i ps)) (drop i ts) ≡ []
  all_binders-past ps [] zero le = none_bound ps
  all_binders-past ps [] (suc i) le = none_bound (drop (suc i) ps)
  all_binders-past ps (t ∷ ts) zero le = absurd (omega arith)
  all_binders-past [] (t ∷ ts) (suc i) le = refl
  all_binders-past (p ∷ ps) (t ∷ ts) (suc i) le = all_binders-past ps ts i (omega arith)

pub ruleset binder_steps = (all_binders-drop, all_binders-past, append-nil)
