-- What holds of each part holds of those that are left when the first constants are skipped.
use Rattle.std.proofs.Common.{◌≡◌, ℕ, suc, List, [], ◌∷◌, true, false, Some}
use Rattle.std.specs.Prelude.{slice_get, if◌then◌else◌}
use Rattle.rb_layout.specs.declared.layout.Part.{Part}
use Rattle.rb_compose.specs.inner.Code.{after_constants, is_constant}

module _ (P : Part → Type 0) where
  abbrev pub Each : List Part → Type 0
  Each ps = (k : ℕ) (p : Part) → slice_get ps k ≡ Some p → P p

  pub each_after : (ps : List Part) → Each ps → Each (after_constants ps)
  each_after [] h = h
  each_after (p ∷ ps) h = elim (is_constant p.kind) as (λ t. Each (if t then after_constants ps else p ∷ ps)) [
    | true ↦ each_after ps (λ k q e. h (suc k) q e)
    | false ↦ h
  ]
