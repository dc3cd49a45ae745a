-- The position at the end of a walk: its type is declared, and where any value of a data type may stand one has gone on.
use Rattle.std.proofs.Common.{◌≡◌, ℕ, ◌+◌, ◌<◌, ◌++◌, inl, inr, List, [], ◌∷◌, length, None, Result, Ok, sym, subst}
use Rattle.std.specs.Prelude.{◌⊎◌}
use Rattle.rb_core.specs.declared.pattern.Pat.{out-Pat}
use Rattle.rb_core.specs.declared.types.DataDecl.{DataDecl}
use Rattle.rb_layout.specs.declared.layout.Layout.{Layout}
use Rattle.rb_image_text.specs.declared.fault.ImageFault.{ImageFault}
use Rattle.rb_image_text.specs.declared.image.ImageBlock.{ImageBlock}
use Rattle.rb_image.specs.declared.kept.Kept.{Kept}
use Rattle.rb_image.specs.Values.{IsDeclared}
use Rattle.rb_image.proofs.ExaminedParts.{then_ok}
use Rattle.rb_image.proofs.FallLemmas.{same_Ok}
use Rattle.rb_peek.specs.Walks.{Waypoint, Where, where_at_root, where_after_step, open_data, see, step, steps, end_of_path}
use Rattle.rb_peek.specs.inner.Ordering.{AreOrderly}
use Rattle.rb_peek.proofs.PathWalks.{Walks, see_is, stepped}
use Rattle.rb_peek.proofs.WayLemmas.{field_small, field_typed}

module _ (types : List DataDecl) (layouts : List Layout) (m : List ImageBlock) where
  abbrev pub IsClosed : Where → Type 0
  IsClosed w = (w.last.at ≡ []) ⊎ (open_data w.here ≡ None)

  step_closed : (k : ℕ) (w : Where) (i : ℕ) (v : Where) → ◌≡◌ {A = Walks} (step types layouts m k w i) (Ok v) → IsClosed v
  step_closed k w i v e =
      let s = stepped types layouts m k w i v e in
      elim s.how [
        | inl h ↦ subst IsClosed (sym h.is) (inr h.closed)
        | inr h ↦ subst IsClosed (sym h.is) (inl (see_is layouts m h.ty h.words h.next h.is_next).at)
      ]

  steps_closed : (path : List ℕ) (k : ℕ) (w end : Where) → IsClosed w → ◌≡◌ {A = Walks} (steps types layouts m k w path) (Ok end) → IsClosed end
  steps_closed [] k w end closed e = subst IsClosed (same_Ok w end e) closed
  steps_closed (i ∷ path) k w end closed e =
      let r = then_ok (step types layouts m k w i) (λ v. steps types layouts m (k + 1) v path) end e in
      steps_closed path (k + 1) r.0 end (step_closed k w i r.0 r.1) r.2

  pub walk_closed : (t : ℕ) (ws : List Kept) (path : List ℕ) (end : Where) → ◌≡◌ {A = Walks} (end_of_path types layouts m t ws path) (Ok end) → IsClosed end
  walk_closed t ws path end e =
      let r = then_ok (see layouts m t ws) (λ s. steps types layouts m 0 (where_at_root [] s) path) end e in
      steps_closed path 0 (where_at_root [] r.0) end (inl (see_is layouts m t ws r.0 r.1).at) r.2

  module _ (orderly : AreOrderly types layouts) where
    arrived_typed : (before : List Waypoint) (t : ℕ) (ws : List Kept) (s : Waypoint) → t < length types → ◌≡◌ {A = Result Waypoint ImageFault} (see layouts m t ws) (Ok s) → IsDeclared types (where_at_root before s).here.ty
    arrived_typed before t ws s small e = subst (λ n. n < length types) (sym (see_is layouts m t ws s e).ty) small

    step_typed : (k : ℕ) (w : Where) (i : ℕ) (v : Where) → ◌≡◌ {A = Walks} (step types layouts m k w i) (Ok v) → IsDeclared types v.here.ty
    step_typed k w i v e =
        let s = stepped types layouts m k w i v e in
        elim s.how [
          | inl h ↦ subst (λ (x : Where). IsDeclared types x.here.ty) (sym h.is) (field_typed types layouts orderly (out-Pat w.here.pat) i s.here s.is_field)
          | inr h ↦ subst (λ (x : Where). IsDeclared types x.here.ty) (sym h.is)
              (arrived_typed (w.before ++ (where_after_step w i s.here).last ∷ []) h.ty h.words h.next (field_small types layouts orderly w.here.pat i s.here h.ty s.is_field h.is_data) h.is_next)
        ]

    steps_typed : (path : List ℕ) (k : ℕ) (w end : Where) → IsDeclared types w.here.ty → ◌≡◌ {A = Walks} (steps types layouts m k w path) (Ok end) → IsDeclared types end.here.ty
    steps_typed [] k w end typed e = subst (λ (x : Where). IsDeclared types x.here.ty) (same_Ok w end e) typed
    steps_typed (i ∷ path) k w end typed e =
        let r = then_ok (step types layouts m k w i) (λ v. steps types layouts m (k + 1) v path) end e in
        steps_typed path (k + 1) r.0 end (step_typed k w i r.0 r.1) r.2

    pub walk_typed : (t : ℕ) (ws : List Kept) (path : List ℕ) (end : Where) → t < length types → ◌≡◌ {A = Walks} (end_of_path types layouts m t ws path) (Ok end) → IsDeclared types end.here.ty
    walk_typed t ws path end small e =
        let r = then_ok (see layouts m t ws) (λ s. steps types layouts m 0 (where_at_root [] s) path) end e in
        steps_typed path 0 (where_at_root [] r.0) end (arrived_typed [] t ws r.0 small r.1) r.2
