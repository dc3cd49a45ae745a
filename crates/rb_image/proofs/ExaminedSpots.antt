-- The parts of a leaf, examined one after the other, as the code has them.
use Rattle.std.proofs.Common.{◌≡◌, ℕ, ◌+◌, ◌≤◌, inl, length, List, drop, Some, Result, Ok, Err, refl, sym, subst, ap, ◌∙◌}
use Rattle.std.specs.Prelude.{slice_get, IsErr}
use Rattle.std.specs.Result.{IsErrAnd}
use Rattle.std.proofs.lemmas.Bool.{false≢true}
use Rattle.rb_layout.specs.declared.layout.Leaf.{Leaf}
use Rattle.rb_image_text.specs.declared.fault.ImageFault.{ImageFault}
use Rattle.rb_image_text.specs.declared.image.ImageBlock.{ImageBlock}
use Rattle.rb_image.specs.declared.kept.Kept.{Kept}
use Rattle.rb_image.specs.declared.order.Spot.{Spot}
use Rattle.rb_image.specs.Given.{IsGiven}
use Rattle.rb_image.specs.Parts.{examine, examine_part}
use Rattle.rb_image.specs.Splits.{and_then}
use Rattle.rb_image.specs.Orders.{spot_part, spots_of}
use Rattle.rb_image.specs.inner.Viewing.{EndsAsDue}
use Rattle.rb_image.proofs.DropLemmas.{drop_item, drop_past}

abbrev Examined : Type 0
Examined = Result (List ℕ) ImageFault

done_is : {B : Type 0} (due : Examined) (new : List ℕ) (b : B) → EndsAsDue due new (Ok b) → ◌≡◌ {A = Examined} due (Ok new)
done_is (Ok a) new b ends = ap (λ x. Ok x) (sym ends)
done_is (Err fault) new b ends = absurd ends

fault_is : (B : Type 0) (due : Examined) (new : List ℕ) (f : ImageFault) → EndsAsDue {B = B} due new (Err f) → ◌≡◌ {A = Examined} due (Err f)
fault_is B (Ok a) new f ends = absurd ends
fault_is B (Err due) new f ends = ap (λ x. Err x) (sym ends)

-- a fault that is handed on
handed_on : {B : Type 0} (view : B → List ℕ) (due : Examined) (r : Result B ImageFault) (e : ImageFault) → IsErr r → IsErrAnd r (λ x. x ≡ e) → IsGiven view due (Err e) → IsGiven view due r
handed_on view due (Ok b) e is same given = absurd (false≢true is)
handed_on view due (Err x) e is same given = subst (λ f. IsGiven view due (Err f)) (sym same) given

module _ (m : List ImageBlock) (leaf : Leaf) (ws : List Kept) (items : List Spot) where
  module _ (k : ℕ) (spot : Spot) (is : slice_get items k ≡ Some spot) (ats : List ℕ) (due : Examined) (before : due ≡ examine m leaf ws ats (spots_of (drop k items))) where
    -- one part more, as it ends
    examined_on : (r : Examined) → examine_part m leaf ws ats (spot_part spot) ≡ r → due ≡ and_then r (λ found. examine m leaf ws found (spots_of (drop (k + 1) items)))
    examined_on r ends =
        before ∙ ap (λ ss. examine m leaf ws ats (spots_of ss)) (drop_item items k spot is)
        ∙ ap (λ (x : Examined). and_then x (λ found. examine m leaf ws found (spots_of (drop (k + 1) items)))) ends

    pub examined_more : {B : Type 0} (new : List ℕ) (b : B) → EndsAsDue (examine_part m leaf ws ats (spot_part spot)) new (Ok b) → due ≡ examine m leaf ws new (spots_of (drop (k + 1) items))
    examined_more new b ends = examined_on (Ok new) (done_is (examine_part m leaf ws ats (spot_part spot)) new b ends)

    -- or its fault is the first
    pub examined_err : (C : Type 0) {B : Type 0} (view : B → List ℕ) (new : List ℕ) (f : ImageFault) → EndsAsDue {B = C} (examine_part m leaf ws ats (spot_part spot)) new (Err f) → (r : Result B ImageFault)
        → IsErr r → IsErrAnd r (λ x. x ≡ f) → IsGiven view due r
    examined_err C view new f ends r is same =
        handed_on view due r f is same
        (subst (λ (d : Examined). IsGiven view d (Err f)) (sym (examined_on (Err f) (fault_is C (examine_part m leaf ws ats (spot_part spot)) new f ends))) (inl refl))

  -- behind the last part
  pub examined_all : {B : Type 0} (view : B → List ℕ) (b : B) (k : ℕ) (ats : List ℕ) (due : Examined) → due ≡ examine m leaf ws ats (spots_of (drop k items)) → length items ≤ k → view b ≡ ats → IsGiven view due (Ok b)
  examined_all view b k ats due before le same =
      subst (λ (d : Examined). IsGiven view d (Ok b)) (sym (before ∙ ap (λ ss. examine m leaf ws ats (spots_of ss)) (drop_past items k le))) same
