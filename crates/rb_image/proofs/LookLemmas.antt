-- One place, looked at by itself, once its layout, its leaf and the leaf's blocks are known.
use Rattle.std.proofs.Common.{◌≡◌, ℕ, ◌++◌, inl, inr, List, [], Some, None, Result, Ok, Err, refl, sym, subst, ap, ◌∙◌}
use Rattle.std.specs.Prelude.{slice_get, IsErr}
use Rattle.std.specs.List.{flat_map}
use Rattle.std.specs.Result.{IsErrAnd}
use Rattle.std.proofs.lemmas.Bool.{false≢true}
use Rattle.rb_core.specs.declared.types.DataDecl.{DataDecl}
use Rattle.rb_core.specs.declared.types.Ty.TheVariants.{Named}
use Rattle.rb_layout.specs.declared.layout.Layout.{Layout}
use Rattle.rb_layout.specs.declared.layout.Leaf.{Leaf}
use Rattle.rb_layout.specs.Positions.{Open, layout_of, open_positions, opens_of}
use Rattle.rb_image_text.specs.declared.fault.ImageFault.{ImageFault}
use Rattle.rb_image_text.specs.declared.fault.ImageFault.TheVariants.{Memory as NoMemory}
use Rattle.rb_image_text.specs.declared.image.ImageBlock.{ImageBlock}
use Rattle.rb_image.specs.declared.kept.Kept.{Kept}
use Rattle.rb_image.specs.Orders.{LocatedPart, order_of}
use Rattle.rb_image.specs.Parts.{At, addresses_of, field_word, look, look_layout, look_leaf, place_at, places_of_leaf}
use Rattle.rb_image.specs.Splits.{and_then, leaf_at}
use Rattle.rb_image.specs.Given.{IsGiven}

-- Results ------------------------------------------------------------------------------------

-- a fault that is handed on
pub given_on : {A B : Type 0} (f : B → A) (due : Result A ImageFault) (r : Result B ImageFault) (e : ImageFault) → IsErr r → IsErrAnd r (λ x. x ≡ e) → IsGiven f due (Err e) → IsGiven f due r
given_on f due (Ok b) e is same h = absurd (false≢true is)
given_on f due (Err x) e is same h = subst (λ y. IsGiven f due (Err y)) (sym same) h

pub given_memory : {A B : Type 0} (f : B → A) (due : Result A ImageFault) → IsGiven f due (Err NoMemory)
given_memory f (Ok a) = refl
given_memory f (Err e) = inr refl

pub given_err : {A B : Type 0} (f : B → A) (due : Result A ImageFault) (e : ImageFault) → due ≡ Err e → IsGiven f due (Err e)
given_err f due e is = subst (λ d. IsGiven f d (Err e)) (sym is) (inl refl)

pub given_ok : {A B : Type 0} (f : B → A) (due : Result A ImageFault) (a : A) (b : B) → due ≡ Ok a → f b ≡ a → IsGiven f due (Ok b)
given_ok f due a b is same = subst (λ d. IsGiven f d (Ok b)) (sym is) same

-- Places -------------------------------------------------------------------------------------

module _ (types : List DataDecl) (layouts : List Layout) (m : List ImageBlock) (t : ℕ) (ws : List Kept) where
  abbrev place : At
  place = record { ty = t; words = ws }

  pub no_layout : layout_of layouts t ≡ None → look types layouts m place ≡ Ok []
  no_layout none = ap (look_layout types layouts m ws) none

  module _ (layout : Layout) (is_layout : layout_of layouts t ≡ Some layout) where
    pub splits_err : (e : ImageFault) → leaf_at layout.tree m ws ≡ Err e → look types layouts m place ≡ Err e
    splits_err e is = ap (look_layout types layouts m ws) is_layout ∙ ap (λ r. and_then r (λ k. look_leaf types layouts m ws (slice_get layout.leaves k))) is

    module _ (n : ℕ) (leads : leaf_at layout.tree m ws ≡ Ok n) where
      at_number : look types layouts m place ≡ look_leaf types layouts m ws (slice_get layout.leaves n)
      at_number = ap (look_layout types layouts m ws) is_layout ∙ ap (λ r. and_then r (λ k. look_leaf types layouts m ws (slice_get layout.leaves k))) leads

      pub no_leaf : slice_get layout.leaves n ≡ None → look types layouts m place ≡ Ok []
      no_leaf none = at_number ∙ ap (look_leaf types layouts m ws) none

      module _ (leaf : Leaf) (is_leaf : slice_get layout.leaves n ≡ Some leaf) where
        look_is : look types layouts m place ≡ and_then (addresses_of m leaf ws) (λ ats. Ok (places_of_leaf types layouts m leaf ws ats))
        look_is = at_number ∙ ap (look_leaf types layouts m ws) is_leaf

        pub addresses_err : {B C : Type 0} (f : B → List ℕ) (g : C → List At) (fault : ImageFault) → IsGiven f (addresses_of m leaf ws) (Err fault) → IsGiven g (look types layouts m place) (Err fault)
        addresses_err {B} {C} f g fault h = subst (λ due. IsGiven g due (Err fault)) (sym look_is) (by (addresses_of m leaf ws) h)
          where
            by : (due : Result (List ℕ) ImageFault) → IsGiven f due (Err fault) → IsGiven g (and_then due (λ ats. Ok (places_of_leaf types layouts m leaf ws ats))) (Err fault)
            by (Ok ats) x = x
            by (Err e) x = x

        pub addresses_ok : {B : Type 0} (f : B → List ℕ) (b : B) → IsGiven f (addresses_of m leaf ws) (Ok b) → look types layouts m place ≡ Ok (places_of_leaf types layouts m leaf ws (f b))
        addresses_ok {B} f b h = look_is ∙ by (addresses_of m leaf ws) h
          where
            by : (due : Result (List ℕ) ImageFault) → IsGiven f due (Ok b) → and_then due (λ ats. Ok (places_of_leaf types layouts m leaf ws ats)) ≡ Ok (places_of_leaf types layouts m leaf ws (f b))
            by (Ok ats) x = ap (λ a. Ok (places_of_leaf types layouts m leaf ws a)) (sym x)
            by (Err e) x = absurd x

        -- the places that the open positions of its provenance give
        abbrev pub Below : List DataDecl → List Layout → List Kept → List LocatedPart → List ℕ → List At
        Below ts ls xs order ats = flat_map (λ (o : Open). place_at ls (field_word m xs ats order) ([] ++ o.path) o.ty) (opens_of ts leaf.prov (Named t))

        -- the places that were added are those of the leaf
        pub places_given : {C : Type 0} (g : C → List At) (c : C) (ts : List DataDecl) (ls : List Layout) (xs : List Kept) (order : List LocatedPart) (ats found : List ℕ) (before : List At)
            → look types layouts m place ≡ Ok (places_of_leaf types layouts m leaf ws ats) → ts ≡ types → ls ≡ layouts → xs ≡ ws → order ≡ order_of leaf → found ≡ ats → before ≡ []
            → open_positions types leaf.prov ≡ opens_of types leaf.prov (Named t) → g c ≡ before ++ Below ts ls xs order found → IsGiven g (look types layouts m place) (Ok c)
        places_given g c ts ls xs order ats found before is same_types same_layouts same_words same_order same_found none opens added =
            given_ok g (look types layouts m place) (places_of_leaf types layouts m leaf ws ats) c is
            (added ∙ ap (λ ps. ps ++ Below ts ls xs order found) none ∙ ap (λ ys. Below ys ls xs order found) same_types ∙ ap (λ ys. Below types ys xs order found) same_layouts
            ∙ ap (λ ys. Below types layouts ys order found) same_words ∙ ap (λ ys. Below types layouts ws ys found) same_order ∙ ap (λ ys. Below types layouts ws (order_of leaf) ys) same_found
            ∙ ap (λ os. flat_map (λ (o : Open). place_at layouts (field_word m ws ats (order_of leaf)) o.path o.ty) os) (sym opens))
