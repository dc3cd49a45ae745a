-- Values that are rebuilt, field by field.
use Rattle.std.proofs.Common.{◌≡◌, ℕ, zero, suc, ◌+◌, ◌-◌, ◌<◌, ◌≤◌, ◌++◌, length, drop, List, [], ◌∷◌, Some, Result, Ok, Err, refl, sym, subst, ap, ◌∙◌, arith, append_assoc, append-nil}
use Rattle.std.specs.Prelude.{slice_get}
use Rattle.std.specs.Borrow.{Bor}
use Rattle.rb_core.specs.declared.types.DataDecl.{DataDecl}
use Rattle.rb_layout.specs.declared.layout.Layout.{Layout}
use Rattle.rb_layout.specs.declared.layout.Leaf.{Leaf}
use Rattle.rb_layout.specs.declared.opens.OpenPosition.{OpenPosition}
use Rattle.rb_layout.specs.Opens.{opens_at}
use Rattle.rb_layout.specs.Positions.{Open, open_positions}
use Rattle.rb_image_text.specs.declared.fault.ImageFault.{ImageFault}
use Rattle.rb_image_text.specs.declared.image.ImageBlock.{ImageBlock}
use Rattle.rb_image.specs.Given.{IsGiven}
use Rattle.rb_image.specs.Splits.{and_then}
use Rattle.rb_image.proofs.DropLemmas.{drop_item, drop_past}
use Rattle.rb_image.proofs.LookLemmas.{given_ok}
use Rattle.rb_peek.specs.declared.arrival.Arrival.{Arrival}
use Rattle.rb_peek.specs.declared.pack.FieldWords.{FieldWords}
use Rattle.rb_peek.specs.Rebuilds.{Rebuilding, fields_at, leaf_chosen, rebuilding_within, words_along, words_at, words_of_leaf}
use Rattle.rb_peek.specs.Views.{LeafPosition, along}
use Rattle.rb_peek.specs.Walks.{layout_at}
use Rattle.rb_peek.specs.inner.Standing.{come_to, with_fields}
use Rattle.rb_peek.proofs.GivenLemmas.{first_err}
use Rattle.rb_peek.proofs.WayLemmas.{err_given, then_given}

abbrev pub Words : Type 0
Words = Result (List ℕ) ImageFault

abbrev pub Fields : Type 0
Fields = Result (List FieldWords) ImageFault

module _ (types : List DataDecl) (layouts : List Layout) (m : List ImageBlock) (x : LeafPosition) where
  -- One type more --------------------------------------------------------------------------
  module _ (t n : ℕ) (some : 0 < n) where
    abbrev chosen : Result Leaf ImageFault
    chosen = leaf_chosen types layouts m (layout_at layouts t).leaves x

    abbrev due : Words
    due = rebuilding_within types layouts m n t x

    abbrev fields_in : List Open → Fields
    fields_in = fields_at types layouts m (rebuilding_within types layouts m (n - 1)) x

    abbrev with_words : Leaf → List FieldWords → Words
    with_words leaf fields = Ok (words_of_leaf leaf fields)

    abbrev in_leaf : Leaf → Words
    in_leaf leaf = and_then (fields_in (open_positions types leaf.prov)) (with_words leaf)

    more : (k : ℕ) → 0 < k → rebuilding_within types layouts m k t x
        ≡ and_then chosen (λ leaf. and_then (fields_at types layouts m (rebuilding_within types layouts m (k - 1)) x (open_positions types leaf.prov)) (λ fields. Ok (words_of_leaf leaf fields)))
    more zero lt = absurd (omega (arith, lt))
    more (suc k) lt =
        let e : k ≡ suc k - 1 = omega arith in
        ap (λ j. and_then chosen (λ leaf. and_then (fields_at types layouts m (rebuilding_within types layouts m j) x (open_positions types leaf.prov)) (λ fields. Ok (words_of_leaf leaf fields)))) e

    -- no leaf was chosen
    pub leaf_err : (fault : ImageFault) → IsGiven (λ (b : Bor Leaf). b.now) chosen (Err fault) → IsGiven (λ (ws : List ℕ). ws) due (Err fault)
    leaf_err fault given = first_err (λ (b : Bor Leaf). b.now) (λ (ws : List ℕ). ws) due chosen in_leaf fault (more n some) given

    module _ (leaf : Bor Leaf) (given : IsGiven (λ (b : Bor Leaf). b.now) chosen (Ok leaf)) (opens : List Open) (same : opens ≡ open_positions types leaf.now.prov) where
      in_fields : due ≡ and_then (fields_in opens) (with_words leaf.now)
      in_fields =
          more n some ∙ then_given (λ (b : Bor Leaf). b.now) (λ (ws : List ℕ). ws) chosen in_leaf leaf given
          ∙ ap (λ os. and_then (fields_in os) (with_words leaf.now)) (sym same)

      -- there is a fault in a field
      pub fields_err : (fault : ImageFault) → IsGiven (λ (fs : List FieldWords). fs) (fields_in opens) (Err fault) → IsGiven (λ (ws : List ℕ). ws) due (Err fault)
      fields_err fault given = first_err (λ (fs : List FieldWords). fs) (λ (ws : List ℕ). ws) due (fields_in opens) (with_words leaf.now) fault in_fields given

      -- the fields were packed
      pub rebuilt : (fields : List FieldWords) (words : List ℕ) → IsGiven (λ (fs : List FieldWords). fs) (fields_in opens) (Ok fields) → words ≡ words_of_leaf leaf.now fields
          → IsGiven (λ (ws : List ℕ). ws) due (Ok words)
      rebuilt fields words found packed =
          given_ok (λ (ws : List ℕ). ws) due (words_of_leaf leaf.now fields) words
          (in_fields ∙ then_given (λ (fs : List FieldWords). fs) (λ (ws : List ℕ). ws) (fields_in opens) (with_words leaf.now) fields found) packed

  module _ (go : Rebuilding) where
    -- Fields -------------------------------------------------------------------------------
    abbrev words_of : List ℕ → Words
    words_of path = words_along types layouts m go x path

    abbrev all_of : List Open → Fields
    all_of = fields_at types layouts m go x

    abbrev left : List OpenPosition → ℕ → Fields
    left opens k = all_of (opens_at (drop k opens))

    module _ (all : Fields) (fields : List FieldWords) (opens : List OpenPosition) (k : ℕ) (so : ◌≡◌ {A = Fields} all (with_fields fields (left opens k))) where
      -- no field is left
      pub fields_done : length opens ≤ k → IsGiven (λ (fs : List FieldWords). fs) all (Ok fields)
      fields_done le =
          given_ok (λ (fs : List FieldWords). fs) all fields fields
          (so ∙ ap (λ os. with_fields fields (all_of (opens_at os))) (drop_past opens k le) ∙ ap (λ fs. Ok fs) (append-nil fields)) refl

      module _ (o : OpenPosition) (is : slice_get opens k ≡ Some o) where
        abbrev with_rest : List ℕ → Fields
        with_rest ws = and_then (left opens (k + 1)) (λ more. Ok (record { path = o.path; words = ws } ∷ more))

        split : ◌≡◌ {A = Fields} all (with_fields fields (and_then (words_of o.path) with_rest))
        split = so ∙ ap (λ os. with_fields fields (all_of (opens_at os))) (drop_item opens k o is)

        -- there is a fault in the next one
        pub field_err : (fault : ImageFault) → IsGiven (λ (ws : List ℕ). ws) (words_of o.path) (Err fault) → IsGiven (λ (fs : List FieldWords). fs) all (Err fault)
        field_err fault given =
            first_err (λ (fs : List FieldWords). fs) (λ (fs : List FieldWords). fs) all (and_then (words_of o.path) with_rest) (λ more. Ok (fields ++ more)) fault split
            (err_given (λ (ws : List ℕ). ws) (λ (fs : List FieldWords). fs) (words_of o.path) with_rest fault given)

        joined : (ws : List ℕ) (found : Fields) → with_fields fields (and_then found (λ more. Ok (record { path = o.path; words = ws } ∷ more)))
            ≡ with_fields (fields ++ record { path = o.path; words = ws } ∷ []) found
        joined ws (Ok more) = ap (λ fs. Ok fs) (sym (append_assoc fields (record { path = o.path; words = ws } ∷ []) more))
        joined ws (Err fault) = refl

        -- the next one was added
        pub field_added : (ws : List ℕ) (new : List FieldWords) → IsGiven (λ (ws : List ℕ). ws) (words_of o.path) (Ok ws) → new ≡ fields ++ record { path = o.path; words = ws } ∷ []
            → ◌≡◌ {A = Fields} all (with_fields new (left opens (k + 1)))
        field_added ws new given added =
            split ∙ ap (with_fields fields) (then_given (λ (ws : List ℕ). ws) (λ (fs : List FieldWords). fs) (words_of o.path) with_rest ws given)
            ∙ joined ws (left opens (k + 1)) ∙ ap (λ (fs : List FieldWords). with_fields fs (left opens (k + 1))) (sym added)

    -- The end of a path --------------------------------------------------------------------
    abbrev at_end : LeafPosition → Words
    at_end y = words_at types layouts m go y.here.ty y

    module _ (path : List ℕ) where
      pub along_err : (fault : ImageFault) → IsGiven come_to (along types layouts m x path) (Err fault) → IsGiven (λ (ws : List ℕ). ws) (words_of path) (Err fault)
      along_err fault given = err_given come_to (λ (ws : List ℕ). ws) (along types layouts m x path) at_end fault given

      pub along_given : (end : Arrival) (y : LeafPosition) (r : Words) → IsGiven come_to (along types layouts m x path) (Ok end) → y ≡ come_to end → IsGiven (λ (ws : List ℕ). ws) (at_end y) r
          → IsGiven (λ (ws : List ℕ). ws) (words_of path) r
      along_given end y r given same found =
          subst (λ (d : Words). IsGiven (λ (ws : List ℕ). ws) d r) (sym (then_given come_to (λ (ws : List ℕ). ws) (along types layouts m x path) at_end end given))
          (subst (λ (z : LeafPosition). IsGiven (λ (ws : List ℕ). ws) (at_end z) r) same found)
