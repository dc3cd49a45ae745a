-- A walk along a path as it is gone: what its beginning, each of its steps and its end come to, and how many words
-- these may read. A path is a list of field numbers; `due` is where the whole path leads, and k the number of the
-- step that comes next, to field i, with the steps `path` behind it.
use Rattle.std.proofs.Common.{◌≡◌, ℕ, ◌+◌, ◌≤◌, List, [], ◌∷◌, Some, Result, Ok, Err, refl, sym, subst, ap, ◌∙◌, arith}
use Rattle.std.specs.Prelude.{slice_get}
use Rattle.rb_core.specs.declared.types.DataDecl.{DataDecl}
use Rattle.rb_layout.specs.declared.layout.Layout.{Layout}
use Rattle.rb_image_text.specs.declared.fault.ImageFault.{ImageFault}
use Rattle.rb_image_text.specs.declared.image.ImageBlock.{ImageBlock}
use Rattle.rb_image.specs.declared.kept.Kept.{Kept}
use Rattle.rb_image.specs.Fields.{field_of}
use Rattle.rb_image.specs.Given.{IsGiven}
use Rattle.rb_image.specs.Splits.{and_then}
use Rattle.rb_peek.specs.declared.walk.Passed.{Passed}
use Rattle.rb_peek.specs.declared.walk.Walk.{Walk}
use Rattle.rb_peek.specs.Walks.{Waypoint, Where, count_found, end_of_path, open_span, see, seen_of, span_at, step, steps, steps_span, walk_span, where_at_root, where_of}
use Rattle.rb_peek.proofs.WayLemmas.{err_given, then_given}

-- what was found counts
counted : {A B : Type 0} (view : B → A) (due : Result A ImageFault) (go : A → ℕ) (b : B) → IsGiven view due (Ok b) → count_found due go ≡ go (view b)
counted view (Ok a) go b given = ap go (sym given)
counted view (Err fault) go b given = absurd given

-- where no item is, there is none
pub none_there : {A : Type 0} (xs : List A) (k : ℕ) (x : A) → xs ≡ [] → slice_get xs k ≡ Some x → ⊥
none_there [] k x none is = cc
none_there (y ∷ ys) k x none is = cc

more_fits : (n a s rest : ℕ) → n ≤ a + s → n ≤ a + (s + rest)
more_fits n a s rest le = omega arith

same_fits : (n a s rest found : ℕ) → rest ≡ found → n ≤ a + s → n + found ≤ a + (s + rest)
same_fits n a s rest found same le = omega arith

next_fits : (n new s rest all : ℕ) → n + (s + rest) ≤ all → new ≤ n + s → new ≤ all
next_fits n new s rest all fits le = omega arith

rest_fits : (n new s rest found all : ℕ) → rest ≡ found → n + (s + rest) ≤ all → new ≤ n + s → new + found ≤ all
rest_fits n new s rest found all same fits le = omega arith

ended_fits : (n all : ℕ) → n + 0 ≤ all → n ≤ all
ended_fits n all fits = omega arith

abbrev Walks : Type 0
Walks = Result Where ImageFault

module _ (types : List DataDecl) (layouts : List Layout) (m : List ImageBlock) where
  -- The beginning --------------------------------------------------------------------------
  module _ (t : ℕ) (ws : List Kept) (path : List ℕ) where
    abbrev on : Waypoint → Walks
    on s = steps types layouts m 0 (where_at_root [] s) path

    abbrev span_on : Waypoint → ℕ
    span_on s = steps_span types layouts m 0 (where_at_root [] s) path

    -- no leaf was found
    pub begin_err : (fault : ImageFault) → IsGiven seen_of (see layouts m t ws) (Err fault) → IsGiven where_of (end_of_path types layouts m t ws path) (Err fault)
    begin_err fault given = err_given seen_of where_of (see layouts m t ws) on fault given

    pub begin_fits : (n a : ℕ) → n ≤ a + span_at layouts (Some t) → n ≤ a + walk_span types layouts m t ws path
    begin_fits n a le = more_fits n a (span_at layouts (Some t)) (count_found (see layouts m t ws) span_on) le

    module _ (x : Passed) (w : Where) (given : IsGiven seen_of (see layouts m t ws) (Ok x)) (here : w ≡ where_at_root [] (seen_of x)) where
      -- the walk has begun
      pub begun : end_of_path types layouts m t ws path ≡ steps types layouts m 0 w path
      begun = then_given seen_of where_of (see layouts m t ws) on x given ∙ ap (λ (v : Where). steps types layouts m 0 v path) (sym here)

      pub begun_fits : (n a : ℕ) → n ≤ a + span_at layouts (Some t) → n + steps_span types layouts m 0 w path ≤ a + walk_span types layouts m t ws path
      begun_fits n a le =
          same_fits n a (span_at layouts (Some t)) (count_found (see layouts m t ws) span_on) (steps_span types layouts m 0 w path)
          (counted seen_of (see layouts m t ws) span_on x given ∙ ap (λ (v : Where). steps_span types layouts m 0 v path) (sym here)) le

  -- A step ---------------------------------------------------------------------------------
  module _ (k : ℕ) (w : Where) (i : ℕ) (rest path : List ℕ) (is : rest ≡ i ∷ path) where
    abbrev next : Where → Walks
    next v = steps types layouts m (k + 1) v path

    abbrev span_next : Where → ℕ
    span_next v = steps_span types layouts m (k + 1) v path

    taken : (due : Walks) → ◌≡◌ {A = Walks} due (steps types layouts m k w rest) → ◌≡◌ {A = Walks} due (and_then (step types layouts m k w i) next)
    taken due so = so ∙ ap (steps types layouts m k w) is

    room : (n all : ℕ) → n + steps_span types layouts m k w rest ≤ all
        → n + (open_span layouts (field_of types w.here.pat i) + count_found (step types layouts m k w i) span_next) ≤ all
    room n all fits = subst (λ (xs : List ℕ). n + steps_span types layouts m k w xs ≤ all) is fits

    -- there is a fault on the way
    pub step_err : (due : Walks) (fault : ImageFault) → ◌≡◌ {A = Walks} due (steps types layouts m k w rest) → IsGiven where_of (step types layouts m k w i) (Err fault) → IsGiven where_of due (Err fault)
    step_err due fault so given =
        subst (λ (d : Walks). IsGiven where_of d (Err fault)) (sym (taken due so)) (err_given where_of where_of (step types layouts m k w i) next fault given)

    pub step_fits : (n new all : ℕ) → n + steps_span types layouts m k w rest ≤ all → new ≤ n + open_span layouts (field_of types w.here.pat i) → new ≤ all
    step_fits n new all fits le =
        next_fits n new (open_span layouts (field_of types w.here.pat i)) (count_found (step types layouts m k w i) span_next) all (room n all fits) le

    module _ (v : Walk) (given : IsGiven where_of (step types layouts m k w i) (Ok v)) where
      -- one came further
      pub stepped : (due : Walks) → ◌≡◌ {A = Walks} due (steps types layouts m k w rest) → ◌≡◌ {A = Walks} due (steps types layouts m (k + 1) (where_of v) path)
      stepped due so = taken due so ∙ then_given where_of where_of (step types layouts m k w i) next v given

      pub stepped_fits : (n new all : ℕ) → n + steps_span types layouts m k w rest ≤ all → new ≤ n + open_span layouts (field_of types w.here.pat i)
          → new + steps_span types layouts m (k + 1) (where_of v) path ≤ all
      stepped_fits n new all fits le =
          rest_fits n new (open_span layouts (field_of types w.here.pat i)) (count_found (step types layouts m k w i) span_next) (span_next (where_of v)) all
          (counted where_of (step types layouts m k w i) span_next v given) (room n all fits) le

  -- The end --------------------------------------------------------------------------------
  module _ (k : ℕ) (w : Walk) (rest : List ℕ) (none : rest ≡ []) where
    pub ended : (due : Walks) → ◌≡◌ {A = Walks} due (steps types layouts m k (where_of w) rest) → IsGiven where_of due (Ok w)
    ended due so = subst (λ (d : Walks). IsGiven where_of d (Ok w)) (sym (so ∙ ap (steps types layouts m k (where_of w)) none)) refl

    pub ended_fit : (n all : ℕ) → n + steps_span types layouts m k (where_of w) rest ≤ all → n ≤ all
    ended_fit n all fits = ended_fits n all (subst (λ (xs : List ℕ). n + steps_span types layouts m k (where_of w) xs ≤ all) none fits)
