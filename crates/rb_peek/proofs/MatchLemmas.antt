-- Provenances that are matched, field by field, and leaves that are tried one after the other.
use Rattle.std.proofs.Common.{◌≡◌, ℕ, zero, suc, ◌+◌, ◌≤◌, map, drop, List, [], ◌∷◌, Bool, true, false, Option, Some, None, Result, Ok, Err, refl, ap, ◌∙◌, arith}
use Rattle.std.specs.Prelude.{slice_get, if◌then◌else◌}
use Rattle.std.proofs.lemmas.Option.{same_Some}
use Rattle.rb_core.specs.declared.pattern.Pat.{Pat, Con, fold-Pat}
use Rattle.rb_core.specs.declared.pattern.Pat.TheOpen as P
use Rattle.rb_core.specs.declared.pattern.Pat.TheOpen.{Pat-F}
use Rattle.rb_core.specs.declared.types.ConRef.{ConRef}
use Rattle.rb_core.specs.declared.types.DataDecl.{DataDecl}
use Rattle.rb_core.proofs.PatternLaws.{fold-Con}
use Rattle.rb_layout.specs.declared.layout.Layout.{Layout}
use Rattle.rb_layout.specs.declared.layout.Leaf.{Leaf}
use Rattle.rb_image_text.specs.declared.fault.ImageFault.{ImageFault}
use Rattle.rb_image_text.specs.declared.image.ImageBlock.{ImageBlock}
use Rattle.rb_image.specs.Given.{IsGiven}
use Rattle.rb_image.specs.Splits.{and_then}
use Rattle.rb_image.proofs.DropLemmas.{drop_item}
use Rattle.rb_peek.specs.Rebuilds.{leaf_chosen, match_field, match_fields, matches, or_later}
use Rattle.rb_peek.specs.Views.{LeafPosition, down}
use Rattle.rb_peek.specs.inner.Standing.{first_fault, or_before}
use Rattle.rb_peek.proofs.GivenLemmas.{first_err}
use Rattle.rb_peek.proofs.WayLemmas.{then_given}

abbrev pub total : List ℕ → ℕ
total [] = 0
total (n ∷ ns) = n + total ns

abbrev pub weight_step : Pat-F ℕ → ℕ
weight_step (P.Wild at) = 1
weight_step (P.Var at x) = 1
weight_step (P.Num at n) = 1
weight_step (P.Con at c ws) = 1 + total ws

-- how many forms a pattern has
abbrev pub weight : Pat → ℕ
weight = fold-Pat ℕ weight_step

abbrev pub weights : List Pat → ℕ
weights ps = total (map weight ps)

pub weight_con : (p : Pat) (at : ℕ) (c : ConRef) (ps : List Pat) → p ≡ Con at c ps → weight p ≡ 1 + weights ps
weight_con p at c ps is = ap weight is ∙ fold-Con ℕ weight_step at c ps

pub weight_among : (ps : List Pat) (k : ℕ) (p : Pat) → slice_get ps k ≡ Some p → weight p ≤ weights ps
weight_among [] k p e = absurd cc
weight_among (q ∷ ps) zero p e =
    let all : weights (q ∷ ps) ≡ weight q + weights ps = refl in
    let same = ap weight (same_Some q p e) in omega (arith, all, same)
weight_among (q ∷ ps) (suc k) p e =
    let all : weights (q ∷ ps) ≡ weight q + weights ps = refl in
    let le = weight_among ps k p e in omega (arith, all, le)

module _ (types : List DataDecl) (layouts : List Layout) (m : List ImageBlock) where
  abbrev Match : Pat → LeafPosition → Result Bool ImageFault
  Match = matches types layouts m

  -- fields from one on
  module _ (ps : List Pat) (i : ℕ) (p : Pat) (x : LeafPosition) (is : slice_get ps i ≡ Some p) where
    abbrev from : ℕ → Result Bool ImageFault
    from k = match_fields types (map Match (drop k ps)) x k

    abbrev here : Result Bool ImageFault
    here = match_field (Match p) (down types x i)

    abbrev and_rest : Bool → Result Bool ImageFault
    and_rest so = if so then from (i + 1) else Ok false

    module _ (due : Result Bool ImageFault) (so : ◌≡◌ {A = Result Bool ImageFault} due (from i)) where
      split : ◌≡◌ {A = Result Bool ImageFault} due (and_then here and_rest)
      split = so ∙ ap (λ qs. match_fields types (map Match qs) x i) (drop_item ps i p is)

      -- of the first it is not known whether it matches
      pub field_err : (fault : ImageFault) → IsGiven (λ (b : Bool). b) here (Err fault) → IsGiven (λ (b : Bool). b) due (Err fault)
      field_err fault given = first_err (λ (b : Bool). b) (λ (b : Bool). b) due here and_rest fault split given

      -- the first matches
      pub field_ok : (b : Bool) → IsGiven (λ (b : Bool). b) here (Ok b) → b ≡ true → due ≡ from (i + 1)
      field_ok b given fits = split ∙ then_given (λ (b : Bool). b) (λ (b : Bool). b) here and_rest b given ∙ ap and_rest fits

  -- Leaves -----------------------------------------------------------------------------------
  module _ (leaves : List Leaf) (k : ℕ) (leaf : Leaf) (x : LeafPosition) (is : slice_get leaves k ≡ Some leaf) where
    abbrev later : Result Leaf ImageFault
    later = leaf_chosen types layouts m (drop (k + 1) leaves) x

    tried : leaf_chosen types layouts m (drop k leaves) x ≡ or_later (Match leaf.prov x) leaf later
    tried = ap (λ ls. leaf_chosen types layouts m ls x) (drop_item leaves k leaf is)

    pub leaf_passed : (before : Option ImageFault) → Match leaf.prov x ≡ Ok false → or_before before (leaf_chosen types layouts m (drop k leaves) x) ≡ or_before before later
    leaf_passed before fails = ap (or_before before) (tried ∙ ap (λ r. or_later r leaf later) fails)

    pub leaf_taken : (before : Option ImageFault) → Match leaf.prov x ≡ Ok true → or_before before (leaf_chosen types layouts m (drop k leaves) x) ≡ Ok leaf
    leaf_taken None passes = tried ∙ ap (λ r. or_later r leaf later) passes
    leaf_taken (Some fault) passes = ap (or_before (Some fault)) (tried ∙ ap (λ r. or_later r leaf later) passes)

    twice : (before : Option ImageFault) (fault : ImageFault) (found : Result Leaf ImageFault) → or_before before (or_later (Err fault) leaf found) ≡ or_before (first_fault before fault) found
    twice None fault found = refl
    twice (Some first) fault (Ok l) = refl
    twice (Some first) fault (Err e) = refl

    pub leaf_unknown : (before : Option ImageFault) (fault : ImageFault) → Match leaf.prov x ≡ Err fault
        → or_before before (leaf_chosen types layouts m (drop k leaves) x) ≡ or_before (first_fault before fault) later
    leaf_unknown before fault wrong = ap (or_before before) (tried ∙ ap (λ r. or_later r leaf later) wrong) ∙ twice before fault later
