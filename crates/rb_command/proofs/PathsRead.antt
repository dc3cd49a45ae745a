-- Steps of a path one after the other, as they are cut at points.
use Rattle.std.proofs.Common.{◌≡◌, ◌==◌, ◌<◌, ℕ, List, [], ◌∷◌, ◌++◌, length, refl, sym, ap, subst, ◌∙◌, append_assoc, append-nil, length-append, arith, Bool, true, false, Option, Some, None, MatchBool, eqb-true}
use Rattle.std.specs.List.{IsFirstMatchOrLen}
use Rattle.std.proofs.Math.ListN.{get_or-append}
use Rattle.std.proofs.Math.Seq.{get_or-append_seam}
use Rattle.rb_command.specs.inner.Parsing.{step_in, first_step, steps_from}
use Rattle.rb_command.proofs.Paths.{AreFree, over_free}

-- these steps, and then the others
abbrev pub prepended : List ℕ → Option (List ℕ) → Option (List ℕ)
prepended path None = None
prepended path (Some others) = Some (path ++ others)

-- what the bytes spell that are left, or nothing more behind the last step
abbrev pub steps_left : Bool → List ℕ → Option (List ℕ)
steps_left true rest = Some []
steps_left false rest = steps_from [] rest

pub prepended-nil : (o : Option (List ℕ)) → prepended [] o ≡ o
prepended-nil None = refl
prepended-nil (Some others) = refl

pub prepended-first : (path : List ℕ) (step : ℕ) (o : Option (List ℕ)) → prepended path (first_step (Some step) o) ≡ prepended (path ++ step ∷ []) o
prepended-first path step None = refl
prepended-first path step (Some others) = ap Some (sym (append_assoc path (step ∷ []) others))

-- The first step that is cut off --------------------------------------------------------------

abbrev pub is_point : ℕ → Bool
is_point b = b == 46

free_front : (x more : List ℕ) → IsFirstMatchOrLen is_point (x ++ more) (length x) → AreFree x
free_front x more first k d l = sym (ap is_point (get_or-append x more d k l)) ∙ first.0 k d (omega arith) l

point_behind : (x : List ℕ) (y : ℕ) (more : List ℕ) → IsFirstMatchOrLen is_point (x ++ y ∷ more) (length x) → y ≡ 46
point_behind x y more first =
    let longer : length x < length (x ++ y ∷ more) = omega (arith, length-append x (y ∷ more)) in
    eqb-true y 46 (sym (ap is_point (get_or-append_seam x y more 0)) ∙ first.1 longer 0)

-- the digits before the first point, and what the bytes behind it spell
pub cut_off : (rest x : List ℕ) (done : Bool) (later : List ℕ) → MatchBool done (rest ≡ x) ((y : ℕ) × (rest ≡ x ++ (y ∷ later)))
    → IsFirstMatchOrLen is_point rest (length x) → steps_from [] rest ≡ first_step (step_in x) (steps_left done later)
cut_off rest x true later is first =
    let all : rest ≡ x ++ [] = is ∙ sym (append-nil x) in
    let free = free_front x [] (subst (λ (us : List ℕ). IsFirstMatchOrLen is_point us (length x)) all first) in
    ap (λ us. steps_from [] us) all ∙ over_free [] x [] free
cut_off rest x false later is first =
    let cut = subst (λ (us : List ℕ). IsFirstMatchOrLen is_point us (length x)) is.1 first in
    let point = point_behind x is.0 later cut in
    let all : rest ≡ x ++ (46 ∷ later) = is.1 ∙ ap (λ y. x ++ (y ∷ later)) point in
    ap (λ us. steps_from [] us) all ∙ over_free [] x (46 ∷ later) (free_front x (is.0 ∷ later) cut)

-- The loop ------------------------------------------------------------------------------------

module _ (text path : List ℕ) (done : Bool) (rest : List ℕ) (so_far : prepended path (steps_left done rest) ≡ steps_from [] text) where
  pub no_more : done ≡ true → Some path ≡ steps_from [] text
  no_more ended =
      ap Some (sym (append-nil path)) ∙ ap (λ b. prepended path (steps_left b rest)) (sym ended) ∙ so_far

  module _ (going : done ≡ false) (x : List ℕ) (last : Bool) (later : List ℕ) (is : MatchBool last (rest ≡ x) ((y : ℕ) × (rest ≡ x ++ (y ∷ later))))
      (first : IsFirstMatchOrLen is_point rest (length x)) where
    cut : prepended path (first_step (step_in x) (steps_left last later)) ≡ steps_from [] text
    cut =
        ap (λ o. prepended path o) (sym (cut_off rest x last later is first))
        ∙ ap (λ b. prepended path (steps_left b rest)) (sym going) ∙ so_far

    -- a step more
    pub one_more : (step : ℕ) → step_in x ≡ Some step → prepended (path ++ step ∷ []) (steps_left last later) ≡ steps_from [] text
    one_more step e =
        sym (prepended-first path step (steps_left last later))
        ∙ ap (λ o. prepended path (first_step o (steps_left last later))) (sym e) ∙ cut

    -- no step
    pub no_step : step_in x ≡ None → None ≡ steps_from [] text
    no_step e = ap (λ o. prepended path (first_step o (steps_left last later))) (sym e) ∙ cut
