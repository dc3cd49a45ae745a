-- Descents that end: how many steps are left after a turn.
use Rattle.std.proofs.Common.{◌≡◌, inl, inr, ℕ, zero, suc, ◌+◌, ◌<◌, ◌≤◌, List, [], ◌∷◌, ◌++◌, Result, Ok, Err, refl, sym, subst, ap, ◌∙◌, arith}
use Rattle.std.specs.List.{AllByRecursion}
use Rattle.rb_image_text.specs.declared.fault.ImageFault.{ImageFault}
use Rattle.rb_image.specs.declared.descent.Step.{Step}
use Rattle.rb_image.specs.declared.descent.Step.TheVariants.{Look, Note}
use Rattle.rb_image.specs.declared.kept.Place.{Place}
use Rattle.rb_image.specs.Given.{IsGiven}
use Rattle.rb_image.specs.Parts.{At, at_of, ats_of}
use Rattle.rb_image.specs.Sound.{Looking}
use Rattle.rb_image.specs.inner.Descending.{IsTurn, looks}
use Rattle.rb_image.specs.inner.Ending.{EndBelow, DescentEnds, total, steps_below, descent_steps, AllEnd, weight, weights}

all_more : (P Q : At → Type 0) → ((p : At) → P p → Q p) → (ps : List At) → AllByRecursion P ps → AllByRecursion Q ps
all_more P Q go [] h = tt
all_more P Q go (p ∷ ps) h = (go p h.0, all_more P Q go ps h.1)

below_more : (P Q : At → Type 0) → ((p : At) → P p → Q p) → (r : Result (List At) ImageFault) → EndBelow P r → EndBelow Q r
below_more P Q go (Err f) h = tt
below_more P Q go (Ok ps) h = all_more P Q go ps h

total_same : (P : At → Type 0) (f g : At → ℕ) → ((p : At) → P p → f p ≡ g p) → (ps : List At) → AllByRecursion P ps → total f ps ≡ total g ps
total_same P f g same [] h = refl
total_same P f g same (p ∷ ps) h = let a = same p h.0 in let b = total_same P f g same ps h.1 in omega (arith, a, b)

steps_same : (P : At → Type 0) (f g : At → ℕ) → ((p : At) → P p → f p ≡ g p) → (r : Result (List At) ImageFault) → EndBelow P r → steps_below f r ≡ steps_below g r
steps_same P f g same (Err e) h = refl
steps_same P f g same (Ok ps) h = ap (λ n. 1 + n) (total_same P f g same ps h)

module _ (look : Looking) where
  -- a greater bound is one too
  pub ends_more : (n k : ℕ) (p : At) → DescentEnds look n p → n ≤ k → DescentEnds look k p
  ends_more zero k p h le = absurd h
  ends_more (suc n) zero p h le = absurd (omega (arith, le))
  ends_more (suc n) (suc k) p h le = below_more (DescentEnds look n) (DescentEnds look k) (λ q x. ends_more n k q x (omega (arith, le))) (look p) h

  same_steps : (n k : ℕ) (p : At) → DescentEnds look n p → n ≤ k → descent_steps look k p ≡ descent_steps look n p
  same_steps zero k p h le = absurd h
  same_steps (suc n) zero p h le = absurd (omega (arith, le))
  same_steps (suc n) (suc k) p h le = ap (λ x. 1 + x) (steps_same (DescentEnds look n) (descent_steps look k) (descent_steps look n) (λ q x. same_steps n k q x (omega (arith, le))) (look p) h)

  module _ (n : ℕ) where
    weights-append : (ss ts : List Step) → weights look n (ss ++ ts) ≡ weights look n ss + weights look n ts
    weights-append [] ts = omega arith
    weights-append (s ∷ ss) ts = let r = weights-append ss ts in omega (arith, r)

    end_left : (ss ts : List Step) → AllEnd look n (ss ++ ts) → AllEnd look n ss
    end_left [] ts h = tt
    end_left (s ∷ ss) ts h = (h.0, end_left ss ts h.1)

    end_right : (ss ts : List Step) → AllEnd look n (ss ++ ts) → AllEnd look n ts
    end_right [] ts h = h
    end_right (s ∷ ss) ts h = end_right ss ts h.1

    end_both : (ss ts : List Step) → AllEnd look n ss → AllEnd look n ts → AllEnd look n (ss ++ ts)
    end_both [] ts h g = g
    end_both (s ∷ ss) ts h g = (h.0, end_both ss ts h.1 g)

    looks_end : (ps : List Place) → AllByRecursion (DescentEnds look n) (ats_of ps) → AllEnd look n (looks ps)
    looks_end [] h = tt
    looks_end (p ∷ ps) h = end_both (looks ps) (Look p ∷ []) (looks_end ps h.1) (h.0, tt)

    looks_weigh : (ps : List Place) → weights look n (looks ps) ≡ total (descent_steps look n) (ats_of ps)
    looks_weigh [] = refl
    looks_weigh (p ∷ ps) = let a = weights-append (looks ps) (Look p ∷ []) in let b = looks_weigh ps in omega (arith, a, b)

    module _ (todo rest : List Step) (s : Step) (pops : todo ≡ rest ++ s ∷ []) where
      pub rest_ends : AllEnd look n todo → AllEnd look n rest
      rest_ends h = end_left rest (s ∷ []) (subst (AllEnd look n) pops h)

      heavy : weights look n todo ≡ weights look n rest + (weight look n s + 0)
      heavy = ap (weights look n) pops ∙ weights-append rest (s ∷ [])

      pub note_less : (p : Place) → s ≡ Note p → weights look n rest < weights look n todo
      note_less p is = let e = heavy ∙ ap (λ x. weights look n rest + (weight look n x + 0)) is in omega (arith, e)

  some_steps : (n : ℕ) (p : At) → DescentEnds look n p → 0 < descent_steps look n p
  some_steps zero p h = absurd h
  some_steps (suc n) p h = omega arith

  -- a place that was looked at: those below it weigh less with the note
  record Lighter (n : ℕ) (p : Place) (ps : List Place) : Type 0 where
    ends : AllEnd look n (Note p ∷ looks ps)
    less : weights look n (Note p ∷ looks ps) < descent_steps look n (at_of p)

  lighter : (n : ℕ) (p : Place) (r : Result (List At) ImageFault) → look (at_of p) ≡ r → DescentEnds look n (at_of p) → (ps : List Place) → IsGiven ats_of r (Ok ps) → Lighter n p ps
  lighter zero p r at h ps given = absurd h
  lighter (suc n) p (Err e) at h ps given = absurd given
  lighter (suc n) p (Ok below) at h ps given =
      let all : AllByRecursion (DescentEnds look n) (ats_of ps) = subst (AllByRecursion (DescentEnds look n)) (sym given) (subst (EndBelow (DescentEnds look n)) at h) in
      let more = all_more (DescentEnds look n) (DescentEnds look (suc n)) (λ q x. ends_more n (suc n) q x (omega arith)) (ats_of ps) all in
      let a = looks_weigh (suc n) ps in
      let b = total_same (DescentEnds look n) (descent_steps look (suc n)) (descent_steps look n) (λ q x. same_steps n (suc n) q x (omega arith)) (ats_of ps) all in
      let c : descent_steps look (suc n) (at_of p) ≡ 1 + (1 + total (descent_steps look n) (ats_of ps)) = ap (λ r. 1 + steps_below (descent_steps look n) r) at ∙ ap (λ qs. 1 + (1 + total (descent_steps look n) qs)) (sym given) in
      record { ends = (tt, looks_end (suc n) ps more); less = omega (arith, a, b, c) }

  module _ (n : ℕ) (todo rest : List Step) (s : Step) (pops : todo ≡ rest ++ s ∷ []) (p : Place) (is : s ≡ Look p) (h : AllEnd look n todo) where
    ends_here : DescentEnds look n (at_of p)
    ends_here = let x = end_right n rest (s ∷ []) (subst (AllEnd look n) pops h) in (subst (λ t. AllEnd look n (t ∷ [])) is x).0

    weighs : weights look n todo ≡ weights look n rest + (descent_steps look n (at_of p) + 0)
    weighs = heavy n todo rest s pops ∙ ap (λ x. weights look n rest + (weight look n x + 0)) is

    pub known_less : weights look n rest < weights look n todo
    known_less = let e = weighs in let some = some_steps n (at_of p) ends_here in omega (arith, e, some)

    module _ (ps : List Place) (given : IsGiven ats_of (look (at_of p)) (Ok ps)) (new : List Step) (is_new : new ≡ rest ++ Note p ∷ looks ps) where
      light : Lighter n p ps
      light = lighter n p (look (at_of p)) refl ends_here ps given

      pub look_ends : AllEnd look n new
      look_ends = subst (AllEnd look n) (sym is_new) (end_both n rest (Note p ∷ looks ps) (rest_ends n todo rest s pops h) light.ends)

      pub look_less : weights look n new < weights look n todo
      look_less =
          let e = weighs in
          let a = ap (weights look n) is_new ∙ weights-append n rest (Note p ∷ looks ps) in
          let l = light.less in
          omega (arith, e, a, l)

  -- a step is done
  module _ (n : ℕ) (todo rest : List Step) (s : Step) (pops : todo ≡ rest ++ s ∷ []) (h : AllEnd look n todo) (known after : List At) (new : List Step) where
    found_so : (p : Place) (ps : List Place) → look (at_of p) ≡ Ok (ats_of ps) → IsGiven ats_of (look (at_of p)) (Ok ps)
    found_so p ps found = subst (λ r. IsGiven ats_of r (Ok ps)) (sym found) refl

    pub turn_ends : (t : Step) → s ≡ t → IsTurn look t known rest after new → AllEnd look n new
    turn_ends (Note p) is turn = subst (AllEnd look n) (sym turn.1) (rest_ends n todo rest s pops h)
    turn_ends (Look p) is turn = elim turn.1 [
      | inl x ↦ subst (AllEnd look n) (sym x.1) (rest_ends n todo rest s pops h)
      | inr x ↦ look_ends n todo rest s pops p is h x.1.below (found_so p x.1.below x.1.found) new x.1.steps
    ]

    pub turn_less : (t : Step) → s ≡ t → IsTurn look t known rest after new → weights look n new < weights look n todo
    turn_less (Note p) is turn = subst (λ ss. weights look n ss < weights look n todo) (sym turn.1) (note_less n todo rest s pops p is)
    turn_less (Look p) is turn = elim turn.1 [
      | inl x ↦ subst (λ ss. weights look n ss < weights look n todo) (sym x.1) (known_less n todo rest s pops p is h)
      | inr x ↦ look_less n todo rest s pops p is h x.1.below (found_so p x.1.below x.1.found) new x.1.steps
    ]
