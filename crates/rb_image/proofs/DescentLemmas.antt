-- Steps of a descent: what one turn leaves of what was to be done.
use Rattle.std.proofs.Common.{◌≡◌, ◌⊎◌, inl, inr, ℕ, zero, suc, ◌<◌, true, List, [], ◌∷◌, ◌++◌, Some, Result, Ok, Err, refl, sym, subst, ap, ◌∙◌, append_assoc, append-nil, arith}
use Rattle.std.specs.Prelude.{slice_get, IsErr}
use Rattle.std.specs.List.{AllByRecursion}
use Rattle.std.specs.Result.{IsErrAnd}
use Rattle.std.proofs.lemmas.Bool.{false≢true}
use Rattle.std.proofs.lemmas.Option.{same_Some}
use Rattle.rb_image_text.specs.declared.fault.ImageFault.{ImageFault}
use Rattle.rb_image_text.specs.declared.fault.ImageFault.TheVariants.{Memory as NoMemory}
use Rattle.rb_image.specs.declared.descent.Step.{Step}
use Rattle.rb_image.specs.declared.descent.Step.TheVariants.{Look, Note}
use Rattle.rb_image.specs.declared.kept.Place.{Place}
use Rattle.rb_image.specs.Given.{IsGiven}
use Rattle.rb_image.specs.Parts.{At, at_of, ats_of}
use Rattle.rb_image.specs.Sound.{Looking, IsSound, sound, HasFault, own, inner}
use Rattle.rb_image.specs.inner.Descending.{looks, AreSound, HaveFault, IsNoted, AreNoted, DescentStands, IsTurn, IsTurnFault, SoundnessIsFound}
use Rattle.rb_image.specs.inner.Knowing.{is_among, with_place}
use Rattle.rb_image.proofs.KnownLemmas.{holds_among, holds_with}

-- Looks --------------------------------------------------------------------------------------
looks-last : (ps : List Place) (p : Place) → looks (ps ++ p ∷ []) ≡ Look p ∷ looks ps
looks-last [] p = refl
looks-last (q ∷ ps) p = ap (λ ss. ss ++ Look q ∷ []) (looks-last ps p)

-- one look moves from what is left to the steps
pub looks_next : (todo new all : List Step) (places rest : List Place) (p : Place) → todo ++ looks places ≡ all → places ≡ rest ++ p ∷ [] → new ≡ todo ++ Look p ∷ [] → new ++ looks rest ≡ all
looks_next todo new all places rest p h pops pushes =
    ap (λ ss. ss ++ looks rest) pushes ∙ append_assoc todo (Look p ∷ []) (looks rest) ∙ ap (λ ss. todo ++ ss) (sym (ap looks pops ∙ looks-last rest p)) ∙ h

all_get : (P : At → Type 0) (ps : List At) → AllByRecursion P ps → (k : ℕ) (p : At) → slice_get ps k ≡ Some p → P p
all_get P [] all k p e = absurd cc
all_get P (q ∷ qs) all zero p e = subst P (same_Some q p e) all.0
all_get P (q ∷ qs) all (suc k) p e = all_get P qs all.1 k p e

module _ (look : Looking) where
  -- Steps in two halves ----------------------------------------------------------------------
  sound_left : (ss ts : List Step) → AreSound look (ss ++ ts) → AreSound look ss
  sound_left [] ts h = tt
  sound_left (s ∷ ss) ts h = (h.0, sound_left ss ts h.1)

  sound_right : (ss ts : List Step) → AreSound look (ss ++ ts) → AreSound look ts
  sound_right [] ts h = h
  sound_right (s ∷ ss) ts h = sound_right ss ts h.1

  sound_over : (ss ts us : List Step) → (AreSound look ts → AreSound look us) → AreSound look (ss ++ ts) → AreSound look (ss ++ us)
  sound_over [] ts us go h = go h
  sound_over (s ∷ ss) ts us go h = (h.0, sound_over ss ts us go h.1)

  fault_over : (ss ts us : List Step) (f : ImageFault) → (AreSound look ts → AreSound look us) → (HaveFault look ts f → HaveFault look us f) → HaveFault look (ss ++ ts) f → HaveFault look (ss ++ us) f
  fault_over [] ts us f go to h = to h
  fault_over (s ∷ ss) ts us f go to (inl h) = inl (fault_over ss ts us f go to h)
  fault_over (s ∷ ss) ts us f go to (inr h) = inr (sound_over ss ts us go h.0, h.1)

  fault_right : (ss ts : List Step) (f : ImageFault) → HaveFault look ts f → HaveFault look (ss ++ ts) f
  fault_right [] ts f h = h
  fault_right (s ∷ ss) ts f h = inl (fault_right ss ts f h)

  fault_split : (ss ts : List Step) (f : ImageFault) → HaveFault look (ss ++ ts) f → HaveFault look ts f ⊎ (AreSound look ts × HaveFault look ss f)
  fault_split [] ts f h = inl h
  fault_split (s ∷ ss) ts f (inl h) = next (fault_split ss ts f h)
    where
      next : HaveFault look ts f ⊎ (AreSound look ts × HaveFault look ss f) → HaveFault look ts f ⊎ (AreSound look ts × HaveFault look (s ∷ ss) f)
      next (inl x) = inl x
      next (inr x) = inr (x.0, inl x.1)
  fault_split (s ∷ ss) ts f (inr h) = inr (sound_right ss ts h.0, inr (sound_left ss ts h.0, h.1))

  noted_tail : (s : Step) (ss ts : List Step) → (AreSound look ts → AreSound look ss) → IsNoted look s ss → IsNoted look s ts
  noted_tail (Look p) ss ts go h = tt
  noted_tail (Note p) ss ts go h = λ a. h (go a)

  noted_over : (ss ts us : List Step) → (AreSound look ts → AreSound look us) → AreNoted look ts → AreNoted look (ss ++ us) → AreNoted look (ss ++ ts)
  noted_over [] ts us go here h = here
  noted_over (s ∷ ss) ts us go here h = (noted_tail s (ss ++ us) (ss ++ ts) (sound_over ss ts us go) h.0, noted_over ss ts us go here h.1)

  noted_right : (ss ts : List Step) → AreNoted look (ss ++ ts) → AreNoted look ts
  noted_right [] ts h = h
  noted_right (s ∷ ss) ts h = noted_right ss ts h.1

  noted_last : (ss : List Step) (p : Place) → AreNoted look ss → AreNoted look (ss ++ Look p ∷ [])
  noted_last [] p h = (tt, tt)
  noted_last (s ∷ ss) p h = (noted_tail s ss (ss ++ Look p ∷ []) (sound_left ss (Look p ∷ [])) h.0, noted_last ss p h.1)

  -- Looks at places --------------------------------------------------------------------------
  looks_sound : (ps : List Place) → AreSound look (looks ps) → AllByRecursion (IsSound look) (ats_of ps)
  looks_sound [] h = tt
  looks_sound (p ∷ ps) h = ((sound_right (looks ps) (Look p ∷ []) h).0, looks_sound ps (sound_left (looks ps) (Look p ∷ []) h))

  looks_noted : (ps : List Place) → AreNoted look (looks ps)
  looks_noted [] = tt
  looks_noted (p ∷ ps) = noted_last (looks ps) p (looks_noted ps)

  -- the first place that has the fault
  record FirstOf (ps : List At) (f : ImageFault) : Type 0 where
    number : ℕ
    place : At
    is : slice_get ps number ≡ Some place
    before : (j : ℕ) (r : At) → j < number → slice_get ps j ≡ Some r → IsSound look r
    fault : HasFault look place f

  later : (p : At) (ps : List At) (f : ImageFault) → IsSound look p → FirstOf ps f → FirstOf (p ∷ ps) f
  later p ps f h x = record {
    number = suc x.number;
    place = x.place;
    is = x.is;
    before = earlier;
    fault = x.fault;
  }
    where
      earlier : (j : ℕ) (r : At) → j < suc x.number → slice_get (p ∷ ps) j ≡ Some r → IsSound look r
      earlier zero r lt e = subst (IsSound look) (same_Some p r e) h
      earlier (suc j) r lt e = x.before j r (omega (arith, lt)) e

  first : (p : At) (ps : List At) (f : ImageFault) → HasFault look p f → FirstOf (p ∷ ps) f
  first p ps f h = record { number = 0; place = p; is = refl; before = λ j r lt e. absurd (omega (arith, lt)); fault = h }

  looks_fault : (ps : List Place) (f : ImageFault) → HaveFault look (looks ps) f → FirstOf (ats_of ps) f
  looks_fault [] f h = absurd h
  looks_fault (p ∷ ps) f h = elim (fault_split (looks ps) (Look p ∷ []) f h) [
    | inl x ↦ elim x [
      | inl y ↦ absurd y
      | inr y ↦ first (at_of p) (ats_of ps) f y.1
    ]
    | inr x ↦ later (at_of p) (ats_of ps) f x.0.0 (looks_fault ps f x.1)
  ]

  -- Turns ------------------------------------------------------------------------------------
  module _ (root : At) (known : List At) (todo rest : List Step) (s : Step) (pops : todo ≡ rest ++ s ∷ []) (stands : DescentStands look root known todo) where
    stood : DescentStands look root known (rest ++ s ∷ [])
    stood = subst (DescentStands look root known) pops stands

    replaced : (after : List At) (ts : List Step) → AllByRecursion (IsSound look) after → (AreSound look ts → AreSound look (s ∷ []))
        → ((f : ImageFault) → HaveFault look ts f → HaveFault look (s ∷ []) f) → AreNoted look ts → DescentStands look root after (rest ++ ts)
    replaced after ts all go to here = record {
      found = all;
      sound = λ h. stood.sound (sound_over rest ts (s ∷ []) go h);
      fault = λ f h. stood.fault f (fault_over rest ts (s ∷ []) f go (to f) h);
      noted = noted_over rest ts (s ∷ []) go here stood.noted;
    }

    -- nothing is left of the step
    done : (after : List At) → AllByRecursion (IsSound look) after → AreSound look (s ∷ []) → DescentStands look root after rest
    done after all h = subst (DescentStands look root after) (append-nil rest) (replaced after [] all (λ x. h) (λ f x. absurd x) tt)

    pub noted_turn : (p : Place) → s ≡ Note p → (after : List At) → after ≡ with_place known (at_of p) → DescentStands look root after rest
    noted_turn p is after with_it =
        let n : AreNoted look (Note p ∷ []) = subst (λ x. AreNoted look (x ∷ [])) is (noted_right rest (s ∷ []) stood.noted) in
        done after (subst (AllByRecursion (IsSound look)) (sym with_it) (holds_with (IsSound look) known (at_of p) stood.found (n.0 tt)))
        (subst (λ x. AreSound look (x ∷ [])) (sym is) (tt, tt))

    pub known_turn : (p : Place) → s ≡ Look p → is_among known (at_of p) ≡ true → DescentStands look root known rest
    known_turn p is among = done known stood.found (subst (λ x. AreSound look (x ∷ [])) (sym is) (holds_among (IsSound look) known (at_of p) stood.found among, tt))

    module _ (p : Place) (is : s ≡ Look p) where
      all_below : (ps : List Place) (below : List At) → look (at_of p) ≡ Ok below → ats_of ps ≡ below → AreSound look (looks ps) → IsSound look (at_of p)
      all_below ps below e same h = sound (at_of p) below e (all_get (IsSound look) below (subst (AllByRecursion (IsSound look)) same (looks_sound ps h)))

      one_below : (ps : List Place) (below : List At) → look (at_of p) ≡ Ok below → ats_of ps ≡ below → (f : ImageFault) → HaveFault look (looks ps) f → HasFault look (at_of p) f
      one_below ps below e same f h =
          let x = subst (λ qs. FirstOf qs f) same (looks_fault ps f h) in
          inner (at_of p) below x.number x.place f e x.is x.before x.fault

      pub look_turn : (r : Result (List At) ImageFault) → look (at_of p) ≡ r → (ps : List Place) → IsGiven ats_of r (Ok ps) → (new : List Step) → new ≡ rest ++ Note p ∷ looks ps → DescentStands look root known new
      look_turn (Err e) at ps given new is_new = absurd given
      look_turn (Ok below) at ps given new is_new =
          subst (DescentStands look root known) (sym is_new) (replaced known (Note p ∷ looks ps) stood.found
          (λ h. subst (λ x. AreSound look (x ∷ [])) (sym is) (all_below ps below at given h.1, tt))
          (λ f h. subst (λ x. HaveFault look (x ∷ []) f) (sym is) (local f h))
          (λ h. all_below ps below at given h, looks_noted ps))
        where
          local : (f : ImageFault) → HaveFault look (Note p ∷ looks ps) f → HaveFault look (Look p ∷ []) f
          local f (inl h) = inr (tt, one_below ps below at given f h)
          local f (inr h) = absurd h.1

      pub look_fault : {B : Type 0} (view : B → List At) (r : Result (List At) ImageFault) → look (at_of p) ≡ r → (f : ImageFault) → IsGiven view r (Err f) → HasFault look root f ⊎ (f ≡ NoMemory)
      look_fault view (Ok below) at f given = inr given
      look_fault view (Err due) at f (inr given) = inr given
      look_fault view (Err due) at f (inl given) =
          let h : HasFault look (at_of p) f = own (at_of p) f (at ∙ ap Err (sym given)) in
          inl (stood.fault f (fault_right rest (s ∷ []) f (subst (λ x. HaveFault look (x ∷ []) f) (sym is) (inr (tt, h)))))

    -- a step is done
    pub turned : (t : Step) → s ≡ t → (after : List At) (new : List Step) → IsTurn look t known rest after new → DescentStands look root after new
    turned (Note p) is after new turn = subst (DescentStands look root after) (sym turn.1) (noted_turn p is after turn.0)
    turned (Look p) is after new turn = subst (λ ks. DescentStands look root ks new) (sym turn.0) (elim turn.1 [
      | inl x ↦ subst (DescentStands look root known) (sym x.1) (known_turn p is x.0)
      | inr x ↦ look_turn p is (Ok (ats_of x.1.below)) x.1.found x.1.below refl new x.1.steps
    ])

    -- or it has a fault
    pub turn_fault : (t : Step) → s ≡ t → (f : ImageFault) → IsTurnFault look t f → HasFault look root f ⊎ (f ≡ NoMemory)
    turn_fault (Note p) is f memory = inr memory
    turn_fault (Look p) is f (inl at) = look_fault p is ats_of (Err f) at f (inl refl)
    turn_fault (Look p) is f (inr memory) = inr memory

  -- the first turn, and the last
  pub begins : (root : Place) (todo : List Step) → todo ≡ Look root ∷ [] → DescentStands look (at_of root) [] todo
  begins root todo is = subst (DescentStands look (at_of root) []) (sym is) (record { found = tt; sound = λ h. h.0; fault = from; noted = (tt, tt) })
    where
      from : (f : ImageFault) → HaveFault look (Look root ∷ []) f → HasFault look (at_of root) f
      from f (inl h) = absurd h
      from f (inr h) = h.1

  pub ends_sound : (root : At) (known : List At) (todo : List Step) → todo ≡ [] → DescentStands look root known todo → IsSound look root
  ends_sound root known todo is stands = (subst (DescentStands look root known) is stands).sound tt

  -- a fault that is handed on
  pub found_on : {A : Type 0} (p : At) (r : Result A ImageFault) (e : ImageFault) → IsErr r → IsErrAnd r (λ x. x ≡ e) → HasFault look p e ⊎ (e ≡ NoMemory) → SoundnessIsFound look p r
  found_on p (Ok b) e is same h = absurd (false≢true is)
  found_on p (Err x) e is same h = subst (λ y. HasFault look p y ⊎ (y ≡ NoMemory)) (sym same) h

  -- One step ---------------------------------------------------------------------------------
  -- a place that is known is not looked at
  pub turn_known : (s : Step) (p : Place) (known : List At) (todo : List Step) → s ≡ Look p → is_among known (at_of p) ≡ true → IsTurn look s known todo known todo
  turn_known s p known todo is among = subst (λ t. IsTurn look t known todo known todo) (sym is) (refl, inl (among, refl))
