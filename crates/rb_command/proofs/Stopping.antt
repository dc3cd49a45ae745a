-- Where words of a language stop: the words before the place begin it, and with the next they begin none of it.
use Rattle.std.proofs.Common.{◌≡◌, ◌⊎◌, inl, inr, ℕ, zero, suc, ◌<◌, ◌≤◌, List, [], ◌∷◌, ◌++◌, length, take, refl, sym, ap, subst, ◌∙◌, append_assoc, append-nil, arith}
use Rattle.std.proofs.Math.Nat.{eq-or-lt_of_le}
use Rattle.std.proofs.Math.Seq.{take-length}
use Rattle.std.proofs.lemmas.Bool.{cases_order}
use Rattle.rb_core.specs.Stopping.{BeginsSome, StopsAtIn}

-- the words begin some of the language
abbrev pub Begins : (List (List ℕ) → Type 0) → List (List ℕ) → Type 0
Begins L words = BeginsSome L words

abbrev pub Stops : (List (List ℕ) → Type 0) → List (List ℕ) → ℕ → Type 0
Stops L words good = StopsAtIn L words good

-- One place ---------------------------------------------------------------------------------

module _ (L : List (List ℕ) → Type 0) where
  split-take : (p q : ℕ) (ws : List (List ℕ)) → p ≤ q → (between : List (List ℕ)) × (take q ws ≡ take p ws ++ between)
  split-take zero q ws l = (take q ws, refl)
  split-take (suc p) zero ws l = absurd (omega arith)
  split-take (suc p) (suc q) [] l = ([], refl)
  split-take (suc p) (suc q) (w ∷ ws) l = let r = split-take p q ws (omega arith) in (r.0, ap (λ us. w ∷ us) r.1)

  begins-less : (ws : List (List ℕ)) (p q : ℕ) → p ≤ q → Begins L (take q ws) → Begins L (take p ws)
  begins-less ws p q l pre =
      let w = split-take p q ws l in
      let e : take q ws ++ pre.0 ≡ take p ws ++ (w.0 ++ pre.0) = ap (λ us. us ++ pre.0) w.1 ∙ append_assoc (take p ws) w.0 pre.0 in
      (w.0 ++ pre.0, subst L e pre.1)

  stops-later : (ws : List (List ℕ)) (p q : ℕ) → Stops L ws p → Stops L ws q → p < q → ⊥
  stops-later ws p q h k l = let w : q ≤ length ws = k.within in h.here (omega arith) (begins-less ws (suc p) q (omega arith) k.before)

  pub one_stop : (ws : List (List ℕ)) (p q : ℕ) → Stops L ws p → Stops L ws q → p ≡ q
  one_stop ws p q h k = by_order (cases_order p q) where
    by_order : (p ≡ q) ⊎ ((p < q) ⊎ (q < p)) → p ≡ q
    by_order (inl e) = e
    by_order (inr (inl l)) = absurd (stops-later ws p q h k l)
    by_order (inr (inr l)) = absurd (stops-later ws q p k h l)

  -- words of the language stop nowhere
  pub stops_none : (ws : List (List ℕ)) (p : ℕ) → Stops L ws p → L ws → ⊥
  stops_none ws p h s = by_order (eq-or-lt_of_le h.within) where
    all : Begins L (take (length ws) ws)
    all = ([], subst L (sym (append-nil (take (length ws) ws) ∙ take-length ws)) s)

    by_order : (p ≡ length ws) ⊎ (p < length ws) → ⊥
    by_order (inl e) = h.at_end e s
    by_order (inr l) = h.here l (begins-less ws (suc p) (length ws) (omega arith) all)

-- Word by word ------------------------------------------------------------------------------

module _ (L : List (List ℕ) → Type 0) where
  -- no word is left, and there must be one
  pub stops-short : (L [] → ⊥) → (ws : List (List ℕ)) → L ws → Stops L [] 0
  stops-short none ws some = record {
    within = omega arith;
    before = (ws, some);
    here = λ l. absurd (omega (arith, l));
    at_end = λ e h. none h;
  }

  -- the next word begins none
  pub stops-first : (w : List ℕ) (ws : List (List ℕ)) → ((us : List (List ℕ)) → L (w ∷ us) → ⊥) → (us : List (List ℕ)) → L us → Stops L (w ∷ ws) 0
  stops-first w ws none us some = record {
    within = omega arith;
    before = (us, some);
    here = λ l h. none h.0 h.1;
    at_end = λ e h. none ws h;
  }

  -- behind a word the language goes on as another
  pub stops-next : (M : List (List ℕ) → Type 0) (w : List ℕ) → ((us : List (List ℕ)) → M us → L (w ∷ us)) → ((us : List (List ℕ)) → L (w ∷ us) → M us)
      → (ws : List (List ℕ)) (p : ℕ) → Stops M ws p → Stops L (w ∷ ws) (suc p)
  stops-next M w to of ws p h = record {
    within = omega (arith, h.within);
    before = (h.before.0, to (take p ws ++ h.before.0) h.before.1);
    here = λ l k. h.here (omega (arith, l)) (k.0, of (take (suc p) ws ++ k.0) k.1);
    at_end = λ e k. h.at_end (omega (arith, e)) (of ws k);
  }
