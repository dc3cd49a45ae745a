-- Slots under their new numbers.
use Rattle.std.proofs.Common.{◌≡◌, ◌≢◌, Bool, true, false, not, ◌+◌, ℕ, zero, suc, ◌<◌, ◌≤◌, ◌⊎◌, inl, inr, List, [], ◌∷◌, ◌++◌, length, replicate, refl, sym, subst, ap, ◌∙◌, arith, get_or-set_other, get_or-set_same}
use Rattle.std.proofs.lemmas.List.{length-set}
use Rattle.std.proofs.lemmas.List.Elements.{All-head, All-tail}
use Rattle.std.specs.Prelude.{IsTrue, ◌↔◌, slice_index, slice_set}
use Rattle.rb_bytes.specs.Memory.{Memory}
use Rattle.rb_target.specs.Meaning.{slots_at, put_slots}
use Rattle.rb_target.specs.Validity.{AreSlots}
use Rattle.rb_target.specs.declared.instr.Instr.{Instr}
use Rattle.rb_trim.specs.declared.fact.Fact.{Fact}
use Rattle.rb_trim.specs.declared.hints.Hints.{Hints}
use Rattle.rb_trim.specs.inner.Facts.{Hold}
use Rattle.rb_trim.specs.inner.Following.{Sets}
use Rattle.rb_trim.specs.inner.Moving.{IsEverRead, SlotIsRead, LivesOn, Agree, NumbersAreApart, IsDest, IsName, AreDests, AreNames}

pub same_or : (a b : ℕ) → (a ≡ b) ⊎ (a ≢ b)
same_or zero zero = inl refl
same_or zero (suc b) = inr (λ e. cc)
same_or (suc a) zero = inr (λ e. cc)
same_or (suc a) (suc b) = elim (same_or a b) [ inl e ↦ inl (ap suc e) | inr ne ↦ inr (λ e. ne (omega (arith, e))) ]

pub zeros : (n k : ℕ) → slice_index (replicate {A = ℕ} n 0) k ≡ 0
zeros zero k = refl
zeros (suc n) zero = refl
zeros (suc n) (suc k) = zeros n k

-- slots past the end hold 0
pub widened : (xs : List ℕ) (n k : ℕ) → slice_index (xs ++ replicate {A = ℕ} n 0) k ≡ slice_index xs k
widened [] n k = zeros n k
widened (x ∷ xs) n zero = refl
widened (x ∷ xs) n (suc k) = widened xs n k

-- some slots hold the same under their new numbers
abbrev pub AgreeOn : Hints → (ℕ → Type 0) → List ℕ → List ℕ → Type 0
AgreeOn h R s s' = (k : ℕ) → R k → IsEverRead h k → slice_index s' (slice_index h.names k) ≡ slice_index s k

-- read from an instruction on, or set by it
abbrev pub Borne : Hints → ℕ → Instr → ℕ → Type 0
Borne h pc i k = SlotIsRead h pc k ⊎ Sets i k

pub ever : (h : Hints) (pc k : ℕ) → SlotIsRead h pc k → IsEverRead h k
ever h pc k read = omega (arith, read.0)

-- what is read at a place behind is borne there
pub onward : (h : Hints) (pc : ℕ) (i : Instr) (t : ℕ) (s s' : List ℕ) → LivesOn h pc i t → AgreeOn h (Borne h pc i) s s' → Agree h t s s'
onward h pc i t s s' lives agree k read = agree k (lives.by k read) (ever h t k read)

module _ (h : Hints) (apart : NumbersAreApart h) where
  -- the same word is written on both sides
  pub set_agrees : (R : ℕ → Type 0) (d d' x : ℕ) (s s' : List ℕ) → AgreeOn h R s s' → IsDest h d d' → d < length s → d' < length s'
      → AgreeOn h (λ k. R k ⊎ (d ≡ k)) (slice_set s d x) (slice_set s' d' x)
  set_agrees R d d' x s s' agree dest within within' k borne read =
      elim (same_or k d) [
        | inl e ↦
            let there : slice_index h.names k ≡ d' = ap (λ n. slice_index h.names n) e ∙ sym dest.0 in
            ap (λ n. slice_index (slice_set s' d' x) n) there ∙ get_or-set_same s' d' x 0 within'
            ∙ sym (get_or-set_same s d x 0 within) ∙ ap (λ n. slice_index (slice_set s d x) n) (sym e)
        | inr ne ↦
            let back : slice_index h.origins (slice_index h.names k) ≡ k = apart k read in
            let off : slice_index h.names k ≢ d' = λ e. ne (sym back ∙ ap (λ n. slice_index h.origins n) e ∙ dest.1) in
            let old : R k = still k borne ne in
            get_or-set_other s' d' (slice_index h.names k) x 0 off ∙ agree k old read ∙ sym (get_or-set_other s d k x 0 ne)
      ]
    where
      still : (k : ℕ) → R k ⊎ (d ≡ k) → k ≢ d → R k
      still k (inl r) ne = r
      still k (inr e) ne = absurd (ne (sym e))

  pub put_agrees : (R : ℕ → Type 0) (ds ds' ws : List ℕ) (s s' : List ℕ) (n n' : ℕ) → AgreeOn h R s s' → AreDests h ds ds' → AreSlots n ds → AreSlots n' ds' → n ≤ length s → n' ≤ length s' → AgreeOn h R (put_slots s ds ws) (put_slots s' ds' ws)
  put_agrees R [] [] ws s s' n n' agree dests fit fit' le le' = agree
  put_agrees R [] (d' ∷ ds') ws s s' n n' agree dests fit fit' le le' = absurd dests
  put_agrees R (d ∷ ds) [] ws s s' n n' agree dests fit fit' le le' = absurd dests
  put_agrees R (d ∷ ds) (d' ∷ ds') [] s s' n n' agree dests fit fit' le le' = agree
  put_agrees R (d ∷ ds) (d' ∷ ds') (w ∷ ws) s s' n n' agree dests fit fit' le le' =
      let one : AgreeOn h (λ k. R k ⊎ (d ≡ k)) (slice_set s d w) (slice_set s' d' w) =
      set_agrees R d d' w s s' agree dests.0 (omega (arith, All-head (λ a. a < n) d ds fit, le)) (omega (arith, All-head (λ a. a < n') d' ds' fit', le')) in
      put_agrees R ds ds' ws (slice_set s d w) (slice_set s' d' w) n n'
      (λ k r read. one k (inl r) read)
      dests.1 (All-tail (λ a. a < n) d ds fit) (All-tail (λ a. a < n') d' ds' fit')
      (omega (arith, le, length-set s d w)) (omega (arith, le', length-set s' d' w))

pub put_long : (ds ws s : List ℕ) → length (put_slots s ds ws) ≡ length s
put_long [] ws s = refl
put_long (d ∷ ds) [] s = refl
put_long (d ∷ ds) (w ∷ ws) s = put_long ds ws (slice_set s d w) ∙ length-set s d w

-- slots that are read
pub names_same : (h : Hints) (facts : List Fact) (pc : ℕ) (xs xs' s s' : List ℕ) (m : Memory) → Agree h pc s s' → Hold s m facts → AreNames h facts pc xs xs' → slots_at s' xs' ≡ slots_at s xs
names_same h facts pc [] [] s s' m agree hold names = refl
names_same h facts pc [] (a' ∷ xs') s s' m agree hold names = absurd names
names_same h facts pc (a ∷ xs) [] s s' m agree hold names = absurd names
names_same h facts pc (a ∷ xs) (a' ∷ xs') s s' m agree hold names =
    let one : slice_index s' a' ≡ slice_index s a = names.0.same s s' m agree hold in
    let more : slots_at s' xs' ≡ slots_at s xs = names_same h facts pc xs xs' s s' m agree hold names.1 in
    rw (one, more) refl

-- a test that fails
pub negated : (b : Bool) (P : Type 0) → (IsTrue b ↔ P) → IsTrue (not b) → ¬ P
negated true P iff t p = refuted t
  where
    refuted : IsTrue false → ⊥
    refuted t = cc
negated false P iff t p = refuted (iff.1 p)
  where
    refuted : IsTrue false → ⊥
    refuted t = cc

pub unread_behind : (h : Hints) (pc slot behind : ℕ) (b : Bool) → behind ≡ pc + 1 → (IsTrue b ↔ SlotIsRead h behind slot) → IsTrue (not b) → ¬ SlotIsRead h (pc + 1) slot
unread_behind h pc slot behind b is iff t read = negated b (SlotIsRead h behind slot) iff t (subst (λ n. SlotIsRead h n slot) (sym is) read)

-- what is not read may be written
pub set_unread : (h : Hints) (pc : ℕ) (i : Instr) (t d x : ℕ) (s s' : List ℕ) → Agree h pc s s' → LivesOn h pc i t → ((k : ℕ) → Sets i k → d ≡ k) → ¬ SlotIsRead h t d → Agree h t (slice_set s d x) s'
set_unread h pc i t d x s s' agree lives sets unread k read =
    elim (same_or k d) [
      | inl e ↦ absurd (unread (subst (λ n. SlotIsRead h t n) e read))
      | inr ne ↦
          let old : SlotIsRead h pc k = still (lives.by k read) ne in
          agree k old ∙ sym (get_or-set_other s d k x 0 ne)
    ]
  where
    still : SlotIsRead h pc k ⊎ Sets i k → k ≢ d → SlotIsRead h pc k
    still (inl r) ne = r
    still (inr e) ne = absurd (ne (sym (sets k e)))

-- what is named without facts is named with facts
pub name_weaker : (h : Hints) (facts : List Fact) (pc a a' : ℕ) → IsName h [] pc a a' → IsName h facts pc a a'
name_weaker h facts pc a a' name = record { same = λ s s' m agree hold. name.same s s' m agree (λ fact known. absurd (omega (arith, known.1))) }
