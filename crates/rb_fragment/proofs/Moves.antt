-- Words that are moved between slots.
use Rattle.std.proofs.Common.{◌≡◌, ℕ, zero, suc, ◌+◌, ◌-◌, ◌<◌, ◌≤◌, ◌⊎◌, inl, inr, List, [], ◌∷◌, ◌++◌, length, Some, refl, sym, subst, ap, ◌∙◌, arith, append_assoc, length-append, get_or-set_same, get_or-set_other, drop, get_or}
use Rattle.std.proofs.lemmas.Option.{slice_get_within, same_Some}
use Rattle.std.specs.Prelude.{slice_get, slice_index, slice_set, Contains}
use Rattle.rb_target.specs.declared.instr.Instr.{Instr}
use Rattle.rb_target.specs.declared.instr.Instr.TheVariants.{Jump, Copy}
use Rattle.rb_target.specs.Meaning.{World, slots_at, taken, put_slots, Next, Callee}
use Rattle.rb_target.specs.Sheet.{Sheet}
use Rattle.std.proofs.lemmas.List.{length-set}
use Rattle.std.proofs.lemmas.List.Elements.{All-nil, All-cons}
use Rattle.rb_target.specs.Validity.{AreSlots}
use Rattle.rb_target.specs.Laws.{Law}
use Rattle.rb_fragment.proofs.Pieces.{later-refl}
use Rattle.rb_fragment.specs.Adding.{Adds, IsFitting, IsWrittenFrom}
use Rattle.rb_fragment.specs.Pieces.{IsLater}
use Rattle.rb_fragment.specs.Plan.{Plan}
use Rattle.rb_fragment.specs.Slots.{AllBelow, AllFrom, SlotsAreApart, IsDistinct, IsOneOf, copies, with_join, slots_from}
use Rattle.rb_target.proofs.Growing.{Grows-append, Keeps-refl, Keeps-set, Keeps-trans, below_or, get-append, get-seam}
use Rattle.rb_target.specs.Growth.{Keeps}
use Rattle.rb_target.specs.Meaning.{from}

-- Slots in a row

pub slots_from-length : (a k : ℕ) → length (slots_from a k) ≡ k
slots_from-length a zero = refl
slots_from-length a (suc k) = let h = slots_from-length (a + 1) k in omega (arith, h)

pub slots_from-below : (a k n : ℕ) → a + k ≤ n → AllBelow n (slots_from a k)
slots_from-below a zero n le = tt
slots_from-below a (suc k) n le = (omega (arith, le), slots_from-below (a + 1) k n (omega (arith, le)))

pub slots_from-more : (a k : ℕ) → slots_from a (suc k) ≡ slots_from a k ++ (a + k) ∷ []
slots_from-more a zero = let e : a ≡ a + 0 = omega arith in ap (λ x. x ∷ []) e
slots_from-more a (suc k) =
    let e : a + 1 + k ≡ a + suc k = omega arith in
    ap (λ l. a ∷ l) (slots_from-more (a + 1) k ∙ ap (λ x. slots_from (a + 1) k ++ x ∷ []) e)

pub slots_from-above : (a k x : ℕ) → IsOneOf x (slots_from a k) → a ≤ x
slots_from-above a zero x h = absurd h
slots_from-above a (suc k) x (inl e) = omega (arith, e)
slots_from-above a (suc k) x (inr h) = let le = slots_from-above (a + 1) k x h in omega (arith, le)

contains-more : (x y : ℕ) (xs : List ℕ) → Contains xs x → Contains (y ∷ xs) x
contains-more x y xs h = (suc h.0, omega (arith, h.1), h.2)

pub slots_from-contain : (a k s : ℕ) → a ≤ s → s < a + k → Contains (slots_from a k) s
slots_from-contain a zero s lo hi = absurd (omega (arith, lo, hi))
slots_from-contain a (suc k) s lo hi = elim (below_or a s) [
  | inl lt ↦ contains-more s a (slots_from (a + 1) k) (slots_from-contain (a + 1) k s (omega (arith, lt)) (omega (arith, hi)))
  | inr le ↦ (let e : a ≡ s = omega (arith, lo, le) in (0, omega arith, e))
]

pub below-all : (n : ℕ) (xs : List ℕ) → AllBelow n xs → AreSlots n xs
below-all n [] h = All-nil (λ a. a < n)
below-all n (x ∷ xs) h = All-cons (λ a. a < n) x xs h.0 (below-all n xs h.1)

-- words that are put into new slots
pub put_kept : (n a k : ℕ) (s ws : List ℕ) → n ≤ a → Keeps n s (put_slots s (slots_from a k) ws)
put_kept n a zero s ws le = Keeps-refl n s
put_kept n a (suc k) s [] le = Keeps-refl n s
put_kept n a (suc k) s (w ∷ ws) le =
    Keeps-trans n n s (slice_set s a w) (put_slots (slice_set s a w) (slots_from (a + 1) k) ws) (omega arith) (Keeps-set n s a w le) (put_kept n (a + 1) k (slice_set s a w) ws (omega (arith, le)))

pub put_gives : (a k : ℕ) (s ws : List ℕ) → a + k ≤ length s → length ws ≡ k → slots_at (put_slots s (slots_from a k) ws) (slots_from a k) ≡ ws
put_gives a zero s [] le e = refl
put_gives a zero s (w ∷ ws) le e = absurd (omega (arith, e))
put_gives a (suc k) s [] le e = absurd (omega (arith, e))
put_gives a (suc k) s (w ∷ ws) le e =
    let s1 = slice_set s a w in
    let s2 = put_slots s1 (slots_from (a + 1) k) ws in
    let kept = put_kept (a + 1) (a + 1) k s1 ws (omega arith) in
    let in1 : a < length s = omega (arith, le) in
    let here : slice_index s2 a ≡ w = kept.same a (omega arith) ∙ get_or-set_same s a w 0 in1 in
    let len = length-set s a w in
    ap (λ u. u ∷ slots_at s2 (slots_from (a + 1) k)) here ∙ ap (λ us. w ∷ us) (put_gives (a + 1) k s1 ws (omega (arith, le, len)) (omega (arith, e)))

pub slots_from-distinct : (a k : ℕ) → IsDistinct (slots_from a k)
slots_from-distinct a zero = tt
slots_from-distinct a (suc k) = ((λ h. let le = slots_from-above (a + 1) k a h in absurd (omega (arith, le))), slots_from-distinct (a + 1) k)

pub one-below : (n x : ℕ) (xs : List ℕ) → AllBelow n xs → IsOneOf x xs → x < n
one-below n x [] below h = absurd h
one-below n x (y ∷ xs) below (inl e) = omega (arith, e, below.0)
one-below n x (y ∷ xs) below (inr h) = one-below n x xs below.1 h

pub one-from : (n x : ℕ) (xs : List ℕ) → AllFrom n xs → IsOneOf x xs → n ≤ x
one-from n x [] from h = absurd h
one-from n x (y ∷ xs) from (inl e) = omega (arith, e, from.0)
one-from n x (y ∷ xs) from (inr h) = one-from n x xs from.1 h

pub slots_from-from : (n a k : ℕ) → n ≤ a → AllFrom n (slots_from a k)
slots_from-from n a zero le = tt
slots_from-from n a (suc k) le = (le, slots_from-from n (a + 1) k (omega (arith, le)))

pub slots_from-has : (a k s : ℕ) → a ≤ s → s < a + k → IsOneOf s (slots_from a k)
slots_from-has a zero s lo hi = absurd (omega (arith, lo, hi))
slots_from-has a (suc k) s lo hi = elim (below_or a s) [
  | inl lt ↦ inr (slots_from-has (a + 1) k s (omega (arith, lt)) (omega (arith, hi)))
  | inr le ↦ inl (omega (arith, lo, le))
]

-- what the slots hold once `copies` has copied the words of the slots fs to the slots ds
abbrev pub copied : List ℕ → List ℕ → List ℕ → List ℕ
copied s [] fs = s
copied s (d ∷ ds) [] = s
copied s (d ∷ ds) (f ∷ fs) = copied (slice_set s d (slice_index s f)) ds fs

pub copied-kept : (n : ℕ) (ds s fs : List ℕ) → AllFrom n ds → Keeps n s (copied s ds fs)
copied-kept n [] s fs from = Keeps-refl n s
copied-kept n (d ∷ ds) s [] from = Keeps-refl n s
copied-kept n (d ∷ ds) s (f ∷ fs) from =
    let s1 = slice_set s d (slice_index s f) in
    Keeps-trans n n s s1 (copied s1 ds fs) (omega arith) (Keeps-set n s d (slice_index s f) from.0) (copied-kept n ds s1 fs from.1)

copies_write : (ds fs : List ℕ) (x : ℕ) → length ds ≡ length fs → IsOneOf x ds → (k : ℕ) × (f : ℕ) × (slice_get (copies ds fs) k ≡ Some (Copy x f))
copies_write [] fs x same h = absurd h
copies_write (d ∷ ds) [] x same h = absurd (omega (arith, same))
copies_write (d ∷ ds) (f ∷ fs) x same (inl e) = (0, f, ap (λ y. Some (Copy y f)) (sym e))
copies_write (d ∷ ds) (f ∷ fs) x same (inr h) = let r = copies_write ds fs x (omega (arith, same)) h in (suc r.0, r.1, r.2)

-- Straight code

-- these instructions stand in the code `final`, one behind the other from number pc on
abbrev pub CodeStands : List Instr → ℕ → List Instr → Type 0
CodeStands final pc [] = Unit {0}
CodeStands final pc (i ∷ is) = (slice_get final pc ≡ Some i) × CodeStands final (pc + 1) is

pub stands_from : (final : List Instr) (is pre rest : List Instr) (pc : ℕ) → length pre ≡ pc → ((j : ℕ) → pc ≤ j → j < pc + length is → slice_get final j ≡ slice_get (pre ++ (is ++ rest)) j) → CodeStands final pc is
stands_from final [] pre rest pc e f = tt
stands_from final (i ∷ is) pre rest pc e f =
    let len : length (pre ++ i ∷ []) ≡ pc + 1 = omega (arith, e, length-append pre (i ∷ [])) in
    let here : slice_get (pre ++ (i ∷ (is ++ rest))) pc ≡ Some i = ap (λ n. slice_get (pre ++ (i ∷ (is ++ rest))) n) (sym e) ∙ get-seam pre i (is ++ rest) in (
      f pc (omega arith) (omega arith) ∙ here,
      stands_from final is (pre ++ i ∷ []) rest (pc + 1) len (λ j lo hi. f j (omega (arith, lo)) (omega (arith, hi)) ∙ sym (ap (λ l. slice_get l j) (append_assoc pre (i ∷ []) (is ++ rest)))),
    )

copies_fit : (plan : Plan) (n long : ℕ) (ds fs : List ℕ) (k : ℕ) (i : Instr) (pc : ℕ) → AllBelow n ds → AllBelow n fs → slice_get (copies ds fs) k ≡ Some i → IsFitting plan n long pc i
copies_fit plan n long [] fs k i pc bd bf e = absurd (cc e)
copies_fit plan n long (d ∷ ds) [] k i pc bd bf e = absurd (cc e)
copies_fit plan n long (d ∷ ds) (f ∷ fs) zero i pc bd bf e =
    let is : Copy d f ≡ i = same_Some (Copy d f) i e in subst (λ (j : Instr). IsFitting plan n long pc j) is (record { bounded = tt; slots_fit = (bd.0, bf.0); targets = tt; calls = tt })
copies_fit plan n long (d ∷ ds) (f ∷ fs) (suc k) i pc bd bf e = copies_fit plan n long ds fs k i pc bd.1 bf.1 e

pub get-behind : {A : Type 0} (xs ys : List A) (k : ℕ) → slice_get (xs ++ ys) (length xs + k) ≡ slice_get ys k
get-behind [] ys k = let e : 0 + k ≡ k = omega arith in ap (λ n. slice_get ys n) e
get-behind (x ∷ xs) ys k = let e : suc (length xs) + k ≡ suc (length xs + k) = omega arith in ap (λ n. slice_get (x ∷ (xs ++ ys)) n) e ∙ get-behind xs ys k

module _ (plan : Plan) (c0 : Sheet) (m : ℕ) (into ys : List ℕ) (room : c0.slots ≤ m) (bi : AllBelow m into) (by : AllBelow m ys)
    (same : length into ≡ length ys) (new : (s : ℕ) → c0.slots ≤ s → s < m → IsOneOf s into) where
  abbrev c : Sheet
  c = record c0 { slots = m }

  abbrev moved : List Instr
  moved = copies into ys

  abbrev d : Sheet
  d = with_join c into ys

  abbrev last : Instr
  last = Jump (length c.code + length moved + 1)

  pub joining_length : length d.code ≡ length c.code + length moved + 1
  joining_length = length-append c.code (moved ++ last ∷ []) ∙ ap (λ n. length c.code + n) (length-append moved (last ∷ [])) ∙ (let e : length c.code + (length moved + 1) ≡ length c.code + length moved + 1 = omega arith in e)

  tail_fine : (k : ℕ) (i : Instr) → slice_get (moved ++ last ∷ []) k ≡ Some i → (k < length moved) ⊎ (length moved ≤ k) → IsFitting plan c.slots (length d.code) (length c.code + k) i
  tail_fine k i at (inl lt) = copies_fit plan c.slots (length d.code) into ys k i (length c.code + k) bi by (sym (get-append moved (last ∷ []) k lt) ∙ at)
  tail_fine k i at (inr le) =
      let lt = slice_get_within (moved ++ last ∷ []) k i at in
      let same : k ≡ length moved = omega (arith, le, lt, length-append moved (last ∷ [])) in
      let is : last ≡ i = same_Some last i (sym (get-seam moved last []) ∙ ap (λ n. slice_get (moved ++ last ∷ []) n) (sym same) ∙ at) in
      subst (λ (j : Instr). IsFitting plan c.slots (length d.code) (length c.code + k) j) is (record { bounded = tt; slots_fit = tt; targets = (omega (arith, same), omega (arith, joining_length)); calls = tt })

  writes : (s : ℕ) → IsOneOf s into → IsWrittenFrom d.code (length c.code) s
  writes s h =
      let w = copies_write into ys s same h in
      let at : slice_get d.code (length c.code + w.0) ≡ Some (Copy s w.1) = get-behind c.code (moved ++ last ∷ []) w.0 ∙ get-append moved (last ∷ []) w.0 (slice_get_within moved w.0 (Copy s w.1) w.2) ∙ w.2 in
      (length c.code + w.0, Copy s w.1, omega arith, at, (0, omega arith, refl))

  pub joining_adds : Adds plan c0 d
  joining_adds = record {
    grows = Grows-append c.code (moved ++ last ∷ []);
    more = room;
    params = refl;
    written = λ s lo hi. writes s (new s lo hi);
    fine = λ pc i lo at.
        let k = pc - length c.code in
        let e : length c.code + k ≡ pc = omega (arith, lo) in
        let there : slice_get (moved ++ last ∷ []) k ≡ Some i = sym (get-behind c.code (moved ++ last ∷ []) k) ∙ ap (λ n. slice_get d.code n) e ∙ at in
        subst (λ n. IsFitting plan c.slots (length d.code) n i) e (tail_fine k i there (below_or k (length moved)));
  }

-- Copies

pub copies_run : (final : List Instr) (callee : Callee) (next : Next) → Law final callee next → (ds fs : List ℕ) (pc : ℕ) (s : List ℕ) (w : World) → CodeStands final pc (copies ds fs)
    → (w' : World) × (next pc s w ≡ next (pc + length (copies ds fs)) (copied s ds fs) w') × IsLater 0 w w'
copies_run final callee next law [] fs pc s w there = let e : pc ≡ pc + 0 = omega arith in (w, ap (λ p. next p s w) e, later-refl w)
copies_run final callee next law (d ∷ ds) [] pc s w there = let e : pc ≡ pc + 0 = omega arith in (w, ap (λ p. next p s w) e, later-refl w)
copies_run final callee next law (d ∷ ds) (f ∷ fs) pc s w there =
    let s1 = slice_set s d (slice_index s f) in
    let r = copies_run final callee next law ds fs (pc + 1) s1 (taken w) there.1 in
    let e : pc + 1 + length (copies ds fs) ≡ pc + suc (length (copies ds fs)) = omega arith in
    (r.0, law.step pc (Copy d f) s w there.0 ∙ r.1 ∙ ap (λ p. next p (copied s1 ds fs) r.0) e, record { memory = r.2.memory; left = r.2.left; switches = r.2.switches })

-- a slot that is not written
pub copied-other : (s ds fs : List ℕ) (x : ℕ) → (IsOneOf x ds → ⊥) → slice_index (copied s ds fs) x ≡ slice_index s x
copied-other s [] fs x out = refl
copied-other s (d ∷ ds) [] x out = refl
copied-other s (d ∷ ds) (f ∷ fs) x out =
    copied-other (slice_set s d (slice_index s f)) ds fs x (λ h. out (inr h)) ∙ get_or-set_other s d x (slice_index s f) 0 (λ e. out (inl e))

pub slots_at-set : (s fs : List ℕ) (d w : ℕ) → (IsOneOf d fs → ⊥) → slots_at (slice_set s d w) fs ≡ slots_at s fs
slots_at-set s [] d w out = refl
slots_at-set s (f ∷ fs) d w out =
    ap (λ u. u ∷ slots_at (slice_set s d w) fs) (get_or-set_other s d f w 0 (λ e. out (inl (sym e)))) ∙ ap (λ us. slice_index s f ∷ us) (slots_at-set s fs d w (λ h. out (inr h)))

-- the words arrive where no source is a destination
pub slots_at-copied : (s ds fs : List ℕ) → length ds ≡ length fs → AllBelow (length s) ds → IsDistinct ds → SlotsAreApart ds fs → slots_at (copied s ds fs) ds ≡ slots_at s fs
slots_at-copied s [] [] same within distinct apart = refl
slots_at-copied s [] (f ∷ fs) same within distinct apart = absurd (omega (arith, same))
slots_at-copied s (d ∷ ds) [] same within distinct apart = absurd (omega (arith, same))
slots_at-copied s (d ∷ ds) (f ∷ fs) same within distinct apart =
    let word = slice_index s f in
    let s1 = slice_set s d word in
    let here = copied-other s1 ds fs d distinct.0 ∙ get_or-set_same s d word 0 within.0 in
    let within1 = subst (λ n. AllBelow n ds) (sym (length-set s d word)) within.1 in
    let rest = slots_at-copied s1 ds fs (omega (arith, same)) within1 distinct.1 (λ x h k. apart x (inr h) (inr k)) ∙ slots_at-set s fs d word (λ h. apart d (inl refl) (inr h)) in
    ap (λ u. u ∷ slots_at (copied s1 ds fs) ds) here ∙ ap (λ us. word ∷ us) rest

-- Copies, one after another

copies_to : (ds : List ℕ) → copies ds [] ≡ []
copies_to [] = refl
copies_to (d ∷ ds) = refl

pub copies_none : (ds fs : List ℕ) (i : ℕ) → length fs ≤ i → copies (drop i ds) (drop i fs) ≡ []
copies_none ds [] zero le = copies_to ds
copies_none ds (f ∷ fs) zero le = absurd (omega (arith, le))
copies_none [] fs (suc i) le = refl
copies_none (d ∷ ds) [] (suc i) le = copies_to (drop i ds)
copies_none (d ∷ ds) (f ∷ fs) (suc i) le = copies_none ds fs i (omega (arith, le))

pub drop_item : {A : Type 0} (xs : List A) (i : ℕ) (d : A) → i < length xs → drop i xs ≡ get_or xs i d ∷ drop (i + 1) xs
drop_item [] i d lt = absurd (omega (arith, lt))
drop_item (x ∷ xs) zero d lt = refl
drop_item (x ∷ xs) (suc i) d lt = let e : suc (i + 1) ≡ suc i + 1 = omega arith in drop_item xs i d (omega (arith, lt)) ∙ ap (λ n. get_or xs i d ∷ drop n (x ∷ xs)) e
