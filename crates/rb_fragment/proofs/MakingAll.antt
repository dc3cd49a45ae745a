-- Lists of reads, made one after the other.
use Rattle.std.proofs.Common.{◌≡◌, ℕ, zero, suc, ◌+◌, ◌<◌, ◌≤◌, ◌⊎◌, inl, inr, List, [], ◌∷◌, ◌++◌, length, map, take, true, Some, refl, sym, subst, ap, ◌∙◌, arith}
use Rattle.std.specs.Prelude.{slice_get, slice_index, nat_lt}
use Rattle.std.proofs.lemmas.Bool.Decides.{nat_tests}
use Rattle.std.proofs.lemmas.Option.{same_Some}
use Rattle.rb_bytes.specs.Memory.{Memory, IsGood}
use Rattle.rb_target.specs.Growth.{Keeps}
use Rattle.rb_target.specs.Meaning.{slots_at}
use Rattle.rb_target.specs.Sheet.{Sheet}
use Rattle.rb_fragment.specs.declared.reads.Read.{Read, Slot}
use Rattle.rb_fragment.specs.Pieces.{AtEnd}
use Rattle.rb_fragment.specs.Reads.{mean, fits, MakesRead}
use Rattle.rb_fragment.specs.Slots.{AllBelow, IsOneOf}
use Rattle.rb_fragment.specs.WordReads.{AreMeant, AllFit, IsSlotOf, MakesAll, AreNewOr}
use Rattle.rb_fragment.proofs.Adding.{Adds-refl, Adds-trans}
use Rattle.rb_fragment.proofs.Holds.{AllBelow-more, slots_at-kept}
use Rattle.rb_fragment.proofs.Making.{straight_some}
use Rattle.rb_fragment.proofs.Pieces.{piece_none, piece_weaken, straight_seq, straight_weaken, straight_frame}
use Rattle.rb_fragment.proofs.ReadForms.{mean-kept, mean-Slot, fits-Slot}

-- reads over kept slots go on meaning their words
pub meant-kept : (n : ℕ) (s s' : List ℕ) (m : Memory) → Keeps n s s' → (rs : List Read) (ws : List ℕ) → AllFit n rs → AreMeant rs s m ws → AreMeant rs s' m ws
meant-kept n s s' m k [] [] fit h = tt
meant-kept n s s' m k [] (w ∷ ws) fit h = absurd h
meant-kept n s s' m k (r ∷ rs) [] fit h = absurd h
meant-kept n s s' m k (r ∷ rs) (w ∷ ws) fit h = (mean-kept n s s' m k r fit.0 ∙ h.0, meant-kept n s s' m k rs ws fit.1 h.1)

-- as many words as reads
pub meant-length : (rs : List Read) (s : List ℕ) (m : Memory) (ws : List ℕ) → AreMeant rs s m ws → length ws ≡ length rs
meant-length [] s m [] h = refl
meant-length [] s m (w ∷ ws) h = absurd h
meant-length (r ∷ rs) s m [] h = absurd h
meant-length (r ∷ rs) s m (w ∷ ws) h = ap suc (meant-length rs s m ws h.1)

-- the word of one of the reads
pub meant-at : (rs : List Read) (s : List ℕ) (m : Memory) (ws : List ℕ) (k w : ℕ) → AreMeant rs s m ws → slice_get ws k ≡ Some w → (r : Read) × (slice_get rs k ≡ Some r) × (mean r s m ≡ Some w)
meant-at [] s m [] k w h e = absurd cc
meant-at [] s m (v ∷ ws) k w h e = absurd h
meant-at (r ∷ rs) s m [] k w h e = absurd h
meant-at (r ∷ rs) s m (v ∷ ws) zero w h e = (r, refl, h.0 ∙ e)
meant-at (r ∷ rs) s m (v ∷ ws) (suc k) w h e = meant-at rs s m ws k w h.1 e

pub fit-at : (n : ℕ) (rs : List Read) (k : ℕ) (r : Read) → AllFit n rs → slice_get rs k ≡ Some r → fits n r ≡ true
fit-at n [] k r h e = absurd cc
fit-at n (q ∷ rs) zero r h e = let same : q ≡ r = same_Some q r e in subst (λ (x : Read). fits n x ≡ true) same h.0
fit-at n (q ∷ rs) (suc k) r h e = fit-at n rs k r h.1 e

pub slot-of : (rs : List Read) (k x : ℕ) → slice_get rs k ≡ Some (Slot x) → IsSlotOf x rs
slot-of [] k x e = absurd cc
slot-of (r ∷ rs) zero x e = inl (same_Some r (Slot x) e)
slot-of (r ∷ rs) (suc k) x e = inr (slot-of rs k x e)

-- Lists, item by item

pub take_more : {A : Type 0} (xs : List A) (i : ℕ) (x : A) → slice_get xs i ≡ Some x → take (i + 1) xs ≡ take i xs ++ x ∷ []
take_more [] i x e = absurd cc
take_more (y ∷ xs) zero x e = let same : y ≡ x = same_Some y x e in ap (λ z. z ∷ []) same
take_more (y ∷ xs) (suc i) x e = let step : suc i + 1 ≡ suc (i + 1) = omega arith in ap (λ n. take n (y ∷ xs)) step ∙ ap (λ ys. y ∷ ys) (take_more xs i x e)

pub take_all : {A : Type 0} (xs : List A) (i : ℕ) → length xs ≤ i → take i xs ≡ xs
take_all [] zero le = refl
take_all [] (suc i) le = refl
take_all (x ∷ xs) zero le = absurd (omega (arith, le))
take_all (x ∷ xs) (suc i) le = ap (λ ys. x ∷ ys) (take_all xs i (omega (arith, le)))

below-append : (n : ℕ) (xs : List ℕ) (x : ℕ) → AllBelow n xs → x < n → AllBelow n (xs ++ x ∷ [])
below-append n [] x h lt = (lt, tt)
below-append n (y ∷ xs) x h lt = (h.0, below-append n xs x h.1 lt)

slots_at-last : (s xs : List ℕ) (x : ℕ) → slots_at s (xs ++ x ∷ []) ≡ slots_at s xs ++ slice_index s x ∷ []
slots_at-last s [] x = refl
slots_at-last s (y ∷ xs) x = ap (λ ws. slice_index s y ∷ ws) (slots_at-last s xs x)

-- the words of reads and of one more
pub record Parted (rs : List Read) (r : Read) (s : List ℕ) (m : Memory) (ws : List ℕ) : Type 0 where
  pub before : List ℕ
  pub last : ℕ
  pub are : ws ≡ before ++ last ∷ []
  pub meant : AreMeant rs s m before
  pub is_meant : mean r s m ≡ Some last

parted : (rs : List Read) (r : Read) (s : List ℕ) (m : Memory) (ws : List ℕ) → AreMeant (rs ++ r ∷ []) s m ws → Parted rs r s m ws
parted [] r s m [] h = absurd h
parted [] r s m (w ∷ []) h = record { before = []; last = w; are = refl; meant = tt; is_meant = h.0 }
parted [] r s m (w ∷ (v ∷ ws)) h = absurd h.1
parted (q ∷ rs) r s m [] h = absurd h
parted (q ∷ rs) r s m (w ∷ ws) h =
    let p = parted rs r s m ws h.1 in
    record { before = w ∷ p.before; last = p.last; are = ap (λ vs. w ∷ vs) p.are; meant = (h.0, p.meant); is_meant = p.is_meant }

all_parted : (n : ℕ) (rs : List Read) (r : Read) → AllFit n (rs ++ r ∷ []) → AllFit n rs × (fits n r ≡ true)
all_parted n [] r h = (tt, h.0)
all_parted n (q ∷ rs) r h = let g = all_parted n rs r h.1 in ((h.0, g.0), g.1)

-- Making

pub makes_none : (a : Sheet) → MakesAll [] a a []
makes_none a plan k le fit = record {
  adds = Adds-refl plan a;
  given = tt;
  runs = λ ws. piece_none plan a.slots a (λ s m. IsGood m × AreMeant [] s m ws) (λ s m. [] ≡ ws) (omega arith) (λ s m pre. nothing s m ws pre.1);
}
  where
    nothing : (s : List ℕ) (m : Memory) (ws : List ℕ) → AreMeant [] s m ws → [] ≡ ws
    nothing s m [] h = refl
    nothing s m (w ∷ ws) h = absurd h

pub makes_more : (rs : List Read) (r : Read) (a b c : Sheet) (slots : List ℕ) (slot : ℕ) → MakesAll rs a b slots → MakesRead r b c slot → a.slots ≤ b.slots → MakesAll (rs ++ r ∷ []) a c (slots ++ slot ∷ [])
makes_more rs r a b c slots slot first second more plan k le fit =
    let f = all_parted k rs r fit in
    let x = first plan k le f.0 in
    let y = second plan k (omega (arith, le, more)) f.1 in
    let adds = Adds-trans plan a b c x.adds y.adds in
    record {
      adds = adds;
      given = below-append c.slots slots slot (AllBelow-more b.slots c.slots slots y.adds.more x.given) y.given;
      runs = λ ws.
          let W : Type 0 = List ℕ × ℕ in
          let Frame : W → List ℕ → Memory → Type 0 = λ w s m. IsGood m × (mean r s m ≡ Some w.1) × (ws ≡ w.0 ++ w.1 ∷ []) in
          let Inner : W → List ℕ → Memory → Type 0 = λ w s m. IsGood m × AreMeant rs s m w.0 in
          let Mid : W → List ℕ → Memory → Type 0 = λ w s m. slots_at s slots ≡ w.0 in
          let Post : List ℕ → Memory → Type 0 = λ s m. slots_at s (slots ++ slot ∷ []) ≡ ws in
          straight_some plan a.slots a c W (λ w s m. Frame w s m × Inner w s m) (λ s m. IsGood m × AreMeant (rs ++ r ∷ []) s m ws) Post adds (omega arith)
          (λ s m pre. let p = parted rs r s m ws pre.1 in ((p.before, p.last), ((pre.0, p.is_meant, p.are), (pre.0, p.meant))))
          (λ w. straight_seq plan a.slots a b c (λ s m. Frame w s m × Inner w s m) (λ s m. Frame w s m × Mid w s m) Post
          (straight_frame plan a.slots a b (Frame w) (Inner w) (Mid w) (λ s s' m kept h. (h.0, mean-kept k s s' m (record { long = kept.long; same = λ i lt. kept.same i (omega (arith, lt, le)) }) r f.1 ∙ h.1, h.2)) (x.runs w.0))
          (piece_weaken plan b.slots a.slots b c _ 0 0 (λ s m. Frame w s m × Mid w s m) (λ s m. Frame w s m × Mid w s m) (AtEnd c Post) (AtEnd c Post) more (omega arith) (λ s m h. h) (λ pc s m h. h)
          (straight_weaken plan b.slots b c (λ s m. ((ws ≡ w.0 ++ w.1 ∷ []) × Mid w s m) × (IsGood m × (mean r s m ≡ Some w.1))) (λ s m. Frame w s m × Mid w s m)
          (λ s m. ((ws ≡ w.0 ++ w.1 ∷ []) × Mid w s m) × (slice_index s slot ≡ w.1)) Post
          (λ s m h. ((h.0.2, h.1), (h.0.0, h.0.1)))
          (λ s m h. slots_at-last s slots slot ∙ ap (λ vs. vs ++ slice_index s slot ∷ []) h.0.1 ∙ ap (λ v. w.0 ++ v ∷ []) h.1 ∙ sym h.0.0)
          (straight_frame plan b.slots b c (λ s m. (ws ≡ w.0 ++ w.1 ∷ []) × Mid w s m) (λ s m. IsGood m × (mean r s m ≡ Some w.1)) (λ s m. slice_index s slot ≡ w.1)
          (λ s s' m kept h. (h.0, slots_at-kept b.slots s s' slots x.given kept ∙ h.1)) (y.runs w.1)))));
    }

-- Where slots are from

new_append : (reads : List Read) (a : Sheet) (xs : List ℕ) (x : ℕ) → AreNewOr reads a xs → (a.slots ≤ x) ⊎ IsSlotOf x reads → AreNewOr reads a (xs ++ x ∷ [])
new_append reads a [] x h o = (o, tt)
new_append reads a (y ∷ xs) x h o = (h.0, new_append reads a xs x h.1 o)

pub new_more : (reads : List Read) (a b : Sheet) (xs : List ℕ) (x i : ℕ) (r : Read) → slice_get reads i ≡ Some r → a.slots ≤ b.slots → AreNewOr reads a xs → (b.slots ≤ x) ⊎ (r ≡ Slot x) → AreNewOr reads a (xs ++ x ∷ [])
new_more reads a b xs x i r at more h o =
    new_append reads a xs x h (elim o [ inl le ↦ inl (omega (arith, le, more)) | inr e ↦ inr (slot-of reads i x (at ∙ ap Some e)) ])

-- Reads of slots

pub slots_fit : (n : ℕ) (xs : List ℕ) → AllBelow n xs → AllFit n (map (λ x. Slot x) xs)
slots_fit n [] h = tt
slots_fit n (x ∷ xs) h = (let lt = h.0 in let yes : nat_lt x n ≡ true = grind (arith, nat_tests, lt) in fits-Slot n x ∙ yes, slots_fit n xs h.1)

pub slots_meant : (s : List ℕ) (m : Memory) (xs : List ℕ) → AreMeant (map (λ x. Slot x) xs) s m (slots_at s xs)
slots_meant s m [] = tt
slots_meant s m (x ∷ xs) = (mean-Slot x s m, slots_meant s m xs)

pub slots_of : (xs : List ℕ) (x : ℕ) → IsSlotOf x (map (λ y. Slot y) xs) → IsOneOf x xs
slots_of [] x h = absurd h
slots_of (y ∷ xs) x (inl e) = inl (let same : y ≡ x = cc in sym same)
slots_of (y ∷ xs) x (inr h) = inr (slots_of xs x h)
