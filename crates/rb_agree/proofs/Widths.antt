-- The widths of root words, word by word.
use Rattle.std.proofs.Common.{◌≡◌, ℕ, zero, suc, ◌+◌, ◌<◌, ◌≤◌, List, [], ◌∷◌, length, get_or, Some, refl, sym, ap, ◌∙◌, arith}
use Rattle.std.specs.Prelude.{slice_get}
use borrow.Author.Count.{below_more}
use Rattle.std.proofs.lemmas.Option.{same_Some, slice_get-get_or}
use Rattle.rb_layout.specs.declared.layout.FlatWord.{FlatWord}
use Rattle.rb_layout.specs.A2.{widths_of}

pub width-at : (fs : List FlatWord) (k : ℕ) (f : FlatWord) → slice_get fs k ≡ Some f → slice_get (widths_of fs) k ≡ Some f.width
width-at [] k f e = absurd cc
width-at (g ∷ fs) zero f e = ap (λ x. Some x) (ap (λ (h : FlatWord). h.width) (same_Some g f e))
width-at (g ∷ fs) (suc k) f e = width-at fs k f e

pub width-found : (fs : List FlatWord) (i : ℕ) (d : FlatWord) → i < length fs → slice_get (widths_of fs) i ≡ Some (get_or fs i d).width
width-found fs i d lt = width-at fs i (get_or fs i d) (slice_get-get_or fs i d lt)

pub width-next : (fs : List FlatWord) (shape : List ℕ) (i : ℕ) (d : FlatWord) → i < length fs → i < length shape → (get_or fs i d).width ≡ get_or shape i 0
    → slice_get (widths_of fs) i ≡ slice_get shape i
width-next fs shape i d lt less e = width-found fs i d lt ∙ ap (λ x. Some x) e ∙ sym (slice_get-get_or shape i 0 less)

length-widths : (fs : List FlatWord) → length (widths_of fs) ≡ length fs
length-widths [] = refl
length-widths (f ∷ fs) = ap suc (length-widths fs)

same-items : (xs ys : List ℕ) → length xs ≡ length ys → ((k : ℕ) → k < length xs → slice_get xs k ≡ slice_get ys k) → xs ≡ ys
same-items [] [] e all = refl
same-items [] (y ∷ ys) e all = absurd (omega (arith, e))
same-items (x ∷ xs) [] e all = absurd (omega (arith, e))
same-items (x ∷ xs) (y ∷ ys) e all =
    let first : x ≡ y = same_Some x y (all 0 (omega arith)) in
    let rest : xs ≡ ys = same-items xs ys (omega (arith, e)) (λ k lt. all (suc k) (omega (arith, lt))) in cc

pub same-widths : (fs : List FlatWord) (shape : List ℕ) (i : ℕ) → length shape ≡ length fs → length fs ≤ i → ((k : ℕ) → k < i → slice_get (widths_of fs) k ≡ slice_get shape k) → widths_of fs ≡ shape
same-widths fs shape i count le all =
    let long = length-widths fs in same-items (widths_of fs) shape (long ∙ sym count) (λ k lt. all k (omega (arith, long, le, lt)))

pub up-to : (P : ℕ → Type 0) (i : ℕ) → P i → ((k : ℕ) → k < i → P k) → (k : ℕ) → k < i + 1 → P k
up-to P i here before = below_more P i before here
