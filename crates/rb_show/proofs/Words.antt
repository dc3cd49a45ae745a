-- Words and blocks: where a block's words begin, and bits that are free.
use Rattle.std.proofs.Common.{◌≡◌, ℕ, zero, suc, ◌+◌, ◌-◌, ◌/◌, ◌<◌, ◌≤◌, List, [], ◌∷◌, ◌++◌, length, take, get_or, Bool, true, false, inl, inr, refl, sym, ap, ◌∙◌, arith}
use Rattle.std.specs.Prelude.{if◌then◌else◌}
use Rattle.std.proofs.lemmas.List.{take_more}
use Rattle.rb_layout.specs.declared.layout.Leaf.{Leaf}
use Rattle.rb_layout.specs.declared.layout.FlatWord.{FlatWord}
use Rattle.rb_layout.specs.A4.{IsBlockWidth, HasBlocks}
use Rattle.rb_layout.specs.Words.{bytes_taken}
use Rattle.rb_show.specs.Short.{HaveShortWords}
use Rattle.rb_show.specs.Pieces.{is_free, free_bits}

bytes-push : (fs : List FlatWord) (f : FlatWord) → bytes_taken (fs ++ f ∷ []) ≡ bytes_taken fs + f.width / 8
bytes-push [] f = omega arith
bytes-push (g ∷ fs) f = let e = bytes-push fs f in omega (arith, e)

pub bytes_next : (fs : List FlatWord) (k : ℕ) (f : FlatWord) → k < length fs → f ≡ get_or fs k f → bytes_taken (take (k + 1) fs) ≡ bytes_taken (take k fs) + f.width / 8
bytes_next fs k f lt is =
    ap bytes_taken (take_more fs k f lt) ∙ bytes-push (take k fs) (get_or fs k f) ∙ ap (λ (g : FlatWord). bytes_taken (take k fs) + g.width / 8) (sym is)

at_most_64 : (w : ℕ) → IsBlockWidth w → w ≤ 64
at_most_64 w (inl e) = omega (arith, e)
at_most_64 w (inr (inl e)) = omega (arith, e)
at_most_64 w (inr (inr (inl e))) = omega (arith, e)
at_most_64 w (inr (inr (inr e))) = omega (arith, e)

pub short_words : (leaf : Leaf) → HasBlocks leaf → HaveShortWords leaf.blocks
short_words leaf has b block is = record {
  few = (has.lengths b block is).1;
  short = λ k f e. at_most_64 f.width (has.widths b block k f is e);
}

-- Free bits ---------------------------------------------------------------------------------

pub free-more : (word : FlatWord) (i n : ℕ) → is_free word i ≡ true → free_bits word i (suc n) ≡ suc (free_bits word (suc i) n)
free-more word i n free = ap (λ (b : Bool). if b then suc (free_bits word (suc i) n) else 0) free

pub free-stops : (word : FlatWord) (i n : ℕ) → is_free word i ≡ false → free_bits word i n ≡ 0
free-stops word i zero held = refl
free-stops word i (suc n) held = ap (λ (b : Bool). if b then suc (free_bits word (suc i) n) else 0) held

-- so many bits from bit i on were free, of `all` bits
abbrev pub HaveBeenFree : FlatWord → ℕ → ℕ → ℕ → Type 0
HaveBeenFree word i all count = free_bits word i all ≡ count + free_bits word (i + count) (all - count)

pub none_yet : (word : FlatWord) (i all : ℕ) → HaveBeenFree word i all 0
none_yet word i all =
    let z : i ≡ i + 0 = omega arith in let n : all ≡ all - 0 = omega arith in
    let e = ap (λ j. free_bits word j all) z ∙ ap (λ m. free_bits word (i + 0) m) n in omega (arith, e)

pub one_more : (word : FlatWord) (i all count : ℕ) → count < all → is_free word (i + count) ≡ true → HaveBeenFree word i all count → HaveBeenFree word i all (count + 1)
one_more word i all count lt free e =
    let next : all - count ≡ suc (all - (count + 1)) = omega (arith, lt) in
    let place : suc (i + count) ≡ i + (count + 1) = omega arith in
    let step = free-more word (i + count) (all - (count + 1)) free in
    let s : count + free_bits word (i + count) (all - count) ≡ count + 1 + free_bits word (i + (count + 1)) (all - (count + 1)) =
    ap (λ n. count + free_bits word (i + count) n) next ∙ ap (λ n. count + n) (step ∙ ap (λ j. suc (free_bits word j (all - (count + 1)))) place) ∙ omega arith in
    e ∙ s

pub to_the_end : (word : FlatWord) (i all count : ℕ) → all ≤ count → HaveBeenFree word i all count → count ≡ free_bits word i all
to_the_end word i all count le e =
    let z : all - count ≡ 0 = omega (arith, le) in
    let stop : free_bits word (i + count) (all - count) ≡ 0 = ap (λ n. free_bits word (i + count) n) z in
    omega (arith, e, stop)

pub to_a_part : (word : FlatWord) (i all count : ℕ) → is_free word (i + count) ≡ false → HaveBeenFree word i all count → count ≡ free_bits word i all
to_a_part word i all count held e =
    let stop = free-stops word (i + count) (all - count) held in
    omega (arith, e, stop)
