-- A leaf with the shape's root words and with blocks as they must be can be read.
use Rattle.std.proofs.Common.{◌≡◌, ℕ, zero, suc, ◌≤◌, inl, inr, length, List, [], ◌∷◌, Option, Some, None, refl, sym, ap, ◌∙◌, arith}
use Rattle.std.specs.Prelude.{slice_get}
use Rattle.std.proofs.lemmas.Option.{same_Some}
use Rattle.rb_layout.specs.declared.layout.Leaf.{Leaf}
use Rattle.rb_layout.specs.declared.layout.Block.{Block}
use Rattle.rb_layout.specs.declared.layout.FlatWord.{FlatWord}
use Rattle.rb_layout.specs.Words.{words_of_block, words_in}
use Rattle.rb_layout.specs.A2.{widths_of, HasRoot}
use Rattle.rb_layout.specs.A4.{IsBlockWidth, HasBlocks}
use Rattle.rb_layout.specs.Readable.{AreShort, IsReadable}

at_most_64 : (w : ℕ) → IsBlockWidth w → w ≤ 64
at_most_64 w (inl e) = omega (arith, e)
at_most_64 w (inr (inl e)) = omega (arith, e)
at_most_64 w (inr (inr (inl e))) = omega (arith, e)
at_most_64 w (inr (inr (inr e))) = omega (arith, e)

block_short : (leaf : Leaf) → HasBlocks leaf → (b : ℕ) (block : Option Block) → slice_get leaf.blocks b ≡ block → AreShort (words_of_block block)
block_short leaf has b None is = record { few = omega arith; short = λ k f e. absurd cc }
block_short leaf has b (Some block) is = record {
  few = (let most = (has.lengths b block is).1 in omega arith);
  short = λ k f e. at_most_64 f.width (has.widths b block k f is e);
}

same_length : (fs : List FlatWord) → length (widths_of fs) ≡ length fs
same_length [] = refl
same_length (f ∷ fs) = ap suc (same_length fs)

width_at : (fs : List FlatWord) (k : ℕ) (f : FlatWord) → slice_get fs k ≡ Some f → slice_get (widths_of fs) k ≡ Some f.width
width_at [] k f e = absurd cc
width_at (g ∷ fs) zero f e = ap (λ x. Some x) (ap (λ (h : FlatWord). h.width) (same_Some g f e))
width_at (g ∷ fs) (suc k) f e = width_at fs k f e

words_short : (shape : List ℕ) (leaf : Leaf) → length shape ≤ 64 → ((i w : ℕ) → slice_get shape i ≡ Some w → w ≤ 64) → HasRoot shape leaf → HasBlocks leaf
    → (b : Option ℕ) → AreShort (words_in leaf b)
words_short shape leaf few short root blocks None = record {
  few = (let count = sym (same_length leaf.root) ∙ ap length root in omega arith);
  short = λ k f e. short k f.width (ap (λ ws. slice_get ws k) (sym root) ∙ width_at leaf.root k f e);
}
words_short shape leaf few short root blocks (Some b) = block_short leaf blocks b (slice_get leaf.blocks b) refl

pub readable : (shape : List ℕ) (leaf : Leaf) → length shape ≤ 64 → ((i w : ℕ) → slice_get shape i ≡ Some w → w ≤ 64) → HasRoot shape leaf → HasBlocks leaf → IsReadable leaf
readable shape leaf few short root blocks = record { words = words_short shape leaf few short root blocks }
