-- The order of parts, block by block and part by part.
use Rattle.std.proofs.Common.{◌≡◌, ℕ, zero, suc, ◌+◌, ◌-◌, ◌/◌, ◌<◌, ◌≤◌, length, drop, List, [], ◌++◌, Option, Some, None, refl, sym, subst, ap, ◌∙◌, arith, append_assoc, append-nil}
use Rattle.std.specs.Prelude.{slice_get}
use Rattle.std.specs.Borrow.{Bor}
use Rattle.std.specs.List.{flat_map}
use Rattle.rb_layout.specs.declared.layout.Leaf.{Leaf}
use Rattle.rb_layout.specs.declared.layout.Block.{Block}
use Rattle.rb_layout.specs.declared.layout.FlatWord.{FlatWord}
use Rattle.rb_layout.specs.declared.layout.Part.{Part}
use Rattle.rb_layout.specs.Readable.{AreShort, IsReadable}
use Rattle.rb_layout.specs.Words.{words_of_block}
use Rattle.rb_image.specs.Orders.{LocatedPart, beginning_at, beginning_from, block_order, with_inner, word_order, words_order}
use Rattle.rb_image.specs.inner.Viewing.{parts_of}
use Rattle.rb_image.proofs.DropLemmas.{drop_item, drop_past}

-- no block, no parts
pub no_block : (leaf : Leaf) (depth b : ℕ) → slice_get leaf.blocks b ≡ None → block_order leaf depth b ≡ []
no_block leaf zero b none = refl
no_block leaf (suc depth) b none = ap (λ o. words_order (block_order leaf depth) (Some b) 0 0 (words_of_block o)) none

pub a_block : (leaf : Leaf) (depth b : ℕ) (block : Block) → 0 < depth → slice_get leaf.blocks b ≡ Some block
    → block_order leaf depth b ≡ words_order (block_order leaf (depth - 1)) (Some b) 0 0 block.words
a_block leaf zero b block some is = absurd (omega (arith, some))
a_block leaf (suc depth) b block some is =
    let same : suc depth - 1 ≡ depth = omega arith in
    ap (λ o. words_order (block_order leaf depth) (Some b) 0 0 (words_of_block o)) is ∙ ap (λ d. words_order (block_order leaf d) (Some b) 0 0 block.words) (sym same)

pub block_short : (leaf : Leaf) (b : ℕ) (block : Block) → IsReadable leaf → slice_get leaf.blocks b ≡ Some block → AreShort block.words
block_short leaf b block readable is = subst (λ o. AreShort (words_of_block o)) is (readable.words (Some b))

-- the parts that begin at one bit more
pub from_more : (parts : List Part) (o n : ℕ) → o < n → beginning_from parts o (n - o) ≡ beginning_at parts o ++ beginning_from parts (o + 1) (n - (o + 1))
from_more parts o n lt = let e : n - o ≡ suc (n - (o + 1)) = omega (arith, lt) in ap (beginning_from parts o) e

pub root_short : (leaf : Leaf) → IsReadable leaf → AreShort leaf.root
root_short leaf readable = readable.words None

module _ (inner : ℕ → List LocatedPart) (block : Option ℕ) where
  -- one part of a word more, and none
  module _ (j byte width : ℕ) (items : List (Bor Part)) (i : ℕ) (before : List LocatedPart) where
    abbrev pub Rest : ℕ → List LocatedPart
    Rest k = flat_map (with_inner inner block j byte width) (parts_of (drop k items))

    pub part_more : (p : Bor Part) → slice_get items i ≡ Some p → before ++ Rest i ≡ (before ++ with_inner inner block j byte width p.now) ++ Rest (i + 1)
    part_more p is =
        ap (λ ps. before ++ flat_map (with_inner inner block j byte width) (parts_of ps)) (drop_item items i p is)
        ∙ sym (append_assoc before (with_inner inner block j byte width p.now) (Rest (i + 1)))

    pub part_end : length items ≤ i → before ++ Rest i ≡ before
    part_end le = ap (λ ps. before ++ flat_map (with_inner inner block j byte width) (parts_of ps)) (drop_past items i le) ∙ append-nil before

  -- one word more
  pub word_more : (words : List FlatWord) (j byte : ℕ) (f : FlatWord) (before : List LocatedPart) → slice_get words j ≡ Some f → before ++ words_order inner block j byte (drop j words)
      ≡ (before ++ word_order inner block j byte f) ++ words_order inner block (j + 1) (byte + f.width / 8) (drop (j + 1) words)
  word_more words j byte f before is =
      ap (λ fs. before ++ words_order inner block j byte fs) (drop_item words j f is)
      ∙ sym (append_assoc before (word_order inner block j byte f) (words_order inner block (j + 1) (byte + f.width / 8) (drop (j + 1) words)))
