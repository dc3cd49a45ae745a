-- Faults that are found on the way from a leaf's root words.
use Rattle.std.proofs.Common.{◌≡◌, ℕ, zero, suc, ◌<◌, inl, inr, List, [], ◌∷◌, length, get_or, take, Option, Some, None, refl, subst}
use Rattle.std.specs.Prelude.{slice_get, IfSome, MatchOption}
use Rattle.rb_layout.specs.declared.layout.Leaf.{Leaf}
use Rattle.rb_layout.specs.declared.layout.Block.{Block}
use Rattle.rb_layout.specs.declared.layout.FlatWord.{FlatWord}
use Rattle.rb_layout.specs.declared.layout.Part.{Part}
use Rattle.rb_layout.specs.declared.evidence.Why.{Why}
use Rattle.rb_layout.specs.declared.evidence.Why.TheVariants.{BlockWord}
use Rattle.rb_layout.specs.A4.{FailsBlocks, IsBlockLength, IsBlockWidth}
use Rattle.rb_agree.specs.inner.Blocks.{FailsInBlocks, FailsLength, FailsNear, FailsNearPart}
use Rattle.rb_agree.proofs.Lists.{at-item}
use Rattle.rb_agree.proofs.PointerParts.{block-fails, in-block-fails, length-fails, pointers-fail}

-- what is found among the first items is found among all
taken : {A : Type 0} (xs : List A) (n k : ℕ) (x : A) → slice_get (take n xs) k ≡ Some x → slice_get xs k ≡ Some x
taken [] zero k x e = e
taken [] (suc n) k x e = e
taken (y ∷ xs) zero k x e = absurd cc
taken (y ∷ xs) (suc n) zero x e = e
taken (y ∷ xs) (suc n) (suc k) x e = taken xs n k x e

pub lower-fails : (blocks : List Block) (n : ℕ) (why : Why) → FailsInBlocks (take n blocks) why → FailsInBlocks blocks why
lower-fails blocks n why h = (h.0, h.1, taken blocks n h.0 h.1 h.2, h.3)

-- a block behind a part
pub near-block : (blocks : List Block) (part : Part) (n : ℕ) (block : Block) (words : List FlatWord) (r : Option Why) → slice_get blocks n ≡ Some block → words ≡ block.words
    → MatchOption r (IsBlockLength (length words)) (FailsLength words) → IfSome r (FailsNearPart blocks part)
near-block blocks part n block words None at is h = tt
near-block blocks part n block words (Some why) at is h = inr (n, block, at, length-fails block why (subst (λ (ws : List FlatWord). FailsLength ws why) is h))

-- a part among others
pub near-among : (blocks : List Block) (parts : List Part) (k : ℕ) (part : Part) (why : Why) → slice_get parts k ≡ Some part → FailsNearPart blocks part why → FailsNear blocks parts why
near-among blocks parts k part why at (inl here) = inl (k, part, at, here)
near-among blocks parts k part why at (inr there) = inr there

-- a word in a list that is gone through
pub word-at : (items words : List FlatWord) (k : ℕ) (word : FlatWord) → k < length items → word ≡ get_or items k word → items ≡ words → slice_get words k ≡ Some word
word-at items words k word lt is same = subst (λ (ws : List FlatWord). slice_get ws k ≡ Some word) same (at-item items k word lt is)

-- a word of a block
module _ (blocks : List Block) (number : ℕ) (block : Block) (is_block : slice_get blocks number ≡ Some block) (k : ℕ) (word : FlatWord) (is_word : slice_get block.words k ≡ Some word) where
  pub near-inside : (why : Why) → FailsNear (take number blocks) word.parts why → FailsInBlocks blocks why
  near-inside why (inl here) = (number, block, is_block, in-block-fails block why (k, word, is_word, here))
  near-inside why (inr there) = lower-fails blocks number why there

  pub width-inside : (IsBlockWidth word.width → ⊥) → FailsInBlocks blocks (BlockWord word.width)
  width-inside bad = (number, block, is_block, (k, word, is_word, (refl, bad)))

-- a root word of a leaf
pub near-root : (leaf : Leaf) (k : ℕ) (word : FlatWord) (why : Why) → slice_get leaf.root k ≡ Some word → FailsNear leaf.blocks word.parts why → FailsBlocks leaf why
near-root leaf k word why at (inl here) = pointers-fail leaf None why (k, word, at, here)
near-root leaf k word why at (inr there) = block-fails leaf why there
