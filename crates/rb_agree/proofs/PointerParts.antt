-- Pointers and blocks of a leaf, from those of its words.
use Rattle.std.proofs.Common.{◌≡◌, ℕ, ◌+◌, ◌^◌, ◌<◌, ◌≤◌, inl, inr, length, Option, Some, None, refl, sym, ap, subst, ◌∙◌, ◌*◌, arith}
use Rattle.std.specs.Prelude.{slice_get, MatchOption}
use Rattle.std.proofs.Math.Pow.{pow-lt}
use Rattle.std.proofs.lemmas.Nat.{pow-add}
use Rattle.std.proofs.lemmas.Bool.{cases_lt}
use Rattle.rb_layout.specs.declared.layout.Leaf.{Leaf}
use Rattle.rb_layout.specs.declared.layout.Block.{Block}
use Rattle.rb_layout.specs.declared.layout.Kind.{Kind}
use Rattle.rb_layout.specs.declared.layout.Kind.TheVariants.{Const, Bits, Word, Pointer}
use Rattle.rb_layout.specs.declared.layout.WordRef.{WordRef}
use Rattle.rb_layout.specs.declared.evidence.Why.{Why}
use Rattle.rb_layout.specs.declared.evidence.Why.TheVariants.{BlockWord, BlockWords, Align, ShortPointer}
use Rattle.rb_layout.specs.Words.{words_of_block, words_in}
use Rattle.rb_layout.specs.Pointers.{PointsTo}
use Rattle.rb_layout.specs.A4.{FailsBlocks, HasBlocks, IsAlignment, IsBlockLength, IsWide}
use Rattle.rb_agree.specs.Lists.{SomeOf}
use Rattle.rb_agree.specs.inner.Lists.{EachOf}
use Rattle.rb_agree.specs.inner.Blocks.{ArePointersFine, FailsBlock, FailsKind, FailsLength, FailsPointer, FailsPointers, FailsWidth, HasWidth, IsBlock, IsKind}

-- Powers of two -----------------------------------------------------------------------------------

not-less : (j k : ℕ) → 2 ^ j ≡ 2 ^ k → j < k → ⊥
not-less j k e less = let more = pow-lt less in omega (arith, more, e)

same-power : (j k : ℕ) → 2 ^ j ≡ 2 ^ k → j ≡ k
same-power j k e =
    elim (cases_lt j k) [
      | inl less ↦ absurd (not-less j k e less)
      | inr most ↦ elim (cases_lt k j) [ inl less ↦ absurd (not-less k j (sym e) less) | inr other ↦ omega arith ]
    ]

pub is-wide : (l align k : ℕ) → align ≡ 2 ^ k → 24 ≤ l + k → IsWide align l
is-wide l align k is enough = λ j e. let same = same-power j k (subst (λ a. a ≡ 2 ^ k) e is) in omega (arith, same, enough)

pub is-alignment : (align k : ℕ) → k ≤ 6 → align ≡ 2 ^ k → IsAlignment align
is-alignment align k le is = (k, le, is)

-- Evidence ----------------------------------------------------------------------------------------

kind-align : (l : ℕ) (kind : Kind) (a : ℕ) → FailsKind l kind (Align a) → (b : ℕ) × (kind ≡ Pointer a b) × (IsAlignment a → ⊥)
kind-align l (Const c) a h = absurd h
kind-align l (Bits path i) a h = absurd h
kind-align l (Word path j) a h = absurd h
kind-align l (Pointer align b) a h = (b, ap (λ x. Pointer x b) (sym h.0), λ s. h.1 (subst IsAlignment h.0 s))

no-pointer : (l : ℕ) (kind : Kind) (why : Why) → ((align : ℕ) → FailsPointer l align why → ⊥) → FailsKind l kind why → ⊥
no-pointer l (Const c) why none h = h
no-pointer l (Bits path i) why none h = h
no-pointer l (Word path j) why none h = h
no-pointer l (Pointer align b) why none h = none align h

abbrev IsShort : ℕ → Kind → ℕ → Type 0
IsShort l kind n = (align : ℕ) × (b : ℕ) × (kind ≡ Pointer align b) × ((k : ℕ) × (align ≡ 2 ^ k) × (n ≡ l + k)) × (n < 24)

kind-short : (l : ℕ) (kind : Kind) (n : ℕ) → FailsKind l kind (ShortPointer n) → IsShort l kind n
kind-short l (Const c) n h = absurd h
kind-short l (Bits path i) n h = absurd h
kind-short l (Word path j) n h = absurd h
kind-short l (Pointer align b) n h = (align, b, λ i. Pointer align b, h.0, h.1)

module _ (leaf : Leaf) where
  abbrev ref : Option ℕ → ℕ → WordRef
  ref block j = record { block = block; word = j }

  align-fails : (block : Option ℕ) (a : ℕ) → FailsPointers (words_in leaf block) (Align a) → FailsBlocks leaf (Align a)
  align-fails block a h =
      let kind = kind-align h.3.1.l h.3.1.kind a h.3.3 in (
        ref block h.0,
        h.3.1.l,
        kind.0,
        record { word = h.1; number = h.3.0; part = h.3.1; is_word = h.2; is_part = h.3.2; is_length = λ i. h.3.1.l; is_pointer = kind.1 },
        kind.2,
      )

  short-fails : (block : Option ℕ) (n : ℕ) → FailsPointers (words_in leaf block) (ShortPointer n) → FailsBlocks leaf (ShortPointer n)
  short-fails block n h =
      let kind = kind-short h.3.1.l h.3.1.kind n h.3.3 in (
        ref block h.0,
        h.3.1.l,
        kind.0,
        kind.1,
        record { word = h.1; number = h.3.0; part = h.3.1; is_word = h.2; is_part = h.3.2; is_length = λ i. h.3.1.l; is_pointer = kind.2 },
        kind.3,
        kind.4,
      )

  pub pointers-fail : (block : Option ℕ) (why : Why) → FailsPointers (words_in leaf block) why → FailsBlocks leaf why
  pointers-fail block (Align a) h = align-fails block a h
  pointers-fail block (ShortPointer n) h = short-fails block n h
  pointers-fail block why h = absurd (no-pointer h.3.1.l h.3.1.kind why (λ align x. x) h.3.3)

  pub block-fails : (why : Why) → SomeOf (λ (b : Block). FailsBlock b why) leaf.blocks → FailsBlocks leaf why
  block-fails (BlockWords n) h = (h.0, h.1, h.2, h.3.0, h.3.1)
  block-fails (BlockWord w) h = (h.0, h.1, h.3.0, h.3.1, h.2, h.3.2, h.3.3.0, h.3.3.1)
  block-fails (Align a) h = align-fails (Some h.0) a (subst (λ x. FailsPointers (words_of_block x) (Align a)) (sym h.2) h.3)
  block-fails (ShortPointer n) h = short-fails (Some h.0) n (subst (λ x. FailsPointers (words_of_block x) (ShortPointer n)) (sym h.2) h.3)
  block-fails why h = absurd h.3

  -- ---- what holds
  block-fine : EachOf IsBlock leaf.blocks → (b : ℕ) (x : Option Block) → slice_get leaf.blocks b ≡ x → ArePointersFine (words_of_block x)
  block-fine all b None is = λ k x e. absurd cc
  block-fine all b (Some block) is = (all b block is).pointers

  fine-in : EachOf IsBlock leaf.blocks → ArePointersFine leaf.root → (b : Option ℕ) → ArePointersFine (words_in leaf b)
  fine-in all root None = root
  fine-in all root (Some b) = block-fine all b (slice_get leaf.blocks b) (λ i. slice_get leaf.blocks b)

  kind-at : EachOf IsBlock leaf.blocks → ArePointersFine leaf.root → (r : WordRef) (l align b : ℕ) → PointsTo leaf r l align b → IsAlignment align × IsWide align l
  kind-at all root r l align b p =
      let fine = fine-in all root r.block r.word p.word p.is_word p.number p.part p.is_part in
      let here = subst (λ (k : Kind). IsKind p.part.l k) p.is_pointer fine in
      (here.0, subst (λ n. IsWide align n) p.is_length here.1)

  pub has-blocks : length leaf.blocks ≤ 64 → EachOf IsBlock leaf.blocks → ArePointersFine leaf.root → HasBlocks leaf
  has-blocks few all root = record {
    widths = λ b block j f is at. (all b block is).widths j f at;
    lengths = λ b block is. (all b block is).length;
    count = few;
    alignments = λ r l align b p. (kind-at all root r l align b p).0;
    wide = λ r l align b p. (kind-at all root r l align b p).1;
  }

-- A block by its words ------------------------------------------------------------------------------

pub length-fails : (block : Block) (why : Why) → FailsLength block.words why → FailsBlock block why
length-fails block (BlockWords n) h = h
length-fails block why h = absurd h

pub width-fails : (block : Block) (why : Why) → SomeOf (FailsWidth why) block.words → FailsBlock block why
width-fails block (BlockWord w) h = h
width-fails block why h = absurd h.3

pub in-block-fails : (block : Block) (why : Why) → FailsPointers block.words why → FailsBlock block why
in-block-fails block (Align a) h = h
in-block-fails block (ShortPointer n) h = h
in-block-fails block why h = absurd (no-pointer h.3.1.l h.3.1.kind why (λ align x. x) h.3.3)

pub in-block : (block : Block) (r : Option Why) → IsBlockLength (length block.words) → EachOf HasWidth block.words → MatchOption r (ArePointersFine block.words) (FailsPointers block.words)
    → MatchOption r (IsBlock block) (FailsBlock block)
in-block block None long widths fine = record { length = long; widths = widths; pointers = fine }
in-block block (Some why) long widths h = in-block-fails block why h

pub in-leaf : (leaf : Leaf) (r : Option Why) → length leaf.blocks ≤ 64 → EachOf IsBlock leaf.blocks → MatchOption r (ArePointersFine leaf.root) (FailsPointers leaf.root)
    → MatchOption r (HasBlocks leaf) (FailsBlocks leaf)
in-leaf leaf None few all fine = has-blocks leaf few all fine
in-leaf leaf (Some why) few all h = pointers-fail leaf None why h

pub power-more : (k power : ℕ) → power ≡ 2 ^ k → power * 2 ≡ 2 ^ (k + 1)
power-more k power e =
    let next : 2 ^ (k + 1) ≡ 2 ^ k * 2 ^ 1 = pow-add 2 k 1 in
    let one : 2 ^ 1 ≡ 2 = refl in
    ap (λ n. n * 2) e ∙ sym (next ∙ ap (λ n. 2 ^ k * n) one)

pub small-more : (k power : ℕ) → power ≡ 2 ^ k → k < 7 → power * 2 ≤ 128
small-more k power e lt =
    elim (cases_lt k 6) [
      | inl less ↦ (let more = pow-lt less in omega (arith, more, e))
      | inr most ↦ (let six : k ≡ 6 = omega arith in let is : power ≡ 64 = e ∙ ap (λ n. 2 ^ n) six in omega (arith, is))
    ]

pub no-power : (align i : ℕ) → 7 ≤ i → ((j : ℕ) → j < i → align ≡ 2 ^ j → ⊥) → IsAlignment align → ⊥
no-power align i le none is = none is.0 (omega (arith, is.1)) is.2
