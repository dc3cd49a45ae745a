-- The parts of written words, one by one and two by two. An item of a leaf, here number i, is a word with its parts;
-- part p is the bits p.l in number from bit p.o on, and what they hold. `decls` are the layouts of the program.
-- `opens` are the open positions of the leaf's provenance, wildcards and variables, each with its path of field
-- numbers. `why` is evidence: how something fails.
use Rattle.std.specs.Prelude.{◌≡◌, ℕ, ◌^◌, ◌<◌, ◌≤◌, ◌⊎◌, List, [], ◌∷◌, map, Some, slice_get}
use Rattle.rb_bits.specs.Words.{AreDisjoint}
use Rattle.rb_core.specs.declared.layout_decl.LayoutDecl.{LayoutDecl}
use Rattle.rb_layout.specs.declared.evidence.Why.{Why}
use Rattle.rb_layout.specs.declared.evidence.Why.TheVariants.{Outside, Overlap, ConstWide, Misfit}
use Rattle.rb_layout.specs.Positions.{Open}
use Rattle.rb_layout.specs.Items.{Number, WrittenPart, content_paths}
use Rattle.rb_layout.specs.A3.{FailsParts, Fits, IsIn, IsOfItem, IsContentPlaced, LiesIn}
use Rattle.rb_agree.specs.declared.items.Written.{Written}
use Rattle.rb_agree.specs.Written.{shown_part}
use Rattle.rb_agree.specs.Lists.{SomeOf}
use Rattle.rb_agree.specs.inner.Lists.{EachOf}

-- parts as they are written, as the rules speak of them, in order
abbrev pub shown_parts : List Written → List WrittenPart
shown_parts ws = map shown_part ws

module _ (decls : List LayoutDecl) (opens : List Open) where
  -- a part of item i does not fit what it holds, as `why` says: a number that is too great for its bits, or a field
  abbrev pub FailsFit : ℕ → WrittenPart → Why → Type 0
  FailsFit i p (ConstWide j c l) = (j ≡ i) × (p.l ≡ l) × (p.content ≡ Number c) × (c < 2 ^ l → ⊥)
  FailsFit i p (Misfit j o l path) =
      (j ≡ i) × (p.o ≡ o) × (p.l ≡ l) × (content_paths p.content ≡ path ∷ []) × (Fits decls opens l p.content → ⊥)
  FailsFit i p why = ⊥

  -- a part lies in its word of `width` bits where its path, if it has one, is open, and fits what it holds
  pub record IsPartFine (width : ℕ) (p : WrittenPart) : Type 0 where
    pub inside : IsContentPlaced opens p.content → LiesIn width p.o p.l
    pub fit : Fits decls opens p.l p.content

  -- a part of item i, a word of `width` bits, fails by itself as `why` says: it does not lie in the word, or does not
  -- fit what it holds
  abbrev pub FailsPlaced : ℕ → ℕ → WrittenPart → Why → Type 0
  FailsPlaced i width p (Outside j o l) = (j ≡ i) × (p.o ≡ o) × (p.l ≡ l) × (LiesIn width o l → ⊥)
  FailsPlaced i width p (ConstWide j c l) = FailsFit i p (ConstWide j c l)
  FailsPlaced i width p (Misfit j o l path) = FailsFit i p (Misfit j o l path)
  FailsPlaced i width p why = ⊥

  -- a part of item i, a word of `width` bits, has no path or an open one, and fails by itself as `why` says
  abbrev pub FailsPart : ℕ → ℕ → WrittenPart → Why → Type 0
  FailsPart i width p why = IsContentPlaced opens p.content × FailsPlaced i width p why

  -- each of these parts of a word of `width` bits is fine by itself
  abbrev pub AreFine : ℕ → List Written → Type 0
  AreFine width parts = EachOf (λ (w : Written). IsPartFine width (shown_part w)) parts

  -- one of these parts of item i, a word of `width` bits, fails by itself as `why` says
  abbrev pub FailsSome : ℕ → ℕ → List Written → Why → Type 0
  FailsSome i width parts why = SomeOf (λ (w : Written). FailsPart i width (shown_part w) why) parts

  -- item i, a word of `width` bits with these parts, fails as `why` says
  abbrev pub FailsWord : ℕ → ℕ → List WrittenPart → Why → Type 0
  FailsWord i width parts why = IsOfItem i why × FailsParts decls opens width parts why

-- part p has the l bits from o on, and part q the m bits from b on
abbrev pub IsFirst : Written → Written → ℕ → ℕ → ℕ → ℕ → Type 0
IsFirst p q o l b m = (p.o ≡ o) × (p.l ≡ l) × (q.o ≡ b) × (q.l ≡ m)

-- bit b is one of the l bits from o on, and one of the m bits from b on, of which there is thus at least one
abbrev pub HasBit : ℕ → ℕ → ℕ → ℕ → Type 0
HasBit o l b m = IsIn o l b × IsIn b m b

-- two parts of item i overlap, and `why` names their bits: first those of the part that begins lower, or of p where
-- they begin alike
abbrev pub FailsPair : ℕ → Written → Written → Why → Type 0
FailsPair i p q (Overlap j o l b m) =
    (j ≡ i) × ((IsFirst p q o l b m × (o ≤ b)) ⊎ (IsFirst q p o l b m × (o < b))) × HasBit o l b m
FailsPair i p q why = ⊥

module _ (opens : List Open) where
  -- the path of a part, if it has one, is that of an open position
  abbrev pub IsSet : Written → Type 0
  IsSet w = IsContentPlaced opens (shown_part w).content

  -- each of these parts has a bit, where its path, if it has one, is open
  abbrev pub HaveBits : List Written → Type 0
  HaveBits parts = EachOf (λ (w : Written). IsSet w → 1 ≤ w.l) parts

  -- part k has no bit in common with a part before it, where the paths of both, if they have any, are open
  abbrev pub IsApartBefore : List Written → ℕ → Type 0
  IsApartBefore parts k =
      (j : ℕ) (p q : Written) → j < k → slice_get parts j ≡ Some p → slice_get parts k ≡ Some q → IsSet p → IsSet q
      → AreDisjoint p.o p.l q.o q.l

  -- part k of item i overlaps an earlier one, and `why` names their bits; the paths of both, if they have any, are
  -- open
  abbrev pub FailsBefore : ℕ → List Written → ℕ → Why → Type 0
  FailsBefore i parts k why =
      (j : ℕ) × (p : Written) × (q : Written) × (j < k) × (slice_get parts j ≡ Some p) × (slice_get parts k ≡ Some q)
      × IsSet p × IsSet q × FailsPair i p q why

  -- no part of a word overlaps another, where the paths of both, if they have any, are open
  abbrev pub PartsAreApart : List Written → Type 0
  PartsAreApart parts = (k : ℕ) → IsApartBefore parts k

  -- some part of item i overlaps an earlier one, and `why` names their bits, as `FailsBefore` says of each part
  abbrev pub FailsApart : ℕ → List Written → Why → Type 0
  FailsApart i parts why = (k : ℕ) × FailsBefore i parts k why
