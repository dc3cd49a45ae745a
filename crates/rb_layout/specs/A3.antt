-- A3: the parts of each written word lie in it, are disjoint, and fit what they hold. A part whose path is not open
-- places nothing, and nothing is demanded of it. The range [o:l] is the l bits from bit o on. A path names a field,
-- and is open where the leaf's provenance has an open position there; `opens` are these positions, `decls` the
-- declared layouts.
use Rattle.std.specs.Prelude.{◌≡◌, ℕ, ◌+◌, ◌^◌, ◌<◌, ◌≤◌, ◌⊎◌, List, [], ◌∷◌, Option, Some, None, slice_get}
use Rattle.rb_core.specs.declared.types.Ty.{Ty}
use Rattle.rb_core.specs.declared.types.Ty.TheVariants.{Int, Named}
use Rattle.rb_core.specs.declared.program.Program.{Program}
use Rattle.rb_core.specs.declared.layout_decl.LayoutDecl.{LayoutDecl}
use Rattle.rb_bits.specs.Words.{AreDisjoint}
use Rattle.rb_layout.specs.declared.layout.Layout.{Layout}
use Rattle.rb_layout.specs.declared.evidence.Why.{Why}
use Rattle.rb_layout.specs.declared.evidence.Why.TheVariants.{Outside, Overlap, ConstWide, Misfit}
use Rattle.rb_layout.specs.Positions.{Open, open_positions}
use Rattle.rb_layout.specs.Flattening.{shape_of, type_at, IsOpenIn}
use Rattle.rb_layout.specs.Items.{Content, Number, Whole, Slice, WordOf, Address, WrittenPart, Item, AWord, AField, items_of, content_paths}
use Rattle.rb_layout.specs.Each.{EachLeaf}

-- what is written is placed: its path, if it has one, is open
abbrev pub IsContentPlaced : List Open → Content → Type 0
IsContentPlaced opens (Number c) = Unit {0}
IsContentPlaced opens (Whole path) = IsOpenIn opens path
IsContentPlaced opens (Slice path a k) = IsOpenIn opens path
IsContentPlaced opens (WordOf path j) = IsOpenIn opens path
IsContentPlaced opens (Address align) = Unit {0}

-- the range [o:l] has a bit and lies in a word of this width
abbrev pub LiesIn : ℕ → ℕ → ℕ → Type 0
LiesIn width o l = (1 ≤ l) × (o + l ≤ width)

-- A part of l bits fits the whole field, given the type at its path: an integer has l bits, and a data type has one
-- word, of l bits; one without a layout has no word, and fits no part. Where the path is not open, nothing is
-- demanded.
abbrev pub FitsWhole : List LayoutDecl → Option Ty → ℕ → Type 0
FitsWhole decls None l = Unit {0}
FitsWhole decls (Some (Int bits)) l = l ≡ bits
FitsWhole decls (Some (Named s)) l = shape_of decls s ≡ l ∷ []

-- A part of l bits fits a slice of k bits from bit a on, given the type at its path: k is l, and the bits lie in an
-- integer; a data type has no slices. Where the path is not open, nothing is demanded.
abbrev pub FitsSlice : Option Ty → ℕ → ℕ → ℕ → Type 0
FitsSlice None l a k = Unit {0}
FitsSlice (Some (Int bits)) l a k = (k ≡ l) × (a + k ≤ bits)
FitsSlice (Some (Named s)) l a k = ⊥

-- A part of l bits fits word j of the field, given the type at its path: a data type has a word j, of l bits; an
-- integer has no words. Where the path is not open, nothing is demanded.
abbrev pub FitsWord : List LayoutDecl → Option Ty → ℕ → ℕ → Type 0
FitsWord decls None l j = Unit {0}
FitsWord decls (Some (Int bits)) l j = ⊥
FitsWord decls (Some (Named s)) l j = slice_get (shape_of decls s) j ≡ Some l

-- A part of l bits fits what it is written to hold: a number is below 2 ^ l; a whole field, a slice or a word of one
-- fits by the type at its path, as `FitsWhole`, `FitsSlice` and `FitsWord` say. Of a pointer, and of a path that is
-- not open, nothing is demanded here.
abbrev pub Fits : List LayoutDecl → List Open → ℕ → Content → Type 0
Fits decls opens l (Number c) = c < 2 ^ l
Fits decls opens l (Whole path) = FitsWhole decls (type_at opens path) l
Fits decls opens l (Slice path a k) = FitsSlice (type_at opens path) l a k
Fits decls opens l (WordOf path j) = FitsWord decls (type_at opens path) l j
Fits decls opens l (Address align) = Unit {0}

-- The parts of a word of this width pass the rule. Those that are placed lie in the word, and no two of them have a
-- bit in common. Each fits what it holds.
pub record PartsFit (decls : List LayoutDecl) (opens : List Open) (width : ℕ) (parts : List WrittenPart) : Type 0 where
  pub inside : (k : ℕ) (p : WrittenPart) → slice_get parts k ≡ Some p → IsContentPlaced opens p.content
      → LiesIn width p.o p.l
  pub disjoint : (j k : ℕ) (p q : WrittenPart) → j < k → slice_get parts j ≡ Some p → slice_get parts k ≡ Some q
      → IsContentPlaced opens p.content → IsContentPlaced opens q.content → AreDisjoint p.o p.l q.o q.l
  pub fit : (k : ℕ) (p : WrittenPart) → slice_get parts k ≡ Some p → Fits decls opens p.l p.content

-- an item passes the rule: where it is a word its own parts do; of an inlined field nothing is demanded
abbrev pub ItemFits : List LayoutDecl → List Open → Item → Type 0
ItemFits decls opens (AWord width parts) = PartsFit decls opens width parts
ItemFits decls opens (AField path) = Unit {0}

-- the rule: each item of each leaf fits, by the open positions of the leaf's provenance
abbrev pub A3 : Program → List Layout → Type 0
A3 p layouts = EachLeaf layouts (λ t layout n leaf.
    (i : ℕ) (item : Item) → slice_get (items_of p.layouts t n) i ≡ Some item
    → ItemFits p.layouts (open_positions p.types leaf.prov) item)

-- a part of a word that is placed and has the range [o:l], at place `number` among the parts
pub record PartAt (opens : List Open) (parts : List WrittenPart) (o l : ℕ) : Type 0 where
  pub number : ℕ
  pub part : WrittenPart
  pub is_part : slice_get parts number ≡ Some part
  pub placed : IsContentPlaced opens part.content
  pub from : part.o ≡ o
  pub length : part.l ≡ l

-- bit i is in the range [o:l]
abbrev pub IsIn : ℕ → ℕ → ℕ → Type 0
IsIn o l i = (o ≤ i) × (i < o + l)

-- Two placed parts of a word, with the ranges [o:l] and [b:m], have `bit` in common. The one that begins lower comes
-- first, and of two that begin alike the one that is written first.
pub record Overlaps (opens : List Open) (parts : List WrittenPart) (o l b m : ℕ) : Type 0 where
  pub first : PartAt opens parts o l
  pub second : PartAt opens parts b m
  pub order : (o < b) ⊎ ((o ≡ b) × (first.number < second.number))
  pub bit : ℕ
  pub in_first : IsIn o l bit
  pub in_second : IsIn b m bit

-- How the parts of a word of this width fail the rule, by the evidence; which item it names is not looked at. A
-- placed part does not lie in the word; two overlap; one of l bits holds a number c that is 2 ^ l or more; or one
-- does not fit the field at the path that it names. No other evidence fails the rule.
abbrev pub FailsParts : List LayoutDecl → List Open → ℕ → List WrittenPart → Why → Type 0
FailsParts decls opens width parts (Outside i o l) = PartAt opens parts o l × (LiesIn width o l → ⊥)
FailsParts decls opens width parts (Overlap i o l b m) = Overlaps opens parts o l b m
FailsParts decls opens width parts (ConstWide i c l) =
    (o : ℕ) × (p : PartAt opens parts o l) × (p.part.content ≡ Number c) × (c < 2 ^ l → ⊥)
FailsParts decls opens width parts (Misfit i o l path) =
    (p : PartAt opens parts o l) × (content_paths p.part.content ≡ path ∷ []) × (Fits decls opens l p.part.content → ⊥)
FailsParts decls opens width parts why = ⊥

-- the evidence names item i; evidence of another rule names no item
abbrev pub IsOfItem : ℕ → Why → Type 0
IsOfItem i (Outside item o l) = item ≡ i
IsOfItem i (Overlap item o l b m) = item ≡ i
IsOfItem i (ConstWide item c l) = item ≡ i
IsOfItem i (Misfit item o l path) = item ≡ i
IsOfItem i why = ⊥

-- how item i fails the rule: by its parts where it is a word, with evidence that names it; an inlined field does not
-- fail
abbrev pub FailsItem : List LayoutDecl → List Open → ℕ → Item → Why → Type 0
FailsItem decls opens i (AWord width parts) why = IsOfItem i why × FailsParts decls opens width parts why
FailsItem decls opens i (AField path) why = ⊥
