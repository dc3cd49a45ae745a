-- What stands at a path of an image: its type and its words, or why there is none. A path is a list of field numbers
-- from the value at the root words. A walk along it ends at the root of a leaf, or inside one: at an integer, or at
-- a constructor, which the leaf has taken apart, and which is rebuilt in the layout of its own type.
use Rattle.std.specs.Prelude.{◌≡◌, ◌⊎◌, ℕ, List, [], ◌∷◌, Result, Ok, Err}
use Rattle.rb_core.specs.declared.types.DataDecl.{DataDecl}
use Rattle.rb_core.specs.declared.types.Ty.{Ty}
use Rattle.rb_core.specs.declared.types.Ty.TheVariants.{Int, Named}
use Rattle.rb_layout.specs.declared.layout.Layout.{Layout}
use Rattle.rb_image_text.specs.declared.fault.ImageFault.{ImageFault}
use Rattle.rb_image_text.specs.declared.fault.ImageFault.TheVariants.{BadRoot, NoSuchPart}
use Rattle.rb_image_text.specs.declared.image.Image.{Image}
use Rattle.rb_image.specs.Roots.{WordsFit, IsFirstMisfit, kept_from, widths_of}
use Rattle.rb_peek.specs.declared.peek.Peeked.{Peeked}
use Rattle.rb_peek.specs.PathSpans.{path_span}
use Rattle.rb_peek.specs.Paths.{HasNoPart, HasPathFault, IsCome, IsFaultless, IsOnPath, IsPathWord, Names}
use Rattle.rb_peek.specs.Rebuilds.{numbers_of, rebuilt_words}
use Rattle.rb_peek.specs.Walks.{Where}

module _ (types : List DataDecl) (layouts : List Layout) (image : Image) where
  -- the words of what stands at the end of a walk, whose path inside the last leaf is given: where that is empty
  -- those of the subvalue to whose leaf one came, else those of an integer, or of a constructor that is rebuilt
  abbrev pub words_there : Where → List ℕ → Result (List ℕ) ImageFault
  words_there w [] = Ok (numbers_of w.last.words)
  words_there w (i ∷ at) = rebuilt_words types layouts image.blocks w

  -- the words of what stands at the end of a walk, or the fault for which it cannot be rebuilt
  abbrev pub end_words : Where → Result (List ℕ) ImageFault
  end_words w = words_there w w.last.at

  -- no word on the path from the value of data type t at the root words is at fault, and `part` stands at its end
  pub record IsPartAt (t : ℕ) (path : List ℕ) (part : Peeked) : Type 0 where
    pub end : Where
    pub is_come : IsCome types layouts image t path path end
    pub is_faultless : IsFaultless types layouts image t path
    pub is_type : part.ty ≡ end.here.ty
    pub is_words : ◌≡◌ {A = Result (List ℕ) ImageFault} (end_words end) (Ok part.words)

  -- `part` is what stands at the path from a value of this type at the root words; from an integer only the empty
  -- path leads anywhere
  abbrev pub IsPartOf : Ty → List ℕ → Peeked → Type 0
  IsPartOf (Int bits) path part = (path ≡ []) × (part.ty ≡ Int bits) × (part.words ≡ image.root)
  IsPartOf (Named t) path part = IsPartAt t path part

  -- the root words fit the type, and `part` is what stands at the path from the value there
  abbrev pub IsPart : Ty → List ℕ → Peeked → Type 0
  IsPart ty path part = WordsFit (widths_of layouts ty) image.root × IsPartOf ty path part

  -- a word on the path has this fault, for which what stands at the end of the path cannot be rebuilt: the leaf of a
  -- subvalue below it has to be known, and does not hold there
  pub record IsEndFault (t : ℕ) (path : List ℕ) (fault : ImageFault) : Type 0 where
    pub end : Where
    pub is_come : IsCome types layouts image t path path end
    pub is_fault : ◌≡◌ {A = Result (List ℕ) ImageFault} (end_words end) (Err fault)
    pub base : ℕ
    pub place : ℕ
    pub on_path : IsPathWord types layouts image t path base place
    pub names : Names fault base place

  -- why nothing is given of a path from a value of this type, whose root words fit: a word on the path is at fault, a
  -- step names no field, as each step from an integer, or what stands at the end cannot be rebuilt
  abbrev pub IsFaultOf : Ty → List ℕ → ImageFault → Type 0
  IsFaultOf (Int bits) path fault = (fault ≡ NoSuchPart 0) × (path ≡ [] → ⊥)
  IsFaultOf (Named t) path fault =
      HasPathFault types layouts image t path (IsOnPath types layouts image t path) fault
      ⊎ HasNoPart types layouts image t path fault ⊎ IsEndFault t path fault

  -- why there is no part: a root word does not fit; a word on the path is at fault; a step names no field; or what
  -- stands at the end cannot be rebuilt
  abbrev pub IsPartFault : Ty → List ℕ → ImageFault → Type 0
  IsPartFault ty path fault =
      ((i : ℕ) × (fault ≡ BadRoot i) × IsFirstMisfit (widths_of layouts ty) image.root i)
      ⊎ (WordsFit (widths_of layouts ty) image.root × IsFaultOf ty path fault)

  -- the sum of the spans of the types on the path from a value of this type at the root words; 0 for an integer
  abbrev pub part_span : Ty → List ℕ → ℕ
  part_span (Int bits) path = 0
  part_span (Named t) path = path_span types layouts image.blocks t (kept_from 0 image.root) path
