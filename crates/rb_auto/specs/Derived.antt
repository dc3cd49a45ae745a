-- Derived layouts: one word, with a split on the tag and an arm for each constructor. A tag is a constructor's number
-- in the lowest bits of the word. A form says how the word is used: boxed, or packed with so many bits for the tag
-- and for the word. `rooms` says for each type how wide its word is where its layout is derived. A leaf is for the
-- values of its provenance, a pattern; an arm is for one constructor, whose number is the arm's literal.
use Rattle.std.specs.Prelude.{ℕ, zero, ◌+◌, List, [], ◌∷◌, map, None}
use Rattle.rb_core.specs.declared.types.Con.{Con}
use Rattle.rb_core.specs.declared.pattern.Pat.{Pat}
use Rattle.rb_core.specs.declared.pattern.Pat.TheVariants as P
use Rattle.rb_core.specs.declared.program.Program.{Program}
use Rattle.rb_core.specs.declared.layout_decl.Loc.{Loc}
use Rattle.rb_core.specs.declared.layout_decl.Arm.{Arm}
use Rattle.rb_core.specs.declared.layout_decl.LayTree.{LayTree}
use Rattle.rb_core.specs.declared.layout_decl.LayTree.TheVariants as S
use Rattle.rb_core.specs.declared.layout_decl.LayoutDecl.{LayoutDecl}
use Rattle.rb_auto.specs.declared.form.Form.{Form}
use Rattle.rb_auto.specs.declared.room.Room.{Room}
use Rattle.rb_auto.specs.Fields.{cons_of}
use Rattle.rb_auto.specs.FieldWords.{constructor_words}
use Rattle.rb_auto.specs.Items.{form_width, form_tag, leaf_items}

-- the provenance of the leaf of constructor c, number k of type t: the constructor over wildcards
abbrev pub provenance : ℕ → ℕ → Con → Pat
provenance t k c = P.Con 0 (record { ty = t; con = k }) (map (λ ty. P.Wild 0) c.fields)

-- the location of a tag of l bits: the l bits from bit 0 on of word 0
abbrev pub tag_loc : ℕ → Loc
tag_loc l = record { word = 0; o = 0; l = l; steps = [] }

module _ (p : Program) (rooms : List Room) (t : ℕ) (form : Form) where
  -- the leaf of constructor c, with number k: its provenance, and the one word of the form with its tag and its
  -- fields
  abbrev pub leaf : ℕ → Con → LayTree
  leaf k c = S.Leaf 0 (provenance t k c) (leaf_items form k (constructor_words p rooms c.fields))

  -- an arm for each of these constructors, the first of which has number k in the type
  abbrev pub arms_from : ℕ → List Con → List Arm
  arms_from k [] = []
  arms_from k (c ∷ cs) = record { literal = k; under = leaf k c } ∷ arms_from (k + 1) cs

  -- a split on a tag of so many bits, with an arm for each constructor; without a tag the leaf of the only
  -- constructor
  abbrev pub tree_of : ℕ → List Con → LayTree
  tree_of zero (c ∷ []) = leaf 0 c
  tree_of tag cs = S.Split (tag_loc tag) (arms_from 0 cs) None

  -- the layout that is derived for type t in this form
  abbrev pub derived_layout : LayoutDecl
  derived_layout =
      record { at = 0; ty = t; shape = form_width form ∷ []; tree = tree_of (form_tag form) (cons_of p.types t) }
