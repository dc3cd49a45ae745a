-- The types of the subvalues on a path, and that the spans of these are enough for a walk along it. The span of a
-- type bounds how many words are read to look at one value of it. A walk goes along a path of field numbers through
-- the leaves of the subvalues on it, and ends early at a fault. m has the blocks of an image, and ws are the words
-- of the first subvalue.
use Rattle.std.specs.Prelude.{ℕ, ◌+◌, ◌≤◌, List, [], ◌∷◌, ◌++◌, Option, Some, None}
use Rattle.std.specs.List.{sum_by}
use Rattle.rb_core.specs.declared.program.Program.{Program}
use Rattle.rb_core.specs.declared.types.DataDecl.{DataDecl}
use Rattle.rb_core.specs.declared.types.Ty.{Ty}
use Rattle.rb_core.specs.declared.types.Ty.TheVariants.{Named}
use Rattle.rb_layout.specs.declared.layout.Layout.{Layout}
use Rattle.rb_layout.specs.Agreement.{Agrees}
use Rattle.rb_layout.specs.Flattening.{flat_layouts}
use Rattle.rb_image_text.specs.declared.image.ImageBlock.{ImageBlock}
use Rattle.rb_image.specs.declared.kept.Kept.{Kept}
use Rattle.rb_image.specs.Fields.{Position, field_of}
use Rattle.rb_image.specs.Spans.{span}
use Rattle.rb_peek.specs.Asked.{if_found}
use Rattle.rb_peek.specs.Walks.{Where, where_at_root, see, step, walk_span}

-- the type at a position, alone in a list; no type where there is no position
abbrev pub type_there : Option Position → List Ty
type_there None = []
type_there (Some pos) = pos.ty ∷ []

module _ (types : List DataDecl) (layouts : List Layout) (m : List ImageBlock) where
  -- the types of the subvalues to which the next steps of a path lead, up to that at which a fault ends the walk; the
  -- first of these steps is step k of the whole path
  abbrev pub types_from : ℕ → Where → List ℕ → List Ty
  types_from k w [] = []
  types_from k w (i ∷ path) =
      type_there (field_of types w.here.pat i) ++ if_found (step types layouts m k w i) (λ v. types_from (k + 1) v path)

  -- the types of the value of data type t at these words and of the subvalues along a path from it, the last
  -- included, as far as one comes
  abbrev pub path_types : ℕ → List Kept → List ℕ → List Ty
  path_types t ws path = Named t ∷ if_found (see layouts m t ws) (λ s. types_from 0 (where_at_root [] s) path)

  -- the sum of the spans of the types on a path from the value of data type t at these words on
  abbrev pub path_span : ℕ → List Kept → List ℕ → ℕ
  path_span t ws path = sum_by (span layouts) (path_types t ws path)

-- the splits and words of the data types to whose leaves a walk comes are at most the spans of the types on the path
abbrev pub WalksAreShort : Type 0
WalksAreShort = (p : Program) → Agrees p → (m : List ImageBlock) (t : ℕ) (ws : List Kept) (path : List ℕ)
    → walk_span p.types (flat_layouts p) m t ws path ≤ path_span p.types (flat_layouts p) m t ws path
