-- What a walk has to know of the types and layouts of a program. A layout is tidy if its splits lead to its leaves,
-- and these can be read: they have as many root words as the layout's shape, their words are few and short, and each
-- part lies among 64 bits.
use Rattle.std.specs.Prelude.{◌≡◌, ℕ, ◌<◌, List, length, Some, slice_get}
use Rattle.rb_core.specs.declared.types.ConRef.{ConRef}
use Rattle.rb_core.specs.declared.types.DataDecl.{DataDecl}
use Rattle.rb_core.specs.declared.types.Ty.{Ty}
use Rattle.rb_core.specs.Values.{fields_of}
use Rattle.rb_layout.specs.declared.layout.Layout.{Layout}
use Rattle.rb_layout.specs.Positions.{layout_of, types_or_none}
use Rattle.rb_image.specs.Values.{IsDeclared}
use Rattle.rb_image.specs.Visits.{IsTidy}

-- layouts are tidy, each declared type has one, and the fields of constructors are of declared types
pub record AreOrderly (types : List DataDecl) (layouts : List Layout) : Type 0 where
  pub tidy : (t : ℕ) (layout : Layout) → layout_of layouts t ≡ Some layout → IsTidy layout (length layout.shape)
  pub there : (t : ℕ) → t < length types → (layout : Layout) × (layout_of layouts t ≡ Some layout)
  pub declared : (c : ConRef) (i : ℕ) (ty : Ty) → slice_get (types_or_none (fields_of types c)) i ≡ Some ty
      → IsDeclared types ty
