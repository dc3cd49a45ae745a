-- The leaves of layouts that agree have short words, and narrow parts.
use Rattle.std.proofs.Common.{◌≡◌, ℕ, Some, arith}
use Rattle.std.specs.Prelude.{slice_get}
use Rattle.rb_core.specs.declared.program.Program.{Program}
use Rattle.rb_core.specs.TypedPrograms.{IsTyped}
use Rattle.rb_layout.specs.declared.layout.Layout.{Layout}
use Rattle.rb_layout.specs.declared.layout.Leaf.{Leaf}
use Rattle.rb_layout.specs.Agreement.{Agrees}
use Rattle.rb_layout.specs.Flattening.{flat_layouts}
use Rattle.rb_layout.specs.Positions.{layout_of}
use Rattle.rb_image.specs.FieldSites.{HasNarrowParts, LeavesAreNarrow}
use Rattle.rb_image.proofs.GatheredFields.{word_fits}
use Rattle.rb_image.proofs.LeafLemmas.{readable_leaf}

module _ (p : Program) (typed : IsTyped p) (agrees : Agrees p) (t : ℕ) (layout : Layout) (n : ℕ) (leaf : Leaf)
    (is : layout_of (flat_layouts p) t ≡ Some layout) (at : slice_get layout.leaves n ≡ Some leaf) where
  -- a part lies in its word, and that is short
  narrow_parts : HasNarrowParts leaf
  narrow_parts r f k q is_word is_part =
      let short = ((readable_leaf p typed agrees t layout is n leaf at).words r.block).short r.word f is_word in
      let inside = (word_fits p typed agrees t layout n leaf is at r f is_word).tidy.inside k q is_part in
      omega (arith, short, inside)

pub leaves_are_narrow : LeavesAreNarrow
leaves_are_narrow p typed agrees t layout n leaf is at = (readable_leaf p typed agrees t layout is n leaf at, narrow_parts p typed agrees t layout n leaf is at)
