-- The places below a leaf that was examined. A place is the number of a data type, and the words at which a value of
-- it is to stand. There is one at each open position of a leaf, where its pattern lets any value stand, that is of a
-- data type. A path is a list of field numbers from the leaf's root.
use Rattle.std.specs.Prelude.{ℕ, ◌++◌, List}
use Rattle.std.specs.List.{flat_map}
use Rattle.rb_layout.specs.Positions.{Open}
use Rattle.rb_image.specs.declared.below.Examined.{Examined}
use Rattle.rb_image.specs.declared.kept.Kept.{Kept}
use Rattle.rb_image.specs.Parts.{At, field_word, place_at}
use Rattle.rb_image.specs.Orders.{spots_of}

-- word j of the field at a path of a leaf that was examined, with where it is kept
abbrev pub examined_word : Examined → List ℕ → ℕ → Kept
examined_word x = field_word x.memory.now x.words.now x.addresses.now (spots_of x.order.now)

-- the place at an open position below a path of a leaf that was examined; none where an integer stands there
abbrev pub place_below : Examined → List ℕ → Open → List At
place_below x path o = place_at x.layouts.now (examined_word x) (path ++ o.path) o.ty

-- the places at these open positions below a path of a leaf that was examined, in their order
abbrev pub places_below : Examined → List ℕ → List Open → List At
places_below x path opens = flat_map (place_below x path) opens
