-- Copies of values by a stack of frames, without recursion. A frame is a construction that is half copied:
-- the number of its constructor, the copies of its first subvalues, a hole where one subvalue is being
-- copied, and the subvalues behind the hole. A stack of frames, from the outermost construction to the
-- innermost, is a value with one hole. The nodes of a value are its numbers and constructions.
use Rattle.std.specs.Prelude.{◌≡◌, ◌+◌, ◌<◌, ◌≤◌, ℕ, List, [], ◌∷◌, ◌++◌, map, sum}
use Rattle.rb_core.specs.declared.value.Value.{Value, Con}
use Rattle.rb_core.specs.declared.copying.Frame.{Frame}
use Rattle.rb_core.specs.declared.copying.Turn.{Turn}
use Rattle.rb_core.specs.declared.copying.Turn.TheVariants.{Copied, Next}
use Rattle.rb_core.specs.Values.{node_count}

-- the construction that a frame becomes with the value v in its hole
abbrev pub filled_frame : Frame → Value → Value
filled_frame f v = Con f.con (f.copied ++ v ∷ f.rest.now)

-- the whole that a stack of frames becomes with the value v in the hole of the innermost; v itself, where
-- there is no frame
abbrev pub filled_stack : List Frame → Value → Value
filled_stack [] v = v
filled_stack (f ∷ fs) v = filled_frame f (filled_stack fs v)

-- how many nodes the subvalues behind a frame's hole have: those that are not copied yet
abbrev pub nodes_left : Frame → ℕ
nodes_left f = sum (map node_count f.rest.now)

-- how many nodes stand behind the holes of all frames of a stack; 0 where there is no frame
abbrev pub nodes_behind : List Frame → ℕ
nodes_behind fs = sum (map nodes_left fs)

-- what a step down at the value v does to the stack `old`: either v is copied as w, which equals it, and the
-- stack stays; or the value `first` is the one to copy next, the stack `new` with it is still the same whole,
-- and it and what remains behind holes have fewer nodes than v and what remained had
abbrev pub Enters : Value → List Frame → List Frame → Turn → Type 0
Enters v old new (Copied w) = (w ≡ v) × (new ≡ old)
Enters v old new (Next first) =
    (filled_stack new first.now ≡ filled_stack old v)
    × (node_count first.now + nodes_behind new < node_count v + nodes_behind old)

-- what going up does with a copy v of what the hole of the stack `old` wants: either w is the copy of the
-- whole, which is v itself where the stack has no frame; or the value `next` is the one to copy next, the stack
-- `new` with it is still the same whole, and it and what remains behind holes have no more nodes than what
-- remained had
abbrev pub GoesUp : Value → List Frame → List Frame → Turn → Type 0
GoesUp v old new (Copied w) = w ≡ filled_stack old v
GoesUp v old new (Next next) =
    (filled_stack new next.now ≡ filled_stack old v) × (node_count next.now + nodes_behind new ≤ nodes_behind old)
