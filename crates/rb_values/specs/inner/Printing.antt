-- What the frames of the printer have still to write. A frame is a construction whose fields from `next` on are not
-- yet written; `vs` has the values of all nodes. The head of a value is what is written of it first: a number, or the
-- name of a constructor. `out` is the text before a step, and `written` that after it.
use Rattle.std.specs.Prelude.{◌≡◌, ℕ, ◌+◌, ◌*◌, ◌<◌, ◌≤◌, List, [], ◌∷◌, ◌++◌, length, map, sum, drop}
use Rattle.rb_core.specs.declared.value.Value.{Value}
use Rattle.rb_core.specs.declared.types.Ty.{Ty}
use Rattle.rb_core.specs.declared.types.DataDecl.{DataDecl}
use Rattle.rb_core.specs.Values.{subs, node_count}
use Rattle.rb_values.specs.Texts.{field_of, fields_text, text_of}
use Rattle.rb_values.specs.Nodes.{at}
use Rattle.rb_values.specs.declared.print.Frame.{Frame}

-- what a frame has still to write: its fields from `next` on, up to the parenthesis behind the last
abbrev pub frame_text : List DataDecl → List Value → Frame → List ℕ
frame_text types vs f = fields_text (field_of types f.con) f.next
    (map (text_of types) (drop f.next (subs (at vs f.node))))

-- what all frames, the outermost first in their list, have still to write: the innermost writes first
abbrev pub text_to_write : List DataDecl → List Value → List Frame → List ℕ
text_to_write types vs [] = []
text_to_write types vs (f ∷ fs) = text_to_write types vs fs ++ frame_text types vs f

-- the work that a frame has left, which falls as it writes: one for its end, two for each node
-- of its fields from `next`
abbrev pub frame_work : List Value → Frame → ℕ
frame_work vs f = 1 + 2 * sum (map node_count (drop f.next (subs (at vs f.node))))

-- the work that all frames have left
abbrev pub work : List Value → List Frame → ℕ
work vs fs = sum (map (frame_work vs) fs)

-- a frame's node is there, and its `next` is at most the number of the node's fields
abbrev pub IsFrame : List Value → Frame → Type 0
IsFrame vs f = (f.node < length vs) × (f.next ≤ length (subs (at vs f.node)))

-- the node of each of these frames is there, and each `next` is at most the number of its node's fields
abbrev pub AreFrames : List Value → List Frame → Type 0
AreFrames vs [] = Unit {0}
AreFrames vs (f ∷ fs) = IsFrame vs f × AreFrames vs fs

-- the value at a node is begun: its head is written behind `out`, and what is left of it waits in the new frames
pub record Opened (types : List DataDecl) (vs : List Value) (node : ℕ) (ty : Ty) (old new : List Frame)
    (out written : List ℕ) : Type 0 where
  pub frames : AreFrames vs old → AreFrames vs new
  pub text : written ++ text_to_write types vs new
      ≡ out ++ (text_of types (at vs node) ty ++ text_to_write types vs old)
  pub less : work vs new + 1 ≤ work vs old + 2 * node_count (at vs node)

-- one more field of a frame that was taken from the stack, or its end, is written
pub record Turned (types : List DataDecl) (vs : List Value) (frame : Frame) (old new : List Frame)
    (out written : List ℕ) : Type 0 where
  pub frames : AreFrames vs new
  pub text : written ++ text_to_write types vs new ≡ out ++ (frame_text types vs frame ++ text_to_write types vs old)
  pub less : work vs new < work vs old + frame_work vs frame
