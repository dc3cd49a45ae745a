-- Frames: what one pattern, one list of parameters or one `let` binds, each name once, in the order of the numbers. A
-- binder is what binds a variable there; it has a number in its function. A frame has its binders, each a name with
-- its number, and in `next` the number of the next new one.
use Rattle.std.specs.Prelude.{ℕ, suc, List, [], ◌∷◌, ◌++◌, reverse, Option, Some, None}
use Rattle.std.specs.List.{flat_map}
use Rattle.rb_names.specs.declared.frame.Frame.{Frame}
use Rattle.rb_names.specs.Tables.{Name, Table, meaning}
use Rattle.rb_names.specs.Scopes.{Scope}

-- the scope within the binders of frames, the innermost of which stands first; in a frame the last binder is the
-- innermost
abbrev pub scope_of : List (Table ℕ) → Scope
scope_of = flat_map reverse

-- a frame after a name is bound, given the name's number in it so far: it stays where there is one, and else the name
-- gets the next number
abbrev pub with_binder_unless : Frame → Name → Option ℕ → Frame
with_binder_unless f name (Some before) = f
with_binder_unless f name None = record { binders = f.binders ++ (name, f.next) ∷ []; next = suc f.next }

-- a frame after one more name is bound: it stays where the name is bound in it; else the name gets the next number
abbrev pub with_binder : Frame → Name → Frame
with_binder f name = with_binder_unless f name (meaning f.binders name)

-- a frame after these names are bound, one after the other, each that is new in it with the next number
abbrev pub with_binders : Frame → List Name → Frame
with_binders f [] = f
with_binders f (x ∷ xs) = with_binders (with_binder f x) xs
