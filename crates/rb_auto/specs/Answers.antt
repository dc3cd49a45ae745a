-- What is answered where a layout is to be derived. Of each type `kinds` says which layout is derived for it, if any,
-- and `rooms` how wide its word is. A refusal says why a type gets no layout. A packed type reaches itself where a
-- chain of fields leads from it back to it.
use Rattle.std.specs.Prelude.{◌≡◌, ℕ, max, nat_le, if◌then◌else◌, List, Option, Some, None, Result, Ok, Err, slice_get}
use Rattle.rb_core.specs.declared.types.Auto.{Auto}
use Rattle.rb_core.specs.declared.types.Auto.TheVariants as Kinds
use Rattle.rb_core.specs.declared.program.Program.{Program}
use Rattle.rb_core.specs.declared.layout_decl.LayoutDecl.{LayoutDecl}
use Rattle.rb_auto.specs.declared.form.Form.TheVariants.{Boxed, Packed}
use Rattle.rb_auto.specs.declared.room.Room.{Room}
use Rattle.rb_auto.specs.declared.room.Room.TheVariants.{Word, Recursive, Bits}
use Rattle.rb_auto.specs.declared.fault.AutoFault.{AutoFault}
use Rattle.rb_auto.specs.declared.fault.AutoFault.TheVariants.{PackedRecursive, PackedWide, Memory}
use Rattle.rb_auto.specs.Widths.{tag_of}
use Rattle.rb_auto.specs.Derived.{derived_layout}
use Rattle.rb_auto.specs.Rooms.{kind_of, AreTheRooms}

-- what deriving the layout of a type answers: the layout, or why there is none
abbrev pub Derives : Type 0
Derives = Result LayoutDecl AutoFault

-- the answer for a packed type t that does not reach itself and needs n bits: its layout, in a word of n bits, of one
-- at least; or that it needs over 64
abbrev pub packed_fit : Program → List Room → ℕ → ℕ → Derives
packed_fit p rooms t n =
    if nat_le n 64 then Ok (derived_layout p rooms t (Packed (tag_of p t) (max n 1))) else Err (PackedWide t n)

-- the answer for a packed type t of this room: it is refused where it reaches itself or needs over 64 bits; want of
-- memory where there is no room, or one that no packed type has
abbrev pub packed_answer : Program → List Room → ℕ → Option Room → Derives
packed_answer p rooms t None = Err Memory
packed_answer p rooms t (Some Word) = Err Memory
packed_answer p rooms t (Some Recursive) = Err (PackedRecursive t)
packed_answer p rooms t (Some (Bits n)) = packed_fit p rooms t n

-- the answer for type t, for which this kind of layout is to be derived; want of memory where none is
abbrev pub answer_by : Program → List Room → ℕ → Option Auto → Derives
answer_by p rooms t None = Err Memory
answer_by p rooms t (Some Kinds.Boxed) = Ok (derived_layout p rooms t Boxed)
answer_by p rooms t (Some Kinds.Packed) = packed_answer p rooms t (slice_get rooms t)

-- the answer for type t, by the kinds of layouts that are to be derived and the rooms of all types
abbrev pub answer : Program → List (Option Auto) → List Room → ℕ → Derives
answer p kinds rooms t = answer_by p rooms t (kind_of kinds t)

-- an answer is the expected one, or want of memory, which says nothing
abbrev pub AnswersDerived : Derives → Derives → Type 0
AnswersDerived (Err Memory) expected = Unit {0}
AnswersDerived r expected = r ≡ expected

-- an answer is right for type t: the one by the rooms of the types, of which there are no others; or want of memory,
-- which says nothing
abbrev pub IsDerivedAnswer : Program → List (Option Auto) → ℕ → Derives → Type 0
IsDerivedAnswer p kinds t (Err Memory) = Unit {0}
IsDerivedAnswer p kinds t r =
    (rooms : List Room) × AreTheRooms p kinds rooms × AnswersDerived r (answer p kinds rooms t)
