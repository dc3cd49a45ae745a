-- Excluded bits, a step at a time: what bars a literal where some goals are known to hold. A literal is a range of l
-- bits from bit o on, with the number that is asked for there. A goal asks whether root word j of a data type never
-- has a literal, in any leaf of the type. An entry is a goal with whether it is known to hold; `known` says it of any
-- goal. `type_of` gives the type at a path where that is an open position of the leaf at hand.
use Rattle.std.specs.Prelude.{◌≡◌, ℕ, zero, suc, ◌+◌, ◌-◌, ◌==◌, ◌&&◌, ◌||◌, leb, ltb, min, max, List, [], ◌∷◌, Bool, true, false, not, Option, Some, None, slice_get, if◌then◌else◌}
use Rattle.std.specs.Int.{bit_at}
use Rattle.rb_bits.specs.Words.{IsRange, take_of}
use Rattle.rb_core.specs.declared.types.Ty.{Ty}
use Rattle.rb_core.specs.declared.types.Ty.TheVariants.{Int, Named}
use Rattle.rb_core.specs.declared.types.DataDecl.{DataDecl}
use Rattle.rb_core.specs.declared.pattern.Pat.{Pat}
use Rattle.rb_layout.specs.declared.layout.Leaf.{Leaf}
use Rattle.rb_layout.specs.declared.layout.FlatWord.{FlatWord}
use Rattle.rb_layout.specs.declared.layout.Part.{Part}
use Rattle.rb_layout.specs.declared.layout.Kind.{Kind}
use Rattle.rb_layout.specs.declared.layout.Kind.TheVariants.{Const, Bits, Word, Pointer}
use Rattle.rb_layout.specs.declared.layout.Layout.{Layout}
use Rattle.rb_layout.specs.declared.goals.Literal.{Literal}
use Rattle.rb_layout.specs.declared.goals.Goal.{Goal}
use Rattle.rb_layout.specs.declared.goals.Entry.{Entry}
use Rattle.rb_layout.specs.Positions.{open_positions, layout_of}
use Rattle.rb_layout.specs.Flattening.{type_at}
use Rattle.rb_layout.specs.Locations.{constant_bit}

-- a bit is there, and another than b
abbrev pub is_other : Option ℕ → ℕ → Bool
is_other None b = false
is_other (Some a) b = not (a == b)

-- for one of the l numbers n from i on, bit o + n of a word with these parts is constant and another than bit n of c;
-- for none where l is 0
abbrev pub bit_differs : List Part → ℕ → ℕ → ℕ → ℕ → Bool
bit_differs ps o c i zero = false
bit_differs ps o c i (suc l) = is_other (constant_bit ps (o + i)) (bit_at c i) || bit_differs ps o c (i + 1) l

-- a part of this kind is a pointer
abbrev pub is_pointer : Kind → Bool
is_pointer (Const c) = false
is_pointer (Bits path a) = false
is_pointer (Word path j) = false
is_pointer (Pointer align b) = true

-- a part is a pointer that lies wholly in the literal's range, and the literal's number has only zeros on its bits; a
-- pointer without bits counts as well
abbrev pub null_at : Literal → Part → Bool
null_at x p =
    (is_pointer p.kind && (leb x.o p.o && leb (p.o + p.l) (x.o + x.l))) && (take_of x.bits (p.o - x.o) p.l == 0)

-- one of the parts is a pointer that lies wholly in the literal's range, and the literal's number has only zeros on
-- its bits
abbrev pub null_in : List Part → Literal → Bool
null_in [] x = false
null_in (p ∷ ps) x = null_at x p || null_in ps x

-- the type at a path of a provenance, where that is an open position, and else None
abbrev pub position_type : List DataDecl → Pat → List ℕ → Option Ty
position_type types prov = type_at (open_positions types prov)

-- where a part meets the literal's range, the literal's bits there, in a range that counts from the part's first bit;
-- None where they have no bit in common
abbrev pub part_literal : Literal → Part → Option Literal
part_literal x p =
    let a : ℕ = max x.o p.o in
    let end : ℕ = min (x.o + x.l) (p.o + p.l) in
    if ltb a end then Some (record { o = a - p.o; l = end - a; bits = take_of x.bits (a - x.o) (end - a) }) else None

-- the goal that root word j of data type s never has the literal; None where there is no literal
abbrev pub goal_on : ℕ → ℕ → Option Literal → Option Goal
goal_on s j None = None
goal_on s j (Some x) = Some (record { ty = s; word = j; literal = x })

-- the goal that word j of a field never has the literal, given the field's type; None where that is an integer or
-- missing, or there is no literal
abbrev pub goal_at : Option Ty → ℕ → Option Literal → Option Goal
goal_at None j x = None
goal_at (Some (Int bits)) j x = None
goal_at (Some (Named s)) j x = goal_on s j x

-- The goal that a part of this kind gives, with the literal's bits where both meet, if they do. Only a part with a
-- word of a field of a data type gives one: that this word never has those bits.
abbrev pub goal_of : (List ℕ → Option Ty) → Option Literal → Kind → Option Goal
goal_of type_of x (Const c) = None
goal_of type_of x (Bits path a) = None
goal_of type_of x (Word path j) = goal_at (type_of path) j x
goal_of type_of x (Pointer align b) = None

-- The goal that a part gives for a literal: that the field's word in the part is never the literal's bits where both
-- meet. None where the part has no word of a field of a data type, or does not meet the range.
abbrev pub goal_in : (List ℕ → Option Ty) → Literal → Part → Option Goal
goal_in type_of x p = goal_of type_of (part_literal x p) p.kind

-- two goals are the same: in type, word, range and number
abbrev pub same_goal : Goal → Goal → Bool
same_goal h g =
    (g.ty == h.ty)
    && ((g.word == h.word) && ((g.literal.o == h.literal.o)
    && ((g.literal.l == h.literal.l) && (g.literal.bits == h.literal.bits))))

-- the first entry with this goal says that it is known to hold; not so where the goal is not among the entries
abbrev pub knows : List Entry → Goal → Bool
knows [] g = false
knows (e ∷ es) g = if same_goal e.goal g then e.barred else knows es g

-- a goal that may be missing is there, and is known to hold
abbrev pub is_known : (Goal → Bool) → Option Goal → Bool
is_known known None = false
is_known known (Some g) = known g

-- a part gives a goal for the literal, and it is known to hold
abbrev pub part_barred : (Goal → Bool) → (List ℕ → Option Ty) → Literal → Part → Bool
part_barred known type_of x p = is_known known (goal_in type_of x p)

-- one of the parts gives a goal for the literal that is known to hold
abbrev pub parts_barred : (Goal → Bool) → (List ℕ → Option Ty) → Literal → List Part → Bool
parts_barred known type_of x [] = false
parts_barred known type_of x (p ∷ ps) = part_barred known type_of x p || parts_barred known type_of x ps

-- a word with these parts never has a literal, by a constant bit, by a pointer, or by a goal that is known to hold
abbrev pub word_barred : (Goal → Bool) → (List ℕ → Option Ty) → Literal → List Part → Bool
word_barred known type_of x ps = (bit_differs ps x.o x.bits 0 x.l || null_in ps x) || parts_barred known type_of x ps

-- a word that may be missing never has a literal, by one step from the known goals; of a missing word nothing is
-- shown
abbrev pub root_barred : (Goal → Bool) → (List ℕ → Option Ty) → Literal → Option FlatWord → Bool
root_barred known type_of x None = false
root_barred known type_of x (Some f) = word_barred known type_of x f.parts

-- a leaf has the goal's root word, and this never has the goal's literal, by one step from the known goals
abbrev pub leaf_barred : (Goal → Bool) → List DataDecl → Goal → Leaf → Bool
leaf_barred known types g leaf =
    root_barred known (position_type types leaf.prov) g.literal (slice_get leaf.root g.word)

-- each of these leaves has the goal's root word, and this never has the goal's literal, by one step from the known
-- goals; so it is where there are no leaves
abbrev pub leaves_barred : (Goal → Bool) → List DataDecl → Goal → List Leaf → Bool
leaves_barred known types g [] = true
leaves_barred known types g (x ∷ xs) = leaf_barred known types g x && leaves_barred known types g xs

-- there is a leaf among these
abbrev pub has_leaf : List Leaf → Bool
has_leaf [] = false
has_leaf (x ∷ xs) = true

-- a goal holds by one step from the known goals, given the layout of its type: this is there, has a leaf, and each
-- leaf has the goal's root word, which never has the literal
abbrev pub layout_barred : (Goal → Bool) → List DataDecl → Goal → Option Layout → Bool
layout_barred known types g None = false
layout_barred known types g (Some layout) = has_leaf layout.leaves && leaves_barred known types g layout.leaves

-- a goal holds by one step from the known ones: its type has a layout with a leaf, and the goal holds in each leaf
abbrev pub goal_barred : (Goal → Bool) → List DataDecl → List Layout → Goal → Bool
goal_barred known types layouts g = layout_barred known types g (layout_of layouts g.ty)

-- the literal's range has a bit and ends within 64 bits
abbrev pub IsAsked : Literal → Type 0
IsAsked x = IsRange x.o x.l

-- the literal of each entry's goal has a range with a bit that ends within 64 bits
abbrev pub AreAsked : List Entry → Type 0
AreAsked es = (k : ℕ) (e : Entry) → slice_get es k ≡ Some e → IsAsked e.goal.literal
