-- The goals on which a goal rests, found one after the other. A goal asks whether a root word of a data type never
-- has a literal, which is a number in a range of bits; it rests on the goals that the parts of that word give in the
-- leaves of the type. An entry is a goal with whether it is known to hold. `type_of` gives the type at a path where
-- that is an open position of the leaf at hand.
use Rattle.std.specs.Prelude.{◌≡◌, ℕ, ◌||◌, List, [], ◌∷◌, ◌++◌, Bool, true, false, Option, Some, None, slice_get, if◌then◌else◌}
use Rattle.rb_core.specs.declared.types.Ty.{Ty}
use Rattle.rb_core.specs.declared.types.DataDecl.{DataDecl}
use Rattle.rb_layout.specs.declared.layout.Leaf.{Leaf}
use Rattle.rb_layout.specs.declared.layout.FlatWord.{FlatWord}
use Rattle.rb_layout.specs.declared.layout.Part.{Part}
use Rattle.rb_layout.specs.declared.layout.Layout.{Layout}
use Rattle.rb_layout.specs.declared.goals.Literal.{Literal}
use Rattle.rb_layout.specs.declared.goals.Goal.{Goal}
use Rattle.rb_layout.specs.declared.goals.Entry.{Entry}
use Rattle.rb_layout.specs.Positions.{layout_of}
use Rattle.rb_layout.specs.inner.Barring.{position_type, goal_in, same_goal, AreAsked}

-- a goal is among the entries, known to hold or not
abbrev pub has_goal : List Entry → Goal → Bool
has_goal [] g = false
has_goal (e ∷ es) g = same_goal e.goal g || has_goal es g

-- the entries with a goal: unchanged where it is among them, and else with it as the last, not known to hold
abbrev pub with_goal : List Entry → Goal → List Entry
with_goal es g = if has_goal es g then es else es ++ record { goal = g; barred = false } ∷ []

-- the entries with a goal that may be missing; unchanged where it is
abbrev pub with_found : List Entry → Option Goal → List Entry
with_found es None = es
with_found es (Some g) = with_goal es g

-- the entries with the goals that these parts of a word give for the literal x, part by part; a part that gives none
-- adds nothing
abbrev pub with_parts : (List ℕ → Option Ty) → Literal → List Entry → List Part → List Entry
with_parts type_of x es [] = es
with_parts type_of x es (p ∷ ps) = with_parts type_of x (with_found es (goal_in type_of x p)) ps

-- the entries with the goals that the parts of a root word give for the literal x; unchanged where the word is
-- missing
abbrev pub with_root : (List ℕ → Option Ty) → Literal → List Entry → Option FlatWord → List Entry
with_root type_of x es None = es
with_root type_of x es (Some f) = with_parts type_of x es f.parts

-- the entries with the goals on which goal g rests in one leaf: those that the parts of its root word give, none
-- where the leaf has no such word
abbrev pub with_leaf : List DataDecl → Goal → List Entry → Leaf → List Entry
with_leaf types g es leaf = with_root (position_type types leaf.prov) g.literal es (slice_get leaf.root g.word)

-- the entries with the goals on which goal g rests in these leaves, leaf by leaf
abbrev pub with_leaves : List DataDecl → Goal → List Entry → List Leaf → List Entry
with_leaves types g es [] = es
with_leaves types g es (leaf ∷ leaves) = with_leaves types g (with_leaf types g es leaf) leaves

-- the entries with the goals on which goal g rests in all leaves of the layout of its type; unchanged where that is
-- missing
abbrev pub with_layout : List DataDecl → Goal → List Entry → Option Layout → List Entry
with_layout types g es None = es
with_layout types g es (Some layout) = with_leaves types g es layout.leaves

-- the entries with the goals on which goal g rests in one step, in all leaves of its type; unchanged where the type
-- has no layout
abbrev pub with_below : List DataDecl → List Layout → List Entry → Goal → List Entry
with_below types layouts es g = with_layout types g es (layout_of layouts g.ty)

-- no entry is known to hold
abbrev pub AreFresh : List Entry → Type 0
AreFresh es = (k : ℕ) (e : Entry) → slice_get es k ≡ Some e → e.barred ≡ false

-- each goal of the first list of entries is in the second
abbrev pub KeepsGoals : List Entry → List Entry → Type 0
KeepsGoals es fs = (g : Goal) → has_goal es g ≡ true → has_goal fs g ≡ true

-- a goal is among the entries
abbrev pub IsGoalOf : List Entry → Goal → Type 0
IsGoalOf es g = has_goal es g ≡ true

-- the goals on which a goal rests in one step are among the entries: those that the parts of its root word give, in
-- each leaf of its type
abbrev pub HasBelow : List DataDecl → List Layout → List Entry → Goal → Type 0
HasBelow types layouts es g =
    (n : ℕ) (layout : Layout) (leaf : Leaf) (f : FlatWord) → layout_of layouts g.ty ≡ Some layout
    → slice_get layout.leaves n ≡ Some leaf
    → slice_get leaf.root g.word ≡ Some f → (k : ℕ) (p : Part) (h : Goal) → slice_get f.parts k ≡ Some p
    → goal_in (position_type types leaf.prov) g.literal p ≡ Some h → IsGoalOf es h

-- The new entries have all goals on which the old ones rest, in any number of steps: all of the old, and with each
-- goal those on which it rests in one step. Each asks for a range with a bit that ends within 64 bits, and none is
-- known to hold.
pub record AreFound (types : List DataDecl) (layouts : List Layout) (old new : List Entry) : Type 0 where
  pub asked : AreAsked new
  pub fresh : AreFresh new
  pub keeps : KeepsGoals old new
  pub below : (k : ℕ) (e : Entry) → slice_get new k ≡ Some e → HasBelow types layouts new e.goal
