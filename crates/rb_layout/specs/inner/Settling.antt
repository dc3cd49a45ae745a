-- Goals that hold are marked, in passes over the entries from the last to the first, until a pass changes nothing. A
-- goal asks whether a root word of a data type never has a literal, which is a number in a range of bits. An entry is
-- a goal with a mark, that it is known to hold. A goal holds by one step from the marked ones where each leaf of its
-- type bars the literal by a constant bit, by a pointer, or by a marked goal.
use Rattle.std.specs.Prelude.{◌≡◌, ℕ, zero, suc, ◌<◌, length, ◌&&◌, ◌||◌, not, List, [], ◌∷◌, Bool, true, false, Option, Some, None, slice_get, slice_set, if◌then◌else◌}
use Rattle.rb_core.specs.declared.types.DataDecl.{DataDecl}
use Rattle.rb_layout.specs.declared.layout.Leaf.{Leaf}
use Rattle.rb_layout.specs.declared.layout.FlatWord.{FlatWord}
use Rattle.rb_layout.specs.declared.layout.Layout.{Layout}
use Rattle.rb_layout.specs.declared.goals.Goal.{Goal}
use Rattle.rb_layout.specs.declared.goals.Entry.{Entry}
use Rattle.rb_layout.specs.Positions.{layout_of}
use Rattle.rb_layout.specs.Excluded.{Bars}
use Rattle.rb_layout.specs.inner.Barring.{knows, goal_barred}
use Rattle.rb_layout.specs.inner.Finding.{KeepsGoals}

-- a look at an entry would mark it: the entry is there and not marked, and its goal holds by one step from the marked
-- ones
abbrev pub turns : List DataDecl → List Layout → List Entry → Option Entry → Bool
turns types layouts es None = false
turns types layouts es (Some e) = not e.barred && goal_barred (knows es) types layouts e.goal

-- the entries with entry i marked, where e is that entry; unchanged where there is none
abbrev pub with_mark : List Entry → ℕ → Option Entry → List Entry
with_mark es i None = es
with_mark es i (Some e) = slice_set es i (record { goal = e.goal; barred = true })

-- the entries after a look at entry i, which is marked where its goal holds by one step from the marked ones;
-- unchanged where there is no such entry, or it is marked already
abbrev pub after_look : List DataDecl → List Layout → ℕ → List Entry → List Entry
after_look types layouts i es = if turns types layouts es (slice_get es i) then with_mark es i (slice_get es i) else es

-- the entries after a look at each of the first n, from the last of these to the first
abbrev pub after_looks : List DataDecl → List Layout → ℕ → List Entry → List Entry
after_looks types layouts zero es = es
after_looks types layouts (suc n) es = after_looks types layouts n (after_look types layouts n es)

-- a pass over the first n entries, from the last of these to the first, marks at least one
abbrev pub changes : List DataDecl → List Layout → ℕ → List Entry → Bool
changes types layouts zero es = false
changes types layouts (suc n) es =
    turns types layouts es (slice_get es n) || changes types layouts n (after_look types layouts n es)

-- how many entries are not marked
abbrev pub entries_left : List Entry → ℕ
entries_left [] = 0
entries_left (e ∷ es) = if e.barred then entries_left es else suc (entries_left es)

-- a goal holds: its type has a layout with a leaf, each leaf has the goal's root word, and there a finite derivation
-- shows that it never has the literal
pub record GoalHolds (types : List DataDecl) (layouts : List Layout) (g : Goal) : Type 0 where
  pub layout : Layout
  pub is_layout : layout_of layouts g.ty ≡ Some layout
  pub some : 0 < length layout.leaves
  pub words : (n : ℕ) (leaf : Leaf) → slice_get layout.leaves n ≡ Some leaf → (f : FlatWord)
      × (slice_get leaf.root g.word ≡ Some f)
  pub bars : (n : ℕ) (leaf : Leaf) (f : FlatWord) → slice_get layout.leaves n ≡ Some leaf
      → slice_get leaf.root g.word ≡ Some f
      → Bars types layouts leaf f g.literal.o g.literal.l g.literal.bits

-- each marked goal holds
abbrev pub AreTrue : List DataDecl → List Layout → List Entry → Type 0
AreTrue types layouts es = (g : Goal) → knows es g ≡ true → GoalHolds types layouts g

-- The entries once passes mark no more: all old goals are there; each marked goal holds, where it was so of the old
-- marks; and no goal is left unmarked that holds by one step from the marked ones.
pub record AreSettled (types : List DataDecl) (layouts : List Layout) (old new : List Entry) : Type 0 where
  pub keeps : KeepsGoals old new
  pub true_ones : AreTrue types layouts old → AreTrue types layouts new
  pub all : (k : ℕ) (e : Entry) → slice_get new k ≡ Some e → turns types layouts new (Some e) ≡ false
