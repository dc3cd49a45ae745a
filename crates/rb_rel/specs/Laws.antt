-- The laws of representation. Those that rest on agreement are over all typed programs whose layouts agree with their
-- types; `MendingRecurs` asks for agreement alone. In a good memory blocks lie one after the other, from address 64
-- up to the next free one, and behind them nothing is written.
use Rattle.std.specs.Prelude.{◌≡◌, ℕ, List, map, Bool, true, false, Some}
use Rattle.rb_core.specs.declared.value.Value.{Value}
use Rattle.rb_core.specs.declared.types.Ty.{Ty}
use Rattle.rb_core.specs.declared.types.DataDecl.{DataDecl}
use Rattle.rb_core.specs.declared.layout_decl.Loc.{Loc}
use Rattle.rb_layout.specs.Locations.{Reached, reached_at}
use Rattle.rb_bytes.specs.Memory.{Memory, IsGood}
use Rattle.rb_bytes.specs.Laws.{Extends}
use Rattle.rb_layout.specs.declared.layout.Layout.{Layout}
use Rattle.rb_rel.specs.Relation.{IsCleanlyRepresented, Made, Represent, Represents}
use Rattle.rb_rel.specs.Answers.{all_makings, making_of}
use Rattle.rb_rel.specs.Placing.{Fits, lay, requests_of}
use Rattle.rb_bytes.specs.Growth.{Grown}
use Rattle.rb_rel.specs.Switches.{choose_of, greatest, mend_leaf, mend_of}
use Rattle.rb_rel.specs.Reading.{IsRead, read_loc, walk}
use Rattle.rb_core.specs.declared.program.Program.{Program}
use Rattle.rb_core.specs.TypedPrograms.{IsTyped}
use Rattle.rb_layout.specs.Agreement.{Agrees}
use Rattle.rb_layout.specs.Flattening.{flat_layouts}
use Rattle.rb_layout.specs.Positions.{leaf_of, layout_of, leaves_of_layout}
use Rattle.rb_core.specs.Values.{all_of_types, is_of_type}
use Rattle.rb_core.specs.declared.types.Ty.TheVariants.{Named}

-- words that represent a value in a memory still do in one that has the old one's blocks and written bytes
abbrev pub GrowthKeeps : Type 0
GrowthKeeps = (types : List DataDecl) (layouts : List Layout) (clean : Bool) (old new : Memory) → Extends old new
    → (ty : Ty) (v : Value) (ws : List ℕ) → Represents types layouts old clean ty v ws
    → Represents types layouts new clean ty v ws

-- a clean representation, whose free bits are 0, is a representation, in which they may be anything
abbrev pub CleanRepresents : Type 0
CleanRepresents = (types : List DataDecl) (layouts : List Layout) (m : Memory) (ty : Ty) (v : Value) (ws : List ℕ)
    → IsCleanlyRepresented types layouts m ty v ws → Represents types layouts m false ty v ws

-- Where a location resolves in the leaf of a represented value, reading it on the value's words gives the bits that
-- stand there: no load goes astray or meets an unwritten byte.
abbrev pub ReadingGivesBits : Type 0
ReadingGivesBits =
    (types : List DataDecl) (layouts : List Layout) (m : Memory) (clean : Bool) (t : ℕ) (v : Value) (ws : List ℕ)
    → (b : Made types layouts m clean t v ws) (loc : Loc) (x : Reached) → reached_at b.leaf loc ≡ Some x
    → IsRead b.leaf ws m clean b.subs b.ats x (read_loc ws m loc)

-- the splits of a type's layout, read on words that represent a value of it in a good memory, lead to the value's
-- leaf
abbrev pub SplitsLead : Type 0
SplitsLead = (p : Program) → IsTyped p → Agrees p → (m : Memory) (clean : Bool) → IsGood m
    → (t : ℕ) (v : Value) (ws : List ℕ) (layout : Layout) → layout_of (flat_layouts p) t ≡ Some layout
    → Represents p.types (flat_layouts p) m clean (Named t) v ws
    → (n : ℕ) × (leaf_of layout v ≡ Some n) × (walk layout.tree ws m ≡ Some n)

-- in a good memory, words represent one value of a type at most
abbrev pub WordsAreOneValue : Type 0
WordsAreOneValue = (p : Program) → IsTyped p → Agrees p → (m : Memory) (clean : Bool) → IsGood m
    → (ty : Ty) (v u : Value) (ws : List ℕ) → Represents p.types (flat_layouts p) m clean ty v ws
    → Represents p.types (flat_layouts p) m clean ty u ws
    → v ≡ u

-- a value that words represent at a type is of that type
abbrev pub RepresentedAreTyped : Type 0
RepresentedAreTyped = (p : Program) → IsTyped p → Agrees p → (m : Memory) (clean : Bool)
    → (ty : Ty) (v : Value) (ws : List ℕ) → Represents p.types (flat_layouts p) m clean ty v ws
    → is_of_type p.types v ty ≡ true

-- Each value of a type whose blocks fit in a good memory has a clean representation. It stands in a memory that has
-- grown by exactly the blocks that the constructions of the value ask for, where they are laid, and by nothing else.
abbrev pub ValuesHaveWords : Type 0
ValuesHaveWords = (p : Program) → IsTyped p → Agrees p → (m : Memory) → IsGood m
    → (ty : Ty) (v : Value) → is_of_type p.types v ty ≡ true
    → (blocks : List (ℕ × ℕ)) (next : ℕ)
    → lay m.limit m.next (requests_of (flat_layouts p) (making_of p.types v ty)) ≡ Fits blocks next
    → (new : Memory) × (ws : List ℕ) × Grown m new blocks next
    × IsCleanlyRepresented p.types (flat_layouts p) new ty v ws

-- Several values of these types whose blocks fit, made one after the other as a program's arguments are, have clean
-- representations one behind the other. They stand in a memory that has grown by exactly the blocks that the
-- constructions of all of them ask for, and by nothing else.
abbrev pub ListsHaveWords : Type 0
ListsHaveWords = (p : Program) → IsTyped p → Agrees p → (m : Memory) → IsGood m → (ts : List Ty) (vs : List Value)
    → all_of_types (map (is_of_type p.types) vs) ts ≡ true → (blocks : List (ℕ × ℕ)) (next : ℕ)
    → lay m.limit m.next (requests_of (flat_layouts p) (all_makings p.types vs ts)) ≡ Fits blocks next
    → (new : Memory) × (ws : List ℕ) × Grown m new blocks next × Represent p.types (flat_layouts p) new true ts vs ws

-- The switches of mending a type are, in the leaf where it takes most, the sum of those of choosing over the
-- constructors below the root of its provenance: the bound on how deep types are flattened into one another is never
-- reached.
abbrev pub MendingRecurs : Type 0
MendingRecurs = (p : Program) → Agrees p → (t : ℕ) → let layouts = flat_layouts p in
    mend_of layouts t ≡ greatest (map (mend_leaf (choose_of layouts)) (leaves_of_layout (layout_of layouts t)))
