-- What the parts of a leaf hold of an open position: runs of its units. An open position is a wildcard or a variable
-- in a leaf's provenance, with its type; its path is the field numbers that lead there from the root. A unit is a bit
-- of an integer or a word of a data type; a run has so many units from its first on.
use Rattle.std.specs.Prelude.{◌≡◌, ℕ, ◌+◌, ◌<◌, ◌&&◌, leb, ltb, List, [], ◌∷◌, ◌++◌, Bool, if◌then◌else◌}
use Rattle.std.specs.List.{flat_map}
use Rattle.rb_core.specs.declared.types.Ty.{Ty}
use Rattle.rb_core.specs.declared.types.Ty.TheVariants.{Int, Named}
use Rattle.rb_core.specs.declared.program.Program.{Program}
use Rattle.rb_layout.specs.declared.layout.Leaf.{Leaf}
use Rattle.rb_layout.specs.declared.layout.Block.{Block}
use Rattle.rb_layout.specs.declared.layout.FlatWord.{FlatWord}
use Rattle.rb_layout.specs.declared.layout.Part.{Part}
use Rattle.rb_layout.specs.declared.layout.Kind.{Kind}
use Rattle.rb_layout.specs.declared.layout.Kind.TheVariants.{Const, Bits, Word, Pointer}
use Rattle.rb_layout.specs.declared.evidence.Why.{Why}
use Rattle.rb_layout.specs.declared.evidence.Why.TheVariants.{NotHeld, HeldTwice, NotOpen}
use Rattle.rb_layout.specs.Positions.{Open, open_positions}
use Rattle.rb_layout.specs.Flattening.{same_path, IsOpenIn}
use Rattle.rb_layout.specs.Items.{content_paths}
use Rattle.rb_layout.specs.A6.{times_held, units_of}
use Rattle.rb_agree.specs.declared.runs.Run.{Run}
use Rattle.rb_agree.specs.declared.items.Written.{Written}
use Rattle.rb_agree.specs.Written.{shown_part}
use Rattle.rb_agree.specs.Lists.{SomeOf}

-- whether a run has unit i
abbrev pub has_unit : Run → ℕ → Bool
has_unit r i = leb r.first i && ltb i (r.first + r.count)

-- how many of these runs have unit i
abbrev pub times : List Run → ℕ → ℕ
times [] i = 0
times (r ∷ rs) i = (if has_unit r i then 1 else 0) + times rs i

-- the run of `count` units from unit `first` on, as a list, where b is true; else nothing
abbrev pub run_if : Bool → ℕ → ℕ → List Run
run_if b first count = if b then record { first = first; count = count } ∷ [] else []

-- what a part of l bits and of this kind holds of the position of type ty at a path: one run or none
abbrev pub kind_runs : Ty → List ℕ → ℕ → Kind → List Run
kind_runs ty path l (Const c) = []
kind_runs (Int bits) path l (Bits p a) = run_if (same_path p path) a l
kind_runs (Named s) path l (Bits p a) = []
kind_runs (Int bits) path l (Word p j) = []
kind_runs (Named s) path l (Word p j) = run_if (same_path p path) j 1
kind_runs ty path l (Pointer align b) = []

-- what a part holds of the position of type ty at a path: one run or none
abbrev pub part_runs : Ty → List ℕ → Part → List Run
part_runs ty path p = kind_runs ty path p.l p.kind

-- what the parts of a word hold of the position of type ty at a path, part by part
abbrev pub word_runs : Ty → List ℕ → FlatWord → List Run
word_runs ty path f = flat_map (part_runs ty path) f.parts

-- what the parts of a block's words hold of the position of type ty at a path, word by word
abbrev pub block_runs : Ty → List ℕ → Block → List Run
block_runs ty path b = flat_map (word_runs ty path) b.words

-- what the parts of a leaf hold of the position of type ty at a path, those of root words before those in blocks
abbrev pub leaf_runs : Leaf → Ty → List ℕ → List Run
leaf_runs leaf ty path = flat_map (word_runs ty path) leaf.root ++ flat_map (block_runs ty path) leaf.blocks

-- how unit i of the position at a path fails, by the evidence: none of its runs has the unit, or more than one do; no
-- other evidence says so
abbrev pub FailsUnit : List ℕ → List Run → ℕ → Why → Type 0
FailsUnit path runs i (NotHeld q j) = (q ≡ path) × (j ≡ i) × (times runs i ≡ 0)
FailsUnit path runs i (HeldTwice q j) = (q ≡ path) × (j ≡ i) × (1 < times runs i)
FailsUnit path runs i why = ⊥

-- each of the first n units stands in exactly one of these runs
abbrev pub AreOnce : List Run → ℕ → Type 0
AreOnce runs n = (i : ℕ) → i < n → times runs i ≡ 1

-- one of the first n units of the position at a path stands in none of its runs or in several, as `why` says
abbrev pub FailsUnits : List ℕ → List Run → ℕ → Why → Type 0
FailsUnits path runs n why = (i : ℕ) × (i < n) × FailsUnit path runs i why

-- each unit of an open position is held by exactly one part of a leaf
abbrev pub HoldsPlace : Program → Leaf → Open → Type 0
HoldsPlace p leaf o = (i : ℕ) → i < units_of p o.ty → times_held leaf o.ty o.path i ≡ 1

-- how a unit of an open position fails, by the evidence: no part of the leaf holds it, or more than one do; no other
-- evidence says so
abbrev pub FailsPlace : Program → Leaf → Open → Why → Type 0
FailsPlace p leaf o (NotHeld q j) = (q ≡ o.path) × (j < units_of p o.ty) × (times_held leaf o.ty o.path j ≡ 0)
FailsPlace p leaf o (HeldTwice q j) = (q ≡ o.path) × (j < units_of p o.ty) × (1 < times_held leaf o.ty o.path j)
FailsPlace p leaf o why = ⊥

-- a unit of some open position of a leaf is held by none of its parts or by several, as `why` says
abbrev pub FailsEach : Program → Leaf → Why → Type 0
FailsEach p leaf why = SomeOf (λ (o : Open). FailsPlace p leaf o why) (open_positions p.types leaf.prov)

-- a path is that of one of these open positions
abbrev pub IsOpenPath : List Open → List ℕ → Type 0
IsOpenPath opens path = IsOpenIn opens path

-- a path is that of none of these open positions, and `why` names it so; no other evidence does
abbrev pub FailsPath : List Open → List ℕ → Why → Type 0
FailsPath opens path (NotOpen q) = (q ≡ path) × (IsOpenIn opens path → ⊥)
FailsPath opens path why = ⊥

-- the path of what a part is written to hold, as a list; empty for a number or a pointer
abbrev pub part_paths : Written → List (List ℕ)
part_paths w = content_paths (shown_part w).content
