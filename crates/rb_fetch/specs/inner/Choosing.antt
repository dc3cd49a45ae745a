-- The choice of a construction's leaf, look by look: what is known on a way, and which leaves can still be its
-- value's. A leaf is one of the forms in which a layout stores the values of a data type. A way is where runs have
-- come to one leaf: an open jump, the leaf's number, and parts in slots. A position is a path, field numbers from the
-- root; a place, or head, is a position below the root at which the provenance of a leaf, the pattern of the values
-- that it holds, has a constructor. A look is code that finds the leaf of the part there. `seen` is what is known:
-- positions that need no look any more, and constructors that stand in the value. Rebuilding constructs a part again
-- that a leaf has taken apart, of its fields. A plan has a program and its layouts, and a sheet is a function's code
-- so far. `agreed` is a program with its layouts, which obey the rules.
use Rattle.std.specs.Prelude.{◌≡◌, ℕ, ◌+◌, ◌<◌, ◌≤◌, Bool, true, false, not, List, [], ◌∷◌, ◌++◌, Option, Some, None, length, slice_get, slice_index, sum_by}
use Rattle.std.specs.List.{filter}
use Rattle.rb_core.specs.declared.value.Value.{Value, out-Value}
use Rattle.rb_core.specs.declared.value.Value.TheOpen as V
use Rattle.rb_core.specs.declared.value.Value.TheOpen.{Value-F}
use Rattle.rb_core.specs.declared.types.DataDecl.{DataDecl}
use Rattle.rb_core.specs.declared.types.Ty.{Ty}
use Rattle.rb_core.specs.declared.types.Ty.TheVariants.{Named}
use Rattle.rb_core.specs.Values.{is_of_type, part_at}
use Rattle.rb_bytes.specs.Memory.{Memory, IsGood}
use Rattle.rb_target.specs.declared.body.Hole.{Hole}
use Rattle.rb_target.specs.declared.instr.Instr.{Instr}
use Rattle.rb_target.specs.declared.instr.Instr.TheVariants.{Jump}
use Rattle.rb_target.specs.Growth.{Grows, Nowhere}
use Rattle.rb_target.specs.Meaning.{slots_at}
use Rattle.rb_target.specs.Sheet.{Sheet, with_more}
use Rattle.rb_layout.specs.declared.agreed.LaidOut.{LaidOut}
use Rattle.rb_layout.specs.declared.layout.Layout.{Layout}
use Rattle.rb_layout.specs.declared.layout.Leaf.{Leaf}
use Rattle.rb_layout.specs.Positions.{Open, leaf_of, layout_of, open_positions, opens_of}
use Rattle.rb_rel.specs.Switches.{HeadAt, choose_of, depth_of, inner_heads, is_leaf_for, mend_leaf, mend_of, places_of}
use Rattle.rb_fragment.specs.declared.held.Held.{Held}
use Rattle.rb_fragment.specs.Adding.{Adds}
use Rattle.rb_fragment.specs.Pieces.{AtEnd, CodePiece}
use Rattle.rb_fragment.specs.Plan.{Plan, Rep, words_needed}
use Rattle.rb_fragment.specs.Slots.{AllBelow, AllFrom}
use Rattle.rb_compose.specs.declared.subvalue.Subvalue.{Subvalue}
use Rattle.rb_compose.specs.Subvalues.{AreGivenAt, subvalue_at}
use Rattle.rb_fetch.specs.declared.choice.Choices.{Choices}
use Rattle.rb_fetch.specs.declared.choice.Way.{Way}
use Rattle.rb_fetch.specs.Finding.{IsPlanOf}
use Rattle.rb_fetch.specs.inner.Fields.{leaf_at}
use Rattle.rb_fetch.specs.declared.known.Seen.{Seen}
use Rattle.rb_fetch.specs.inner.Heads.{is_among, shown_heads}

-- Values -------------------------------------------------------------------------------------

-- the constructor at the root of a value, by number; none of an integer
abbrev pub root_con : Value-F Value → Option ℕ
root_con (V.Num n) = None
root_con (V.Con k vs) = Some k

-- the part of a value at a position is a construction by this constructor
abbrev pub HasCon : Value → List ℕ → ℕ → Type 0
HasCon v path con = (u : Value) × (part_at v path ≡ Some u) × (root_con (out-Value u) ≡ Some con)

-- the value has each of these constructors at its position
abbrev pub HasAll : List HeadAt → Value → Type 0
HasAll hs v = (k : ℕ) (h : HeadAt) → slice_get hs k ≡ Some h → HasCon v h.path h.con.con

-- Parts in slots -----------------------------------------------------------------------------

-- arguments in slots as the parts at positions of length one, the first of them at field i; none without arguments
abbrev pub parts_from : ℕ → List Held → List Subvalue
parts_from i [] = []
parts_from i (h ∷ hs) = record { path = i ∷ []; held = h } ∷ parts_from (i + 1) hs

-- values in slots as the parts at the fields of the part at `path`, the first of them at field i; none without values
abbrev pub parts_under : List ℕ → ℕ → List Held → List Subvalue
parts_under path i [] = []
parts_under path i (h ∷ hs) = record { path = path ++ i ∷ []; held = h } ∷ parts_under path (i + 1) hs

-- the value has a part at the position of each of xs, of the type that is held there
abbrev pub HasParts : List DataDecl → Value → List Subvalue → Type 0
HasParts types v xs =
    (k : ℕ) (x : Subvalue) → slice_get xs k ≡ Some x → (u : Value) × (part_at v x.path ≡ Some u)
    × (is_of_type types u x.held.ty ≡ true)

-- each of the parts xs has as many slots as its type has words, all below n
abbrev pub PartsGiven : Plan → ℕ → List Subvalue → Type 0
PartsGiven plan n xs =
    (k : ℕ) (x : Subvalue) → slice_get xs k ≡ Some x → AllBelow n x.held.slots
    × (length x.held.slots ≡ words_needed plan x.held.ty)

-- the slots of each of xs represent the value's part at its position, where the value has one there
abbrev pub PartsHold : Plan → Bool → Value → List ℕ → Memory → List Subvalue → Type 0
PartsHold plan clean v s m xs =
    (k : ℕ) (x : Subvalue) → slice_get xs k ≡ Some x → (u : Value) → part_at v x.path ≡ Some u
    → Rep plan m clean x.held.ty u (slots_at s x.held.slots)

-- one of the parts xs is at the position, of data type t, and in these slots
abbrev pub IsPartIn : List Subvalue → List ℕ → ℕ → List ℕ → Type 0
IsPartIn xs path t words = (k : ℕ) × (x : Subvalue) × (slice_get xs k ≡ Some x) × (x.path ≡ path)
    × (x.held.ty ≡ Named t) × (x.held.slots ≡ words)

-- one of the parts xs is at the position, and the first that is there is of type ty
abbrev pub PartHasType : List Subvalue → List ℕ → Ty → Type 0
PartHasType xs path ty = (h : Held) × (subvalue_at xs path ≡ Some h) × (h.ty ≡ ty)

-- the parts xs have one at each of these open positions below `path`, of its type
abbrev pub HasOpens : List Open → List ℕ → List Subvalue → Type 0
HasOpens opens path xs = (k : ℕ) (o : Open) → slice_get opens k ≡ Some o → PartHasType xs (path ++ o.path) o.ty

-- Leaves -------------------------------------------------------------------------------------

-- type t has a leaf n, and its provenance has constructor k at its root
abbrev pub HasRootCon : List Layout → ℕ → ℕ → ℕ → Type 0
HasRootCon layouts t n k = (leaf : Leaf) × (leaf_at layouts t n ≡ Some leaf) × (is_leaf_for k leaf ≡ true)

-- type t has a layout, with `count` leaves
abbrev pub HasLeaves : List Layout → ℕ → ℕ → Type 0
HasLeaves layouts t count = (layout : Layout) × (layout_of layouts t ≡ Some layout) × (length layout.leaves ≡ count)

-- each of the numbers is that of a leaf of the layout for values of constructor k
abbrev pub AreLeavesOf : Layout → ℕ → List ℕ → Type 0
AreLeavesOf layout k leaves =
    (i n : ℕ) → slice_get leaves i ≡ Some n → (leaf : Leaf) × (slice_get layout.leaves n ≡ Some leaf)
    × (is_leaf_for k leaf ≡ true)

-- at positions that need no look any more, the value has the constructor that each of these leaves has there, if any
abbrev pub HasLooked : Layout → Value → List ℕ → List (List ℕ) → Type 0
HasLooked layout v leaves looked =
    (i n : ℕ) (leaf : Leaf) (j : ℕ) (h : HeadAt) → slice_get leaves i ≡ Some n → slice_get layout.leaves n ≡ Some leaf
    → slice_get (inner_heads leaf) j ≡ Some h → is_among looked h.path ≡ true → HasCon v h.path h.con.con

-- what is known is so of the value: it has these constructors, and at positions that need no look those of the leaves
abbrev pub Follows : Layout → Value → List ℕ → Seen → Type 0
Follows layout v leaves seen = HasAll (shown_heads seen.known) v × HasLooked layout v leaves seen.looked

-- the provenance of one of these leaves has a constructor of type s at `path`, below its root, and `path` is not
-- among `looked`: it needs a look still
pub record IsPlaceOf (layout : Layout) (leaves : List ℕ) (looked : List (List ℕ)) (path : List ℕ) (s : ℕ) : Type 0 where
  pub index : ℕ
  pub number : ℕ
  pub leaf : Leaf
  pub place : ℕ
  pub head : HeadAt
  pub is_number : slice_get leaves index ≡ Some number
  pub is_leaf : slice_get layout.leaves number ≡ Some leaf
  pub is_head : slice_get (inner_heads leaf) place ≡ Some head
  pub is_path : head.path ≡ path
  pub is_type : head.con.ty ≡ s
  pub is_new : is_among looked path ≡ false

-- Switches -----------------------------------------------------------------------------------

-- the most switches of a look at a place, and of rebuilding what the leaf there has taken apart
abbrev pub look_cost : List Layout → HeadAt → ℕ
look_cost layouts h = depth_of layouts (Named h.con.ty) + mend_of layouts h.con.ty

-- whether the position of h needs a look still: it is not among `looked`
abbrev pub is_left : List (List ℕ) → HeadAt → Bool
is_left looked h = not (is_among looked h.path)

-- the most switches by which a leaf for values of constructor k of type t is chosen, of looks and of the rebuilding
-- behind them, without those at positions that need no look any more
abbrev pub left_of : List Layout → ℕ → ℕ → List (List ℕ) → ℕ
left_of layouts t k looked = sum_by (look_cost layouts) (filter (is_left looked) (places_of layouts t k))

-- Ways ---------------------------------------------------------------------------------------

-- one of the ways has its jump at instruction pc
abbrev pub IsWayAt : List Way → ℕ → Type 0
IsWayAt ways pc = (k : ℕ) × (way : Way) × (slice_get ways k ≡ Some way) × (way.pc ≡ pc)

-- the jumps of the ways stand in the code, in order, from instruction `from` on
abbrev pub AreOpen : ℕ → List Instr → List Way → Type 0
AreOpen from code [] = Unit {0}
AreOpen from code (way ∷ ways) =
    (from ≤ way.pc) × ((t : ℕ) × (slice_get code way.pc ≡ Some (Jump t))) × AreOpen (way.pc + 1) code ways

-- the holes of the jumps of ways, the first of which is way k; a hole's `leaf` is the number of its way
abbrev pub holes_from : ℕ → List Way → List Hole
holes_from k [] = []
holes_from k (way ∷ ways) = record { pc = way.pc; arm = None; leaf = k } ∷ holes_from (k + 1) ways

-- the choice that these ways are: its holes are their jumps
abbrev pub choices_from : List Way → Choices
choices_from ways = record { holes = holes_from 0 ways; ways = ways }

-- the code new is old with more behind, in which the jumps of the ways stand, in order; it does what Does says
pub record AddsWays (old new : Sheet) (ways : List Way) (Does : Type 0) : Type 0 where
  pub grows : Grows old.code new.code
  pub are_open : AreOpen (length old.code) new.code ways
  pub does : Does

-- the end of a way to leaf n of type t: the code from old to new is its open jump, and its parts are xs, of which one
-- is at each open position of the leaf
pub record IsEndOf (agreed : LaidOut) (t n : ℕ) (xs : List Subvalue) (old new : Sheet) (way : Way) : Type 0 where
  pub leaf : Leaf
  pub is_leaf : leaf_at agreed.layouts t n ≡ Some leaf
  pub opens : HasOpens (opens_of agreed.covered.program.types leaf.prov (Named t)) [] xs
  pub is_way : way ≡ record { pc = length old.code; leaf = n; fields = xs }
  pub code : new ≡ with_more old (Jump (length old.code + 1))

-- there is one way, and it ends so
abbrev pub AreEndOf : LaidOut → ℕ → ℕ → List Subvalue → Sheet → Sheet → List Way → Type 0
AreEndOf agreed t n xs old new ways = (way : Way) × (ways ≡ way ∷ []) × IsEndOf agreed t n xs old new way

-- the way's leaf is one of the layout, and the way has parts at all its open positions, in slots below n
abbrev pub IsWayOf : Plan → Layout → ℕ → Way → Type 0
IsWayOf plan layout n way =
    (leaf : Leaf) × (slice_get layout.leaves way.leaf ≡ Some leaf)
    × AreGivenAt plan n (open_positions plan.program.types leaf.prov) way.fields

-- the leaf of each way is one of the layout, and the way has parts at all its open positions, in slots below n
abbrev pub AreWaysOf : Plan → Layout → ℕ → List Way → Type 0
AreWaysOf plan layout n ways = (k : ℕ) (way : Way) → slice_get ways k ≡ Some way → IsWayOf plan layout n way

-- where Pre holds, the code from old to new takes value v to the jump of one way, the same in all runs, which is of
-- leaf n, with at most `most` switches; the value has the parts of that way, and their slots represent them
pub record TakesOneWay (plan : Plan) (old new : Sheet) (ways : List Way) (v : Value) (n most : ℕ)
    (Pre : Bool → List ℕ → Memory → Type 0) : Type 0 where
  pub number : ℕ
  pub way : Way
  pub is_way : slice_get ways number ≡ Some way
  pub is_leaf : way.leaf ≡ n
  pub parts : HasParts plan.program.types v way.fields
  pub does : (clean : Bool) → CodePiece plan old.slots old new (IsWayAt ways) most (Pre clean)
      (λ pc s m. (pc ≡ way.pc) × PartsHold plan clean v s m way.fields)

-- Choosing -----------------------------------------------------------------------------------

-- what the choice of a leaf begins with: `plan` is one of the agreed program, `layout` is that of type t, `leaves`
-- are numbers of its leaves for values of constructor k, and the parts xs are in slots below n
pub record ChoiceIsReady (agreed : LaidOut) (plan : Plan) (t k : ℕ) (layout : Layout) (leaves : List ℕ)
    (xs : List Subvalue) (n : ℕ) : Type 0 where
  pub of : IsPlanOf agreed plan
  pub is_layout : layout_of plan.layouts t ≡ Some layout
  pub are_leaves : AreLeavesOf layout k leaves
  pub given : PartsGiven plan n xs

-- the code from old to new takes each value of type t and of one of the leaves, of which `seen` is known and whose
-- parts xs are in slots, to a way of its leaf, with at most the switches that are left for constructor k
pub record ChoosesWays (plan : Plan) (t k : ℕ) (layout : Layout) (leaves : List ℕ) (seen : Seen)
    (xs : List Subvalue) (old new : Sheet) (ways : List Way) : Type 0 where
  pub adds : Adds plan old new
  pub are_ways : AreWaysOf plan layout new.slots ways
  pub takes : (v : Value) → is_of_type plan.program.types v (Named t) ≡ true → HasParts plan.program.types v xs
      → Follows layout v leaves seen
      → (n i : ℕ) → leaf_of layout v ≡ Some n → slice_get leaves i ≡ Some n
      → TakesOneWay plan old new ways v n (left_of plan.layouts t k seen.looked)
      (λ clean s m. IsGood m × PartsHold plan clean v s m xs)

-- in every plan of the agreed program, the code from old to new takes each value of one of the leaves, of which
-- `seen` is known and whose parts xs are in slots, to a way of its leaf
abbrev pub ChoosesFrom : LaidOut → ℕ → List ℕ → Seen → List Subvalue → Sheet → Sheet → List Way → Type 0
ChoosesFrom agreed t leaves seen xs old new ways =
    (plan : Plan) (k : ℕ) (layout : Layout) → ChoiceIsReady agreed plan t k layout leaves xs old.slots
    → ChoosesWays plan t k layout leaves seen xs old new ways

-- as `ChoosesFrom`, by a look at `path`: one of the leaves has a constructor of type s there, which needs a look still
abbrev pub ChoosesBy : LaidOut → ℕ → List ℕ → Seen → List Subvalue → List ℕ → ℕ → Sheet → Sheet → List Way → Type 0
ChoosesBy agreed t leaves seen xs path s old new ways =
    (plan : Plan) (k : ℕ) (layout : Layout) → ChoiceIsReady agreed plan t k layout leaves xs old.slots
    → IsPlaceOf layout leaves seen.looked path s
    → ChoosesWays plan t k layout leaves seen xs old new ways

-- Below one leaf -----------------------------------------------------------------------------

-- `inner` is the layout of type s, and `words` are as many slots, all below n, as a value of s has words
pub record AreInnerWords (plan : Plan) (s : ℕ) (inner : Layout) (words : List ℕ) (n : ℕ) : Type 0 where
  pub is_inner : layout_of plan.layouts s ≡ Some inner
  pub below : AllBelow n words
  pub count : length words ≡ words_needed plan (Named s)

-- the code from old to new fetches fields of the part at `path`, of type s and leaf l, whose words are in the slots
-- `words`, perhaps none of them: the parts of the whole value that are in slots are xs before, and ys with them
pub record GivesFields (plan : Plan) (path : List ℕ) (s l : ℕ) (inner : Layout) (leaf : Leaf) (words : List ℕ)
    (old new : Sheet) (xs ys : List Subvalue) : Type 0 where
  pub adds : Adds plan old new
  pub fresh : List Subvalue
  pub more : ys ≡ xs ++ fresh
  pub given : PartsGiven plan new.slots fresh
  pub parts : (v u : Value) → part_at v path ≡ Some u → is_of_type plan.program.types u (Named s) ≡ true
      → leaf_of inner u ≡ Some l → HasParts plan.program.types v fresh
  pub does : (v u : Value) → part_at v path ≡ Some u → is_of_type plan.program.types u (Named s) ≡ true
      → leaf_of inner u ≡ Some l → (clean : Bool)
      → CodePiece plan old.slots old new Nowhere (mend_leaf (choose_of plan.layouts) leaf)
      (λ s1 m. IsGood m × Rep plan m clean (Named s) u (slots_at s1 words))
      (AtEnd new (λ s1 m. PartsHold plan clean v s1 m fresh))

-- in every plan of the agreed program, the code from old to new fetches parts of the whole, perhaps none, from the
-- part at `path`, of type s, whose leaf is l, and whose words are in slots; the parts are xs before and ys with them
abbrev pub FetchesFields : LaidOut → List ℕ → ℕ → ℕ → List ℕ → Sheet → Sheet → List Subvalue → List Subvalue → Type 0
FetchesFields agreed path s l words old new xs ys =
    (plan : Plan) (inner : Layout) (leaf : Leaf) → IsPlanOf agreed plan → AreInnerWords plan s inner words old.slots
    → slice_get inner.leaves l ≡ Some leaf → GivesFields plan path s l inner leaf words old new xs ys

-- where the part at `path`, of type s and with its words in slots, has leaf l, the code from old to new takes each
-- value of one of the leaves, of which `seen` is known, to a way of its leaf, with at most the switches that rebuild
-- what a leaf of type s has taken apart, and those that are left for constructor k behind a look at `path`
pub record ChoosesBelow (plan : Plan) (t k : ℕ) (layout : Layout) (leaves : List ℕ) (seen : Seen)
    (xs : List Subvalue) (path : List ℕ) (s : ℕ) (inner : Layout) (words : List ℕ) (l : ℕ)
    (old new : Sheet) (ways : List Way) : Type 0 where
  pub adds : Adds plan old new
  pub are_ways : AreWaysOf plan layout new.slots ways
  pub takes : (v u : Value) → is_of_type plan.program.types v (Named t) ≡ true → HasParts plan.program.types v xs
      → Follows layout v leaves seen
      → part_at v path ≡ Some u → is_of_type plan.program.types u (Named s) ≡ true → leaf_of inner u ≡ Some l
      → (n i : ℕ) → leaf_of layout v ≡ Some n → slice_get leaves i ≡ Some n
      → TakesOneWay plan old new ways v n
      (mend_of plan.layouts s + left_of plan.layouts t k (seen.looked ++ path ∷ []))
      (λ clean s1 m. IsGood m × PartsHold plan clean v s1 m xs × Rep plan m clean (Named s) u (slots_at s1 words))

-- in every plan of the agreed program, the code from old to new takes each value of one of the leaves to a way of its
-- leaf, where the part at `path`, of type s and with its words in slots, has leaf l
abbrev pub ChoosesUnder : LaidOut → ℕ → List ℕ → Seen → List Subvalue → List ℕ → ℕ → List ℕ → ℕ → Sheet → Sheet
    → List Way → Type 0
ChoosesUnder agreed t leaves seen xs path s words l old new ways =
    (plan : Plan) (k : ℕ) (layout inner : Layout) → ChoiceIsReady agreed plan t k layout leaves xs old.slots
    → AreInnerWords plan s inner words old.slots
    → ChoosesBelow plan t k layout leaves seen xs path s inner words l old new ways

-- the code of one leaf of a part, from instruction `start` on, stands behind e in longer code q; its own ways are
-- among all ways, and no other way has its jump in it
pub record BranchIn (e q : Sheet) (start : ℕ) (ways : List Way)
    (DoesBranch : Sheet → Sheet → List Way → Type 0) : Type 0 where
  pub first : Sheet
  pub last : Sheet
  pub own : List Way
  pub begins : start ≡ length first.code
  pub behind : length e.code ≤ length first.code
  pub low : e.slots ≤ first.slots
  pub longer : Grows last.code q.code
  pub more : last.slots ≤ q.slots
  pub among : (k : ℕ) (way : Way) → slice_get own k ≡ Some way → (j : ℕ) × (slice_get ways j ≡ Some way)
  pub alone : (pc : ℕ) → IsWayAt ways pc → length first.code ≤ pc → pc < length last.code → IsWayAt own pc
  pub does : DoesBranch first last own

-- each of the first `count` leaves of the part at `path` has its code behind e in the code q, from its start on: it
-- takes each value of one of the leaves, with that leaf there, to a way of its leaf
pub record BranchesStand (agreed : LaidOut) (plan : Plan) (t k : ℕ) (layout : Layout) (leaves : List ℕ)
    (seen : Seen) (xs : List Subvalue) (path : List ℕ) (s : ℕ) (inner : Layout) (words : List ℕ)
    (count : ℕ) (e q : Sheet) (starts : List ℕ) (ways : List Way) : Type 0 where
  pub adds : Adds plan e q
  pub are_ways : AreWaysOf plan layout q.slots ways
  pub each : (l : ℕ) → l < count
      → BranchIn e q (slice_index starts l) ways
      (λ first last own. ChoosesBelow plan t k layout leaves seen xs path s inner words l first last own)

-- the first `count` leaves of the part at `path` have their code behind e in the code q, each from its start on, in
-- every plan of the agreed program
pub record BranchesDone (agreed : LaidOut) (t : ℕ) (leaves : List ℕ) (seen : Seen) (xs : List Subvalue)
    (path : List ℕ) (s : ℕ) (words : List ℕ)
    (count : ℕ) (e q : Sheet) (starts : List ℕ) (ways : List Way) : Type 0 where
  pub grows : Grows e.code q.code
  pub starts_from : AllFrom (length e.code) starts
  pub starts_below : AllBelow (length q.code + 1) starts
  pub many : length starts ≡ count
  pub are_open : AreOpen (length e.code) q.code ways
  pub stand : (plan : Plan) (k : ℕ) (layout inner : Layout) → ChoiceIsReady agreed plan t k layout leaves xs e.slots
      → AreInnerWords plan s inner words e.slots
      → BranchesStand agreed plan t k layout leaves seen xs path s inner words count e q starts ways
