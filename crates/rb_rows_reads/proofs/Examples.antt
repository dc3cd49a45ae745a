-- Small programs made of the code that finds a leaf, reads a location, and reads fields, each with the run of it over a
-- worked image: the words that it returns, its switches, and the instructions that it begins. Slot 0 holds the value's
-- word.
use Rattle.std.proofs.Common.{◌≡◌, ℕ, List, [], ◌∷◌, ◌++◌, Some, None, refl}
use Rattle.rb_bytes.specs.Memory.{Memory, load_of}
use Rattle.rb_target.specs.declared.outcome.End.TheVariants.{Returned}
use Rattle.rb_target.specs.declared.instr.AluOp.TheVariants.{Mul}
use Rattle.rb_target.specs.declared.instr.Instr.{Instr}
use Rattle.rb_target.specs.declared.instr.Instr.TheVariants.{Const, Alu, Take, Load, Jump, Switch, Return}
use Rattle.rb_target.specs.declared.instr.SwitchArm.{SwitchArm}
use Rattle.rb_target.specs.Meaning.{CallEnd, over, from, enter, run_of}
use Rattle.rb_rel.proofs.Examples.{low, byte4, byte8, list_image, tree_image}

abbrev arm : ℕ → ℕ → SwitchArm
arm number target = record { number = number; target = target }

-- a function of one word that gives so many words, called once
abbrev run : ℕ → ℕ → List Instr → ℕ → Memory → CallEnd
run results slots body word m = run_of (record { name = []; params = 1; results = results; slots = slots; body = body } ∷ []) 1 0 (word ∷ []) m

-- words are returned, and the memory is as it was
abbrev gives : List ℕ → ℕ → ℕ → Memory → CallEnd
gives words switches taken m = over (Returned words 0) (record { left = 0; memory = m; switches = switches; taken = taken })

-- A list whose tag is the low bit of its pointer ------------------------------------------------
--
-- The image has Cons(2, Nil) at 64 and Cons(1, Cons(2, Nil)) at 80.

abbrev list_tag : List Instr
list_tag = Take 1 0 0 1 ∷ Return (1 ∷ []) ∷ []

cons_tag : run 1 2 list_tag 80 list_image ≡ gives (0 ∷ []) 0 2 list_image
unfolding from enter
cons_tag = refl

-- the number of the leaf: 0 is Nil, 1 is Cons
abbrev list_leaf : List Instr
list_leaf = Take 1 0 0 1 ∷ Switch 1 None (arm 1 2 ∷ arm 0 4 ∷ []) ∷ Const 2 0 ∷ Return (2 ∷ []) ∷ Const 2 1 ∷ Return (2 ∷ []) ∷ []

nil_found : run 1 3 list_leaf 1 list_image ≡ gives (0 ∷ []) 1 4 list_image
unfolding from enter
nil_found = refl

cons_found : run 1 3 list_leaf 80 list_image ≡ gives (1 ∷ []) 1 4 list_image
unfolding from enter
cons_found = refl

-- both fields of a Cons
abbrev cons_fields : List Instr
cons_fields =
    Take 1 0 3 61 ∷ Const 2 8 ∷ Alu Mul 64 3 1 2 ∷ Load 4 3 0 64
    ∷ Take 5 0 3 61 ∷ Const 6 8 ∷ Alu Mul 64 7 5 6 ∷ Load 8 7 8 64
    ∷ Return (4 ∷ 8 ∷ []) ∷ []

cons_read : run 2 9 cons_fields 80 list_image ≡ gives (1 ∷ 64 ∷ []) 0 9 list_image
unfolding from enter load_of
cons_read = refl

tail_read : run 2 9 cons_fields 64 list_image ≡ gives (2 ∷ 1 ∷ []) 0 9 list_image
unfolding from enter load_of
tail_read = refl

-- A tree whose colour is the low bit of its pointer ---------------------------------------------
--
-- The image has Node(Black, Empty, 7, Node(Red, Empty, 9, Empty)) at 88, and its right half at 76.

-- the number of the leaf: 0 is Empty, 1 is Node
abbrev tree_leaf : List Instr
tree_leaf = Take 1 0 0 32 ∷ Switch 1 (Some 4) (arm 0 2 ∷ []) ∷ Const 2 0 ∷ Return (2 ∷ []) ∷ Const 2 1 ∷ Return (2 ∷ []) ∷ []

empty_found : run 1 3 tree_leaf 0 tree_image ≡ gives (0 ∷ []) 1 4 tree_image
unfolding from enter
empty_found = refl

node_found : run 1 3 tree_leaf 0x59 tree_image ≡ gives (1 ∷ []) 1 4 tree_image
unfolding from enter
node_found = refl

-- the four fields of a Node
abbrev node_fields : List Instr
node_fields =
    Take 1 0 0 1
    ∷ Take 2 0 2 22 ∷ Const 3 4 ∷ Alu Mul 64 4 2 3 ∷ Load 5 4 4 32
    ∷ Take 6 0 2 22 ∷ Const 7 4 ∷ Alu Mul 64 8 6 7 ∷ Load 9 8 0 32
    ∷ Take 10 0 2 22 ∷ Const 11 4 ∷ Alu Mul 64 12 10 11 ∷ Load 13 12 8 32
    ∷ Return (1 ∷ 5 ∷ 9 ∷ 13 ∷ []) ∷ []

node_read : run 4 14 node_fields 0x59 tree_image ≡ gives (1 ∷ 0 ∷ 7 ∷ 76 ∷ []) 0 14 tree_image
unfolding from enter load_of
node_read = refl

-- A shape whose tag stands in its block -------------------------------------------------------------
--
-- The image has Box(1, 2) at 64.

abbrev shape_image : Memory
shape_image = record { limit = 1024; next = 73; blocks = (64, 9) ∷ []; bytes = low ++ (Some 1 ∷ (byte4 1 ++ byte4 2)) }

-- the tag behind the pointer
abbrev shape_tag : List Instr
shape_tag = Take 1 0 0 32 ∷ Const 2 4 ∷ Alu Mul 64 3 1 2 ∷ Load 4 3 0 8 ∷ Take 5 4 0 8 ∷ Return (5 ∷ []) ∷ []

box_tag : run 1 6 shape_tag 16 shape_image ≡ gives (1 ∷ []) 0 6 shape_image
unfolding from enter load_of
box_tag = refl

-- the number of the leaf: 0 is Dot, 1 is Box
abbrev shape_leaf : List Instr
shape_leaf =
    Take 1 0 0 32 ∷ Const 2 4 ∷ Alu Mul 64 3 1 2 ∷ Load 4 3 0 8 ∷ Take 5 4 0 8 ∷ Switch 5 None (arm 0 6 ∷ arm 1 8 ∷ [])
    ∷ Const 6 0 ∷ Return (6 ∷ []) ∷ Const 6 1 ∷ Return (6 ∷ []) ∷ []

box_found : run 1 7 shape_leaf 16 shape_image ≡ gives (1 ∷ []) 1 8 shape_image
unfolding from enter load_of
box_found = refl

-- both fields of a Box
abbrev box_fields : List Instr
box_fields =
    Take 1 0 0 32 ∷ Const 2 4 ∷ Alu Mul 64 3 1 2 ∷ Load 4 3 1 32
    ∷ Take 5 0 0 32 ∷ Const 6 4 ∷ Alu Mul 64 7 5 6 ∷ Load 8 7 5 32
    ∷ Return (4 ∷ 8 ∷ []) ∷ []

box_read : run 2 9 box_fields 16 shape_image ≡ gives (1 ∷ 2 ∷ []) 0 9 shape_image
unfolding from enter load_of
box_read = refl

-- A pair with one block inside the other --------------------------------------------------------------
--
-- The image has Two(5, 6) at 72, its second field at 64.

abbrev pair_image : Memory
pair_image = record { limit = 1024; next = 88; blocks = (64, 8) ∷ (72, 16) ∷ []; bytes = low ++ (byte8 6 ++ (byte8 5 ++ byte8 8)) }

-- the only leaf
abbrev pair_leaf : List Instr
pair_leaf = Jump 1 ∷ Const 1 0 ∷ Return (1 ∷ []) ∷ []

pair_found : run 1 2 pair_leaf 9 pair_image ≡ gives (0 ∷ []) 0 3 pair_image
unfolding from enter
pair_found = refl

-- both fields
abbrev pair_fields : List Instr
pair_fields =
    Take 1 0 0 64 ∷ Const 2 8 ∷ Alu Mul 64 3 1 2 ∷ Load 4 3 0 64
    ∷ Take 5 0 0 64 ∷ Const 6 8 ∷ Alu Mul 64 7 5 6 ∷ Load 8 7 8 64 ∷ Take 9 8 0 64 ∷ Const 10 8 ∷ Alu Mul 64 11 9 10 ∷ Load 12 11 0 64
    ∷ Return (4 ∷ 12 ∷ []) ∷ []

pair_read : run 2 13 pair_fields 9 pair_image ≡ gives (5 ∷ 6 ∷ []) 0 13 pair_image
unfolding from enter load_of
pair_read = refl

-- A tree whose nodes have their colour in the provenance -------------------------------------------
--
-- The image has a node of 7 and two empty trees at 64. The colour is told by the pointer's low bit, and stands in no
-- part.

abbrev apart_image : Memory
apart_image = record { limit = 76; next = 76; blocks = (64, 12) ∷ []; bytes = low ++ (byte4 7 ++ (byte4 0 ++ byte4 0)) }

-- the number of the leaf: 0 is Empty, 1 a red Node, 2 a black one
abbrev apart_leaf : List Instr
apart_leaf =
    Take 1 0 0 32 ∷ Switch 1 (Some 2) (arm 0 4 ∷ []) ∷ Take 2 0 0 1 ∷ Switch 2 None (arm 0 6 ∷ arm 1 8 ∷ [])
    ∷ Const 3 0 ∷ Return (3 ∷ []) ∷ Const 3 1 ∷ Return (3 ∷ []) ∷ Const 3 2 ∷ Return (3 ∷ []) ∷ []

leafless_found : run 1 4 apart_leaf 0 apart_image ≡ gives (0 ∷ []) 1 4 apart_image
unfolding from enter
leafless_found = refl

red_found : run 1 4 apart_leaf 0x40 apart_image ≡ gives (1 ∷ []) 2 6 apart_image
unfolding from enter
red_found = refl

black_found : run 1 4 apart_leaf 0x41 apart_image ≡ gives (2 ∷ []) 2 6 apart_image
unfolding from enter
black_found = refl

-- in the leaf of a colour: the colour, which is rebuilt without a read, and the number
abbrev coloured_fields : ℕ → List Instr
coloured_fields color = Const 1 color ∷ Take 2 0 2 22 ∷ Const 3 4 ∷ Alu Mul 64 4 2 3 ∷ Load 5 4 0 32 ∷ Return (1 ∷ 5 ∷ []) ∷ []

red_read : run 2 6 (coloured_fields 0) 0x40 apart_image ≡ gives (0 ∷ 7 ∷ []) 0 6 apart_image
unfolding from enter load_of
red_read = refl

black_read : run 2 6 (coloured_fields 1) 0x41 apart_image ≡ gives (1 ∷ 7 ∷ []) 0 6 apart_image
unfolding from enter load_of
black_read = refl
