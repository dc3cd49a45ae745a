-- Flat forms of written layouts, each computed.
use Rattle.std.proofs.Common.{◌≡◌, ℕ, refl, List, [], ◌∷◌, Some, None, arith}
use Rattle.rb_core.specs.declared.types.Ty.{Ty}
use Rattle.rb_core.specs.declared.types.Ty.TheVariants.{Int, Named}
use Rattle.rb_core.specs.declared.types.ConRef.{ConRef}
use Rattle.rb_core.specs.declared.types.DataDecl.{DataDecl}
use Rattle.rb_core.specs.declared.pattern.Pat as Q
use Rattle.rb_core.specs.declared.pattern.Pat.{Pat}
use Rattle.rb_core.specs.declared.program.Program.{Program}
use Rattle.rb_core.specs.declared.layout_decl.Loc.{Loc}
use Rattle.rb_core.specs.declared.layout_decl.LayItem.{LayItem}
use Rattle.rb_core.specs.declared.layout_decl.LayItem as I
use Rattle.rb_core.specs.declared.layout_decl.PartKind.{PartKind}
use Rattle.rb_core.specs.declared.layout_decl.PartKind as K
use Rattle.rb_core.specs.declared.layout_decl.PartDecl.{PartDecl}
use Rattle.rb_core.specs.declared.layout_decl.Arm.{Arm}
use Rattle.rb_core.specs.declared.layout_decl.LayTree.{LayTree}
use Rattle.rb_core.specs.declared.layout_decl.LayTree as S
use Rattle.rb_core.specs.declared.layout_decl.LayoutDecl.{LayoutDecl}
use Rattle.rb_layout.specs.declared.layout.Layout.{Layout}
use Rattle.rb_layout.specs.declared.layout.Leaf.{Leaf}
use Rattle.rb_layout.specs.declared.layout.Block.{Block}
use Rattle.rb_layout.specs.declared.layout.FlatWord.{FlatWord}
use Rattle.rb_layout.specs.declared.layout.Part.{Part}
use Rattle.rb_layout.specs.declared.layout.Kind.{Kind}
use Rattle.rb_layout.specs.declared.layout.Kind.TheVariants.{Const, Bits, Word, Pointer}
use Rattle.rb_layout.specs.declared.layout.FlatTree as T
use Rattle.rb_layout.specs.declared.layout.FlatArm.{FlatArm}
use Rattle.rb_layout.specs.Flattening.{flat_layouts}
use Rattle.rb_layout.specs.Words.{size_of, begins_at}
use Rattle.rb_layout.specs.Locations.{reached_at, number_known}
use Rattle.rb_layout.specs.Excluded.{HasNull, Bars, null}
use Rattle.rb_layout.specs.A6.{times_held}
use Rattle.rb_layout.proofs.Computing.{flat_rules}

-- Writing ---------------------------------------------------------------------------------------

abbrev data_type : List (List Ty) → DataDecl
data_type [] = record { name = []; cons = [] }
data_type (fields ∷ rest) = record { name = []; cons = record { name = []; fields = fields } ∷ (data_type rest).cons }

abbrev con : ℕ → ℕ → ConRef
con t c = record { ty = t; con = c }

abbrev any : Pat
any = Q.Wild 0

abbrev by : ℕ → ℕ → List Pat → Pat
by t c ps = Q.Con 0 (con t c) ps

abbrev written : ℕ → ℕ → PartKind → PartDecl
written o l kind = record { o = o; l = l; kind = kind }

abbrev laid_out : ℕ → List ℕ → LayTree → LayoutDecl
laid_out t shape tree = record { at = 0; ty = t; shape = shape; tree = tree }

abbrev arm : ℕ → LayTree → Arm
arm c tree = record { literal = c; under = tree }

abbrev program_of : List DataDecl → List LayoutDecl → Program
program_of types layouts = record { types = types; layouts = layouts; funs = []; main = 0 }

abbrev root : ℕ → ℕ → ℕ → Loc
root w o l = record { word = w; o = o; l = l; steps = [] }

-- Flat forms --------------------------------------------------------------------------------------

abbrev part : ℕ → ℕ → Kind → Part
part o l kind = record { o = o; l = l; kind = kind }

abbrev word : ℕ → List Part → FlatWord
word width parts = record { width = width; parts = parts }

abbrev block : ℕ → List FlatWord → Block
block align words = record { align = align; words = words }

abbrev leaf : Pat → List FlatWord → List Block → Leaf
leaf prov words blocks = record { prov = prov; root = words; blocks = blocks }

abbrev flat_arm : ℕ → ℕ → FlatArm
flat_arm c n = record { literal = c; under = T.Leaf n }

-- type Bit = Off | On;
-- layout Bit <8> = split 0[0:1] { 0 => Off : { word 8 { [0:1] = 0 } } 1 => On : { word 8 { [0:1] = 1 } } };
abbrev bit : Program
bit = program_of (data_type ([] ∷ [] ∷ []) ∷ [])
    (laid_out 0 (8 ∷ []) (S.Split (root 0 0 1)
    (arm 0 (S.Leaf 0 (by 0 0 []) (I.Word 8 (written 0 1 (K.Const 0) ∷ []) ∷ []))
    ∷ arm 1 (S.Leaf 0 (by 0 1 []) (I.Word 8 (written 0 1 (K.Const 1) ∷ []) ∷ [])) ∷ []) None) ∷ [])

bit_is : flat_layouts bit ≡ record {
  ty = 0;
  shape = 8 ∷ [];
  tree = T.Split (root 0 0 1) (flat_arm 0 0 ∷ flat_arm 1 1 ∷ []) None;
  leaves = leaf (by 0 0 []) (word 8 (part 0 1 (Const 0) ∷ []) ∷ []) [] ∷ leaf (by 0 1 []) (word 8 (part 0 1 (Const 1) ∷ []) ∷ []) [] ∷ [];
} ∷ []
bit_is = simp flat_rules

-- type List = Nil | Cons(u64, List); layout List <64> = split 0[0:1] { 1 => Nil : { word 64 { [0:1] = 1 } }
-- 0 => Cons(_, _) : { word 64 { [0:1] = 0, [3:61] -> 8 { word 64 { [0:64] .0 }, inline .1 } } } };
abbrev list : Program
list = program_of (data_type ([] ∷ (Int 64 ∷ Named 0 ∷ []) ∷ []) ∷ [])
    (laid_out 0 (64 ∷ []) (S.Split (root 0 0 1)
    (arm 1 (S.Leaf 0 (by 0 0 []) (I.Word 64 (written 0 1 (K.Const 1) ∷ []) ∷ []))
    ∷ arm 0 (S.Leaf 0 (by 0 1 (any ∷ any ∷ [])) (I.Word 64 (written 0 1 (K.Const 0)
    ∷ written 3 61 (K.Pointer 8 (I.Word 64 (written 0 64 (K.Whole (0 ∷ [])) ∷ []) ∷ I.Inline (1 ∷ []) ∷ [])) ∷ []) ∷ [])) ∷ []) None) ∷ [])

list_is : flat_layouts list ≡ record {
  ty = 0;
  shape = 64 ∷ [];
  tree = T.Split (root 0 0 1) (flat_arm 1 0 ∷ flat_arm 0 1 ∷ []) None;
  leaves =
      leaf (by 0 0 []) (word 64 (part 0 1 (Const 1) ∷ []) ∷ []) []
      ∷ leaf (by 0 1 (any ∷ any ∷ [])) (word 64 (part 0 1 (Const 0) ∷ part 3 61 (Pointer 8 0) ∷ []) ∷ [])
      (block 8 (word 64 (part 0 64 (Bits (0 ∷ []) 0) ∷ []) ∷ word 64 (part 0 64 (Word (1 ∷ []) 0) ∷ []) ∷ []) ∷ []) ∷ [];
} ∷ []
list_is = simp flat_rules

-- The tag of a Nil is known, that of a Cons too; a pointer's bits are not
abbrev nil_leaf : Leaf
nil_leaf = leaf (by 0 0 []) (word 64 (part 0 1 (Const 1) ∷ []) ∷ []) []

abbrev cons_leaf : Leaf
cons_leaf = leaf (by 0 1 (any ∷ any ∷ [])) (word 64 (part 0 1 (Const 0) ∷ part 3 61 (Pointer 8 0) ∷ []) ∷ [])
    (block 8 (word 64 (part 0 64 (Bits (0 ∷ []) 0) ∷ []) ∷ word 64 (part 0 64 (Word (1 ∷ []) 0) ∷ []) ∷ []) ∷ [])

nil_known : number_known nil_leaf (root 0 0 1) ≡ Some 1
nil_known = refl

cons_known : number_known cons_leaf (root 0 0 1) ≡ Some 0
cons_known = refl

cons_free : number_known cons_leaf (root 0 0 2) ≡ None
cons_free = refl

no_such_word : reached_at cons_leaf (root 1 0 1) ≡ None
no_such_word = refl

each_bit_once : times_held cons_leaf (Int 64) (0 ∷ []) 63 ≡ 1
each_bit_once = refl

rest_once : times_held cons_leaf (Named 0) (1 ∷ []) 0 ≡ 1
rest_once = refl

-- type Color = Red | Black;
-- layout Color <1> = split 0[0:1] { 0 => Red : { word 1 { [0:1] = 0 } } 1 => Black : { word 1 { [0:1] = 1 } } };
abbrev color_type : DataDecl
color_type = data_type ([] ∷ [] ∷ [])

abbrev color_layout : LayoutDecl
color_layout = laid_out 0 (1 ∷ []) (S.Split (root 0 0 1)
    (arm 0 (S.Leaf 0 (by 0 0 []) (I.Word 1 (written 0 1 (K.Const 0) ∷ []) ∷ []))
    ∷ arm 1 (S.Leaf 0 (by 0 1 []) (I.Word 1 (written 0 1 (K.Const 1) ∷ []) ∷ [])) ∷ []) None)

abbrev color_flat : Layout
color_flat = record {
  ty = 0;
  shape = 1 ∷ [];
  tree = T.Split (root 0 0 1) (flat_arm 0 0 ∷ flat_arm 1 1 ∷ []) None;
  leaves = leaf (by 0 0 []) (word 1 (part 0 1 (Const 0) ∷ []) ∷ []) [] ∷ leaf (by 0 1 []) (word 1 (part 0 1 (Const 1) ∷ []) ∷ []) [] ∷ [];
}

-- type Tree = Empty | Node(Color, Tree, u32, Tree);
abbrev tree_type : DataDecl
tree_type = data_type ([] ∷ (Named 0 ∷ Named 1 ∷ Int 32 ∷ Named 1 ∷ []) ∷ [])

-- { word 32 { [0:32] .2 }, inline .1, inline .3 }
abbrev node_items : List LayItem
node_items = I.Word 32 (written 0 32 (K.Whole (2 ∷ [])) ∷ []) ∷ I.Inline (1 ∷ []) ∷ I.Inline (3 ∷ []) ∷ []

abbrev node_block : Block
node_block = block 4 (word 32 (part 0 32 (Bits (2 ∷ []) 0) ∷ []) ∷ word 32 (part 0 32 (Word (1 ∷ []) 0) ∷ []) ∷ word 32 (part 0 32 (Word (3 ∷ []) 0) ∷ []) ∷ [])

abbrev empty_written : LayTree
empty_written = S.Leaf 0 (by 1 0 []) (I.Word 32 (written 0 32 (K.Const 0) ∷ []) ∷ [])

abbrev empty_leaf : Leaf
empty_leaf = leaf (by 1 0 []) (word 32 (part 0 32 (Const 0) ∷ []) ∷ []) []

-- layout Tree <32> = split 0[0:32] { 0 => Empty : { word 32 { [0:32] = 0 } }
-- else => Node(_, _, _, _) : { word 32 { [0:1] .0, [2:22] -> 4 { word 32 { [0:32] .2 }, inline .1, inline .3 } } } };
abbrev tree_layout : LayoutDecl
tree_layout = laid_out 1 (32 ∷ []) (S.Split (root 0 0 32) (arm 0 empty_written ∷ [])
    (Some (S.Leaf 0 (by 1 1 (any ∷ any ∷ any ∷ any ∷ [])) (I.Word 32 (written 0 1 (K.Whole (0 ∷ [])) ∷ written 2 22 (K.Pointer 4 node_items) ∷ []) ∷ []))))

abbrev node_leaf : Leaf
node_leaf = leaf (by 1 1 (any ∷ any ∷ any ∷ any ∷ [])) (word 32 (part 0 1 (Word (0 ∷ []) 0) ∷ part 2 22 (Pointer 4 0) ∷ []) ∷ []) (node_block ∷ [])

abbrev tree_flat : Layout
tree_flat = record {
  ty = 1;
  shape = 32 ∷ [];
  tree = T.Split (root 0 0 32) (flat_arm 0 0 ∷ []) (Some (T.Leaf 1));
  leaves = empty_leaf ∷ node_leaf ∷ [];
}

trees_are : flat_layouts (program_of (color_type ∷ tree_type ∷ []) (color_layout ∷ tree_layout ∷ [])) ≡ color_flat ∷ tree_flat ∷ []
trees_are = simp flat_rules

-- a node is never 0: no block has address 0
node_null : HasNull (word 32 (part 0 1 (Word (0 ∷ []) 0) ∷ part 2 22 (Pointer 4 0) ∷ [])) 0 32 0
node_null = record {
  number = 1;
  part = part 2 22 (Pointer 4 0);
  align = 4;
  block = 0;
  is_part = refl;
  is_pointer = refl;
  first = omega arith;
  last = omega arith;
  zeros = refl;
}

node_excludes : Bars (color_type ∷ tree_type ∷ []) (color_flat ∷ tree_flat ∷ []) node_leaf (word 32 (part 0 1 (Word (0 ∷ []) 0) ∷ part 2 22 (Pointer 4 0) ∷ [])) 0 32 0
node_excludes = null node_leaf (word 32 (part 0 1 (Word (0 ∷ []) 0) ∷ part 2 22 (Pointer 4 0) ∷ [])) 0 32 0 node_null

node_size : size_of node_block ≡ 12
node_size = refl

-- the same trees with a leaf for each colour:
-- else => split 0[0:1] { 0 => Node(Red, _, _, _) : { word 32 { [0:1] = 0, [2:22] -> 4 {..} } }
-- 1 => Node(Black, _, _, _) : {..} }
abbrev colored : ℕ → Pat
colored c = by 1 1 (by 0 c [] ∷ any ∷ any ∷ any ∷ [])

abbrev colored_written : ℕ → LayTree
colored_written c = S.Leaf 0 (colored c) (I.Word 32 (written 0 1 (K.Const c) ∷ written 2 22 (K.Pointer 4 node_items) ∷ []) ∷ [])

abbrev colored_leaf : ℕ → Leaf
colored_leaf c = leaf (colored c) (word 32 (part 0 1 (Const c) ∷ part 2 22 (Pointer 4 0) ∷ []) ∷ []) (node_block ∷ [])

colored_are : flat_layouts (program_of (color_type ∷ tree_type ∷ []) (color_layout ∷ laid_out 1 (32 ∷ []) (S.Split (root 0 0 32) (arm 0 empty_written ∷ [])
    (Some (S.Split (root 0 0 1) (arm 0 (colored_written 0) ∷ arm 1 (colored_written 1) ∷ []) None))) ∷ []))
    ≡ color_flat ∷ record {
      ty = 1;
      shape = 32 ∷ [];
      tree = T.Split (root 0 0 32) (flat_arm 0 0 ∷ []) (Some (T.Split (root 0 0 1) (flat_arm 0 1 ∷ flat_arm 1 2 ∷ []) None));
      leaves = empty_leaf ∷ colored_leaf 0 ∷ colored_leaf 1 ∷ [];
    } ∷ []
colored_are = simp flat_rules

-- type Opt = No | Yes(Tree);
-- layout Opt <32> = split 0[0:32] { 1 => No : { word 32 { [0:32] = 1 } } else => Yes(_) : { word 32 { [0:32] .0 } } };
options_are : flat_layouts (program_of (color_type ∷ tree_type ∷ data_type ([] ∷ (Named 1 ∷ []) ∷ []) ∷ []) (color_layout ∷ tree_layout ∷ laid_out 2 (32 ∷ [])
    (S.Split (root 0 0 32) (arm 1 (S.Leaf 0 (by 2 0 []) (I.Word 32 (written 0 32 (K.Const 1) ∷ []) ∷ [])) ∷ [])
    (Some (S.Leaf 0 (by 2 1 (any ∷ [])) (I.Word 32 (written 0 32 (K.Whole (0 ∷ [])) ∷ []) ∷ [])))) ∷ []))
    ≡ color_flat ∷ tree_flat ∷ record {
      ty = 2;
      shape = 32 ∷ [];
      tree = T.Split (root 0 0 32) (flat_arm 1 0 ∷ []) (Some (T.Leaf 1));
      leaves = leaf (by 2 0 []) (word 32 (part 0 32 (Const 1) ∷ []) ∷ []) [] ∷ leaf (by 2 1 (any ∷ [])) (word 32 (part 0 32 (Word (0 ∷ []) 0) ∷ []) ∷ []) [] ∷ [];
    } ∷ []
options_are = simp flat_rules

-- type Instr = Branch(u3, u5, u5, u12);
-- layout Instr <32> = Branch(_, _, _, _) : { word 32 { [0:7] = 99, [7:1] .3[10:1], [8:4] .3[0:4],
-- [12:3] .0, [15:5] .1, [20:5] .2, [25:6] .3[4:6], [31:1] .3[11:1] } };
abbrev branch_leaf : Leaf
branch_leaf = leaf (by 0 0 (any ∷ any ∷ any ∷ any ∷ [])) (word 32 (part 0 7 (Const 99) ∷ part 7 1 (Bits (3 ∷ []) 10) ∷ part 8 4 (Bits (3 ∷ []) 0)
    ∷ part 12 3 (Bits (0 ∷ []) 0) ∷ part 15 5 (Bits (1 ∷ []) 0) ∷ part 20 5 (Bits (2 ∷ []) 0) ∷ part 25 6 (Bits (3 ∷ []) 4) ∷ part 31 1 (Bits (3 ∷ []) 11) ∷ []) ∷ []) []

branch_is : flat_layouts (program_of (data_type ((Int 3 ∷ Int 5 ∷ Int 5 ∷ Int 12 ∷ []) ∷ []) ∷ []) (laid_out 0 (32 ∷ [])
    (S.Leaf 0 (by 0 0 (any ∷ any ∷ any ∷ any ∷ [])) (I.Word 32 (written 0 7 (K.Const 99) ∷ written 7 1 (K.Slice (3 ∷ []) 10 1) ∷ written 8 4 (K.Slice (3 ∷ []) 0 4)
    ∷ written 12 3 (K.Whole (0 ∷ [])) ∷ written 15 5 (K.Whole (1 ∷ [])) ∷ written 20 5 (K.Whole (2 ∷ [])) ∷ written 25 6 (K.Slice (3 ∷ []) 4 6)
    ∷ written 31 1 (K.Slice (3 ∷ []) 11 1) ∷ []) ∷ [])) ∷ []))
    ≡ record { ty = 0; shape = 32 ∷ []; tree = T.Leaf 0; leaves = branch_leaf ∷ [] } ∷ []
branch_is = simp flat_rules

bit_10_once : times_held branch_leaf (Int 12) (3 ∷ []) 10 ≡ 1
bit_10_once = refl

bit_9_once : times_held branch_leaf (Int 12) (3 ∷ []) 9 ≡ 1
bit_9_once = refl

-- type Shape = Dot(u8) | Box(u32, u32); layout Shape <32> = split 0[0:32] -> 4 @0:8[0:8] {
-- 0 => Dot(_) : { word 32 { [0:32] -> 4 { word 8 { [0:8] = 0 }, word 8 { [0:8] .0 } } } }
-- 1 => Box(_, _) : { word 32 { [0:32] -> 4 {
-- word 8 { [0:8] = 1 }, word 32 { [0:32] .0 }, word 32 { [0:32] .1 } } } } };
abbrev tag : Loc
tag = record { word = 0; o = 0; l = 32; steps = record { align = 4; byte = 0; width = 8; o = 0; l = 8 } ∷ [] }

abbrev dot_leaf : Leaf
dot_leaf = leaf (by 0 0 (any ∷ [])) (word 32 (part 0 32 (Pointer 4 0) ∷ []) ∷ []) (block 4 (word 8 (part 0 8 (Const 0) ∷ []) ∷ word 8 (part 0 8 (Bits (0 ∷ []) 0) ∷ []) ∷ []) ∷ [])

abbrev box_block : Block
box_block = block 4 (word 8 (part 0 8 (Const 1) ∷ []) ∷ word 32 (part 0 32 (Bits (0 ∷ []) 0) ∷ []) ∷ word 32 (part 0 32 (Bits (1 ∷ []) 0) ∷ []) ∷ [])

abbrev box_leaf : Leaf
box_leaf = leaf (by 0 1 (any ∷ any ∷ [])) (word 32 (part 0 32 (Pointer 4 0) ∷ []) ∷ []) (box_block ∷ [])

shapes_are : flat_layouts (program_of (data_type ((Int 8 ∷ []) ∷ (Int 32 ∷ Int 32 ∷ []) ∷ []) ∷ []) (laid_out 0 (32 ∷ []) (S.Split tag
    (arm 0 (S.Leaf 0 (by 0 0 (any ∷ [])) (I.Word 32 (written 0 32 (K.Pointer 4 (I.Word 8 (written 0 8 (K.Const 0) ∷ []) ∷ I.Word 8 (written 0 8 (K.Whole (0 ∷ [])) ∷ []) ∷ [])) ∷ []) ∷ []))
    ∷ arm 1 (S.Leaf 0 (by 0 1 (any ∷ any ∷ [])) (I.Word 32 (written 0 32 (K.Pointer 4 (I.Word 8 (written 0 8 (K.Const 1) ∷ [])
    ∷ I.Word 32 (written 0 32 (K.Whole (0 ∷ [])) ∷ []) ∷ I.Word 32 (written 0 32 (K.Whole (1 ∷ [])) ∷ []) ∷ [])) ∷ []) ∷ [])) ∷ []) None) ∷ []))
    ≡ record { ty = 0; shape = 32 ∷ []; tree = T.Split tag (flat_arm 0 0 ∷ flat_arm 1 1 ∷ []) None; leaves = dot_leaf ∷ box_leaf ∷ [] } ∷ []
shapes_are = simp flat_rules

dot_known : number_known dot_leaf tag ≡ Some 0
dot_known = refl

box_known : number_known box_leaf tag ≡ Some 1
box_known = refl

-- the second word begins behind one byte
box_size : size_of box_block ≡ 9
box_size = refl

box_second : begins_at box_block.words 2 ≡ 5
box_second = refl

-- type Pair = Two(u64, u64);
-- layout Pair <64> = Two(_, _) : { word 64 { [0:64] -> 8 {
-- word 64 { [0:64] .0 }, word 64 { [0:64] -> 8 { word 64 { [0:64] .1 } } } } } };
pair_is : flat_layouts (program_of (data_type ((Int 64 ∷ Int 64 ∷ []) ∷ []) ∷ []) (laid_out 0 (64 ∷ []) (S.Leaf 0 (by 0 0 (any ∷ any ∷ []))
    (I.Word 64 (written 0 64 (K.Pointer 8 (I.Word 64 (written 0 64 (K.Whole (0 ∷ [])) ∷ [])
    ∷ I.Word 64 (written 0 64 (K.Pointer 8 (I.Word 64 (written 0 64 (K.Whole (1 ∷ [])) ∷ []) ∷ [])) ∷ []) ∷ [])) ∷ []) ∷ [])) ∷ []))
    ≡ record {
      ty = 0;
      shape = 64 ∷ [];
      tree = T.Leaf 0;
      leaves = leaf (by 0 0 (any ∷ any ∷ [])) (word 64 (part 0 64 (Pointer 8 1) ∷ []) ∷ [])
          (block 8 (word 64 (part 0 64 (Bits (1 ∷ []) 0) ∷ []) ∷ []) ∷ block 8 (word 64 (part 0 64 (Bits (0 ∷ []) 0) ∷ []) ∷ word 64 (part 0 64 (Pointer 8 0) ∷ []) ∷ []) ∷ []) ∷ [];
    } ∷ []
pair_is = simp flat_rules
