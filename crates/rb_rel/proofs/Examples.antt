-- Worked images, each computed: where the blocks of a value are placed, and that the root words and the
-- blocks' bytes represent it cleanly.
use Rattle.std.proofs.Common.{◌≡◌, ℕ, zero, suc, length, replicate, List, [], ◌∷◌, ◌++◌, true, Option, Some, None, refl, sym, ap, ◌∙◌, arith}
use Rattle.std.specs.Prelude.{slice_get}
use Rattle.rb_core.specs.declared.value.Value.{Value, Num, Con}
use Rattle.rb_core.specs.declared.types.Ty.{Ty}
use Rattle.rb_core.specs.declared.types.Ty.TheVariants.{Int, Named}
use Rattle.rb_core.specs.declared.types.DataDecl.{DataDecl}
use Rattle.rb_core.specs.declared.pattern.Pat.{Pat}
use Rattle.rb_core.specs.declared.pattern.Pat.TheVariants as Q
use Rattle.rb_core.specs.declared.layout_decl.Loc.{Loc}
use Rattle.rb_core.specs.declared.outcome.Event.{Event}
use Rattle.rb_core.specs.declared.outcome.Event.TheVariants.{Built}
use Rattle.rb_core.specs.Values.{part_at}
use Rattle.rb_core.proofs.ValueLaws.{value_rules}
use Rattle.rb_core.proofs.MatchingForms.{matching_rules}
use Rattle.rb_bytes.specs.Memory.{Memory, load_of}
use Rattle.rb_layout.specs.declared.layout.Leaf.{Leaf}
use Rattle.rb_layout.specs.declared.layout.FlatWord.{FlatWord}
use Rattle.rb_layout.specs.declared.layout.Part.{Part}
use Rattle.rb_layout.specs.declared.layout.Kind.{Kind}
use Rattle.rb_layout.specs.declared.layout.Kind.TheVariants.{Const, Bits, Word, Pointer}
use Rattle.rb_layout.specs.declared.layout.Layout.{Layout}
use Rattle.rb_layout.specs.declared.layout.FlatTree.TheVariants as T
use Rattle.rb_layout.specs.Positions.{Open, open_positions, leaf_of, layout_of}
use Rattle.rb_rel.specs.Relation.{Represents, number, built}
use Rattle.rb_rel.specs.Placing.{Fits, Over, lay, requests_of}
use Rattle.rb_rel.specs.Reading.{read_loc}
use Rattle.rb_rel.specs.Switches.{choose_of, look_of, mend_of}
use Rattle.rb_rel.proofs.Counting.{switch_rules}
use Rattle.rb_rel.specs.Answers.{making_of, all_makings}
use Rattle.rb_rel.proofs.Makings.{making-Num, making-Con}
use Rattle.rb_rel.proofs.Images.{AllOf, of_one, image_ok, image_is}
use Rattle.rb_rel.proofs.Opens.{opens-Con, opens-Wild}

abbrev address : List ℕ → ℕ → ℕ
address [] b = 0
address (a ∷ rest) zero = a
address (a ∷ rest) (suc b) = address rest b

abbrev words_at : List (List ℕ) → List ℕ → List ℕ
words_at wss [] = []
words_at [] (i ∷ path) = []
words_at (ws ∷ wss) (zero ∷ path) = ws
words_at (ws ∷ wss) (suc i ∷ path) = words_at wss (i ∷ path)

abbrev field_at : List Value → List ℕ → Value
field_at vs [] = Num 0
field_at [] (i ∷ path) = Num 0
field_at (v ∷ vs) (zero ∷ path) = v
field_at (v ∷ vs) (suc i ∷ path) = field_at vs (i ∷ path)

-- a value of a data type with a provenance of depth one: the words of its fields, the addresses of its
-- blocks, and its own words
module _ (types : List DataDecl) (layouts : List Layout) (m : Memory) (t k : ℕ) (vs : List Value) (layout : Layout) (n : ℕ) (leaf : Leaf) (os : List Open) where
  abbrev Fields : List (List ℕ) → List Open → Type 0
  Fields wss = AllOf (λ (o : Open). (part_at (Con k vs) o.path ≡ Some (field_at vs o.path)) × Represents types layouts m true o.ty (field_at vs o.path) (words_at wss o.path))

  shown : layout_of layouts t ≡ Some layout → leaf_of layout (Con k vs) ≡ Some n → slice_get layout.leaves n ≡ Some leaf → open_positions types leaf.prov ≡ os
      → (wss : List (List ℕ)) (addresses ws : List ℕ) → length ws ≡ length layout.shape → Fields wss os → image_ok (words_at wss) (address addresses) ws m leaf ≡ true
      → Represents types layouts m true (Named t) (Con k vs) ws
  shown is_layout is_leaf is_number opens wss addresses ws long fields ok =
      let open_is : (i : ℕ) (o : Open) → slice_get (open_positions types leaf.prov) i ≡ Some o → slice_get os i ≡ Some o = λ i o e. ap (λ (xs : List Open). slice_get xs i) (sym opens) ∙ e in
      built t (Con k vs) ws (record {
        layout = layout;
        number = n;
        leaf = leaf;
        is_layout = is_layout;
        is_leaf = is_leaf;
        is_number = is_number;
        shaped = long;
        subs = words_at wss;
        ats = address addresses;
        at = field_at vs;
        is_at = λ i o e. (of_one (λ (x : Open). (part_at (Con k vs) x.path ≡ Some (field_at vs x.path)) × Represents types layouts m true x.ty (field_at vs x.path) (words_at wss x.path)) os fields i o (open_is i o e)).0;
        placed = image_is (words_at wss) (address addresses) ws m leaf ok;
      }) (λ i o e. (of_one (λ (x : Open). (part_at (Con k vs) x.path ≡ Some (field_at vs x.path)) × Represents types layouts m true x.ty (field_at vs x.path) (words_at wss x.path)) os fields i o (open_is i o e)).1)

abbrev pub part : ℕ → ℕ → Kind → Part
part o l kind = record { o = o; l = l; kind = kind }

abbrev pub word : ℕ → List Part → FlatWord
word width parts = record { width = width; parts = parts }

abbrev pub con : ℕ → ℕ → List Pat → Pat
con t k ps = Q.Con 0 (record { ty = t; con = k }) ps

abbrev pub any : Pat
any = Q.Wild 0

abbrev open_at : ℕ → Ty → Open
open_at i ty = record { path = i ∷ []; ty = ty }

abbrev pub bit0 : Loc
bit0 = record { word = 0; o = 0; l = 1; steps = [] }

-- the bytes of a word
abbrev pub byte8 : ℕ → List (Option ℕ)
byte8 n = Some n ∷ Some 0 ∷ Some 0 ∷ Some 0 ∷ Some 0 ∷ Some 0 ∷ Some 0 ∷ Some 0 ∷ []

abbrev pub byte4 : ℕ → List (Option ℕ)
byte4 n = Some n ∷ Some 0 ∷ Some 0 ∷ Some 0 ∷ []

abbrev pub low : List (Option ℕ)
low = replicate {A = Option ℕ} 64 None

-- A list whose tag is the low bit of its pointer ------------------------------------------------
--
-- type List = Nil | Cons(u64, List);

abbrev pub list : List DataDecl
list = record { name = []; cons = record { name = []; fields = [] } ∷ record { name = []; fields = Int 64 ∷ Named 0 ∷ [] } ∷ [] } ∷ []

abbrev pub nil_leaf : Leaf
nil_leaf = record { prov = con 0 0 []; root = word 64 (part 0 1 (Const 1) ∷ []) ∷ []; blocks = [] }

abbrev pub cons_leaf : Leaf
cons_leaf = record {
  prov = con 0 1 (any ∷ any ∷ []);
  root = word 64 (part 0 1 (Const 0) ∷ part 3 61 (Pointer 8 0) ∷ []) ∷ [];
  blocks = record { align = 8; words = word 64 (part 0 64 (Bits (0 ∷ []) 0) ∷ []) ∷ word 64 (part 0 64 (Word (1 ∷ []) 0) ∷ []) ∷ [] } ∷ [];
}

abbrev pub list_layout : Layout
list_layout = record {
  ty = 0;
  shape = 64 ∷ [];
  tree = T.Split bit0 (record { literal = 1; under = T.Leaf 0 } ∷ record { literal = 0; under = T.Leaf 1 } ∷ []) None;
  leaves = nil_leaf ∷ cons_leaf ∷ [];
}

abbrev pub lists : List Layout
lists = list_layout ∷ []

abbrev pub nil : Value
nil = Con 0 []

abbrev pub two : Value
two = Con 1 (Num 2 ∷ nil ∷ [])

abbrev pub one_two : Value
one_two = Con 1 (Num 1 ∷ two ∷ [])

-- block 64 16 02000000000000000100000000000000, block 80 16 01000000000000004000000000000000
abbrev pub list_image : Memory
list_image = record { limit = 1024; next = 96; blocks = (64, 16) ∷ (80, 16) ∷ []; bytes = low ++ (byte8 2 ++ (byte8 1 ++ (byte8 1 ++ byte8 64))) }

list_placed : lay 1024 64 (requests_of lists (making_of list one_two (Named 0))) ≡ Fits ((64, 16) ∷ (80, 16) ∷ []) 96
list_placed = simp (making-Num, making-Con, matching_rules, value_rules)

nil_shown : Represents list lists list_image true (Named 0) nil (1 ∷ [])
nil_shown = shown list lists list_image 0 0 [] list_layout 0 nil_leaf [] refl (simp (matching_rules, value_rules)) refl (simp opens-Con) [] [] (1 ∷ []) refl tt refl

two_shown : Represents list lists list_image true (Named 0) two (64 ∷ [])
unfolding load_of
two_shown = shown list lists list_image 0 1 (Num 2 ∷ nil ∷ []) list_layout 1 cons_leaf (open_at 0 (Int 64) ∷ open_at 1 (Named 0) ∷ []) refl (simp (matching_rules, value_rules)) refl (simp (opens-Con, opens-Wild))
    ((2 ∷ []) ∷ (1 ∷ []) ∷ []) (64 ∷ []) (64 ∷ []) refl ((simp value_rules, number 64 2 (omega arith)), ((simp value_rules, nil_shown), tt)) refl

-- root 0x50
list_shown : Represents list lists list_image true (Named 0) one_two (0x50 ∷ [])
unfolding load_of
list_shown = shown list lists list_image 0 1 (Num 1 ∷ two ∷ []) list_layout 1 cons_leaf (open_at 0 (Int 64) ∷ open_at 1 (Named 0) ∷ []) refl (simp (matching_rules, value_rules)) refl (simp (opens-Con, opens-Wild))
    ((1 ∷ []) ∷ (64 ∷ []) ∷ []) (80 ∷ []) (80 ∷ []) refl ((simp value_rules, number 64 1 (omega arith)), ((simp value_rules, two_shown), tt)) refl

-- A tree whose colour is the low bit of its pointer ---------------------------------------------
--
-- type Color = Red | Black; type Tree = Empty | Node(Color, Tree, u32, Tree);

abbrev pub tree : List DataDecl
tree = record { name = []; cons = record { name = []; fields = [] } ∷ record { name = []; fields = [] } ∷ [] }
    ∷ record { name = []; cons = record { name = []; fields = [] } ∷ record { name = []; fields = Named 0 ∷ Named 1 ∷ Int 32 ∷ Named 1 ∷ [] } ∷ [] }
    ∷ []

abbrev pub red_leaf : Leaf
red_leaf = record { prov = con 0 0 []; root = word 1 (part 0 1 (Const 0) ∷ []) ∷ []; blocks = [] }

abbrev pub black_leaf : Leaf
black_leaf = record { prov = con 0 1 []; root = word 1 (part 0 1 (Const 1) ∷ []) ∷ []; blocks = [] }

abbrev pub color_layout : Layout
color_layout = record {
  ty = 0;
  shape = 1 ∷ [];
  tree = T.Split bit0 (record { literal = 0; under = T.Leaf 0 } ∷ record { literal = 1; under = T.Leaf 1 } ∷ []) None;
  leaves = red_leaf ∷ black_leaf ∷ [];
}

abbrev pub empty_leaf : Leaf
empty_leaf = record { prov = con 1 0 []; root = word 32 (part 0 32 (Const 0) ∷ []) ∷ []; blocks = [] }

abbrev pub node_leaf : Leaf
node_leaf = record {
  prov = con 1 1 (any ∷ any ∷ any ∷ any ∷ []);
  root = word 32 (part 0 1 (Word (0 ∷ []) 0) ∷ part 2 22 (Pointer 4 0) ∷ []) ∷ [];
  blocks = record {
    align = 4;
    words = word 32 (part 0 32 (Bits (2 ∷ []) 0) ∷ []) ∷ word 32 (part 0 32 (Word (1 ∷ []) 0) ∷ []) ∷ word 32 (part 0 32 (Word (3 ∷ []) 0) ∷ []) ∷ [];
  } ∷ [];
}

abbrev pub tree_layout : Layout
tree_layout = record {
  ty = 1;
  shape = 32 ∷ [];
  tree = T.Split (record { word = 0; o = 0; l = 32; steps = [] }) (record { literal = 0; under = T.Leaf 0 } ∷ []) (Some (T.Leaf 1));
  leaves = empty_leaf ∷ node_leaf ∷ [];
}

abbrev pub trees : List Layout
trees = color_layout ∷ tree_layout ∷ []

abbrev node : Value → Value → ℕ → Value → Value
node c l x r = Con 1 (c ∷ l ∷ Num x ∷ r ∷ [])

abbrev pub red : Value
red = Con 0 []

abbrev black : Value
black = Con 1 []

abbrev empty : Value
empty = Con 0 []

abbrev node_opens : List Open
node_opens = open_at 0 (Named 0) ∷ open_at 1 (Named 1) ∷ open_at 2 (Int 32) ∷ open_at 3 (Named 1) ∷ []

-- block 64 12 070000000000000000000000, block 76 12 090000000000000000000000, block 88 12 07000000000000004c000000
abbrev pub tree_image : Memory
tree_image = record {
  limit = 100;
  next = 100;
  blocks = (64, 12) ∷ (76, 12) ∷ (88, 12) ∷ [];
  bytes = low ++ (byte4 7 ++ (byte4 0 ++ (byte4 0 ++ (byte4 9 ++ (byte4 0 ++ (byte4 0 ++ (byte4 7 ++ (byte4 0 ++ byte4 76))))))));
}

abbrev seven : Value
seven = node black empty 7 empty

abbrev nine : Value
nine = node red empty 9 empty

abbrev seven_nine : Value
seven_nine = node black empty 7 nine

module _ where
  abbrev Tree : Value → ℕ → Type 0
  Tree v w = Represents tree trees tree_image true (Named 1) v (w ∷ [])

  red_shown : Represents tree trees tree_image true (Named 0) red (0 ∷ [])
  red_shown = shown tree trees tree_image 0 0 [] color_layout 0 red_leaf [] refl (simp (matching_rules, value_rules)) refl (simp opens-Con) [] [] (0 ∷ []) refl tt refl

  black_shown : Represents tree trees tree_image true (Named 0) black (1 ∷ [])
  black_shown = shown tree trees tree_image 0 1 [] color_layout 1 black_leaf [] refl (simp (matching_rules, value_rules)) refl (simp opens-Con) [] [] (1 ∷ []) refl tt refl

  empty_shown : Tree empty 0
  empty_shown = shown tree trees tree_image 1 0 [] tree_layout 0 empty_leaf [] refl (simp (matching_rules, value_rules)) refl (simp opens-Con) [] [] (0 ∷ []) refl tt refl

  -- root 0x41
  seven_shown : Tree seven 0x41
  unfolding load_of
  seven_shown = shown tree trees tree_image 1 1 (black ∷ empty ∷ Num 7 ∷ empty ∷ []) tree_layout 1 node_leaf node_opens refl (simp (matching_rules, value_rules)) refl (simp (opens-Con, opens-Wild))
      ((1 ∷ []) ∷ (0 ∷ []) ∷ (7 ∷ []) ∷ (0 ∷ []) ∷ []) (64 ∷ []) (65 ∷ []) refl
      ((simp value_rules, black_shown), ((simp value_rules, empty_shown), ((simp value_rules, number 32 7 (omega arith)), ((simp value_rules, empty_shown), tt)))) refl

  nine_shown : Tree nine 76
  unfolding load_of
  nine_shown = shown tree trees tree_image 1 1 (red ∷ empty ∷ Num 9 ∷ empty ∷ []) tree_layout 1 node_leaf node_opens refl (simp (matching_rules, value_rules)) refl (simp (opens-Con, opens-Wild))
      ((0 ∷ []) ∷ (0 ∷ []) ∷ (9 ∷ []) ∷ (0 ∷ []) ∷ []) (76 ∷ []) (76 ∷ []) refl
      ((simp value_rules, red_shown), ((simp value_rules, empty_shown), ((simp value_rules, number 32 9 (omega arith)), ((simp value_rules, empty_shown), tt)))) refl

  -- root 0x59
  seven_nine_shown : Tree seven_nine 0x59
  unfolding load_of
  seven_nine_shown = shown tree trees tree_image 1 1 (black ∷ empty ∷ Num 7 ∷ nine ∷ []) tree_layout 1 node_leaf node_opens refl (simp (matching_rules, value_rules)) refl (simp (opens-Con, opens-Wild))
      ((1 ∷ []) ∷ (0 ∷ []) ∷ (7 ∷ []) ∷ (76 ∷ []) ∷ []) (88 ∷ []) (89 ∷ []) refl
      ((simp value_rules, black_shown), ((simp value_rules, empty_shown), ((simp value_rules, number 32 7 (omega arith)), ((simp value_rules, nine_shown), tt)))) refl

-- the argument's block, and then those of the constructions that insertion makes
abbrev insertion : List Event
insertion = Built 1 empty ∷ Built 0 red ∷ Built 1 nine ∷ Built 1 seven_nine ∷ []

seven_placed : lay 76 64 (requests_of trees (making_of tree seven (Named 1))) ≡ Fits ((64, 12) ∷ []) 76
seven_placed = simp (making-Num, making-Con, matching_rules, value_rules)

inserted_placed : lay 100 64 (requests_of trees (making_of tree seven (Named 1) ++ insertion)) ≡ Fits ((64, 12) ∷ (76, 12) ∷ (88, 12) ∷ []) 100
inserted_placed = simp (making-Num, making-Con, matching_rules, value_rules)

-- region full: next 88, size 12, align 4, limit 99
inserted_over : lay 99 64 (requests_of trees (making_of tree seven (Named 1) ++ insertion)) ≡ Over (record { next = 88; size = 12; align = 4; limit = 99 })
inserted_over = simp (making-Num, making-Con, matching_rules, value_rules)

-- An instruction whose offset is scattered over its word -----------------------------------------
--
-- type Instr = Branch(u3, u5, u5, u12);

abbrev instr : List DataDecl
instr = record { name = []; cons = record { name = []; fields = Int 3 ∷ Int 5 ∷ Int 5 ∷ Int 12 ∷ [] } ∷ [] } ∷ []

abbrev branch_leaf : Leaf
branch_leaf = record {
  prov = con 0 0 (any ∷ any ∷ any ∷ any ∷ []);
  root = word 32 (
      part 0 7 (Const 99) ∷ part 7 1 (Bits (3 ∷ []) 10) ∷ part 8 4 (Bits (3 ∷ []) 0) ∷ part 12 3 (Bits (0 ∷ []) 0)
      ∷ part 15 5 (Bits (1 ∷ []) 0) ∷ part 20 5 (Bits (2 ∷ []) 0) ∷ part 25 6 (Bits (3 ∷ []) 4) ∷ part 31 1 (Bits (3 ∷ []) 11) ∷ []
      ) ∷ [];
  blocks = [];
}

abbrev instr_layout : Layout
instr_layout = record { ty = 0; shape = 32 ∷ []; tree = T.Leaf 0; leaves = branch_leaf ∷ [] }

abbrev instrs : List Layout
instrs = instr_layout ∷ []

abbrev no_blocks : Memory
no_blocks = record { limit = 64; next = 64; blocks = []; bytes = low }

-- root 0x208463
branch_shown : Represents instr instrs no_blocks true (Named 0) (Con 0 (Num 0 ∷ Num 1 ∷ Num 2 ∷ Num 4 ∷ [])) (0x208463 ∷ [])
branch_shown = shown instr instrs no_blocks 0 0 (Num 0 ∷ Num 1 ∷ Num 2 ∷ Num 4 ∷ []) instr_layout 0 branch_leaf
    (open_at 0 (Int 3) ∷ open_at 1 (Int 5) ∷ open_at 2 (Int 5) ∷ open_at 3 (Int 12) ∷ []) refl (simp (matching_rules, value_rules)) refl (simp (opens-Con, opens-Wild))
    ((0 ∷ []) ∷ (1 ∷ []) ∷ (2 ∷ []) ∷ (4 ∷ []) ∷ []) [] (2131043 ∷ []) refl
    ((simp value_rules, number 3 0 (omega arith)), ((simp value_rules, number 5 1 (omega arith)), ((simp value_rules, number 5 2 (omega arith)), ((simp value_rules, number 12 4 (omega arith)), tt)))) refl

-- A shape whose tag stands in its block -------------------------------------------------------------
--
-- type Shape = Dot(u8) | Box(u32, u32);

abbrev shape : List DataDecl
shape = record { name = []; cons = record { name = []; fields = Int 8 ∷ [] } ∷ record { name = []; fields = Int 32 ∷ Int 32 ∷ [] } ∷ [] } ∷ []

abbrev dot_leaf : Leaf
dot_leaf = record {
  prov = con 0 0 (any ∷ []);
  root = word 32 (part 0 32 (Pointer 4 0) ∷ []) ∷ [];
  blocks = record { align = 4; words = word 8 (part 0 8 (Const 0) ∷ []) ∷ word 8 (part 0 8 (Bits (0 ∷ []) 0) ∷ []) ∷ [] } ∷ [];
}

abbrev box_leaf : Leaf
box_leaf = record {
  prov = con 0 1 (any ∷ any ∷ []);
  root = word 32 (part 0 32 (Pointer 4 0) ∷ []) ∷ [];
  blocks = record { align = 4; words = word 8 (part 0 8 (Const 1) ∷ []) ∷ word 32 (part 0 32 (Bits (0 ∷ []) 0) ∷ []) ∷ word 32 (part 0 32 (Bits (1 ∷ []) 0) ∷ []) ∷ [] } ∷ [];
}

abbrev shape_tag : Loc
shape_tag = record { word = 0; o = 0; l = 32; steps = record { align = 4; byte = 0; width = 8; o = 0; l = 8 } ∷ [] }

abbrev shape_layout : Layout
shape_layout = record {
  ty = 0;
  shape = 32 ∷ [];
  tree = T.Split shape_tag (record { literal = 0; under = T.Leaf 0 } ∷ record { literal = 1; under = T.Leaf 1 } ∷ []) None;
  leaves = dot_leaf ∷ box_leaf ∷ [];
}

abbrev shapes : List Layout
shapes = shape_layout ∷ []

abbrev box : Value
box = Con 1 (Num 1 ∷ Num 2 ∷ [])

-- block 64 9 010100000002000000
abbrev shape_image : Memory
shape_image = record { limit = 1024; next = 73; blocks = (64, 9) ∷ []; bytes = low ++ (Some 1 ∷ (byte4 1 ++ byte4 2)) }

box_shown : Represents shape shapes shape_image true (Named 0) box (16 ∷ [])
unfolding load_of
box_shown = shown shape shapes shape_image 0 1 (Num 1 ∷ Num 2 ∷ []) shape_layout 1 box_leaf (open_at 0 (Int 32) ∷ open_at 1 (Int 32) ∷ []) refl (simp (matching_rules, value_rules)) refl (simp (opens-Con, opens-Wild))
    ((1 ∷ []) ∷ (2 ∷ []) ∷ []) (64 ∷ []) (16 ∷ []) refl ((simp value_rules, number 32 1 (omega arith)), ((simp value_rules, number 32 2 (omega arith)), tt)) refl

-- the result of the sum, root 0x3
sum_shown : Represents shape shapes shape_image true (Int 32) (Num 3) (0x3 ∷ [])
sum_shown = number 32 3 (omega arith)

-- the tag is read through the pointer
tag_read : read_loc (16 ∷ []) shape_image shape_tag ≡ Some 1
unfolding load_of
tag_read = refl

abbrev box_and_dot : List Event
box_and_dot = all_makings shape (box ∷ Con 0 (Num 5 ∷ []) ∷ []) (Named 0 ∷ Named 0 ∷ [])

both_placed : lay 78 64 (requests_of shapes box_and_dot) ≡ Fits ((64, 9) ∷ (76, 2) ∷ []) 78
both_placed = simp (making-Num, making-Con, matching_rules, value_rules)

-- region full: next 73, size 2, align 4, limit 77
both_over : lay 77 64 (requests_of shapes box_and_dot) ≡ Over (record { next = 73; size = 2; align = 4; limit = 77 })
both_over = simp (making-Num, making-Con, matching_rules, value_rules)

-- A pair with one block inside the other --------------------------------------------------------------
--
-- type Pair = Two(u64, u64);

abbrev pair : List DataDecl
pair = record { name = []; cons = record { name = []; fields = Int 64 ∷ Int 64 ∷ [] } ∷ [] } ∷ []

abbrev pair_leaf : Leaf
pair_leaf = record {
  prov = con 0 0 (any ∷ any ∷ []);
  root = word 64 (part 0 64 (Pointer 8 1) ∷ []) ∷ [];
  blocks = record { align = 8; words = word 64 (part 0 64 (Bits (1 ∷ []) 0) ∷ []) ∷ [] }
      ∷ record { align = 8; words = word 64 (part 0 64 (Bits (0 ∷ []) 0) ∷ []) ∷ word 64 (part 0 64 (Pointer 8 0) ∷ []) ∷ [] } ∷ [];
}

abbrev pair_layout : Layout
pair_layout = record { ty = 0; shape = 64 ∷ []; tree = T.Leaf 0; leaves = pair_leaf ∷ [] }

abbrev pairs : List Layout
pairs = pair_layout ∷ []

abbrev five_six : Value
five_six = Con 0 (Num 5 ∷ Num 6 ∷ [])

-- block 64 8 0600000000000000, block 72 16 05000000000000000800000000000000
abbrev pair_image : Memory
pair_image = record { limit = 1024; next = 88; blocks = (64, 8) ∷ (72, 16) ∷ []; bytes = low ++ (byte8 6 ++ (byte8 5 ++ byte8 8)) }

-- inner before outer
pair_placed : lay 1024 64 (requests_of pairs (making_of pair five_six (Named 0))) ≡ Fits ((64, 8) ∷ (72, 16) ∷ []) 88
pair_placed = simp (making-Num, making-Con, matching_rules, value_rules)

-- root 0x9
pair_shown : Represents pair pairs pair_image true (Named 0) five_six (0x9 ∷ [])
unfolding load_of
pair_shown = shown pair pairs pair_image 0 0 (Num 5 ∷ Num 6 ∷ []) pair_layout 0 pair_leaf (open_at 0 (Int 64) ∷ open_at 1 (Int 64) ∷ []) refl (simp (matching_rules, value_rules)) refl (simp (opens-Con, opens-Wild))
    ((5 ∷ []) ∷ (6 ∷ []) ∷ []) (64 ∷ 72 ∷ []) (9 ∷ []) refl ((simp value_rules, number 64 5 (omega arith)), ((simp value_rules, number 64 6 (omega arith)), tt)) refl

-- A tree whose nodes have their colour in the provenance -------------------------------------------
--
-- Choosing the leaf of a node looks at its colour once. Looking at a tree finds its leaf, and again for what is bound.

abbrev any_node : ℕ → Pat
any_node color = con 1 1 (con 0 color [] ∷ any ∷ any ∷ any ∷ [])

abbrev deep_leaf : ℕ → Leaf
deep_leaf color = record {
  prov = any_node color;
  root = word 32 (part 0 1 (Const color) ∷ part 2 22 (Pointer 4 0) ∷ []) ∷ [];
  blocks = node_leaf.blocks;
}

abbrev deep_layout : Layout
deep_layout = record {
  ty = 1;
  shape = 32 ∷ [];
  tree = T.Split (record { word = 0; o = 0; l = 32; steps = [] }) (record { literal = 0; under = T.Leaf 0 } ∷ [])
      (Some (T.Split bit0 (record { literal = 0; under = T.Leaf 1 } ∷ record { literal = 1; under = T.Leaf 2 } ∷ []) None));
  leaves = empty_leaf ∷ deep_leaf 0 ∷ deep_leaf 1 ∷ [];
}

abbrev deep : List Layout
deep = color_layout ∷ deep_layout ∷ []

node_chosen : choose_of deep 1 1 ≡ 1
node_chosen = simp switch_rules

tree_mended : mend_of deep 1 ≡ 0
tree_mended = simp switch_rules

tree_looked : look_of deep (Named 1) ≡ 4
tree_looked = simp switch_rules

color_looked : look_of deep (Named 0) ≡ 1
color_looked = simp switch_rules

list_looked : look_of lists (Named 0) ≡ 1
list_looked = simp switch_rules
