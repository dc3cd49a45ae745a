-- The word of a boxed constructor and its blocks, as they are laid.
use Rattle.std.proofs.Common.{◌≡◌, ℕ, ◌+◌, List, [], ◌∷◌, ◌++◌, length, map, Bool, true, false, Option, Some, None, refl, ap, ◌∙◌, arith}
use Rattle.std.specs.Prelude.{nat_le, if◌then◌else◌}
use Rattle.std.proofs.lemmas.List.{append-nil}
use Rattle.rb_core.specs.declared.layout_decl.LayItem.{LayItem}
use Rattle.rb_core.specs.declared.layout_decl.LayoutDecl.{LayoutDecl}
use Rattle.rb_core.specs.declared.layout_decl.PartKind.{PartKind}
use Rattle.rb_core.specs.declared.layout_decl.PartKind.TheVariants as K
use Rattle.rb_layout.specs.declared.layout.Block.{Block}
use Rattle.rb_layout.specs.declared.layout.FlatWord.{FlatWord}
use Rattle.rb_layout.specs.declared.layout.Part.{Part}
use Rattle.rb_layout.specs.declared.layout.Kind.{Kind}
use Rattle.rb_layout.specs.declared.layout.Kind.TheVariants.{Const, Word, Pointer}
use Rattle.rb_layout.specs.Positions.{Open}
use Rattle.rb_layout.specs.Flattening.{WithBlocks, Laying, in_turn, item_laid, kind_if_open, kind_laid, part_laid, parts_of, pointer_to_block, type_at, whole_kind, without_blocks}
use Rattle.rb_layout.proofs.Computing.{const_at, part_at, pointer_at, whole_at, word_at, word_of_laid}
use Rattle.rb_auto.specs.declared.field_words.FieldWord.{FieldWord}
use Rattle.rb_auto.specs.FieldWords.{content, content_in}
use Rattle.rb_auto.specs.Items.{block_items, boxed_parts, field_item, group_item, groups, part, whole_word}

-- What is laid ------------------------------------------------------------------------------------------

-- what the part of a field's word holds, if anything
abbrev pub word_kind : List Open → ℕ → Option ℕ → Option Kind
word_kind opens g None = whole_kind (type_at opens (g ∷ [])) (g ∷ [])
word_kind opens g (Some j) = kind_if_open (type_at opens (g ∷ [])) (Word (g ∷ []) j)

abbrev pub flat_word : List Open → FieldWord → FlatWord
flat_word opens w = record { width = 64; parts = parts_of 0 w.width (word_kind opens w.field w.word) }

abbrev pub group_block : List Open → List FieldWord → Block
group_block opens ws = record { align = 8; words = map (flat_word opens) ws }

abbrev pub pointer_word : ℕ → FlatWord
pointer_word n = record { width = 64; parts = record { o = 0; l = 64; kind = Pointer 8 n } ∷ [] }

abbrev pub pointers_from : ℕ → List (List FieldWord) → List FlatWord
pointers_from n [] = []
pointers_from n (g ∷ gs) = pointer_word n ∷ pointers_from (n + 1) gs

-- the words of a constructor's block, and the blocks inside it; `one` where the words fit one block
abbrev pub inner : List Open → Bool → List FieldWord → WithBlocks (List FlatWord)
inner opens true ws = record { it = map (flat_word opens) ws; blocks = [] }
inner opens false ws = record { it = pointers_from 0 (groups (length ws) ws); blocks = map (group_block opens) (groups (length ws) ws) }

abbrev pub inner_of : List Open → List FieldWord → WithBlocks (List FlatWord)
inner_of opens ws = inner opens (nat_le (length ws) 64) ws

abbrev pub tag_part : ℕ → Part
tag_part k = record { o = 0; l = 8; kind = Const k }

abbrev pub pointer_part : ℕ → Part
pointer_part n = record { o = 8; l = 56; kind = Pointer 8 n }

-- the parts of the word of constructor k, and its blocks
abbrev pub box_parts : List Open → ℕ → List FieldWord → List Part
box_parts opens k [] = tag_part k ∷ []
box_parts opens k (w ∷ ws) = tag_part k ∷ pointer_part (0 + length (inner_of opens (w ∷ ws)).blocks) ∷ []

abbrev pub box_blocks : List Open → List FieldWord → List Block
box_blocks opens [] = []
box_blocks opens (w ∷ ws) = (inner_of opens (w ∷ ws)).blocks ++ record { align = 8; words = (inner_of opens (w ∷ ws)).it } ∷ []

-- It is laid so -----------------------------------------------------------------------------------------

plus_none : (m : ℕ) → m + 0 ≡ m
plus_none m = omega arith

module _ (decls : List LayoutDecl) (opens : List Open) where
  pub content-laid : (g : ℕ) (word : Option ℕ) (n : ℕ) → kind_laid decls opens (content_in g word) n ≡ without_blocks (word_kind opens g word)
  content-laid g None n = whole_at decls opens n (g ∷ [])
  content-laid g (Some j) n = ap (λ lay. lay n) (word_of_laid decls opens (g ∷ []) j)

  -- a word with one part from bit 0 on
  whole-laid : (l n : ℕ) (kind : PartKind) (k : WithBlocks (Option Kind)) → kind_laid decls opens kind n ≡ k
      → item_laid decls opens (whole_word l kind) n ≡ record { it = record { width = 64; parts = parts_of 0 l k.it } ∷ []; blocks = k.blocks }
  whole-laid l n kind k is =
      word_at decls opens n 64 (part 0 l kind ∷ [])
      ∙ ap (λ (x : WithBlocks (List Part)). record { it = record { width = 64; parts = x.it ++ [] } ∷ []; blocks = x.blocks ++ [] }) (part_at decls opens n (part 0 l kind))
      ∙ ap (λ (x : WithBlocks (Option Kind)). record { it = record { width = 64; parts = parts_of 0 l x.it ++ [] } ∷ []; blocks = x.blocks ++ [] }) is
      ∙ ap (λ (ps : List Part). record { it = record { width = 64; parts = ps } ∷ []; blocks = k.blocks ++ [] }) (append-nil (parts_of 0 l k.it))
      ∙ ap (λ (bs : List Block). record { it = record { width = 64; parts = parts_of 0 l k.it } ∷ []; blocks = bs }) (append-nil k.blocks)

  field-laid : (w : FieldWord) (n : ℕ) → item_laid decls opens (field_item w) n ≡ record { it = flat_word opens w ∷ []; blocks = [] }
  field-laid w n = whole-laid w.width n (content w) (without_blocks (word_kind opens w.field w.word)) (content-laid w.field w.word n)

  -- an item is laid, and others after it
  abbrev laid_then : List (Laying (List FlatWord)) → ℕ → WithBlocks (List FlatWord) → WithBlocks (List FlatWord)
  laid_then lays n x = record { it = x.it ++ (in_turn lays (n + length x.blocks)).it; blocks = x.blocks ++ (in_turn lays (n + length x.blocks)).blocks }

  fields-laid : (ws : List FieldWord) (n : ℕ) → in_turn (map (item_laid decls opens) (map field_item ws)) n ≡ record { it = map (flat_word opens) ws; blocks = [] }
  fields-laid [] n = refl
  fields-laid (w ∷ ws) n =
      ap (laid_then (map (item_laid decls opens) (map field_item ws)) n) (field-laid w n)
      ∙ ap (λ (x : WithBlocks (List FlatWord)). record { it = flat_word opens w ∷ x.it; blocks = x.blocks }) (fields-laid ws (n + 0))

  pointer-laid : (n : ℕ) (items : List LayItem) (laid : WithBlocks (List FlatWord)) → in_turn (map (item_laid decls opens) items) n ≡ laid
      → kind_laid decls opens (K.Pointer 8 items) n ≡ pointer_to_block 8 n laid
  pointer-laid n items laid is = pointer_at decls opens n 8 items ∙ ap (pointer_to_block 8 n) is

  group-laid : (g : List FieldWord) (n : ℕ) → item_laid decls opens (group_item g) n ≡ record { it = pointer_word n ∷ []; blocks = group_block opens g ∷ [] }
  group-laid g n =
      whole-laid 64 n (K.Pointer 8 (map field_item g)) (pointer_to_block 8 n (record { it = map (flat_word opens) g; blocks = [] }))
      (pointer-laid n (map field_item g) (record { it = map (flat_word opens) g; blocks = [] }) (fields-laid g n))
      ∙ ap (λ m. record { it = pointer_word m ∷ []; blocks = group_block opens g ∷ [] }) (plus_none n)

  groups-laid : (gs : List (List FieldWord)) (n : ℕ) → in_turn (map (item_laid decls opens) (map group_item gs)) n ≡ record { it = pointers_from n gs; blocks = map (group_block opens) gs }
  groups-laid [] n = refl
  groups-laid (g ∷ gs) n =
      ap (laid_then (map (item_laid decls opens) (map group_item gs)) n) (group-laid g n)
      ∙ ap (λ (x : WithBlocks (List FlatWord)). record { it = pointer_word n ∷ x.it; blocks = group_block opens g ∷ x.blocks }) (groups-laid gs (n + 1))

  inner-laid : (one : Bool) (ws : List FieldWord)
      → in_turn (map (item_laid decls opens) (if one then map field_item ws else map group_item (groups (length ws) ws))) 0 ≡ inner opens one ws
  inner-laid true ws = fields-laid ws 0
  inner-laid false ws = groups-laid (groups (length ws) ws) 0

  tag-laid : (k : ℕ) → part_laid decls opens (part 0 8 (K.Const k)) 0 ≡ record { it = tag_part k ∷ []; blocks = [] }
  tag-laid k =
      part_at decls opens 0 (part 0 8 (K.Const k))
      ∙ ap (λ (x : WithBlocks (Option Kind)). record { it = parts_of 0 8 x.it; blocks = x.blocks }) (const_at decls opens 0 k)

  block-laid : (ws : List FieldWord) → part_laid decls opens (part 8 56 (K.Pointer 8 (block_items ws))) 0
      ≡ record { it = pointer_part (0 + length (inner_of opens ws).blocks) ∷ []; blocks = (inner_of opens ws).blocks ++ record { align = 8; words = (inner_of opens ws).it } ∷ [] }
  block-laid ws =
      part_at decls opens 0 (part 8 56 (K.Pointer 8 (block_items ws)))
      ∙ ap (λ (x : WithBlocks (Option Kind)). record { it = parts_of 8 56 x.it; blocks = x.blocks })
      (pointer-laid 0 (block_items ws) (inner_of opens ws) (inner-laid (nat_le (length ws) 64) ws))

  abbrev parts_then : WithBlocks (List Part) → WithBlocks (List Part) → WithBlocks (List Part)
  parts_then x y = record { it = x.it ++ y.it; blocks = x.blocks ++ y.blocks }

  pub boxed-laid : (k : ℕ) (ws : List FieldWord) → in_turn (map (part_laid decls opens) (boxed_parts k ws)) 0 ≡ record { it = box_parts opens k ws; blocks = box_blocks opens ws }
  boxed-laid k [] = ap (λ (x : WithBlocks (List Part)). record { it = x.it ++ []; blocks = x.blocks ++ [] }) (tag-laid k)
  boxed-laid k (w ∷ ws) =
      let second = part 8 56 (K.Pointer 8 (block_items (w ∷ ws))) in
      ap (λ (x : WithBlocks (List Part)). parts_then x (in_turn (part_laid decls opens second ∷ []) (0 + length x.blocks))) (tag-laid k)
      ∙ ap (λ (y : WithBlocks (List Part)). parts_then (record { it = tag_part k ∷ []; blocks = [] }) (parts_then y (record { it = []; blocks = [] }))) (block-laid (w ∷ ws))
      ∙ ap (λ (bs : List Block). record { it = box_parts opens k (w ∷ ws); blocks = bs }) (append-nil (box_blocks opens (w ∷ ws)))
