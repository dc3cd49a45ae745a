-- A flat leaf, unfolded along its pointers, gives back what is written.
use Rattle.std.proofs.Common.{◌≡◌, ℕ, zero, suc, ◌+◌, ◌≤◌, List, [], ◌∷◌, ◌++◌, map, length, refl, sym, ap, subst, ◌∙◌, arith}
use Rattle.std.specs.Prelude.{Option, Some, None, slice_get}
use Rattle.std.specs.List.{flat_map}
use Rattle.std.proofs.lemmas.List.{append-nil, length-append}
use Rattle.std.proofs.lemmas.Grind.{flat_map-append}
use Rattle.rb_core.specs.declared.types.Ty.{Ty}
use Rattle.rb_core.specs.declared.types.Ty.TheVariants.{Int, Named}
use Rattle.rb_core.specs.declared.layout_decl.LayItem.{LayItem}
use Rattle.rb_core.specs.declared.layout_decl.LayItem as I
use Rattle.rb_core.specs.declared.layout_decl.PartKind.{PartKind}
use Rattle.rb_core.specs.declared.layout_decl.PartKind as K
use Rattle.rb_core.specs.declared.layout_decl.PartDecl.{PartDecl}
use Rattle.rb_core.specs.declared.layout_decl.LayoutDecl.{LayoutDecl}
use Rattle.rb_core.proofs.LayoutInduction.{item-induction}
use Rattle.rb_layout.specs.declared.layout.Leaf.{Leaf}
use Rattle.rb_layout.specs.declared.layout.Block.{Block}
use Rattle.rb_layout.specs.declared.layout.FlatWord.{FlatWord}
use Rattle.rb_layout.specs.declared.layout.Part.{Part}
use Rattle.rb_layout.specs.declared.layout.Kind.{Kind}
use Rattle.rb_layout.specs.declared.layout.Kind.TheVariants.{Bits, Word, Pointer}
use Rattle.rb_layout.specs.Positions.{Open, open_positions}
use Rattle.rb_layout.specs.Words.{words_of_block}
use Rattle.rb_layout.specs.Flattening.{WithBlocks, Laying, in_turn, item_laid, kind_laid, part_laid, items_laid, parts_of, whole_kind, kind_if_open, type_at, shape_of, words_inlined, inline_words, flat_leaf}
use Rattle.rb_layout.specs.Items.{Content, Slice, WordOf, Address}
use Rattle.rb_layout.specs.Placing.{whole_placed, if_open}
use Rattle.rb_layout.proofs.FlatForms.{Each}
use Rattle.rb_layout.proofs.Computing.{word_laid, inline_laid, const_laid, whole_laid, slice_laid, word_of_laid, pointer_laid, part_laid_is}
use Rattle.rb_layout.proofs.Blocks.{get_left, get_right}
use Rattle.rb_unfold.specs.Unfolding.{Seen, Begins, Has, in_block, part_seen, word_seen, words_seen, block_seen, Nested, seen_word, item_written, UnfoldingGivesBack}
use Rattle.rb_unfold.proofs.Written.{of_mapped, kind_has, kind_written, part_written, word_written, inline_written, const_written, whole_written, slice_written, word_of_written, pointer_written, part_written_is}

none_before : (k : ℕ) → 0 + k ≡ k
none_before k = omega arith

none_behind : (n k : ℕ) → n + k ≡ n + (k + 0)
none_behind n k = omega arith

counted_on : (n m k : ℕ) → n + m + k ≡ n + (m + k)
counted_on n m k = omega arith

all_fit : (k : ℕ) → 0 + k ≤ k
all_fit k = omega arith

-- Blocks in a leaf ------------------------------------------------------------------------------

fits_left : (n depth : ℕ) (bs cs : List Block) → n + length (bs ++ cs) ≤ depth → n + length bs ≤ depth
fits_left n depth bs cs le = let e : length (bs ++ cs) ≡ length bs + length cs = length-append bs cs in omega (arith, le, e)

fits_right : (n depth : ℕ) (bs cs : List Block) → n + length (bs ++ cs) ≤ depth → n + length bs + length cs ≤ depth
fits_right n depth bs cs le = let e : length (bs ++ cs) ≡ length bs + length cs = length-append bs cs in omega (arith, le, e)

fits_last : (n depth : ℕ) (bs : List Block) (new : Block) → n + length (bs ++ new ∷ []) ≤ suc depth → n + length bs ≤ depth
fits_last n depth bs new le = let e : length (bs ++ new ∷ []) ≡ length bs + 1 = length-append bs (new ∷ []) in omega (arith, le, e)

one_is_there : (n : ℕ) (bs : List Block) (new : Block) → n + length (bs ++ new ∷ []) ≤ 0 → ⊥
one_is_there n bs new le = let e : length (bs ++ new ∷ []) ≡ length bs + 1 = length-append bs (new ∷ []) in omega (arith, le, e)

module _ (leaf : Leaf) where
  -- these blocks stand in the leaf, the first of them as block n
  abbrev Stand : ℕ → List Block → Type 0
  Stand n blocks = (k : ℕ) (block : Block) → slice_get blocks k ≡ Some block → slice_get leaf.blocks (n + k) ≡ Some block

  stand_left : (n : ℕ) (bs cs : List Block) → Stand n (bs ++ cs) → Stand n bs
  stand_left n bs cs stand k block at = stand k block (get_left bs cs k block at)

  stand_right : (n : ℕ) (bs cs : List Block) → Stand n (bs ++ cs) → Stand (n + length bs) cs
  stand_right n bs cs stand k block at = ap (λ m. slice_get leaf.blocks m) (counted_on n (length bs) k) ∙ stand (length bs + k) block (get_right bs cs k block at)

  stand_last : (n : ℕ) (bs : List Block) (new : Block) → Stand n (bs ++ new ∷ []) → slice_get leaf.blocks (n + length bs) ≡ Some new
  stand_last n bs new stand = ap (λ m. slice_get leaf.blocks m) (none_behind n (length bs)) ∙ stand (length bs + 0) new (get_right bs (new ∷ []) 0 new refl)

  -- what is placed is seen so, wherever its blocks stand in the leaf
  abbrev Gives : {A : Type 0} → (ℕ → A → List Seen) → Laying A → List Seen → Type 0
  Gives see lay seen = (n depth : ℕ) → Stand n (lay n).blocks → n + length (lay n).blocks ≤ depth → see depth (lay n).it ≡ seen

  abbrev see_all : {A : Type 0} → (ℕ → A → List Seen) → ℕ → List A → List Seen
  see_all see depth xs = flat_map (see depth) xs

  abbrev see_word : ℕ → FlatWord → List Seen
  see_word depth = word_seen (block_seen leaf depth)

  abbrev see_part : ℕ → ℕ → Part → List Seen
  see_part width depth = part_seen (block_seen leaf depth) width

  abbrev see_kind : ℕ → ℕ → ℕ → ℕ → Option Kind → List Seen
  see_kind width o l depth kind = flat_map (see_part width depth) (parts_of o l kind)

  -- one after another
  gives_in_turn : {A X : Type 0} (see : ℕ → A → List Seen) (lay : X → Laying (List A)) (seen : X → List Seen) (xs : List X)
      → Each (λ (x : X). Gives (see_all see) (lay x) (seen x)) xs → Gives (see_all see) (in_turn (map lay xs)) (flat_map seen xs)
  gives_in_turn see lay seen [] each n depth stand le = refl
  gives_in_turn see lay seen (x ∷ xs) each n depth stand le =
      let first = lay x n in
      let rest = in_turn (map lay xs) (n + length first.blocks) in
      flat_map-append (see depth) first.it rest.it
      ∙ ap (λ (s : List Seen). s ++ flat_map (see depth) rest.it) (each.0 n depth (stand_left n first.blocks rest.blocks stand) (fits_left n depth first.blocks rest.blocks le))
      ∙ ap (λ (s : List Seen). seen x ++ s)
      (gives_in_turn see lay seen xs each.1 (n + length first.blocks) depth (stand_right n first.blocks rest.blocks stand) (fits_right n depth first.blocks rest.blocks le))

  -- the block behind a pointer stands behind those inside it
  block_gives : (align n depth : ℕ) (laid : WithBlocks (List FlatWord)) (seen : List Seen)
      → ((d : ℕ) → Stand n laid.blocks → n + length laid.blocks ≤ d → words_seen (block_seen leaf d) laid.it ≡ seen)
      → Stand n (laid.blocks ++ record { align = align; words = laid.it } ∷ []) → n + length (laid.blocks ++ record { align = align; words = laid.it } ∷ []) ≤ depth
      → block_seen leaf depth (n + length laid.blocks) ≡ seen
  block_gives align n zero laid seen gives stand le = absurd (one_is_there n laid.blocks (record { align = align; words = laid.it }) le)
  block_gives align n (suc depth) laid seen gives stand le =
      let new : Block = record { align = align; words = laid.it } in
      ap (λ (b : Option Block). words_seen (block_seen leaf depth) (words_of_block b)) (stand_last n laid.blocks new stand)
      ∙ gives depth (stand_left n laid.blocks (new ∷ []) stand) (fits_last n depth laid.blocks new le)

-- Fields ----------------------------------------------------------------------------------------

module _ (block : ℕ → List Seen) where
  shape_seen : (path : List ℕ) (j : ℕ) (widths : List ℕ) → words_seen block (inline_words path j widths) ≡ flat_map seen_word (inline_words path j widths)
  shape_seen path j [] = refl
  shape_seen path j (w ∷ widths) =
      ap (λ (s : List Seen). Begins w ∷ Has (record { width = w; o = 0; l = w; holds = WordOf path j }) ∷ s) (shape_seen path (j + 1) widths)

  field_seen : (decls : List LayoutDecl) (ty : Option Ty) (path : List ℕ) → words_seen block (words_inlined decls ty path) ≡ flat_map seen_word (words_inlined decls ty path)
  field_seen decls None path = refl
  field_seen decls (Some (Int bits)) path = refl
  field_seen decls (Some (Named s)) path = shape_seen path 0 (shape_of decls s)

  whole_seen : (ty : Option Ty) (path : List ℕ) (width o l : ℕ) → flat_map (part_seen block width) (parts_of o l (whole_kind ty path))
      ≡ map Has (map (λ (c : Content). record { width = width; o = o; l = l; holds = c }) (whole_placed ty path l)) ++ []
  whole_seen None path width o l = refl
  whole_seen (Some (Int bits)) path width o l = refl
  whole_seen (Some (Named s)) path width o l = refl

  slice_seen : (ty : Option Ty) (path : List ℕ) (a width o l : ℕ) → flat_map (part_seen block width) (parts_of o l (kind_if_open ty (Bits path a)))
      ≡ map Has (map (λ (c : Content). record { width = width; o = o; l = l; holds = c }) (if_open ty (Slice path a l))) ++ []
  slice_seen None path a width o l = refl
  slice_seen (Some ty) path a width o l = refl

  word_of_seen : (ty : Option Ty) (path : List ℕ) (j width o l : ℕ) → flat_map (part_seen block width) (parts_of o l (kind_if_open ty (Word path j)))
      ≡ map Has (map (λ (c : Content). record { width = width; o = o; l = l; holds = c }) (if_open ty (WordOf path j))) ++ []
  word_of_seen None path j width o l = refl
  word_of_seen (Some ty) path j width o l = refl

-- Items, form by form ---------------------------------------------------------------------------

module _ (decls : List LayoutDecl) (opens : List Open) (leaf : Leaf) where
  abbrev SameItem : LayItem → Type 0
  SameItem x = Gives leaf (see_all leaf (see_word leaf)) (item_laid decls opens x) (item_written decls opens x)

  abbrev SameKind : PartKind → Type 0
  SameKind k = (width o l : ℕ) → Gives leaf (see_kind leaf width o l) (kind_laid decls opens k) (kind_has opens width o l (kind_written decls opens k))

  abbrev SamePart : ℕ → PartDecl → Type 0
  SamePart width p = Gives leaf (see_all leaf (see_part leaf width)) (part_laid decls opens p) (part_written decls opens p width)

  abbrev with_item : (x : LayItem) (lay : Laying (List FlatWord)) (seen : List Seen) → item_laid decls opens x ≡ lay → item_written decls opens x ≡ seen
      → Gives leaf (see_all leaf (see_word leaf)) lay seen → SameItem x
  with_item x lay seen e f gives =
      subst (λ (l : Laying (List FlatWord)). Gives leaf (see_all leaf (see_word leaf)) l (item_written decls opens x)) (sym e)
      (subst (λ (s : List Seen). Gives leaf (see_all leaf (see_word leaf)) lay s) (sym f) gives)

  abbrev with_kind : (k : PartKind) (lay : Laying (Option Kind)) (nested : Nested Content) → kind_laid decls opens k ≡ lay → kind_written decls opens k ≡ nested
      → ((width o l : ℕ) → Gives leaf (see_kind leaf width o l) lay (kind_has opens width o l nested)) → SameKind k
  with_kind k lay nested e f gives width o l =
      subst (λ (x : Laying (Option Kind)). Gives leaf (see_kind leaf width o l) x (kind_has opens width o l (kind_written decls opens k))) (sym e)
      (subst (λ (x : Nested Content). Gives leaf (see_kind leaf width o l) lay (kind_has opens width o l x)) (sym f) (gives width o l))

  part_same : (width : ℕ) (p : PartDecl) → SameKind p.kind → SamePart width p
  part_same width p same =
      subst (λ (lay : Laying (List Part)). Gives leaf (see_all leaf (see_part leaf width)) lay (part_written decls opens p width)) (sym (part_laid_is decls opens p))
      (subst (λ (part : ℕ → List Seen). Gives leaf (see_kind leaf width p.o p.l) (kind_laid decls opens p.kind) (part width)) (sym (part_written_is decls opens p)) (same width p.o p.l))

  parts_same : (width : ℕ) (ps : List PartDecl) → Each (λ (p : PartDecl). SameKind p.kind) ps → Each (SamePart width) ps
  parts_same width [] each = tt
  parts_same width (p ∷ ps) each = (part_same width p each.0, parts_same width ps each.1)

  word_same : (width : ℕ) (parts : List PartDecl) → Each (λ (p : PartDecl). SameKind p.kind) parts → SameItem (I.Word width parts)
  word_same width parts each = with_item (I.Word width parts) _ _ (word_laid decls opens width parts) (word_written decls opens width parts) (λ n depth stand le.
      let laid = in_turn (map (part_laid decls opens) parts) n in
      append-nil (Begins width ∷ flat_map (see_part leaf width depth) laid.it)
      ∙ ap (λ (s : List Seen). Begins width ∷ s)
      (gives_in_turn leaf (see_part leaf width) (part_laid decls opens) (λ (p : PartDecl). part_written decls opens p width) parts (parts_same width parts each) n depth stand le
      ∙ sym (of_mapped (λ (part : ℕ → List Seen). part width) (part_written decls opens) parts)))

  inline_same : (path : List ℕ) → SameItem (I.Inline path)
  inline_same path = with_item (I.Inline path) _ _ (inline_laid decls opens path) (inline_written decls opens path)
      (λ n depth stand le. field_seen (block_seen leaf depth) decls (type_at opens path) path)

  const_same : (c : ℕ) → SameKind (K.Const c)
  const_same c = with_kind (K.Const c) _ _ (const_laid decls opens c) (const_written decls opens c) (λ width o l n depth stand le. refl)

  whole_same : (path : List ℕ) → SameKind (K.Whole path)
  whole_same path = with_kind (K.Whole path) _ _ (whole_laid decls opens path) (whole_written decls opens path)
      (λ width o l n depth stand le. whole_seen (block_seen leaf depth) (type_at opens path) path width o l)

  slice_same : (path : List ℕ) (a k : ℕ) → SameKind (K.Slice path a k)
  slice_same path a k = with_kind (K.Slice path a k) _ _ (slice_laid decls opens path a k) (slice_written decls opens path a k)
      (λ width o l n depth stand le. slice_seen (block_seen leaf depth) (type_at opens path) path a width o l)

  word_of_same : (path : List ℕ) (j : ℕ) → SameKind (K.Word path j)
  word_of_same path j = with_kind (K.Word path j) _ _ (word_of_laid decls opens path j) (word_of_written decls opens path j)
      (λ width o l n depth stand le. word_of_seen (block_seen leaf depth) (type_at opens path) path j width o l)

  items_same : (xs : List LayItem) → Each SameItem xs → Gives leaf (see_all leaf (see_word leaf)) (items_laid decls opens xs) (flat_map (item_written decls opens) xs)
  items_same xs each = gives_in_turn leaf (see_word leaf) (item_laid decls opens) (item_written decls opens) xs each

  pointer_same : (align : ℕ) (items : List LayItem) → Each SameItem items → SameKind (K.Pointer align items)
  pointer_same align items each = with_kind (K.Pointer align items) _ _ (pointer_laid decls opens align items) (pointer_written decls opens align items) (λ width o l n depth stand le.
      let laid = items_laid decls opens items n in
      append-nil (part_seen (block_seen leaf depth) width (record { o = o; l = l; kind = Pointer align (n + length laid.blocks) }))
      ∙ ap (λ (s : List Seen). Has (record { width = width; o = o; l = l; holds = Address align }) ∷ in_block s)
      (block_gives leaf align n depth laid (flat_map (item_written decls opens) items) (λ d. items_same items each n d) stand le
      ∙ sym (of_mapped (λ (seen : List Seen). seen) (item_written decls opens) items)))

  item_same : (x : LayItem) → SameItem x
  item_same x = item-induction SameItem SameKind (record { word = word_same; inline = inline_same; const = const_same; whole = whole_same; slice = slice_same; word_of = word_of_same; pointer = pointer_same }) x

  each_same : (xs : List LayItem) → Each SameItem xs
  each_same [] = tt
  each_same (x ∷ xs) = (item_same x, each_same xs)

pub unfolding_gives_back : UnfoldingGivesBack
unfolding_gives_back types decls w =
    let opens = open_positions types w.provenance in
    let leaf = flat_leaf types decls w in
    items_same decls opens leaf w.items (each_same decls opens leaf w.items) 0 (length leaf.blocks)
    (λ k block at. ap (λ m. slice_get leaf.blocks m) (none_before k) ∙ at) (all_fit (length leaf.blocks))
