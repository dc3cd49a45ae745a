-- The parts of a flat leaf are those that are written.
use Rattle.std.proofs.Common.{◌≡◌, ℕ, ◌+◌, List, [], ◌∷◌, ◌++◌, map, length, refl, sym, ap, ◌∙◌, arith}
use Rattle.std.specs.Prelude.{Option, Some, None, sum_by}
use Rattle.std.specs.List.{flat_map}
use Rattle.std.proofs.lemmas.List.{append-nil, map-append}
use Rattle.std.proofs.lemmas.List.Sums.{sum_by-append}
use Rattle.std.proofs.lemmas.Grind.{flat_map-append}
use Rattle.rb_core.specs.declared.types.Ty.{Ty}
use Rattle.rb_core.specs.declared.types.Ty.TheVariants.{Int, Named}
use Rattle.rb_core.specs.declared.layout_decl.LayItem.{LayItem}
use Rattle.rb_core.specs.declared.layout_decl.LayItem as I
use Rattle.rb_core.specs.declared.layout_decl.LayItem.TheFolds.{fold-PartKind, fold-PartDecl, fold_out-PartDecl}
use Rattle.rb_core.specs.declared.layout_decl.PartKind.{PartKind}
use Rattle.rb_core.specs.declared.layout_decl.PartKind as K
use Rattle.rb_core.specs.declared.layout_decl.PartDecl.{PartDecl}
use Rattle.rb_core.specs.declared.layout_decl.LayoutDecl.{LayoutDecl}
use Rattle.rb_core.proofs.LayoutInduction.{item-induction}
use Rattle.rb_layout.specs.declared.layout.Block.{Block}
use Rattle.rb_layout.specs.declared.layout.FlatWord.{FlatWord}
use Rattle.rb_layout.specs.declared.layout.Part.{Part}
use Rattle.rb_layout.specs.declared.layout.Kind.{Kind}
use Rattle.rb_layout.specs.declared.layout.Kind.TheVariants.{Bits, Word}
use Rattle.rb_layout.specs.Positions.{Open, open_positions}
use Rattle.rb_layout.specs.Flattening.{Laying, in_turn, item_laid, kind_laid, part_laid, items_laid, parts_of, whole_kind, kind_if_open, type_at}
use Rattle.rb_layout.specs.Items.{Content, Number, Whole, Slice, WordOf, Address, WrittenPart, Item, AWord, AField, Around, plain, item_list, item_lists, items_step, content_step, written_part_step, items_inside}
use Rattle.rb_layout.specs.Placing.{Standing, standing_of, parts_in_place, standing_in, part_placed, whole_placed, if_open, parts_placed, EachStandsOnce}
use Rattle.rb_layout.proofs.FlatForms.{Each}
use Rattle.rb_layout.proofs.WrittenForms as W
use Rattle.rb_layout.proofs.Computing.{word_laid, inline_laid, const_laid, whole_laid, slice_laid, word_of_laid, pointer_laid, part_laid_is}

-- Items, form by form -------------------------------------------------------------------------------

abbrev kind_around : PartKind → Around Content
kind_around = fold-PartKind (List Item) (Around Content) (Around WrittenPart) items_step content_step written_part_step

abbrev part_around : PartDecl → Around WrittenPart
part_around = fold-PartDecl (List Item) (Around Content) (Around WrittenPart) items_step content_step written_part_step

list-Word : (width : ℕ) (parts : List PartDecl) → item_list (I.Word width parts) ≡ AWord width (map (λ (p : Around WrittenPart). p.it) (map part_around parts)) ∷ items_inside (map part_around parts)
list-Word width parts = W.fold-Word (List Item) (Around Content) (Around WrittenPart) items_step content_step written_part_step width parts

list-Inline : (path : List ℕ) → item_list (I.Inline path) ≡ AField path ∷ []
list-Inline path = W.fold-Inline (List Item) (Around Content) (Around WrittenPart) items_step content_step written_part_step path

around-Const : (c : ℕ) → kind_around (K.Const c) ≡ plain (Number c)
around-Const c = W.fold-Const (List Item) (Around Content) (Around WrittenPart) items_step content_step written_part_step c

around-Whole : (path : List ℕ) → kind_around (K.Whole path) ≡ plain (Whole path)
around-Whole path = W.fold-Whole (List Item) (Around Content) (Around WrittenPart) items_step content_step written_part_step path

around-Slice : (path : List ℕ) (a k : ℕ) → kind_around (K.Slice path a k) ≡ plain (Slice path a k)
around-Slice path a k = W.fold-Slice (List Item) (Around Content) (Around WrittenPart) items_step content_step written_part_step path a k

around-WordOf : (path : List ℕ) (j : ℕ) → kind_around (K.Word path j) ≡ plain (WordOf path j)
around-WordOf path j = W.fold-WordOf (List Item) (Around Content) (Around WrittenPart) items_step content_step written_part_step path j

around-Pointer : (align : ℕ) (items : List LayItem) → kind_around (K.Pointer align items) ≡ record { it = Address align; inside = flat_map (λ (xs : List Item). xs) (map item_list items) }
around-Pointer align items = W.fold-Pointer (List Item) (Around Content) (Around WrittenPart) items_step content_step written_part_step align items

around-Part : (p : PartDecl) → part_around p ≡ record { it = record { o = p.o; l = p.l; content = (kind_around p.kind).it }; inside = (kind_around p.kind).inside }
around-Part p = fold_out-PartDecl (List Item) (Around Content) (Around WrittenPart) items_step content_step written_part_step p

joined_lists : (xs : List LayItem) → flat_map (λ (ys : List Item). ys) (map item_list xs) ≡ item_lists xs
joined_lists [] = refl
joined_lists (x ∷ xs) = ap (λ (ys : List Item). item_list x ++ ys) (joined_lists xs)

-- Weights -------------------------------------------------------------------------------------------

module _ (decls : List LayoutDecl) (opens : List Open) (weight : Standing → ℕ) where
  abbrev S : List Standing → ℕ
  S xs = sum_by weight xs

  abbrev W' : List FlatWord → ℕ
  W' ws = S (flat_map parts_in_place ws)

  abbrev B : List Block → ℕ
  B bs = S (flat_map standing_in bs)

  abbrev N : List Item → ℕ
  N items = S (flat_map (parts_placed decls opens) items)

  s-append : (xs ys : List Standing) → S (xs ++ ys) ≡ S xs + S ys
  s-append xs ys = sum_by-append weight xs ys

  w-append : (xs ys : List FlatWord) → W' (xs ++ ys) ≡ W' xs + W' ys
  w-append xs ys = ap S (flat_map-append parts_in_place xs ys) ∙ s-append (flat_map parts_in_place xs) (flat_map parts_in_place ys)

  b-append : (xs ys : List Block) → B (xs ++ ys) ≡ B xs + B ys
  b-append xs ys = ap S (flat_map-append standing_in xs ys) ∙ s-append (flat_map standing_in xs) (flat_map standing_in ys)

  n-append : (xs ys : List Item) → N (xs ++ ys) ≡ N xs + N ys
  n-append xs ys = ap S (flat_map-append (parts_placed decls opens) xs ys) ∙ s-append (flat_map (parts_placed decls opens) xs) (flat_map (parts_placed decls opens) ys)

  abbrev SameItem : LayItem → Type 0
  SameItem x = (n : ℕ) → W' (item_laid decls opens x n).it + B (item_laid decls opens x n).blocks ≡ N (item_list x)

  abbrev SameKind : PartKind → Type 0
  SameKind k = (width o l n : ℕ) → S (map (standing_of width) (parts_of o l (kind_laid decls opens k n).it)) + B (kind_laid decls opens k n).blocks
      ≡ S (part_placed opens width (record { o = o; l = l; content = (kind_around k).it })) + N (kind_around k).inside

  add_up : (a b c d x y : ℕ) → a + c ≡ x → b + d ≡ y → a + b + (c + d) ≡ x + y
  add_up a b c d x y e f = omega (arith, e, f)

  cross : (a b c d x y u v : ℕ) → a + c ≡ x + u → b + d ≡ y + v → a + b + (c + d) ≡ x + y + (u + v)
  cross a b c d x y u v e f = omega (arith, e, f)

  items_same : (xs : List LayItem) → Each SameItem xs → (n : ℕ) → W' (items_laid decls opens xs n).it + B (items_laid decls opens xs n).blocks ≡ N (item_lists xs)
  items_same [] each n = refl
  items_same (x ∷ xs) each n =
      let first = item_laid decls opens x n in
      let rest = items_laid decls opens xs (n + length first.blocks) in
      ap (λ k. k + B (first.blocks ++ rest.blocks)) (w-append first.it rest.it) ∙ ap (λ k. W' first.it + W' rest.it + k) (b-append first.blocks rest.blocks)
      ∙ add_up (W' first.it) (W' rest.it) (B first.blocks) (B rest.blocks) (N (item_list x)) (N (item_lists xs)) (each.0 n) (items_same xs each.1 (n + length first.blocks))
      ∙ sym (n-append (item_list x) (item_lists xs))

  part_same : (p : PartDecl) → SameKind p.kind → (width n : ℕ) → S (map (standing_of width) (part_laid decls opens p n).it) + B (part_laid decls opens p n).blocks
      ≡ S (part_placed opens width (part_around p).it) + N (part_around p).inside
  part_same p same width n =
      ap (λ (lay : Laying (List Part)). S (map (standing_of width) (lay n).it) + B (lay n).blocks) (part_laid_is decls opens p)
      ∙ same width p.o p.l n ∙ sym (ap (λ (a : Around WrittenPart). S (part_placed opens width a.it) + N a.inside) (around-Part p))

  parts_same : (ps : List PartDecl) → Each (λ (p : PartDecl). SameKind p.kind) ps → (width n : ℕ)
      → S (map (standing_of width) (in_turn (map (part_laid decls opens) ps) n).it) + B (in_turn (map (part_laid decls opens) ps) n).blocks
      ≡ S (flat_map (part_placed opens width) (map (λ (a : Around WrittenPart). a.it) (map part_around ps))) + N (items_inside (map part_around ps))
  parts_same [] each width n = refl
  parts_same (p ∷ ps) each width n =
      let first = part_laid decls opens p n in
      let rest = in_turn (map (part_laid decls opens) ps) (n + length first.blocks) in
      let later = map part_around ps in
      ap (λ xs. S xs + B (first.blocks ++ rest.blocks)) (map-append (standing_of width) first.it rest.it)
      ∙ ap (λ k. k + B (first.blocks ++ rest.blocks)) (s-append (map (standing_of width) first.it) (map (standing_of width) rest.it))
      ∙ ap (λ k. S (map (standing_of width) first.it) + S (map (standing_of width) rest.it) + k) (b-append first.blocks rest.blocks)
      ∙ cross (S (map (standing_of width) first.it)) (S (map (standing_of width) rest.it)) (B first.blocks) (B rest.blocks) (S (part_placed opens width (part_around p).it))
      (S (flat_map (part_placed opens width) (map (λ (a : Around WrittenPart). a.it) later))) (N (part_around p).inside) (N (items_inside later))
      (part_same p each.0 width n) (parts_same ps each.1 width (n + length first.blocks))
      ∙ sym (ap (λ k. k + N ((part_around p).inside ++ items_inside later)) (s-append (part_placed opens width (part_around p).it) (flat_map (part_placed opens width) (map (λ (a : Around WrittenPart). a.it) later)))
      ∙ ap (λ k. S (part_placed opens width (part_around p).it) + S (flat_map (part_placed opens width) (map (λ (a : Around WrittenPart). a.it) later)) + k) (n-append (part_around p).inside (items_inside later)))

  none_more : (n : ℕ) → n + 0 ≡ n
  none_more n = omega arith

  word_same : (width : ℕ) (parts : List PartDecl) → Each (λ (p : PartDecl). SameKind p.kind) parts → SameItem (I.Word width parts)
  word_same width parts each n =
      let laid = in_turn (map (part_laid decls opens) parts) n in
      let arounds = map part_around parts in
      ap (λ (lay : Laying (List FlatWord)). W' (lay n).it + B (lay n).blocks) (word_laid decls opens width parts)
      ∙ ap (λ xs. S xs + B laid.blocks) (append-nil (map (standing_of width) laid.it))
      ∙ parts_same parts each width n
      ∙ sym (s-append (flat_map (part_placed opens width) (map (λ (a : Around WrittenPart). a.it) arounds)) (flat_map (parts_placed decls opens) (items_inside arounds)))
      ∙ sym (ap N (list-Word width parts))

  inline_same : (path : List ℕ) → SameItem (I.Inline path)
  inline_same path n =
      ap (λ (lay : Laying (List FlatWord)). W' (lay n).it + B (lay n).blocks) (inline_laid decls opens path)
      ∙ none_more (S (parts_placed decls opens (AField path)))
      ∙ sym (ap S (append-nil (parts_placed decls opens (AField path)))) ∙ sym (ap N (list-Inline path))

  abbrev with_kind : (k : PartKind) (lay : Laying (Option Kind)) (around : Around Content) → kind_laid decls opens k ≡ lay → kind_around k ≡ around
      → ((width o l n : ℕ) → S (map (standing_of width) (parts_of o l (lay n).it)) + B (lay n).blocks
      ≡ S (part_placed opens width (record { o = o; l = l; content = around.it })) + N around.inside) → SameKind k
  with_kind k lay around e f same width o l n =
      ap (λ (x : Laying (Option Kind)). S (map (standing_of width) (parts_of o l (x n).it)) + B (x n).blocks) e ∙ same width o l n
      ∙ sym (ap (λ (a : Around Content). S (part_placed opens width (record { o = o; l = l; content = a.it })) + N a.inside) f)

  const_same : (c : ℕ) → SameKind (K.Const c)
  const_same c = with_kind (K.Const c) _ _ (const_laid decls opens c) (around-Const c) (λ width o l n. refl)

  whole_by : (ty : Option Ty) (path : List ℕ) (width o l : ℕ) → map (standing_of width) (parts_of o l (whole_kind ty path))
      ≡ map (λ (c : Content). record { width = width; o = o; l = l; holds = c }) (whole_placed ty path l)
  whole_by None path width o l = refl
  whole_by (Some (Int bits)) path width o l = refl
  whole_by (Some (Named s)) path width o l = refl

  bits_by : (ty : Option Ty) (path : List ℕ) (a width o l : ℕ) → map (standing_of width) (parts_of o l (kind_if_open ty (Bits path a)))
      ≡ map (λ (c : Content). record { width = width; o = o; l = l; holds = c }) (if_open ty (Slice path a l))
  bits_by None path a width o l = refl
  bits_by (Some ty) path a width o l = refl

  word_by : (ty : Option Ty) (path : List ℕ) (j width o l : ℕ) → map (standing_of width) (parts_of o l (kind_if_open ty (Word path j)))
      ≡ map (λ (c : Content). record { width = width; o = o; l = l; holds = c }) (if_open ty (WordOf path j))
  word_by None path j width o l = refl
  word_by (Some ty) path j width o l = refl

  whole_same : (path : List ℕ) → SameKind (K.Whole path)
  whole_same path = with_kind (K.Whole path) _ _ (whole_laid decls opens path) (around-Whole path)
      (λ width o l n. ap (λ xs. S xs + 0) (whole_by (type_at opens path) path width o l))

  slice_same : (path : List ℕ) (a k : ℕ) → SameKind (K.Slice path a k)
  slice_same path a k = with_kind (K.Slice path a k) _ _ (slice_laid decls opens path a k) (around-Slice path a k)
      (λ width o l n. ap (λ xs. S xs + 0) (bits_by (type_at opens path) path a width o l))

  word_of_same : (path : List ℕ) (j : ℕ) → SameKind (K.Word path j)
  word_of_same path j = with_kind (K.Word path j) _ _ (word_of_laid decls opens path j) (around-WordOf path j)
      (λ width o l n. ap (λ xs. S xs + 0) (word_by (type_at opens path) path j width o l))

  behind_inner : (xs : List Block) (ws : List FlatWord) (align : ℕ) → B (xs ++ record { align = align; words = ws } ∷ []) ≡ W' ws + B xs
  behind_inner xs ws align =
      b-append xs (record { align = align; words = ws } ∷ []) ∙ ap (λ ys. B xs + S ys) (append-nil (flat_map parts_in_place ws)) ∙ turned (B xs) (W' ws)
    where
      turned : (a b : ℕ) → a + b ≡ b + a
      turned a b = omega arith

  pointer_same : (align : ℕ) (items : List LayItem) → Each SameItem items → SameKind (K.Pointer align items)
  pointer_same align items each = with_kind (K.Pointer align items) _ _ (pointer_laid decls opens align items) (around-Pointer align items) (λ width o l n.
      let laid = items_laid decls opens items n in
      ap (λ k. S (part_placed opens width (record { o = o; l = l; content = Address align })) + k)
      (behind_inner laid.blocks laid.it align ∙ items_same items each n ∙ sym (ap N (joined_lists items))))

  item_same : (x : LayItem) → SameItem x
  item_same x = item-induction SameItem SameKind (record { word = word_same; inline = inline_same; const = const_same; whole = whole_same; slice = slice_same; word_of = word_of_same; pointer = pointer_same }) x

  each_same : (xs : List LayItem) → Each SameItem xs
  each_same [] = tt
  each_same (x ∷ xs) = (item_same x, each_same xs)

pub each_stands_once : EachStandsOnce
each_stands_once types decls w weight =
    let opens = open_positions types w.provenance in
    let laid = items_laid decls opens w.items 0 in
    s-append decls opens weight (flat_map parts_in_place laid.it) (flat_map standing_in laid.blocks)
    ∙ items_same decls opens weight w.items (each_same decls opens weight w.items) 0
