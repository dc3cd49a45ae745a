-- The items of a boxed constructor as they are written.
use Rattle.std.proofs.Common.{◌≡◌, ℕ, List, [], ◌∷◌, ◌++◌, length, map, Bool, true, false, refl, ap, ◌∙◌}
use Rattle.std.specs.Prelude.{nat_le, if◌then◌else◌}
use Rattle.std.specs.List.{flat_map}
use Rattle.std.proofs.lemmas.List.{append-nil}
use Rattle.rb_core.specs.declared.layout_decl.LayItem.{LayItem}
use Rattle.rb_core.specs.declared.layout_decl.LayItem.TheVariants as I
use Rattle.rb_core.specs.declared.layout_decl.LayItem.TheFolds.{fold-PartDecl, fold-PartKind, fold_out-PartDecl}
use Rattle.rb_core.specs.declared.layout_decl.PartDecl.{PartDecl}
use Rattle.rb_core.specs.declared.layout_decl.PartKind.{PartKind}
use Rattle.rb_core.specs.declared.layout_decl.PartKind.TheVariants as K
use Rattle.rb_layout.specs.Items.{Address, Around, Content, Item, AWord, Number, WrittenPart, item_list, item_lists, items_step, items_inside, content_step, written_part_step, plain}
use Rattle.rb_layout.proofs.WrittenForms.{fold-Word, fold-Const, fold-Pointer}
use Rattle.rb_auto.specs.declared.field_words.FieldWord.{FieldWord}
use Rattle.rb_auto.specs.FieldWords.{content}
use Rattle.rb_auto.specs.Items.{block_items, boxed_parts, field_item, group_item, groups, part, whole_word}
use Rattle.rb_auto.proofs.Written.{content-around, written}

abbrev pub written_at : ℕ → ℕ → Content → WrittenPart
written_at o l c = record { o = o; l = l; content = c }

abbrev pub field_written : FieldWord → Item
field_written w = AWord 64 (written_at 0 w.width (written w) ∷ [])

abbrev pub pointer_written : Item
pointer_written = AWord 64 (written_at 0 64 (Address 8) ∷ [])

abbrev pub group_written : List FieldWord → List Item
group_written g = pointer_written ∷ map field_written g

-- what is written in a constructor's block; `one` where the words fit one
abbrev pub inner_written : Bool → List FieldWord → List Item
inner_written true ws = map field_written ws
inner_written false ws = flat_map group_written (groups (length ws) ws)

abbrev pub box_written : ℕ → List FieldWord → List Item
box_written k [] = AWord 64 (written_at 0 8 (Number k) ∷ []) ∷ []
box_written k (w ∷ ws) = AWord 64 (written_at 0 8 (Number k) ∷ written_at 8 56 (Address 8) ∷ []) ∷ inner_written (nat_le (length (w ∷ ws)) 64) (w ∷ ws)

abbrev around : PartDecl → Around WrittenPart
around = fold-PartDecl (List Item) (Around Content) (Around WrittenPart) items_step content_step written_part_step

abbrev kind_around : PartKind → Around Content
kind_around = fold-PartKind (List Item) (Around Content) (Around WrittenPart) items_step content_step written_part_step

-- a part, and what is written inside it
part-around : (o l : ℕ) (kind : PartKind) (a : Around Content) → kind_around kind ≡ a → around (part o l kind) ≡ record { it = written_at o l a.it; inside = a.inside }
part-around o l kind a is =
    fold_out-PartDecl (List Item) (Around Content) (Around WrittenPart) items_step content_step written_part_step (part o l kind)
    ∙ ap (λ (x : Around Content). record { it = written_at o l x.it; inside = x.inside }) is

word-list : (width : ℕ) (parts : List PartDecl) → item_list (I.Word width parts) ≡ AWord width (map (λ (x : Around WrittenPart). x.it) (map around parts)) ∷ items_inside (map around parts)
word-list width parts = fold-Word (List Item) (Around Content) (Around WrittenPart) items_step content_step written_part_step width parts

whole-list : (l : ℕ) (kind : PartKind) (a : Around Content) → kind_around kind ≡ a → item_list (whole_word l kind) ≡ AWord 64 (written_at 0 l a.it ∷ []) ∷ a.inside
whole-list l kind a is =
    word-list 64 (part 0 l kind ∷ [])
    ∙ ap (λ (x : Around WrittenPart). AWord 64 (x.it ∷ []) ∷ (x.inside ++ [])) (part-around 0 l kind a is)
    ∙ ap (λ (xs : List Item). AWord 64 (written_at 0 l a.it ∷ []) ∷ xs) (append-nil a.inside)

field-list : (w : FieldWord) → item_list (field_item w) ≡ field_written w ∷ []
field-list w = whole-list w.width (content w) (plain (written w)) (content-around w.field w.word)

fields-list : (ws : List FieldWord) → item_lists (map field_item ws) ≡ map field_written ws
fields-list [] = refl
fields-list (w ∷ ws) =
    ap (λ (xs : List Item). xs ++ item_lists (map field_item ws)) (field-list w) ∙ ap (λ (xs : List Item). field_written w ∷ xs) (fields-list ws)

joined : (xs : List LayItem) → flat_map (λ (ys : List Item). ys) (map item_list xs) ≡ item_lists xs
joined [] = refl
joined (x ∷ xs) = ap (λ (ys : List Item). item_list x ++ ys) (joined xs)

abbrev pointed_at : List Item → Around Content
pointed_at items = record { it = Address 8; inside = items }

pointer-around : (items : List LayItem) (xs : List Item) → item_lists items ≡ xs → kind_around (K.Pointer 8 items) ≡ pointed_at xs
pointer-around items xs is =
    fold-Pointer (List Item) (Around Content) (Around WrittenPart) items_step content_step written_part_step 8 items ∙ ap pointed_at (joined items ∙ is)

group-list : (g : List FieldWord) → item_list (group_item g) ≡ group_written g
group-list g = whole-list 64 (K.Pointer 8 (map field_item g)) (pointed_at (map field_written g)) (pointer-around (map field_item g) (map field_written g) (fields-list g))

groups-list : (gs : List (List FieldWord)) → item_lists (map group_item gs) ≡ flat_map group_written gs
groups-list [] = refl
groups-list (g ∷ gs) =
    ap (λ (xs : List Item). xs ++ item_lists (map group_item gs)) (group-list g) ∙ ap (λ (xs : List Item). group_written g ++ xs) (groups-list gs)

inner-list : (one : Bool) (ws : List FieldWord)
    → item_lists (if one then map field_item ws else map group_item (groups (length ws) ws)) ≡ inner_written one ws
inner-list true ws = fields-list ws
inner-list false ws = groups-list (groups (length ws) ws)

const-around : (k : ℕ) → kind_around (K.Const k) ≡ plain (Number k)
const-around k = fold-Const (List Item) (Around Content) (Around WrittenPart) items_step content_step written_part_step k

box-list : (k : ℕ) (ws : List FieldWord) → item_list (I.Word 64 (boxed_parts k ws)) ≡ box_written k ws
box-list k [] =
    word-list 64 (boxed_parts k []) ∙ ap (λ (x : Around WrittenPart). AWord 64 (x.it ∷ []) ∷ (x.inside ++ [])) (part-around 0 8 (K.Const k) (plain (Number k)) (const-around k))
box-list k (w ∷ ws) =
    let all = w ∷ ws in
    let inside = inner_written (nat_le (length all) 64) all in
    let pointer = part 8 56 (K.Pointer 8 (block_items all)) in
    word-list 64 (boxed_parts k all)
    ∙ ap (λ (x : Around WrittenPart). AWord 64 (x.it ∷ (around pointer).it ∷ []) ∷ (x.inside ++ ((around pointer).inside ++ [])))
    (part-around 0 8 (K.Const k) (plain (Number k)) (const-around k))
    ∙ ap (λ (x : Around WrittenPart). AWord 64 (written_at 0 8 (Number k) ∷ x.it ∷ []) ∷ (x.inside ++ []))
    (part-around 8 56 (K.Pointer 8 (block_items all)) (pointed_at inside) (pointer-around (block_items all) inside (inner-list (nat_le (length all) 64) all)))
    ∙ ap (λ (xs : List Item). AWord 64 (written_at 0 8 (Number k) ∷ written_at 8 56 (Address 8) ∷ []) ∷ xs) (append-nil inside)

-- the items of a boxed leaf
pub boxed-items : (k : ℕ) (ws : List FieldWord) → item_lists (I.Word 64 (boxed_parts k ws) ∷ []) ≡ box_written k ws
boxed-items k ws = append-nil (item_list (I.Word 64 (boxed_parts k ws))) ∙ box-list k ws
