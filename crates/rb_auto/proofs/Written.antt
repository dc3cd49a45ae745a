-- The parts of a packed word as they are written.
use Rattle.std.proofs.Common.{◌≡◌, ℕ, zero, suc, ◌+◌, List, [], ◌∷◌, ◌++◌, map, Option, Some, None, refl, ap, ◌∙◌}
use Rattle.rb_core.specs.declared.layout_decl.LayItem.TheVariants as I
use Rattle.rb_core.specs.declared.layout_decl.LayItem.TheFolds.{fold-PartDecl, fold-PartKind, fold_out-PartDecl}
use Rattle.rb_core.specs.declared.layout_decl.PartDecl.{PartDecl}
use Rattle.rb_core.specs.declared.layout_decl.PartKind.{PartKind}
use Rattle.rb_core.specs.declared.layout_decl.PartKind.TheVariants as K
use Rattle.rb_layout.specs.Items.{Around, Content, Item, AWord, Number, Whole, WordOf, WrittenPart, item_lists, items_step, items_inside, content_step, written_part_step, plain}
use Rattle.rb_layout.proofs.WrittenForms.{fold-Word, fold-Const, fold-Whole, fold-WordOf}
use Rattle.rb_auto.specs.declared.field_words.FieldWord.{FieldWord}
use Rattle.rb_auto.specs.FieldWords.{content, content_in}
use Rattle.rb_auto.specs.Items.{packed_parts, part, parts_from}

-- what a part that holds a word is written to hold
abbrev pub written_in : ℕ → Option ℕ → Content
written_in i None = Whole (i ∷ [])
written_in i (Some j) = WordOf (i ∷ []) j

abbrev pub written : FieldWord → Content
written w = written_in w.field w.word

abbrev pub written_from : ℕ → List FieldWord → List WrittenPart
written_from o [] = []
written_from o (w ∷ ws) = record { o = o; l = w.width; content = written w } ∷ written_from (o + w.width) ws

abbrev pub written_tag : ℕ → ℕ → List WrittenPart
written_tag zero k = []
written_tag (suc tag) k = record { o = 0; l = suc tag; content = Number k } ∷ []

abbrev pub written_parts : ℕ → ℕ → List FieldWord → List WrittenPart
written_parts tag k ws = written_tag tag k ++ written_from tag ws

abbrev around : PartDecl → Around WrittenPart
around = fold-PartDecl (List Item) (Around Content) (Around WrittenPart) items_step content_step written_part_step

abbrev kind_around : PartKind → Around Content
kind_around = fold-PartKind (List Item) (Around Content) (Around WrittenPart) items_step content_step written_part_step

-- with nothing inside it
abbrev bare : WrittenPart → Around WrittenPart
bare w = record { it = w; inside = [] }

part-around : (o l : ℕ) (kind : PartKind) (c : Content) → kind_around kind ≡ plain c → around (part o l kind) ≡ bare (record { o = o; l = l; content = c })
part-around o l kind c is =
    fold_out-PartDecl (List Item) (Around Content) (Around WrittenPart) items_step content_step written_part_step (part o l kind)
    ∙ ap (λ (a : Around Content). record { it = record { o = o; l = l; content = a.it }; inside = a.inside }) is

pub content-around : (i : ℕ) (word : Option ℕ) → kind_around (content_in i word) ≡ plain (written_in i word)
content-around i None = fold-Whole (List Item) (Around Content) (Around WrittenPart) items_step content_step written_part_step (i ∷ [])
content-around i (Some j) = fold-WordOf (List Item) (Around Content) (Around WrittenPart) items_step content_step written_part_step (i ∷ []) j

words-around : (o : ℕ) (ws : List FieldWord) → map around (parts_from o ws) ≡ map bare (written_from o ws)
words-around o [] = refl
words-around o (w ∷ ws) =
    ap (λ (a : Around WrittenPart). a ∷ map around (parts_from (o + w.width) ws)) (part-around o w.width (content w) (written w) (content-around w.field w.word))
    ∙ ap (λ (xs : List (Around WrittenPart)). bare (record { o = o; l = w.width; content = written w }) ∷ xs) (words-around (o + w.width) ws)

parts-around : (tag k : ℕ) (ws : List FieldWord) → map around (packed_parts tag k ws) ≡ map bare (written_parts tag k ws)
parts-around zero k ws = words-around 0 ws
parts-around (suc tag) k ws =
    ap (λ (a : Around WrittenPart). a ∷ map around (parts_from (suc tag) ws))
    (part-around 0 (suc tag) (K.Const k) (Number k) (fold-Const (List Item) (Around Content) (Around WrittenPart) items_step content_step written_part_step k))
    ∙ ap (λ (xs : List (Around WrittenPart)). bare (record { o = 0; l = suc tag; content = Number k }) ∷ xs) (words-around (suc tag) ws)

its : (ws : List WrittenPart) → map (λ (a : Around WrittenPart). a.it) (map bare ws) ≡ ws
its [] = refl
its (w ∷ ws) = ap (λ (xs : List WrittenPart). w ∷ xs) (its ws)

nothing-inside : (ws : List WrittenPart) → items_inside (map bare ws) ≡ []
nothing-inside [] = refl
nothing-inside (w ∷ ws) = nothing-inside ws

-- the one item of a packed leaf
pub items-are : (width tag k : ℕ) (ws : List FieldWord) → item_lists (I.Word width (packed_parts tag k ws) ∷ []) ≡ AWord width (written_parts tag k ws) ∷ []
items-are width tag k ws =
    ap (λ (xs : List Item). xs ++ [])
    (fold-Word (List Item) (Around Content) (Around WrittenPart) items_step content_step written_part_step width (packed_parts tag k ws)
    ∙ ap (λ (xs : List (Around WrittenPart)). AWord width (map (λ (a : Around WrittenPart). a.it) xs) ∷ items_inside xs) (parts-around tag k ws)
    ∙ ap (λ (xs : List Item). AWord width (map (λ (a : Around WrittenPart). a.it) (map bare (written_parts tag k ws))) ∷ xs) (nothing-inside (written_parts tag k ws))
    ∙ ap (λ (ps : List WrittenPart). AWord width ps ∷ []) (its (written_parts tag k ws)))
