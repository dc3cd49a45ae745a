-- Written items, form by form.
use Rattle.std.proofs.Common.{◌≡◌, ℕ, suc, ◌+◌, ◌<◌, ◌≤◌, List, [], ◌∷◌, ◌++◌, map, length, drop, get_or, add-one, drop-cons, refl, sym, ap, ◌∙◌}
use Rattle.std.specs.List.{flat_map}
use Rattle.std.proofs.lemmas.List.{append-nil, append_assoc, map-append, drop_all}
use Rattle.rb_core.specs.declared.layout_decl.LayItem.{LayItem}
use Rattle.rb_core.specs.declared.layout_decl.LayItem as I
use Rattle.rb_core.specs.declared.layout_decl.LayItem.TheFolds.{fold_out-PartDecl}
use Rattle.rb_core.specs.declared.layout_decl.PartKind.{PartKind}
use Rattle.rb_core.specs.declared.layout_decl.PartKind as K
use Rattle.rb_core.specs.declared.layout_decl.PartDecl.{PartDecl}
use Rattle.rb_layout.specs.Items.{Content, Number, Whole, Slice, WordOf, Address, WrittenPart, Item, AWord, AField, Around, plain, item_list, item_lists, items_step, content_step, written_part_step, items_inside}
use Rattle.rb_layout.proofs.WrittenForms as W
use Rattle.rb_agree.specs.declared.items.Written.{Written}
use Rattle.rb_agree.specs.declared.items.Item as D
use Rattle.rb_agree.specs.Written.{shown_item, shown_items, shown_part}
use Rattle.rb_agree.specs.inner.Around.{content_of, inside_of, kind_around, part_around, written_part}

parts-it : (parts : List PartDecl) → map (λ (p : Around WrittenPart). p.it) (map part_around parts) ≡ map written_part parts
parts-it [] = refl
parts-it (p ∷ parts) = ap (λ (ps : List WrittenPart). written_part p ∷ ps) (parts-it parts)

parts-inside : (parts : List PartDecl) → items_inside (map part_around parts) ≡ flat_map inside_of parts
parts-inside [] = refl
parts-inside (p ∷ parts) = ap (λ (ps : List Item). inside_of p ++ ps) (parts-inside parts)

pub list-Word : (width : ℕ) (parts : List PartDecl) → item_list (I.Word width parts) ≡ AWord width (map written_part parts) ∷ flat_map inside_of parts
list-Word width parts =
    W.fold-Word (List Item) (Around Content) (Around WrittenPart) items_step content_step written_part_step width parts
    ∙ ap (λ (ps : List WrittenPart). AWord width ps ∷ items_inside (map part_around parts)) (parts-it parts)
    ∙ ap (λ (xs : List Item). AWord width (map written_part parts) ∷ xs) (parts-inside parts)

pub list-Inline : (path : List ℕ) → item_list (I.Inline path) ≡ AField path ∷ []
list-Inline path = W.fold-Inline (List Item) (Around Content) (Around WrittenPart) items_step content_step written_part_step path

pub around-Const : (c : ℕ) → kind_around (K.Const c) ≡ plain (Number c)
around-Const c = W.fold-Const (List Item) (Around Content) (Around WrittenPart) items_step content_step written_part_step c

pub around-Whole : (path : List ℕ) → kind_around (K.Whole path) ≡ plain (Whole path)
around-Whole path = W.fold-Whole (List Item) (Around Content) (Around WrittenPart) items_step content_step written_part_step path

pub around-Slice : (path : List ℕ) (a k : ℕ) → kind_around (K.Slice path a k) ≡ plain (Slice path a k)
around-Slice path a k = W.fold-Slice (List Item) (Around Content) (Around WrittenPart) items_step content_step written_part_step path a k

pub around-WordOf : (path : List ℕ) (j : ℕ) → kind_around (K.Word path j) ≡ plain (WordOf path j)
around-WordOf path j = W.fold-WordOf (List Item) (Around Content) (Around WrittenPart) items_step content_step written_part_step path j

joined_lists : (xs : List LayItem) → flat_map (λ (ys : List Item). ys) (map item_list xs) ≡ item_lists xs
joined_lists [] = refl
joined_lists (x ∷ xs) = ap (λ (ys : List Item). item_list x ++ ys) (joined_lists xs)

pub around-Pointer : (align : ℕ) (items : List LayItem) → kind_around (K.Pointer align items) ≡ record { it = Address align; inside = item_lists items }
around-Pointer align items =
    W.fold-Pointer (List Item) (Around Content) (Around WrittenPart) items_step content_step written_part_step align items
    ∙ ap (λ (xs : List Item). record { it = Address align; inside = xs }) (joined_lists items)

pub around-Part : (p : PartDecl) → part_around p ≡ record { it = record { o = p.o; l = p.l; content = (kind_around p.kind).it }; inside = (kind_around p.kind).inside }
around-Part p = fold_out-PartDecl (List Item) (Around Content) (Around WrittenPart) items_step content_step written_part_step p

-- What a kind holds, by its form --------------------------------------------------------------------

module _ (kind : PartKind) where
  pub holds-Const : (c : ℕ) → kind ≡ K.Const c → content_of kind ≡ Number c
  holds-Const c is = ap (λ (k : PartKind). content_of k) is ∙ ap (λ (a : Around Content). a.it) (around-Const c)

  pub holds-Whole : (path : List ℕ) → kind ≡ K.Whole path → content_of kind ≡ Whole path
  holds-Whole path is = ap (λ (k : PartKind). content_of k) is ∙ ap (λ (a : Around Content). a.it) (around-Whole path)

  pub holds-Slice : (path : List ℕ) (a k : ℕ) → kind ≡ K.Slice path a k → content_of kind ≡ Slice path a k
  holds-Slice path a k is = ap (λ (x : PartKind). content_of x) is ∙ ap (λ (x : Around Content). x.it) (around-Slice path a k)

  pub holds-WordOf : (path : List ℕ) (j : ℕ) → kind ≡ K.Word path j → content_of kind ≡ WordOf path j
  holds-WordOf path j is = ap (λ (x : PartKind). content_of x) is ∙ ap (λ (x : Around Content). x.it) (around-WordOf path j)

  pub holds-Pointer : (align : ℕ) (items : List LayItem) → kind ≡ K.Pointer align items → content_of kind ≡ Address align
  holds-Pointer align items is = ap (λ (x : PartKind). content_of x) is ∙ ap (λ (x : Around Content). x.it) (around-Pointer align items)

pub part-is : (p : PartDecl) → written_part p ≡ record { o = p.o; l = p.l; content = content_of p.kind }
part-is p = ap (λ (a : Around WrittenPart). a.it) (around-Part p)

inside-is : (p : PartDecl) → inside_of p ≡ (kind_around p.kind).inside
inside-is p = ap (λ (a : Around WrittenPart). a.inside) (around-Part p)

module _ (p : PartDecl) where
  nothing-in : (c : Content) → kind_around p.kind ≡ plain c → inside_of p ≡ []
  nothing-in c is = inside-is p ∙ ap (λ (a : Around Content). a.inside) is

  pub none-Const : (c : ℕ) → p.kind ≡ K.Const c → inside_of p ≡ []
  none-Const c is = nothing-in (Number c) (ap kind_around is ∙ around-Const c)

  pub none-Whole : (path : List ℕ) → p.kind ≡ K.Whole path → inside_of p ≡ []
  none-Whole path is = nothing-in (Whole path) (ap kind_around is ∙ around-Whole path)

  pub none-Slice : (path : List ℕ) (a k : ℕ) → p.kind ≡ K.Slice path a k → inside_of p ≡ []
  none-Slice path a k is = nothing-in (Slice path a k) (ap kind_around is ∙ around-Slice path a k)

  pub none-Word : (path : List ℕ) (j : ℕ) → p.kind ≡ K.Word path j → inside_of p ≡ []
  none-Word path j is = nothing-in (WordOf path j) (ap kind_around is ∙ around-WordOf path j)

  pub in-Pointer : (align : ℕ) (items : List LayItem) → p.kind ≡ K.Pointer align items → inside_of p ≡ item_lists items
  in-Pointer align items is = inside-is p ∙ ap (λ (a : Around Content). a.inside) (ap kind_around is ∙ around-Pointer align items)

-- Lists that grow -------------------------------------------------------------------------------------

pub shown-push : (old new : List D.Item) (x : D.Item) → new ≡ old ++ x ∷ [] → shown_items new ≡ shown_items old ++ shown_item x ∷ []
shown-push old new x is = ap (λ (xs : List D.Item). shown_items xs) is ∙ map-append shown_item old (x ∷ [])

-- the rest of a list added
pub more-of : {A : Type 0} (f : A → List Item) (xs : List A) (i : ℕ) (x : A) (here next start : List Item) → i < length xs → x ≡ get_or xs i x
    → next ≡ here ++ f x → here ++ flat_map f (drop i xs) ≡ start → next ++ flat_map f (drop (i + 1) xs) ≡ start
more-of {A} f xs i x here next start lt is added all =
    let step : flat_map f (drop i xs) ≡ f x ++ flat_map f (drop (i + 1) xs) =
    ap (λ (ys : List A). flat_map f ys) (drop-cons xs i x lt ∙ ap (λ (y : A). y ∷ drop (suc i) xs) (sym is)) ∙ ap (λ m. f x ++ flat_map f (drop m xs)) (sym (add-one i)) in
    ap (λ ys. ys ++ flat_map f (drop (i + 1) xs)) added ∙ append_assoc here (f x) (flat_map f (drop (i + 1) xs)) ∙ ap (λ ys. here ++ ys) (sym step) ∙ all

pub all-of : {A : Type 0} (f : A → List Item) (xs : List A) (i : ℕ) (here start : List Item) → length xs ≤ i → here ++ flat_map f (drop i xs) ≡ start → here ≡ start
all-of {A} f xs i here start le all =
    sym (append-nil here) ∙ ap (λ (ys : List Item). here ++ ys) (sym (ap (λ (ys : List A). flat_map f ys) (drop_all i xs le))) ∙ all

-- a word, and what is inside it
pub word-added : (item : LayItem) (width : ℕ) (parts ws : List PartDecl) (old middle new : List Item) (written : List Written)
    → item ≡ I.Word width parts → ws ≡ parts → map shown_part written ≡ map written_part ws
    → middle ≡ old ++ AWord width (map shown_part written) ∷ [] → new ≡ middle ++ flat_map inside_of ws → new ≡ old ++ item_list item
word-added item width parts ws old middle new written is same shown one rest =
    let first : middle ≡ old ++ AWord width (map written_part parts) ∷ [] =
    one ∙ ap (λ (ps : List WrittenPart). old ++ AWord width ps ∷ []) (shown ∙ ap (λ (xs : List PartDecl). map written_part xs) same) in
    rest ∙ ap (λ (xs : List PartDecl). middle ++ flat_map inside_of xs) same ∙ ap (λ ys. ys ++ flat_map inside_of parts) first
    ∙ append_assoc old (AWord width (map written_part parts) ∷ []) (flat_map inside_of parts)
    ∙ ap (λ ys. old ++ ys) (sym (ap (λ (x : LayItem). item_list x) is ∙ list-Word width parts))
