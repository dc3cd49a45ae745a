-- Items of layouts of a file that was read: no more items and parts than tokens, and each list is short.
use Rattle.std.proofs.Common.{◌≡◌, ℕ, suc, ◌+◌, ◌^◌, ◌<◌, ◌≤◌, List, [], ◌∷◌, map, length, true, nat_lt, Ok, refl, ◌∙◌, ap, subst, arith}
use Rattle.std.proofs.lemmas.Bool.{and_from}
use Rattle.std.proofs.lemmas.Grind.{common_steps}
use Rattle.std.proofs.lemmas.List.Sums.{sum_by-cons}
use Rattle.std.specs.List.{sum_by}
use Rattle.rb_core.specs.declared.layout_decl.PartDecl.{PartDecl}
use Rattle.rb_core.specs.declared.layout_decl.PartKind.{PartKind}
use Rattle.rb_core.specs.declared.layout_decl.PartKind as K
use Rattle.rb_core.specs.declared.layout_decl.LayItem.{LayItem}
use Rattle.rb_core.specs.declared.layout_decl.LayItem as I
use Rattle.rb_core.specs.declared.layout_decl.LayItem.TheViews as V
use Rattle.rb_core.specs.declared.layout_decl.LayItem.TheOpen as item
use Rattle.rb_core.specs.declared.layout_decl.LayItem.TheFolds.{fold-PartKind, fold-PartDecl, fold-roll-LayItem, fold-roll-PartKind, fold_out-PartDecl}
use Rattle.rb_core.specs.Layouts as lay
use Rattle.rb_core.specs.Layouts.{is_short, counts_in, written_round, written_path, kind_step, part_step, item_step, leaf_is_short}
use Rattle.rb_syntax.specs.declared.token.Token.TheVariants as tok
use Rattle.rb_syntax.specs.declared.token.ReservedWord.TheVariants as word
use Rattle.rb_syntax.specs.declared.token.Symbol.TheVariants as symbol
use Rattle.rb_syntax.specs.Written.{Written, Writing, token, node, tokens_in, any_with, some_with}
use Rattle.rb_syntax.specs.Spelling.{comma, range_written, field_written, path_written, kind_written, part_written, lay_item_written}
use Rattle.rb_syntax.proofs.LayoutSpelling.{item-Word, item-Inline, part-is, kind-Const, kind-Whole, kind-Slice, kind-Word, kind-Pointer}
use Rattle.rb_names.specs.Numbering.{Resolved}
use Rattle.rb_names.proofs.Rising.{Right}
use Rattle.rb_names.proofs.Inverting.{ok-is}
use Rattle.rb_names.proofs.WellTypes.{checked-right}
use Rattle.rb_core.proofs.LayoutInduction as induction
use Rattle.rb_names.proofs.WellLists.{Each, each-passes, length-of-map, all-ok, off-token, off-node, right-as, Fine, is-as, are-each, are-any, are-some}
use Rattle.rb_names.proofs.WellProvenances.{at_level-of, short-of}

-- an item, a kind and a part as they are counted
abbrev pub kind_counted : PartKind → lay.ItemCounts
kind_counted = fold-PartKind lay.ItemCounts lay.ItemCounts lay.ItemCounts item_step kind_step part_step

abbrev pub part_counted : PartDecl → lay.ItemCounts
part_counted = fold-PartDecl lay.ItemCounts lay.ItemCounts lay.ItemCounts item_step kind_step part_step

pub counted-Word : (bits : ℕ) (parts : List PartDecl) → counts_in (I.Word bits parts) ≡ written_round 1 0 (map part_counted parts)
unfolding I.roll-LayItem denote.Hole.Carrier.roll
counted-Word bits parts = fold-roll-LayItem lay.ItemCounts lay.ItemCounts lay.ItemCounts item_step kind_step part_step (item.LayItem::Word bits parts)

counted-Inline : (path : List ℕ) → counts_in (I.Inline path) ≡ item_step (item.Inline path)
unfolding I.roll-LayItem denote.Hole.Carrier.roll
counted-Inline path = fold-roll-LayItem lay.ItemCounts lay.ItemCounts lay.ItemCounts item_step kind_step part_step (item.Inline path)

pub counted-part : (p : PartDecl) → part_counted p ≡ record { items = (kind_counted p.kind).items; parts = (kind_counted p.kind).parts + 1; short = (kind_counted p.kind).short }
counted-part p = fold_out-PartDecl lay.ItemCounts lay.ItemCounts lay.ItemCounts item_step kind_step part_step p

pub counted-Const : (c : ℕ) → kind_counted (K.Const c) ≡ written_path []
unfolding V.roll-PartKind denote.Hole.Carrier.roll
counted-Const c = fold-roll-PartKind lay.ItemCounts lay.ItemCounts lay.ItemCounts item_step kind_step part_step (item.Const c)

pub counted-Whole : (path : List ℕ) → kind_counted (K.Whole path) ≡ written_path path
unfolding V.roll-PartKind denote.Hole.Carrier.roll
counted-Whole path = fold-roll-PartKind lay.ItemCounts lay.ItemCounts lay.ItemCounts item_step kind_step part_step (item.Whole path)

counted-Slice : (path : List ℕ) (first bits : ℕ) → kind_counted (K.Slice path first bits) ≡ written_path path
unfolding V.roll-PartKind denote.Hole.Carrier.roll
counted-Slice path first bits = fold-roll-PartKind lay.ItemCounts lay.ItemCounts lay.ItemCounts item_step kind_step part_step (item.Slice path first bits)

pub counted-PartWord : (path : List ℕ) (j : ℕ) → kind_counted (K.Word path j) ≡ written_path path
unfolding V.roll-PartKind denote.Hole.Carrier.roll
counted-PartWord path j = fold-roll-PartKind lay.ItemCounts lay.ItemCounts lay.ItemCounts item_step kind_step part_step (item.PartKind::Word path j)

pub counted-Pointer : (align : ℕ) (items : List LayItem) → kind_counted (K.Pointer align items) ≡ written_round 0 0 (map counts_in items)
unfolding V.roll-PartKind denote.Hole.Carrier.roll
counted-Pointer align items = fold-roll-PartKind lay.ItemCounts lay.ItemCounts lay.ItemCounts item_step kind_step part_step (item.Pointer align items)

abbrev pub counted : lay.ItemCounts → ℕ
counted c = c.items + c.parts

-- items and parts in all
pub counted-all : {A : Type 0} (f : A → lay.ItemCounts) (xs : List A)
    → sum_by (λ (c : lay.ItemCounts). c.items) (map f xs) + sum_by (λ (c : lay.ItemCounts). c.parts) (map f xs) ≡ sum_by (λ x. counted (f x)) xs
counted-all f [] = refl
counted-all f (x ∷ xs) = omega (
  arith,
  counted-all f xs,
  sum_by-cons (λ (c : lay.ItemCounts). c.items) (f x) (map f xs),
  sum_by-cons (λ (c : lay.ItemCounts). c.parts) (f x) (map f xs),
  sum_by-cons (λ x. counted (f x)) x xs,
)

abbrev same : {A : Type 0} → A → Resolved A
same x = Ok x

module _ (total : ℕ) (small : total < 2 ^ 32) where
  -- what is counted so behind these tokens, in these
  record Counts (c : lay.ItemCounts) (ws rest : List Written) : Type 0 where
    right : Right total rest
    count : counted c + length (tokens_in rest) ≤ length (tokens_in ws)
    short : c.short ≡ true

  counts-as : (c d : lay.ItemCounts) (ws vs rest : List Written) → c ≡ d → ws ≡ vs → Counts d vs rest → Counts c ws rest
  counts-as c d ws vs rest e f k = rw (e, f) k

  -- Paths.

  abbrev NoClaim : ℕ → Type 0
  NoClaim f = Unit {0}

  field-fine : (f : ℕ) → Fine total ℕ ℕ same (λ n. 0) NoClaim field_written f
  field-fine f rest r =
      let c = checked-right total (nat_lt f (2 ^ 32)) (token (tok.Num f) ∷ rest) (off-token total _ _ r) in record {
        right = off-token total _ rest c.1;
        shorter = rw (c.0) (omega arith);
        well = λ n e. (rw (c.0) (omega arith), tt);
      }

  fields-fine : (fs : List ℕ) → Each (Fine total ℕ ℕ same (λ n. 0) NoClaim field_written) fs
  fields-fine [] = tt
  fields-fine (f ∷ fs) = (field-fine f, fields-fine fs)

  record Path (path : List ℕ) (rest : List Written) : Type 0 where
    right : Right total rest
    count : length path + length (tokens_in rest) ≤ length (tokens_in (path_written path rest))
    some : 0 < length path
    short : is_short path ≡ true

  path-of : (path : List ℕ) (rest : List Written) → Right total (path_written path rest) → Path path rest
  path-of [] rest r = absurd r.formed
  path-of (f ∷ fs) rest r =
      let a = are-each total ℕ ℕ same (λ n. 0) NoClaim field_written (f ∷ fs) (fields-fine (f ∷ fs)) rest r in record {
        right = a.right;
        count = a.count;
        some = omega arith;
        short = short-of total small (f ∷ fs) (omega (arith, a.count, r.fits));
      }

  -- Items and kinds of parts.

  abbrev pub OfItem : LayItem → Type 0
  OfItem i = (counts_in i).short ≡ true

  abbrev OfPart : PartDecl → Type 0
  OfPart p = (part_counted p).short ≡ true

  abbrev item_at : ℕ → LayItem → Writing
  item_at l i rest = lay_item_written i l rest

  abbrev part_at : ℕ → PartDecl → Writing
  part_at l p rest = part_written p l rest

  abbrev ItemsOf : ℕ → LayItem → Type 0
  ItemsOf l = Fine total LayItem LayItem same (λ i. counted (counts_in i)) OfItem (item_at l)

  abbrev PartsOf : ℕ → PartDecl → Type 0
  PartsOf l = Fine total PartDecl PartDecl same (λ p. counted (part_counted p)) OfPart (part_at l)

  abbrev ItemFine : LayItem → Type 0
  ItemFine i = (l : ℕ) → ItemsOf l i

  abbrev KindFine : PartKind → Type 0
  KindFine k = (l : ℕ) (rest : List Written) → Right total (kind_written k l rest) → Counts (kind_counted k) (kind_written k l rest) rest

  kind-const : (c : ℕ) → KindFine (K.Const c)
  kind-const c l rest r =
      let s : Right total (token (tok.Symbol symbol.Equals) ∷ token (tok.Num c) ∷ rest) = right-as total (kind-Const c l rest) r in
      counts-as _ _ _ _ rest (counted-Const c) (kind-Const c l rest) (record {
        right = off-token total _ _ (off-token total _ _ s);
        count = omega arith;
        short = refl;
      })

  kind-whole : (path : List ℕ) → KindFine (K.Whole path)
  kind-whole path l rest r =
      let p = path-of path rest (right-as total (kind-Whole path l rest) r) in
      counts-as _ _ _ _ rest (counted-Whole path) (kind-Whole path l rest) (record { right = p.right; count = omega (arith, p.count); short = p.short })

  off-range : (o n : ℕ) (rest : List Written) → Right total (range_written o n rest) → Right total rest
  off-range o n rest r = off-token total _ _ (off-token total _ _ (off-token total _ _ (off-token total _ _ (off-token total _ _ r))))

  kind-slice : (path : List ℕ) (first bits : ℕ) → KindFine (K.Slice path first bits)
  kind-slice path first bits l rest r =
      let p = path-of path (range_written first bits rest) (right-as total (kind-Slice path first bits l rest) r) in
      counts-as _ _ _ _ rest (counted-Slice path first bits) (kind-Slice path first bits l rest)
      (record { right = off-range first bits rest p.right; count = omega (arith, p.count); short = p.short })

  kind-word : (path : List ℕ) (j : ℕ) → KindFine (K.Word path j)
  kind-word path j l rest r =
      let p = path-of path (token (tok.Reserved word.Word) ∷ token (tok.Num j) ∷ rest) (right-as total (kind-Word path j l rest) r) in
      counts-as _ _ _ _ rest (counted-PartWord path j) (kind-Word path j l rest)
      (record { right = off-token total _ _ (off-token total _ _ p.right); count = omega (arith, p.count); short = p.short })

  each-item : (l : ℕ) (items : List LayItem) → induction.Each ItemFine items → Each (ItemsOf l) items
  each-item l [] h = tt
  each-item l (i ∷ items) h = (h.0 l, each-item l items h.1)

  pub short-round : {A : Type 0} (items parts : ℕ) (f : A → lay.ItemCounts) (xs : List A) → length xs ≤ total → Each (λ x. (f x).short ≡ true) xs
      → (written_round items parts (map f xs)).short ≡ true
  short-round items parts f xs h g = and_from _ _ (short-of total small (map f xs) (omega (arith, h, length-of-map f xs)))
      (each-passes f (λ (c : lay.ItemCounts). c.short) xs g)

  kind-pointer : (align : ℕ) (items : List LayItem) → induction.Each ItemFine items → KindFine (K.Pointer align items)
  kind-pointer align items h l rest r =
      let close : List Written = token (tok.Symbol symbol.CloseBrace) ∷ rest in
      let e : kind_written (K.Pointer align items) l rest ≡ node l ∷ token (tok.Symbol symbol.Arrow) ∷ token (tok.Num align) ∷ token (tok.Symbol symbol.OpenBrace)
      ∷ any_with comma (map (item_at (suc l)) items) close =
      kind-Pointer align items l rest ∙ ap (λ us. node l ∷ token (tok.Symbol symbol.Arrow) ∷ token (tok.Num align) ∷ token (tok.Symbol symbol.OpenBrace)
      ∷ any_with comma us close) (at_level-of lay_item_written (suc l) items) in
      let s = right-as total e r in
      let a = are-any total LayItem LayItem same (λ i. counted (counts_in i)) OfItem (item_at (suc l)) comma items (each-item (suc l) items h) close
      (off-token total _ _ (off-token total _ _ (off-token total _ _ (off-node total _ _ s)))) in
      let v = a.well items (all-ok items) in
      counts-as _ _ _ _ rest (counted-Pointer align items) e (record {
        right = off-token total _ _ a.right;
        count = omega (arith, v.few, counted-all counts_in items);
        short = short-round 0 0 counts_in items (omega (arith, a.count, s.fits)) v.good;
      })

  part-fine : (l : ℕ) (p : PartDecl) → KindFine p.kind → PartsOf l p
  part-fine l p h rest r =
      let k = h l rest (off-range p.o p.l _ (right-as total (part-is p l rest) r)) in
      is-as total PartDecl PartDecl same (λ p. counted (part_counted p)) OfPart (part_at l) p rest _ (part-is p l rest) k.right (omega (arith, k.count))
      (λ q e. subst (λ (x : PartDecl). (counted (part_counted x) + length (tokens_in rest) < length (tokens_in (range_written p.o p.l (kind_written p.kind l rest)))) × OfPart x)
      (ok-is p q e) (rw (counted-part p) (omega (arith, k.count), k.short)))

  each-part : (l : ℕ) (parts : List PartDecl) → induction.Each (λ (p : PartDecl). KindFine p.kind) parts → Each (PartsOf l) parts
  each-part l [] h = tt
  each-part l (p ∷ parts) h = (part-fine l p h.0, each-part l parts h.1)

  item-word : (bits : ℕ) (parts : List PartDecl) → induction.Each (λ (p : PartDecl). KindFine p.kind) parts → ItemFine (I.Word bits parts)
  item-word bits parts h l rest r =
      let close : List Written = token (tok.Symbol symbol.CloseBrace) ∷ rest in
      let vs : List Written = token (tok.Reserved word.Word) ∷ token (tok.Num bits) ∷ token (tok.Symbol symbol.OpenBrace) ∷ any_with comma (map (part_at l) parts) close in
      let e : lay_item_written (I.Word bits parts) l rest ≡ vs =
      item-Word bits parts l rest ∙ ap (λ us. token (tok.Reserved word.Word) ∷ token (tok.Num bits) ∷ token (tok.Symbol symbol.OpenBrace)
      ∷ any_with comma us close) (at_level-of part_written l parts) in
      let s : Right total vs = right-as total e r in
      let a = are-any total PartDecl PartDecl same (λ p. counted (part_counted p)) OfPart (part_at l) comma parts (each-part l parts h) close
      (off-token total _ _ (off-token total _ _ (off-token total _ _ s))) in
      let v = a.well parts (all-ok parts) in
      is-as total LayItem LayItem same (λ i. counted (counts_in i)) OfItem (item_at l) (I.Word bits parts) rest vs e (off-token total _ _ a.right) (omega (arith, a.count))
      (λ q f. subst (λ (x : LayItem). (counted (counts_in x) + length (tokens_in rest) < length (tokens_in vs)) × OfItem x) (ok-is (I.Word bits parts) q f)
      (rw (counted-Word bits parts) (
        omega (arith, v.few, counted-all part_counted parts),
        short-round 1 0 part_counted parts (omega (arith, a.count, s.fits)) v.good,
      )))

  item-inline : (path : List ℕ) → ItemFine (I.Inline path)
  item-inline path l rest r =
      let vs : List Written = token (tok.Reserved word.Inline) ∷ path_written path rest in
      let s : Right total vs = right-as total (item-Inline path l rest) r in
      let p = path-of path rest (off-token total _ _ s) in
      is-as total LayItem LayItem same (λ i. counted (counts_in i)) OfItem (item_at l) (I.Inline path) rest vs (item-Inline path l rest) p.right (omega (arith, p.count))
      (λ q f. subst (λ (x : LayItem). (counted (counts_in x) + length (tokens_in rest) < length (tokens_in vs)) × OfItem x) (ok-is (I.Inline path) q f)
      (rw (counted-Inline path) (omega (arith, p.count, p.some), p.short)))

  item-fine : (i : LayItem) → ItemFine i
  item-fine = induction.item-induction ItemFine KindFine (record {
    word = item-word;
    inline = item-inline;
    const = kind-const;
    whole = kind-whole;
    slice = kind-slice;
    word_of = kind-word;
    pointer = kind-pointer;
  })

  all-fine : (l : ℕ) (items : List LayItem) → Each (ItemsOf l) items
  all-fine l [] = tt
  all-fine l (i ∷ items) = (item-fine i l, all-fine l items)

  -- a leaf's items are fewer than the tokens
  pub record Leaf (items : List LayItem) (ws rest : List Written) : Type 0 where
    pub right : Right total rest
    pub count : length (tokens_in rest) < length (tokens_in ws)
    pub short : leaf_is_short items ≡ true

  below_limit : (n : ℕ) → n ≤ total → nat_lt n (2 ^ 32) ≡ true
  below_limit n h = let k : n < 2 ^ 32 = omega (arith, h, small) in grind (arith, common_steps, k)

  -- items that come to so few with what stands in them
  pub few-short : (items : List LayItem) → length items ≤ total → sum_by (λ i. counted (counts_in i)) items ≤ total → Each OfItem items → leaf_is_short items ≡ true
  few-short items long few good =
      and_from _ _ (short-round 0 0 counts_in items long good)
      (and_from _ _ (below_limit (0 + sum_by (λ (c : lay.ItemCounts). c.items) (map counts_in items)) (omega (arith, few, counted-all counts_in items)))
      (below_limit (0 + sum_by (λ (c : lay.ItemCounts). c.parts) (map counts_in items)) (omega (arith, few, counted-all counts_in items))))

  pub leaf-well : (l : ℕ) (items : List LayItem) (rest : List Written) → Right total (some_with comma (map (item_at l) items) rest)
      → Leaf items (some_with comma (map (item_at l) items) rest) rest
  leaf-well l items rest r =
      let a = are-some total LayItem LayItem same (λ i. counted (counts_in i)) OfItem (item_at l) comma items (all-fine l items) rest r in
      let v = a.1.well items (all-ok items) in record {
        right = a.1.right;
        count = omega (arith, a.0, a.1.count);
        short = few-short items (omega (arith, a.1.count, r.fits)) (omega (arith, v.few, r.fits)) v.good;
      }
