-- What the rule on written parts says of flat words: their parts are apart, lie in them, and fit what they hold.
use Rattle.std.proofs.Common.{◌≡◌, ℕ, zero, suc, ◌+◌, ◌^◌, ◌<◌, ◌≤◌, inl, inr, length, map, List, [], ◌∷◌, ◌++◌, Option, Some, None, refl, sym, subst, ap, ◌∙◌, arith}
use Rattle.std.specs.Prelude.{slice_get}
use Rattle.std.specs.List.{flat_map}
use Rattle.std.proofs.lemmas.Option.{same_Some, slice_get_within}
use Rattle.rb_bits.specs.Words.{AreDisjoint}
use Rattle.rb_core.specs.declared.types.Ty.{Ty}
use Rattle.rb_core.specs.declared.types.Ty.TheVariants.{Int, Named}
use Rattle.rb_core.specs.declared.layout_decl.LayItem.{LayItem}
use Rattle.rb_core.specs.declared.layout_decl.LayItem.TheFolds.{fold-PartKind, fold-PartDecl, fold-roll-PartDecl}
use Rattle.rb_core.specs.declared.layout_decl.PartKind.{PartKind}
use Rattle.rb_core.specs.declared.layout_decl.PartKind.TheVariants as K
use Rattle.rb_core.specs.declared.layout_decl.PartDecl.{PartDecl}
use Rattle.rb_core.specs.declared.layout_decl.LayoutDecl.{LayoutDecl}
use Rattle.rb_core.proofs.LayoutInduction.{item-induction}
use Rattle.rb_layout.specs.declared.layout.Block.{Block}
use Rattle.rb_layout.specs.declared.layout.FlatWord.{FlatWord}
use Rattle.rb_layout.specs.declared.layout.Part.{Part}
use Rattle.rb_layout.specs.declared.layout.Kind.{Kind}
use Rattle.rb_layout.specs.declared.layout.Kind.TheVariants.{Const, Bits, Word, Pointer}
use Rattle.rb_layout.specs.Positions.{Open}
use Rattle.rb_layout.specs.Items.{Content, Number, Whole, Slice, WordOf, Address, WrittenPart, Item, AWord, Around, items_inside, item_list}
use Rattle.rb_layout.specs.Items as J
use Rattle.rb_layout.specs.A3.{Fits, FitsWhole, FitsSlice, FitsWord, IsContentPlaced, PartsFit, ItemFits}
use Rattle.rb_layout.specs.Flattening.{type_at, IsOpenIn, WithBlocks, Laying, without_blocks, in_turn, whole_kind, kind_if_open, kind_step, part_step, full_word, inline_words, words_inlined, shape_of, item_step, item_laid, kind_laid, part_laid, parts_of, items_laid}
use Rattle.rb_layout.specs.Flattening as P
use Rattle.rb_layout.proofs.FlatForms.{Each}
use Rattle.rb_layout.proofs.WrittenForms as D
use Rattle.rb_rel.proofs.Lists.{get-append-at, get-left, get-behind}
use Rattle.rb_rel.proofs.Packing.{IsTidy}

module _ (decls : List LayoutDecl) (opens : List Open) where
  -- what is held has a place of so many bits
  abbrev pub KindFits : ℕ → Kind → Type 0
  KindFits l (Const c) = c < 2 ^ l
  KindFits l (Bits path a) = (bits : ℕ) × (type_at opens path ≡ Some (Int bits)) × (a + l ≤ bits)
  KindFits l (Word path j) = (s : ℕ) × (type_at opens path ≡ Some (Named s)) × (slice_get (shape_of decls s) j ≡ Some l)
  KindFits l (Pointer align b) = Unit {0}

  pub record WordFits (f : FlatWord) : Type 0 where
    pub tidy : IsTidy f
    pub some : (k : ℕ) (p : Part) → slice_get f.parts k ≡ Some p → 1 ≤ p.l
    pub kinds : (k : ℕ) (p : Part) → slice_get f.parts k ≡ Some p → KindFits p.l p.kind

  abbrev pub AllFit : List FlatWord → Type 0
  AllFit fs = (j : ℕ) (f : FlatWord) → slice_get fs j ≡ Some f → WordFits f

  abbrev pub BlocksFit : List Block → Type 0
  BlocksFit bs = (b : ℕ) (block : Block) → slice_get bs b ≡ Some block → AllFit block.words

  abbrev LaidFits : WithBlocks (List FlatWord) → Type 0
  LaidFits laid = AllFit laid.it × BlocksFit laid.blocks

  abbrev pub Demands : List Item → Type 0
  Demands items = (i : ℕ) (item : Item) → slice_get items i ≡ Some item → ItemFits decls opens item

  abbrev around : PartKind → Around Content
  around = fold-PartKind (List Item) (Around Content) (Around WrittenPart) J.items_step J.content_step J.written_part_step

  abbrev around_part : PartDecl → Around WrittenPart
  around_part = fold-PartDecl (List Item) (Around Content) (Around WrittenPart) J.items_step J.content_step J.written_part_step

  around_is : (p : PartDecl) → around_part p ≡ J.written_part_step (record { o = p.o; l = p.l; kind = around p.kind })
  unfolding denote.Hole.Carrier.roll
  around_is p = fold-roll-PartDecl (List Item) (Around Content) (Around WrittenPart) J.items_step J.content_step J.written_part_step (record { o = p.o; l = p.l; kind = p.kind })

  abbrev the_kinds : PartKind → Laying (Option Kind)
  the_kinds = kind_laid decls opens

  abbrev the_parts : PartDecl → Laying (List Part)
  the_parts = part_laid decls opens

  part_fold : (p : PartDecl) → the_parts p ≡ part_step (record { o = p.o; l = p.l; kind = the_kinds p.kind })
  unfolding denote.Hole.Carrier.roll
  part_fold p = fold-roll-PartDecl (Laying (List FlatWord)) (Laying (Option Kind)) (Laying (List Part)) (item_step decls opens) (kind_step opens) part_step (record { o = p.o; l = p.l; kind = p.kind })

  abbrev WellItem : LayItem → Type 0
  WellItem item = Demands (item_list item) → (n : ℕ) → LaidFits (item_laid decls opens item n)

  record WellKind (kind : PartKind) : Type 0 where
    placed : (n : ℕ) (x : Kind) → (the_kinds kind n).it ≡ Some x → IsContentPlaced opens (around kind).it
    fits : (l : ℕ) → Fits decls opens l (around kind).it → (n : ℕ) (x : Kind) → (the_kinds kind n).it ≡ Some x → KindFits l x
    blocks : Demands (around kind).inside → (n : ℕ) → BlocksFit (the_kinds kind n).blocks

  -- lists side by side
  no_blocks : BlocksFit []
  no_blocks b block e = absurd cc

  no_words : AllFit []
  no_words j f e = absurd cc

  more_blocks : (bs cs : List Block) → BlocksFit bs → BlocksFit cs → BlocksFit (bs ++ cs)
  more_blocks bs cs x y b block e = elim (get-append-at bs cs b block e) [ inl h ↦ x b block h | inr h ↦ y h.0 block h.1 ]

  more_words : (fs gs : List FlatWord) → AllFit fs → AllFit gs → AllFit (fs ++ gs)
  more_words fs gs x y j f e = elim (get-append-at fs gs j f e) [ inl h ↦ x j f h | inr h ↦ y h.0 f h.1 ]

  first_demands : (xs ys : List Item) → Demands (xs ++ ys) → Demands xs
  first_demands xs ys d i item e = d i item (get-left xs ys i item e)

  rest_demands : (xs ys : List Item) → Demands (xs ++ ys) → Demands ys
  rest_demands xs ys d i item e = d (length xs + i) item (get-behind xs ys i item e)

  -- Items -------------------------------------------------------------------------------------
  abbrev EachDemand : List LayItem → Type 0
  EachDemand items = Each (λ (i : LayItem). Demands (item_list i)) items

  items_fit : (items : List LayItem) → Each WellItem items → EachDemand items → (n : ℕ) → LaidFits (in_turn (map (item_laid decls opens) items) n)
  items_fit [] each d n = (no_words, no_blocks)
  items_fit (i ∷ items) each d n =
      let first = item_laid decls opens i n in
      let rest = in_turn (map (item_laid decls opens) items) (n + length first.blocks) in
      let a = each.0 d.0 n in
      let b = items_fit items each.1 d.1 (n + length first.blocks) in (more_words first.it rest.it a.0 b.0, more_blocks first.blocks rest.blocks a.1 b.1)

  inside_demands : (items : List LayItem) → Demands (flat_map (λ xs. xs) (map item_list items)) → EachDemand items
  inside_demands [] d = tt
  inside_demands (i ∷ items) d =
      (first_demands (item_list i) (flat_map (λ xs. xs) (map item_list items)) d, inside_demands items (rest_demands (item_list i) (flat_map (λ xs. xs) (map item_list items)) d))

  leaf_demands : (items : List LayItem) → Demands (flat_map item_list items) → EachDemand items
  leaf_demands [] d = tt
  leaf_demands (i ∷ items) d = (first_demands (item_list i) (flat_map item_list items) d, leaf_demands items (rest_demands (item_list i) (flat_map item_list items) d))

  -- Parts -------------------------------------------------------------------------------------
  abbrev writtens : List PartDecl → List WrittenPart
  writtens parts = map (λ (p : Around WrittenPart). p.it) (map around_part parts)

  record PartsAre (ws : List WrittenPart) (ps : List Part) : Type 0 where
    from : (k : ℕ) (x : Part) → slice_get ps k ≡ Some x → (i : ℕ) × (w : WrittenPart) × (slice_get ws i ≡ Some w) × (x.o ≡ w.o) × (x.l ≡ w.l) × IsContentPlaced opens w.content
    apart : (j k : ℕ) (p q : Part) → j < k → slice_get ps j ≡ Some p → slice_get ps k ≡ Some q → AreDisjoint p.o p.l q.o q.l
    kinds : (k : ℕ) (p : Part) → slice_get ps k ≡ Some p → KindFits p.l p.kind

  abbrev IsFrom : WrittenPart → Part → Type 0
  IsFrom w x = (x.o ≡ w.o) × (x.l ≡ w.l) × IsContentPlaced opens w.content × KindFits x.l x.kind

  two_parts : (first rest : List Part) (w : WrittenPart) (ws : List WrittenPart) → ((k : ℕ) (x : Part) → slice_get first k ≡ Some x → IsFrom w x) → length first ≤ 1
      → PartsAre ws rest → ((k : ℕ) (q : WrittenPart) → slice_get ws k ≡ Some q → IsContentPlaced opens w.content → IsContentPlaced opens q.content → AreDisjoint w.o w.l q.o q.l) → PartsAre (w ∷ ws) (first ++ rest)
  two_parts first rest w ws own one are disjoint = record {
    from = λ k x e. elim (get-append-at first rest k x e) [
      | inl h ↦ let o = own k x h in (0, w, refl, o.0, o.1, o.2)
      | inr h ↦ let f = are.from h.0 x h.1 in (suc f.0, f.1, f.2, f.3, f.4, f.5)
    ];
    kinds = λ k x e. elim (get-append-at first rest k x e) [ inl h ↦ (own k x h).3 | inr h ↦ are.kinds h.0 x h.1 ];
    apart = λ j k p q lt a b. elim (get-append-at first rest j p a) [
      | inl x ↦ elim (get-append-at first rest k q b) [
        | inl y ↦ absurd (let s = slice_get_within first k q y in omega (arith, lt, s, one))
        | inr y ↦
            let o = own j p x in
            let f = are.from y.0 q y.1 in
            let d = disjoint f.0 f.1 f.2 o.2 f.5 in
            subst (λ i. AreDisjoint i p.l q.o q.l) (sym o.0) (subst (λ i. AreDisjoint w.o i q.o q.l) (sym o.1)
            (subst (λ i. AreDisjoint w.o w.l i q.l) (sym f.3) (subst (λ i. AreDisjoint w.o w.l f.1.o i) (sym f.4) d)))
      ]
      | inr x ↦ elim (get-append-at first rest k q b) [
        | inl y ↦ absurd (let s = slice_get_within first k q y in omega (arith, lt, s, x.2))
        | inr y ↦ are.apart x.0 y.0 p q (omega (arith, lt, x.2, y.2)) x.1 y.1
      ]
    ];
  }

  rest_fit : (width : ℕ) (w : WrittenPart) (ws : List WrittenPart) → PartsFit decls opens width (w ∷ ws) → PartsFit decls opens width ws
  rest_fit width w ws f = record {
    inside = λ k p e. f.inside (suc k) p e;
    disjoint = λ j k p q lt a b. f.disjoint (suc j) (suc k) p q (omega (arith, lt)) a b;
    fit = λ k p e. f.fit (suc k) p e;
  }

  one_part : (o l : ℕ) (kind : Option Kind) → length (parts_of o l kind) ≤ 1
  one_part o l None = omega arith
  one_part o l (Some kind) = omega arith

  parts_own : (o l : ℕ) (kind : Option Kind) (A : Type 0) → ((x : Kind) → kind ≡ Some x → A × KindFits l x) → (k : ℕ) (x : Part) → slice_get (parts_of o l kind) k ≡ Some x → (x.o ≡ o) × (x.l ≡ l) × A × KindFits x.l x.kind
  parts_own o l None A h k x e = absurd cc
  parts_own o l (Some kind) A h zero x e = subst (λ (y : Part). (y.o ≡ o) × (y.l ≡ l) × A × KindFits y.l y.kind) (same_Some _ x e) (refl, refl, (h kind refl).0, (h kind refl).1)
  parts_own o l (Some kind) A h (suc k) x e = absurd cc

  parts_are : (parts : List PartDecl) → Each (λ (p : PartDecl). WellKind p.kind) parts → (width n : ℕ) → PartsFit decls opens width (writtens parts)
      → PartsAre (writtens parts) (in_turn (map the_parts parts) n).it
  parts_are [] each width n f = record { from = λ k x e. absurd cc; apart = λ j k p q lt a b. absurd cc; kinds = λ k p e. absurd cc }
  parts_are (p ∷ parts) each width n f =
      let lay = the_parts p n in
      let is : lay ≡ part_step (record { o = p.o; l = p.l; kind = the_kinds p.kind }) n = ap (λ (x : Laying (List Part)). x n) (part_fold p) in
      let w = (around_part p).it in
      let wo : w.o ≡ p.o = ap (λ (x : Around WrittenPart). x.it.o) (around_is p) in
      let wl : w.l ≡ p.l = ap (λ (x : Around WrittenPart). x.it.l) (around_is p) in
      let wc : w.content ≡ (around p.kind).it = ap (λ (x : Around WrittenPart). x.it.content) (around_is p) in
      let fit : Fits decls opens p.l (around p.kind).it = subst (λ c. Fits decls opens p.l c) wc (subst (λ l. Fits decls opens l w.content) wl (f.fit 0 w refl)) in
      let e : lay.it ≡ parts_of p.o p.l (the_kinds p.kind n).it = ap (λ (y : WithBlocks (List Part)). y.it) is in
      two_parts lay.it (in_turn (map the_parts parts) (n + length lay.blocks)).it w (writtens parts)
      (λ k x h.
      let own : (y : Kind) → (the_kinds p.kind n).it ≡ Some y → IsContentPlaced opens w.content × KindFits p.l y = λ y z. (subst (IsContentPlaced opens) (sym wc) (each.0.placed n y z), each.0.fits p.l fit n y z) in
      let g = parts_own p.o p.l (the_kinds p.kind n).it (IsContentPlaced opens w.content) own k x (ap (λ (ys : List Part). slice_get ys k) (sym e) ∙ h) in
      (g.0 ∙ sym wo, g.1 ∙ sym wl, g.2, g.3))
      (let o = one_part p.o p.l (the_kinds p.kind n).it in let q : length lay.it ≡ length (parts_of p.o p.l (the_kinds p.kind n).it) = ap length e in omega (arith, o, q))
      (parts_are parts each.1 width (n + length lay.blocks) (rest_fit width w (writtens parts) f))
      (λ k q e. f.disjoint 0 (suc k) w q (omega arith) refl e)

  parts_blocks : (parts : List PartDecl) → Each (λ (p : PartDecl). WellKind p.kind) parts → Demands (items_inside (map around_part parts)) → (n : ℕ) → BlocksFit (in_turn (map the_parts parts) n).blocks
  parts_blocks [] each d n = no_blocks
  parts_blocks (p ∷ parts) each d n =
      let lay = the_parts p n in
      let is : lay ≡ part_step (record { o = p.o; l = p.l; kind = the_kinds p.kind }) n = ap (λ (x : Laying (List Part)). x n) (part_fold p) in
      let inside = items_inside (map around_part parts) in
      let here : Demands (around p.kind).inside = subst Demands (ap (λ (x : Around WrittenPart). x.inside) (around_is p)) (first_demands (around_part p).inside inside d) in
      more_blocks lay.blocks (in_turn (map the_parts parts) (n + length lay.blocks)).blocks
      (subst BlocksFit (sym (ap (λ (y : WithBlocks (List Part)). y.blocks) is)) (each.0.blocks here n))
      (parts_blocks parts each.1 (rest_demands (around_part p).inside inside d) (n + length lay.blocks))

  word_fits : (width : ℕ) (ws : List WrittenPart) (ps : List Part) → PartsFit decls opens width ws → PartsAre ws ps → WordFits (record { width = width; parts = ps })
  word_fits width ws ps f are = record {
    tidy = record {
      apart = are.apart;
      inside = λ k p e. let r = are.from k p e in let i = f.inside r.0 r.1 r.2 r.5 in omega (arith, i.1, r.3, r.4);
    };
    some = λ k p e. let r = are.from k p e in let i = f.inside r.0 r.1 r.2 r.5 in omega (arith, i.0, r.4);
    kinds = are.kinds;
  }

  only_word : (f : FlatWord) → WordFits f → AllFit (f ∷ [])
  only_word f w zero g e = subst WordFits (same_Some f g e) w
  only_word f w (suc j) g e = absurd cc

  -- in line
  one_fits : (width : ℕ) (kind : Kind) → 1 ≤ width → KindFits width kind → WordFits (full_word width kind)
  one_fits width kind some fit = record {
    tidy = record { apart = λ j k p q lt a b. absurd (let s = slice_get_within (full_word width kind).parts k q b in omega (arith, lt, s)); inside = inside };
    some = bits;
    kinds = kinds;
  }
    where
      bits : (k : ℕ) (p : Part) → slice_get (full_word width kind).parts k ≡ Some p → 1 ≤ p.l
      bits zero p e = subst (λ (y : Part). 1 ≤ y.l) (same_Some _ p e) some
      bits (suc k) p e = absurd cc

      inside : (k : ℕ) (p : Part) → slice_get (full_word width kind).parts k ≡ Some p → p.o + p.l ≤ width
      inside zero p e = subst (λ (y : Part). y.o + y.l ≤ width) (same_Some _ p e) (omega arith)
      inside (suc k) p e = absurd cc

      kinds : (k : ℕ) (p : Part) → slice_get (full_word width kind).parts k ≡ Some p → KindFits p.l p.kind
      kinds zero p e = subst (λ (y : Part). KindFits y.l y.kind) (same_Some _ p e) fit
      kinds (suc k) p e = absurd cc

  module _ (ints : (path : List ℕ) (bits : ℕ) → type_at opens path ≡ Some (Int bits) → 1 ≤ bits) (shapes : (s j w : ℕ) → slice_get (shape_of decls s) j ≡ Some w → 1 ≤ w) where
    words_fit : (path : List ℕ) (s : ℕ) → type_at opens path ≡ Some (Named s) → (j : ℕ) (widths : List ℕ) → ((i w : ℕ) → slice_get widths i ≡ Some w → slice_get (shape_of decls s) (j + i) ≡ Some w) → AllFit (inline_words path j widths)
    words_fit path s is j [] h = no_words
    words_fit path s is j (w ∷ widths) h =
        more_words (full_word w (Word path j) ∷ []) (inline_words path (j + 1) widths)
        (only_word (full_word w (Word path j)) (let z : j ≡ j + 0 = omega arith in let at = ap (slice_get (shape_of decls s)) z ∙ h 0 w refl in one_fits w (Word path j) (shapes s j w at) (s, is, at)))
        (words_fit path s is (j + 1) widths (λ i x e. let z : j + 1 + i ≡ j + suc i = omega arith in ap (slice_get (shape_of decls s)) z ∙ h (suc i) x e))

    inlined_fit : (path : List ℕ) (o : Option Ty) → type_at opens path ≡ o → AllFit (words_inlined decls o path)
    inlined_fit path None is = no_words
    inlined_fit path (Some (Int bits)) is = only_word (full_word bits (Bits path 0)) (one_fits bits (Bits path 0) (ints path bits is) (bits, is, omega arith))
    inlined_fit path (Some (Named s)) is = words_fit path s is 0 (shape_of decls s) (λ i w e. let z : 0 + i ≡ i = omega arith in ap (slice_get (shape_of decls s)) z ∙ e)

    -- Kinds -------------------------------------------------------------------------------------
    whole_placed : (path : List ℕ) (o : Option Ty) → type_at opens path ≡ o → (x : Kind) → whole_kind o path ≡ Some x → IsOpenIn opens path
    whole_placed path None is x e = absurd cc
    whole_placed path (Some ty) is x e = (ty, is)

    if_open_placed : (path : List ℕ) (kind : Kind) (o : Option Ty) → type_at opens path ≡ o → (x : Kind) → kind_if_open o kind ≡ Some x → IsOpenIn opens path
    if_open_placed path kind None is x e = absurd cc
    if_open_placed path kind (Some ty) is x e = (ty, is)

    whole_fits : (l : ℕ) (path : List ℕ) (o : Option Ty) → type_at opens path ≡ o → FitsWhole decls o l → (x : Kind) → whole_kind o path ≡ Some x → KindFits l x
    whole_fits l path None is f x e = absurd cc
    whole_fits l path (Some (Int bits)) is f x e = subst (KindFits l) (same_Some (Bits path 0) x e) (bits, is, omega (arith, f))
    whole_fits l path (Some (Named s)) is f x e = subst (KindFits l) (same_Some (Word path 0) x e) (s, is, ap (λ ws. slice_get ws 0) f)

    slice_fits : (l a k : ℕ) (path : List ℕ) (o : Option Ty) → type_at opens path ≡ o → FitsSlice o l a k → (x : Kind) → kind_if_open o (Bits path a) ≡ Some x → KindFits l x
    slice_fits l a k path None is f x e = absurd cc
    slice_fits l a k path (Some (Int bits)) is f x e = subst (KindFits l) (same_Some (Bits path a) x e) (bits, is, omega (arith, f.0, f.1))
    slice_fits l a k path (Some (Named s)) is f x e = absurd f

    word_of_fits : (l j : ℕ) (path : List ℕ) (o : Option Ty) → type_at opens path ≡ o → FitsWord decls o l j → (x : Kind) → kind_if_open o (Word path j) ≡ Some x → KindFits l x
    word_of_fits l j path None is f x e = absurd cc
    word_of_fits l j path (Some (Int bits)) is f x e = absurd f
    word_of_fits l j path (Some (Named s)) is f x e = subst (KindFits l) (same_Some (Word path j) x e) (s, is, f)

    -- a kind, by what it lays and what is written
    well_kind : (kind : PartKind) (lay : Laying (Option Kind)) (a : Around Content) → the_kinds kind ≡ lay → around kind ≡ a
        → ((n : ℕ) (x : Kind) → (lay n).it ≡ Some x → IsContentPlaced opens a.it)
        → ((l : ℕ) → Fits decls opens l a.it → (n : ℕ) (x : Kind) → (lay n).it ≡ Some x → KindFits l x) → (Demands a.inside → (n : ℕ) → BlocksFit (lay n).blocks) → WellKind kind
    well_kind kind lay a e1 e2 placed fits blocks = record {
      placed = λ n x e. subst (λ (y : Around Content). IsContentPlaced opens y.it) (sym e2) (placed n x (ap (λ (y : Laying (Option Kind)). (y n).it) (sym e1) ∙ e));
      fits = λ l f n x e. fits l (subst (λ (y : Around Content). Fits decls opens l y.it) e2 f) n x (ap (λ (y : Laying (Option Kind)). (y n).it) (sym e1) ∙ e);
      blocks = λ d n. subst (λ (y : Laying (Option Kind)). BlocksFit (y n).blocks) (sym e1) (blocks (subst (λ (y : Around Content). Demands y.inside) e2 d) n);
    }

    abbrev F : Type 0
    F = Laying (List FlatWord)

    abbrev G : Type 0
    G = Laying (Option Kind)

    abbrev H : Type 0
    H = Laying (List Part)

    item_well : (item : LayItem) → WellItem item
    item_well = item-induction WellItem WellKind (record {
      word = λ bits parts each d n.
          let e = D.fold-Word (List Item) (Around Content) (Around WrittenPart) J.items_step J.content_step J.written_part_step bits parts in
          let lay = in_turn (map the_parts parts) n in
          let demands : Demands (AWord bits (writtens parts) ∷ items_inside (map around_part parts)) = subst Demands e d in
          let fit : PartsFit decls opens bits (writtens parts) = demands 0 (AWord bits (writtens parts)) refl in
          subst (λ (y : F). LaidFits (y n)) (sym (D.fold-Word F G H (item_step decls opens) (kind_step opens) part_step bits parts)) (
            only_word (record { width = bits; parts = lay.it }) (word_fits bits (writtens parts) lay.it fit (parts_are parts each bits n fit)),
            parts_blocks parts each (λ i item is. demands (suc i) item is) n,
          );
      inline = λ path d n.
          subst (λ (y : F). LaidFits (y n)) (sym (D.fold-Inline F G H (item_step decls opens) (kind_step opens) part_step path)) (inlined_fit path (type_at opens path) refl, no_blocks);
      const = λ c. well_kind (K.Const c) (λ n. without_blocks (Some (Const c))) (J.plain (Number c)) (D.fold-Const F G H (item_step decls opens) (kind_step opens) part_step c)
          (D.fold-Const (List Item) (Around Content) (Around WrittenPart) J.items_step J.content_step J.written_part_step c)
          (λ n x e. tt) (λ l f n x e. subst (KindFits l) (same_Some (Const c) x e) f) (λ d n. no_blocks);
      whole = λ path. well_kind (K.Whole path) (λ n. without_blocks (whole_kind (type_at opens path) path)) (J.plain (Whole path)) (D.fold-Whole F G H (item_step decls opens) (kind_step opens) part_step path)
          (D.fold-Whole (List Item) (Around Content) (Around WrittenPart) J.items_step J.content_step J.written_part_step path)
          (λ n x e. whole_placed path (type_at opens path) refl x e) (λ l f n x e. whole_fits l path (type_at opens path) refl f x e) (λ d n. no_blocks);
      slice = λ path a b. well_kind (K.Slice path a b) (λ n. without_blocks (kind_if_open (type_at opens path) (Bits path a))) (J.plain (Slice path a b)) (D.fold-Slice F G H (item_step decls opens) (kind_step opens) part_step path a b)
          (D.fold-Slice (List Item) (Around Content) (Around WrittenPart) J.items_step J.content_step J.written_part_step path a b)
          (λ n x e. if_open_placed path (Bits path a) (type_at opens path) refl x e) (λ l f n x e. slice_fits l a b path (type_at opens path) refl f x e) (λ d n. no_blocks);
      word_of = λ path j. well_kind (K.Word path j) (λ n. without_blocks (kind_if_open (type_at opens path) (Word path j))) (J.plain (WordOf path j)) (D.fold-WordOf F G H (item_step decls opens) (kind_step opens) part_step path j)
          (D.fold-WordOf (List Item) (Around Content) (Around WrittenPart) J.items_step J.content_step J.written_part_step path j)
          (λ n x e. if_open_placed path (Word path j) (type_at opens path) refl x e) (λ l f n x e. word_of_fits l j path (type_at opens path) refl f x e) (λ d n. no_blocks);
      pointer = λ align items each.
          let lay : Laying (List FlatWord) = in_turn (map (item_laid decls opens) items) in
          well_kind (K.Pointer align items) (λ n. P.pointer_to_block align n (lay n)) (record { it = Address align; inside = flat_map (λ xs. xs) (map item_list items) }) (D.fold-Pointer F G H (item_step decls opens) (kind_step opens) part_step align items)
          (D.fold-Pointer (List Item) (Around Content) (Around WrittenPart) J.items_step J.content_step J.written_part_step align items)
          (λ n x e. tt)
          (λ l f n x e. subst (KindFits l) (same_Some (Pointer align (n + length (lay n).blocks)) x e) tt)
          (λ d n.
          let a = items_fit items each (inside_demands items d) n in
          more_blocks (lay n).blocks (record { align = align; words = (lay n).it } ∷ []) a.1 (only_block (record { align = align; words = (lay n).it }) a.0));
    })
      where
        only_block : (block : Block) → AllFit block.words → BlocksFit (block ∷ [])
        only_block block w zero x e = subst (λ (y : Block). AllFit y.words) (same_Some block x e) w
        only_block block w (suc b) x e = absurd cc

    all_well : (items : List LayItem) → Each WellItem items
    all_well [] = tt
    all_well (i ∷ items) = (item_well i, all_well items)

    -- the words of a flat leaf fit, where its items do
    pub leaf_fits : (items : List LayItem) → Demands (J.item_lists items) → AllFit (items_laid decls opens items 0).it × BlocksFit (items_laid decls opens items 0).blocks
    leaf_fits items d = items_fit items (all_well items) (leaf_demands items d) 0
