-- The blocks of a flat leaf: inner ones stand before outer ones, and each is pointed to.
use Rattle.std.proofs.Common.{◌≡◌, ℕ, zero, suc, ◌+◌, ◌<◌, inl, inr, List, [], ◌∷◌, ◌++◌, map, length, refl, sym, ap, subst, ◌∙◌, arith}
use Rattle.std.specs.Prelude.{◌⊎◌, Option, Some, None, slice_get}
use Rattle.std.specs.List.{flat_map}
use Rattle.std.proofs.lemmas.List.{append-nil, map-append}
use Rattle.std.proofs.lemmas.Grind.{flat_map-append}
use Rattle.std.proofs.lemmas.Option.{same_Some, slice_get_within}
use Rattle.rb_core.specs.declared.types.Ty.{Ty}
use Rattle.rb_core.specs.declared.types.Ty.TheVariants.{Int, Named}
use Rattle.rb_core.specs.declared.layout_decl.LayItem.{LayItem}
use Rattle.rb_core.specs.declared.layout_decl.LayItem as I
use Rattle.rb_core.specs.declared.layout_decl.PartKind.{PartKind}
use Rattle.rb_core.specs.declared.layout_decl.PartKind as K
use Rattle.rb_core.specs.declared.layout_decl.PartDecl.{PartDecl}
use Rattle.rb_core.specs.declared.layout_decl.LayoutDecl.{LayoutDecl}
use Rattle.rb_core.proofs.LayoutInduction.{item-induction}
use Rattle.rb_layout.specs.declared.layout.Block.{Block}
use Rattle.rb_layout.specs.declared.layout.FlatWord.{FlatWord}
use Rattle.rb_layout.specs.declared.layout.Part.{Part}
use Rattle.rb_layout.specs.declared.layout.Kind.{Kind}
use Rattle.rb_layout.specs.declared.layout.Kind.TheVariants.{Const, Bits, Word, Pointer}
use Rattle.rb_layout.specs.Positions.{Open}
use Rattle.rb_layout.specs.Flattening.{Laying, in_turn, item_laid, kind_laid, part_laid, items_laid, parts_of, whole_kind, kind_if_open, type_at, shape_of, words_inlined, inline_words}
use Rattle.rb_layout.proofs.FlatForms.{Each}
use Rattle.rb_layout.proofs.Computing.{word_laid, inline_laid, const_laid, whole_laid, slice_laid, word_of_laid, pointer_laid, part_laid_is}

-- Lists -------------------------------------------------------------------------------------------

abbrev pub In : {A : Type 0} → A → List A → Type 0
In x xs = (k : ℕ) × (slice_get xs k ≡ Some x)

pub get_left : {A : Type 0} (xs ys : List A) (k : ℕ) (x : A) → slice_get xs k ≡ Some x → slice_get (xs ++ ys) k ≡ Some x
get_left [] ys k x e = absurd cc
get_left (y ∷ xs) ys zero x e = e
get_left (y ∷ xs) ys (suc k) x e = get_left xs ys k x e

pub get_right : {A : Type 0} (xs ys : List A) (k : ℕ) (x : A) → slice_get ys k ≡ Some x → slice_get (xs ++ ys) (length xs + k) ≡ Some x
get_right {A} [] ys k x e =
    let z : 0 + k ≡ k = omega arith in
    ap (λ n. slice_get ys n) z ∙ e
get_right {A} (y ∷ xs) ys k x e =
    let z : suc (length xs) + k ≡ suc (length xs + k) = omega arith in
    ap (λ n. slice_get (y ∷ (xs ++ ys)) n) z ∙ get_right xs ys k x e

abbrev pub Either : {A : Type 0} → List A → List A → ℕ → A → Type 0
Either xs ys k x = (slice_get xs k ≡ Some x) ⊎ ((j : ℕ) × (k ≡ length xs + j) × (slice_get ys j ≡ Some x))

pub get_either : {A : Type 0} (xs ys : List A) (k : ℕ) (x : A) → slice_get (xs ++ ys) k ≡ Some x → Either xs ys k x
get_either [] ys k x e = inr (k, omega arith, e)
get_either (y ∷ xs) ys zero x e = inl e
get_either {A} (y ∷ xs) ys (suc k) x e = one_on (get_either xs ys k x e)
  where
    one_on : Either xs ys k x → Either (y ∷ xs) ys (suc k) x
    one_on (inl h) = inl h
    one_on (inr h) = inr (h.0, omega (arith, h.1), h.2)

pub in_left : {A : Type 0} (xs ys : List A) (x : A) → In x xs → In x (xs ++ ys)
in_left xs ys x h = (h.0, get_left xs ys h.0 x h.1)

pub in_right : {A : Type 0} (xs ys : List A) (x : A) → In x ys → In x (xs ++ ys)
in_right xs ys x h = (length xs + h.0, get_right xs ys h.0 x h.1)

pub in_either : {A : Type 0} (xs ys : List A) (x : A) → In x (xs ++ ys) → In x xs ⊎ In x ys
in_either {A} xs ys x h = which (get_either xs ys h.0 x h.1)
  where
    which : Either xs ys h.0 x → In x xs ⊎ In x ys
    which (inl e) = inl (h.0, e)
    which (inr e) = inr (e.0, e.2)

-- What is placed, and its blocks -----------------------------------------------------------------

abbrev pub kinds_of : List Part → List Kind
kinds_of parts = map (λ (p : Part). p.kind) parts

abbrev pub word_kinds : List FlatWord → List Kind
word_kinds words = flat_map (λ (f : FlatWord). kinds_of f.parts) words

-- block b stands among these blocks, the first of which is block n
pub record Found (n : ℕ) (bs : List Block) (align b : ℕ) : Type 0 where
  pub i : ℕ
  pub block : Block
  pub is_number : b ≡ n + i
  pub is_block : slice_get bs i ≡ Some block
  pub is_align : block.align ≡ align

abbrev pub Outer : ℕ → List Block → ℕ → Block → Type 0
Outer n bs i block = (m : ℕ) × (outer : Block) × (i < m) × (slice_get bs m ≡ Some outer) × In (Pointer block.align (n + i)) (word_kinds outer.words)

pub record Good (n : ℕ) (ks : List Kind) (bs : List Block) : Type 0 where
  pub lead : (align b : ℕ) → In (Pointer align b) ks → Found n bs align b
  pub inner : (i : ℕ) (block : Block) (align b : ℕ) → slice_get bs i ≡ Some block → In (Pointer align b) (word_kinds block.words)
      → (f : Found n bs align b) × (f.i < i)
  pub pointed : (i : ℕ) (block : Block) → slice_get bs i ≡ Some block → In (Pointer block.align (n + i)) ks ⊎ Outer n bs i block

abbrev found_left : (n : ℕ) (bs cs : List Block) (align b : ℕ) → Found n bs align b → Found n (bs ++ cs) align b
found_left n bs cs align b f = record { i = f.i; block = f.block; is_number = f.is_number; is_block = get_left bs cs f.i f.block f.is_block; is_align = f.is_align }

abbrev found_right : (n : ℕ) (bs cs : List Block) (align b : ℕ) → Found (n + length bs) cs align b → Found n (bs ++ cs) align b
found_right n bs cs align b f = record {
  i = length bs + f.i;
  block = f.block;
  is_number = omega (arith, f.is_number);
  is_block = get_right bs cs f.i f.block f.is_block;
  is_align = f.is_align;
}

outer_left : (n : ℕ) (bs cs : List Block) (i : ℕ) (block : Block) → Outer n bs i block → Outer n (bs ++ cs) i block
outer_left n bs cs i block o = (o.0, o.1, o.2, get_left bs cs o.0 o.1 o.3, o.4)

numbered_on : (n k j i : ℕ) → i ≡ k + j → n + k + j ≡ n + i
numbered_on n k j i e = omega (arith, e)

found_right_at : (n : ℕ) (bs cs : List Block) (align b : ℕ) (f : Found (n + length bs) cs align b) → (found_right n bs cs align b f).i ≡ length bs + f.i
found_right_at n bs cs align b f = refl

module _ (n : ℕ) (ks ls : List Kind) (bs cs : List Block) (g : Good n ks bs) (h : Good (n + length bs) ls cs) where
  lead_either : (align b : ℕ) → In (Pointer align b) ks ⊎ In (Pointer align b) ls → Found n (bs ++ cs) align b
  lead_either align b (inl at) = found_left n bs cs align b (g.lead align b at)
  lead_either align b (inr at) = found_right n bs cs align b (h.lead align b at)

  inner_either : (i : ℕ) (block : Block) (align b : ℕ) → Either bs cs i block → In (Pointer align b) (word_kinds block.words)
      → (f : Found n (bs ++ cs) align b) × (f.i < i)
  inner_either i block align b (inl at) inside =
      let f = g.inner i block align b at inside in
      (found_left n bs cs align b f.0, f.1)
  inner_either i block align b (inr at) inside =
      let f = h.inner at.0 block align b at.2 inside in
      (found_right n bs cs align b f.0, omega (arith, f.1, at.1, found_right_at n bs cs align b f.0))

  pointed_left : (i : ℕ) (block : Block) → In (Pointer block.align (n + i)) ks ⊎ Outer n bs i block → In (Pointer block.align (n + i)) (ks ++ ls) ⊎ Outer n (bs ++ cs) i block
  pointed_left i block (inl at) = inl (in_left ks ls (Pointer block.align (n + i)) at)
  pointed_left i block (inr o) = inr (outer_left n bs cs i block o)

  pointed_right : (i j : ℕ) (block : Block) → i ≡ length bs + j → In (Pointer block.align (n + length bs + j)) ls ⊎ Outer (n + length bs) cs j block
      → In (Pointer block.align (n + i)) (ks ++ ls) ⊎ Outer n (bs ++ cs) i block
  pointed_right i j block e (inl at) =
      inl (in_right ks ls (Pointer block.align (n + i)) (subst (λ b. In (Pointer block.align b) ls) (numbered_on n (length bs) j i e) at))
  pointed_right i j block e (inr o) =
      inr (length bs + o.0, o.1, omega (arith, o.2, e), get_right bs cs o.0 o.1 o.3, subst (λ b. In (Pointer block.align b) (word_kinds o.1.words)) (numbered_on n (length bs) j i e) o.4)

  pointed_either : (i : ℕ) (block : Block) → Either bs cs i block → In (Pointer block.align (n + i)) (ks ++ ls) ⊎ Outer n (bs ++ cs) i block
  pointed_either i block (inl at) = pointed_left i block (g.pointed i block at)
  pointed_either i block (inr at) = pointed_right i at.0 block at.1 (h.pointed at.0 block at.2)

  -- one thing after another
  good_join : Good n (ks ++ ls) (bs ++ cs)
  good_join = record {
    lead = λ align b at. lead_either align b (in_either ks ls (Pointer align b) at);
    inner = λ i block align b at inside. inner_either i block align b (get_either bs cs i block at) inside;
    pointed = λ i block at. pointed_either i block (get_either bs cs i block at);
  }

abbrev align_in : Kind → ℕ
align_in (Const c) = 0
align_in (Bits path a) = 0
align_in (Word path j) = 0
align_in (Pointer align b) = align

abbrev block_in : Kind → ℕ
block_in (Const c) = 0
block_in (Bits path a) = 0
block_in (Word path j) = 0
block_in (Pointer align b) = b

only_one : {A : Type 0} (x y : A) (k : ℕ) → slice_get (x ∷ []) k ≡ Some y → x ≡ y
only_one x y zero e = same_Some x y e
only_one x y (suc k) e = absurd cc

module _ (n : ℕ) (words : List FlatWord) (bs : List Block) (align : ℕ) (g : Good n (word_kinds words) bs) where
  abbrev new : Block
  new = record { align = align; words = words }

  abbrev here : Kind
  here = Pointer align (n + length bs)

  last_block : slice_get (bs ++ new ∷ []) (length bs + 0) ≡ Some new
  last_block = get_right bs (new ∷ []) 0 new refl

  found_new : (a b : ℕ) → here ≡ Pointer a b → Found n (bs ++ new ∷ []) a b
  found_new a b e = record {
    i = length bs + 0;
    block = new;
    is_number = sym (ap block_in e) ∙ plus_none n (length bs);
    is_block = last_block;
    is_align = ap align_in e;
  }
    where
      plus_none : (n k : ℕ) → n + k ≡ n + (k + 0)
      plus_none n k = omega arith

  inner_new : (i : ℕ) (block : Block) (a b : ℕ) → Either bs (new ∷ []) i block → In (Pointer a b) (word_kinds block.words) → (f : Found n (bs ++ new ∷ []) a b) × (f.i < i)
  inner_new i block a b (inl at) inside =
      let f = g.inner i block a b at inside in
      (found_left n bs (new ∷ []) a b f.0, f.1)
  inner_new i block a b (inr at) inside =
      let f = g.lead a b (subst (λ (x : Block). In (Pointer a b) (word_kinds x.words)) (sym (only_one new block at.0 at.2)) inside) in
      (found_left n bs (new ∷ []) a b f, omega (arith, slice_get_within bs f.i f.block f.is_block, at.1))

  outer_new : (i : ℕ) (block : Block) → slice_get bs i ≡ Some block → In (Pointer block.align (n + i)) (word_kinds words) ⊎ Outer n bs i block → Outer n (bs ++ new ∷ []) i block
  outer_new i block at (inl inside) = (length bs + 0, new, omega (arith, slice_get_within bs i block at), last_block, inside)
  outer_new i block at (inr o) = outer_left n bs (new ∷ []) i block o

  pointed_new : (i : ℕ) (block : Block) → Either bs (new ∷ []) i block → In (Pointer block.align (n + i)) (here ∷ []) ⊎ Outer n (bs ++ new ∷ []) i block
  pointed_new i block (inl at) = inr (outer_new i block at (g.pointed i block at))
  pointed_new i block (inr at) =
      let z : at.0 < 1 = slice_get_within (new ∷ []) at.0 block at.2 in
      let same : n + length bs ≡ n + i = omega (arith, z, at.1) in
      inl (0, ap (λ b. Some (Pointer align b)) same ∙ ap (λ (x : Block). Some (Pointer x.align (n + i))) (only_one new block at.0 at.2))

  -- a pointer, and its block behind those inside it
  good_pointer : Good n (here ∷ []) (bs ++ new ∷ [])
  good_pointer = record {
    lead = λ a b at. found_new a b (only_one here (Pointer a b) at.0 at.1);
    inner = λ i block a b at inside. inner_new i block a b (get_either bs (new ∷ []) i block at) inside;
    pointed = λ i block at. pointed_new i block (get_either bs (new ∷ []) i block at);
  }

-- what has no pointer
good_none : (n : ℕ) (ks : List Kind) → ((align b : ℕ) → In (Pointer align b) ks → ⊥) → Good n ks []
good_none n ks none = record {
  lead = λ align b at. absurd (none align b at);
  inner = λ i block align b at inside. absurd (get_none i block at);
  pointed = λ i block at. absurd (get_none i block at);
}
  where
    get_none : (i : ℕ) (block : Block) → slice_get {X = Block} [] i ≡ Some block → ⊥
    get_none i block e = cc

-- Written items -----------------------------------------------------------------------------------

not_pointer : (k : Kind) (align b : ℕ) → ((a c : ℕ) → k ≡ Pointer a c → ⊥) → In (Pointer align b) (k ∷ []) → ⊥
not_pointer k align b other at = other align b (only_one k (Pointer align b) at.0 at.1)

no_kind : (align b : ℕ) → In {A = Kind} (Pointer align b) [] → ⊥
no_kind align b at = get_nothing at.0 at.1
  where
    get_nothing : (k : ℕ) → slice_get {X = Kind} [] k ≡ Some (Pointer align b) → ⊥
    get_nothing k e = cc

bits_not : (path : List ℕ) (a align b : ℕ) → Bits path a ≡ Pointer align b → ⊥
bits_not path a align b e = cc

word_not : (path : List ℕ) (j align b : ℕ) → Word path j ≡ Pointer align b → ⊥
word_not path j align b e = cc

const_not : (c align b : ℕ) → Const c ≡ Pointer align b → ⊥
const_not c align b e = cc

no_word_pointer : (path : List ℕ) (j : ℕ) (rest : List Kind) (align b : ℕ) → (In (Pointer align b) rest → ⊥) → In (Pointer align b) (Word path j ∷ []) ⊎ In (Pointer align b) rest → ⊥
no_word_pointer path j rest align b none (inl h) = not_pointer (Word path j) align b (word_not path j) h
no_word_pointer path j rest align b none (inr h) = none h

no_shape_pointer : (path : List ℕ) (j : ℕ) (widths : List ℕ) (align b : ℕ) → In (Pointer align b) (word_kinds (inline_words path j widths)) → ⊥
no_shape_pointer path j [] align b at = no_kind align b at
no_shape_pointer path j (w ∷ widths) align b at =
    no_word_pointer path j (word_kinds (inline_words path (j + 1) widths)) align b (λ h. no_shape_pointer path (j + 1) widths align b h)
    (in_either (Word path j ∷ []) (word_kinds (inline_words path (j + 1) widths)) (Pointer align b) at)

kinds_in : Option Kind → List Kind
kinds_in None = []
kinds_in (Some kind) = kind ∷ []

no_whole_pointer : (ty : Option Ty) (path : List ℕ) (align b : ℕ) → In (Pointer align b) (kinds_in (whole_kind ty path)) → ⊥
unfolding kinds_in
no_whole_pointer None path align b at = no_kind align b at
no_whole_pointer (Some (Int bits)) path align b at = not_pointer (Bits path 0) align b (bits_not path 0) at
no_whole_pointer (Some (Named s)) path align b at = not_pointer (Word path 0) align b (word_not path 0) at

no_open_pointer : (ty : Option Ty) (kind : Kind) (align b : ℕ) → ((a c : ℕ) → kind ≡ Pointer a c → ⊥) → In (Pointer align b) (kinds_in (kind_if_open ty kind)) → ⊥
unfolding kinds_in
no_open_pointer None kind align b other at = no_kind align b at
no_open_pointer (Some ty) kind align b other at = not_pointer kind align b other at

part_kinds : (o l : ℕ) (kind : Option Kind) → kinds_of (parts_of o l kind) ≡ kinds_in kind
unfolding kinds_in
part_kinds o l None = refl
part_kinds o l (Some kind) = refl

module _ (decls : List LayoutDecl) (opens : List Open) where
  no_field_pointer : (ty : Option Ty) (path : List ℕ) (align b : ℕ) → In (Pointer align b) (word_kinds (words_inlined decls ty path)) → ⊥
  no_field_pointer None path align b at = no_kind align b at
  no_field_pointer (Some (Int bits)) path align b at = not_pointer (Bits path 0) align b (bits_not path 0) at
  no_field_pointer (Some (Named s)) path align b at = no_shape_pointer path 0 (shape_of decls s) align b at

  abbrev GoodItem : LayItem → Type 0
  GoodItem x = (n : ℕ) → Good n (word_kinds (item_laid decls opens x n).it) (item_laid decls opens x n).blocks

  abbrev GoodKind : PartKind → Type 0
  GoodKind k = (n : ℕ) → Good n (kinds_in (kind_laid decls opens k n).it) (kind_laid decls opens k n).blocks

  items_good : (xs : List LayItem) → Each GoodItem xs → (n : ℕ) → Good n (word_kinds (items_laid decls opens xs n).it) (items_laid decls opens xs n).blocks
  items_good [] each n = good_none n [] no_kind
  items_good (x ∷ xs) each n =
      let first = item_laid decls opens x n in
      let rest = items_laid decls opens xs (n + length first.blocks) in
      subst (λ ks. Good n ks (first.blocks ++ rest.blocks)) (sym (flat_map-append (λ (f : FlatWord). kinds_of f.parts) first.it rest.it))
      (good_join n (word_kinds first.it) (word_kinds rest.it) first.blocks rest.blocks (each.0 n) (items_good xs each.1 (n + length first.blocks)))

  part_good : (p : PartDecl) → GoodKind p.kind → (n : ℕ) → Good n (kinds_of (part_laid decls opens p n).it) (part_laid decls opens p n).blocks
  part_good p good n =
      subst (λ (lay : Laying (List Part)). Good n (kinds_of (lay n).it) (lay n).blocks) (sym (part_laid_is decls opens p))
      (subst (λ ks. Good n ks (kind_laid decls opens p.kind n).blocks) (sym (part_kinds p.o p.l (kind_laid decls opens p.kind n).it)) (good n))

  parts_good : (ps : List PartDecl) → Each (λ (p : PartDecl). GoodKind p.kind) ps → (n : ℕ)
      → Good n (kinds_of (in_turn (map (part_laid decls opens) ps) n).it) (in_turn (map (part_laid decls opens) ps) n).blocks
  parts_good [] each n = good_none n [] no_kind
  parts_good (p ∷ ps) each n =
      let first = part_laid decls opens p n in
      let rest = in_turn (map (part_laid decls opens) ps) (n + length first.blocks) in
      subst (λ ks. Good n ks (first.blocks ++ rest.blocks)) (sym (map-append (λ (q : Part). q.kind) first.it rest.it))
      (good_join n (kinds_of first.it) (kinds_of rest.it) first.blocks rest.blocks (part_good p each.0 n) (parts_good ps each.1 (n + length first.blocks)))

  abbrev with_item : (x : LayItem) (lay : Laying (List FlatWord)) → item_laid decls opens x ≡ lay → ((n : ℕ) → Good n (word_kinds (lay n).it) (lay n).blocks) → GoodItem x
  with_item x lay e good n = subst (λ (l : Laying (List FlatWord)). Good n (word_kinds (l n).it) (l n).blocks) (sym e) (good n)

  abbrev with_kind : (k : PartKind) (lay : Laying (Option Kind)) → kind_laid decls opens k ≡ lay → ((n : ℕ) → Good n (kinds_in (lay n).it) (lay n).blocks) → GoodKind k
  with_kind k lay e good n = subst (λ (l : Laying (Option Kind)). Good n (kinds_in (l n).it) (l n).blocks) (sym e) (good n)

  word_good : (width : ℕ) (parts : List PartDecl) → Each (λ (p : PartDecl). GoodKind p.kind) parts → GoodItem (I.Word width parts)
  word_good width parts each = with_item (I.Word width parts) _ (word_laid decls opens width parts) (λ n.
      let laid = in_turn (map (part_laid decls opens) parts) n in
      subst (λ ks. Good n ks laid.blocks) (sym (append-nil (kinds_of laid.it))) (parts_good parts each n))

  inline_good : (path : List ℕ) → GoodItem (I.Inline path)
  inline_good path = with_item (I.Inline path) _ (inline_laid decls opens path) (λ n. good_none n _ (no_field_pointer (type_at opens path) path))

  const_good : (c : ℕ) → GoodKind (K.Const c)
  unfolding kinds_in
  const_good c = with_kind (K.Const c) _ (const_laid decls opens c) (λ n. good_none n (Const c ∷ []) (λ align b. not_pointer (Const c) align b (const_not c)))

  whole_good : (path : List ℕ) → GoodKind (K.Whole path)
  whole_good path = with_kind (K.Whole path) _ (whole_laid decls opens path) (λ n. good_none n _ (no_whole_pointer (type_at opens path) path))

  slice_good : (path : List ℕ) (a k : ℕ) → GoodKind (K.Slice path a k)
  slice_good path a k = with_kind (K.Slice path a k) _ (slice_laid decls opens path a k)
      (λ n. good_none n _ (λ align b. no_open_pointer (type_at opens path) (Bits path a) align b (bits_not path a)))

  word_of_good : (path : List ℕ) (j : ℕ) → GoodKind (K.Word path j)
  word_of_good path j = with_kind (K.Word path j) _ (word_of_laid decls opens path j)
      (λ n. good_none n _ (λ align b. no_open_pointer (type_at opens path) (Word path j) align b (word_not path j)))

  pointer_good : (align : ℕ) (items : List LayItem) → Each GoodItem items → GoodKind (K.Pointer align items)
  unfolding kinds_in
  pointer_good align items each = with_kind (K.Pointer align items) _ (pointer_laid decls opens align items) (λ n.
      let laid = items_laid decls opens items n in
      good_pointer n laid.it laid.blocks align (items_good items each n))

  item_good : (x : LayItem) → GoodItem x
  item_good x = item-induction GoodItem GoodKind (record { word = word_good; inline = inline_good; const = const_good; whole = whole_good; slice = slice_good; word_of = word_of_good; pointer = pointer_good }) x

  each_good : (xs : List LayItem) → Each GoodItem xs
  each_good [] = tt
  each_good (x ∷ xs) = (item_good x, each_good xs)

  pub all_good : (xs : List LayItem) (n : ℕ) → Good n (word_kinds (items_laid decls opens xs n).it) (items_laid decls opens xs n).blocks
  all_good xs n = items_good xs (each_good xs) n
