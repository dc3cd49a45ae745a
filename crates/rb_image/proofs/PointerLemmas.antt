-- Pointers of a flat leaf: in the order of its parts, at most one leads to each block.
use Rattle.std.proofs.Common.{◌≡◌, ℕ, zero, suc, ◌+◌, ◌/◌, ◌<◌, ◌≤◌, ◌==◌, inl, inr, true, false, cond, List, [], ◌∷◌, ◌++◌, map, length, Option, Some, None, refl, sym, subst, ap, ◌∙◌, arith}
use Rattle.std.specs.Prelude.{slice_get, if◌then◌else◌}
use Rattle.std.specs.List.{flat_map}
use Rattle.std.proofs.lemmas.Bool.{cases_eq, cases_lt}
use Rattle.std.proofs.lemmas.List.{append-nil, length-append, map-append}
use Rattle.std.proofs.lemmas.Grind.{common_steps, flat_map-append}
use Rattle.rb_core.specs.declared.types.Ty.{Ty}
use Rattle.rb_core.specs.declared.types.Ty.TheVariants.{Int, Named}
use Rattle.rb_core.specs.declared.types.DataDecl.{DataDecl}
use Rattle.rb_core.specs.declared.layout_decl.LayItem.{LayItem}
use Rattle.rb_core.specs.declared.layout_decl.LayItem as I
use Rattle.rb_core.specs.declared.layout_decl.PartKind.{PartKind}
use Rattle.rb_core.specs.declared.layout_decl.PartKind as K
use Rattle.rb_core.specs.declared.layout_decl.PartDecl.{PartDecl}
use Rattle.rb_core.specs.declared.layout_decl.LayoutDecl.{LayoutDecl}
use Rattle.rb_core.specs.Layouts.{WrittenLeaf}
use Rattle.rb_core.proofs.LayoutInduction.{item-induction}
use Rattle.rb_layout.specs.declared.layout.Block.{Block}
use Rattle.rb_layout.specs.declared.layout.FlatWord.{FlatWord}
use Rattle.rb_layout.specs.declared.layout.Leaf.{Leaf}
use Rattle.rb_layout.specs.declared.layout.Part.{Part}
use Rattle.rb_layout.specs.declared.layout.Kind.{Kind}
use Rattle.rb_layout.specs.declared.layout.Kind.TheVariants.{Const, Bits, Word, Pointer}
use Rattle.rb_layout.specs.Positions.{Open, open_positions}
use Rattle.rb_layout.specs.Words.{words_of_block}
use Rattle.rb_layout.specs.Flattening.{Laying, in_turn, item_laid, kind_laid, part_laid, items_laid, parts_of, whole_kind, kind_if_open, type_at, shape_of, words_inlined, inline_words, flat_leaf}
use Rattle.rb_layout.proofs.Blocks.{get_left, get_right, kinds_of, word_kinds}
use Rattle.rb_layout.proofs.Computing.{word_laid, inline_laid, const_laid, whole_laid, slice_laid, word_of_laid, pointer_laid, part_laid_is}
use Rattle.rb_layout.proofs.FlatForms.{Each}
use Rattle.rb_image.specs.Orders.{LocatedPart, beginning_at, beginning_from, pointed_parts, block_order, by_offset, order_of, with_inner, word_order, words_order}

-- Counting -----------------------------------------------------------------------------------
-- 1 for a pointer to block c
abbrev pub points : ℕ → Kind → ℕ
points c (Const x) = 0
points c (Bits path a) = 0
points c (Word path j) = 0
points c (Pointer align b) = if b == c then 1 else 0

-- how many of the parts are pointers to block c
abbrev pub pointing : ℕ → List LocatedPart → ℕ
pointing c [] = 0
pointing c (s ∷ ss) = points c s.part.kind + pointing c ss

same_is : (a : ℕ) → (a == a) ≡ true
same_is a = grind (arith, common_steps)

other_is : (a b : ℕ) → (a ≡ b → ⊥) → (a == b) ≡ false
other_is a b ne = grind (arith, common_steps)

pub points_same : (c align : ℕ) → points c (Pointer align c) ≡ 1
points_same c align = ap (λ t. if t then 1 else 0) (same_is c)

pub points_other : (c align b : ℕ) → (b ≡ c → ⊥) → points c (Pointer align b) ≡ 0
points_other c align b ne = ap (λ t. if t then 1 else 0) (other_is b c ne)

counted_on : (a b c : ℕ) → a + (b + c) ≡ a + b + c
counted_on a b c = omega arith

pub pointing-append : (c : ℕ) (xs ys : List LocatedPart) → pointing c (xs ++ ys) ≡ pointing c xs + pointing c ys
pointing-append c [] ys = omega arith
pointing-append c (x ∷ xs) ys = ap (λ n. points c x.part.kind + n) (pointing-append c xs ys) ∙ counted_on (points c x.part.kind) (pointing c xs) (pointing c ys)

-- Parts by offset ----------------------------------------------------------------------------
module _ (weigh : Part → ℕ) where
  abbrev total : List Part → ℕ
  total [] = 0
  total (p ∷ ps) = weigh p + total ps

  total-append : (xs ys : List Part) → total (xs ++ ys) ≡ total xs + total ys
  total-append [] ys = omega arith
  total-append (x ∷ xs) ys = ap (λ n. weigh x + n) (total-append xs ys) ∙ counted_on (weigh x) (total xs) (total ys)

  -- a part that begins elsewhere is not among those that begin at a bit
  begins_not : (p : Part) (ps : List Part) (o : ℕ) → (p.o ≡ o → ⊥) → beginning_at (p ∷ ps) o ≡ beginning_at ps o
  begins_not p ps o ne = ap (λ t. cond t (p ∷ beginning_at ps o) (beginning_at ps o)) (other_is p.o o ne)

  begins_there : (p : Part) (ps : List Part) (o : ℕ) → p.o ≡ o → beginning_at (p ∷ ps) o ≡ p ∷ beginning_at ps o
  begins_there p ps o e = ap (λ t. cond t (p ∷ beginning_at ps o) (beginning_at ps o)) (ap (λ k. p.o == k) (sym e) ∙ same_is p.o)

  begins_before : (p : Part) (ps : List Part) (o n : ℕ) → p.o < o → beginning_from (p ∷ ps) o n ≡ beginning_from ps o n
  begins_before p ps o zero lt = refl
  begins_before p ps o (suc n) lt =
      ap (λ xs. xs ++ beginning_from (p ∷ ps) (o + 1) n) (begins_not p ps o (λ e. omega (arith, e, lt)))
      ∙ ap (λ xs. beginning_at ps o ++ xs) (begins_before p ps (o + 1) n (omega (arith, lt)))

  one_more : (p : Part) (ps : List Part) (o n : ℕ) → total (beginning_from (p ∷ ps) o n) ≤ weigh p + total (beginning_from ps o n)
  one_more p ps o zero = omega arith
  one_more p ps o (suc n) = elim (cases_eq p.o o) [
    | inl e ↦
        let rest = begins_before p ps (o + 1) n (omega (arith, e)) in
        let same : beginning_from (p ∷ ps) o (suc n) ≡ p ∷ (beginning_at ps o ++ beginning_from ps (o + 1) n) =
        ap (λ xs. xs ++ beginning_from (p ∷ ps) (o + 1) n) (begins_there p ps o e) ∙ ap (λ xs. p ∷ (beginning_at ps o ++ xs)) rest in
        let t = ap total same in
        omega (arith, t)
    | inr ne ↦
        let same : beginning_from (p ∷ ps) o (suc n) ≡ beginning_at ps o ++ beginning_from (p ∷ ps) (o + 1) n = ap (λ xs. xs ++ beginning_from (p ∷ ps) (o + 1) n) (begins_not p ps o ne) in
        let a = ap total same ∙ total-append (beginning_at ps o) (beginning_from (p ∷ ps) (o + 1) n) in
        let b = total-append (beginning_at ps o) (beginning_from ps (o + 1) n) in
        let rest = one_more p ps (o + 1) n in
        omega (arith, a, b, rest)
  ]

  none_begin : (o n : ℕ) → total (beginning_from [] o n) ≡ 0
  none_begin o zero = refl
  none_begin o (suc n) = none_begin (o + 1) n

  -- each part is taken once at most
  pub taken_once : (ps : List Part) (o n : ℕ) → total (beginning_from ps o n) ≤ total ps
  taken_once [] o n = let z = none_begin o n in omega (arith, z)
  taken_once (p ∷ ps) o n = let a = one_more p ps o n in let b = taken_once ps o n in omega (arith, a, b)

-- Pointers among kinds -----------------------------------------------------------------------
-- the pointers to block c in a part of this kind and in those behind it
abbrev pub weigh_kind : ℕ → (ℕ → List LocatedPart) → Kind → ℕ
weigh_kind c inner kind = points c kind + pointing c (pointed_parts inner kind)

abbrev pub weighed : ℕ → (ℕ → List LocatedPart) → List Kind → ℕ
weighed c inner [] = 0
weighed c inner (k ∷ ks) = weigh_kind c inner k + weighed c inner ks

module _ (c : ℕ) (inner : ℕ → List LocatedPart) where
  pub weighed-append : (xs ys : List Kind) → weighed c inner (xs ++ ys) ≡ weighed c inner xs + weighed c inner ys
  weighed-append [] ys = omega arith
  weighed-append (x ∷ xs) ys = ap (λ n. weigh_kind c inner x + n) (weighed-append xs ys) ∙ counted_on (weigh_kind c inner x) (weighed c inner xs) (weighed c inner ys)

  abbrev weigh_part : Part → ℕ
  weigh_part p = weigh_kind c inner p.kind

  total_kinds : (ps : List Part) → total weigh_part ps ≡ weighed c inner (kinds_of ps)
  total_kinds [] = refl
  total_kinds (p ∷ ps) = ap (λ n. weigh_part p + n) (total_kinds ps)

  module _ (block : Option ℕ) where
    parts_point : (j byte width : ℕ) (ps : List Part) → pointing c (flat_map (with_inner inner block j byte width) ps) ≡ total weigh_part ps
    parts_point j byte width [] = refl
    parts_point j byte width (p ∷ ps) =
        pointing-append c (with_inner inner block j byte width p) (flat_map (with_inner inner block j byte width) ps)
        ∙ ap (λ n. weigh_part p + n) (parts_point j byte width ps)

    pub words_point : (j byte : ℕ) (fs : List FlatWord) → pointing c (words_order inner block j byte fs) ≤ weighed c inner (word_kinds fs)
    words_point j byte [] = omega arith
    words_point j byte (f ∷ fs) =
        let a = pointing-append c (word_order inner block j byte f) (words_order inner block (j + 1) (byte + f.width / 8) fs) in
        let b = parts_point j byte f.width (by_offset f) in
        let d = taken_once weigh_part f.parts 0 f.width in
        let e = total_kinds f.parts in
        let rest = words_point (j + 1) (byte + f.width / 8) fs in
        let g = weighed-append (kinds_of f.parts) (word_kinds fs) in
        omega (arith, a, b, d, e, rest, g)

-- Numbers of blocks --------------------------------------------------------------------------
-- so many pointers to block c: one at most, and none unless c is one of these numbers
pub record Once (from count c n : ℕ) : Type 0 where
  pub most : n ≤ 1
  pub low : c < from → n ≡ 0
  pub high : from + count ≤ c → n ≡ 0

once_join : (from a b c x y n m : ℕ) → m ≡ a + b → n ≡ x + y → Once from a c x → Once (from + a) b c y → Once from m c n
once_join from a b c x y n m is_m is_n f g = elim (cases_lt c (from + a)) [
  | inl lt ↦
      let none = g.low lt in
      let most = f.most in
      record {
        most = omega (arith, is_n, none, most);
        low = λ l. (let z = f.low l in omega (arith, is_n, none, z));
        high = λ h. absurd (omega (arith, lt, h, is_m));
      }
  | inr le ↦
      let none = f.high le in
      let most = g.most in
      record {
        most = omega (arith, is_n, none, most);
        low = λ l. absurd (omega (arith, le, l));
        high = λ h. (let z = g.high (omega (arith, h, is_m)) in omega (arith, is_n, none, z));
      }
]

once_none : (from count c n : ℕ) → n ≡ 0 → Once from count c n
once_none from count c n z = record { most = omega (arith, z); low = λ l. z; high = λ h. z }

once_less : (from count c n m : ℕ) → m ≤ n → Once from count c n → Once from count c m
once_less from count c n m le o = record {
  most = (let a = o.most in omega (arith, a, le));
  low = λ l. (let a = o.low l in omega (arith, a, le));
  high = λ h. (let a = o.high h in omega (arith, a, le));
}

-- a pointer to the block behind these
once_pointer : (from count c align n m : ℕ) → m ≡ count + 1 → Once from count c n → Once from m c (points c (Pointer align (from + count)) + n + 0)
once_pointer from count c align n m is o = elim (cases_eq (from + count) c) [
  | inl e ↦
      let z = o.high (omega (arith, e)) in
      let p : points c (Pointer align (from + count)) ≡ 1 = ap (λ k. points c (Pointer align k)) e ∙ points_same c align in
      record { most = omega (arith, z, p); low = λ l. absurd (omega (arith, e, l)); high = λ h. absurd (omega (arith, e, h, is)) }
  | inr ne ↦
      let p = points_other c align (from + count) ne in
      record {
        most = (let a = o.most in omega (arith, a, p));
        low = λ l. (let a = o.low l in omega (arith, a, p));
        high = λ h. (let a = o.high (omega (arith, h, is)) in omega (arith, a, p));
      }
]

-- Blocks in a leaf ---------------------------------------------------------------------------
numbered_on : (n m k : ℕ) → n + m + k ≡ n + (m + k)
numbered_on n m k = omega arith

none_behind : (n k : ℕ) → n + k ≡ n + (k + 0)
none_behind n k = omega arith

module _ (leaf : Leaf) where
  -- these blocks stand in the leaf, the first of them as block n
  abbrev Stand : ℕ → List Block → Type 0
  Stand n blocks = (k : ℕ) (block : Block) → slice_get blocks k ≡ Some block → slice_get leaf.blocks (n + k) ≡ Some block

  stand_left : (n : ℕ) (bs cs : List Block) → Stand n (bs ++ cs) → Stand n bs
  stand_left n bs cs stand k block at = stand k block (get_left bs cs k block at)

  stand_right : (n : ℕ) (bs cs : List Block) → Stand n (bs ++ cs) → Stand (n + length bs) cs
  stand_right n bs cs stand k block at = ap (λ m. slice_get leaf.blocks m) (numbered_on n (length bs) k) ∙ stand (length bs + k) block (get_right bs cs k block at)

  stand_last : (n : ℕ) (bs : List Block) (new : Block) → Stand n (bs ++ new ∷ []) → slice_get leaf.blocks (n + length bs) ≡ Some new
  stand_last n bs new stand = ap (λ m. slice_get leaf.blocks m) (none_behind n (length bs)) ∙ stand (length bs + 0) new (get_right bs (new ∷ []) 0 new refl)

  -- the pointers of these kinds, and of all blocks behind them, lead each to a block of these, and no two to one
  abbrev OnceIn : ℕ → List Kind → List Block → Type 0
  OnceIn n ks bs = Stand n bs → (c depth : ℕ) → Once n (length bs) c (weighed c (block_order leaf depth) ks)

  join : (n : ℕ) (ks ls : List Kind) (bs cs : List Block) → OnceIn n ks bs → OnceIn (n + length bs) ls cs → OnceIn n (ks ++ ls) (bs ++ cs)
  join n ks ls bs cs f g stand c depth =
      let inner = block_order leaf depth in
      once_join n (length bs) (length cs) c (weighed c inner ks) (weighed c inner ls) (weighed c inner (ks ++ ls)) (length (bs ++ cs))
      (length-append bs cs) (weighed-append c inner ks ls) (f (stand_left n bs cs stand) c depth) (g (stand_right n bs cs stand) c depth)

  block_once : (n : ℕ) (words : List FlatWord) (bs : List Block) (align : ℕ) → OnceIn n (word_kinds words) bs → Stand n (bs ++ record { align = align; words = words } ∷ [])
      → (c depth : ℕ) → Once n (length bs) c (pointing c (block_order leaf depth (n + length bs)))
  block_once n words bs align f stand c zero = once_none n (length bs) c 0 refl
  block_once n words bs align f stand c (suc depth) =
      let new : Block = record { align = align; words = words } in
      let b = n + length bs in
      let is : block_order leaf (suc depth) b ≡ words_order (block_order leaf depth) (Some b) 0 0 words =
      ap (λ (o : Option Block). words_order (block_order leaf depth) (Some b) 0 0 (words_of_block o)) (stand_last n bs new stand) in
      let le = words_point c (block_order leaf depth) (Some b) 0 0 words in
      let same = ap (pointing c) is in
      once_less n (length bs) c (weighed c (block_order leaf depth) (word_kinds words)) (pointing c (block_order leaf (suc depth) b)) (omega (arith, le, same))
      (f (stand_left n bs (new ∷ []) stand) c depth)

  pointer_once : (n : ℕ) (words : List FlatWord) (bs : List Block) (align : ℕ) → OnceIn n (word_kinds words) bs → OnceIn n (Pointer align (n + length bs) ∷ []) (bs ++ record { align = align; words = words } ∷ [])
  pointer_once n words bs align f stand c depth =
      let new : Block = record { align = align; words = words } in
      once_pointer n (length bs) c align (pointing c (block_order leaf depth (n + length bs))) (length (bs ++ new ∷ [])) (length-append bs (new ∷ [])) (block_once n words bs align f stand c depth)

  none_once : (n : ℕ) (ks : List Kind) → ((c depth : ℕ) → weighed c (block_order leaf depth) ks ≡ 0) → OnceIn n ks []
  none_once n ks none stand c depth = once_none n 0 c (weighed c (block_order leaf depth) ks) (none c depth)

-- Written items ------------------------------------------------------------------------------
kinds_in : Option Kind → List Kind
kinds_in None = []
kinds_in (Some kind) = kind ∷ []

part_kinds : (o l : ℕ) (kind : Option Kind) → kinds_of (parts_of o l kind) ≡ kinds_in kind
unfolding kinds_in
part_kinds o l None = refl
part_kinds o l (Some kind) = refl

module _ (c : ℕ) (inner : ℕ → List LocatedPart) where
  shape_none : (path : List ℕ) (j : ℕ) (widths : List ℕ) → weighed c inner (word_kinds (inline_words path j widths)) ≡ 0
  shape_none path j [] = refl
  shape_none path j (w ∷ widths) = let rest = shape_none path (j + 1) widths in omega (arith, rest)

  field_none : (decls : List LayoutDecl) (ty : Option Ty) (path : List ℕ) → weighed c inner (word_kinds (words_inlined decls ty path)) ≡ 0
  field_none decls None path = refl
  field_none decls (Some (Int bits)) path = refl
  field_none decls (Some (Named s)) path = shape_none path 0 (shape_of decls s)

  whole_none : (ty : Option Ty) (path : List ℕ) → weighed c inner (kinds_in (whole_kind ty path)) ≡ 0
  unfolding kinds_in
  whole_none None path = refl
  whole_none (Some (Int bits)) path = refl
  whole_none (Some (Named s)) path = refl

  bits_none : (ty : Option Ty) (path : List ℕ) (a : ℕ) → weighed c inner (kinds_in (kind_if_open ty (Bits path a))) ≡ 0
  unfolding kinds_in
  bits_none None path a = refl
  bits_none (Some ty) path a = refl

  word_none : (ty : Option Ty) (path : List ℕ) (j : ℕ) → weighed c inner (kinds_in (kind_if_open ty (Word path j))) ≡ 0
  unfolding kinds_in
  word_none None path j = refl
  word_none (Some ty) path j = refl

module _ (decls : List LayoutDecl) (opens : List Open) (leaf : Leaf) where
  abbrev OnceItem : LayItem → Type 0
  OnceItem x = (n : ℕ) → OnceIn leaf n (word_kinds (item_laid decls opens x n).it) (item_laid decls opens x n).blocks

  abbrev OnceKind : PartKind → Type 0
  OnceKind k = (n : ℕ) → OnceIn leaf n (kinds_in (kind_laid decls opens k n).it) (kind_laid decls opens k n).blocks

  items_once : (xs : List LayItem) → Each OnceItem xs → (n : ℕ) → OnceIn leaf n (word_kinds (items_laid decls opens xs n).it) (items_laid decls opens xs n).blocks
  items_once [] each n = none_once leaf n [] (λ c depth. refl)
  items_once (x ∷ xs) each n =
      let first = item_laid decls opens x n in
      let rest = items_laid decls opens xs (n + length first.blocks) in
      subst (λ ks. OnceIn leaf n ks (first.blocks ++ rest.blocks)) (sym (flat_map-append (λ (f : FlatWord). kinds_of f.parts) first.it rest.it))
      (join leaf n (word_kinds first.it) (word_kinds rest.it) first.blocks rest.blocks (each.0 n) (items_once xs each.1 (n + length first.blocks)))

  part_once : (p : PartDecl) → OnceKind p.kind → (n : ℕ) → OnceIn leaf n (kinds_of (part_laid decls opens p n).it) (part_laid decls opens p n).blocks
  part_once p once n =
      subst (λ (lay : Laying (List Part)). OnceIn leaf n (kinds_of (lay n).it) (lay n).blocks) (sym (part_laid_is decls opens p))
      (subst (λ ks. OnceIn leaf n ks (kind_laid decls opens p.kind n).blocks) (sym (part_kinds p.o p.l (kind_laid decls opens p.kind n).it)) (once n))

  parts_once : (ps : List PartDecl) → Each (λ (p : PartDecl). OnceKind p.kind) ps → (n : ℕ)
      → OnceIn leaf n (kinds_of (in_turn (map (part_laid decls opens) ps) n).it) (in_turn (map (part_laid decls opens) ps) n).blocks
  parts_once [] each n = none_once leaf n [] (λ c depth. refl)
  parts_once (p ∷ ps) each n =
      let first = part_laid decls opens p n in
      let rest = in_turn (map (part_laid decls opens) ps) (n + length first.blocks) in
      subst (λ ks. OnceIn leaf n ks (first.blocks ++ rest.blocks)) (sym (map-append (λ (q : Part). q.kind) first.it rest.it))
      (join leaf n (kinds_of first.it) (kinds_of rest.it) first.blocks rest.blocks (part_once p each.0 n) (parts_once ps each.1 (n + length first.blocks)))

  abbrev with_item : (x : LayItem) (lay : Laying (List FlatWord)) → item_laid decls opens x ≡ lay → ((n : ℕ) → OnceIn leaf n (word_kinds (lay n).it) (lay n).blocks) → OnceItem x
  with_item x lay e once n = subst (λ (l : Laying (List FlatWord)). OnceIn leaf n (word_kinds (l n).it) (l n).blocks) (sym e) (once n)

  abbrev with_kind : (k : PartKind) (lay : Laying (Option Kind)) → kind_laid decls opens k ≡ lay → ((n : ℕ) → OnceIn leaf n (kinds_in (lay n).it) (lay n).blocks) → OnceKind k
  with_kind k lay e once n = subst (λ (l : Laying (Option Kind)). OnceIn leaf n (kinds_in (l n).it) (l n).blocks) (sym e) (once n)

  word_once : (width : ℕ) (parts : List PartDecl) → Each (λ (p : PartDecl). OnceKind p.kind) parts → OnceItem (I.Word width parts)
  word_once width parts each = with_item (I.Word width parts) _ (word_laid decls opens width parts) (λ n.
      let laid = in_turn (map (part_laid decls opens) parts) n in
      subst (λ ks. OnceIn leaf n ks laid.blocks) (sym (append-nil (kinds_of laid.it))) (parts_once parts each n))

  inline_once : (path : List ℕ) → OnceItem (I.Inline path)
  inline_once path = with_item (I.Inline path) _ (inline_laid decls opens path) (λ n. none_once leaf n _ (λ c depth. field_none c (block_order leaf depth) decls (type_at opens path) path))

  const_once : (x : ℕ) → OnceKind (K.Const x)
  unfolding kinds_in
  const_once x = with_kind (K.Const x) _ (const_laid decls opens x) (λ n. none_once leaf n (Const x ∷ []) (λ c depth. refl))

  whole_once : (path : List ℕ) → OnceKind (K.Whole path)
  whole_once path = with_kind (K.Whole path) _ (whole_laid decls opens path) (λ n. none_once leaf n _ (λ c depth. whole_none c (block_order leaf depth) (type_at opens path) path))

  slice_once : (path : List ℕ) (a k : ℕ) → OnceKind (K.Slice path a k)
  slice_once path a k = with_kind (K.Slice path a k) _ (slice_laid decls opens path a k) (λ n. none_once leaf n _ (λ c depth. bits_none c (block_order leaf depth) (type_at opens path) path a))

  word_of_once : (path : List ℕ) (j : ℕ) → OnceKind (K.Word path j)
  word_of_once path j = with_kind (K.Word path j) _ (word_of_laid decls opens path j) (λ n. none_once leaf n _ (λ c depth. word_none c (block_order leaf depth) (type_at opens path) path j))

  of_pointer : (align : ℕ) (items : List LayItem) → Each OnceItem items → OnceKind (K.Pointer align items)
  unfolding kinds_in
  of_pointer align items each = with_kind (K.Pointer align items) _ (pointer_laid decls opens align items) (λ n.
      let laid = items_laid decls opens items n in
      pointer_once leaf n laid.it laid.blocks align (items_once items each n))

  item_once : (x : LayItem) → OnceItem x
  item_once x = item-induction OnceItem OnceKind (record { word = word_once; inline = inline_once; const = const_once; whole = whole_once; slice = slice_once; word_of = word_of_once; pointer = of_pointer }) x

  each_once : (xs : List LayItem) → Each OnceItem xs
  each_once [] = tt
  each_once (x ∷ xs) = (item_once x, each_once xs)

  all_once : (xs : List LayItem) (n : ℕ) → OnceIn leaf n (word_kinds (items_laid decls opens xs n).it) (items_laid decls opens xs n).blocks
  all_once xs n = items_once xs (each_once xs) n

-- in the order of a flat leaf's parts, one pointer at most leads to each block
abbrev pub IsPointedOnce : Leaf → Type 0
IsPointedOnce leaf = (c : ℕ) → pointing c (order_of leaf) ≤ 1

pub flat_once : (types : List DataDecl) (decls : List LayoutDecl) (w : WrittenLeaf) → IsPointedOnce (flat_leaf types decls w)
flat_once types decls w c =
    let leaf = flat_leaf types decls w in
    let depth = length leaf.blocks in
    let none : (k : ℕ) → 0 + k ≡ k = λ k. omega arith in
    let once = all_once decls (open_positions types w.provenance) leaf w.items 0 (λ k block at. ap (λ m. slice_get leaf.blocks m) (none k) ∙ at) c depth in
    let le = words_point c (block_order leaf depth) None 0 0 leaf.root in
    let most = once.most in
    omega (arith, le, most)
