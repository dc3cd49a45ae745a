-- Packed layouts place no blocks and have no pointers.
use Rattle.std.proofs.Common.{◌≡◌, ℕ, zero, suc, ◌+◌, List, [], ◌∷◌, ◌++◌, length, map, Option, Some, None, refl, sym, ap, subst, ◌∙◌, arith}
use Rattle.std.specs.Prelude.{slice_get}
use Rattle.std.proofs.lemmas.Option.{same_Some}
use Rattle.rb_core.specs.declared.types.Ty.{Ty}
use Rattle.rb_core.specs.declared.types.Ty.TheVariants.{Int, Named}
use Rattle.rb_core.specs.declared.program.Program.{Program}
use Rattle.rb_core.specs.declared.layout_decl.LayoutDecl.{LayoutDecl}
use Rattle.rb_core.specs.declared.layout_decl.PartDecl.{PartDecl}
use Rattle.rb_core.specs.declared.layout_decl.PartKind.TheVariants as K
use Rattle.rb_layout.specs.declared.layout.Leaf.{Leaf}
use Rattle.rb_layout.specs.declared.layout.Block.{Block}
use Rattle.rb_layout.specs.declared.layout.FlatWord.{FlatWord}
use Rattle.rb_layout.specs.declared.layout.Part.{Part}
use Rattle.rb_layout.specs.declared.layout.Kind.{Kind}
use Rattle.rb_layout.specs.declared.layout.Kind.TheVariants.{Const, Word, Pointer}
use Rattle.rb_layout.specs.declared.layout.WordRef.{WordRef}
use Rattle.rb_layout.specs.Positions.{Open}
use Rattle.rb_layout.specs.Words.{words_in, words_of_block}
use Rattle.rb_layout.specs.Pointers.{PointsTo}
use Rattle.rb_layout.specs.Flattening.{WithBlocks, in_turn, kind_laid, kind_if_open, part_laid, parts_of, type_at, whole_kind, without_blocks}
use Rattle.rb_layout.proofs.FlatForms.{Each}
use Rattle.rb_layout.proofs.Computing.{part_at, const_at, whole_at, word_of_laid}
use Rattle.rb_auto.specs.declared.field_words.FieldWord.{FieldWord}
use Rattle.rb_auto.specs.declared.form.Form.TheVariants.{Packed}
use Rattle.rb_auto.specs.declared.room.Room.{Room}
use Rattle.rb_auto.specs.FieldWords.{content, content_in, constructor_words}
use Rattle.rb_auto.specs.Items.{packed_parts, part, parts_from}
use Rattle.rb_auto.specs.inner.Standing.{EachDerivedLeaf}
use Rattle.rb_auto.specs.inner.PackedRules.{HasNoBlocks}
use Rattle.rb_auto.proofs.Leaves.{leaf-is, opens_at, parts_at, root-is, blocks-are}

abbrev IsPlain : Part → Type 0
IsPlain p = (align b : ℕ) → p.kind ≡ Pointer align b → ⊥

abbrev pub IsPlainKind : Option Kind → Type 0
IsPlainKind None = Unit {0}
IsPlainKind (Some kind) = (align b : ℕ) → kind ≡ Pointer align b → ⊥

-- parts without pointers, and without blocks
pub record ArePlain (laid : WithBlocks (List Part)) : Type 0 where
  pub plain : Each IsPlain laid.it
  pub none : laid.blocks ≡ []

each-append : (xs ys : List Part) → Each IsPlain xs → Each IsPlain ys → Each IsPlain (xs ++ ys)
each-append [] ys h g = g
each-append (x ∷ xs) ys h g = (h.0, each-append xs ys h.1 g)

each-get : (xs : List Part) (k : ℕ) (x : Part) → Each IsPlain xs → slice_get xs k ≡ Some x → IsPlain x
each-get [] k x h e = absurd cc
each-get (y ∷ xs) zero x h e = subst IsPlain (same_Some y x e) h.0
each-get (y ∷ xs) (suc k) x h e = each-get xs k x h.1 e

pub whole-plain : (ty : Option Ty) (path : List ℕ) → IsPlainKind (whole_kind ty path)
whole-plain None path = tt
whole-plain (Some (Int bits)) path = λ align b e. cc
whole-plain (Some (Named s)) path = λ align b e. cc

pub word-plain : (ty : Option Ty) (path : List ℕ) (j : ℕ) → IsPlainKind (kind_if_open ty (Word path j))
word-plain None path j = tt
word-plain (Some ty) path j = λ align b e. cc

part-plain : (o l : ℕ) (kind : Option Kind) → IsPlainKind kind → Each IsPlain (parts_of o l kind)
part-plain o l None h = tt
part-plain o l (Some kind) h = (h, tt)

module _ (decls : List LayoutDecl) (opens : List Open) where
  laid-plain : (d : PartDecl) (n : ℕ) (kind : Option Kind) → kind_laid decls opens d.kind n ≡ without_blocks kind → IsPlainKind kind → ArePlain (part_laid decls opens d n)
  laid-plain d n kind is h =
      let whole : part_laid decls opens d n ≡ record { it = parts_of d.o d.l kind; blocks = [] } =
      part_at decls opens n d ∙ ap (λ (laid : WithBlocks (Option Kind)). record { it = parts_of d.o d.l laid.it; blocks = laid.blocks }) is in
      subst ArePlain (sym whole) (record { plain = part-plain d.o d.l kind h; none = refl })

  content-laid : (i : ℕ) (word : Option ℕ) (n : ℕ) → (kind : Option Kind) × (kind_laid decls opens (content_in i word) n ≡ without_blocks kind) × IsPlainKind kind
  content-laid i None n = (whole_kind (type_at opens (i ∷ [])) (i ∷ []), whole_at decls opens n (i ∷ []), whole-plain (type_at opens (i ∷ [])) (i ∷ []))
  content-laid i (Some j) n =
      (kind_if_open (type_at opens (i ∷ [])) (Word (i ∷ []) j), ap (λ lay. lay n) (word_of_laid decls opens (i ∷ []) j), word-plain (type_at opens (i ∷ [])) (i ∷ []) j)

  in-turn-plain : (first : WithBlocks (List Part)) (rest : ℕ → WithBlocks (List Part)) → ArePlain first → ((n : ℕ) → ArePlain (rest n)) → (n : ℕ)
      → ArePlain (record { it = first.it ++ (rest (n + length first.blocks)).it; blocks = first.blocks ++ (rest (n + length first.blocks)).blocks })
  in-turn-plain first rest h g n =
      let r = g (n + length first.blocks) in
      record {
        plain = each-append first.it (rest (n + length first.blocks)).it h.plain r.plain;
        none = ap (λ (bs : List Block). bs ++ (rest (n + length first.blocks)).blocks) h.none ∙ r.none;
      }

  words-plain : (o : ℕ) (ws : List FieldWord) (n : ℕ) → ArePlain (in_turn (map (part_laid decls opens) (parts_from o ws)) n)
  words-plain o [] n = record { plain = tt; none = refl }
  words-plain o (w ∷ ws) n =
      let k = content-laid w.field w.word n in
      let d = part o w.width (content w) in
      in-turn-plain (part_laid decls opens d n) (in_turn (map (part_laid decls opens) (parts_from (o + w.width) ws)))
      (laid-plain d n k.0 k.1 k.2) (λ m. words-plain (o + w.width) ws m) n

  pub packed-plain : (tag k : ℕ) (ws : List FieldWord) → ArePlain (in_turn (map (part_laid decls opens) (packed_parts tag k ws)) 0)
  packed-plain zero k ws = words-plain 0 ws 0
  packed-plain (suc tag) k ws =
      let d = part 0 (suc tag) (K.Const k) in
      in-turn-plain (part_laid decls opens d 0) (in_turn (map (part_laid decls opens) (parts_from (suc tag) ws)))
      (laid-plain d 0 (Some (Const k)) (const_at decls opens 0 k) (λ align b e. cc)) (λ m. words-plain (suc tag) ws m) 0

no-block : (bs : List Block) (b : ℕ) (block : Block) → bs ≡ [] → slice_get bs b ≡ Some block → ⊥
no-block [] b block none e = absurd cc
no-block (x ∷ bs) b block none e = absurd cc

-- a leaf of one word without pointers, and without blocks
one-plain : (leaf : Leaf) (width : ℕ) (parts : List Part) → leaf.root ≡ record { width = width; parts = parts } ∷ [] → leaf.blocks ≡ [] → Each IsPlain parts
    → (r : WordRef) (l align b : ℕ) → PointsTo leaf r l align b → ⊥
one-plain leaf width parts root none plain r l align b points =
    by_block r.block refl
  where
    in_root : (k : ℕ) → slice_get leaf.root k ≡ Some points.word → ⊥
    in_root zero e =
        let same : record { width = width; parts = parts } ≡ points.word = same_Some (record { width = width; parts = parts }) points.word (ap (λ (ws : List FlatWord). slice_get ws 0) (sym root) ∙ e) in
        each-get parts points.number points.part plain (ap (λ (f : FlatWord). slice_get f.parts points.number) same ∙ points.is_part) align b points.is_pointer
    in_root (suc k) e = absurd (cc (ap (λ (ws : List FlatWord). slice_get ws (suc k)) (sym root) ∙ e))

    by_block : (block : Option ℕ) → r.block ≡ block → ⊥
    by_block None is = in_root r.word (ap (λ (x : Option ℕ). slice_get (words_in leaf x) r.word) (sym is) ∙ points.is_word)
    by_block (Some a) is =
        let gone : slice_get (words_of_block (slice_get leaf.blocks a)) r.word ≡ Some points.word = ap (λ (x : Option ℕ). slice_get (words_in leaf x) r.word) (sym is) ∙ points.is_word in
        absurd (cc (ap (λ (bs : List Block). slice_get (words_of_block (slice_get bs a)) r.word) (sym none) ∙ gone))

-- a packed leaf has no pointer
pub has-no-pointer : (p : Program) (decls : List LayoutDecl) (rooms : List Room) (t tag width : ℕ)
    → EachDerivedLeaf p decls rooms t (Packed tag width) (λ n leaf. (r : WordRef) (l align b : ℕ) → PointsTo leaf r l align b → ⊥)
has-no-pointer p decls rooms t tag width n leaf e =
    let form = Packed tag width in
    let c = leaf-is p rooms t form decls n leaf e in
    let plain = packed-plain decls (opens_at p rooms t form decls n c.0) tag n (constructor_words p rooms c.0.fields) in
    let root = ap (λ (l : Leaf). l.root) c.2 ∙ root-is p rooms t form decls n c.0 in
    let none = ap (λ (l : Leaf). l.blocks) c.2 ∙ blocks-are p rooms t form decls n c.0 ∙ plain.none in
    one-plain leaf width (parts_at p rooms t form decls n c.0).it root none plain.plain

pub has-no-blocks : HasNoBlocks
has-no-blocks p decls rooms t tag width n leaf e =
    let form = Packed tag width in
    let c = leaf-is p rooms t form decls n leaf e in
    let plain = packed-plain decls (opens_at p rooms t form decls n c.0) tag n (constructor_words p rooms c.0.fields) in
    let none = ap (λ (l : Leaf). l.blocks) c.2 ∙ blocks-are p rooms t form decls n c.0 ∙ plain.none in
    record {
      widths = λ b block j f at word. absurd (no-block leaf.blocks b block none at);
      lengths = λ b block at. absurd (no-block leaf.blocks b block none at);
      count = (let l = ap (λ (bs : List Block). length bs) none in omega (arith, l));
      alignments = λ r l align b points. absurd (has-no-pointer p decls rooms t tag width n leaf e r l align b points);
      wide = λ r l align b points. absurd (has-no-pointer p decls rooms t tag width n leaf e r l align b points);
    }
