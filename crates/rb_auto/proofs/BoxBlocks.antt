-- The blocks of a boxed constructor: at most 64, of 1 to 64 whole words, with pointers that are long enough.
use Rattle.std.proofs.Common.{◌≡◌, ℕ, suc, ◌+◌, ◌*◌, ◌≤◌, inr, List, [], ◌∷◌, length, map, Bool, true, false, Option, Some, None, refl, sym, ap, subst, ◌∙◌, arith}
use Rattle.std.specs.Prelude.{slice_get, nat_le}
use Rattle.std.proofs.lemmas.Bool.{leb-true}
use Rattle.std.proofs.lemmas.List.{length-append, length-map}
use Rattle.rb_core.specs.declared.types.Con.{Con}
use Rattle.rb_core.specs.declared.program.Program.{Program}
use Rattle.rb_core.specs.declared.layout_decl.LayoutDecl.{LayoutDecl}
use Rattle.rb_layout.specs.declared.layout.Leaf.{Leaf}
use Rattle.rb_layout.specs.declared.layout.Block.{Block}
use Rattle.rb_layout.specs.declared.layout.FlatWord.{FlatWord}
use Rattle.rb_layout.specs.declared.layout.Part.{Part}
use Rattle.rb_layout.specs.declared.layout.Kind.{Kind}
use Rattle.rb_layout.specs.declared.layout.Kind.TheVariants.{Pointer}
use Rattle.rb_layout.specs.declared.layout.WordRef.{WordRef}
use Rattle.rb_layout.specs.Positions.{Open}
use Rattle.rb_layout.specs.Words.{words_in, words_of_block}
use Rattle.rb_layout.specs.Pointers.{PointsTo}
use Rattle.rb_layout.specs.Flattening.{WithBlocks, parts_of, type_at}
use Rattle.rb_layout.specs.A4.{HasBlocks, IsBlockLength}
use Rattle.rb_layout.proofs.FlatForms.{Each}
use Rattle.rb_auto.specs.declared.field_words.FieldWord.{FieldWord}
use Rattle.rb_auto.specs.declared.form.Form.TheVariants.{Boxed}
use Rattle.rb_auto.specs.declared.room.Room.{Room}
use Rattle.rb_auto.specs.Fields.{cons_of}
use Rattle.rb_auto.specs.FieldWords.{constructor_words}
use Rattle.rb_auto.specs.Items.{groups}
use Rattle.rb_auto.specs.inner.Standing.{EachDerivedLeaf}
use Rattle.rb_auto.proofs.Leaves.{blocks-are, leaf-is, opens_at, root-is}
use Rattle.rb_auto.proofs.Unblocked.{IsPlainKind, whole-plain, word-plain}
use Rattle.rb_auto.proofs.Lists.{IsGroup, are-groups, each-at, each-join, each-map, few-groups, some-group}
use Rattle.rb_auto.proofs.Boxes.{box_blocks, box_parts, boxed-laid, flat_word, group_block, inner, pointers_from, word_kind}

-- a pointer part has 24 bits at least, and leads to a multiple of 8
abbrev IsGoodPart : Part → Type 0
IsGoodPart q = (align b : ℕ) → q.kind ≡ Pointer align b → (align ≡ 8) × (24 ≤ q.l)

abbrev IsGoodWord : FlatWord → Type 0
IsGoodWord f = (f.width ≡ 64) × Each IsGoodPart f.parts

abbrev IsGoodBlock : Block → Type 0
IsGoodBlock b = IsBlockLength (length b.words) × Each IsGoodWord b.words

same-align : (a b c d : ℕ) → Pointer a b ≡ Pointer c d → c ≡ a
same-align a b c d e = cc

pointer-good : (o l n : ℕ) → 24 ≤ l → IsGoodPart (record { o = o; l = l; kind = Pointer 8 n })
pointer-good o l n long align b e = (same-align 8 n align b e, long)

plain-good : (o l : ℕ) (kind : Option Kind) → IsPlainKind kind → Each IsGoodPart (parts_of o l kind)
plain-good o l None plain = tt
plain-good o l (Some kind) plain = ((λ align b e. absurd (plain align b e)), tt)

module _ (opens : List Open) where
  kind-plain : (g : ℕ) (word : Option ℕ) → IsPlainKind (word_kind opens g word)
  kind-plain g None = whole-plain (type_at opens (g ∷ [])) (g ∷ [])
  kind-plain g (Some j) = word-plain (type_at opens (g ∷ [])) (g ∷ []) j

  word-good : (w : FieldWord) → IsGoodWord (flat_word opens w)
  word-good w = (refl, plain-good 0 w.width (word_kind opens w.field w.word) (kind-plain w.field w.word))

  any-word : (ws : List FieldWord) → Each IsGoodWord (map (flat_word opens) ws)
  any-word [] = tt
  any-word (w ∷ ws) = (word-good w, any-word ws)

  pointers-good : (n : ℕ) (gs : List (List FieldWord)) → Each IsGoodWord (pointers_from n gs)
  pointers-good n [] = tt
  pointers-good n (g ∷ gs) = ((refl, (pointer-good 0 64 n (omega arith), tt)), pointers-good (n + 1) gs)

  pointers-count : (n : ℕ) (gs : List (List FieldWord)) → length (pointers_from n gs) ≡ length gs
  pointers-count n [] = refl
  pointers-count n (g ∷ gs) = ap suc (pointers-count (n + 1) gs)

  group-good : (g : List FieldWord) → IsGroup g → IsGoodBlock (group_block opens g)
  group-good g h =
      let l = length-map g (flat_word opens) in
      let some = h.0 in
      let most = h.1 in
      ((omega (arith, l, some), omega (arith, l, most)), any-word g)

  record IsGoodInner (laid : WithBlocks (List FlatWord)) : Type 0 where
    pub blocks : Each IsGoodBlock laid.blocks
    pub words : Each IsGoodWord laid.it
    pub size : IsBlockLength (length laid.it)
    pub few : length laid.blocks ≤ 63

  inner-good : (one : Bool) (w : FieldWord) (ws : List FieldWord) → nat_le (length (w ∷ ws)) 64 ≡ one → length (w ∷ ws) ≤ 64 * 63 → IsGoodInner (inner opens one (w ∷ ws))
  inner-good true w ws one few =
      let l = length-map (w ∷ ws) (flat_word opens) in
      let most = leb-true (length (w ∷ ws)) 64 one in
      record { blocks = tt; words = any-word (w ∷ ws); size = (omega (arith, l), omega (arith, l, most)); few = omega arith }
  inner-good false w ws one few =
      let gs = groups (length (w ∷ ws)) (w ∷ ws) in
      let most = few-groups (length (w ∷ ws)) 63 (w ∷ ws) few in
      let some = some-group (length (w ∷ ws)) w ws refl in
      let words = pointers-count 0 gs in
      let blocks = length-map gs (group_block opens) in
      record {
        blocks = each-map IsGroup IsGoodBlock (group_block opens) group-good gs (are-groups (length (w ∷ ws)) (w ∷ ws));
        words = pointers-good 0 gs;
        size = (omega (arith, words, some), omega (arith, words, most));
        few = omega (arith, blocks, most);
      }

  blocks-good : (ws : List FieldWord) → length ws ≤ 64 * 63 → Each IsGoodBlock (box_blocks opens ws) × (length (box_blocks opens ws) ≤ 64)
  blocks-good [] few = (tt, omega arith)
  blocks-good (w ∷ ws) few =
      let laid = inner opens (nat_le (length (w ∷ ws)) 64) (w ∷ ws) in
      let good = inner-good (nat_le (length (w ∷ ws)) 64) w ws refl few in
      let last : Block = record { align = 8; words = laid.it } in
      let l = length-append laid.blocks (last ∷ []) in
      let count = good.few in
      (each-join IsGoodBlock laid.blocks (last ∷ []) good.blocks ((good.size, good.words), tt), omega (arith, l, count))

  root-good : (k : ℕ) (ws : List FieldWord) → Each IsGoodPart (box_parts opens k ws)
  root-good k [] = ((λ align b e. absurd cc), tt)
  root-good k (w ∷ ws) =
      let n = 0 + length (inner opens (nat_le (length (w ∷ ws)) 64) (w ∷ ws)).blocks in ((λ align b e. absurd cc), (pointer-good 8 56 n (omega arith), tt))

-- A leaf of one word and good blocks ---------------------------------------------------------------------------

module _ (leaf : Leaf) (width : ℕ) (parts : List Part) (root : leaf.root ≡ record { width = width; parts = parts } ∷ []) (good : Each IsGoodPart parts) (blocks : Each IsGoodBlock leaf.blocks) where
  root-parts : (k : ℕ) (f : FlatWord) → slice_get leaf.root k ≡ Some f → Each IsGoodPart f.parts
  root-parts k f e =
      each-at (λ (g : FlatWord). Each IsGoodPart g.parts) (record { width = width; parts = parts } ∷ []) k f (good, tt) (ap (λ (fs : List FlatWord). slice_get fs k) (sym root) ∙ e)

  block-parts : (o : Option Block) (b k : ℕ) (f : FlatWord) → slice_get leaf.blocks b ≡ o → slice_get (words_of_block o) k ≡ Some f → Each IsGoodPart f.parts
  block-parts None b k f at e = absurd cc
  block-parts (Some block) b k f at e = (each-at IsGoodWord block.words k f (each-at IsGoodBlock leaf.blocks b block blocks at).1 e).1

  word-parts : (block : Option ℕ) (k : ℕ) (f : FlatWord) → slice_get (words_in leaf block) k ≡ Some f → Each IsGoodPart f.parts
  word-parts None k f e = root-parts k f e
  word-parts (Some b) k f e = block-parts (slice_get leaf.blocks b) b k f refl e

  points-well : (r : WordRef) (l align b : ℕ) → PointsTo leaf r l align b → (align ≡ 8) × (24 ≤ l)
  points-well r l align b points =
      let parts_good = word-parts r.block r.word points.word points.is_word in
      let h = each-at IsGoodPart points.word.parts points.number points.part parts_good points.is_part align b points.is_pointer in
      (h.0, subst (λ m. 24 ≤ m) points.is_length h.1)

  has-blocks : length leaf.blocks ≤ 64 → HasBlocks leaf
  has-blocks few = record {
    widths = λ b block j f at word. inr (inr (inr (each-at IsGoodWord block.words j f (each-at IsGoodBlock leaf.blocks b block blocks at).1 word).0));
    lengths = λ b block at. (each-at IsGoodBlock leaf.blocks b block blocks at).0;
    count = few;
    alignments = λ r l align b points. (3, omega arith, (points-well r l align b points).0);
    wide = λ r l align b points k is. (let h = (points-well r l align b points).1 in omega (arith, h));
  }

-- the words of each constructor's fields are few enough for 63 groups of 64
abbrev pub HasFewWords : Program → List Room → ℕ → Type 0
HasFewWords p rooms t = (k : ℕ) (c : Con) → slice_get (cons_of p.types t) k ≡ Some c → length (constructor_words p rooms c.fields) ≤ 64 * 63

pub box-has-blocks : (p : Program) (decls : List LayoutDecl) (rooms : List Room) (t : ℕ) → HasFewWords p rooms t → EachDerivedLeaf p decls rooms t Boxed (λ n leaf. HasBlocks leaf)
box-has-blocks p decls rooms t few n leaf e =
    let c = leaf-is p rooms t Boxed decls n leaf e in
    let ws = constructor_words p rooms c.0.fields in
    let opens = opens_at p rooms t Boxed decls n c.0 in
    let laid = boxed-laid decls opens n ws in
    let root : leaf.root ≡ record { width = 64; parts = box_parts opens n ws } ∷ [] =
    ap (λ (l : Leaf). l.root) c.2 ∙ root-is p rooms t Boxed decls n c.0 ∙ ap (λ (x : WithBlocks (List Part)). record { width = 64; parts = x.it } ∷ []) laid in
    let blocks : leaf.blocks ≡ box_blocks opens ws = ap (λ (l : Leaf). l.blocks) c.2 ∙ blocks-are p rooms t Boxed decls n c.0 ∙ ap (λ (x : WithBlocks (List Part)). x.blocks) laid in
    let good = blocks-good opens ws (few n c.0 c.1) in
    has-blocks leaf 64 (box_parts opens n ws) root (root-good opens n ws) (subst (λ (bs : List Block). Each IsGoodBlock bs) (sym blocks) good.0)
    (subst (λ (bs : List Block). length bs ≤ 64) (sym blocks) good.1)
