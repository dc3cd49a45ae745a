-- Each unit of a field is held once by the words of a boxed constructor.
use Rattle.std.proofs.Common.{◌≡◌, ℕ, zero, suc, ◌+◌, ◌<◌, ◌≤◌, List, [], ◌∷◌, ◌++◌, length, map, take, drop, Bool, true, false, Some, refl, sym, ap, subst, ◌∙◌, arith, zero-add}
use Rattle.std.specs.Prelude.{slice_get, nat_le, sum}
use Rattle.std.proofs.lemmas.List.{length-drop, take-append-drop}
use Rattle.std.proofs.lemmas.List.Sums.{sum_by-cons}
use Rattle.rb_core.specs.declared.types.Ty.{Ty}
use Rattle.rb_core.specs.declared.types.Ty.TheVariants.{Int, Named}
use Rattle.rb_core.specs.declared.program.Program.{Program}
use Rattle.rb_core.specs.declared.layout_decl.LayoutDecl.{LayoutDecl}
use Rattle.rb_layout.specs.declared.layout.Leaf.{Leaf}
use Rattle.rb_layout.specs.declared.layout.Block.{Block}
use Rattle.rb_layout.specs.declared.layout.FlatWord.{FlatWord}
use Rattle.rb_layout.specs.declared.layout.Part.{Part}
use Rattle.rb_layout.specs.declared.layout.Kind.TheVariants.{Const, Pointer}
use Rattle.rb_layout.specs.Positions.{Open, open_positions}
use Rattle.rb_layout.specs.Flattening.{IsOpenIn, WithBlocks, decl_of}
use Rattle.rb_layout.specs.Items.{Item, content_paths, item_paths, items_of, paths_of}
use Rattle.rb_layout.specs.A6.{HoldsOnce, times_held, times_in_block, times_in_word, holds_unit, units_of}
use Rattle.rb_layout.proofs.FlatForms.{Each}
use Rattle.rb_auto.specs.declared.field_words.FieldWord.{FieldWord}
use Rattle.rb_auto.specs.declared.form.Form.TheVariants.{Boxed}
use Rattle.rb_auto.specs.declared.room.Room.{Room}
use Rattle.rb_auto.specs.FieldWords.{constructor_words}
use Rattle.rb_auto.specs.Items.{groups}
use Rattle.rb_auto.specs.Derived.{derived_layout}
use Rattle.rb_auto.specs.Completed.{with_layouts}
use Rattle.rb_auto.specs.inner.Standing.{EachDerivedLeaf}
use Rattle.rb_auto.specs.inner.PackedRules.{FieldsFit}
use Rattle.rb_auto.proofs.Leaves.{blocks-are, leaf-is, opens_at, root-is}
use Rattle.rb_auto.proofs.Opens.{field_opens, field-type, open-field, opens-are}
use Rattle.rb_auto.proofs.Written.{written}
use Rattle.rb_auto.proofs.Lists.{each-flat, each-group, each-map}
use Rattle.rb_auto.proofs.Boxes.{box_blocks, box_parts, boxed-laid, flat_word, group_block, inner, inner_of, pointer_part, pointers_from, tag_part, word_kind}
use Rattle.rb_auto.proofs.BoxItems.{box_written, field_written, group_written, inner_written}
use Rattle.rb_auto.proofs.BoxFits.{box-items-of}
use Rattle.rb_auto.proofs.Holding.{EachPath, IsField, const-none, count, count-append, in-kind, in_parts, no, no-path, of-fields, own-field, own-fields, parts-append, paths-append, units_in, word-path}

-- Unit i of field f, which has type ty -------------------------------------------------------------------

module _ (ty : Ty) (f i : ℕ) (decls : List LayoutDecl) (opens : List Open) where
  abbrev in_word : FlatWord → ℕ
  in_word = times_in_word ty (f ∷ []) i

  abbrev in_words : List FlatWord → ℕ
  in_words fs = sum (map in_word fs)

  abbrev in_block : Block → ℕ
  in_block = times_in_block ty (f ∷ []) i

  abbrev in_blocks : List Block → ℕ
  in_blocks bs = sum (map in_block bs)

  words-count : (ws : List FieldWord) → in_words (map (flat_word opens) ws) ≡ count ty f i decls opens ws
  words-count [] = refl
  words-count (w ∷ ws) =
      let here : in_word (flat_word opens w) ≡ units_in ty f i w.width (word_kind opens w.field w.word) = in-kind ty f i decls opens 0 w.width (word_kind opens w.field w.word) in
      let rest = words-count ws in
      let s = sum_by-cons (λ n. n) (in_word (flat_word opens w)) (map in_word (map (flat_word opens) ws)) in
      omega (arith, here, rest, s)

  pointer-none : (x : Ty) (l n : ℕ) → holds_unit x (f ∷ []) i l (Pointer 8 n) ≡ false
  pointer-none (Int bits) l n = refl
  pointer-none (Named s) l n = refl

  part-none : (o l n : ℕ) → in_parts ty f i decls opens (record { o = o; l = l; kind = Pointer 8 n } ∷ []) ≡ 0
  part-none o l n = in-kind ty f i decls opens o l (Some (Pointer 8 n)) ∙ no (holds_unit ty (f ∷ []) i l (Pointer 8 n)) (pointer-none ty l n)

  tag-none : (k : ℕ) → in_parts ty f i decls opens (tag_part k ∷ []) ≡ 0
  tag-none k = in-kind ty f i decls opens 0 8 (Some (Const k)) ∙ no (holds_unit ty (f ∷ []) i 8 (Const k)) (const-none ty f i decls opens ty 8 k)

  pointers-none : (n : ℕ) (gs : List (List FieldWord)) → in_words (pointers_from n gs) ≡ 0
  pointers-none n [] = refl
  pointers-none n (g ∷ gs) =
      let here = part-none 0 64 n in
      let rest = pointers-none (n + 1) gs in
      let s = sum_by-cons (λ m. m) (in_parts ty f i decls opens (record { o = 0; l = 64; kind = Pointer 8 n } ∷ [])) (map in_word (pointers_from (n + 1) gs)) in
      omega (arith, here, rest, s)

  abbrev total : List (List FieldWord) → ℕ
  total [] = 0
  total (g ∷ gs) = count ty f i decls opens g + total gs

  groups-blocks : (gs : List (List FieldWord)) → in_blocks (map (group_block opens) gs) ≡ total gs
  groups-blocks [] = refl
  groups-blocks (g ∷ gs) =
      let here = words-count g in
      let rest = groups-blocks gs in
      let s = sum_by-cons (λ n. n) (in_words (map (flat_word opens) g)) (map in_block (map (group_block opens) gs)) in
      omega (arith, here, rest, s)

  groups-total : (n : ℕ) (ws : List FieldWord) → length ws ≤ n → total (groups n ws) ≡ count ty f i decls opens ws
  groups-total zero [] le = refl
  groups-total zero (w ∷ ws) le = absurd (omega (arith, le))
  groups-total (suc n) [] le = refl
  groups-total (suc n) (w ∷ ws) le =
      let l = length-drop 64 (w ∷ ws) in
      let both = count-append ty f i decls opens (take 64 (w ∷ ws)) (drop 64 (w ∷ ws)) in
      let whole = ap (count ty f i decls opens) (take-append-drop 64 (w ∷ ws)) in
      ap (λ m. count ty f i decls opens (take 64 (w ∷ ws)) + m) (groups-total n (drop 64 (w ∷ ws)) (omega (arith, l, le))) ∙ sym both ∙ whole

  inner-count : (one : Bool) (ws : List FieldWord) → in_blocks (inner opens one ws).blocks + in_words (inner opens one ws).it ≡ count ty f i decls opens ws
  inner-count true ws = zero-add (in_words (map (flat_word opens) ws)) ∙ words-count ws
  inner-count false ws =
      let gs = groups (length ws) ws in
      let blocks = groups-blocks gs in
      let pointers = pointers-none 0 gs in
      let all = groups-total (length ws) ws (omega arith) in
      omega (arith, blocks, pointers, all)

  blocks-last : (bs : List Block) (b : Block) → in_blocks (bs ++ b ∷ []) ≡ in_blocks bs + in_block b
  blocks-last [] b = sum_by-cons (λ n. n) (in_block b) [] ∙ turned (in_block b)
    where
      turned : (m : ℕ) → m + 0 ≡ 0 + m
      turned m = omega arith
  blocks-last (x ∷ bs) b =
      let rest = blocks-last bs b in
      let s = sum_by-cons (λ n. n) (in_block x) (map in_block bs) in
      let t = sum_by-cons (λ n. n) (in_block x) (map in_block (bs ++ b ∷ [])) in
      omega (arith, rest, s, t)

  box-count : (k : ℕ) (ws : List FieldWord) → in_parts ty f i decls opens (box_parts opens k ws) + in_blocks (box_blocks opens ws) ≡ count ty f i decls opens ws
  box-count k [] = let tag = tag-none k in omega (arith, tag)
  box-count k (w ∷ ws) =
      let laid = inner_of opens (w ∷ ws) in
      let pointer = pointer_part (0 + length laid.blocks) in
      let tag = tag-none k in
      let address = part-none 8 56 (0 + length laid.blocks) in
      let parts = parts-append ty f i decls opens (tag_part k ∷ []) (pointer ∷ []) in
      let last = blocks-last laid.blocks (record { align = 8; words = laid.it }) in
      let whole = inner-count (nat_le (length (w ∷ ws)) 64) (w ∷ ws) in
      omega (arith, tag, address, parts, last, whole)

-- The paths that are written are fields ---------------------------------------------------------------------

module _ (all : List Ty) where
  abbrev NamesFields : Item → Type 0
  NamesFields item = EachPath (field_opens 0 all) (item_paths item)

  field-names : (w : FieldWord) → IsField all w → NamesFields (field_written w)
  field-names w is = paths-append (field_opens 0 all) (content_paths (written w)) [] (word-path all w.field w.word is) (no-path all)

  group-names : (g : List FieldWord) → Each (IsField all) g → Each NamesFields (group_written g)
  group-names g h = (no-path all, each-map (IsField all) NamesFields field_written field-names g h)

  inner-names : (one : Bool) (ws : List FieldWord) → Each (IsField all) ws → Each NamesFields (inner_written one ws)
  inner-names true ws h = each-map (IsField all) NamesFields field_written field-names ws h
  inner-names false ws h = each-flat (Each (IsField all)) NamesFields group_written group-names (groups (length ws) ws) (each-group (IsField all) (length ws) ws h)

  box-names : (n : ℕ) (ws : List FieldWord) → Each (IsField all) ws → Each NamesFields (box_written n ws)
  box-names n [] h = (no-path all, tt)
  box-names n (w ∷ ws) h = (no-path all, inner-names (nat_le (length (w ∷ ws)) 64) (w ∷ ws) h)

  all-names : (items : List Item) → Each NamesFields items → EachPath (field_opens 0 all) (paths_of items)
  all-names [] h = no-path all
  all-names (x ∷ items) h = paths-append (field_opens 0 all) (item_paths x) (paths_of items) h.0 (all-names items h.1)

pub box-holds-its-fields : (p : Program) (decls : List LayoutDecl) (rooms : List Room) (t : ℕ) → FieldsFit p decls rooms t
    → decl_of decls t ≡ Some (derived_layout p rooms t Boxed)
    → EachDerivedLeaf p decls rooms t Boxed (λ n leaf. HoldsOnce (with_layouts p decls) leaf (items_of decls t n))
box-holds-its-fields p decls rooms t fields is n leaf e =
    let c = leaf-is p rooms t Boxed decls n leaf e in
    let all = c.0.fields in
    let ws = constructor_words p rooms all in
    let opens = opens_at p rooms t Boxed decls n c.0 in
    let opens_is : open_positions p.types leaf.prov ≡ field_opens 0 all = ap (λ l. open_positions p.types l.prov) c.2 ∙ opens-are p.types t n c.0 c.1 in
    let opens_at_is : opens ≡ field_opens 0 all = opens-are p.types t n c.0 c.1 in
    let items_are = box-items-of p decls rooms t n c.0 c.1 is in
    let laid = boxed-laid decls opens n ws in
    let root : leaf.root ≡ record { width = 64; parts = box_parts opens n ws } ∷ [] =
    ap (λ (l : Leaf). l.root) c.2 ∙ root-is p rooms t Boxed decls n c.0 ∙ ap (λ (x : WithBlocks (List Part)). record { width = 64; parts = x.it } ∷ []) laid in
    let blocks : leaf.blocks ≡ box_blocks opens ws = ap (λ (l : Leaf). l.blocks) c.2 ∙ blocks-are p rooms t Boxed decls n c.0 ∙ ap (λ (x : WithBlocks (List Part)). x.blocks) laid in
    let once : (f : ℕ) (ty : Ty) (i : ℕ) → slice_get all f ≡ Some ty → i < units_of (with_layouts p decls) ty → times_held leaf ty (f ∷ []) i ≡ 1 =
    λ f ty i at lt.
    let own = own-field p decls rooms ty f i (field_opens 0 all) (field-type all f ty at) (fields.each n c.0 f ty c.1 at) lt in
    let counted : count ty f i decls opens ws ≡ 1 =
    ap (λ (os : List Open). count ty f i decls os ws) opens_at_is ∙ own-fields p decls rooms ty f i (field_opens 0 all) 0 f all (zero-add f) at own in
    let whole = box-count ty f i decls opens n ws in
    let roots : sum (map (times_in_word ty (f ∷ []) i) leaf.root) ≡ 0 + in_parts ty f i decls opens (box_parts opens n ws) = ap (λ (fs : List FlatWord). sum (map (times_in_word ty (f ∷ []) i) fs)) root in
    let inside = ap (λ (bs : List Block). sum (map (times_in_block ty (f ∷ []) i) bs)) blocks in
    omega (arith, roots, inside, whole, counted) in
    record {
      each = λ k o i at lt.
          let f = open-field all k o (ap (λ (os : List Open). slice_get os k) (sym opens_is) ∙ at) in
          let lt2 : i < units_of (with_layouts p decls) f.0 = subst (λ (x : Open). i < units_of (with_layouts p decls) x.ty) f.2 lt in
          subst (λ (x : Open). times_held leaf x.ty x.path i ≡ 1) (sym f.2) (once k f.0 i f.1 lt2);
      no_other = λ k path at.
          subst (λ (os : List Open). IsOpenIn os path) (sym opens_is)
          (all-names all (box_written n ws) (box-names all n ws (of-fields all p rooms 0 all (λ j ty h. ap (λ m. slice_get all m) (zero-add j) ∙ h))) k path
          (ap (λ (xs : List Item). slice_get (paths_of xs) k) (sym items_are) ∙ at));
    }
