-- Each unit of a field is held once by the word of a packed constructor.
use Rattle.std.proofs.Common.{◌≡◌, ℕ, zero, suc, ◌+◌, ◌<◌, List, [], ◌∷◌, ◌++◌, length, map, Bool, true, false, Option, Some, None, refl, sym, ap, subst, ◌∙◌, arith, zero-add}
use Rattle.std.specs.Prelude.{slice_get, leb, ltb, ◌==◌, ◌&&◌, sum, if◌then◌else◌}
use Rattle.std.specs.List.{flat_map}
use Rattle.std.proofs.lemmas.Option.{same_Some}
use Rattle.std.proofs.lemmas.Bool.{and_from, eq-eqb, le-leb, lt-ltb, ne_eqb}
use Rattle.std.proofs.lemmas.List.Sums.{sum_by-cons}
use Rattle.rb_core.specs.declared.types.Ty.{Ty}
use Rattle.rb_core.specs.declared.types.Ty.TheVariants.{Int, Named}
use Rattle.rb_core.specs.declared.program.Program.{Program}
use Rattle.rb_core.specs.declared.layout_decl.LayoutDecl.{LayoutDecl}
use Rattle.rb_core.specs.declared.layout_decl.PartKind.TheVariants as K
use Rattle.rb_core.specs.Layouts.{WrittenLeaf}
use Rattle.rb_layout.specs.declared.layout.Leaf.{Leaf}
use Rattle.rb_layout.specs.declared.layout.Block.{Block}
use Rattle.rb_layout.specs.declared.layout.FlatWord.{FlatWord}
use Rattle.rb_layout.specs.declared.layout.Part.{Part}
use Rattle.rb_layout.specs.declared.layout.Kind.{Kind}
use Rattle.rb_layout.specs.declared.layout.Kind.TheVariants.{Const, Bits, Word}
use Rattle.rb_layout.specs.Positions.{Open, open_positions}
use Rattle.rb_layout.specs.Flattening.{WithBlocks, in_turn, kind_if_open, kind_laid, part_laid, parts_of, same_path, type_at, whole_kind, without_blocks, IsOpenIn}
use Rattle.rb_layout.specs.Items.{Item, AWord, WrittenPart, content_paths, items_in, items_of, leaves_in, paths_of}
use Rattle.rb_layout.specs.A6.{times_held, times_in_block, times_in_part, times_in_word, holds_unit, units_of}
use Rattle.rb_layout.proofs.FlatForms.{Each}
use Rattle.rb_layout.proofs.Computing.{part_at, const_at, whole_at, word_of_laid}
use Rattle.rb_auto.specs.declared.field_words.FieldWord.{FieldWord}
use Rattle.rb_auto.specs.declared.form.Form.TheVariants.{Packed}
use Rattle.rb_auto.specs.declared.room.Room.{Room}
use Rattle.rb_auto.specs.FieldWords.{content, content_in, field_words, fields_words, words_from, constructor_words}
use Rattle.rb_auto.specs.Items.{packed_parts, part, parts_from}
use Rattle.rb_auto.specs.Widths.{widths, shape}
use Rattle.rb_auto.specs.Completed.{with_layouts}
use Rattle.rb_auto.specs.inner.PackedRules.{FieldFits, HoldsItsFields}
use Rattle.rb_auto.proofs.Boxes.{word_kind}
use Rattle.rb_auto.proofs.Leaves.{leaf-is, leaf-written, opens_at, parts_at, root-is, blocks-are}
use Rattle.rb_auto.proofs.Opens.{field_opens, field-type, open-field, opens-are}
use Rattle.rb_auto.proofs.Unblocked.{packed-plain}
use Rattle.rb_auto.proofs.Written.{items-are, written, written_from, written_parts}

abbrev one_if : Bool → ℕ
one_if b = if b then 1 else 0

yes : (b : Bool) → b ≡ true → one_if b ≡ 1
yes b e = ap one_if e

pub no : (b : Bool) → b ≡ false → one_if b ≡ 0
no b e = ap one_if e

both-false : (a b : Bool) → a ≡ false → (a && b) ≡ false
both-false a b e = ap (λ c. c && b) e

other-path : (i j : ℕ) → (i ≡ j → ⊥) → same_path (i ∷ []) (j ∷ []) ≡ false
other-path i j ne = ap (λ b. b && true) (ne_eqb i j ne)

own-path : (i : ℕ) → same_path (i ∷ []) (i ∷ []) ≡ true
own-path i = ap (λ b. b && true) (eq-eqb i i refl)

-- Unit i of field f, which has type ty -------------------------------------------------------------------

module _ (ty : Ty) (f i : ℕ) where
  abbrev pub units_in : ℕ → Option Kind → ℕ
  units_in l None = 0
  units_in l (Some kind) = if holds_unit ty (f ∷ []) i l kind then 1 else 0

  -- what the word of another field holds of it
  bits-other : (ty' : Ty) (g a l : ℕ) → (g ≡ f → ⊥) → holds_unit ty' (f ∷ []) i l (Bits (g ∷ []) a) ≡ false
  bits-other (Int bits) g a l ne = both-false (same_path (g ∷ []) (f ∷ [])) (leb a i && ltb i (a + l)) (other-path g f ne)
  bits-other (Named s) g a l ne = refl

  word-other : (ty' : Ty) (g j l : ℕ) → (g ≡ f → ⊥) → holds_unit ty' (f ∷ []) i l (Word (g ∷ []) j) ≡ false
  word-other (Int bits) g j l ne = refl
  word-other (Named s) g j l ne = both-false (same_path (g ∷ []) (f ∷ [])) (j == i) (other-path g f ne)

  whole-other : (at : Option Ty) (g l : ℕ) → (g ≡ f → ⊥) → units_in l (whole_kind at (g ∷ [])) ≡ 0
  whole-other None g l ne = refl
  whole-other (Some (Int bits)) g l ne = no (holds_unit ty (f ∷ []) i l (Bits (g ∷ []) 0)) (bits-other ty g 0 l ne)
  whole-other (Some (Named s)) g l ne = no (holds_unit ty (f ∷ []) i l (Word (g ∷ []) 0)) (word-other ty g 0 l ne)

  some-other : (at : Option Ty) (g j l : ℕ) → (g ≡ f → ⊥) → units_in l (kind_if_open at (Word (g ∷ []) j)) ≡ 0
  some-other None g j l ne = refl
  some-other (Some t) g j l ne = no (holds_unit ty (f ∷ []) i l (Word (g ∷ []) j)) (word-other ty g j l ne)

  module _ (decls : List LayoutDecl) (opens : List Open) where
    abbrev kind_of_word : ℕ → Option ℕ → Option Kind
    kind_of_word g word = word_kind opens g word

    -- how many of the words hold it
    abbrev pub count : List FieldWord → ℕ
    count [] = 0
    count (w ∷ ws) = units_in w.width (kind_of_word w.field w.word) + count ws

    pub count-append : (xs ys : List FieldWord) → count (xs ++ ys) ≡ count xs + count ys
    count-append [] ys = sym (zero-add (count ys))
    count-append (x ∷ xs) ys = let rest = count-append xs ys in omega (arith, rest)

    word-none : (g : ℕ) (word : Option ℕ) (l : ℕ) → (g ≡ f → ⊥) → units_in l (kind_of_word g word) ≡ 0
    word-none g None l ne = whole-other (type_at opens (g ∷ [])) g l ne
    word-none g (Some j) l ne = some-other (type_at opens (g ∷ [])) g j l ne

    from-none : (g j : ℕ) (ws : List ℕ) → (g ≡ f → ⊥) → count (words_from g j ws) ≡ 0
    from-none g j [] ne = refl
    from-none g j (w ∷ ws) ne = let here = word-none g (Some j) w ne in let rest = from-none g (j + 1) ws ne in omega (arith, here, rest)

    field-none : (g : ℕ) (ws : List ℕ) → (g ≡ f → ⊥) → count (field_words g ws) ≡ 0
    field-none g [] ne = refl
    field-none g (w ∷ []) ne = let here = word-none g None w ne in omega (arith, here)
    field-none g (w ∷ v ∷ ws) ne = from-none g 0 (w ∷ v ∷ ws) ne

    -- what parts hold of it
    abbrev pub in_parts : List Part → ℕ
    in_parts ps = sum (map (times_in_part ty (f ∷ []) i) ps)

    pub parts-append : (xs ys : List Part) → in_parts (xs ++ ys) ≡ in_parts xs + in_parts ys
    parts-append [] ys = sym (zero-add (in_parts ys))
    parts-append (x ∷ xs) ys =
        let rest = parts-append xs ys in
        let a = sum_by-cons (λ n. n) (times_in_part ty (f ∷ []) i x) (map (times_in_part ty (f ∷ []) i) (xs ++ ys)) in
        let b = sum_by-cons (λ n. n) (times_in_part ty (f ∷ []) i x) (map (times_in_part ty (f ∷ []) i) xs) in
        omega (arith, rest, a, b)

    pub in-kind : (o l : ℕ) (kind : Option Kind) → in_parts (parts_of o l kind) ≡ units_in l kind
    in-kind o l None = refl
    in-kind o l (Some kind) = zero-add (if holds_unit ty (f ∷ []) i l kind then 1 else 0)

    kind-laid : (g : ℕ) (word : Option ℕ) (n : ℕ) → kind_laid decls opens (content_in g word) n ≡ without_blocks (kind_of_word g word)
    kind-laid g None n = whole_at decls opens n (g ∷ [])
    kind-laid g (Some j) n = ap (λ lay. lay n) (word_of_laid decls opens (g ∷ []) j)

    word-laid : (o : ℕ) (w : FieldWord) (n : ℕ) → in_parts (part_laid decls opens (part o w.width (content w)) n).it ≡ units_in w.width (kind_of_word w.field w.word)
    word-laid o w n =
        ap (λ (laid : WithBlocks (List Part)). in_parts laid.it) (part_at decls opens n (part o w.width (content w)))
        ∙ ap (λ (laid : WithBlocks (Option Kind)). in_parts (parts_of o w.width laid.it)) (kind-laid w.field w.word n)
        ∙ in-kind o w.width (kind_of_word w.field w.word)

    words-laid : (o : ℕ) (ws : List FieldWord) (n : ℕ) → in_parts (in_turn (map (part_laid decls opens) (parts_from o ws)) n).it ≡ count ws
    words-laid o [] n = refl
    words-laid o (w ∷ ws) n =
        let first = part_laid decls opens (part o w.width (content w)) n in
        let rest = in_turn (map (part_laid decls opens) (parts_from (o + w.width) ws)) (n + length first.blocks) in
        parts-append first.it rest.it ∙ ap (λ m. m + in_parts rest.it) (word-laid o w n)
        ∙ ap (λ m. units_in w.width (kind_of_word w.field w.word) + m) (words-laid (o + w.width) ws (n + length first.blocks))

    pub const-none : (ty' : Ty) (l k : ℕ) → holds_unit ty' (f ∷ []) i l (Const k) ≡ false
    const-none (Int bits) l k = refl
    const-none (Named s) l k = refl

    packed-laid : (tag k : ℕ) (ws : List FieldWord) → in_parts (in_turn (map (part_laid decls opens) (packed_parts tag k ws)) 0).it ≡ count ws
    packed-laid zero k ws = words-laid 0 ws 0
    packed-laid (suc tag) k ws =
        let d = part 0 (suc tag) (K.Const k) in
        let first = part_laid decls opens d 0 in
        let rest = in_turn (map (part_laid decls opens) (parts_from (suc tag) ws)) (0 + length first.blocks) in
        let tag_part : in_parts first.it ≡ 0 =
        ap (λ (laid : WithBlocks (List Part)). in_parts laid.it) (part_at decls opens 0 d)
        ∙ ap (λ (laid : WithBlocks (Option Kind)). in_parts (parts_of 0 (suc tag) laid.it)) (const_at decls opens 0 k)
        ∙ in-kind 0 (suc tag) (Some (Const k)) ∙ no (holds_unit ty (f ∷ []) i (suc tag) (Const k)) (const-none ty (suc tag) k) in
        parts-append first.it rest.it ∙ ap (λ m. m + in_parts rest.it) tag_part ∙ zero-add (in_parts rest.it) ∙ words-laid (suc tag) ws (0 + length first.blocks)

-- The field itself -----------------------------------------------------------------------------------------

own-integer : (bits f i : ℕ) (decls : List LayoutDecl) (opens : List Open) → type_at opens (f ∷ []) ≡ Some (Int bits) → i < bits → count (Int bits) f i decls opens (field_words f (bits ∷ [])) ≡ 1
own-integer bits f i decls opens at lt =
    let here : units_in (Int bits) f i bits (whole_kind (type_at opens (f ∷ [])) (f ∷ [])) ≡ 1 =
    ap (λ (ty : Option Ty). units_in (Int bits) f i bits (whole_kind ty (f ∷ []))) at
    ∙ yes (same_path (f ∷ []) (f ∷ []) && (leb 0 i && ltb i (0 + bits)))
    (and_from (same_path (f ∷ []) (f ∷ [])) (leb 0 i && ltb i (0 + bits)) (own-path f) (and_from (leb 0 i) (ltb i (0 + bits)) (le-leb 0 i (omega arith)) (lt-ltb i (0 + bits) (omega (arith, lt))))) in
    omega (arith, here)

module _ (s f i : ℕ) (decls : List LayoutDecl) (opens : List Open) (at : type_at opens (f ∷ []) ≡ Some (Named s)) where
  own-word : (j l : ℕ) → j ≡ i → units_in (Named s) f i l (kind_if_open (type_at opens (f ∷ [])) (Word (f ∷ []) j)) ≡ 1
  own-word j l e =
      ap (λ (ty : Option Ty). units_in (Named s) f i l (kind_if_open ty (Word (f ∷ []) j))) at
      ∙ yes (same_path (f ∷ []) (f ∷ []) && (j == i)) (and_from (same_path (f ∷ []) (f ∷ [])) (j == i) (own-path f) (eq-eqb j i e))

  both-right : (a b : Bool) → b ≡ false → (a && b) ≡ false
  both-right true b e = e
  both-right false b e = refl

  other-word : (j l : ℕ) → (j ≡ i → ⊥) → units_in (Named s) f i l (kind_if_open (type_at opens (f ∷ [])) (Word (f ∷ []) j)) ≡ 0
  other-word j l ne =
      ap (λ (ty : Option Ty). units_in (Named s) f i l (kind_if_open ty (Word (f ∷ []) j))) at
      ∙ no (same_path (f ∷ []) (f ∷ []) && (j == i)) (both-right (same_path (f ∷ []) (f ∷ [])) (j == i) (ne_eqb j i ne))

  past-words : (j : ℕ) (ws : List ℕ) → i < j → count (Named s) f i decls opens (words_from f j ws) ≡ 0
  past-words j [] lt = refl
  past-words j (w ∷ ws) lt =
      let here = other-word j w (λ e. omega (arith, lt, e)) in let rest = past-words (j + 1) ws (omega (arith, lt)) in omega (arith, here, rest)

  own-words : (j n : ℕ) (ws : List ℕ) → j + n ≡ i → n < length ws → count (Named s) f i decls opens (words_from f j ws) ≡ 1
  own-words j n [] e lt = absurd (omega (arith, lt))
  own-words j zero (w ∷ ws) e lt =
      let here = own-word j w (omega (arith, e)) in let rest = past-words (j + 1) ws (omega (arith, e)) in omega (arith, here, rest)
  own-words j (suc n) (w ∷ ws) e lt =
      let here = other-word j w (λ same. omega (arith, e, same)) in let rest = own-words (j + 1) n ws (omega (arith, e)) (omega (arith, lt)) in omega (arith, here, rest)

  own-whole : (l : ℕ) → 0 ≡ i → units_in (Named s) f i l (whole_kind (type_at opens (f ∷ [])) (f ∷ [])) ≡ 1
  own-whole l e =
      ap (λ (ty : Option Ty). units_in (Named s) f i l (whole_kind ty (f ∷ []))) at
      ∙ yes (same_path (f ∷ []) (f ∷ []) && (0 == i)) (and_from (same_path (f ∷ []) (f ∷ [])) (0 == i) (own-path f) (eq-eqb 0 i e))

  own-data : (ws : List ℕ) → i < length ws → count (Named s) f i decls opens (field_words f ws) ≡ 1
  own-data [] lt = absurd (omega (arith, lt))
  own-data (w ∷ []) lt = let here = own-whole w (omega (arith, lt)) in omega (arith, here)
  own-data (w ∷ v ∷ ws) lt = own-words 0 i (w ∷ v ∷ ws) (zero-add i) lt

pub own-field : (p : Program) (decls : List LayoutDecl) (rooms : List Room) (ty : Ty) (f i : ℕ) (opens : List Open) → type_at opens (f ∷ []) ≡ Some ty → FieldFits p decls rooms ty
    → i < units_of (with_layouts p decls) ty → count ty f i decls opens (field_words f (widths p rooms ty)) ≡ 1
own-field p decls rooms (Int bits) f i opens at fits lt = own-integer bits f i decls opens at lt
own-field p decls rooms (Named s) f i opens at fits lt =
    own-data s f i decls opens at (shape p rooms s) (subst (λ n. i < n) (ap (λ (ws : List ℕ). length ws) fits) lt)

module _ (p : Program) (decls : List LayoutDecl) (rooms : List Room) (ty : Ty) (f i : ℕ) (opens : List Open) where
  past-fields : (g : ℕ) (tys : List Ty) → f < g → count ty f i decls opens (fields_words p rooms g tys) ≡ 0
  past-fields g [] lt = refl
  past-fields g (t ∷ tys) lt =
      let both = count-append ty f i decls opens (field_words g (widths p rooms t)) (fields_words p rooms (g + 1) tys) in
      let here = field-none ty f i decls opens g (widths p rooms t) (λ e. omega (arith, lt, e)) in
      let rest = past-fields (g + 1) tys (omega (arith, lt)) in
      omega (arith, both, here, rest)

  pub own-fields : (g n : ℕ) (tys : List Ty) → g + n ≡ f → slice_get tys n ≡ Some ty → count ty f i decls opens (field_words f (widths p rooms ty)) ≡ 1
      → count ty f i decls opens (fields_words p rooms g tys) ≡ 1
  own-fields g n [] e at own = absurd cc
  own-fields g zero (t ∷ tys) e at own =
      let both = count-append ty f i decls opens (field_words g (widths p rooms t)) (fields_words p rooms (g + 1) tys) in
      let same : g ≡ f = omega (arith, e) in
      let here : count ty f i decls opens (field_words g (widths p rooms t)) ≡ 1 =
      ap (λ m. count ty f i decls opens (field_words m (widths p rooms t))) same
      ∙ ap (λ (x : Ty). count ty f i decls opens (field_words f (widths p rooms x))) (same_Some t ty at) ∙ own in
      let rest = past-fields (g + 1) tys (omega (arith, e)) in
      omega (arith, both, here, rest)
  own-fields g (suc n) (t ∷ tys) e at own =
      let both = count-append ty f i decls opens (field_words g (widths p rooms t)) (fields_words p rooms (g + 1) tys) in
      let here = field-none ty f i decls opens g (widths p rooms t) (λ same. omega (arith, e, same)) in
      let rest = own-fields (g + 1) n tys (omega (arith, e)) at own in
      omega (arith, both, here, rest)

-- The paths that are written are fields -----------------------------------------------------------------------

abbrev pub EachPath : List Open → List (List ℕ) → Type 0
EachPath opens paths = (k : ℕ) (path : List ℕ) → slice_get paths k ≡ Some path → IsOpenIn opens path

pub paths-append : (opens : List Open) (xs ys : List (List ℕ)) → EachPath opens xs → EachPath opens ys → EachPath opens (xs ++ ys)
paths-append opens [] ys h g k path e = g k path e
paths-append opens (x ∷ xs) ys h g zero path e = h 0 path e
paths-append opens (x ∷ xs) ys h g (suc k) path e = paths-append opens xs ys (λ j q at. h (suc j) q at) g k path e

module _ (all : List Ty) where
  abbrev pub IsField : FieldWord → Type 0
  IsField w = (ty : Ty) × (slice_get all w.field ≡ Some ty)

  each-field-append : (xs ys : List FieldWord) → Each IsField xs → Each IsField ys → Each IsField (xs ++ ys)
  each-field-append [] ys h g = g
  each-field-append (x ∷ xs) ys h g = (h.0, each-field-append xs ys h.1 g)

  from-field : (g j : ℕ) (ws : List ℕ) → (ty : Ty) × (slice_get all g ≡ Some ty) → Each IsField (words_from g j ws)
  from-field g j [] is = tt
  from-field g j (w ∷ ws) is = (is, from-field g (j + 1) ws is)

  of-field : (g : ℕ) (ws : List ℕ) → (ty : Ty) × (slice_get all g ≡ Some ty) → Each IsField (field_words g ws)
  of-field g [] is = tt
  of-field g (w ∷ []) is = (is, tt)
  of-field g (w ∷ v ∷ ws) is = from-field g 0 (w ∷ v ∷ ws) is

  pub of-fields : (p : Program) (rooms : List Room) (g : ℕ) (tys : List Ty) → ((k : ℕ) (ty : Ty) → slice_get tys k ≡ Some ty → slice_get all (g + k) ≡ Some ty) → Each IsField (fields_words p rooms g tys)
  of-fields p rooms g [] each = tt
  of-fields p rooms g (ty ∷ tys) each =
      each-field-append (field_words g (widths p rooms ty)) (fields_words p rooms (g + 1) tys)
      (of-field g (widths p rooms ty) (ty, ap (λ m. slice_get all m) (plus_none g) ∙ each 0 ty refl))
      (of-fields p rooms (g + 1) tys (λ k x e. ap (λ m. slice_get all m) (shift g k) ∙ each (suc k) x e))
    where
      plus_none : (m : ℕ) → m ≡ m + 0
      plus_none m = omega arith

      shift : (m k : ℕ) → m + 1 + k ≡ m + suc k
      shift m k = omega arith

  pub word-path : (g : ℕ) (word : Option ℕ) → (ty : Ty) × (slice_get all g ≡ Some ty) → EachPath (field_opens 0 all) (content_paths (written (record { field = g; word = word; width = 0 })))
  word-path g None is zero path e = subst (λ (q : List ℕ). IsOpenIn (field_opens 0 all) q) (same_Some (g ∷ []) path e) (is.0, field-type all g is.0 is.1)
  word-path g None is (suc k) path e = absurd cc
  word-path g (Some j) is zero path e = subst (λ (q : List ℕ). IsOpenIn (field_opens 0 all) q) (same_Some (g ∷ []) path e) (is.0, field-type all g is.0 is.1)
  word-path g (Some j) is (suc k) path e = absurd cc

  words-paths : (o : ℕ) (ws : List FieldWord) → Each IsField ws → EachPath (field_opens 0 all) (flat_map (λ (q : WrittenPart). content_paths q.content) (written_from o ws))
  words-paths o [] each k path e = absurd cc
  words-paths o (w ∷ ws) each k path e =
      paths-append (field_opens 0 all) (content_paths (written w)) (flat_map (λ (q : WrittenPart). content_paths q.content) (written_from (o + w.width) ws))
      (word-path w.field w.word each.0) (words-paths (o + w.width) ws each.1) k path e

  parts-paths : (tag n : ℕ) (ws : List FieldWord) → Each IsField ws → EachPath (field_opens 0 all) (flat_map (λ (q : WrittenPart). content_paths q.content) (written_parts tag n ws))
  parts-paths zero n ws each = words-paths 0 ws each
  parts-paths (suc tag) n ws each = words-paths (suc tag) ws each

  pub no-path : EachPath (field_opens 0 all) []
  no-path k path e = absurd cc

pub holds-its-fields : HoldsItsFields
holds-its-fields p decls rooms t tag width fields is n leaf e =
    let form = Packed tag width in
    let c = leaf-is p rooms t form decls n leaf e in
    let all = c.0.fields in
    let ws = constructor_words p rooms all in
    let opens_is : open_positions p.types leaf.prov ≡ field_opens 0 all = ap (λ l. open_positions p.types l.prov) c.2 ∙ opens-are p.types t n c.0 c.1 in
    let opens_at_is : opens_at p rooms t form decls n c.0 ≡ field_opens 0 all = opens-are p.types t n c.0 c.1 in
    let items_are : items_of decls t n ≡ AWord width (written_parts tag n ws) ∷ [] =
    ap (λ (d : Option LayoutDecl). items_in (slice_get (leaves_in d) n)) is ∙ ap (λ (w : Option WrittenLeaf). items_in w) (leaf-written p rooms t form n c.0 c.1) ∙ items-are width tag n ws in
    let parts = (parts_at p rooms t form decls n c.0).it in
    let word : FlatWord = record { width = width; parts = parts } in
    let root : leaf.root ≡ word ∷ [] = ap (λ (l : Leaf). l.root) c.2 ∙ root-is p rooms t form decls n c.0 in
    let none : leaf.blocks ≡ [] = ap (λ (l : Leaf). l.blocks) c.2 ∙ blocks-are p rooms t form decls n c.0 ∙ (packed-plain decls (opens_at p rooms t form decls n c.0) tag n ws).none in
    let once : (f : ℕ) (ty : Ty) (i : ℕ) → slice_get all f ≡ Some ty → i < units_of (with_layouts p decls) ty → times_held leaf ty (f ∷ []) i ≡ 1 =
    λ f ty i at lt.
    let own = own-field p decls rooms ty f i (field_opens 0 all) (field-type all f ty at) (fields.each n c.0 f ty c.1 at) lt in
    let counted = own-fields p decls rooms ty f i (field_opens 0 all) 0 f all (zero-add f) at own in
    let laid : in_parts ty f i decls (field_opens 0 all) parts ≡ count ty f i decls (field_opens 0 all) ws =
    ap (λ (os : List Open). in_parts ty f i decls (field_opens 0 all) (in_turn (map (part_laid decls os) (packed_parts tag n ws)) 0).it) opens_at_is
    ∙ packed-laid ty f i decls (field_opens 0 all) tag n ws in
    let roots : sum (map (times_in_word ty (f ∷ []) i) leaf.root) ≡ 0 + times_in_word ty (f ∷ []) i word = ap (λ (fs : List FlatWord). sum (map (times_in_word ty (f ∷ []) i) fs)) root in
    let blocks : sum (map (times_in_block ty (f ∷ []) i) leaf.blocks) ≡ 0 = ap (λ (bs : List Block). sum (map (times_in_block ty (f ∷ []) i) bs)) none in
    omega (arith, roots, blocks, laid, counted) in
    record {
      each = λ k o i at lt.
          let f = open-field all k o (ap (λ (os : List Open). slice_get os k) (sym opens_is) ∙ at) in
          let lt2 : i < units_of (with_layouts p decls) f.0 = subst (λ (x : Open). i < units_of (with_layouts p decls) x.ty) f.2 lt in
          subst (λ (x : Open). times_held leaf x.ty x.path i ≡ 1) (sym f.2) (once k f.0 i f.1 lt2);
      no_other = λ k path at.
          subst (λ (os : List Open). IsOpenIn os path) (sym opens_is)
          (paths-append (field_opens 0 all) (flat_map (λ (q : WrittenPart). content_paths q.content) (written_parts tag n ws)) []
          (parts-paths all tag n ws (of-fields all p rooms 0 all (λ j ty h. ap (λ m. slice_get all m) (zero-add j) ∙ h))) (no-path all) k path
          (ap (λ (xs : List Item). slice_get (paths_of xs) k) (sym items_are) ∙ at));
    }
