-- The words of a field that are gathered from the parts of a leaf are those that represent the value there:
-- each part puts what stands at its unit, so no unit that is right is lost, and each unit has its part.
use Rattle.std.proofs.Common.{◌≡◌, ◌≢◌, ℕ, zero, suc, ◌+◌, ◌-◌, ◌^◌, ◌<◌, ◌≤◌, ◌==◌, ◌⊎◌, inl, inr, length, List, [], ◌∷◌, ◌++◌, Bool, true, false, Option, Some, None, refl, sym, subst, ap, ◌∙◌, arith}
use Rattle.std.specs.Prelude.{slice_get, slice_index, slice_index_or, slice_set, replicate, if◌then◌else◌}
use Rattle.std.specs.Int.{bit_at}
use Rattle.std.proofs.lemmas.Grind.{common_steps, get_or-set_at}
use Rattle.std.proofs.lemmas.List.{get_or-set_same, get_or-set_other, length-set, get_or-replicate, length-replicate}
use Rattle.std.proofs.lemmas.Nat.{pow_pos}
use Rattle.std.proofs.lemmas.Option.{same_Some, get_or_from_slice_get}
use Rattle.rb_core.specs.declared.value.Value.{Value}
use Rattle.rb_core.specs.declared.types.Ty.{Ty}
use Rattle.rb_core.specs.declared.types.Ty.TheVariants.{Int, Named}
use Rattle.rb_core.specs.declared.types.DataDecl.{DataDecl}
use Rattle.rb_core.specs.declared.layout_decl.LayoutDecl.{LayoutDecl}
use Rattle.rb_core.specs.declared.program.Program.{Program}
use Rattle.rb_core.specs.TypedPrograms.{IsTyped}
use Rattle.rb_core.specs.WellNumbered.{is_type}
use Rattle.rb_bits.specs.Words.{IsOutside, take_of, put_of}
use Rattle.rb_bits.proofs.WordLemmas.{bit_at_take, bit_at_put_inside, bit_at_put_outside, take_fits}
use Rattle.rb_bytes.specs.Memory.{Memory, load_of}
use Rattle.rb_layout.specs.declared.layout.Block.{Block}
use Rattle.rb_layout.specs.declared.layout.FlatWord.{FlatWord}
use Rattle.rb_layout.specs.declared.layout.Kind.{Kind}
use Rattle.rb_layout.specs.declared.layout.Kind.TheVariants.{Const, Bits, Word, Pointer}
use Rattle.rb_layout.specs.declared.layout.Layout.{Layout}
use Rattle.rb_layout.specs.declared.layout.Leaf.{Leaf}
use Rattle.rb_layout.specs.declared.layout.Part.{Part}
use Rattle.rb_layout.specs.Agreement.{Agrees}
use Rattle.rb_layout.specs.Flattening.{flat_layouts, same_path, type_at}
use Rattle.rb_layout.specs.Positions.{Open, open_positions, layout_of, leaf_of}
use Rattle.rb_layout.specs.Words.{words_in, words_of_block, begins_at}
use Rattle.rb_layout.proofs.OpenPositions.{position-typed}
use Rattle.rb_rel.specs.Relation.{HoldsKind, PartHolds, LeafStands, Represents, word_count}
use Rattle.rb_rel.proofs.Agreeing.{lawful}
use Rattle.rb_rel.proofs.Fitting.{KindFits}
use Rattle.rb_rel.proofs.Holding.{path_is}
use Rattle.rb_rel.proofs.Lawful.{Holder, HoldsUnit, units_of}
use Rattle.rb_rel.proofs.Layers.{sound}
use Rattle.rb_rel.proofs.Lists.{and_true}
use Rattle.rb_rel.proofs.Packing.{put_below}
use Rattle.rb_rel.proofs.Widths.{int_small, positions_typed}
use Rattle.rb_coding.specs.Decoding.{AreOf}
use Rattle.rb_coding.specs.declared.todo.Step.{Step}
use Rattle.rb_coding.specs.declared.gather.Wanted.TheVariants.{Field}
use Rattle.rb_coding.specs.inner.Gathering.{entry, put_entry, put_part, put_parts, put_words, put_blocks, count_at, field_words}
use Rattle.rb_coding.specs.inner.Loading.{AreWordsOf}
use Rattle.rb_coding.specs.Packing.{put_into}
use Rattle.rb_coding.specs.inner.Planning.{plan_of}
use Rattle.rb_coding.specs.inner.Todo.{IsOpened}
use Rattle.rb_coding.proofs.LeafShowing.{put_fits}
use Rattle.rb_coding.proofs.OpenWords.{found_holds, words_are, number_is}
use Rattle.rb_coding.proofs.PlanForms.{opens_read}

near : (i n : ℕ) → (i < n) ⊎ (n ≤ i)
near zero zero = inr (omega arith)
near zero (suc n) = inl (omega arith)
near (suc i) zero = inr (omega arith)
near (suc i) (suc n) = elim (near i n) [ inl lt ↦ inl (omega (arith, lt)) | inr le ↦ inr (omega (arith, le)) ]

same_or : (i j : ℕ) → (i ≡ j) ⊎ (i ≢ j)
same_or i j = elim (near i j) [
  | inl lt ↦ inr (λ e. omega (arith, e, lt))
  | inr le ↦ elim (near j i) [ inl lt ↦ inr (λ e. omega (arith, e, lt)) | inr ge ↦ inl (omega (arith, le, ge)) ]
]

outside_or : (a l i : ℕ) → IsOutside a l i ⊎ ((a ≤ i) × (i < a + l))
outside_or a l i = elim (near i a) [
  | inl lt ↦ inl (inl lt)
  | inr le ↦ elim (near i (a + l)) [ inl lt ↦ inr (le, lt) | inr ge ↦ inl (inr ge) ]
]

same_test : (a b : ℕ) → a ≡ b → (a == b) ≡ true
same_test a b e = grind (arith, common_steps)

same_self : (path : List ℕ) → same_path path path ≡ true
same_self [] = refl
same_self (i ∷ path) = and_true (i == i) (same_path path path) (same_test i i refl) (same_self path)

module _ (layouts : List Layout) (decls : List LayoutDecl) (opens : List Open) (subs : List ℕ → List ℕ) (ats : ℕ → ℕ) (path : List ℕ) where
  -- a unit of a table is that of the words at the path
  abbrev IsRight : Ty → List ℕ → ℕ → Type 0
  IsRight (Int bits) T i = bit_at (slice_index T 0) i ≡ bit_at (slice_index (subs path) 0) i
  IsRight (Named s) T i = slice_index T i ≡ slice_index (subs path) i

  -- a table is as long as the words, and an integer in it as wide
  abbrev Fits : Ty → List ℕ → Type 0
  Fits (Int bits) T = (length T ≡ 1) × (slice_index T 0 < 2 ^ bits)
  Fits (Named s) T = length T ≡ word_count layouts (Named s)

  -- no unit that is right is lost
  abbrev Keeps : Ty → List ℕ → List ℕ → Type 0
  Keeps ty T U = Fits ty T → Fits ty U × ((i : ℕ) → i < units_of layouts ty → IsRight ty T i → IsRight ty U i)

  -- this unit becomes right
  abbrev Sets : Ty → ℕ → List ℕ → List ℕ → Type 0
  Sets ty i T U = Fits ty T → IsRight ty U i

  keeps_same : (ty : Ty) (T : List ℕ) → Keeps ty T T
  keeps_same ty T = λ ok. (ok, λ i lt a. a)

  keeps_then : (ty : Ty) (A B C : List ℕ) → Keeps ty A B → Keeps ty B C → Keeps ty A C
  keeps_then ty A B C ab bc = λ ok. (let x = ab ok in let y = bc x.0 in (y.0, λ i lt a. y.1 i lt (x.1 i lt a)))

  sets_kept : (ty : Ty) (i : ℕ) (A B C : List ℕ) → i < units_of layouts ty → Sets ty i A B → Keeps ty A B → Keeps ty B C → Sets ty i A C
  sets_kept ty i A B C lt s ab bc = λ ok. (bc (ab ok).0).1 i lt (s ok)

  kept_sets : (ty : Ty) (i : ℕ) (A B C : List ℕ) → Keeps ty A B → Sets ty i B C → Sets ty i A C
  kept_sets ty i A B C ab s = λ ok. s (ab ok).0

  -- A slice of an integer -------------------------------------------------------------------------
  module _ (a l n : ℕ) (some : 1 ≤ l) (inside : a + l ≤ 64) (small : n < 2 ^ l) (is : n ≡ take_of (slice_index (subs path) 0) a l) where
    abbrev with_slice : List ℕ → List ℕ
    with_slice T = slice_set T 0 (put_into (slice_index T 0) a l n)

    slice_is : (T : List ℕ) → length T ≡ 1 → slice_index (with_slice T) 0 ≡ put_of (slice_index T 0) a l n
    slice_is T long = get_or-set_same T 0 (put_into (slice_index T 0) a l n) 0 (omega (arith, long)) ∙ put_fits (slice_index T 0) a l n some inside small

    slice_bit : (w i : ℕ) → a ≤ i → i < a + l → bit_at (put_of w a l n) i ≡ bit_at (slice_index (subs path) 0) i
    slice_bit w i lo hi =
        let z : a + (i - a) ≡ i = omega (arith, lo) in
        let within : i - a < l = omega (arith, lo, hi) in
        ap (bit_at (put_of w a l n)) (sym z) ∙ bit_at_put_inside w a l n (i - a) small within ∙ ap (λ x. bit_at x (i - a)) is
        ∙ bit_at_take (slice_index (subs path) 0) a l (i - a) within ∙ ap (bit_at (slice_index (subs path) 0)) z

    slice_kept : (w i : ℕ) → bit_at w i ≡ bit_at (slice_index (subs path) 0) i → bit_at (put_of w a l n) i ≡ bit_at (slice_index (subs path) 0) i
    slice_kept w i e = elim (outside_or a l i) [
      | inl o ↦ bit_at_put_outside w a l n i small o ∙ e
      | inr h ↦ slice_bit w i h.0 h.1
    ]

    slice_keeps : (bits : ℕ) → a + l ≤ bits → (T : List ℕ) → Keeps (Int bits) T (with_slice T)
    slice_keeps bits le T = λ ok. (
      (length-set T 0 (put_into (slice_index T 0) a l n) ∙ ok.0, subst (λ x. x < 2 ^ bits) (sym (slice_is T ok.0)) (put_below (slice_index T 0) a l n bits le ok.1 small)),
      λ i lt e. ap (λ x. bit_at x i) (slice_is T ok.0) ∙ slice_kept (slice_index T 0) i e,
    )

    slice_sets : (bits i : ℕ) → a ≤ i → i < a + l → (T : List ℕ) → Sets (Int bits) i T (with_slice T)
    slice_sets bits i lo hi T = λ ok. ap (λ x. bit_at x i) (slice_is T ok.0) ∙ slice_bit (slice_index T 0) i lo hi

  -- A word of a data type ----------------------------------------------------------------------------
  module _ (s j n : ℕ) (is : n ≡ slice_index (subs path) j) where
    word_kept : (T : List ℕ) → Fits (Named s) T → (i : ℕ) → i < units_of layouts (Named s) → slice_index T i ≡ slice_index (subs path) i → slice_index (slice_set T j n) i ≡ slice_index (subs path) i
    word_kept T ok i lt e = elim (same_or i j) [
      | inl h ↦ get_or-set_at T j i n 0 h (let here : i < length T = subst (λ k. i < k) (sym ok) lt in omega (arith, here, h)) ∙ is ∙ ap (slice_index (subs path)) (sym h)
      | inr h ↦ get_or-set_other T j i n 0 h ∙ e
    ]

    word_keeps : (T : List ℕ) → Keeps (Named s) T (slice_set T j n)
    word_keeps T = λ ok. (length-set T j n ∙ ok, λ i lt e. word_kept T ok i lt e)

    word_sets : (T : List ℕ) → j < units_of layouts (Named s) → Sets (Named s) j T (slice_set T j n)
    word_sets T lt = λ ok. get_or-set_same T j n 0 (subst (λ k. j < k) (sym ok) lt) ∙ is

  -- Parts ----------------------------------------------------------------------------------------------
  abbrev after : List ℕ → ℕ → ℕ → Kind → List ℕ
  after T n l kind = put_entry T (entry Field path (slice_index T 0) n l kind)

  -- a part holds, and what it holds has a place of so many bits
  abbrev pub IsPartOf : ℕ → Part → Type 0
  IsPartOf w p = (1 ≤ p.l) × KindFits decls opens p.l p.kind × PartHolds subs ats w p

  module _ (ty : Ty) (is_ty : type_at opens path ≡ Some ty) (small : (bits : ℕ) → ty ≡ Int bits → bits ≤ 64) where
    type_is : (own : List ℕ) (s : Ty) → same_path own path ≡ true → type_at opens own ≡ Some s → ty ≡ s
    type_is own s e h = same_Some ty s (sym is_ty ∙ ap (type_at opens) (sym (path_is own path e)) ∙ h)

    bits_keeps : (own : List ℕ) (a n l : ℕ) (T : List ℕ) → n < 2 ^ l → 1 ≤ l → KindFits decls opens l (Bits own a) → n ≡ take_of (slice_index (subs own) 0) a l → (b : Bool) → same_path own path ≡ b
        → Keeps ty T (put_entry T (if b then Some (0, put_into (slice_index T 0) a l n) else None))
    bits_keeps own a n l T lt some fits is false e = keeps_same ty T
    bits_keeps own a n l T lt some fits is true e =
        let t = type_is own (Int fits.0) e fits.1 in
        let here : n ≡ take_of (slice_index (subs path) 0) a l = is ∙ ap (λ q. take_of (slice_index (subs q) 0) a l) (path_is own path e) in
        let most = small fits.0 t in
        let le = fits.2 in
        subst (λ (y : Ty). Keeps y T (slice_set T 0 (put_into (slice_index T 0) a l n))) (sym t) (slice_keeps a l n some (omega (arith, le, most)) lt here fits.0 le T)

    words_keeps : (own : List ℕ) (j n l : ℕ) (T : List ℕ) → KindFits decls opens l (Word own j) → n ≡ slice_index (subs own) j → (b : Bool) → same_path own path ≡ b
        → Keeps ty T (put_entry T (if b then Some (j, n) else None))
    words_keeps own j n l T fits is false e = keeps_same ty T
    words_keeps own j n l T fits is true e =
        let t = type_is own (Named fits.0) e fits.1 in
        let here : n ≡ slice_index (subs path) j = is ∙ ap (λ q. slice_index (subs q) j) (path_is own path e) in
        subst (λ (y : Ty). Keeps y T (slice_set T j n)) (sym t) (word_keeps fits.0 j n here T)

    kind_keeps : (n l : ℕ) (T : List ℕ) (kind : Kind) → n < 2 ^ l → 1 ≤ l → KindFits decls opens l kind → HoldsKind subs ats n l kind → Keeps ty T (after T n l kind)
    kind_keeps n l T (Const c) lt some fits is = keeps_same ty T
    kind_keeps n l T (Bits own a) lt some fits is = bits_keeps own a n l T lt some fits is (same_path own path) refl
    kind_keeps n l T (Word own j) lt some fits is = words_keeps own j n l T fits is (same_path own path) refl
    kind_keeps n l T (Pointer align b) lt some fits is = keeps_same ty T

    part_keeps : (w : ℕ) (T : List ℕ) (p : Part) → IsPartOf w p → Keeps ty T (put_part Field path w T p)
    part_keeps w T p g = kind_keeps (take_of w p.o p.l) p.l T p.kind (take_fits w p.o p.l) g.0 g.1 g.2

  after_bits : (T : List ℕ) (n l a : ℕ) → after T n l (Bits path a) ≡ slice_set T 0 (put_into (slice_index T 0) a l n)
  after_bits T n l a = ap (λ b. put_entry T (if b then Some (0, put_into (slice_index T 0) a l n) else None)) (same_self path)

  after_word : (T : List ℕ) (n l j : ℕ) → after T n l (Word path j) ≡ slice_set T j n
  after_word T n l j = ap (λ b. put_entry T (if b then Some (j, n) else None)) (same_self path)

  part_sets : (ty : Ty) → type_at opens path ≡ Some ty → ((bits : ℕ) → ty ≡ Int bits → bits ≤ 64) → (w : ℕ) (T : List ℕ) (p : Part) → IsPartOf w p
      → (i : ℕ) → i < units_of layouts ty → HoldsUnit ty path i p → Sets ty i T (put_part Field path w T p)
  part_sets (Int bits) is_ty small w T p g i lt h =
      let n = take_of w p.o p.l in
      let fits = subst (λ (k : Kind). KindFits decls opens p.l k) h.1 g.1 in
      let is : n ≡ take_of (slice_index (subs path) 0) h.0 p.l = subst (λ (k : Kind). HoldsKind subs ats n p.l k) h.1 g.2 in
      let most = small fits.0 (same_Some (Int bits) (Int fits.0) (sym is_ty ∙ fits.1)) in
      let le = fits.2 in
      let e : put_part Field path w T p ≡ slice_set T 0 (put_into (slice_index T 0) h.0 p.l n) = ap (after T n p.l) h.1 ∙ after_bits T n p.l h.0 in
      subst (λ (U : List ℕ). Sets (Int bits) i T U) (sym e) (slice_sets h.0 p.l n g.0 (omega (arith, le, most)) (take_fits w p.o p.l) is bits i h.2 h.3 T)
  part_sets (Named s) is_ty small w T p g i lt h =
      let n = take_of w p.o p.l in
      let is : n ≡ slice_index (subs path) i = subst (λ (k : Kind). HoldsKind subs ats n p.l k) h g.2 in
      let e : put_part Field path w T p ≡ slice_set T i n = ap (after T n p.l) h ∙ after_word T n p.l i in
      subst (λ (U : List ℕ). Sets (Named s) i T U) (sym e) (word_sets s i n is T lt)

  -- Words and blocks ------------------------------------------------------------------------------------
  abbrev pub ArePartsOf : ℕ → List Part → Type 0
  ArePartsOf w ps = (k : ℕ) (p : Part) → slice_get ps k ≡ Some p → IsPartOf w p

  -- flat words, the first of which is word j
  abbrev pub AreWords : List FlatWord → List ℕ → ℕ → Type 0
  AreWords fs xs j = (k : ℕ) (f : FlatWord) → slice_get fs k ≡ Some f → ArePartsOf (slice_index xs (j + k)) f.parts

  -- blocks, whose words were loaded from the last block to the first
  abbrev pub AreBlocks : List Block → List (List ℕ) → Type 0
  AreBlocks bs loaded = (b c : ℕ) (block : Block) → b + 1 + c ≡ length bs → slice_get bs b ≡ Some block → AreWords block.words (slice_index_or loaded c []) 0

  module _ (ty : Ty) (is_ty : type_at opens path ≡ Some ty) (small : (bits : ℕ) → ty ≡ Int bits → bits ≤ 64) where
    parts_keep : (w : ℕ) (ps : List Part) (T : List ℕ) → ArePartsOf w ps → Keeps ty T (put_parts Field path w ps T)
    parts_keep w [] T g = keeps_same ty T
    parts_keep w (p ∷ ps) T g =
        let U = put_part Field path w T p in
        keeps_then ty T U (put_parts Field path w ps U) (part_keeps ty is_ty small w T p (g 0 p refl)) (parts_keep w ps U (λ k q e. g (suc k) q e))

    words_first : (f : FlatWord) (fs : List FlatWord) (xs : List ℕ) (j : ℕ) → AreWords (f ∷ fs) xs j → ArePartsOf (slice_index xs j) f.parts
    words_first f fs xs j g = let z : j + 0 ≡ j = omega arith in subst (λ k. ArePartsOf (slice_index xs k) f.parts) z (g 0 f refl)

    words_rest : (f : FlatWord) (fs : List FlatWord) (xs : List ℕ) (j : ℕ) → AreWords (f ∷ fs) xs j → AreWords fs xs (j + 1)
    words_rest f fs xs j g = λ k h e. (let z : j + suc k ≡ j + 1 + k = omega arith in subst (λ n. ArePartsOf (slice_index xs n) h.parts) z (g (suc k) h e))

    words_keep : (fs : List FlatWord) (xs : List ℕ) (j : ℕ) (T : List ℕ) → AreWords fs xs j → Keeps ty T (put_words Field path fs xs j T)
    words_keep [] xs j T g = keeps_same ty T
    words_keep (f ∷ fs) xs j T g =
        let U = put_parts Field path (slice_index xs j) f.parts T in
        keeps_then ty T U (put_words Field path fs xs (j + 1) U) (parts_keep (slice_index xs j) f.parts T (words_first f fs xs j g)) (words_keep fs xs (j + 1) U (words_rest f fs xs j g))

    blocks_first : (x : Block) (bs : List Block) (loaded : List (List ℕ)) → AreBlocks (x ∷ bs) loaded → AreWords x.words (slice_index_or loaded (length bs) []) 0
    blocks_first x bs loaded g = g 0 (length bs) x (omega arith) refl

    blocks_rest : (x : Block) (bs : List Block) (loaded : List (List ℕ)) → AreBlocks (x ∷ bs) loaded → AreBlocks bs loaded
    blocks_rest x bs loaded g = λ b c block e is. g (suc b) c block (omega (arith, e)) is

    blocks_keep : (bs : List Block) (loaded : List (List ℕ)) (T : List ℕ) → AreBlocks bs loaded → Keeps ty T (put_blocks path bs loaded T)
    blocks_keep [] loaded T g = keeps_same ty T
    blocks_keep (x ∷ bs) loaded T g =
        let U = put_words Field path x.words (slice_index_or loaded (length bs) []) 0 T in
        keeps_then ty T U (put_blocks path bs loaded U) (words_keep x.words (slice_index_or loaded (length bs) []) 0 T (blocks_first x bs loaded g)) (blocks_keep bs loaded U (blocks_rest x bs loaded g))

    module _ (i : ℕ) (lt : i < units_of layouts ty) (part : Part) (holds : HoldsUnit ty path i part) where
      parts_set : (w : ℕ) (ps : List Part) (T : List ℕ) → ArePartsOf w ps → (k : ℕ) → slice_get ps k ≡ Some part → Sets ty i T (put_parts Field path w ps T)
      parts_set w [] T g k e = absurd cc
      parts_set w (p ∷ ps) T g zero e =
          let U = put_part Field path w T p in
          let here : HoldsUnit ty path i p = subst (λ (x : Part). HoldsUnit ty path i x) (sym (same_Some p part e)) holds in
          sets_kept ty i T U (put_parts Field path w ps U) lt (part_sets ty is_ty small w T p (g 0 p refl) i lt here) (part_keeps ty is_ty small w T p (g 0 p refl)) (parts_keep w ps U (λ k q h. g (suc k) q h))
      parts_set w (p ∷ ps) T g (suc k) e =
          let U = put_part Field path w T p in
          kept_sets ty i T U (put_parts Field path w ps U) (part_keeps ty is_ty small w T p (g 0 p refl)) (parts_set w ps U (λ m q h. g (suc m) q h) k e)

      module _ (f : FlatWord) (k : ℕ) (is_part : slice_get f.parts k ≡ Some part) where
        words_set : (fs : List FlatWord) (xs : List ℕ) (j : ℕ) (T : List ℕ) → AreWords fs xs j → (q : ℕ) → slice_get fs q ≡ Some f → Sets ty i T (put_words Field path fs xs j T)
        words_set [] xs j T g q e = absurd cc
        words_set (h ∷ fs) xs j T g zero e =
            let U = put_parts Field path (slice_index xs j) h.parts T in
            let here : slice_get h.parts k ≡ Some part = ap (λ (x : FlatWord). slice_get x.parts k) (same_Some h f e) ∙ is_part in
            sets_kept ty i T U (put_words Field path fs xs (j + 1) U) lt (parts_set (slice_index xs j) h.parts T (words_first h fs xs j g) k here) (parts_keep (slice_index xs j) h.parts T (words_first h fs xs j g)) (words_keep fs xs (j + 1) U (words_rest h fs xs j g))
        words_set (h ∷ fs) xs j T g (suc q) e =
            let U = put_parts Field path (slice_index xs j) h.parts T in
            kept_sets ty i T U (put_words Field path fs xs (j + 1) U) (parts_keep (slice_index xs j) h.parts T (words_first h fs xs j g)) (words_set fs xs (j + 1) U (words_rest h fs xs j g) q e)

        blocks_set : (bs : List Block) (loaded : List (List ℕ)) (T : List ℕ) → AreBlocks bs loaded → (b : ℕ) (block : Block) → slice_get bs b ≡ Some block → (q : ℕ) → slice_get block.words q ≡ Some f
            → Sets ty i T (put_blocks path bs loaded T)
        blocks_set [] loaded T g b block e q is = absurd cc
        blocks_set (x ∷ bs) loaded T g zero block e q is =
            let xs = slice_index_or loaded (length bs) [] in
            let U = put_words Field path x.words xs 0 T in
            let here : slice_get x.words q ≡ Some f = ap (λ (y : Block). slice_get y.words q) (same_Some x block e) ∙ is in
            sets_kept ty i T U (put_blocks path bs loaded U) lt (words_set x.words xs 0 T (blocks_first x bs loaded g) q here) (words_keep x.words xs 0 T (blocks_first x bs loaded g)) (blocks_keep bs loaded U (blocks_rest x bs loaded g))
        blocks_set (x ∷ bs) loaded T g (suc b) block e q is =
            let xs = slice_index_or loaded (length bs) [] in
            let U = put_words Field path x.words xs 0 T in
            kept_sets ty i T U (put_blocks path bs loaded U) (words_keep x.words xs 0 T (blocks_first x bs loaded g)) (blocks_set bs loaded U (blocks_rest x bs loaded g) b block e q is)

    -- A whole leaf ------------------------------------------------------------------------------------
    module _ (leaf : Leaf) (ws : List ℕ) (loaded : List (List ℕ)) (root : AreWords leaf.root ws 0) (inner : AreBlocks leaf.blocks loaded) (T : List ℕ) where
      abbrev rooted : List ℕ
      rooted = put_words Field path leaf.root ws 0 T

      abbrev whole : List ℕ
      whole = put_blocks path leaf.blocks loaded rooted

      whole_keeps : Keeps ty T whole
      whole_keeps = keeps_then ty T rooted whole (words_keep leaf.root ws 0 T root) (blocks_keep leaf.blocks loaded rooted inner)

      module _ (i : ℕ) (lt : i < units_of layouts ty) (part : Part) (holds : HoldsUnit ty path i part) (f : FlatWord) (k : ℕ) (is_part : slice_get f.parts k ≡ Some part) where
        in_block : (b : ℕ) (x : Option Block) (q : ℕ) → slice_get leaf.blocks b ≡ x → slice_get (words_of_block x) q ≡ Some f → Sets ty i T whole
        in_block b None q is e = absurd cc
        in_block b (Some block) q is e = kept_sets ty i T rooted whole (words_keep leaf.root ws 0 T root) (blocks_set i lt part holds f k is_part leaf.blocks loaded rooted inner b block is q e)

        in_words : (b : Option ℕ) (q : ℕ) → slice_get (words_in leaf b) q ≡ Some f → Sets ty i T whole
        in_words None q e = sets_kept ty i T rooted whole lt (words_set i lt part holds f k is_part leaf.root ws 0 T root q e) (words_keep leaf.root ws 0 T root) (blocks_keep leaf.blocks loaded rooted inner)
        in_words (Some b) q e = in_block b (slice_get leaf.blocks b) q refl e

      whole_sets : (i : ℕ) → i < units_of layouts ty → Holder leaf ty path i → Sets ty i T whole
      whole_sets i lt h = in_words i lt h.part h.is_holder h.word h.number h.is_part h.ref.block h.ref.word h.is_word

  -- a table of zeros
  zero_fits : (ty : Ty) (n : ℕ) → n ≡ word_count layouts ty → Fits ty (replicate n 0)
  zero_fits (Int bits) n e = (
    length-replicate n 0 ∙ e,
    subst (λ x. x < 2 ^ bits) (sym (get_or-replicate n 0 0 0 (omega (arith, e)))) (pow_pos bits),
  )
  zero_fits (Named s) n e = length-replicate n 0 ∙ e

  alone : (T : List ℕ) → length T ≡ 1 → T ≡ slice_index T 0 ∷ []
  alone [] e = absurd (omega (arith, e))
  alone (x ∷ []) e = refl
  alone (x ∷ y ∷ T) e = absurd (omega (arith, e))

  -- a table whose units are all right is the words
  all_right : (types : List DataDecl) (m : Memory) (ty : Ty) (T : List ℕ) (u : Value) → Represents types layouts m false ty u (subs path) → Fits ty T → ((i : ℕ) → i < units_of layouts ty → IsRight ty T i) → T ≡ subs path
  all_right types m (Int bits) T u rep fits h = alone T fits.0 ∙ number_is types layouts m false bits (slice_index T 0) u (subs path) rep fits.1 h
  all_right types m (Named s) T u rep fits h = words_are types layouts m false s u (subs path) T rep fits h

module _ (p : Program) (typed : IsTyped p) (agrees : Agrees p) (m : Memory) (t : ℕ) (ws : List ℕ) (layout : Layout) (n : ℕ) (leaf : Leaf) (is_layout : layout_of (flat_layouts p) t ≡ Some layout)
    (is_number : slice_get layout.leaves n ≡ Some leaf) (loaded : List (List ℕ)) (are : AreWordsOf leaf ws m loaded) where
  abbrev opens : List Open
  opens = open_positions p.types leaf.prov

  module _ (subs : List ℕ → List ℕ) (ats : ℕ → ℕ) (placed : LeafStands leaf ws m false subs ats) (path : List ℕ) where
    root_words : AreWords (flat_layouts p) p.layouts opens subs ats path leaf.root ws 0
    root_words = λ k f e q part at.
        (let fit = (sound p agrees t layout n leaf typed is_layout is_number).root k f e in
        let x = placed.words (record { block = None; word = k }) f e in
        let z : 0 + k ≡ k = omega arith in
        let here : slice_index ws (0 + k) ≡ x.0 = ap (slice_index ws) z ∙ get_or_from_slice_get ws k x.0 0 x.1 in
        (fit.some q part at, fit.kinds q part at, subst (λ w. PartHolds subs ats w part) (sym here) (x.2.parts q part at)))

    inner_blocks : AreBlocks (flat_layouts p) p.layouts opens subs ats path leaf.blocks loaded
    inner_blocks = λ b c block e is k f isf q part at.
        (let fit = (sound p agrees t layout n leaf typed is_layout is_number).inner b block is k f isf in
        let xs = slice_index_or loaded c [] in
        let found = ap (λ (x : Option Block). load_of m (ats b) (begins_at (words_of_block x) k) f.width) is ∙ are.words subs ats placed b c block e is k f isf in
        let holds = found_holds leaf ws m false subs ats placed (record { block = Some b; word = k }) f (slice_index xs k) (ap (λ (x : Option Block). slice_get (words_of_block x) k) is ∙ isf) found in
        let z : k ≡ 0 + k = omega arith in
        (fit.some q part at, fit.kinds q part at, subst (λ j. PartHolds subs ats (slice_index xs j) part) z (holds.parts q part at)))

  -- what is gathered for a field is what represents the value there
  pub field_is : (subs : List ℕ → List ℕ) (ats : ℕ → ℕ) → LeafStands leaf ws m false subs ats → (k : ℕ) (o : Open) → slice_get opens k ≡ Some o → (u : Value) → AreOf p m o.ty (subs o.path) u
      → field_words p.types (flat_layouts p) leaf ws loaded o.path ≡ subs o.path
  field_is subs ats placed k o at u rep =
      let law = lawful p agrees typed in
      let layouts = flat_layouts p in
      let is_ty : type_at opens o.path ≡ Some o.ty = position-typed p.types leaf.prov k o at in
      let root = law.provenances.root t layout n leaf is_layout is_number in
      let small : (bits : ℕ) → o.ty ≡ Int bits → bits ≤ 64 = λ bits e. int_small p.types typed.numbered.types bits (ap (is_type p.types) (sym e) ∙ positions_typed p.types typed.numbered.types leaf.prov t root k o at) in
      let zeros = replicate (count_at layouts (type_at opens o.path)) 0 in
      let fits = zero_fits layouts p.layouts opens subs ats o.path o.ty (count_at layouts (type_at opens o.path)) (ap (count_at layouts) is_ty) in
      let rw = root_words subs ats placed o.path in
      let ib = inner_blocks subs ats placed o.path in
      all_right layouts p.layouts opens subs ats o.path p.types m o.ty (field_words p.types layouts leaf ws loaded o.path) u rep
      (whole_keeps layouts p.layouts opens subs ats o.path o.ty is_ty small leaf ws loaded rw ib zeros fits).0
      (λ i lt. whole_sets layouts p.layouts opens subs ats o.path o.ty is_ty small leaf ws loaded rw ib zeros i lt (law.all_held t layout n leaf is_layout is_number k o i at lt) fits)

  -- so the plan over what is gathered opens the words
  pub opens_gathered : ((v : Value) → AreOf p m (Named t) ws v → leaf_of layout v ≡ Some n) → (old new : List Step)
      → new ≡ old ++ plan_of p.types (field_words p.types (flat_layouts p) leaf ws loaded) leaf.prov (Named t) [] → IsOpened p m t ws old new
  opens_gathered is_leaf old new is =
      opens_read p typed agrees m t ws layout n leaf is_layout is_leaf is_number old new (field_words p.types (flat_layouts p) leaf ws loaded)
      (λ subs ats placed shown k o at. (let r = shown k o at in sym (field_is subs ats placed k o at r.0 r.1))) is
