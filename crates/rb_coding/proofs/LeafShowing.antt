-- The leaf of a typed value: its blocks can be placed, and made words show the value.
use Rattle.std.proofs.Common.{◌≡◌, ℕ, suc, ◌+◌, ◌-◌, ◌*◌, ◌/◌, ◌%◌, ◌^◌, ◌<◌, ◌≤◌, inl, inr, length, map, List, [], ◌∷◌, Bool, true, false, Option, Some, None, refl, sym, subst, ap, ◌∙◌, arith}
use Rattle.std.specs.Prelude.{slice_get, unwrap_or, ltb, if◌then◌else◌}
use Rattle.std.proofs.Math.Nat.{mod-eq_of_lt}
use Rattle.rb_core.specs.declared.value.Value.{Value}
use Rattle.rb_core.specs.declared.types.Ty.{Ty}
use Rattle.rb_core.specs.declared.types.Ty.TheVariants.{Named}
use Rattle.rb_core.specs.declared.types.DataDecl.{DataDecl}
use Rattle.rb_core.specs.declared.program.Program.{Program}
use Rattle.rb_core.specs.TypedPrograms.{IsTyped}
use Rattle.rb_core.specs.Matching.{matches_of}
use Rattle.rb_core.specs.Values.{is_of_type, part_at}
use Rattle.rb_bits.specs.Words.{take_of, put_of}
use Rattle.rb_bytes.specs.Memory.{Memory, IsGood}
use Rattle.rb_layout.specs.declared.layout.Block.{Block}
use Rattle.rb_layout.specs.declared.layout.FlatWord.{FlatWord}
use Rattle.rb_layout.specs.declared.layout.Part.{Part}
use Rattle.rb_layout.specs.declared.layout.Leaf.{Leaf}
use Rattle.rb_layout.specs.declared.layout.Layout.{Layout}
use Rattle.rb_layout.specs.declared.layout.WordRef.{WordRef}
use Rattle.rb_layout.specs.Agreement.{Agrees}
use Rattle.rb_layout.specs.A1.{HasShape}
use Rattle.rb_layout.specs.A2.{widths_of}
use Rattle.rb_layout.specs.A4.{IsBlockWidth, IsAlignment}
use Rattle.rb_layout.specs.Flattening.{flat_layouts}
use Rattle.rb_layout.specs.Pointers.{PointsTo}
use Rattle.rb_layout.specs.Positions.{Open, open_positions, opens_of, leaf_of, layout_of}
use Rattle.rb_layout.specs.Words.{words_in, words_of_block, bytes_taken}
use Rattle.rb_rel.specs.Placing.{Fits, request_of, leaf_in, leaf_numbered, lay}
use Rattle.rb_rel.specs.Relation.{Represents}
use Rattle.rb_rel.proofs.Agreeing.{lawful}
use Rattle.rb_rel.proofs.Declared.{declared}
use Rattle.rb_rel.proofs.Existence.{PartIs, below_is, root_opens, has_layout, first_leaf}
use Rattle.rb_rel.proofs.Known.{ltb_is}
use Rattle.rb_rel.proofs.Layers.{Sound, sound, stored, made, numbered, layer_shown, can_hold, fits_at}
use Rattle.rb_rel.specs.Storing.{address_at, number_of, with_blocks}
use Rattle.rb_rel.proofs.Lists.{get-mapped}
use Rattle.rb_rel.proofs.Packing.{packed}
use Rattle.rb_coding.specs.inner.Filling.{ArePlaceable, Progress}
use Rattle.rb_coding.specs.Packing.{put_into, word_of_parts, word_made}
use Rattle.rb_coding.proofs.GrowLemmas.{fill_same, progress_fits}

-- Parts that fit are made in their places -----------------------------------------------------------
abbrev test : ℕ → ℕ → ℕ → ℕ → Bool → Bool → Bool → ℕ
test w o l part a b c = if a then w else (if b then w else (if c then w else put_of w o l (take_of part 0 l)))

no_less : (a b : ℕ) → b ≤ a → ltb a b ≡ false
no_less a b le = go (ltb a b) refl
  where
    go : (x : Bool) → ltb a b ≡ x → ltb a b ≡ false
    go true e = absurd (let lt = ltb_is a b e in omega (arith, lt, le))
    go false e = e

pub put_fits : (w o l part : ℕ) → 1 ≤ l → o + l ≤ 64 → part < 2 ^ l → put_into w o l part ≡ put_of w o l part
put_fits w o l part some inside fits =
    let a : ltb l 1 ≡ false = no_less l 1 some in
    let b : ltb 64 l ≡ false = no_less 64 l (omega (arith, inside)) in
    let c : ltb (64 - l) o ≡ false = no_less (64 - l) o (omega (arith, inside)) in
    let low : take_of part 0 l ≡ part = ap (λ k. k % 2 ^ l) (let z : part / 1 ≡ part = omega arith in z) ∙ mod-eq_of_lt fits in
    ap (λ x. test w o l part x (ltb 64 l) (ltb (64 - l) o)) a ∙ ap (λ x. test w o l part false x (ltb (64 - l) o)) b ∙ ap (λ x. test w o l part false false x) c ∙ ap (put_of w o l) low

made_packed : (ss : List ℕ → List ℕ) (ats : ℕ → ℕ) (ps : List Part) → ((k : ℕ) (p : Part) → slice_get ps k ≡ Some p → (1 ≤ p.l) × (p.o + p.l ≤ 64) × (number_of ss ats p.l p.kind < 2 ^ p.l)) → word_of_parts ss ats ps ≡ packed ss ats ps
made_packed ss ats [] fit = refl
made_packed ss ats (p ∷ ps) fit =
    let f = fit 0 p refl in
    put_fits (word_of_parts ss ats ps) p.o p.l (number_of ss ats p.l p.kind) f.0 f.1 f.2 ∙ ap (λ w. put_of w p.o p.l (number_of ss ats p.l p.kind)) (made_packed ss ats ps (λ k q e. fit (suc k) q e))

map_same : (f g : FlatWord → ℕ) (xs : List FlatWord) → ((j : ℕ) (x : FlatWord) → slice_get xs j ≡ Some x → f x ≡ g x) → map f xs ≡ map g xs
map_same f g [] s = refl
map_same f g (x ∷ xs) s = ap (λ n. n ∷ map f xs) (s 0 x refl) ∙ ap (λ ns. g x ∷ ns) (map_same f g xs (λ j y e. s (suc j) y e))

at_most_64 : (w : ℕ) → IsBlockWidth w → w ≤ 64
at_most_64 w (inl e) = omega (arith, e)
at_most_64 w (inr (inl e)) = omega (arith, e)
at_most_64 w (inr (inr (inl e))) = omega (arith, e)
at_most_64 w (inr (inr (inr e))) = omega (arith, e)

few_bytes : (fs : List FlatWord) → ((j : ℕ) (f : FlatWord) → slice_get fs j ≡ Some f → IsBlockWidth f.width) → bytes_taken fs ≤ 8 * length fs
few_bytes [] wide = omega arith
few_bytes (f ∷ fs) wide = let r = few_bytes fs (λ j x e. wide (suc j) x e) in let w = at_most_64 f.width (wide 0 f refl) in omega (arith, r, w)

module _ (p : Program) (typed : IsTyped p) (agrees : Agrees p) where
  abbrev types : List DataDecl
  types = p.types

  abbrev layouts : List Layout
  layouts = flat_layouts p

  -- the leaf of a value
  pub record Chosen (t : ℕ) (v : Value) : Type 0 where
    pub small : t < length types
    pub layout : Layout
    pub number : ℕ
    pub leaf : Leaf
    pub is_layout : layout_of layouts t ≡ Some layout
    pub is_leaf : leaf_of layout v ≡ Some number
    pub is_number : slice_get layout.leaves number ≡ Some leaf
    pub matches : matches_of leaf.prov v ≡ true

  pub chosen : (t : ℕ) (v : Value) → t < length types → is_of_type types v (Named t) ≡ true → Chosen t v
  chosen t v lt of_type =
      let l = has_layout p typed agrees t lt in
      let c = agrees.a5.complete t l.0 l.1 v of_type in
      let f = first_leaf l.0.leaves v c.0 c.1 c.2 c.3 0 in
      let z : 0 + f.0 ≡ f.0 = omega arith in
      record { small = lt; layout = l.0; number = f.0; leaf = f.1; is_layout = l.1; is_leaf = f.2 ∙ ap Some z; is_number = f.3; matches = f.4 }

  pub chosen_in : (t : ℕ) (v : Value) (c : Chosen t v) → leaf_in (layout_of layouts t) v ≡ Some c.leaf
  chosen_in t v c = ap (λ o. leaf_in o v) c.is_layout ∙ ap (leaf_numbered c.layout.leaves) c.is_leaf ∙ c.is_number

  -- its blocks can be placed
  pub placeable : (t : ℕ) (layout : Layout) (n : ℕ) (leaf : Leaf) → layout_of layouts t ≡ Some layout → slice_get layout.leaves n ≡ Some leaf → ArePlaceable leaf.blocks
  placeable t layout n leaf is at =
      let a4 = agrees.a4 t layout n leaf is at in
      let flat = (lawful p agrees typed).flat t layout n leaf is at in
      let ok = sound p agrees t layout n leaf typed is at in
      record {
        short = λ b block e. record { few = (a4.lengths b block e).1; short = λ k f h. at_most_64 f.width (a4.widths b block k f e h) };
        sizes = λ b block e. ((ok.are b block e).some, (let m = few_bytes block.words (λ j f h. a4.widths b block j f e h) in let l = (a4.lengths b block e).1 in omega (arith, m, l)));
        aligns = λ b block e. (let q = flat.pointed b block e in a4.alignments q.0 q.1 block.align b q.2);
        widths = λ b block e j f h. a4.widths b block j f e h;
        below = λ b block e j f h k q kat align c pointer.
            (flat.below (record { block = Some b; word = j }) q.l align c (record { word = f; number = k; part = q; is_word = ap (λ x. slice_get (words_of_block x) j) e ∙ h; is_part = kat; is_length = refl; is_pointer = pointer })).1;
      }

  module _ (t : ℕ) (v : Value) (c : Chosen t v) where
    abbrev leaf : Leaf
    leaf = c.leaf

    ok : Sound p agrees leaf
    ok = sound p agrees t c.layout c.number leaf typed c.is_layout c.is_number

    -- an open position of the leaf is below the root, and there is a part of the value there
    pub record OpenBelow (o : Open) : Type 0 where
      pub field : ℕ
      pub path : List ℕ
      pub is_path : o.path ≡ field ∷ path
      pub value : Value
      pub is_part : PartIs types v (Named t) o.path o.ty value

    pub open_below : (k : ℕ) (o : Open) → slice_get (open_positions types leaf.prov) k ≡ Some o → OpenBelow o
    open_below k o e =
        let law = lawful p agrees typed in
        let root = law.provenances.root t c.layout c.number leaf c.is_layout c.is_number in
        let fits = law.provenances.fits t c.layout c.number leaf c.is_layout c.is_number in
        let b = root_opens types leaf.prov t v root fits c.matches k o (ap (λ (ty : Ty). slice_get (opens_of types leaf.prov ty) k) (sym root) ∙ e) in
        let u = below_is types v (Named t) o b in
        let z : 0 + b.field ≡ b.field = omega arith in
        record { field = b.field; path = b.path; is_path = b.is_path ∙ ap (λ j. j ∷ b.path) z; value = u.0; is_part = u.1 }

    root_narrow : (j : ℕ) (f : FlatWord) → slice_get leaf.root j ≡ Some f → f.width ≤ 64
    root_narrow j f e =
        let d = declared p agrees.a1 t c.layout c.is_layout in
        let widths : widths_of leaf.root ≡ c.layout.shape = agrees.a2 t c.layout c.number leaf c.is_layout c.is_number in
        let at_shape : slice_get c.layout.shape j ≡ Some f.width = ap (λ xs. slice_get xs j) (sym widths) ∙ get-mapped (λ (x : FlatWord). x.width) leaf.root j f e in
        let shaped : HasShape (Some d.decl) = subst HasShape d.is_declared (agrees.a1 t c.small) in
        (shaped j f.width (ap (λ xs. slice_get xs j) (sym (ap (λ (y : Layout). y.shape) d.is_flat)) ∙ at_shape)).1

    block_narrow : (b : ℕ) (x : Option Block) (j : ℕ) (f : FlatWord) → slice_get leaf.blocks b ≡ x → slice_get (words_of_block x) j ≡ Some f → f.width ≤ 64
    block_narrow b None j f is e = absurd cc
    block_narrow b (Some block) j f is e = at_most_64 f.width ((ok.are b block is).widths j f e)

    narrow : (b : Option ℕ) (j : ℕ) (f : FlatWord) → slice_get (words_in leaf b) j ≡ Some f → f.width ≤ 64
    narrow None j f e = root_narrow j f e
    narrow (Some b) j f e = block_narrow b (slice_get leaf.blocks b) j f refl e

    module _ (m : Memory) (good : IsGood m) (ss : List ℕ → List ℕ)
        (shown : (k : ℕ) (o : Open) → slice_get (open_positions types leaf.prov) k ≡ Some o → (u : Value) × (part_at v o.path ≡ Some u) × Represents types layouts m true o.ty u (ss o.path))
        (bs : List (ℕ × ℕ)) (m' : Memory) (progress : Progress m m' (map request_of leaf.blocks) bs) (is_filled : m' ≡ with_blocks (word_made ss (address_at bs)) m leaf.blocks) where
      laid : lay m.limit m.next (map request_of leaf.blocks) ≡ Fits bs m'.next
      laid = progress_fits m m' (map request_of leaf.blocks) bs progress

      wide : (r : WordRef) (x align b : ℕ) → PointsTo leaf r x align b → IsAlignment align × ((j : ℕ) → align ≡ 2 ^ j → 24 ≤ x + j)
      wide r x align b q = let a4 = agrees.a4 t c.layout c.number leaf c.is_layout c.is_number in (a4.alignments r x align b q, a4.wide r x align b q)

      reps : (k : ℕ) (o : Open) → slice_get (open_positions types leaf.prov) k ≡ Some o → (u : Value) × Represents types layouts m true o.ty u (ss o.path)
      reps k o e = let q = shown k o e in (q.0, q.2)

      abbrev numbers : FlatWord → ℕ
      numbers = numbered p agrees true t c.layout c.number leaf ok m good ss reps wide bs m'.next laid

      word_is : (b : Option ℕ) (j : ℕ) (f : FlatWord) → slice_get (words_in leaf b) j ≡ Some f → word_made ss (address_at bs) f ≡ numbers f
      word_is b j f e =
          let w = fits_at p agrees true t c.layout c.number leaf ok m good ss reps wide bs m'.next laid b j f e in
          let h = can_hold p agrees true t c.layout c.number leaf ok m good ss reps wide bs m'.next laid (record { block = b; word = j }) f e w in
          let n = narrow b j f e in
          made_packed ss (address_at bs) f.parts (λ k q at. (w.some k q at, (let i = w.tidy.inside k q at in omega (arith, i, n)), h.fit k q at))

      same_memory : m' ≡ made p agrees true t c.layout c.number leaf ok m good ss reps wide bs m'.next laid
      same_memory =
          is_filled ∙ fill_same (word_made ss (address_at bs)) numbers m leaf.blocks (λ b block e j f h. word_is (Some b) j f (ap (λ x. slice_get (words_of_block x) j) e ∙ h))
          ∙ sym (stored p agrees true t c.layout c.number leaf ok m good ss reps wide bs m'.next laid).is_filled

      -- the value is shown by its leaf's words
      pub leaf_shown : (ws : List ℕ) → ws ≡ map (word_made ss (address_at bs)) leaf.root → Represents types layouts m' true (Named t) v ws
      leaf_shown ws is =
          let here = layer_shown p agrees true t c.layout c.number leaf ok m good ss reps wide bs m'.next laid v c.is_layout c.is_leaf c.is_number (λ path. unwrap_or (part_at v path) v)
          (λ i o at. let q = shown i o at in let x = ap (λ y. unwrap_or y v) q.1 in (q.1 ∙ ap Some (sym x), subst (λ u. Represents types layouts m true o.ty u (ss o.path)) (sym x) q.2)) in
          let words : ws ≡ map numbers leaf.root = is ∙ map_same (word_made ss (address_at bs)) numbers leaf.root (λ j f e. word_is None j f e) in
          subst (λ xs. Represents types layouts m' true (Named t) v xs) (sym words) (subst (λ (x : Memory). Represents types layouts x true (Named t) v (map numbers leaf.root)) (sym same_memory) here)
