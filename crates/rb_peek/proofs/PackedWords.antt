-- Words that are packed from words of fields represent the value whose fields these are.
use Rattle.std.proofs.Common.{◌≡◌, ℕ, suc, ◌+◌, ◌^◌, ◌<◌, ◌≤◌, map, Bool, List, [], ◌∷◌, None, Some, refl, sym, subst, ap, ◌∙◌, arith}
use Rattle.std.specs.Prelude.{slice_get, unwrap_or}
use Rattle.rb_core.specs.declared.program.Program.{Program}
use Rattle.rb_core.specs.declared.types.Ty.TheVariants.{Named}
use Rattle.rb_core.specs.declared.value.Value.{Value}
use Rattle.rb_core.specs.TypedPrograms.{IsTyped}
use Rattle.rb_core.specs.Values.{part_at}
use Rattle.rb_bits.specs.Words.{put_of}
use Rattle.rb_bytes.specs.Memory.{Memory, IsGood}
use Rattle.rb_layout.specs.declared.layout.FlatWord.{FlatWord}
use Rattle.rb_layout.specs.declared.layout.Layout.{Layout}
use Rattle.rb_layout.specs.declared.layout.Leaf.{Leaf}
use Rattle.rb_layout.specs.declared.layout.Part.{Part}
use Rattle.rb_layout.specs.declared.layout.WordRef.{WordRef}
use Rattle.rb_layout.specs.Agreement.{Agrees}
use Rattle.rb_layout.specs.A4.{IsAlignment}
use Rattle.rb_layout.specs.Flattening.{flat_layouts}
use Rattle.rb_layout.specs.Pointers.{PointsTo}
use Rattle.rb_layout.specs.Positions.{Open, layout_of, leaf_of, open_positions}
use Rattle.rb_rel.specs.Placing.{Fits, lay, request_of}
use Rattle.rb_rel.specs.Relation.{Represents}
use Rattle.rb_rel.proofs.Layers.{Sound, can_hold, fits_at, layer_shown, made, numbered, sound, stored}
use Rattle.rb_rel.proofs.Packing.{packed as all_packed}
use Rattle.rb_rel.specs.Storing.{number_of, with_blocks}
use Rattle.rb_coding.specs.Packing.{word_of_parts, word_made}
use Rattle.rb_coding.proofs.LeafShowing.{put_fits}
use Rattle.rb_image.proofs.NarrowLeaves.{leaves_are_narrow}
use Rattle.rb_peek.specs.declared.pack.FieldWords.{FieldWords}
use Rattle.rb_peek.specs.PackedWords.{FieldsRepresent, PackedWordsRepresent}
use Rattle.rb_peek.specs.Rebuilds.{words_of_leaf, words_at_path}

-- each part fits, so it is put in its place
made_packed : (ss : List ℕ → List ℕ) (ats : ℕ → ℕ) (ps : List Part)
    → ((k : ℕ) (q : Part) → slice_get ps k ≡ Some q → (1 ≤ q.l) × (q.o + q.l ≤ 64) × (number_of ss ats q.l q.kind < 2 ^ q.l)) → word_of_parts ss ats ps ≡ all_packed ss ats ps
made_packed ss ats [] fit = refl
made_packed ss ats (q ∷ qs) fit =
    let f = fit 0 q refl in
    put_fits (word_of_parts ss ats qs) q.o q.l (number_of ss ats q.l q.kind) f.0 f.1 f.2 ∙ ap (λ w. put_of w q.o q.l (number_of ss ats q.l q.kind)) (made_packed ss ats qs (λ k r e. fit (suc k) r e))

map_same : (f g : FlatWord → ℕ) (xs : List FlatWord) → ((j : ℕ) (x : FlatWord) → slice_get xs j ≡ Some x → f x ≡ g x) → map f xs ≡ map g xs
map_same f g [] same = refl
map_same f g (x ∷ xs) same = ap (λ n. n ∷ map f xs) (same 0 x refl) ∙ ap (λ ns. g x ∷ ns) (map_same f g xs (λ j y e. same (suc j) y e))

module _ (p : Program) (typed : IsTyped p) (agrees : Agrees p) (m : Memory) (good : IsGood m) (clean : Bool) (t : ℕ) (v : Value) (layout : Layout) (n : ℕ) (leaf : Leaf)
    (is_layout : layout_of (flat_layouts p) t ≡ Some layout) (is_leaf : leaf_of layout v ≡ Some n) (is_number : slice_get layout.leaves n ≡ Some leaf) (none : leaf.blocks ≡ [])
    (fields : List FieldWords) (represent : FieldsRepresent p m clean v leaf fields) where
  ok : Sound p agrees leaf
  ok = sound p agrees t layout n leaf typed is_layout is_number

  abbrev ss : List ℕ → List ℕ
  ss = words_at_path fields

  reps : (k : ℕ) (o : Open) → slice_get (open_positions p.types leaf.prov) k ≡ Some o → (u : Value) × Represents p.types (flat_layouts p) m clean o.ty u (ss o.path)
  reps k o e = let r = represent k o e in (r.0, r.2)

  wide : (r : WordRef) (x align b : ℕ) → PointsTo leaf r x align b → IsAlignment align × ((j : ℕ) → align ≡ 2 ^ j → 24 ≤ x + j)
  wide r x align b q = let a4 = agrees.a4 t layout n leaf is_layout is_number in (a4.alignments r x align b q, a4.wide r x align b q)

  laid : lay m.limit m.next (map request_of leaf.blocks) ≡ Fits [] m.next
  laid = ap (λ blocks. lay m.limit m.next (map request_of blocks)) none

  abbrev numbers : FlatWord → ℕ
  numbers = numbered p agrees clean t layout n leaf ok m good ss reps wide [] m.next laid

  short : (j : ℕ) (f : FlatWord) → slice_get leaf.root j ≡ Some f → f.width ≤ 64
  short j f e = ((leaves_are_narrow p typed agrees t layout n leaf is_layout is_number).0.words None).short j f e

  word_is : (j : ℕ) (f : FlatWord) → slice_get leaf.root j ≡ Some f → word_made ss (λ b. 0) f ≡ numbers f
  word_is j f e =
      let w = fits_at p agrees clean t layout n leaf ok m good ss reps wide [] m.next laid None j f e in
      let h = can_hold p agrees clean t layout n leaf ok m good ss reps wide [] m.next laid (record { block = None; word = j }) f e w in
      let s = short j f e in
      made_packed ss (λ b. 0) f.parts (λ k q at. (w.some k q at, (let i = w.tidy.inside k q at in omega (arith, i, s)), h.fit k q at))

  words_are : words_of_leaf leaf fields ≡ map numbers leaf.root
  words_are = map_same (word_made ss (λ b. 0)) numbers leaf.root word_is

  same_memory : made p agrees clean t layout n leaf ok m good ss reps wide [] m.next laid ≡ m
  same_memory = (stored p agrees clean t layout n leaf ok m good ss reps wide [] m.next laid).is_filled ∙ ap (with_blocks numbers m) none

  pub packed_represent : Represents p.types (flat_layouts p) m clean (Named t) v (words_of_leaf leaf fields)
  packed_represent =
      let here = layer_shown p agrees clean t layout n leaf ok m good ss reps wide [] m.next laid v is_layout is_leaf is_number (λ path. unwrap_or (part_at v path) v)
      (λ i o at. let q = represent i o at in let x = ap (λ y. unwrap_or y v) q.1 in
      (q.1 ∙ ap Some (sym x), subst (λ (u : Value). Represents p.types (flat_layouts p) m clean o.ty u (ss o.path)) (sym x) q.2)) in
      subst (λ ws. Represents p.types (flat_layouts p) m clean (Named t) v ws) (sym words_are)
      (subst (λ (x : Memory). Represents p.types (flat_layouts p) x clean (Named t) v (map numbers leaf.root)) same_memory here)

pub packed_words_represent : PackedWordsRepresent
packed_words_represent p typed agrees m good clean t v layout n leaf is_layout is_leaf is_number none fields represent =
    packed_represent p typed agrees m good clean t v layout n leaf is_layout is_leaf is_number none fields represent
