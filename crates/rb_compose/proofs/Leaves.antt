-- A leaf with a subvalue at each open position: each part is made from slots that there are.
use Rattle.std.proofs.Common.{◌≡◌, ℕ, zero, suc, ◌+◌, ◌*◌, ◌<◌, ◌≤◌, inl, inr, List, [], ◌∷◌, length, true, Some, None, refl, sym, subst, ap, ◌∙◌, arith}
use Rattle.std.specs.Prelude.{slice_get, slice_index, nat_lt}
use Rattle.std.proofs.lemmas.Option.{slice_get_within}
use Rattle.std.proofs.lemmas.Grind.{common_steps}
use Rattle.rb_core.specs.declared.types.Ty.{Ty}
use Rattle.rb_core.specs.declared.types.Ty.TheVariants.{Int, Named}
use Rattle.rb_core.specs.declared.program.Program.{Program}
use Rattle.rb_core.specs.TypedPrograms.{IsTyped}
use Rattle.rb_core.specs.WellNumbered.{is_type}
use Rattle.rb_target.specs.Meaning.{slots_at}
use Rattle.rb_layout.specs.declared.layout.FlatWord.{FlatWord}
use Rattle.rb_layout.specs.declared.layout.Kind.{Kind}
use Rattle.rb_layout.specs.declared.layout.Kind.TheVariants.{Const, Bits, Word, Pointer}
use Rattle.rb_layout.specs.declared.layout.Layout.{Layout}
use Rattle.rb_layout.specs.declared.layout.Leaf.{Leaf}
use Rattle.rb_layout.specs.declared.layout.Part.{Part}
use Rattle.rb_layout.specs.declared.layout.WordRef.{WordRef}
use Rattle.rb_layout.specs.Agreement.{Agrees}
use Rattle.rb_layout.specs.A4.{IsBlockWidth}
use Rattle.rb_layout.specs.Flattening.{flat_layouts, shape_in, shape_of, type_at}
use Rattle.rb_layout.specs.Positions.{Open, layout_of, open_positions}
use Rattle.rb_layout.specs.Words.{bytes_taken, flat_at, words_of_block}
use Rattle.rb_rel.specs.Relation.{shape_length}
use Rattle.rb_rel.proofs.Declared.{declared}
use Rattle.rb_rel.proofs.Existence.{has_layout}
use Rattle.rb_rel.proofs.Fitting.{KindFits, WordFits}
use Rattle.rb_rel.proofs.Layers.{Sound, sound, open_of}
use Rattle.rb_rel.proofs.Agreeing.{lawful}
use Rattle.rb_rel.proofs.Widths.{int_small, positions_typed}
use Rattle.rb_fragment.specs.declared.held.Held.{Held}
use Rattle.rb_fragment.specs.Plan.{Plan, words_needed}
use Rattle.rb_fragment.specs.Slots.{AllBelow}
use Rattle.rb_compose.proofs.Shapes.{root_short}
use Rattle.rb_compose.specs.declared.subvalue.Subvalue.{Subvalue}
use Rattle.rb_compose.specs.inner.Code.{field_slots, field_type, held_type_in}
use Rattle.rb_compose.specs.Subvalues.{AreGivenAt, held_slots, subvalue_at}
use Rattle.rb_compose.proofs.Fits.{Uses, IsMade, PartsOk, BlockOk, LeafOk}

index_below : (n : ℕ) (xs : List ℕ) (j : ℕ) → AllBelow n xs → j < length xs → slice_index xs j < n
index_below n [] j all lt = absurd (omega (arith, lt))
index_below n (x ∷ xs) zero all lt = all.0
index_below n (x ∷ xs) (suc j) all lt = index_below n xs j all.1 (omega (arith, lt))

pub index_at : (s xs : List ℕ) (j : ℕ) → j < length xs → slice_index s (slice_index xs j) ≡ slice_index (slots_at s xs) j
index_at s [] j lt = absurd (omega (arith, lt))
index_at s (x ∷ xs) zero lt = refl
index_at s (x ∷ xs) (suc j) lt = index_at s xs j (omega (arith, lt))

pub width_low : (w : ℕ) → IsBlockWidth w → w ≤ 64
width_low w (inl e) = omega (arith, e)
width_low w (inr (inl e)) = omega (arith, e)
width_low w (inr (inr (inl e))) = omega (arith, e)
width_low w (inr (inr (inr e))) = omega (arith, e)

bytes_few : (fs : List FlatWord) → ((j : ℕ) (f : FlatWord) → slice_get fs j ≡ Some f → IsBlockWidth f.width) → bytes_taken fs ≤ 8 * length fs
bytes_few [] wide = omega arith
bytes_few (f ∷ fs) wide = let w = width_low f.width (wide 0 f refl) in let r = bytes_few fs (λ j g e. wide (suc j) g e) in omega (arith, w, r)

lt_is : (a b : ℕ) → nat_lt a b ≡ true → a < b
lt_is a b e = grind (arith, common_steps)

module _ (p : Program) (typed : IsTyped p) (agrees : Agrees p) (bound : ℕ → ℕ → ℕ) where
  abbrev pub plan : Plan
  plan = record { program = p; layouts = flat_layouts p; bound = bound }

  -- as many words as the shape that is declared
  shape_is : (s : ℕ) → s < length p.types → words_needed plan (Named s) ≡ length (shape_of p.layouts s)
  shape_is s lt =
      let l = has_layout p typed agrees s lt in
      let d = declared p agrees.a1 s l.0 l.1 in
      ap shape_length l.1 ∙ ap (λ (y : Layout). length y.shape) d.is_flat ∙ ap (λ x. length (shape_in x)) (sym d.is_declared)

  module _ (t : ℕ) (layout : Layout) (number : ℕ) (leaf : Leaf) (is_layout : layout_of (flat_layouts p) t ≡ Some layout) (is_number : slice_get layout.leaves number ≡ Some leaf)
      (n : ℕ) (hs : List Subvalue) (given : AreGivenAt plan n (open_positions p.types leaf.prov) hs) where
    abbrev pub opens : List Open
    opens = open_positions p.types leaf.prov

    pub is_sound : Sound p agrees leaf
    is_sound = sound p agrees t layout number leaf typed is_layout is_number

    -- the subvalue at an open position
    pub record FieldAt (path : List ℕ) (ty : Ty) : Type 0 where
      pub held : Held
      pub is_held : subvalue_at hs path ≡ Some held
      pub kind : held.ty ≡ ty
      pub declared : is_type p.types ty ≡ true
      pub slots : field_slots hs path ≡ held.slots
      pub below : AllBelow n held.slots
      pub count : length held.slots ≡ words_needed plan ty

    pub open_field : (k : ℕ) (o : Open) → slice_get opens k ≡ Some o → FieldAt o.path o.ty
    open_field k o at =
        let g = given k o at in
        let law = lawful p agrees typed in
        record {
          held = g.held;
          is_held = g.is_there;
          kind = g.kind;
          declared = positions_typed p.types typed.numbered.types leaf.prov t (law.provenances.root t layout number leaf is_layout is_number) k o at;
          slots = ap held_slots g.is_there;
          below = g.below;
          count = g.count;
        }

    pub field_at : (path : List ℕ) (ty : Ty) → type_at opens path ≡ Some ty → FieldAt path ty
    field_at path ty e =
        let o = open_of opens path ty e in
        subst (λ u. FieldAt path u) o.4 (subst (λ q. FieldAt q o.1.ty) o.3 (open_field o.0 o.1 o.2))

    pub type_held : (path : List ℕ) (ty : Ty) → type_at opens path ≡ Some ty → field_type hs path ≡ Some ty
    type_held path ty e =
        let at = field_at path ty e in ap held_type_in at.is_held ∙ ap Some at.kind

    abbrev Kinds : ℕ → Kind → Type 0
    Kinds l kind = KindFits p.layouts opens l kind

    -- a slice is of a number in one slot, and is one of a word
    pub bits_at : (l a : ℕ) (path : List ℕ) → Kinds l (Bits path a) → (a + l ≤ 64) × (0 < length (field_slots hs path)) × (slice_index (field_slots hs path) 0 < n)
    bits_at l a path f =
        let at = field_at path (Int f.0) f.1 in
        let small = int_small p.types typed.numbered.types f.0 at.declared in
        let count = at.count in
        let same = ap length at.slots in (
          omega (arith, f.2, small),
          omega (arith, same, count),
          subst (λ xs. slice_index xs 0 < n) (sym at.slots) (index_below n at.held.slots 0 at.below (omega (arith, count))),
        )

    pub word_at : (l j : ℕ) (path : List ℕ) → Kinds l (Word path j) → (j < length (field_slots hs path)) × (slice_index (field_slots hs path) j < n)
    word_at l j path f =
        let at = field_at path (Named f.0) f.1 in
        let there = lt_is f.0 (length p.types) at.declared in
        let in_shape = slice_get_within (shape_of p.layouts f.0) j l f.2 in
        let count = at.count in
        let words = shape_is f.0 there in
        let same = ap length at.slots in (
          omega (arith, same, count, words, in_shape),
          subst (λ xs. slice_index xs j < n) (sym at.slots) (index_below n at.held.slots j at.below (omega (arith, count, words, in_shape))),
        )

    -- Parts --------------------------------------------------------------------------------------

    uses : (count l : ℕ) (kind : Kind) → Kinds l kind → ((align x : ℕ) → kind ≡ Pointer align x → x < count) → Uses hs n count kind
    uses count l (Const k) f pointers = tt
    uses count l (Bits path a) f pointers = (bits_at l a path f).2
    uses count l (Word path j) f pointers = (word_at l j path f).1
    uses count l (Pointer align x) f pointers = pointers align x refl

    made : (l : ℕ) (kind : Kind) → 1 ≤ l → l ≤ 64 → Kinds l kind → IsMade hs l kind
    made l (Const k) some low f = tt
    made l (Bits path a) some low f = let small = (bits_at l a path f).0 in (omega (arith, some, small), omega (arith, small))
    made l (Word path j) some low f = tt
    made l (Pointer align x) some low f = tt

    pub part_ok : (count : ℕ) (f : FlatWord) → f.width ≤ 64 → WordFits p.layouts opens f → ((k : ℕ) (q : Part) (align x : ℕ) → slice_get f.parts k ≡ Some q → q.kind ≡ Pointer align x → x < count) → PartsOk hs n count f.parts
    part_ok count f low fits pointers k q at =
        let inside = fits.tidy.inside k q at in
        let some = fits.some k q at in
        record {
          uses = uses count q.l q.kind (fits.kinds k q at) (λ align x e. pointers k q align x at e);
          range = (omega (arith, some), omega (arith, inside, low));
          made = made q.l q.kind some (omega (arith, inside, low)) (fits.kinds k q at);
        }

    pub leaf_ok : LeafOk hs n leaf
    leaf_ok =
        let a4 = agrees.a4 t layout number leaf is_layout is_number in
        record {
          blocks = λ b block at.
              let z : 0 + b ≡ b = omega arith in
              let few = bytes_few block.words (λ j f e. a4.widths b block j f at e) in
              let many = (a4.lengths b block at).1 in
              let own = is_sound.flat.pointed b block at in
              subst (λ i. BlockOk hs n i block) (sym z) (record {
                is = is_sound.are b block at;
                few = omega (arith, few, many);
                align = a4.alignments own.0 own.1 block.align b own.2;
                words = λ j f e. part_ok b f (width_low f.width (a4.widths b block j f at e)) (is_sound.inner b block at j f e)
                    (λ k q align x is e1.
                    let r : WordRef = record { block = Some b; word = j } in
                    let there : flat_at leaf r ≡ Some f = ap (λ y. slice_get (words_of_block y) j) at ∙ e in
                    (is_sound.flat.below r q.l align x (record { word = f; number = k; part = q; is_word = there; is_part = is; is_length = refl; is_pointer = e1 })).1);
              });
          root = λ j f e. part_ok (length leaf.blocks) f (root_short p typed agrees t layout number leaf is_layout is_number j f e) (is_sound.root j f e)
              (λ k q align x is e1.
              let r : WordRef = record { block = None; word = j } in
              let to = (is_sound.flat.below r q.l align x (record { word = f; number = k; part = q; is_word = e; is_part = is; is_length = refl; is_pointer = e1 })).0 in
              slice_get_within leaf.blocks x to.0 to.1);
        }
