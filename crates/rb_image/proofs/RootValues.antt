-- An image that is sound for a type has a value of it, from which all pointers fall.
use Rattle.std.proofs.Common.{◌≡◌, ℕ, zero, suc, ◌+◌, ◌^◌, ◌<◌, List, [], ◌∷◌, length, false, Some, refl, sym, subst, ap, ◌∙◌}
use Rattle.std.specs.Prelude.{slice_get, slice_index}
use Rattle.std.proofs.lemmas.Option.{same_Some}
use Rattle.rb_core.specs.declared.program.Program.{Program}
use Rattle.rb_core.specs.declared.types.DataDecl.{DataDecl}
use Rattle.rb_core.specs.declared.types.Ty.{Ty}
use Rattle.rb_core.specs.declared.types.Ty.TheVariants.{Int, Named}
use Rattle.rb_core.specs.declared.value.Value.{Value, Num}
use Rattle.rb_core.specs.TypedPrograms.{IsTyped}
use Rattle.rb_bytes.specs.Memory.{Memory}
use Rattle.rb_layout.specs.Agreement.{Agrees}
use Rattle.rb_layout.specs.declared.layout.Layout.{Layout}
use Rattle.rb_layout.specs.Flattening.{flat_layouts}
use Rattle.rb_rel.proofs.Agreeing.{lawful}
use Rattle.rb_rel.proofs.Existence.{has_layout}
use Rattle.rb_rel.proofs.Unique.{unique}
use Rattle.rb_image_text.specs.declared.image.Image.{Image}
use Rattle.rb_image.specs.Falling.{Descends, RootDescends, SoundImagesDescend, SoundValuesDescend, number}
use Rattle.rb_image.specs.Memories.{image_memory}
use Rattle.rb_image.specs.Roots.{WordsFit, IsSoundImage, kept_from, root_at, layout_widths}
use Rattle.rb_image.specs.Values.{IsDeclared, KeepsImage, SoundImagesHaveValues}
use Rattle.rb_image.proofs.DescendingValues.{Descends-represents}
use Rattle.rb_image.proofs.FoundWords.{numbers}
use Rattle.rb_image.proofs.KeepLemmas.{Represents-stand}
use Rattle.rb_image.proofs.RootLemmas.{in_no_block}
use Rattle.rb_image.proofs.SoundValues.{Fits, place_value}
use Rattle.rb_image.proofs.WholeMemories.{image_whole}

-- Root words ---------------------------------------------------------------------------------
kept_numbers : (j : ℕ) (ns : List ℕ) → numbers (kept_from j ns) ≡ ns
kept_numbers j [] = refl
kept_numbers j (n ∷ ns) = ap (λ xs. n ∷ xs) (kept_numbers (j + 1) ns)

kept_long : (j : ℕ) (ns : List ℕ) → length (kept_from j ns) ≡ length ns
kept_long j [] = refl
kept_long j (n ∷ ns) = ap suc (kept_long (j + 1) ns)

pub fit_long : (widths words : List ℕ) → WordsFit widths words → length words ≡ length widths
fit_long [] [] h = refl
fit_long [] (x ∷ words) h = absurd (h 0)
fit_long (w ∷ widths) [] h = absurd (h 0)
fit_long (w ∷ widths) (x ∷ words) h = ap suc (fit_long widths words (λ i. h (suc i)))

fit_small : (widths words : List ℕ) → WordsFit widths words → (j w : ℕ) → slice_get widths j ≡ Some w → slice_index words j < 2 ^ w
fit_small [] words h j w e = absurd cc
fit_small (v ∷ widths) [] h j w e = absurd (h 0)
fit_small (v ∷ widths) (x ∷ words) h zero w e = subst (λ k. x < 2 ^ k) (same_Some v w e) (h 0)
fit_small (v ∷ widths) (x ∷ words) h (suc j) w e = fit_small widths words (λ i. h (suc i)) j w e

-- an integer is the one word that there is
int_value : (types : List DataDecl) (layouts : List Layout) (m : Memory) (bits : ℕ) (words : List ℕ) → WordsFit (bits ∷ []) words → (v : Value) × Descends types layouts m (Int bits) v words (λ j. 0)
int_value types layouts m bits [] h = absurd (h 0)
int_value types layouts m bits (x ∷ []) h = (Num x, number bits x (λ j. 0) (h 0))
int_value types layouts m bits (x ∷ y ∷ words) h = absurd (h (suc 0))

module _ (p : Program) (typed : IsTyped p) (agrees : Agrees p) (image : Image) (m : Memory) (keeps : KeepsImage image.blocks m) where
  root_value : (ty : Ty) → IsDeclared p.types ty → IsSoundImage p.types (flat_layouts p) image ty → (v : Value) × Descends p.types (flat_layouts p) m ty v image.root (λ j. 0)
  root_value (Int bits) there s = int_value p.types (flat_layouts p) m bits image.root s.fit
  root_value (Named t) there s =
      let l = has_layout p typed agrees t there in
      let fit : WordsFit l.0.shape image.root = subst (λ o. WordsFit (layout_widths o) image.root) l.1 s.fit in
      let fits : Fits p typed agrees image.blocks m keeps (root_at t image.root) = record {
        layout = l.0;
        is_layout = l.1;
        count = kept_long 0 image.root ∙ fit_long l.0.shape image.root fit;
        small = λ j w e. subst (λ xs. slice_index xs j < 2 ^ w) (sym (kept_numbers 0 image.root)) (fit_small l.0.shape image.root fit j w e);
      } in
      let v = place_value p typed agrees image.blocks m keeps s.sound fits (λ j. 0) (λ j lt. in_no_block 0 image.root j) in
      (v.0, subst (λ xs. Descends p.types (flat_layouts p) m (Named t) v.0 xs (λ j. 0)) (kept_numbers 0 image.root) v.1)

pub sound_values : SoundImagesHaveValues
sound_values p typed agrees image ty there s m keeps =
    let v = root_value p typed agrees image m keeps ty there s in
    (v.0, Descends-represents v.1)

pub sound_descend : SoundImagesDescend
sound_descend p typed agrees image placed are ty there s =
    root_value p typed agrees image (image_memory image.blocks) (image_whole image.blocks placed are).keeps ty there s

pub values_descend : SoundValuesDescend
values_descend p typed agrees image placed are ty there s m good stand v r =
    let u = sound_descend p typed agrees image placed are ty there s in
    let here = Represents-stand p.types (flat_layouts p) false image.blocks m placed are stand (Descends-represents u.1) in
    let same : u.0 ≡ v = unique p.types (flat_layouts p) m false good (lawful p agrees typed) here v r in
    subst (RootDescends p image ty) same u.1
