-- What is given of the end of a walk: its words, or why it cannot be rebuilt.
use Rattle.std.proofs.Common.{◌≡◌, ℕ, ◌+◌, ◌≤◌, inl, inr, List, length, Result, Ok, Err, refl, sym, ap, ◌∙◌, arith}
use Rattle.std.specs.Prelude.{◌⊎◌}
use Rattle.rb_core.specs.declared.types.DataDecl.{DataDecl}
use Rattle.rb_core.specs.declared.types.Ty.TheVariants.{Named}
use Rattle.rb_layout.specs.declared.layout.Layout.{Layout}
use Rattle.rb_image_text.specs.declared.fault.ImageFault.{ImageFault}
use Rattle.rb_image_text.specs.declared.fault.ImageFault.TheVariants.{Memory}
use Rattle.rb_image_text.specs.declared.image.Image.{Image}
use Rattle.rb_image_text.specs.Places.{AreInPlace}
use Rattle.rb_image.specs.Given.{IsGiven}
use Rattle.rb_peek.specs.declared.peek.Peeked.{Peeked}
use Rattle.rb_peek.specs.Paths.{IsCome, IsFaultless, IsPathFault}
use Rattle.rb_peek.specs.Peeking.{IsFaultOf, IsPartAt, end_words}
use Rattle.rb_peek.specs.Walks.{Where}
use Rattle.rb_peek.proofs.PeekFaults.{end_told}
use Rattle.rb_peek.proofs.WellLeaves.{AreWell}

-- a walk that is within its span is within a greater one
pub span_more : (n a s t : ℕ) → n ≤ a + s → s ≤ t → n ≤ a + t
span_more n a s t le more = omega arith

abbrev Rebuilt : Type 0
Rebuilt = Result (List ℕ) ImageFault

module _ (types : List DataDecl) (layouts : List Layout) (image : Image) where
  -- What is given --------------------------------------------------------------------------
  given_words : (due : Rebuilt) (words : List ℕ) → IsGiven (λ ws. ws) due (Ok words) → ◌≡◌ {A = Rebuilt} due (Ok words)
  given_words (Ok ws) words given = ap (λ xs. Ok xs) (sym given)
  given_words (Err fault) words given = absurd given

  -- the fault of a walk, or a step that names no field
  pub path_fault : (t : ℕ) (path : List ℕ) (fault : ImageFault) → IsPathFault types layouts image t path fault → IsFaultOf types layouts image (Named t) path fault ⊎ (fault ≡ Memory)
  path_fault t path fault (inl at) = inl (inl at)
  path_fault t path fault (inr (inl none)) = inl (inr (inl none))
  path_fault t path fault (inr (inr memory)) = inr memory

  -- the words of what stands at the end were found
  pub words_found : (t : ℕ) (path : List ℕ) (w : Where) → IsCome types layouts image t path path w → IsFaultless types layouts image t path → (part : Peeked) → part.ty ≡ w.here.ty
      → IsGiven (λ ws. ws) (end_words types layouts image w) (Ok part.words) → IsPartAt types layouts image t path part
  words_found t path w come sound part ty given =
      record { end = w; is_come = come; is_faultless = sound; is_type = ty; is_words = given_words (end_words types layouts image w) part.words given }

  -- or it cannot be rebuilt
  pub words_fault : AreInPlace image.blocks → AreWell layouts → 1 ≤ length image.root → (t : ℕ) (path : List ℕ) (w : Where) → IsCome types layouts image t path path w → (fault : ImageFault) → IsGiven (λ ws. ws) (end_words types layouts image w) (Err fault)
      → IsFaultOf types layouts image (Named t) path fault ⊎ (fault ≡ Memory)
  words_fault placed well some t path w come fault given = go (end_words types layouts image w) refl given
    where
      go : (due : Rebuilt) → ◌≡◌ {A = Rebuilt} (end_words types layouts image w) due → IsGiven (λ ws. ws) due (Err fault) → IsFaultOf types layouts image (Named t) path fault ⊎ (fault ≡ Memory)
      go (Ok ws) is h = inr h
      go (Err f) is h = elim h [
        | inl same ↦
            let due : ◌≡◌ {A = Rebuilt} (end_words types layouts image w) (Err fault) = is ∙ ap (λ (x : ImageFault). Err x) (sym same) in
            elim (end_told types layouts image t path placed well some w come fault due) [
              | inl told ↦ inl (inr (inr (record { end = w; is_come = come; is_fault = due; base = told.0; place = told.1; on_path = told.2; names = told.3 })))
              | inr memory ↦ inr memory
            ]
        | inr memory ↦ inr memory
      ]
