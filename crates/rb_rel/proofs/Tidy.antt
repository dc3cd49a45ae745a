-- The leaves of layouts that agree are tidy: parts begin apart and have bits, and words of blocks have bytes.
use Rattle.std.proofs.Common.{◌≡◌, ℕ, ◌/◌, ◌≤◌, inl, inr, Option, Some, None, refl, sym, ap, ◌∙◌, arith}
use Rattle.std.specs.Prelude.{slice_get}
use Rattle.std.proofs.lemmas.Bool.{cases_lt}
use Rattle.std.proofs.lemmas.Option.{same_Some}
use Rattle.rb_bits.specs.Words.{AreDisjoint}
use Rattle.rb_core.specs.declared.program.Program.{Program}
use Rattle.rb_core.specs.TypedPrograms.{IsTyped}
use Rattle.rb_layout.specs.declared.layout.Leaf.{Leaf}
use Rattle.rb_layout.specs.declared.layout.Block.{Block}
use Rattle.rb_layout.specs.declared.layout.FlatWord.{FlatWord}
use Rattle.rb_layout.specs.A4.{IsBlockWidth}
use Rattle.rb_layout.specs.Agreement.{Agrees}
use Rattle.rb_layout.specs.Each.{EachLeaf}
use Rattle.rb_layout.specs.Flattening.{flat_layouts}
use Rattle.rb_layout.specs.Positions.{open_positions}
use Rattle.rb_layout.specs.Words.{words_in, words_of_block}
use Rattle.rb_rel.proofs.Fitting.{WordFits}
use Rattle.rb_rel.proofs.Layers.{Sound, sound}
use Rattle.rb_rel.proofs.Parts.{IsTidyLeaf}

module _ (p : Program) (agrees : Agrees p) (leaf : Leaf) (ok : Sound p agrees leaf) where
  abbrev Fit : FlatWord → Type 0
  Fit f = WordFits p.layouts (open_positions p.types leaf.prov) f

  in_block : (b : ℕ) (x : Option Block) (j : ℕ) (f : FlatWord) → slice_get leaf.blocks b ≡ x → slice_get (words_of_block x) j ≡ Some f → Fit f × IsBlockWidth f.width
  in_block b None j f is e = absurd cc
  in_block b (Some block) j f is e = (ok.inner b block is j f e, (ok.are b block is).widths j f e)

  fits_at : (b : Option ℕ) (j : ℕ) (f : FlatWord) → slice_get (words_in leaf b) j ≡ Some f → Fit f
  fits_at None j f e = ok.root j f e
  fits_at (Some b) j f e = (in_block b (slice_get leaf.blocks b) j f refl e).0

  a_byte : (w : ℕ) → IsBlockWidth w → 1 ≤ w / 8
  a_byte w (inl e) = omega (arith, e)
  a_byte w (inr (inl e)) = omega (arith, e)
  a_byte w (inr (inr (inl e))) = omega (arith, e)
  a_byte w (inr (inr (inr e))) = omega (arith, e)

  begins_apart : (a b c d : ℕ) → 1 ≤ b → 1 ≤ d → AreDisjoint a b c d → a ≡ c → ⊥
  begins_apart a b c d x y (inl le) e = omega (arith, x, le, e)
  begins_apart a b c d x y (inr le) e = omega (arith, y, le, e)

  pub tidy_leaf : IsTidyLeaf leaf
  tidy_leaf = record {
    apart = λ r f i j x y is at bt e.
        let w = fits_at r.block r.word f is in
        let sx = w.some i x at in
        let sy = w.some j y bt in
        elim (cases_lt i j) [
          | inl lt ↦ absurd (begins_apart x.o x.l y.o y.l sx sy (w.tidy.apart i j x y lt at bt) e)
          | inr le ↦ elim (cases_lt j i) [
            | inl lt ↦ absurd (begins_apart y.o y.l x.o x.l sy sx (w.tidy.apart j i y x lt bt at) (sym e))
            | inr ge ↦ let same : i ≡ j = omega (arith, le, ge) in same_Some x y (sym at ∙ ap (slice_get f.parts) same ∙ bt)
          ]
        ];
    within = λ r f i x is at. let w = fits_at r.block r.word f is in (w.some i x at, w.tidy.inside i x at);
    bytes = λ b j f e. a_byte f.width (in_block b (slice_get leaf.blocks b) j f refl e).1;
  }

-- each leaf of layouts that agree
pub tidy_leaves : (p : Program) → IsTyped p → Agrees p → EachLeaf (flat_layouts p) (λ t layout n leaf. IsTidyLeaf leaf)
tidy_leaves p typed agrees t layout n leaf is at = tidy_leaf p agrees leaf (sound p agrees t layout n leaf typed is at)
