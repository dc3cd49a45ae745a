-- What the leaves of layouts that agree with their types have, and what is seen of them.
use Rattle.std.proofs.Common.{◌≡◌, ℕ, ◌<◌, inl, inr, Bool, true, List, [], ◌∷◌, Option, Some, None, Result, Ok, refl, sym, subst, ap, ◌∙◌}
use Rattle.std.specs.Prelude.{◌⊎◌, slice_get, if◌then◌else◌}
use Rattle.rb_core.specs.declared.program.Program.{Program}
use Rattle.rb_core.specs.TypedPrograms.{IsTyped}
use Rattle.rb_layout.specs.Agreement.{Agrees}
use Rattle.rb_layout.specs.Flat.{IsFlat}
use Rattle.rb_layout.specs.Flattening.{flat_layouts}
use Rattle.rb_layout.specs.Positions.{layout_of}
use Rattle.rb_layout.specs.Words.{flat_at}
use Rattle.rb_layout.specs.declared.layout.FlatWord.{FlatWord}
use Rattle.rb_layout.specs.declared.layout.Kind.{Kind}
use Rattle.rb_layout.specs.declared.layout.Kind.TheVariants.{Const, Bits, Word, Pointer}
use Rattle.rb_layout.specs.declared.layout.Layout.{Layout}
use Rattle.rb_layout.specs.declared.layout.Leaf.{Leaf}
use Rattle.rb_layout.specs.declared.layout.Part.{Part}
use Rattle.rb_layout.specs.declared.layout.WordRef.{WordRef}
use Rattle.rb_layout.proofs.FlatLaws.{leaf_is_form}
use Rattle.rb_rel.proofs.Agreeing.{lawful}
use Rattle.rb_rel.proofs.Lists.{and_true}
use Rattle.rb_image_text.specs.declared.fault.ImageFault.{ImageFault}
use Rattle.rb_image_text.specs.declared.image.ImageBlock.{ImageBlock}
use Rattle.rb_image.specs.declared.kept.Kept.{Kept}
use Rattle.rb_image.specs.LeafWords.{block_addresses}
use Rattle.rb_image.specs.Orders.{LocatedPart, order_of}
use Rattle.rb_image.specs.Splits.{leaf_at}
use Rattle.rb_image.specs.Ways.{leads_below, refusal_of, refused_below}
use Rattle.rb_image.proofs.ExaminedParts.{then_ok}
use Rattle.rb_image.proofs.FallLemmas.{same_Ok}
use Rattle.rb_image.proofs.GatheredFields.{low}
use Rattle.rb_image.proofs.PointerLemmas.{IsPointedOnce, flat_once}
use Rattle.rb_image.proofs.SpotLemmas.{In}
use Rattle.rb_peek.specs.Paths.{is_there, part_bits, part_fault, word_below}
use Rattle.rb_peek.specs.Walks.{Waypoint, layout_at, layout_or_none, leaf_or_none, see}

-- each pointer leads to a lower block of the leaf, and one to each block; and parts begin within their words
pub record IsWell (leaf : Leaf) : Type 0 where
  pub flat : IsFlat leaf
  pub once : IsPointedOnce leaf
  pub low : (r : WordRef) (f : FlatWord) (k : ℕ) (p : Part) → flat_at leaf r ≡ Some f → slice_get f.parts k ≡ Some p → p.o < f.width

abbrev pub AreWell : List Layout → Type 0
AreWell layouts = (t : ℕ) (layout : Layout) (n : ℕ) (leaf : Leaf) → layout_of layouts t ≡ Some layout → slice_get layout.leaves n ≡ Some leaf → IsWell leaf

pub wells : (p : Program) → IsTyped p → Agrees p → AreWell (flat_layouts p)
wells p typed agrees t layout n leaf is at =
    let form = leaf_is_form p t layout n leaf is at in
    record {
      flat = (lawful p agrees typed).flat t layout n leaf is at;
      once = subst IsPointedOnce form.1 (flat_once p.types p.layouts form.0);
      low = low p typed agrees t layout n leaf is at;
    }

module _ (layouts : List Layout) (m : List ImageBlock) (well : AreWell layouts) where
  leaf_found : (layout : Layout) → ((n : ℕ) (leaf : Leaf) → slice_get layout.leaves n ≡ Some leaf → IsWell leaf) → (n : ℕ) (o : Option Leaf) → slice_get layout.leaves n ≡ o
      → IsWell (leaf_or_none o) ⊎ (order_of (leaf_or_none o) ≡ [])
  leaf_found layout each n None is = inr refl
  leaf_found layout each n (Some leaf) is = inl (each n leaf is)

  in_layout : (t : ℕ) (o : Option Layout) → layout_of layouts t ≡ o → (n : ℕ)
      → IsWell (leaf_or_none (slice_get (layout_or_none o).leaves n)) ⊎ (order_of (leaf_or_none (slice_get (layout_or_none o).leaves n)) ≡ [])
  in_layout t None is n = inr refl
  in_layout t (Some layout) is n = leaf_found layout (λ k leaf at. well t layout k leaf is at) n (slice_get layout.leaves n) refl

  -- the leaf of a subvalue that was come to is one of its layout, or none
  pub seen_leaf : (t : ℕ) (ws : List Kept) (s : Waypoint) → ◌≡◌ {A = Result Waypoint ImageFault} (see layouts m t ws) (Ok s) → IsWell s.leaf ⊎ (order_of s.leaf ≡ [])
  seen_leaf t ws s e =
      let r = then_ok (leaf_at (layout_at layouts t).tree m ws) (λ n. Ok (record { ty = t; words = ws; leaf = leaf_or_none (slice_get (layout_at layouts t).leaves n); at = [] })) s e in
      let same = same_Ok (record { ty = t; words = ws; leaf = leaf_or_none (slice_get (layout_at layouts t).leaves r.0); at = [] }) s r.2 in
      subst (λ (x : Waypoint). IsWell x.leaf ⊎ (order_of x.leaf ≡ [])) same (in_layout t (layout_of layouts t) refl r.0)

module _ (m : List ImageBlock) (s : Waypoint) where
  -- where there are no parts, none is refused
  pub no_refusal : order_of s.leaf ≡ [] → (fault : ImageFault) → refused_below m s.leaf s.words (block_addresses m s.leaf s.words) s.at (order_of s.leaf) ≡ Some fault → ⊥
  no_refusal none fault e = let h = sym (ap (refused_below m s.leaf s.words (block_addresses m s.leaf s.words) s.at) none) ∙ e in cc

  -- a part that is there and leads below is one of the words below
  pub below_there : (part : LocatedPart) → is_there (block_addresses m s.leaf s.words) part.block ≡ true → leads_below s.leaf s.at part.part.kind ≡ true
      → In (part_bits m s part) (word_below m s.leaf s.words (block_addresses m s.leaf s.words) s.at part)
  below_there part there leads =
      let both = and_true (is_there (block_addresses m s.leaf s.words) part.block) (leads_below s.leaf s.at part.part.kind) there leads in
      subst (λ (t : Bool). In (part_bits m s part) (if t then part_bits m s part ∷ [] else [])) (sym both) (inl refl)

-- a pointer that is refused is the fault of its part
pub refused_part : (m : List ImageBlock) (leaf : Leaf) (bits : Kept) (kind : Kind) (fault : ImageFault) → refusal_of m leaf bits kind ≡ Some fault → part_fault m leaf bits kind ≡ Some fault
refused_part m leaf bits (Const c) fault e = absurd cc
refused_part m leaf bits (Bits path a) fault e = absurd cc
refused_part m leaf bits (Word path j) fault e = absurd cc
refused_part m leaf bits (Pointer align b) fault e = e
