-- A value that is taken apart: the leaf to which its splits lead, or their fault.
use Rattle.std.proofs.Common.{◌≡◌, ℕ, List, [], Option, Some, Result, Ok, Err, ap, ◌∙◌}
use Rattle.std.specs.Prelude.{slice_get}
use Rattle.rb_layout.specs.declared.layout.Layout.{Layout}
use Rattle.rb_layout.specs.declared.layout.Leaf.{Leaf}
use Rattle.rb_layout.specs.Positions.{layout_of}
use Rattle.rb_image_text.specs.declared.fault.ImageFault.{ImageFault}
use Rattle.rb_image.specs.declared.kept.Kept.{Kept}
use Rattle.rb_image.specs.Parts.{addresses_of}
use Rattle.rb_image.specs.Splits.{and_then, leaf_at}
use Rattle.rb_peek.specs.Views.{LeafPosition, from_root, taken_apart}
use Rattle.rb_peek.specs.Walks.{layout_at, layout_or_none, leaf_or_none}

module _ (layouts : List Layout) (t : ℕ) (ws : List Kept) (layout : Layout) (is : layout_of layouts t ≡ Some layout) where
  layout_is : layout_at layouts t ≡ layout
  layout_is = ap layout_or_none is

  abbrev from_number : Layout → ℕ → Result LeafPosition ImageFault
  from_number l n = let leaf = leaf_or_none (slice_get l.leaves n) in and_then (addresses_of [] leaf ws) (λ none. Ok (from_root t ws leaf))

  there : taken_apart layouts t ws ≡ and_then (leaf_at layout.tree [] ws) (from_number layout)
  there = ap (λ (l : Layout). and_then (leaf_at l.tree [] ws) (from_number l)) layout_is

  -- a fault of its splits
  pub splits_fault : (f : ImageFault) → ◌≡◌ {A = Result ℕ ImageFault} (leaf_at layout.tree [] ws) (Err f) → taken_apart layouts t ws ≡ Err f
  splits_fault f fault = there ∙ ap (λ (r : Result ℕ ImageFault). and_then r (from_number layout)) fault

  -- the leaf to which they lead
  pub leads_on : (n : ℕ) (leaf : Leaf) → ◌≡◌ {A = Result ℕ ImageFault} (leaf_at layout.tree [] ws) (Ok n) → slice_get layout.leaves n ≡ Some leaf
      → taken_apart layouts t ws ≡ and_then (addresses_of [] leaf ws) (λ none. Ok (from_root t ws leaf))
  leads_on n leaf leads at =
      there ∙ ap (λ (r : Result ℕ ImageFault). and_then r (from_number layout)) leads
      ∙ ap (λ (o : Option Leaf). and_then (addresses_of [] (leaf_or_none o) ws) (λ none. Ok (from_root t ws (leaf_or_none o)))) at
