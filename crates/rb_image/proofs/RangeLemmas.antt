-- Locations of splits, step by step: each step leads on to the next range, or is refused.
use Rattle.std.proofs.Common.{◌≡◌, ℕ, ◌+◌, ◌<◌, drop, length, List, ◌∷◌, Result, Ok, sym, ap, ◌∙◌}
use Rattle.std.specs.Prelude.{slice_index_or}
use Rattle.std.proofs.lemmas.Option.{slice_get-get_or}
use Rattle.rb_core.specs.declared.layout_decl.Step.{Step}
use Rattle.rb_image_text.specs.declared.fault.ImageFault.{ImageFault}
use Rattle.rb_image_text.specs.declared.image.ImageBlock.{ImageBlock}
use Rattle.rb_image.specs.declared.kept.Kept.{Kept}
use Rattle.rb_image.specs.Splits.{and_then, range_from, range_of, step_over}
use Rattle.rb_image.proofs.DropLemmas.{drop_item}

pub drop_at : {A : Type 0} (xs : List A) (i : ℕ) (d : A) → i < length xs → drop i xs ≡ slice_index_or xs i d ∷ drop (i + 1) xs
drop_at xs i d lt = drop_item xs i (slice_index_or xs i d) (slice_get-get_or xs i d lt)

abbrev pub Ranged : Type 0
Ranged = Result Kept ImageFault

-- a step more
module _ (m : List ImageBlock) (range : Kept) (steps items : List Step) (i : ℕ) (d : Step) (same : items ≡ steps) (lt : i < length items) where
  abbrev s : Step
  s = slice_index_or items i d

  pub steps_left : drop i steps ≡ s ∷ drop (i + 1) steps
  steps_left = ap (drop i) (sym same) ∙ drop_at items i d lt ∙ ap (λ ss. s ∷ drop (i + 1) ss) same

  pub range_left : (r : Ranged) → step_over m range s ≡ r → range_from m range (drop i steps) ≡ and_then r (λ w. range_from m (range_of w s.o s.l) (drop (i + 1) steps))
  range_left r is = ap (range_from m range) steps_left ∙ ap (λ (x : Ranged). and_then x (λ w. range_from m (range_of w s.o s.l) (drop (i + 1) steps))) is

  pub range_more : (due : Ranged) (w new : Kept) → due ≡ range_from m range (drop i steps) → ◌≡◌ {A = Ranged} (step_over m range s) (Ok w) → new ≡ range_of w s.o s.l → due ≡ range_from m new (drop (i + 1) steps)
  range_more due w new before is is_new = before ∙ range_left (Ok w) is ∙ ap (λ r. range_from m r (drop (i + 1) steps)) (sym is_new)
