-- Layouts that agree are tidy, and a leaf's words are among those of its layout.
use Rattle.std.proofs.Common.{◌≡◌, ℕ, zero, suc, ◌≤◌, length, List, [], ◌∷◌, Some, sym, ap, ◌∙◌, arith}
use Rattle.std.specs.Prelude.{slice_get}
use Rattle.std.specs.List.{sum_by}
use Rattle.std.proofs.lemmas.List.{length-map}
use Rattle.std.proofs.lemmas.List.Sums.{sum_by-cons}
use Rattle.std.proofs.lemmas.Option.{same_Some}
use Rattle.rb_layout.specs.declared.layout.FlatWord.{FlatWord}
use Rattle.rb_layout.specs.declared.layout.Leaf.{Leaf}
use Rattle.rb_image.specs.Spans.{word_span}
use Rattle.rb_image.specs.Visits.{LayoutsAreTidy}
use Rattle.rb_image.proofs.LeafNumbers.{leaf_there}
use Rattle.rb_image.proofs.NarrowLeaves.{leaves_are_narrow}

pub layouts_are_tidy : LayoutsAreTidy
layouts_are_tidy p typed agrees t layout is = record {
  leads = λ m ws n e. leaf_there m ws p agrees t layout is n e;
  rooted = λ n leaf at. sym (length-map leaf.root (λ (f : FlatWord). f.width)) ∙ ap length (agrees.a2 t layout n leaf is at);
  readable = λ n leaf at. (leaves_are_narrow p typed agrees t layout n leaf is at).0;
  narrow = λ n leaf at. (leaves_are_narrow p typed agrees t layout n leaf is at).1;
}

pub span_among : (leaves : List Leaf) (n : ℕ) (leaf : Leaf) → slice_get leaves n ≡ Some leaf → word_span leaf ≤ sum_by word_span leaves
span_among [] n leaf is = absurd cc
span_among (x ∷ xs) zero leaf is =
    let same = ap word_span (same_Some x leaf is) in let more = sum_by-cons word_span x xs in omega (arith, same, more)
span_among (x ∷ xs) (suc n) leaf is = let rest = span_among xs n leaf is in let more = sum_by-cons word_span x xs in omega (arith, rest, more)
