-- Rows of borrowed patterns, in two pieces.
use Rattle.std.proofs.Common.{◌≡◌, List, [], ◌∷◌, ◌++◌, ◌&&◌, refl, sym, ap, ◌∙◌}
use Rattle.std.proofs.Math.Bool.{and_assoc}
use Rattle.std.specs.Borrow.{Bor}
use Rattle.rb_core.specs.declared.pattern.Pat.{Pat, out-Pat}
use Rattle.rb_matrix.specs.inner.Borrowed.{patterns_of}
use Rattle.rb_matrix.specs.inner.Open.{layer_open, is_open}

pub open_borrowed : (ps qs : List (Bor Pat)) → is_open (patterns_of (ps ++ qs)) ≡ (is_open (patterns_of ps) && is_open (patterns_of qs))
open_borrowed [] qs = refl
open_borrowed (p ∷ ps) qs =
    ap (λ b. layer_open (out-Pat p.now) && b) (open_borrowed ps qs)
    ∙ sym (and_assoc (layer_open (out-Pat p.now)) (is_open (patterns_of ps)) (is_open (patterns_of qs)))
