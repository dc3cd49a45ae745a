-- The shape and the root words of derived layouts.
use Rattle.std.proofs.Common.{◌≡◌, ℕ, zero, suc, [], ◌∷◌, Some, ap, subst, ◌∙◌}
use Rattle.std.specs.Prelude.{slice_get}
use Rattle.std.proofs.lemmas.Option.{same_Some}
use Rattle.rb_layout.specs.declared.layout.Leaf.{Leaf}
use Rattle.rb_layout.specs.A1.{IsShapeWidth}
use Rattle.rb_layout.specs.A2.{widths_of}
use Rattle.rb_auto.specs.Items.{form_width}
use Rattle.rb_auto.specs.inner.Rules.{HasAShape, HasItsRoot}
use Rattle.rb_auto.proofs.Leaves.{leaf-is, root-is}

pub one-width : (w i x : ℕ) → IsShapeWidth w → slice_get (w ∷ []) i ≡ Some x → IsShapeWidth x
one-width w zero x h e = subst IsShapeWidth (same_Some w x e) h
one-width w (suc i) x h e = absurd cc

pub has-a-shape : HasAShape
has-a-shape p decls rooms t form fits i x e = one-width (form_width form) i x fits.width e

pub has-its-root : HasItsRoot
has-its-root p decls rooms t form n leaf e =
    let c = leaf-is p rooms t form decls n leaf e in
    ap (λ (l : Leaf). widths_of l.root) c.2 ∙ ap widths_of (root-is p rooms t form decls n c.0)
