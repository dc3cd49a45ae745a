use Rattle.std.proofs.Common.{◌≡◌, Result, sym, subst, ap, ◌∙◌}
use Rattle.rb_image_text.specs.declared.fault.ImageFault.{ImageFault}
use Rattle.rb_image.specs.Given.{IsGiven}
use Rattle.rb_peek.specs.Views.{LeafPosition, settled_at, settled_here, taken_apart, words_here}
use Rattle.rb_peek.specs.inner.Standing.{come_to, position_shown}
use Rattle.rb_peek.proofs.arrival.settle.Goals as goal

pub words_here-requires-clause-shown : goal.words_here-requires-clause-shown
words_here-requires-clause-shown c = c.view.ensures.shown c.args.image.now.blocks c.requires.read

pub returns-clause-come : goal.returns-clause-come
returns-clause-come c =
    let layouts = c.args.agreed.now.layouts in
    let m = c.args.image.now.blocks in
    let x = come_to c.args.arrival in
    let t = c.in-Some.ty in
    let words = c.in_ok-words-in-Some.ensures ∙ ap (λ ls. words_here ls m (position_shown c.view.result) t) c.layouts.ensures.same ∙ ap (λ (y : LeafPosition). words_here layouts m y t) c.view.ensures.same in
    let is : settled_here layouts m x ≡ taken_apart layouts t c.in_ok-words-in-Some.words.items =
    ap (settled_at layouts m x) (sym c.in-Some.ensures) ∙ ap (taken_apart layouts t) (sym words) in
    subst (λ (d : Result LeafPosition ImageFault). IsGiven come_to d c.take_apart.result) (sym is) c.take_apart.ensures.come
