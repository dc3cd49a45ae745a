use Rattle.std.proofs.Common.{◌≡◌, ◌&&◌, ◌==◌, true, false, sym, ap, ◌∙◌}
use Rattle.rb_layout.specs.Flattening.{same_path}
use Rattle.rb_image.specs.Parts.{is_field_word}
use Rattle.rb_image.proofs.below.holds.Goals as goal

pub returns-then-eq : goal.returns-then-eq
returns-then-eq c =
    let same : same_path c.in-Word.own c.args.path.now ≡ true = rw c.as_slice.ensures at (sym c.eq.ensures ∙ c.if-eq.true) in
    sym (ap (λ k. is_field_word k c.args.path.now c.args.number) c.in-Word.is ∙ ap (λ b. b && (c.in-Word.j == c.args.number)) same)

pub returns-else-eq : goal.returns-else-eq
returns-else-eq c =
    let same : same_path c.in-Word.own c.args.path.now ≡ false = rw c.as_slice.ensures at (sym c.eq.ensures ∙ c.if-eq.false) in
    c.if-eq.false ∙ sym (ap (λ k. is_field_word k c.args.path.now c.args.number) c.in-Word.is ∙ ap (λ b. b && (c.in-Word.j == c.args.number)) same)
