use Rattle.std.proofs.Common.{Bool, ◌+◌, drop, length, refl, sym, ap, ◌∙◌}
use Rattle.std.specs.Prelude.{if◌then◌else◌}
use Rattle.std.proofs.lemmas.Option.{slice_get_read}
use Rattle.rb_layout.specs.Flattening.{same_path}
use Rattle.rb_image.proofs.DropLemmas.{drop_item}
use Rattle.rb_peek.specs.Rebuilds.{words_at_path}
use Rattle.rb_peek.proofs.pack.words_in.Goals as goal

pub loop-field-preserved : goal.loop-field-preserved
loop-field-preserved c =
    let fields = c.args.fields.now in
    let path = c.args.path.now in
    let k = c.loop-field.field-index in
    let field = c.field-item.result in
    let is = slice_get_read fields (length fields) k field refl c.loop-field-test.true c.field-item.is in
    let other = ap (λ p. same_path p path) (sym c.as_slice.ensures) ∙ sym c.same_path.ensures ∙ c.if-same_path.false in
    c.loop-field.invariant ∙ ap (λ fs. words_at_path fs path) (drop_item fields k field is)
    ∙ ap (λ (t : Bool). if t then field.words else words_at_path (drop (k + 1) fields) path) other
