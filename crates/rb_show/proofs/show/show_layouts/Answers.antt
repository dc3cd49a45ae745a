use Rattle.std.proofs.Common.{◌∙◌, Some, ap, sym}
use Rattle.std.specs.Prelude.{slice_get}
use Rattle.std.proofs.lemmas.Option.{slice_get-get_or}
use Rattle.rb_show.proofs.Words.{short_words}
use Rattle.rb_show.proofs.show.show_layouts.Goals as goal

pub push_layout-requires : goal.push_layout-requires
push_layout-requires c n leaf e =
    let layouts = c.layouts-layout-items.result.now in
    let k = c.loop-layout.layout-index in
    let layout = c.layout-item.result in
    let at = slice_get-get_or layouts k layout c.loop-layout-test.true ∙ ap Some (sym c.layout-item.is) in
    short_words leaf (c.layouts-layout-items.ensures.agree.a4 k layout n leaf (ap (λ ls. slice_get ls k) (sym (c.layouts-layout-items.ensures.same ∙ c.layouts-layout-items.ensures.flat)) ∙ at) e)
