use Rattle.std.proofs.Common.{Some, sym, ap, ◌∙◌}
use Rattle.std.proofs.lemmas.Option.{slice_get-get_or}
use Rattle.rb_facts.proofs.spots.has_constructor.Goals as goal

pub returns-in-Con : goal.returns-in-Con
returns-in-Con c e =
    let at = slice_get-get_or c.args.subs.now c.loop-sub.sub-index c.sub-item.result c.loop-sub-test.true ∙ ap Some (sym c.sub-item.is) in
    (c.loop-sub.sub-index, c.in-Con.field-0, c.in-Con.field-1, c.in-Con.field-2, at ∙ ap Some c.in-Con.is)
