use Rattle.std.proofs.Common.{◌∙◌}
use Rattle.rb_names.proofs.TablesLemmas.{names-next}
use Rattle.rb_names.proofs.tables.type_names.Goals as goal

pub loop-item-preserved : goal.loop-item-preserved
loop-item-preserved c name =
    names-next c.args.items.now c.loop-item.item-index c.item-item.result name _ _ c.loop-item-test.true c.item-item.is (c.in_ok-add_type_name.ensures name)
    ∙ c.loop-item.invariant name
