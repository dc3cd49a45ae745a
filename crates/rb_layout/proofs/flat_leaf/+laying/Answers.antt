use Rattle.std.proofs.Common.{Some, [], ap, sym, subst, ◌∙◌}
use Rattle.std.proofs.lemmas.Option.{slice_get-get_or}
use Rattle.rb_layout.specs.Positions.{open_positions}
use Rattle.rb_layout.specs.Flattening.{item_laid, items_laid, part_laid}
use Rattle.rb_layout.specs.inner.Laying.{Lays}
use Rattle.rb_layout.proofs.LayingLemmas.{laid_on, pointed_laid}
use Rattle.rb_layout.proofs.flat_leaf.+laying.Goals as goal

pub flat_items-loop-item-preserved : goal.flat_items-loop-item-preserved
flat_items-loop-item-preserved t c =
    laid_on (item_laid c.args.program.now.layouts (open_positions c.args.program.now.types c.args.prov.now)) c.args.items.now c.loop-item.item-index c.item-item.result _
    c.loop-item.words c.push_item.new.words c.loop-item.blocks c.push_item.new.blocks (slice_get-get_or c.args.items.now c.loop-item.item-index _ c.loop-item-test.true ∙ ap Some (sym c.item-item.is))
    c.in_ok-push_item.ensures c.loop-item.invariant

pub flat_parts-loop-part-preserved : goal.flat_parts-loop-part-preserved
flat_parts-loop-part-preserved t c =
    laid_on (part_laid c.args.program.now.layouts (open_positions c.args.program.now.types c.args.prov.now)) c.args.parts.now c.loop-part.part-index c.part-item.result _
    c.loop-part.flat c.push_part.new.flat c.loop-part.blocks c.push_part.new.blocks (slice_get-get_or c.args.parts.now c.loop-part.part-index _ c.loop-part-test.true ∙ ap Some (sym c.part-item.is))
    c.in_ok-push_part.ensures c.loop-part.invariant

pub flat_kind-returns-in_ok-number-in-Pointer : goal.flat_kind-returns-in_ok-number-in-Pointer
flat_kind-returns-in_ok-number-in-Pointer t c =
    pointed_laid c.args.program.now.layouts (open_positions c.args.program.now.types c.args.prov.now) c.args.kind.now c.in-Pointer.align c.in-Pointer.items
    c.in_ok-words-in-Pointer.words c.args.blocks.now c.flat_items.new.blocks c.push_block.new.blocks c.in_ok-number-in-Pointer.number c.in-Pointer.is
    (subst (λ xs. Lays [] c.in_ok-words-in-Pointer.words c.args.blocks.now c.flat_items.new.blocks (items_laid c.args.program.now.layouts (open_positions c.args.program.now.types c.args.prov.now) xs)) c.as_slice.ensures c.in_ok-words-in-Pointer.ensures)
    c.in_ok-number-in-Pointer.ensures.number c.in_ok-number-in-Pointer.ensures.blocks
