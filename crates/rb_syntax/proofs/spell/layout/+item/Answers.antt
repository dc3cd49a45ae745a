use Rattle.std.proofs.Common.{◌≡◌, ◌∷◌, ◌∙◌, ◌-◌, ℕ, suc, map, ap, sym as turned, arith}
use Rattle.rb_core.specs.declared.layout_decl.LayItem.{LayItem}
use Rattle.rb_core.specs.declared.layout_decl.LayItem.TheOpen as item
use Rattle.rb_core.specs.declared.layout_decl.PartKind.{PartKind}
use Rattle.rb_syntax.specs.declared.token.Symbol.TheVariants as symbol
use Rattle.rb_syntax.specs.Written.{tokens_in, any_with}
use Rattle.rb_syntax.specs.Spelling.{lay_item_step, lay_item_written, part_written, kind_step, kind_written, at_level, comma, num, sym}
use Rattle.rb_syntax.proofs.ListLemmas.{parts_from, part-first, part-later}
use Rattle.rb_syntax.proofs.LayoutSpelling.{item-Word, kind-Pointer, part-is}
use Rattle.rb_syntax.proofs.spell.layout.+item.Goals as goal

pub put_item-returns-in_ok-put_word-in-Word : goal.put_item-returns-in_ok-put_word-in-Word
put_item-returns-in_ok-put_word-in-Word t c l rest h =
    let opened = sym symbol.OpenBrace ∷ any_with comma (at_level l (map part_written c.as_slice.result.now)) (sym symbol.CloseBrace ∷ rest) in
    let e : lay_item_written c.args.item.now l rest ≡ lay_item_step (item.LayItem::Word c.in-Word.bits (map part_written c.in-Word.parts)) l rest =
    ap (λ (i : LayItem). lay_item_written i l rest) c.in-Word.is ∙ item-Word c.in-Word.bits c.in-Word.parts l rest in
    let all = c.in_ok-put_word-in-Word.ensures (num c.in-Word.bits ∷ opened) (c.in_ok-put_num-in-Word.ensures opened (c.in_ok-put_parts-in-Word.ensures l rest h)) in
    rw e (rw (← c.as_slice.ensures) all)

pub put_kind-returns-in_ok-put_symbol-in-Pointer : goal.put_kind-returns-in_ok-put_symbol-in-Pointer
put_kind-returns-in_ok-put_symbol-in-Pointer t c l rest h =
    let opened = sym symbol.OpenBrace ∷ any_with comma (at_level (suc l) (map lay_item_written c.as_slice-in-Pointer.result.now)) (sym symbol.CloseBrace ∷ rest) in
    let e : kind_written c.args.kind.now l rest ≡ kind_step (item.Pointer c.in-Pointer.align (map lay_item_written c.in-Pointer.items)) l rest =
    ap (λ (k : PartKind). kind_written k l rest) c.in-Pointer.is ∙ kind-Pointer c.in-Pointer.align c.in-Pointer.items l rest in
    let all = c.in_ok-put_symbol-in-Pointer.ensures (num c.in-Pointer.align ∷ opened) (c.in_ok-put_num-in-Pointer.ensures opened (c.in_ok-put_items-in-Pointer.ensures (suc l) rest h)) in
    rw e (rw (← c.as_slice-in-Pointer.ensures) all)

pub put_items-loop-i-preserved : goal.put_items-loop-i-preserved
put_items-loop-i-preserved t c l rest h =
    let next : c.loop-i.i ≡ suc (c.loop-i.i - 1) = omega arith in
    let others = parts_from lay_item_written l c.args.items.now c.loop-i.i rest in
    c.in_ok-put_item.ensures l others (c.loop-i.invariant l rest h)
    ∙ ap tokens_in (part-first lay_item_written l c.args.items.now (c.loop-i.i - 1) c.loop-i.i c.index-items-i.result rest next (omega arith) c.index-items-i.is (omega arith))

pub put_items-loop-i-preserved-in-Continue-branch-3 : goal.put_items-loop-i-preserved-in-Continue-branch-3
put_items-loop-i-preserved-in-Continue-branch-3 t c l rest h =
    let next : c.loop-i.i ≡ suc (c.loop-i.i - 1) = omega arith in
    let others = parts_from lay_item_written l c.args.items.now c.loop-i.i rest in
    c.in_ok-put_symbol-2.ensures (lay_item_written c.index-items-i.result l others) (c.in_ok-put_item.ensures l others (c.loop-i.invariant l rest h))
    ∙ ap tokens_in (part-later lay_item_written l c.args.items.now (c.loop-i.i - 1) c.loop-i.i c.index-items-i.result rest next (omega arith) c.index-items-i.is (omega arith))

pub put_items-returns : goal.put_items-returns
put_items-returns t c l rest h =
    let z : c.loop-i.i ≡ 0 = omega arith in
    let closed = sym symbol.CloseBrace ∷ rest in
    c.in_ok-put_symbol-3.ensures (any_with comma (at_level l (map lay_item_written c.args.items.now)) closed)
    (c.loop-i.invariant l closed (c.in_ok-put_symbol.ensures rest h) ∙ ap (λ (i : ℕ). tokens_in (parts_from lay_item_written l c.args.items.now i closed)) z)

pub put_parts-loop-i-preserved : goal.put_parts-loop-i-preserved
put_parts-loop-i-preserved t c l rest h =
    let next : c.loop-i.i ≡ suc (c.loop-i.i - 1) = omega arith in
    let part = c.index-parts-i.result in
    let others = parts_from part_written l c.args.parts.now c.loop-i.i rest in
    c.in_ok-put_range.ensures (kind_written part.kind l others) (c.in_ok-put_kind.ensures l others (c.loop-i.invariant l rest h))
    ∙ ap tokens_in (turned (part-is part l others)
    ∙ part-first part_written l c.args.parts.now (c.loop-i.i - 1) c.loop-i.i part rest next (omega arith) c.index-parts-i.is (omega arith))

pub put_parts-loop-i-preserved-in-Continue-branch-4 : goal.put_parts-loop-i-preserved-in-Continue-branch-4
put_parts-loop-i-preserved-in-Continue-branch-4 t c l rest h =
    let next : c.loop-i.i ≡ suc (c.loop-i.i - 1) = omega arith in
    let part = c.index-parts-i.result in
    let others = parts_from part_written l c.args.parts.now c.loop-i.i rest in
    let one = c.in_ok-put_range.ensures (kind_written part.kind l others) (c.in_ok-put_kind.ensures l others (c.loop-i.invariant l rest h))
    ∙ ap tokens_in (turned (part-is part l others)) in
    c.in_ok-put_symbol-2.ensures (part_written part l others) one
    ∙ ap tokens_in (part-later part_written l c.args.parts.now (c.loop-i.i - 1) c.loop-i.i part rest next (omega arith) c.index-parts-i.is (omega arith))

pub put_parts-returns : goal.put_parts-returns
put_parts-returns t c l rest h =
    let z : c.loop-i.i ≡ 0 = omega arith in
    let closed = sym symbol.CloseBrace ∷ rest in
    c.in_ok-put_symbol-3.ensures (any_with comma (at_level l (map part_written c.args.parts.now)) closed)
    (c.loop-i.invariant l closed (c.in_ok-put_symbol.ensures rest h) ∙ ap (λ (i : ℕ). tokens_in (parts_from part_written l c.args.parts.now i closed)) z)
