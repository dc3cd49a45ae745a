use Rattle.std.proofs.Common.{◌≡◌, ◌++◌, List, OnOk, ap, sym, subst, ◌∙◌}
use Rattle.std.specs.List.{flat_map}
use Rattle.std.proofs.lemmas.Result.{on_ok_weaker}
use Rattle.rb_core.specs.declared.layout_decl.LayItem.{LayItem}
use Rattle.rb_core.specs.declared.layout_decl.PartDecl.{PartDecl}
use Rattle.rb_layout.specs.Items.{Item, item_lists}
use Rattle.rb_agree.specs.declared.items.Item.TheVariants.{Parts}
use Rattle.rb_agree.specs.Written.{shown_items}
use Rattle.rb_agree.specs.inner.Around.{inside_of}
use Rattle.rb_agree.proofs.Writing.{in-Pointer, shown-push, word-added}
use Rattle.rb_agree.proofs.items.+writing.Goals as goal

pub add_behind-returns-in-Pointer : goal.add_behind-returns-in-Pointer
add_behind-returns-in-Pointer t c =
    subst (λ (xs : List Item). OnOk c.add_items.result (shown_items c.add_items.new.out ≡ shown_items c.args.out.now ++ xs))
    (ap (λ (xs : List LayItem). item_lists xs) c.as_slice.ensures ∙ sym (in-Pointer c.args.part.now c.in-Pointer.field-0 c.in-Pointer.items c.in-Pointer.is)) c.add_items.ensures

pub add_item-returns-in_ok-push-in-Word : goal.add_item-returns-in_ok-push-in-Word
add_item-returns-in_ok-push-in-Word t c =
    on_ok_weaker c.add_inside.result
    (λ rest. word-added c.args.item.now c.in-Word.width c.in-Word.parts c.as_slice.result.now (shown_items c.args.out.now) (shown_items c.push-in-Word.new.self)
    (shown_items c.add_inside.new.out) c.in_ok-written-in-Word.written c.in-Word.is c.as_slice.ensures c.in_ok-written-in-Word.ensures
    (shown-push c.args.out.now c.push-in-Word.new.self (Parts c.in-Word.width c.in_ok-written-in-Word.written) c.in_ok-push-in-Word.ensures.ok)
    (rest ∙ ap (λ (ws : List PartDecl). shown_items c.push-in-Word.new.self ++ flat_map inside_of ws) (c.as_slice-in-Word.ensures ∙ sym c.as_slice.ensures))) c.add_inside.ensures
