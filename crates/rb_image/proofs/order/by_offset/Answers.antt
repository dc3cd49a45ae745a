use Rattle.std.proofs.Common.{◌+◌, ◌-◌, ◌++◌, sym, ap, ◌∙◌, append_assoc}
use Rattle.rb_image.specs.Orders.{beginning_at, beginning_from}
use Rattle.rb_image.specs.inner.Viewing.{parts_of}
use Rattle.rb_image.proofs.OrderLemmas.{from_more}
use Rattle.rb_image.proofs.order.by_offset.Goals as goal

pub loop-o-preserved : goal.loop-o-preserved
loop-o-preserved c =
    let f = c.args.word.now in
    let o = c.loop-o.o in
    let rest = beginning_from f.parts (o + 1) (f.width - (o + 1)) in
    c.loop-o.invariant ∙ ap (λ ys. parts_of c.loop-o.found.items ++ ys) (from_more f.parts o f.width c.loop-o-test.true)
    ∙ sym (append_assoc (parts_of c.loop-o.found.items) (beginning_at f.parts o) rest)
    ∙ ap (λ zs. zs ++ rest) (sym (rw c.as_slice.ensures at c.in_ok-add_beginning.ensures))
