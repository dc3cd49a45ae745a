use Rattle.std.proofs.Common.{refl, sym, append-nil}
use Rattle.rb_edge.proofs.Histories.{took_none}
use Rattle.rb_lines.specs.Delivery.{output, output_failed}
use Rattle.rb_lines.proofs.delivery.print.Goals as goal

pub returns-in-Ok : goal.returns-in-Ok
returns-in-Ok g c =
    output refl (c.in-Ok.ensures.said, c.in-Ok.ensures.all) (took_none (g.E.Sink.account c.args.err.now), λ told. sym (append-nil (g.E.Sink.taken c.args.err.now)))

pub returns-in-Err : goal.returns-in-Err
returns-in-Err g c = output_failed refl (record { rose = c.in-Err.ensures.cause; front = c.in-Err.ensures.front }) c.try_write.ensures
