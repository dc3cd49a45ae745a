use Rattle.std.proofs.Common.{refl, sym, append-nil}
use Rattle.rb_edge.proofs.Histories.{took_none}
use Rattle.rb_lines.specs.Delivery.{error_line, error_failed}
use Rattle.rb_lines.proofs.delivery.refuse.Goals as goal

pub returns-in-Ok : goal.returns-in-Ok
returns-in-Ok g c =
    error_line c.number.ensures (took_none (g.O.Sink.account c.args.out.now), λ told. sym (append-nil (g.O.Sink.taken c.args.out.now)))
    (c.in-Ok.ensures.said, c.in-Ok.ensures.all)

pub returns-in-Err : goal.returns-in-Err
returns-in-Err g c =
    error_failed refl (took_none (g.O.Sink.account c.args.out.now), λ told. sym (append-nil (g.O.Sink.taken c.args.out.now)))
    (record { rose = c.in-Err.ensures.cause; front = c.in-Err.ensures.front })
