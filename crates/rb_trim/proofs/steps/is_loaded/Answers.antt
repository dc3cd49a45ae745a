use Rattle.std.proofs.Common.{rules, sym}
use Rattle.rb_trim.proofs.Facts.{loaded_known}
use Rattle.rb_trim.proofs.steps.is_loaded.Goals as goal

pub returns-then-eq : goal.returns-then-eq
returns-then-eq c = λ t.
    loaded_known c.args.facts.now c.args.base c.source-from.result c.args.offset c.args.width c.loop-k.k c.in-Some.fact c.source-from.ensures (sym c.in-Some.ensures) (search rules)
