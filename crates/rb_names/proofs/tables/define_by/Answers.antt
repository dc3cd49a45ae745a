use Rattle.std.proofs.Common.{Ok, sym, ap}
use Rattle.rb_names.specs.Definitions.{defined_twice, tables_of}
use Rattle.rb_names.proofs.AnswerLemmas.{Answers-fails}
use Rattle.rb_names.proofs.TablesLemmas.{twice-refused}
use Rattle.rb_names.proofs.tables.define_by.Goals as goal

pub returns-in_err-define_items : goal.returns-in_err-define_items
returns-in_err-define_items c =
    Answers-fails _ _ _ _ c.from_residual.ensures.1 c.in_err-define_items.ensures.again
    (twice-refused (defined_twice c.args.items.now) (λ done. Ok (tables_of c.args.items.now)))

pub returns : goal.returns
returns c = rw c.in_ok-define_items.ensures.once (ap Ok (sym c.in_ok-define_items.ensures.tables))
