use Rattle.std.proofs.Common.{List, [], ℕ, false, true, ap, ◌∙◌}
use Rattle.rb_agree.specs.declared.runs.Run.{Run}
use Rattle.rb_agree.specs.inner.Gathered.{run_there}
use Rattle.rb_agree.specs.inner.Held.{part_runs}
use Rattle.rb_agree.proofs.Gathering.{bits-there, call-gathered, const-none, gathered-as, none-gathered, word-there}
use Rattle.rb_agree.proofs.runs.add_part.Goals as goal

pub returns-in-Const : goal.returns-in-Const
returns-in-Const c =
    gathered-as c.args.places.now (λ ty path. []) (λ ty path. part_runs ty path c.args.part.now) c.args.rows.now c.args.rows.now
    (const-none c.args.part.now c.in-Const.field-0 c.in-Const.is) (none-gathered c.args.places.now c.args.rows.now)

pub returns-in-Bits : goal.returns-in-Bits
returns-in-Bits c =
    let run : Run = record { first = c.in-Bits.first; count = c.args.part.now.l } in
    call-gathered c.args.places.now c.add_at.result (run_there c.as_slice.result.now false run) (λ ty path. part_runs ty path c.args.part.now) c.args.rows.now c.add_at.new.rows
    (λ ty path. ap (λ (q : List ℕ). run_there q false run ty path) c.as_slice.ensures ∙ bits-there c.args.part.now c.in-Bits.path c.in-Bits.first c.in-Bits.is ty path) c.add_at.ensures

pub returns-in-Word : goal.returns-in-Word
returns-in-Word c =
    let run : Run = record { first = c.in-Word.number; count = 1 } in
    call-gathered c.args.places.now c.add_at-in-Word.result (run_there c.as_slice-in-Word.result.now true run) (λ ty path. part_runs ty path c.args.part.now) c.args.rows.now c.add_at-in-Word.new.rows
    (λ ty path. ap (λ (q : List ℕ). run_there q true run ty path) c.as_slice-in-Word.ensures ∙ word-there c.args.part.now c.in-Word.path c.in-Word.number c.in-Word.is ty path) c.add_at-in-Word.ensures
