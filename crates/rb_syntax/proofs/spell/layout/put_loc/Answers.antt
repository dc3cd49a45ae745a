use Rattle.std.proofs.Common.{map}
use Rattle.rb_syntax.specs.Written.{each}
use Rattle.rb_syntax.specs.Spelling.{range_written, loc_step_written}
use Rattle.rb_syntax.proofs.spell.layout.put_loc.Goals as goal

pub returns : goal.returns
returns c rest h =
    let loc = c.args.loc.now in
    let steps = each (map loc_step_written c.as_slice.result.now) rest in
    let all = c.in_ok-put_num.ensures (range_written loc.o loc.l steps) (c.in_ok-put_range.ensures steps (c.in_ok-put_each.ensures rest h)) in
    rw (← c.as_slice.ensures) all
