use Rattle.std.proofs.Common.{get_or, sym, take, drop, length, ◌-◌}
use Rattle.rb_decide.proofs.Building.{split-rest, get-same}
use Rattle.rb_facts.proofs.Following.{no-item}
use Rattle.rb_facts.proofs.Shown.{below_option, sub_here}
use Rattle.rb_facts.proofs.threading.+sub_at.Goals as goal

pub returns-in_default : goal.returns-in_default
returns-in_default t c = rw (no-item c.args.position.now c.in_default.len_below) (sub_here c.args.pat.now)

pub returns-in_ok-sub-in-Con : goal.returns-in_ok-sub-in-Con
returns-in_ok-sub-in-Con t c =
    let first = get_or c.args.position.now 0 0 in
    let whole = split-rest c.args.position.now first c.in-len1-up.len_at_least (get-same c.args.position.now 0 0 first c.in-len1-up.len_at_least) in
    rw (c.in-Con.is, whole) (below_option c.in-Con.field-0 c.in-Con.field-1 c.in-Con.subs first (take (length c.args.position.now - 1) (drop 1 c.args.position.now)) c.in_ok-sub-in-Con.sub.now c.sub_at.result (sym c.in_ok-sub-in-Con.ensures.value) c.sub_at.ensures)
