use Rattle.rb_fetch.proofs.Meeting.{can_meet, ways_meet}
use Rattle.rb_fetch.proofs.construct.emit_ways.Goals as goal

pub close_match-requires : goal.close_match-requires
close_match-requires c =
    rw (c.as_slice-2.ensures, c.as_slice-3.ensures, c.as_slice-4.ensures)
    (can_meet c.requires.holes.0 c.args.choices c.args.body.now c.emit_arms.new.body c.in_ok-arms.arms.joins c.in_ok-arms.arms.starts c.requires.holes.1 (rw c.as_slice.ensures at c.in_ok-arms.ensures.are))

pub returns : goal.returns
returns c = record {
  meets = ways_meet c.args.con.ty c.args.leaves.now c.args.choices c.args.body.now c.emit_arms.new.body c.close_match.new.body c.in_ok-arms.arms.joins c.in_ok-arms.arms.starts c.in-Some.slots
      (rw (c.as_slice.ensures, c.in-Some.is) at c.in_ok-arms.ensures.emits) (rw c.as_slice.ensures at c.in_ok-arms.ensures.are)
      (rw (c.as_slice-2.ensures, c.as_slice-3.ensures, c.as_slice-4.ensures) at c.in_ok-close_match.ensures.ok);
}
