use Rattle.rb_fetch.proofs.asking.find_leaves.Goals as goal

pub returns : goal.returns
returns c = record {
  sound = record { typed = rw c.covered.ensures.same at c.program-typed.ensures.typed; flat = c.layouts.ensures.flat; agrees = c.layouts.ensures.agree };
  has = rw c.layouts.ensures.same at c.in-Some.ensures;
  finds = c.in_ok-holes.ensures.leaf;
  are_holes = c.in_ok-holes.ensures.holes;
  one_way = c.in_ok-holes.ensures.ways;
  grows = c.in_ok-holes.ensures.grows;
}
