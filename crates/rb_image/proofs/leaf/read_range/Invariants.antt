use Rattle.std.proofs.Common.{◌≡◌, ◌+◌, ◌≤◌, drop, map}
use Rattle.rb_image.specs.Sites.{kept_of}
use Rattle.rb_image.specs.Splits.{range_at, range_from}
use Rattle.rb_image.proofs.leaf.read_range.Given as goal

abbrev pub invariant-loop-step : goal.invariant-loop-step
invariant-loop-step g l = record {
  bits : range_at l.image.blocks (map (kept_of l.image) l.sites) l.loc ≡ range_from l.image.blocks l.range (drop l.step-index l.loc.steps);
  least : l.fn.steps.taken ≤ l.steps.taken;
  most : l.steps.taken ≤ l.fn.steps.taken + (1 + l.step-index);
}
