use Rattle.std.proofs.Common.{◌≡◌, ◌+◌, ◌≤◌, ◌++◌, drop, map}
use Rattle.rb_image.specs.Sites.{kept_of}
use Rattle.rb_image.proofs.leaf_words.read_sites.Given as goal

abbrev pub invariant-loop-site : goal.invariant-loop-site
invariant-loop-site g l = record {
  words : map (kept_of l.image) l.sites ≡ l.found.items ++ map (kept_of l.image) (drop l.site-index l.sites);
  least : l.fn.steps.taken ≤ l.steps.taken;
  most : l.steps.taken ≤ l.fn.steps.taken + l.site-index;
}
