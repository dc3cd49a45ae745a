use Rattle.std.proofs.Common.{◌≡◌, ◌+◌, ◌≤◌, drop, map}
use Rattle.rb_image.specs.Sites.{kept_of}
use Rattle.rb_peek.specs.Walks.{ArePassed, steps, steps_span, walk_span, end_of_path, where_of}
use Rattle.rb_peek.proofs.walk.walk_along.Given as goal

abbrev pub invariant-loop-number : goal.invariant-loop-number
invariant-loop-number g l =
    let types = l.agreed.covered.program.types in
    let layouts = l.agreed.layouts in
    let m = l.image.blocks in
    let ws = map (kept_of l.image) l.fn.sites.items in record {
      walk : end_of_path types layouts m l.ty ws l.path ≡ steps types layouts m l.number (where_of l.walk) (drop l.number l.path);
      passed : ArePassed l.image l.walk;
      least : l.fn.steps.taken ≤ l.steps.taken;
      most : l.steps.taken + steps_span types layouts m l.number (where_of l.walk) (drop l.number l.path) ≤ l.fn.steps.taken + walk_span types layouts m l.ty ws l.path;
    }
