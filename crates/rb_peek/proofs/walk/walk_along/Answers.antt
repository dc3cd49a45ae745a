use Rattle.std.proofs.Common.{◌+◌, drop, map, sym, subst, ap, ◌∙◌, arith}
use Rattle.std.specs.Prelude.{get_or}
use Rattle.std.proofs.lemmas.Option.{slice_get-get_or}
use Rattle.rb_image.specs.Sites.{kept_of}
use Rattle.rb_image.proofs.DropLemmas.{drop_item, drop_past}
use Rattle.rb_image.proofs.LookLemmas.{given_on}
use Rattle.rb_peek.specs.Walks.{IsPassed, end_of_path, seen_of, walk_span, where_at_root, where_of}
use Rattle.rb_peek.proofs.StepLemmas.{begin_err, begin_fits, begun, begun_fits, ended, ended_fit, none_there, step_err, step_fits, stepped, stepped_fits}
use Rattle.rb_peek.proofs.walk.walk_along.Goals as goal

pub returns-in_err-first-clause-walk : goal.returns-in_err-first-clause-walk
returns-in_err-first-clause-walk g c =
    let types = c.args.agreed.now.covered.program.types in
    let layouts = c.args.agreed.now.layouts in
    let m = c.args.image.now.blocks in
    let ws = map (kept_of c.args.image.now) c.args.sites.items in
    given_on where_of (end_of_path types layouts m c.args.ty ws c.args.path.now) c.from_residual.result _ c.from_residual.ensures.0 c.from_residual.ensures.1
    (begin_err types layouts m c.args.ty ws c.args.path.now _ c.in_err-first.ensures.seen)

pub returns-in_err-first-clause-most : goal.returns-in_err-first-clause-most
returns-in_err-first-clause-most g c =
    begin_fits c.args.agreed.now.covered.program.types c.args.agreed.now.layouts c.args.image.now.blocks c.args.ty (map (kept_of c.args.image.now) c.args.sites.items) c.args.path.now
    c.see.new.steps.taken c.args.steps.now.taken c.in_err-first.ensures.most

pub loop-number-init : goal.loop-number-init
loop-number-init g c =
    let types = c.args.agreed.now.covered.program.types in
    let layouts = c.args.agreed.now.layouts in
    let image = c.args.image.now in
    let ws = map (kept_of image) c.args.sites.items in
    let x = c.in_ok-first.first in
    let none = ap (λ passed. passed.items) c.arrive-walk.ensures.same.0 ∙ c.new.ensures.items in
    let here = c.arrive-walk.ensures.walk ∙ ap (λ xs. where_at_root (map seen_of xs) (seen_of x)) c.new.ensures.items in record {
      walk = begun types layouts image.blocks c.args.ty ws c.args.path.now x (where_of c.arrive-walk.result) c.in_ok-first.ensures.seen here;
      passed = record {
        before = λ k y is. absurd (none_there c.arrive-walk.result.before.items k y none is);
        last = subst (IsPassed image) (sym c.arrive-walk.ensures.same.1) c.in_ok-first.ensures.passed;
      };
      least = c.in_ok-first.ensures.least;
      most = begun_fits types layouts image.blocks c.args.ty ws c.args.path.now x (where_of c.arrive-walk.result) c.in_ok-first.ensures.seen here c.see.new.steps.taken c.args.steps.now.taken c.in_ok-first.ensures.most;
    }

pub returns-in_err-walk-clause-walk : goal.returns-in_err-walk-clause-walk
returns-in_err-walk-clause-walk g c =
    let types = c.args.agreed.now.covered.program.types in
    let layouts = c.args.agreed.now.layouts in
    let m = c.args.image.now.blocks in
    let path = c.args.path.now in
    let k = c.loop-number.number in
    let i = get_or path k 0 in
    let is = drop_item path k i (slice_get-get_or path k 0 c.loop-number-test.true) in
    let due = end_of_path types layouts m c.args.ty (map (kept_of c.args.image.now) c.args.sites.items) path in
    given_on where_of due c.from_residual-in_err-walk.result _ c.from_residual-in_err-walk.ensures.0 c.from_residual-in_err-walk.ensures.1
    (step_err types layouts m k (where_of c.loop-number.walk) i (drop k path) (drop (k + 1) path) is due _ c.loop-number.invariant.walk c.in_err-walk.ensures.walk)

pub returns-in_err-walk-clause-most : goal.returns-in_err-walk-clause-most
returns-in_err-walk-clause-most g c =
    let types = c.args.agreed.now.covered.program.types in
    let layouts = c.args.agreed.now.layouts in
    let m = c.args.image.now.blocks in
    let path = c.args.path.now in
    let k = c.loop-number.number in
    let i = get_or path k 0 in
    let is = drop_item path k i (slice_get-get_or path k 0 c.loop-number-test.true) in
    let all = c.args.steps.now.taken + walk_span types layouts m c.args.ty (map (kept_of c.args.image.now) c.args.sites.items) path in
    step_fits types layouts m k (where_of c.loop-number.walk) i (drop k path) (drop (k + 1) path) is c.loop-number.steps.taken c.step.new.steps.taken all c.loop-number.invariant.most c.in_err-walk.ensures.most

pub loop-number-preserved : goal.loop-number-preserved
loop-number-preserved g c =
    let types = c.args.agreed.now.covered.program.types in
    let layouts = c.args.agreed.now.layouts in
    let m = c.args.image.now.blocks in
    let path = c.args.path.now in
    let k = c.loop-number.number in
    let i = get_or path k 0 in
    let w = where_of c.loop-number.walk in
    let v = c.in_ok-walk.walk in
    let is = drop_item path k i (slice_get-get_or path k 0 c.loop-number-test.true) in
    let ws = map (kept_of c.args.image.now) c.args.sites.items in
    let all = c.args.steps.now.taken + walk_span types layouts m c.args.ty ws path in record {
      walk = stepped types layouts m k w i (drop k path) (drop (k + 1) path) is v c.in_ok-walk.ensures.walk (end_of_path types layouts m c.args.ty ws path) c.loop-number.invariant.walk;
      passed = c.in_ok-walk.ensures.passed;
      least = omega (arith, c.loop-number.invariant.least, c.in_ok-walk.ensures.least);
      most = stepped_fits types layouts m k w i (drop k path) (drop (k + 1) path) is v c.in_ok-walk.ensures.walk c.loop-number.steps.taken c.step.new.steps.taken all c.loop-number.invariant.most c.in_ok-walk.ensures.most;
    }

pub returns-clause-walk : goal.returns-clause-walk
returns-clause-walk g c =
    let types = c.args.agreed.now.covered.program.types in
    let layouts = c.args.agreed.now.layouts in
    let m = c.args.image.now.blocks in
    let path = c.args.path.now in
    let k = c.loop-number.number in
    ended types layouts m k c.loop-number.walk (drop k path) (drop_past path k c.loop-number-test.false) (end_of_path types layouts m c.args.ty (map (kept_of c.args.image.now) c.args.sites.items) path)
    c.loop-number.invariant.walk

pub returns-clause-most : goal.returns-clause-most
returns-clause-most g c =
    let types = c.args.agreed.now.covered.program.types in
    let layouts = c.args.agreed.now.layouts in
    let m = c.args.image.now.blocks in
    let path = c.args.path.now in
    let k = c.loop-number.number in
    let all = c.args.steps.now.taken + walk_span types layouts m c.args.ty (map (kept_of c.args.image.now) c.args.sites.items) path in
    ended_fit types layouts m k c.loop-number.walk (drop k path) (drop_past path k c.loop-number-test.false) c.loop-number.steps.taken all c.loop-number.invariant.most
