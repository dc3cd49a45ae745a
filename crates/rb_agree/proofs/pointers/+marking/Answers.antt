use Rattle.rb_layout.specs.A9.{pattern_cons}
use Rattle.rb_agree.specs.inner.Marks.{IsMarked, IsUnmarked}
use Rattle.rb_agree.proofs.Lists.{flat-found, flat-passed, flat-ends}
use Rattle.rb_agree.proofs.Marking.{root-marked, root-unmarked}
use Rattle.rb_agree.proofs.pointers.+marking.Goals as goal

pub marked_among-returns-in-Some : goal.marked_among-returns-in-Some
marked_among-returns-in-Some t c =
    flat-found (IsUnmarked c.args.marks.now) (IsMarked c.args.marks.now) pattern_cons c.args.pats.now c.loop-pat.pat-index c.pat-item.result c.marked_in.result c.in-Some.ty
    c.loop-pat-test.true c.pat-item.is c.marked_in.ensures c.in-Some.is c.loop-pat.invariant

pub marked_among-loop-pat-preserved : goal.marked_among-loop-pat-preserved
marked_among-loop-pat-preserved t c =
    flat-passed (IsUnmarked c.args.marks.now) (IsMarked c.args.marks.now) pattern_cons c.args.pats.now c.loop-pat.pat-index c.pat-item.result c.marked_in.result
    c.loop-pat-test.true c.pat-item.is c.marked_in.ensures c.in_default.is c.loop-pat.invariant

pub marked_among-returns : goal.marked_among-returns
marked_among-returns t c =
    flat-ends (IsUnmarked c.args.marks.now) (IsMarked c.args.marks.now) pattern_cons c.args.pats.now c.loop-pat.pat-index c.loop-pat-test.false c.loop-pat.invariant

pub marked_in-returns-then-is_marked : goal.marked_in-returns-then-is_marked
marked_in-returns-then-is_marked t c =
    root-marked c.args.marks.now c.args.pat.now c.in-Con.field-0 c.in-Con.con c.in-Con.pats c.in-Con.pats c.in-Con.is (λ i. c.in-Con.pats) c.is_marked.result c.is_marked.ensures c.if-is_marked.true

pub marked_in-returns-else-is_marked : goal.marked_in-returns-else-is_marked
marked_in-returns-else-is_marked t c =
    root-unmarked c.args.marks.now c.args.pat.now c.in-Con.field-0 c.in-Con.con c.in-Con.pats c.as_slice.result.now c.in-Con.is c.as_slice.ensures
    c.is_marked.result c.marked_among.result c.is_marked.ensures c.if-is_marked.false c.marked_among.ensures
