use Rattle.std.proofs.Common.{◌≡◌, Some, refl, subst, arith}
use Rattle.std.specs.Prelude.{slice_get}
use Rattle.std.proofs.lemmas.Option.{slice_get_read}
use Rattle.rb_matrix.specs.inner.OneColumn.{IsReachAnswer}
use Rattle.rb_matrix.proofs.Passing.{passed-more}
use Rattle.rb_matrix.proofs.Reaches.{reached-more, unreached-more}
use Rattle.rb_matrix.proofs.coverage.unreached_by.Goals as goal

pub loop-i-preserved-then-reached : goal.loop-i-preserved-then-reached
loop-i-preserved-then-reached c =
    let pats = c.args.pats.now in let i = c.loop-i.i in let p = c.index-pats-i.result in
    let at : slice_get pats i ≡ Some p = slice_get_read pats _ i p refl (omega arith) c.index-pats-i.is in
    record {
      unreached = reached-more c.args.types.now c.args.ty pats i c.loop-i.numbers.items c.loop-i.invariant.unreached
          (subst (IsReachAnswer c.args.types.now c.args.ty pats i) c.if-reached.true c.in_ok-reached.ensures);
      passed = passed-more pats i p c.loop-i.passed _ at c.loop-i.invariant.passed c.in_ok-add.ensures.all c.in_ok-add.ensures.numbers c.in_ok-add.ensures.indexes;
    }

pub loop-i-preserved : goal.loop-i-preserved
loop-i-preserved c =
    let pats = c.args.pats.now in let i = c.loop-i.i in let p = c.index-pats-i.result in
    let at : slice_get pats i ≡ Some p = slice_get_read pats _ i p refl (omega arith) c.index-pats-i.is in
    record {
      unreached = unreached-more c.args.types.now c.args.ty pats i c.loop-i.numbers.items c.loop-i.invariant.unreached _ c.in_ok-push.ensures.items
          (subst (IsReachAnswer c.args.types.now c.args.ty pats i) c.if-reached.false c.in_ok-reached.ensures);
      passed = passed-more pats i p c.loop-i.passed _ at c.loop-i.invariant.passed c.in_ok-add.ensures.all c.in_ok-add.ensures.numbers c.in_ok-add.ensures.indexes;
    }
