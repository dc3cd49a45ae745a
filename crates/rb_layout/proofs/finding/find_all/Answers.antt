use Rattle.std.proofs.Common.{◌≡◌, Some, sym, ap, subst, ◌∙◌}
use Rattle.std.specs.Prelude.{slice_get}
use Rattle.rb_layout.specs.inner.Barring.{AreAsked}
use Rattle.rb_layout.specs.inner.Finding.{has_goal, AreFresh, HasBelow}
use Rattle.rb_layout.proofs.FindLemmas.{grows-below, below-asked, below-fresh, below-more}
use Rattle.rb_layout.proofs.finding.find_all.Goals as goal

pub loop-i-preserved : goal.loop-i-preserved
loop-i-preserved c =
    let types = c.args.types.now in let layouts = c.args.layouts.now in
    let old = c.loop-i.entries in
    let entry = c.in-Some.entry in
    let invariant = c.loop-i.invariant in
    let is : slice_get old c.loop-i.i ≡ Some entry = sym c.in-Some.ensures in
    let new = c.in_ok-add_below.ensures in
    record {
      asked = subst AreAsked (sym new) (below-asked types layouts old entry.goal (invariant.asked c.loop-i.i entry is) invariant.asked);
      fresh = subst AreFresh (sym new) (below-fresh types layouts old entry.goal invariant.fresh);
      keeps = λ g h. ap (λ es. has_goal es g) new ∙ (grows-below types layouts old entry.goal).keeps g (invariant.keeps g h);
      below = λ k d lt is_d. subst (λ es. HasBelow types layouts es d.goal) (sym new)
          (below-more types layouts old c.loop-i.i entry is invariant.below k d lt (ap (λ es. slice_get es k) (sym new) ∙ is_d));
    }
