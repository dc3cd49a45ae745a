use Rattle.std.proofs.Common.{length, sym, subst}
use Rattle.rb_core.specs.TypedPrograms.{IsTyped}
use Rattle.rb_image.specs.Parts.{look}
use Rattle.rb_image.specs.Roots.{kept_from, root_at}
use Rattle.rb_image.specs.inner.Ending.{DescentEnds, depth_bound}
use Rattle.rb_image.proofs.DepthLemmas.{descents_end as deep}
use Rattle.rb_image.proofs.RootLemmas.{root_under}
use Rattle.rb_image.proofs.descent.descents_end.Goals as goal

pub returns : goal.returns
returns c = λ m t words none.
    let p = c.args.agreed.now.covered.program in
    let typed : IsTyped p = rw c.covered.ensures.same at c.program.ensures.typed in
    subst (λ ls. DescentEnds (look p.types ls m) (depth_bound 18446744073709551616 (length ls)) (root_at t words)) (sym c.layouts.ensures.flat)
    (deep p typed c.layouts.ensures.agree m none 18446744073709551616 t (kept_from 0 words) (root_under words))
