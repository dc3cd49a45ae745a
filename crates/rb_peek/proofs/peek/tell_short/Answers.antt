use Rattle.std.proofs.Common.{◌≤◌, List, sym, subst}
use Rattle.rb_layout.specs.declared.layout.Layout.{Layout}
use Rattle.rb_peek.specs.PathSpans.{path_span}
use Rattle.rb_peek.specs.Walks.{walk_span}
use Rattle.rb_peek.proofs.PathSpanLemmas.{walks_are_short}
use Rattle.rb_peek.proofs.peek.tell_short.Goals as goal

pub returns : goal.returns
returns c = λ m t ws path.
    let p = c.args.agreed.now.covered.program in
    subst (λ (ls : List Layout). walk_span p.types ls m t ws path ≤ path_span p.types ls m t ws path) (sym c.layouts.ensures.flat)
    (walks_are_short p c.layouts.ensures.agree m t ws path)
