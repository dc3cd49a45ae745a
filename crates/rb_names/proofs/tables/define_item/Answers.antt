use Rattle.std.proofs.Common.{sym, ap, subst}
use Rattle.rb_names.specs.Definitions.{definitions}
use Rattle.rb_names.specs.inner.Defining.{AreAdded, IsAgain}
use Rattle.rb_names.proofs.AnswerLemmas.{err-kept}
use Rattle.rb_names.proofs.tables.define_item.Goals as goal

pub returns-in_err-define_layout-in-Layouts-clause-again : goal.returns-in_err-define_layout-in-Layouts-clause-again
returns-in_err-define_layout-in-Layouts-clause-again c =
    err-kept _ _ _ c.from_residual-in_err-define_layout-in-Layouts.ensures.1 (λ names before has a.
    subst (λ ds. IsAgain before ds c.in_err-define_layout-in-Layouts.field-0.0) (sym (ap (definitions names) c.in-Layouts.is))
    (c.in_err-define_layout-in-Layouts.ensures.again names before has a))

pub returns-in_err-define_layout-in-Derived-clause-again : goal.returns-in_err-define_layout-in-Derived-clause-again
returns-in_err-define_layout-in-Derived-clause-again c =
    err-kept _ _ _ c.from_residual-in_err-define_layout-in-Derived.ensures.1 (λ names before has a.
    subst (λ ds. IsAgain before ds c.in_err-define_layout-in-Derived.field-0.0) (sym (ap (definitions names) c.in-Derived.is))
    (c.in_err-define_layout-in-Derived.ensures.again names before has a))

pub returns-in_ok-define_layout-in-Layouts-clause-added : goal.returns-in_ok-define_layout-in-Layouts-clause-added
returns-in_ok-define_layout-in-Layouts-clause-added c names before has a =
    subst (λ ds. AreAdded before ds c.define_layout.new.known) (sym (ap (definitions names) c.in-Layouts.is))
    (c.in_ok-define_layout-in-Layouts.ensures.added names before has a)

pub returns-in_ok-define_layout-in-Derived-clause-added : goal.returns-in_ok-define_layout-in-Derived-clause-added
returns-in_ok-define_layout-in-Derived-clause-added c names before has a =
    subst (λ ds. AreAdded before ds c.define_layout-in-Derived.new.known) (sym (ap (definitions names) c.in-Derived.is))
    (c.in_ok-define_layout-in-Derived.ensures.added names before has a)
