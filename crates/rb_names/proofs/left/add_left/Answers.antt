use Rattle.std.proofs.Common.{◌++◌, ◌∷◌, sym, ap, ◌∙◌}
use Rattle.rb_names.specs.Completing.{left_in}
use Rattle.rb_names.specs.Tables.{meaning}
use Rattle.rb_names.proofs.LeftLemmas.{left-added}
use Rattle.rb_names.proofs.left.add_left.Goals as goal

pub returns-in_ok-define-in-Derived : goal.returns-in_ok-define-in-Derived
returns-in_ok-define-in-Derived c rest name =
    left-added c.args.left.now c.define.new.self c.as_slice.result.now c.in-Derived.kind (left_in rest) c.in_ok-define-in-Derived.ensures.table name
    ∙ ap (λ n. meaning (c.args.left.now ++ (n, c.in-Derived.kind) ∷ left_in rest) name) c.as_slice.ensures
    ∙ ap (λ item. meaning (c.args.left.now ++ left_in (item ∷ rest)) name) (sym c.in-Derived.is)
