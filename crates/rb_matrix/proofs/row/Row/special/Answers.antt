use Rattle.std.proofs.Common.{◌≡◌, ◌++◌, IfOk, sym, ap, ◌∙◌, subst, arith}
use Rattle.rb_matrix.specs.inner.Borrowed.{patterns_of}
use Rattle.rb_matrix.specs.Specialize.{wilds, special_row}
use Rattle.rb_matrix.proofs.row.Row.special.Goals as goal

pub returns : goal.returns
returns c =
    let none : c.self.inside.wilds ≡ 0 = omega (arith, c.if-wilds-gt0.false) in
    subst (λ row. IfOk c.special_of.result (λ r. r ≡ special_row c.args.head c.args.fields row))
    (ap (λ n. wilds n ++ patterns_of c.self.inside.behind) (sym none) ∙ c.self.view_is) c.special_of.ensures
