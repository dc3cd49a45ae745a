use Rattle.std.proofs.Common.{Some, None, sym, subst, MatchOption, ◌≡◌}
use Rattle.rb_layout.specs.Positions.{sub_pattern}
use Rattle.rb_layout.proofs.Walks.{sub_found}
use Rattle.rb_layout.proofs.positions.sub_pattern.Goals as goal

pub returns-in_err-ty-in-Con : goal.returns-in_err-ty-in-Con
returns-in_err-ty-in-Con c = subst (λ r. MatchOption r (sub_pattern c.args.types.now c.args.pat.now c.args.field ≡ None) (λ x. sub_pattern c.args.types.now c.args.pat.now c.args.field ≡ Some (x.0.now, x.1))) (sym c.from_residual-in_err-ty-in-Con.ensures)
    (sub_found c.args.types.now c.args.pat.now c.args.field c.in-Con.field-0 c.in-Con.con c.in-Con.pats (Some c.in_ok-sub-in-Con.sub.now) None c.in-Con.is c.in_ok-sub-in-Con.ensures.value c.in_err-ty-in-Con.ensures)

pub returns-in_ok-ty-in-Con : goal.returns-in_ok-ty-in-Con
returns-in_ok-ty-in-Con c =
    sub_found c.args.types.now c.args.pat.now c.args.field c.in-Con.field-0 c.in-Con.con c.in-Con.pats (Some c.in_ok-sub-in-Con.sub.now) (Some c.in_ok-ty-in-Con.ty) c.in-Con.is c.in_ok-sub-in-Con.ensures.value c.in_ok-ty-in-Con.ensures
