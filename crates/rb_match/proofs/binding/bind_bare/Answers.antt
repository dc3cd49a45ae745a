use Rattle.std.proofs.Common.{◌≡◌, ◌∷◌, []}
use Rattle.std.proofs.lemmas.Result.{IfOk-weaker}
use Rattle.rb_match.specs.inner.Binding.{BindsBare}
use Rattle.rb_match.proofs.Bindings.{wild_binds, num_binds, var_binds}
use Rattle.rb_match.proofs.binding.bind_bare.Goals as goal

pub returns-in-Wild : goal.returns-in-Wild
returns-in-Wild c = λ agreed old. rw (c.in-Wild.is, c.new.ensures) (wild_binds agreed c.args.ty c.in-Wild.field-0 c.args.words.now old)

pub returns-in-Num : goal.returns-in-Num
returns-in-Num c = λ agreed old. rw (c.in-Num.is, c.new-in-Num.ensures) (num_binds agreed c.args.ty c.in-Num.field-0 c.in-Num.field-1 c.args.words.now old)

pub returns-in-Var : goal.returns-in-Var
returns-in-Var c =
    let words = c.args.words.now in
    IfOk-weaker c.bound_variable.result (λ bound. bound ≡ record { var = c.in-Var.var; ty = c.args.ty; slots = words } ∷ []) (λ bound. BindsBare c.args.ty c.args.pat.now words bound)
    (λ bound is agreed old. rw (c.in-Var.is, is) (var_binds agreed c.args.ty c.in-Var.field-0 c.in-Var.var words old)) c.bound_variable.ensures
