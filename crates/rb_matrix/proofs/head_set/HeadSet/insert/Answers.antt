use Rattle.std.proofs.Common.{◌||◌, ◌==◌, ◌∙◌, refl, sym, ap}
use Rattle.std.proofs.lemmas.Result.{on_ok_weaker, on_err_weaker}
use Rattle.rb_matrix.specs.declared.matrix.Head.{Head}
use Rattle.rb_matrix.specs.Heads.{layer_begins}
use Rattle.rb_matrix.specs.Known.{has, holds}
use Rattle.rb_matrix.proofs.HeadSets.{number-more, con-more, none-more}
use Rattle.rb_matrix.proofs.head_set.HeadSet.insert.Goals as goal

pub returns-in-Num-clause-ok : goal.returns-in-Num-clause-ok
returns-in-Num-clause-ok c =
    let s = c.args.self.now in
    on_ok_weaker c.insert.result
    (λ more l. number-more s (record { numbers = c.insert.new.self; cons = s.cons }) c.in-Num.number more refl l
    ∙ ap (λ (h : Head). holds s l || layer_begins h l) (sym c.in-Num.is))
    c.insert.ensures.ok

pub returns-in-Num-clause-err : goal.returns-in-Num-clause-err
returns-in-Num-clause-err c =
    let s = c.args.self.now in
    on_err_weaker c.insert.result (λ same. none-more s (record { numbers = c.insert.new.self; cons = s.cons }) same (λ k. refl)) c.insert.ensures.err

pub returns-in-Con-clause-ok : goal.returns-in-Con-clause-ok
returns-in-Con-clause-ok c =
    let s = c.args.self.now in
    on_ok_weaker c.insert-in-Con.result
    (λ more l. con-more s (record { numbers = s.numbers; cons = c.insert-in-Con.new.self }) c.in-Con.con (λ k. more k ∙ ap (λ n. has s.cons k || (n == k)) c.from.ensures) refl l
    ∙ ap (λ (h : Head). holds s l || layer_begins h l) (sym c.in-Con.is))
    c.insert-in-Con.ensures.ok

pub returns-in-Con-clause-err : goal.returns-in-Con-clause-err
returns-in-Con-clause-err c =
    let s = c.args.self.now in
    on_err_weaker c.insert-in-Con.result (λ same. none-more s (record { numbers = s.numbers; cons = c.insert-in-Con.new.self }) (λ n. refl) same) c.insert-in-Con.ensures.err
