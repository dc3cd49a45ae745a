use Rattle.std.proofs.Common.{◌∙◌, ◌++◌, ap, sym, take}
use Rattle.rb_target.specs.Text.{fun_text, code_text}
use Rattle.rb_target.proofs.OneToOne.{one_to_one}
use Rattle.rb_target.proofs.Texts.{code_text_more}
use Rattle.rb_target.proofs.spell.spell_code.Goals as goal

pub loop-fun-preserved : goal.loop-fun-preserved
loop-fun-preserved c =
    let funs = c.funs-funs.result.now in
    let k = c.loop-fun.fun-index in
    let item = c.fun-item.result in
    c.in_ok-push_fun.ensures ∙ ap (λ t. t ++ fun_text item) c.loop-fun.invariant
    ∙ ap (λ f. code_text (take k funs) ++ fun_text f) c.fun-item.is ∙ sym (code_text_more funs k item c.loop-fun-test.true)

pub returns-clause-one_to_one : goal.returns-clause-one_to_one
returns-clause-one_to_one c funs valid e = one_to_one c.args.code.now funs c.funs-funs.ensures.valid valid e

pub returns-in_err-push_fun-clause-one_to_one : goal.returns-in_err-push_fun-clause-one_to_one
returns-in_err-push_fun-clause-one_to_one c funs valid e = one_to_one c.args.code.now funs c.funs-funs.ensures.valid valid e
