use Rattle.std.proofs.Common.{◌∙◌, ◌++◌, ap, sym, take}
use Rattle.rb_target.specs.Text.{body_text, instr_text}
use Rattle.rb_core.proofs.TextLemmas.{appended}
use Rattle.rb_target.proofs.Texts.{body_text_more}
use Rattle.rb_target.proofs.spell.push_body.Goals as goal

pub loop-instr-preserved : goal.loop-instr-preserved
loop-instr-preserved c =
    let more = rw (c.key_name.ensures, c.key_of.ensures, c.as_slice.ensures.value, c.in_ok-words.ensures) at c.in_ok-push_line.ensures in
    let body = c.args.body.now in
    let k = c.loop-instr.instr-index in
    let item = c.instr-item.result in
    appended _ _ _ (instr_text item) _ _ c.loop-instr.invariant more
    (body_text_more body k item c.loop-instr-test.true ∙ ap (λ i. body_text (take k body) ++ instr_text i) (sym c.instr-item.is))
