use Rattle.std.proofs.Common.{ap, sym, ◌∙◌, ◌++◌, map, take}
use Rattle.rb_core.specs.declared.pattern.Pat.{Pat}
use Rattle.rb_core.specs.Texts.{opening_text, pattern_text}
use Rattle.rb_core.specs.inner.Texts.{opening}
use Rattle.rb_core.proofs.TextLemmas.{appended, opened_next, two}
use Rattle.rb_core.proofs.pattern_text.+showing.Goals as goal

pub push_fields-loop-i-preserved : goal.push_fields-loop-i-preserved
push_fields-loop-i-preserved n c =
    let show = pattern_text c.args.types.now in
    let i = c.loop-i.i in
    appended _ _ _ _ _ _ c.loop-i.invariant
    (two _ (opening i) _ _ _ _ c.in_ok-push.ensures.ok c.opening.ensures c.in_ok-push_form.ensures)
    (opened_next show c.args.pats.now i c.index-pats-i.result c.loop-i-test.true
    ∙ ap (λ (p : Pat). opening_text (map show (take i c.args.pats.now)) ++ (opening i ++ show p)) (sym c.index-pats-i.is))
