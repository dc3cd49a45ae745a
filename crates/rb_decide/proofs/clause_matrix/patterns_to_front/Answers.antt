use Rattle.std.proofs.Common.{sym, ◌∙◌, arith}
use Rattle.std.proofs.lemmas.Grind.{common_steps}
use Rattle.rb_decide.proofs.Moving.{front-past, front-split}
use Rattle.rb_decide.proofs.clause_matrix.patterns_to_front.Goals as goal

pub returns-then-i-pats : goal.returns-then-i-pats
returns-then-i-pats c = c.in_ok-copies.ensures ∙ sym (front-past c.args.i c.args.pats.now c.if-i-pats.true)

pub returns : goal.returns
returns c = grind (arith, common_steps, front-split c.args.i c.args.pats.now c.index-pats-i.result c.if-i-pats.false c.index-pats-i.is, c.in_ok-push_patterns-2.ensures, c.in_ok-push_patterns.ensures, c.in_ok-push.ensures.ok, c.in_ok-copy.ensures, c.new-moved.ensures)
