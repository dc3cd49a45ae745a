use Rattle.std.proofs.Common.{◌≡◌, ◌++◌, take}
use Rattle.rb_target.specs.Text.{body_text}
use Rattle.rb_target.proofs.spell.push_body.Given as goal

abbrev pub invariant-loop-instr : goal.invariant-loop-instr
invariant-loop-instr l = l.text.items ≡ l.initial.text.items ++ body_text (take l.instr-index l.body)
