use Rattle.std.proofs.Common.{◌≡◌, take}
use Rattle.rb_target.specs.Text.{code_text}
use Rattle.rb_target.proofs.spell.spell_code.Given as goal

abbrev pub invariant-loop-fun : goal.invariant-loop-fun
invariant-loop-fun l = l.text.items ≡ code_text (take l.fun-index l.funs)
