use Rattle.rb_fragment.specs.Fragments.{AnyValues}
use Rattle.rb_fragment.proofs.Arguments.{applied}
use Rattle.rb_fragment.proofs.laws.parts_then_apply.Goals as goal

pub returns : goal.returns
returns c = λ plan ts ls. applied plan ts ls AnyValues
