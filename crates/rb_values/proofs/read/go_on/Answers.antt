use Rattle.std.proofs.Common.{◌<◌, arith}
use Rattle.rb_values.specs.inner.States.{outline_of}
use Rattle.rb_values.proofs.SpellingLemmas.{grows}
use Rattle.rb_values.proofs.read.go_on.Goals as goal

pub returns-in-None : goal.returns-in-None
returns-in-None c s next e n k =
    let q : c.args.limit < (outline_of s).nodes = rw c.in-None.is at k in omega (arith, q, (grows s c.args.sign next e).0)

pub returns-in_ok-step-in-Some : goal.returns-in_ok-step-in-Some
returns-in_ok-step-in-Some c s next e n k = c.in_ok-step-in-Some.ensures s next e (rw c.in-Some.is at k)
