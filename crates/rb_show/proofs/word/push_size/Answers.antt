use Rattle.std.proofs.Common.{codes}
use Rattle.std.specs.Fmt.{decimal}
use Rattle.rb_show.proofs.Texts.{five}
use Rattle.rb_show.proofs.word.push_size.Goals as goal

pub returns : goal.returns
returns c =
    five _ _ _ _ _ _ (codes ": ") (decimal c.args.size) (codes " bytes, align ") (decimal c.args.align) (codes "\n")
    c.in_ok-push.ensures.ok c.in_ok-push_number.ensures.ok c.in_ok-push-2.ensures.ok c.in_ok-push_number-2.ensures.ok c.in_ok-push-3.ensures.ok
