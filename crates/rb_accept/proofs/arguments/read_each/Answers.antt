use Rattle.std.proofs.Common.{length, ap, sym, ◌∙◌, ◌<◌, arith, Some}
use Rattle.std.proofs.lemmas.Option.{slice_get-get_or}
use Rattle.rb_accept.proofs.ArgumentLaws.{argument_read}
use Rattle.rb_accept.proofs.arguments.read_each.Goals as goal

pub loop-i-preserved : goal.loop-i-preserved
loop-i-preserved c =
    let lt = c.loop-i-test.true in
    let many = c.requires in
    let within : c.loop-i.i < length c.args.words.now = omega (arith, lt, many) in
    let word = slice_get-get_or c.args.words.now c.loop-i.i c.index-words-i.result within ∙ ap Some (sym c.index-words-i.is) in
    rw c.in_ok-push.ensures.ok (argument_read c.args.types.now c.args.params.now c.args.words.now c.loop-i.args c.loop-i.i _ c.index-words-i.result c.in_ok-arg.arg
    lt word c.loop-i.invariant (rw c.as_slice.ensures at c.in_ok-arg.ensures.read))
