use Rattle.std.proofs.Common.{Some, sym, ap, ◌∙◌, arith}
use Rattle.std.proofs.lemmas.Option.{slice_get-get_or}
use Rattle.rb_fetch.proofs.Placing.{bytes_more}
use Rattle.rb_fetch.proofs.place.begins_at.Goals as goal

pub loop-j-preserved : goal.loop-j-preserved
loop-j-preserved c =
    let f = c.index-words-j.result in
    let j = c.loop-j.j in
    let at = slice_get-get_or c.args.words.now j f c.loop-j-test.true ∙ ap Some (sym c.index-words-j.is) in
    let inv = c.loop-j.invariant in
    let short = c.requires.short j f at in
    let more = bytes_more c.args.words.now j f at in
    record {
      same = omega (arith, inv.same, more);
      few = omega (arith, inv.few, short);
      near = omega (arith, inv.near, c.if-j-word.false);
    }
