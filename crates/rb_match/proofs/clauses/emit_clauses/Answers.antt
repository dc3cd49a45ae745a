use Rattle.std.proofs.Common.{Some, ap, sym, ◌∙◌}
use Rattle.std.proofs.lemmas.Option.{slice_get-get_or}
use Rattle.rb_match.proofs.ClauseForms.{all_next}
use Rattle.rb_match.proofs.clauses.emit_clauses.Goals as goal

pub loop-i-preserved : goal.loop-i-preserved
loop-i-preserved c =
    rw c.in-None.ensures (all_next c.args.agreed.now c.args.ty c.args.words.now c.args.pats.now c.loop-i.i c.index-pats-i.result c.args.body.now c.loop-i.body c.emit_clause.new.body c.loop-i.holes c.in_ok-matched.matched
    (slice_get-get_or c.args.pats.now c.loop-i.i c.index-pats-i.result c.loop-i-test.true ∙ ap Some (sym c.index-pats-i.is)) c.loop-i.invariant c.in_ok-matched.ensures.tries)
