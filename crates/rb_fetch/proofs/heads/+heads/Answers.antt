use Rattle.std.proofs.Common.{Some, sym, ap, ◌∙◌}
use Rattle.std.proofs.lemmas.Option.{slice_get-get_or}
use Rattle.rb_fetch.proofs.HeadForms.{heads_of_con, heads-more}
use Rattle.rb_fetch.specs.inner.Heads.{shown_heads}
use Rattle.rb_fetch.proofs.heads.+heads.Goals as goal

pub add_heads-returns-in_ok-add_heads_below-in-Con : goal.add_heads-returns-in_ok-add_heads_below-in-Con
add_heads-returns-in_ok-add_heads_below-in-Con t c =
    heads_of_con c.args.pat.now c.in-Con.field-0 c.in-Con.con c.in-Con.pats c.args.path.now c.in_ok-path_here-in-Con.path_here c.args.out.now c.push.new.self c.add_heads_below.new.out c.in-Con.is c.in_ok-path_here-in-Con.ensures
    c.in_ok-push-in-Con.ensures.ok (rw c.as_slice.ensures at c.in_ok-add_heads_below-in-Con.ensures)

pub add_heads_below-loop-i-preserved : goal.add_heads_below-loop-i-preserved
add_heads_below-loop-i-preserved t c =
    heads-more c.args.path.now c.in_ok-longer.longer c.args.pats.now c.loop-i.i c.index-pats-i.result (shown_heads c.loop-i.out) (shown_heads c.add_heads.new.out) _
    (slice_get-get_or c.args.pats.now c.loop-i.i c.index-pats-i.result c.loop-i-test.true ∙ ap Some (sym c.index-pats-i.is)) c.in_ok-longer.ensures c.in_ok-add_heads.ensures c.loop-i.invariant
