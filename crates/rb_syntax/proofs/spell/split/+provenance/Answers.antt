use Rattle.std.proofs.Common.{◌≡◌, ◌∷◌, ◌∙◌, ◌-◌, suc, List, map, drop, ap, arith}
use Rattle.rb_syntax.specs.declared.tree.PatTree.{PatTree}
use Rattle.rb_syntax.specs.declared.token.Symbol.TheVariants as symbol
use Rattle.rb_syntax.specs.Written.{tokens_in, each_behind}
use Rattle.rb_syntax.specs.Spelling.{below_written, at_level, comma, sym}
use Rattle.rb_syntax.proofs.ListLemmas.{part-left}
use Rattle.rb_syntax.proofs.spell.split.+provenance.Goals as goal

pub put_parts_below-loop-i-preserved : goal.put_parts_below-loop-i-preserved
put_parts_below-loop-i-preserved t c l rest h =
    let next : c.loop-i.i ≡ suc (c.loop-i.i - 1) = omega arith in
    let behind = each_behind comma (at_level l (map below_written (drop c.loop-i.i c.args.others.now))) rest in
    c.in_ok-put_symbol-2.ensures (below_written c.index-others-i.result l behind) (c.in_ok-put_below.ensures l behind (c.loop-i.invariant l rest h))
    ∙ ap (λ (pats : List PatTree). tokens_in (each_behind comma (at_level l (map below_written pats)) rest))
    (part-left c.args.others.now (c.loop-i.i - 1) c.loop-i.i c.index-others-i.result next (omega arith) c.index-others-i.is)

pub put_parts_below-returns : goal.put_parts_below-returns
put_parts_below-returns t c l rest h =
    let z : c.loop-i.i ≡ 0 = omega arith in
    let behind = each_behind comma (at_level l (map below_written (drop c.loop-i.i c.args.others.now))) (sym symbol.CloseParen ∷ rest) in
    let a = c.in_ok-put_symbol-3.ensures (below_written c.args.first.now l behind) (c.in_ok-put_below-2.ensures l behind
    (c.loop-i.invariant l (sym symbol.CloseParen ∷ rest) (c.in_ok-put_symbol.ensures rest h))) in
    rw c.requires (rw z at a)
