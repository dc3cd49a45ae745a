use Rattle.std.proofs.Common.{◌≡◌, ◌∙◌, ◌-◌, suc, map, drop, ap, arith}
use Rattle.rb_syntax.specs.declared.token.Token.TheVariants.{Symbol}
use Rattle.rb_syntax.specs.Written.{tokens_in, each_behind}
use Rattle.rb_syntax.proofs.ListLemmas.{part-left}
use Rattle.rb_syntax.proofs.spell.list.put_behind.Goals as goal

pub loop-i-preserved : goal.loop-i-preserved
loop-i-preserved g c rest h =
    let next : c.loop-i.i ≡ suc (c.loop-i.i - 1) = omega arith in
    let writing = g.T.Spell.writing in
    let behind = each_behind (Symbol c.args.separator) (map writing (drop c.loop-i.i c.args.parts.now)) rest in
    c.in_ok-put_symbol.ensures (writing c.index-parts-i.result behind) (c.in_ok-put.ensures behind (c.loop-i.invariant rest h))
    ∙ ap (λ parts. tokens_in (each_behind (Symbol c.args.separator) (map writing parts) rest))
    (part-left c.args.parts.now (c.loop-i.i - 1) c.loop-i.i c.index-parts-i.result next (omega arith) c.index-parts-i.is)
