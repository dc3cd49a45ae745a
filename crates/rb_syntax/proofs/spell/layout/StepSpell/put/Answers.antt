use Rattle.std.proofs.Common.{◌∷◌}
use Rattle.rb_syntax.specs.declared.token.Symbol.TheVariants as symbol
use Rattle.rb_syntax.specs.Spelling.{num, sym, range_written}
use Rattle.rb_syntax.proofs.spell.layout.StepSpell.put.Goals as goal

pub returns : goal.returns
returns c rest h =
    let s = c.args.self.now in
    let range = range_written s.o s.l rest in
    let word = sym symbol.Colon ∷ num s.width ∷ range in
    let byte = sym symbol.At ∷ num s.byte ∷ word in
    c.in_ok-put_symbol-3.ensures (num s.align ∷ byte) (c.in_ok-put_num-3.ensures byte (c.in_ok-put_symbol-2.ensures (num s.byte ∷ word)
    (c.in_ok-put_num-2.ensures word (c.in_ok-put_symbol.ensures (num s.width ∷ range) (c.in_ok-put_num.ensures range (c.in_ok-put_range.ensures rest h))))))
