use Rattle.std.proofs.Common.{◌∷◌}
use Rattle.rb_syntax.specs.declared.token.Symbol.TheVariants as symbol
use Rattle.rb_syntax.specs.Spelling.{num, sym}
use Rattle.rb_syntax.proofs.spell.layout.put_range.Goals as goal

pub returns : goal.returns
returns c rest h =
    let closed = sym symbol.CloseBracket ∷ rest in
    let second = sym symbol.Colon ∷ num c.args.l ∷ closed in
    c.in_ok-put_symbol-3.ensures (num c.args.o ∷ second) (c.in_ok-put_num-2.ensures second (c.in_ok-put_symbol-2.ensures (num c.args.l ∷ closed)
    (c.in_ok-put_num.ensures closed (c.in_ok-put_symbol.ensures rest h))))
