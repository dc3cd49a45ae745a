use Rattle.std.proofs.Common.{◌∷◌}
use Rattle.rb_syntax.specs.declared.token.Symbol.TheVariants as symbol
use Rattle.rb_syntax.specs.Spelling.{upper_written, word_token, sym}
use Rattle.rb_syntax.proofs.spell.file.put_derived.Goals as goal

pub returns : goal.returns
returns c rest h =
    let closed = sym symbol.Semicolon ∷ rest in
    let auto = word_token c.word_of_auto.result ∷ closed in
    let all = c.in_ok-put_word-2.ensures (upper_written c.args.name.now (sym symbol.Equals ∷ auto)) (c.in_ok-put_upper.ensures (sym symbol.Equals ∷ auto)
    (c.in_ok-put_symbol-2.ensures auto (c.in_ok-put_word.ensures closed (c.in_ok-put_symbol.ensures rest h)))) in
    rw (← c.word_of_auto.ensures) all
