use Rattle.std.proofs.Common.{◌∷◌, ◌∙◌, map}
use Rattle.rb_syntax.specs.declared.token.Symbol.TheVariants as symbol
use Rattle.rb_syntax.specs.Written.{some_with}
use Rattle.rb_syntax.specs.Spelling.{upper_written, con_written, bar, sym}
use Rattle.rb_syntax.proofs.ListLemmas.{any-some}
use Rattle.rb_syntax.proofs.spell.file.put_type.Goals as goal

pub returns : goal.returns
returns c rest h =
    let closed = sym symbol.Semicolon ∷ rest in
    let cons = some_with bar (map con_written c.as_slice.result.now) closed in
    let listed = c.in_ok-put_list.ensures closed (c.in_ok-put_symbol.ensures rest h) ∙ any-some bar (map con_written c.as_slice.result.now) closed in
    let all = c.in_ok-put_word.ensures (upper_written c.args.tree.now.name (sym symbol.Equals ∷ cons))
    (c.in_ok-put_upper.ensures (sym symbol.Equals ∷ cons) (c.in_ok-put_symbol-2.ensures cons listed)) in
    rw (← c.as_slice.ensures) all
