use Rattle.std.proofs.Common.{◌∷◌, ◌∙◌, map}
use Rattle.rb_syntax.specs.declared.token.Symbol.TheVariants as symbol
use Rattle.rb_syntax.specs.Written.{some_with}
use Rattle.rb_syntax.specs.Spelling.{upper_written, width_written, split_written, comma, sym}
use Rattle.rb_syntax.proofs.ListLemmas.{any-some}
use Rattle.rb_syntax.proofs.spell.file.put_layout.Goals as goal

pub returns : goal.returns
returns c rest h =
    let closed = sym symbol.Semicolon ∷ rest in
    let tree = split_written c.args.tree.now.tree 1 closed in
    let greater = sym symbol.Greater ∷ sym symbol.Equals ∷ tree in
    let shape = some_with comma (map width_written c.as_slice.result.now) greater in
    let treed = c.in_ok-put_split.ensures 1 closed (c.in_ok-put_symbol.ensures rest h) in
    let listed = c.in_ok-put_list.ensures greater (c.in_ok-put_symbol-3.ensures (sym symbol.Equals ∷ tree) (c.in_ok-put_symbol-2.ensures tree treed))
    ∙ any-some comma (map width_written c.as_slice.result.now) greater in
    let all = c.in_ok-put_word.ensures (upper_written c.args.tree.now.ty (sym symbol.Less ∷ shape))
    (c.in_ok-put_upper.ensures (sym symbol.Less ∷ shape) (c.in_ok-put_symbol-4.ensures shape listed)) in
    rw (← c.as_slice.ensures) all
