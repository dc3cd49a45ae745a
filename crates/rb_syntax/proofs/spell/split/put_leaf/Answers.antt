use Rattle.std.proofs.Common.{◌∷◌, ◌∙◌, List, map, ap}
use Rattle.rb_core.specs.declared.layout_decl.LayItem.{LayItem}
use Rattle.rb_syntax.specs.declared.token.Symbol.TheVariants as symbol
use Rattle.rb_syntax.specs.declared.token.Token.{Token}
use Rattle.rb_syntax.specs.declared.token.Token.TheVariants as tok
use Rattle.rb_syntax.specs.Written.{Writing, tokens_in, some_with}
use Rattle.rb_syntax.specs.Spelling.{lay_item_written, at_level, comma, sym}
use Rattle.rb_syntax.proofs.ListLemmas.{any-some, at-level}
use Rattle.rb_syntax.proofs.spell.split.put_leaf.Goals as goal

pub returns : goal.returns
returns c l rest h =
    let closed = sym symbol.CloseBrace ∷ rest in
    let items = some_with comma (map (λ (i : LayItem). lay_item_written i l) c.args.items.now) closed in
    let listed = c.in_ok-put_items.ensures l rest h ∙ ap (λ (ts : List Token). tok.Symbol symbol.OpenBrace ∷ ts) (any-some comma (at_level l (map lay_item_written c.args.items.now)) closed
    ∙ ap (λ (ws : List Writing). tokens_in (some_with comma ws closed)) (at-level lay_item_written l c.args.items.now)) in
    c.in_ok-put_prov.ensures l (sym symbol.Colon ∷ sym symbol.OpenBrace ∷ items)
    (c.in_ok-put_symbol.ensures (sym symbol.OpenBrace ∷ items) listed)
