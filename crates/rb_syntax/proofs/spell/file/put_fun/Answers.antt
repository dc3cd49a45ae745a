use Rattle.std.proofs.Common.{◌∷◌, map}
use Rattle.rb_syntax.specs.declared.token.Symbol.TheVariants as symbol
use Rattle.rb_syntax.specs.Written.{any_with}
use Rattle.rb_syntax.specs.Spelling.{lower_written, ty_written, param_written, expr_written, comma, sym}
use Rattle.rb_syntax.proofs.spell.file.put_fun.Goals as goal

pub returns : goal.returns
returns c rest h =
    let closed = sym symbol.Semicolon ∷ rest in
    let body = expr_written c.args.tree.now.body 1 closed in
    let result = ty_written c.args.tree.now.result (sym symbol.Equals ∷ body) in
    let behind = sym symbol.CloseParen ∷ sym symbol.Colon ∷ result in
    let params = any_with comma (map param_written c.as_slice.result.now) behind in
    let bodied = c.in_ok-put_expr.ensures 1 closed (c.in_ok-put_symbol.ensures rest h) in
    let typed = c.in_ok-put_ty.ensures (sym symbol.Equals ∷ body) (c.in_ok-put_symbol-2.ensures body bodied) in
    let listed = c.in_ok-put_list.ensures behind (c.in_ok-put_symbol-4.ensures (sym symbol.Colon ∷ result) (c.in_ok-put_symbol-3.ensures result typed)) in
    let all = c.in_ok-put_word.ensures (lower_written c.args.tree.now.name (sym symbol.OpenParen ∷ params))
    (c.in_ok-put_lower.ensures (sym symbol.OpenParen ∷ params) (c.in_ok-put_symbol-5.ensures params listed)) in
    rw (← c.as_slice.ensures) all
