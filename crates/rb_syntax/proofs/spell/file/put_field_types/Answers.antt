use Rattle.std.proofs.Common.{◌∷◌, map}
use Rattle.rb_syntax.specs.declared.token.Symbol.TheVariants as symbol
use Rattle.rb_syntax.specs.Written.{any_with}
use Rattle.rb_syntax.specs.Spelling.{ty_written, comma, sym}
use Rattle.rb_syntax.proofs.ListLemmas.{fields-listed}
use Rattle.rb_syntax.proofs.spell.file.put_field_types.Goals as goal

pub returns-in_ok-put_symbol-in-len1-up-2 : goal.returns-in_ok-put_symbol-in-len1-up-2
returns-in_ok-put_symbol-in-len1-up-2 c rest h =
    let closed = sym symbol.CloseParen ∷ rest in
    let fields = any_with comma (map ty_written c.args.fields.now) closed in
    rw (fields-listed ty_written c.args.fields.now rest c.in-len1-up.len_at_least)
    (c.in_ok-put_symbol-in-len1-up-2.ensures fields (c.in_ok-put_list-in-len1-up.ensures closed (c.in_ok-put_symbol-in-len1-up.ensures rest h)))
