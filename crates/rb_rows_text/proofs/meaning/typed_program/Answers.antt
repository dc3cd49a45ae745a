use Rattle.std.proofs.Common.{subst, arith}
use Rattle.rb_syntax.specs.Cutting.{LexesTo}
use Rattle.rb_syntax.specs.Lexing.{Lexed}
use Rattle.rb_syntax.specs.Tokens.{tokens}
use Rattle.rb_accept.proofs.Numbered.{is_written}
use Rattle.rb_rows_text.proofs.meaning.typed_program.Goals as goal

pub check-requires : goal.check-requires
check-requires c =
    let text = c.args.text.now in
    let right = subst (λ (read : Lexed). LexesTo text read) c.in_ok-placed.ensures.answer c.in_ok-placed.ensures.right in
    let read = rw c.as_slice.ensures.value at c.in_ok-file.ensures.answer in
    c.in_ok-program.ensures.well (tokens _) (is_written text _ _ (omega (arith, c.if-text-gt-MOST.false)) (record { cut = right; tree = read }))
