use Rattle.std.proofs.Common.{length, subst, sym}
use Rattle.std.proofs.lemmas.Result.{IfOk-weaker}
use Rattle.rb_syntax.specs.Lexing.{IsWithin}
use Rattle.rb_syntax.proofs.PieceLemmas.{piece_at-within}
use Rattle.rb_syntax.proofs.piece.next_piece.Goals as goal

pub returns-clause-within : goal.returns-clause-within
returns-clause-within c h = IfOk-weaker c.piece_at.result _ _
    (λ p e. subst (IsWithin (length c.args.bytes.now)) (sym e) (piece_at-within c.args.bytes.now h)) c.piece_at.ensures
