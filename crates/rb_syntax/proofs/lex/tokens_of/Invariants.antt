use Rattle.std.proofs.Common.{◌≡◌, ◌+◌, ◌-◌, ◌≤◌, length}
use Rattle.rb_syntax.specs.Lexing.{lexing_from, lexing_of}
use Rattle.rb_syntax.proofs.LexLemmas.{in_front}
use Rattle.rb_syntax.proofs.lex.tokens_of.Given as goal

abbrev pub invariant-loop-turn : goal.invariant-loop-turn
invariant-loop-turn l = record {
  place : l.at + length l.left ≡ length l.bytes;
  -- each turn takes a byte
  turns : length l.left ≤ l._turn-end - l._turn;
  same : in_front l.tokens.items (lexing_from (l._turn-end - l._turn) l.at l.left) ≡ lexing_of l.bytes;
}
