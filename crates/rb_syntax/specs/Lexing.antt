-- The tokens of a text: its pieces, one after the other.
use Rattle.std.specs.Prelude.{◌≡◌, ℕ, zero, suc, ◌+◌, ◌<◌, ◌≤◌, List, [], ◌∷◌, drop, length, ◌==◌, if◌then◌else◌, Result, Ok, Err}
use Rattle.std.specs.declared.vec.Vec.{Vec}
use Rattle.std.specs.declared.alloc.Global.{Global}
use Rattle.rb_syntax.specs.declared.token.Placed.{Placed}
use Rattle.rb_syntax.specs.declared.piece.Piece.{Piece}
use Rattle.rb_syntax.specs.declared.piece.Piece.TheVariants as piece
use Rattle.rb_syntax.specs.declared.lex.LexFault.{LexFault}
use Rattle.rb_syntax.specs.declared.lex.LexFault.TheVariants.{BadByte, NumberTooWide, Memory}
use Rattle.rb_syntax.specs.Pieces.{piece_at}

-- tokens with the bytes at which they begin, or the first fault
abbrev pub Lexed : Type 0
Lexed = Result (List Placed) LexFault

-- a token in front of the tokens behind it; where a fault is behind it, that fault
unfoldable pub before : Placed → Lexed → Lexed
before p (Ok ps) = Ok (p ∷ ps)
before p (Err e) = Err e

-- what is read from byte `at` on, where this piece stands; `behind` gives what is read behind a piece of a length
unfoldable pub with_piece : ℕ → Piece → (ℕ → Lexed) → Lexed
with_piece at (piece.Gap len) behind = behind len
with_piece at (piece.Token t len) behind = before (record { token = t; at = at }) (behind len)
with_piece at (piece.Bad offset) behind = Err (BadByte (at + offset))
with_piece at piece.Wide behind = Err (NumberTooWide at)

-- the tokens, or the first fault, of bytes of which the first is byte `at` of a text, in at most so many pieces
unfoldable pub lexing_from : ℕ → ℕ → List ℕ → Lexed
lexing_from zero at bytes = Ok []
lexing_from (suc n) at bytes =
    if length bytes == 0 then Ok [] else with_piece at (piece_at bytes)
    (λ len. lexing_from n (at + len) (drop len bytes))

-- the tokens of a text, or its first fault; each piece has a byte, so a text has no more pieces than bytes
abbrev pub lexing_of : List ℕ → Lexed
lexing_of bytes = lexing_from (length bytes) 0 bytes

-- the answer is what is read of a text: its tokens, or its first fault; or want of memory, which says nothing of it
abbrev pub IsAnswer : Lexed → Result (Vec Placed Global) LexFault → Type 0
IsAnswer read (Ok tokens) = read ≡ Ok tokens.items
IsAnswer read (Err (BadByte at)) = read ≡ Err (BadByte at)
IsAnswer read (Err (NumberTooWide at)) = read ≡ Err (NumberTooWide at)
IsAnswer read (Err Memory) = Unit {0}

-- the piece has a byte and lies in m bytes, and a bad byte is among them; of a number that is too wide nothing is
-- said
abbrev pub IsWithin : ℕ → Piece → Type 0
IsWithin m (piece.Gap len) = (0 < len) × (len ≤ m)
IsWithin m (piece.Token t len) = (0 < len) × (len ≤ m)
IsWithin m (piece.Bad offset) = offset < m
IsWithin m piece.Wide = Unit {0}
