-- The front of a text: its tokens before its first fault, which it has although it may have no tokens as a whole.
use Rattle.std.specs.Prelude.{◌≡◌, ◌⊎◌, ℕ, zero, suc, ◌+◌, ◌-◌, ◌<◌, ◌≤◌, List, [], ◌∷◌, drop, length, ◌==◌, if◌then◌else◌, Option, Some, None, Ok, Err}
use Rattle.rb_syntax.specs.declared.token.Placed.{Placed}
use Rattle.rb_syntax.specs.declared.piece.Piece.{Piece}
use Rattle.rb_syntax.specs.declared.piece.Piece.TheVariants as piece
use Rattle.rb_syntax.specs.declared.front.Next.{Next}
use Rattle.rb_syntax.specs.declared.front.Next.TheVariants as next
use Rattle.rb_syntax.specs.declared.lex.LexFault.TheVariants.{BadByte, NumberTooWide, Memory}
use Rattle.rb_syntax.specs.Pieces.{piece_at}
use Rattle.rb_syntax.specs.Lexing.{Lexed, lexing_of}
use Rattle.rb_syntax.specs.Cutting.{Cut, IsBadBehind, IsWideNumber}

-- the tokens before the first fault, and the byte of that fault, if there is one
pub record Front : Type 0 where
  pub tokens : List Placed
  pub fault : Option ℕ

-- the front without a token, with this fault, if there is one
abbrev pub ends : Option ℕ → Front
ends fault = record { tokens = []; fault = fault }

-- the front with token p before its others
abbrev pub front_with : Placed → Front → Front
front_with p f = record { tokens = p ∷ f.tokens; fault = f.fault }

-- the front from byte `at` on, where this piece stands; `rest` gives the front behind a piece of a length
unfoldable pub with_front : ℕ → Piece → (ℕ → Front) → Front
with_front at (piece.Gap len) rest = rest len
with_front at (piece.Token t len) rest = front_with (record { token = t; at = at }) (rest len)
with_front at (piece.Bad offset) rest = ends (Some (at + offset))
with_front at piece.Wide rest = ends (Some at)

-- the front of bytes of which the first is byte `at` of a text, in at most so many pieces
unfoldable pub front_from : ℕ → ℕ → List ℕ → Front
front_from zero at bytes = ends None
front_from (suc n) at bytes =
    if length bytes == 0 then ends None else with_front at (piece_at bytes)
    (λ len. front_from n (at + len) (drop len bytes))

-- the front of a text from byte `at` on: its tokens from there to the first fault, and that fault, if any
abbrev pub front_at : List ℕ → ℕ → Front
front_at text at = front_from (length text - at) at (drop at text)

-- the front of a whole text: its tokens before the first fault, and the byte of that fault, if there is one
abbrev pub front : List ℕ → Front
front text = front_from (length text) 0 text

-- the answer is what stands next in a text from a byte on: a token and the byte behind it, the first fault, or the
-- end
abbrev pub IsNext : List ℕ → ℕ → Next → Type 0
IsNext text from (next.Token p end) =
    (front_at text from ≡ front_with p (front_at text end)) × (from < end) × (end ≤ length text)
IsNext text from (next.Fault p) = front_at text from ≡ ends (Some p)
IsNext text from next.End = front_at text from ≡ ends None

-- Laws.

-- the front fits what is read of its text: the same tokens and no fault, or a fault at the byte that `lex` refuses
abbrev pub AgreesWith : Lexed → Front → Type 0
AgreesWith (Ok tokens) f = f ≡ record { tokens = tokens; fault = None }
AgreesWith (Err (BadByte p)) f = f.fault ≡ Some p
AgreesWith (Err (NumberTooWide p)) f = f.fault ≡ Some p
AgreesWith (Err Memory) f = ⊥

-- what is left from byte `at` on stops a text: without a fault it is nothing; fault p is a bad byte behind so many
-- good ones there, or where a number of over 64 bits begins
abbrev pub StopsText : Option ℕ → ℕ → List ℕ → Type 0
StopsText None at rest = rest ≡ []
StopsText (Some p) at rest = ((k : ℕ) × (p ≡ at + k) × IsBadBehind k rest) ⊎ ((p ≡ at) × IsWideNumber rest)

-- the front is right for the text: the bytes up to the place where its fault, or the run with it, begins, or to the
-- end, are cut into their longest pieces, its tokens are those among them, and it agrees with `lex`
pub record IsFrontOf (text : List ℕ) (f : Front) : Type 0 where
  pub cut : Cut (StopsText f.fault) 0 text f.tokens
  pub agrees : AgreesWith (lexing_of text) f

-- of each text the front has the tokens among its longest pieces before the first fault, and that fault
abbrev pub FrontsAreRight : Type 0
FrontsAreRight = (text : List ℕ) → IsFrontOf text (front text)
