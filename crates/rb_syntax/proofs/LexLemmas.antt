-- The loop over the pieces of a text.
use Rattle.std.proofs.Common.{◌≡◌, ◌≢◌, ℕ, zero, suc, ◌+◌, ◌-◌, ◌<◌, List, [], ◌∷◌, ◌++◌, length, take, drop, Ok, Err, ◌==◌, false, refl, sym, ◌∙◌, ap, arith, append_assoc, length-drop}
use Rattle.std.proofs.Math.Seq.{take-length}
use Rattle.std.proofs.lemmas.List.{append-nil}
use Rattle.std.proofs.lemmas.Grind.{common_steps}
use Rattle.rb_syntax.specs.declared.token.Token.{Token}
use Rattle.rb_syntax.specs.declared.token.Placed.{Placed}
use Rattle.rb_syntax.specs.declared.piece.Piece.TheVariants as piece
use Rattle.rb_syntax.specs.declared.lex.LexFault.TheVariants.{BadByte, NumberTooWide}
use Rattle.rb_syntax.specs.Pieces.{piece_at}
use Rattle.rb_syntax.specs.Lexing.{Lexed, before, with_piece, lexing_from}

-- what was read before
unfoldable pub in_front : List Placed → Lexed → Lexed
in_front xs (Ok ys) = Ok (xs ++ ys)
in_front xs (Err e) = Err e

in_front-before : (xs : List Placed) (p : Placed) (r : Lexed) → in_front (xs ++ p ∷ []) r ≡ in_front xs (before p r)
unfolding in_front before
in_front-before xs p (Ok ys) = ap (λ (zs : List Placed). Ok zs) (append_assoc xs (p ∷ []) ys)
in_front-before xs p (Err e) = refl

pub in_front-nil : (r : Lexed) → in_front [] r ≡ r
unfolding in_front
in_front-nil (Ok xs) = refl
in_front-nil (Err e) = refl

pub rest_after : (bs : List ℕ) (n : ℕ) → take (length bs - n) (drop n bs) ≡ drop n bs
rest_after bs n = rw (← length-drop n bs) (take-length (drop n bs))

pub lexing_from-empty : (n at : ℕ) (bs : List ℕ) → length bs ≡ 0 → lexing_from n at bs ≡ Ok []
unfolding lexing_from
lexing_from-empty zero at bs e = refl
lexing_from-empty (suc n) at bs e = rw e refl

-- no more pieces
pub at_end : (n at : ℕ) (bs : List ℕ) (front : List Placed) (total : Lexed) → length bs ≡ 0 → in_front front (lexing_from n at bs) ≡ total → total ≡ Ok front
unfolding in_front
at_end n at bs front total e h =
    let k : in_front front (Ok []) ≡ total = rw (lexing_from-empty n at bs e) at h in sym k ∙ ap (λ (xs : List Placed). Ok xs) (append-nil front)

-- one turn of the loop
module _ (count i at : ℕ) (bs : List ℕ) (front : List Placed) (total : Lexed) (more : i < count) (some : length bs ≢ 0)
    (so_far : in_front front (lexing_from (count - i) at bs) ≡ total) where
  turn : in_front front (with_piece at (piece_at bs) (λ len. lexing_from (count - (i + 1)) (at + len) (drop len bs))) ≡ total
  unfolding lexing_from
  turn =
      let n : count - i ≡ suc (count - (i + 1)) = omega arith in
      let e : (length bs == 0) ≡ false = grind (arith, common_steps) in
      let h : in_front front (lexing_from (suc (count - (i + 1))) at bs) ≡ total = rw n at so_far in rw e at h

  pub turn-gap : (len : ℕ) → piece_at bs ≡ piece.Gap len → in_front front (lexing_from (count - (i + 1)) (at + len) (drop len bs)) ≡ total
  unfolding with_piece
  turn-gap len e = rw e at turn

  pub turn-token : (t : Token) (len : ℕ) → piece_at bs ≡ piece.Token t len
      → in_front (front ++ record { token = t; at = at } ∷ []) (lexing_from (count - (i + 1)) (at + len) (drop len bs)) ≡ total
  unfolding with_piece
  turn-token t len e =
      let h : in_front front (before (record { token = t; at = at }) (lexing_from (count - (i + 1)) (at + len) (drop len bs))) ≡ total = rw e at turn in
      in_front-before front (record { token = t; at = at }) _ ∙ h

  pub turn-bad : (offset : ℕ) → piece_at bs ≡ piece.Bad offset → total ≡ Err (BadByte (at + offset))
  unfolding with_piece in_front
  turn-bad offset e = let h : Err (BadByte (at + offset)) ≡ total = rw e at turn in sym h

  pub turn-wide : piece_at bs ≡ piece.Wide → total ≡ Err (NumberTooWide at)
  unfolding with_piece in_front
  turn-wide e = let h : Err (NumberTooWide at) ≡ total = rw e at turn in sym h
