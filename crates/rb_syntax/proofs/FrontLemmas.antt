-- The tokens before the first fault, piece by piece.
use Rattle.std.proofs.Common.{◌≡◌, ℕ, zero, suc, ◌+◌, ◌-◌, ◌<◌, ◌≤◌, List, [], ◌∷◌, length, drop, false, ◌==◌, Some, None, Ok, Err, refl, sym, ◌∙◌, ap, arith, length-drop, inl, inr}
use Rattle.std.proofs.lemmas.List.{drop-drop}
use Rattle.std.proofs.lemmas.Grind.{common_steps}
use Rattle.rb_syntax.specs.declared.token.Token.{Token}
use Rattle.rb_syntax.specs.declared.token.Placed.{Placed}
use Rattle.rb_syntax.specs.declared.piece.Piece.{Piece}
use Rattle.rb_syntax.specs.declared.piece.Piece.TheVariants as piece
use Rattle.rb_syntax.specs.declared.lex.LexFault.TheVariants.{BadByte, NumberTooWide, Memory}
use Rattle.rb_syntax.specs.Pieces.{piece_at}
use Rattle.rb_syntax.specs.Lexing.{Lexed, before, with_piece, lexing_from}
use Rattle.rb_syntax.specs.Cutting.{Cut}
use Rattle.rb_syntax.specs.Cutting as cut
use Rattle.rb_syntax.specs.Fronts.{Front, ends, front_with, with_front, front_from, front_at, front, AgreesWith, StopsText, IsFrontOf}
use Rattle.rb_syntax.proofs.TokenLemmas.{none-empty}
use Rattle.rb_syntax.proofs.CutLemmas.{IsFront, piece_at-front}

-- More turns than bytes change nothing --------------------------------------------------------

same-rest : (at : ℕ) (bytes : List ℕ) (p : Piece) (f g : ℕ → Front) → IsFront bytes p → ((n : ℕ) → 0 < n → f n ≡ g n) → with_front at p f ≡ with_front at p g
unfolding with_front
same-rest at bytes (piece.Gap n) f g w h = h n w.0
same-rest at bytes (piece.Token t n) f g w h = ap (front_with (record { token = t; at = at })) (h n w.0)
same-rest at bytes (piece.Bad k) f g w h = refl
same-rest at bytes piece.Wide f g w h = refl

none-left : (n at : ℕ) (bytes : List ℕ) → length bytes ≡ 0 → front_from n at bytes ≡ ends None
unfolding front_from
none-left zero at bytes e = refl
none-left (suc n) at bytes e = rw e refl

-- a piece is there
one-more : (n at : ℕ) (bytes : List ℕ) → 0 < length bytes → front_from (suc n) at bytes ≡ with_front at (piece_at bytes) (λ len. front_from n (at + len) (drop len bytes))
unfolding front_from
one-more n at bytes h = let e : (length bytes == 0) ≡ false = grind (arith, common_steps) in rw e refl

lexed-more : (n at : ℕ) (bytes : List ℕ) → 0 < length bytes → lexing_from (suc n) at bytes ≡ with_piece at (piece_at bytes) (λ len. lexing_from n (at + len) (drop len bytes))
unfolding lexing_from
lexed-more n at bytes h = let e : (length bytes == 0) ≡ false = grind (arith, common_steps) in rw e refl

turns : (n m at : ℕ) (bytes : List ℕ) → length bytes ≤ n → length bytes ≤ m → front_from n at bytes ≡ front_from m at bytes
turns zero m at bytes h k = let z : length bytes ≡ 0 = omega (arith, h) in none-left zero at bytes z ∙ sym (none-left m at bytes z)
turns (suc n) zero at bytes h k = let z : length bytes ≡ 0 = omega (arith, k) in none-left (suc n) at bytes z ∙ sym (none-left zero at bytes z)
turns (suc n) (suc m) at [] h k = none-left (suc n) at [] refl ∙ sym (none-left (suc m) at [] refl)
turns (suc n) (suc m) at (b ∷ bs) h k =
    one-more n at (b ∷ bs) (omega arith)
    ∙ same-rest at (b ∷ bs) (piece_at (b ∷ bs)) _ _ (piece_at-front (b ∷ bs) (omega arith))
    (λ len l. turns n m (at + len) (drop len (b ∷ bs)) (omega (arith, h, l, length-drop len (b ∷ bs))) (omega (arith, k, l, length-drop len (b ∷ bs))))
    ∙ sym (one-more m at (b ∷ bs) (omega arith))

-- the text from a byte on, by the piece there
pub by-piece : (text : List ℕ) (at : ℕ) → at < length text → front_at text at ≡ with_front at (piece_at (drop at text)) (λ len. front_at text (at + len))
by-piece text at h =
    let n : length text - at ≡ suc (length text - at - 1) = omega (arith, h) in
    let l : 0 < length (drop at text) = omega (arith, h, length-drop at text) in
    ap (λ (n : ℕ). front_from n at (drop at text)) n
    ∙ one-more (length text - at - 1) at (drop at text) l
    ∙ same-rest at (drop at text) (piece_at (drop at text)) _ _ (piece_at-front (drop at text) l)
    (λ len s. let d : drop len (drop at text) ≡ drop (at + len) text = drop-drop len at text in
    rw d (turns (length text - at - 1) (length text - (at + len)) (at + len) (drop (at + len) text) (omega (arith, h, s, length-drop (at + len) text)) (omega (arith, length-drop (at + len) text))))

pub at-end : (text : List ℕ) (at : ℕ) → length text ≤ at → front_at text at ≡ ends None
at-end text at h = none-left (length text - at) at (drop at text) (omega (arith, h, length-drop at text))

module _ (text : List ℕ) (at : ℕ) (h : at < length text) where
  pub at-gap : (len : ℕ) → piece_at (drop at text) ≡ piece.Gap len → front_at text at ≡ front_at text (at + len)
  unfolding with_front
  at-gap len e = let p = by-piece text at h in rw e at p

  pub at-token : (t : Token) (len : ℕ) → piece_at (drop at text) ≡ piece.Token t len → front_at text at ≡ front_with (record { token = t; at = at }) (front_at text (at + len))
  unfolding with_front
  at-token t len e = let p = by-piece text at h in rw e at p

  pub at-bad : (offset : ℕ) → piece_at (drop at text) ≡ piece.Bad offset → front_at text at ≡ ends (Some (at + offset))
  unfolding with_front
  at-bad offset e = let p = by-piece text at h in rw e at p

  pub at-wide : piece_at (drop at text) ≡ piece.Wide → front_at text at ≡ ends (Some at)
  unfolding with_front
  at-wide e = let p = by-piece text at h in rw e at p

-- The laws --------------------------------------------------------------------------------------

agrees-before : (p : Placed) (r : Lexed) (f : Front) → AgreesWith r f → AgreesWith (before p r) (front_with p f)
unfolding before
agrees-before p (Ok ts) f h = ap (front_with p) h
agrees-before p (Err (BadByte q)) f h = h
agrees-before p (Err (NumberTooWide q)) f h = h
agrees-before p (Err Memory) f h = h

agrees-piece : (at : ℕ) (p : Piece) (r : ℕ → Lexed) (f : ℕ → Front) → ((n : ℕ) → AgreesWith (r n) (f n)) → AgreesWith (with_piece at p r) (with_front at p f)
unfolding with_piece with_front
agrees-piece at (piece.Gap n) r f h = h n
agrees-piece at (piece.Token t n) r f h = agrees-before (record { token = t; at = at }) (r n) (f n) (h n)
agrees-piece at (piece.Bad k) r f h = refl
agrees-piece at piece.Wide r f h = refl

agrees-from : (n at : ℕ) (bytes : List ℕ) → AgreesWith (lexing_from n at bytes) (front_from n at bytes)
unfolding lexing_from front_from
agrees-from zero at bytes = refl
agrees-from (suc n) at [] = refl
agrees-from (suc n) at (b ∷ bs) =
    let some : 0 < length (b ∷ bs) = omega arith in
    rw (lexed-more n at (b ∷ bs) some, one-more n at (b ∷ bs) some)
    (agrees-piece at (piece_at (b ∷ bs)) (λ len. lexing_from n (at + len) (drop len (b ∷ bs))) (λ len. front_from n (at + len) (drop len (b ∷ bs)))
    (λ len. agrees-from n (at + len) (drop len (b ∷ bs))))

cut-piece : (at : ℕ) (bytes : List ℕ) (p : Piece) (rest : ℕ → Front) → IsFront bytes p
    → ((n : ℕ) → 0 < n → Cut (StopsText (rest n).fault) (at + n) (drop n bytes) (rest n).tokens)
    → Cut (StopsText (with_front at p rest).fault) at bytes (with_front at p rest).tokens
unfolding with_front
cut-piece at bytes (piece.Gap n) rest w go = cut.gap at n bytes (rest n).tokens w.1 w.2 (go n w.0)
cut-piece at bytes (piece.Token t n) rest w go = cut.token at n t bytes (rest n).tokens w.1 w.2 (go n w.0)
cut-piece at bytes (piece.Bad k) rest w go = cut.stop at bytes (inl (k, refl, w))
cut-piece at bytes piece.Wide rest w go = cut.stop at bytes (inr (refl, w))

cut-from : (n at : ℕ) (bytes : List ℕ) → length bytes ≤ n → Cut (StopsText (front_from n at bytes).fault) at bytes (front_from n at bytes).tokens
unfolding front_from
cut-from zero at bytes h = cut.stop at bytes (none-empty bytes (omega arith))
cut-from (suc n) at [] h = cut.stop at [] refl
cut-from (suc n) at (b ∷ bs) h =
    rw (one-more n at (b ∷ bs) (omega arith)) (cut-piece at (b ∷ bs) (piece_at (b ∷ bs)) (λ len. front_from n (at + len) (drop len (b ∷ bs))) (piece_at-front (b ∷ bs) (omega arith))
    (λ len l. cut-from n (at + len) (drop len (b ∷ bs)) (omega (arith, h, l, length-drop len (b ∷ bs)))))

pub is-front : (text : List ℕ) → IsFrontOf text (front text)
is-front text = record { cut = cut-from (length text) 0 text (omega arith); agrees = agrees-from (length text) 0 text }
