-- The first token, which is taken where it passes a test.
use Rattle.std.proofs.Common.{◌≡◌, ◌-◌, List, [], ◌∷◌, length, take, drop, Bool, true, false, Ok, Err, refl, sym, ap}
use Rattle.rb_syntax.specs.declared.token.Placed.{Placed}
use Rattle.rb_syntax.specs.declared.token.Token.{Token}
use Rattle.rb_syntax.specs.Tokens.{tokens}
use Rattle.rb_read.specs.inner.Combining.{stuck, at_front, passing_token}
use Rattle.rb_read.proofs.Loops.{tokens-rest, tokens-length}

pub taken : (test : Token → Bool) (ps : List Placed) → at_front test (tokens ps) ≡ true
    → passing_token test (tokens ps) ≡ Ok (tt, tokens (take (length ps - 1) (drop 1 ps)))
unfolding passing_token
taken test [] h = cc
taken test (p ∷ ps) h = rw h (ap (λ us. Ok (tt, us)) (sym (tokens-rest (p ∷ ps))))

pub not_taken : (test : Token → Bool) (ps : List Placed) → at_front test (tokens ps) ≡ false
    → passing_token test (tokens ps) ≡ Err (stuck (length ps))
unfolding passing_token
not_taken test [] h = refl
not_taken test (p ∷ ps) h = rw h (ap (λ n. Err (stuck n)) (sym (tokens-length (p ∷ ps))))
