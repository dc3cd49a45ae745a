-- Tokens without their places.
use Rattle.std.specs.Prelude.{List, map}
use Rattle.rb_syntax.specs.declared.token.Token.{Token}
use Rattle.rb_syntax.specs.declared.token.Placed.{Placed}

-- the tokens alone, in their order, without the bytes at which they begin
abbrev pub tokens : List Placed → List Token
tokens placed = map (λ p. p.token) placed
