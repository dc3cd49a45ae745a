-- Places in a file: bytes of it, found by the numbers of tokens. Both are counted from 0.
use Rattle.std.specs.Prelude.{ℕ, List, Option, Some, None, slice_get}
use Rattle.rb_syntax.specs.declared.token.Placed.{Placed}

-- the byte at which a token begins, or the file's length where there is none
abbrev pub place_of_token : Option Placed → ℕ → ℕ
place_of_token None size = size
place_of_token (Some p) size = p.at

-- the byte at which the token of number `t` begins, or the file's length `size` behind the last token
abbrev pub byte_of : List Placed → ℕ → ℕ → ℕ
byte_of placed size t = place_of_token (slice_get placed t) size
