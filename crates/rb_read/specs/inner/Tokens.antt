-- Readers of one token. Each is stuck where another token stands, or none.
use Rattle.std.specs.Prelude.{ℕ, suc, ◌-◌, ◌^◌, ◌∷◌, length, nat_lt, if◌then◌else◌, Ok, Err}
use Rattle.rb_syntax.specs.declared.token.Token.TheVariants as token
use Rattle.rb_syntax.specs.declared.tree.NameTree.{NameTree}
use Rattle.rb_syntax.specs.Spelling.{is_uint_width}
use Rattle.rb_read.specs.inner.Combining.{Reader, stuck, ◌>>=◌}

-- a name that begins with a small letter, with the number of its token, of `total` tokens in all
unfoldable pub lower_name : ℕ → Reader NameTree
lower_name total (token.Lower name ∷ ts) = Ok (record { at = total - suc (length ts); text = name }, ts)
lower_name total ts = Err (stuck (length ts))

-- a name that begins with a capital, with the number of its token, of `total` tokens in all
unfoldable pub upper_name : ℕ → Reader NameTree
upper_name total (token.Upper name ∷ ts) = Ok (record { at = total - suc (length ts); text = name }, ts)
upper_name total ts = Err (stuck (length ts))

-- a number, with no bound of its own
unfoldable pub number : Reader ℕ
number (token.Num n ∷ ts) = Ok (n, ts)
number ts = Err (stuck (length ts))

-- the number of a field, below 2^32; it is stuck at one of 2^32 or more
unfoldable pub field : Reader ℕ
field ts = number ts >>= λ x. if nat_lt x.0 (2 ^ 32) then Ok x else Err (stuck (length ts))

-- the width in bits of a type of integers, 1 to 64; it is stuck at one of 0 or over 64
unfoldable pub width : Reader ℕ
width (token.Uint bits ∷ ts) = if is_uint_width bits then Ok (bits, ts) else Err (stuck (suc (length ts)))
width ts = Err (stuck (length ts))
