-- Kinds of bytes, and how long a number at the front of bytes is.
use Rattle.std.specs.Prelude.{ℕ, List, [], ◌∷◌, Bool, ◌==◌, ◌||◌, not, if◌then◌else◌}
use Rattle.std.specs.Char.{is_ascii_digit}
use Rattle.std.specs.List.{prefix_len}

-- whether a byte is a blank: tab, line feed, carriage return or space
abbrev pub is_blank : ℕ → Bool
is_blank b = (b == 9) || (b == 10) || (b == 13) || (b == 32)

-- whether a byte goes on with a comment, which ends before a line feed
abbrev pub is_in_line : ℕ → Bool
is_in_line b = not (b == 10)

-- how many bytes at the front are a number without a leading zero: '0' alone, or digits; 0 where there is no digit
abbrev pub numeral_len : List ℕ → ℕ
numeral_len [] = 0
numeral_len (d ∷ ds) = if d == 48 then 1 else prefix_len is_ascii_digit (d ∷ ds)
