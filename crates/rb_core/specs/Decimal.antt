-- Numbers as words: decimal digits without a leading zero. A word is a list of bytes, and the digits are the
-- bytes from 48, which is `0`, to 57, which is `9`.
use Rattle.std.specs.Prelude.{ℕ, List, Bool, ◌&&◌, ◌||◌, ◌==◌, nat_lt, nat_le, length, slice_index, Option, Some, None, if◌then◌else◌}
use Rattle.std.specs.Char.{is_ascii_digit}
use Rattle.std.specs.List.{list_all}
use Rattle.std.specs.Str.Parse.{digits_value}

-- these bytes are a numeral: each is a digit, and there is one alone or the first is not `0`; no bytes are
-- none
abbrev pub is_numeral : List ℕ → Bool
is_numeral ds = (length ds == 1 || nat_lt 48 (slice_index ds 0)) && list_all is_ascii_digit ds

-- the number that a word spells, if it is from `low` to `high`, both included; none where the word is no
-- numeral, or the number is another
abbrev pub number_in : ℕ → ℕ → List ℕ → Option ℕ
number_in low high word =
    if is_numeral word && (nat_le low (digits_value 10 word) && nat_le (digits_value 10 word) high)
    then Some (digits_value 10 word) else None
