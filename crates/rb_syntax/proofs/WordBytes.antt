-- Which bytes may stand in names and numbers.
use Rattle.std.proofs.Common.{◌≡◌, ℕ, Bool, true, false, ◌||◌, ◌==◌, refl}
use Rattle.std.specs.Char.{is_ascii_digit, is_ascii_uppercase, is_ascii_lowercase, is_ascii_alphabetic}
use Rattle.rb_core.specs.WellNumbered.{either, is_word_byte}

third : (u l d x : Bool) → d ≡ true → either u (either l (either d x)) ≡ true
third true l d x e = refl
third false true d x e = refl
third false false true x e = refl
third false false false x e = cc

first_two : (u l d x : Bool) → (u || l) ≡ true → either u (either l (either d x)) ≡ true
first_two true l d x e = refl
first_two false true d x e = refl
first_two false false d x e = cc

-- a digit may
pub digit-word : (b : ℕ) → is_ascii_digit b ≡ true → is_word_byte b ≡ true
digit-word b e = third (is_ascii_uppercase b) (is_ascii_lowercase b) (is_ascii_digit b) (b == 95) e

-- a letter may
pub letter-word : (b : ℕ) → is_ascii_alphabetic b ≡ true → is_word_byte b ≡ true
letter-word b e = first_two (is_ascii_uppercase b) (is_ascii_lowercase b) (is_ascii_digit b) (b == 95) e
