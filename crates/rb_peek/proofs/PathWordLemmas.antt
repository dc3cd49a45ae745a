-- Words in a set: what its keys make of a test, and of a word that is added.
use Rattle.std.proofs.Common.{◌≡◌, ℕ, ◌||◌, ◌&&◌, nat_eq, Bool, true, false, List, [], ◌∷◌, ◌++◌, refl, sym, ap, ◌∙◌, arith}
use Rattle.std.specs.Prelude.{if◌then◌else◌}
use Rattle.std.specs.List.{list_any}
use Rattle.std.proofs.lemmas.Bool.{and_parts}
use Rattle.std.proofs.lemmas.List.Folds.{list_any-append}
use Rattle.std.proofs.lemmas.Grind.{common_steps}
use Rattle.rb_image.specs.declared.kept.Kept.{Kept}
use Rattle.rb_peek.specs.declared.path_words.WordAt.{WordAt}
use Rattle.rb_peek.specs.inner.Checking.{has_word, is_kept_at, with_word}

pub or_assoc : (a b c : Bool) → ((a || b) || c) ≡ (a || (b || c))
or_assoc true b c = refl
or_assoc false b c = refl

or_false : (a : Bool) → (a || false) ≡ a
or_false true = refl
or_false false = refl

same_nat : (a b : ℕ) → nat_eq a b ≡ true → a ≡ b
same_nat a b e = grind (arith, common_steps)

abbrev is_at : ℕ → ℕ → WordAt → Bool
is_at base place w = nat_eq base w.base && nat_eq place w.place

test_any : (ks : List WordAt) (test other : WordAt → Bool) → ((w : WordAt) → test w ≡ other w) → list_any test ks ≡ list_any other ks
test_any [] test other same = refl
test_any (k ∷ ks) test other same = ap (λ b. b || list_any test ks) (same k) ∙ ap (λ b. other k || b) (test_any ks test other same)

-- a word at this place is among the keys where the word is that it has
same_place : (ks : List WordAt) (v : WordAt) (base place : ℕ) → is_at base place v ≡ true → has_word ks base place ≡ list_any (is_at v.base v.place) ks
same_place ks v base place e =
    let b = and_parts (nat_eq base v.base) (nat_eq place v.place) e in
    ap (λ n. has_word ks n place) (same_nat base v.base b.0) ∙ ap (has_word ks v.base) (same_nat place v.place b.1)

-- the keys with one more
pub add_keys : (v : WordAt) (test : WordAt → Bool) → ((w : WordAt) → test w ≡ (nat_eq v.base w.base && nat_eq v.place w.place)) → (ks new : List WordAt) → new ≡ (if list_any test ks then ks else ks ++ v ∷ [])
    → (base place : ℕ) → has_word new base place ≡ (has_word ks base place || (nat_eq base v.base && nat_eq place v.place))
add_keys v test same ks new is base place = ap (λ xs. has_word xs base place) is ∙ turn (list_any test ks) refl
  where
    known : list_any test ks ≡ true → (b : Bool) → is_at base place v ≡ b → has_word ks base place ≡ (has_word ks base place || b)
    known h true at =
        let here : has_word ks base place ≡ true = same_place ks v base place at ∙ sym (test_any ks test (is_at v.base v.place) same) ∙ h in
        here ∙ ap (λ b. b || true) (sym here)
    known h false at = sym (or_false (has_word ks base place))

    turn : (b : Bool) → list_any test ks ≡ b → has_word (if b then ks else ks ++ v ∷ []) base place ≡ (has_word ks base place || is_at base place v)
    turn true h = known h (is_at base place v) refl
    turn false h = list_any-append (is_at base place) ks (v ∷ []) ∙ ap (λ b. has_word ks base place || b) (or_false (is_at base place v))

-- one word more of a list that is gone through
pub word_more : (old new : List WordAt) (k : Kept) (rest : List Kept) (base place : ℕ) → has_word new base place ≡ with_word old k base place
    → (has_word old base place || is_kept_at (k ∷ rest) base place) ≡ (has_word new base place || is_kept_at rest base place)
word_more old new k rest base place is =
    sym (or_assoc (has_word old base place) (nat_eq base k.base && nat_eq place k.place) (is_kept_at rest base place)) ∙ ap (λ b. b || is_kept_at rest base place) (sym is)

pub word_last : (found : List WordAt) (base place : ℕ) → (has_word found base place || is_kept_at [] base place) ≡ has_word found base place
word_last found base place = or_false (has_word found base place)
