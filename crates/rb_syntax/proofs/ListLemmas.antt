-- Lists of parts: how they are written.
use Rattle.std.proofs.Common.{◌≡◌, ◌∙◌, ℕ, zero, suc, ◌<◌, ◌≤◌, List, [], ◌∷◌, length, get_or, drop, map, add-one, refl, sym as turned, ap, arith}
use Rattle.std.proofs.lemmas.List.{drop_more}
use Rattle.rb_syntax.specs.declared.token.Symbol.TheVariants as symbol
use Rattle.rb_syntax.specs.declared.token.Token.{Token}
use Rattle.rb_syntax.specs.Written.{Written, Writing, token, tokens_in, each_behind, any_with, some_with}
use Rattle.rb_syntax.specs.Spelling.{Deep, at_level, fields_written, comma, sym}

-- parts of a type, where there is one
pub fields-some : {T : Type 0} (f : T → Deep) (l : ℕ) (xs : List T) (rest : List Written) → 1 ≤ length xs
    → fields_written (at_level l (map f xs)) rest ≡ sym symbol.OpenParen ∷ any_with comma (at_level l (map f xs)) (sym symbol.CloseParen ∷ rest)
fields-some f l [] rest h = absurd (omega arith)
fields-some f l (x ∷ xs) rest h = refl

pub fields-listed : {T : Type 0} (f : T → Writing) (xs : List T) (rest : List Written) → 1 ≤ length xs
    → fields_written (map f xs) rest ≡ sym symbol.OpenParen ∷ any_with comma (map f xs) (sym symbol.CloseParen ∷ rest)
fields-listed f [] rest h = absurd (omega arith)
fields-listed f (x ∷ xs) rest h = refl

-- and where there is none
pub fields-none : {T : Type 0} (f : T → Deep) (l : ℕ) (xs : List T) (rest : List Written) → length xs < 1 → fields_written (at_level l (map f xs)) rest ≡ rest
fields-none f l [] rest h = refl
fields-none f l (x ∷ xs) rest h = absurd (omega (arith, h))

-- a list that may be empty has the tokens of one that may not
pub any-some : (separator : Token) (ws : List Writing) (rest : List Written) → tokens_in (any_with separator ws rest) ≡ tokens_in (some_with separator ws rest)
any-some separator [] rest = refl
any-some separator (w ∷ ws) rest = refl

-- parts that are written from one level on
pub at-level : {T : Type 0} (f : T → Deep) (l : ℕ) (xs : List T) → at_level l (map f xs) ≡ map (λ (x : T). f x l) xs
at-level f l [] = refl
at-level f l (x ∷ xs) = ap (λ (ws : List Writing). f x l ∷ ws) (at-level f l xs)

-- the part at place i, with those behind it
pub part-left : {T : Type 0} (xs : List T) (i n : ℕ) (x : T) → n ≡ suc i → i < length xs → x ≡ get_or xs i x → x ∷ drop n xs ≡ drop i xs
part-left {T} xs i n x next within is =
    ap (λ (y : T). y ∷ drop n xs) is ∙ ap (λ (m : ℕ). get_or xs i x ∷ drop m xs) (next ∙ turned (add-one i)) ∙ turned (drop_more xs i x within)

-- parts behind i others, with commas between: one before each where i is above 0, and else before each but the first
abbrev pub behind : ℕ → List Writing → Writing
behind zero ws = any_with comma ws
behind (suc i) ws = each_behind comma ws

module _ {T : Type 0} (f : T → Deep) (l : ℕ) (xs : List T) where
  -- the parts from number i on
  abbrev pub parts_from : ℕ → Writing
  parts_from i = behind i (at_level l (map f (drop i xs)))

  -- the first part, in front of the others
  pub part-first : (i n : ℕ) (x : T) (rest : List Written) → n ≡ suc i → i < length xs → x ≡ get_or xs i x → i ≤ 0 → f x l (parts_from n rest) ≡ parts_from i rest
  part-first zero n x rest next within is first =
      ap (λ (m : ℕ). f x l (parts_from m rest)) next ∙ ap (λ (ys : List T). any_with comma (at_level l (map f ys)) rest) (part-left xs 0 1 x refl within is)
  part-first (suc i) n x rest next within is first = absurd (omega (arith, first))

  -- a later part, in front of those behind it
  pub part-later : (i n : ℕ) (x : T) (rest : List Written) → n ≡ suc i → i < length xs → x ≡ get_or xs i x → 0 < i → token comma ∷ f x l (parts_from n rest) ≡ parts_from i rest
  part-later zero n x rest next within is later = absurd (omega (arith, later))
  part-later (suc i) n x rest next within is later =
      ap (λ (m : ℕ). token comma ∷ f x l (parts_from m rest)) next ∙ ap (λ (ys : List T). each_behind comma (at_level l (map f ys)) rest) (part-left xs (suc i) (suc (suc i)) x refl within is)
