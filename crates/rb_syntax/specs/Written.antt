-- What a tree is written as: its tokens, and between them what the tree says of their places.
use Rattle.std.specs.Prelude.{◌≡◌, ◌⊎◌, ℕ, ◌-◌, ◌≤◌, List, [], ◌∷◌, length, Bool, true, false}
use Rattle.rb_syntax.specs.declared.token.Token.{Token}

-- one element of what a tree is written as: a token, or what the tree says of the place between two tokens
pub data Written : Type 0 where
  token : Token → Written
  -- the tree holds this as the number of the tokens before here
  number : (at : ℕ) → Written
  -- an expression, a pattern, a layout's tree or a pointer part begins here, so many levels deep
  node : (level : ℕ) → Written
  -- the grammar has no form for what stands here in the tree
  flaw : Written

-- the tokens among what is written, in their order
abbrev pub tokens_in : List Written → List Token
tokens_in [] = []
tokens_in (token t ∷ ws) = t ∷ tokens_in ws
tokens_in (number at ∷ ws) = tokens_in ws
tokens_in (node l ∷ ws) = tokens_in ws
tokens_in (flaw ∷ ws) = tokens_in ws

-- each number that a tree holds is that of the tokens before it, where `total` tokens stand in the file, and those of
-- the list are the last of them
abbrev pub AreNumbered : ℕ → List Written → Type 0
AreNumbered total [] = Unit {0}
AreNumbered total (token t ∷ ws) = AreNumbered total ws
AreNumbered total (number at ∷ ws) = (at ≡ total - length (tokens_in ws)) × AreNumbered total ws
AreNumbered total (node l ∷ ws) = AreNumbered total ws
AreNumbered total (flaw ∷ ws) = AreNumbered total ws

-- no node in what is written has a level above the limit
abbrev pub AreWithin : ℕ → List Written → Type 0
AreWithin limit [] = Unit {0}
AreWithin limit (token t ∷ ws) = AreWithin limit ws
AreWithin limit (number at ∷ ws) = AreWithin limit ws
AreWithin limit (node l ∷ ws) = (l ≤ limit) × AreWithin limit ws
AreWithin limit (flaw ∷ ws) = AreWithin limit ws

-- a node of this level has `at` tokens before it, where `total` tokens stand in the file, and those of the list are
-- the last of them
abbrev pub HasNode : (total level at : ℕ) → List Written → Type 0
HasNode total level at [] = ⊥
HasNode total level at (token t ∷ ws) = HasNode total level at ws
HasNode total level at (number n ∷ ws) = HasNode total level at ws
HasNode total level at (node l ∷ ws) = ((l ≡ level) × (at ≡ total - length (tokens_in ws))) ⊎ HasNode total level at ws
HasNode total level at (flaw ∷ ws) = HasNode total level at ws

-- the grammar has a form for all that stands in the tree: no flaw is among what is written
abbrev pub HaveNoFlaw : List Written → Type 0
HaveNoFlaw [] = Unit {0}
HaveNoFlaw (token t ∷ ws) = HaveNoFlaw ws
HaveNoFlaw (number at ∷ ws) = HaveNoFlaw ws
HaveNoFlaw (node l ∷ ws) = HaveNoFlaw ws
HaveNoFlaw (flaw ∷ ws) = ⊥

-- Lists of parts, each of which is written in front of what follows it.

-- the way in which a part is written: it puts the part in front of what follows it
abbrev pub Writing : Type 0
Writing = List Written → List Written

-- writes nothing where the test holds, and a flaw where it fails
abbrev pub flaw_unless : Bool → Writing
flaw_unless true rest = rest
flaw_unless false rest = flaw ∷ rest

-- writes parts one after the other, with nothing between
abbrev pub each : List Writing → Writing
each [] rest = rest
each (w ∷ ws) rest = w (each ws rest)

-- writes parts one after the other, each with the separator before it
abbrev pub each_behind : Token → List Writing → Writing
each_behind separator [] rest = rest
each_behind separator (w ∷ ws) rest = token separator ∷ w (each_behind separator ws rest)

-- writes one part or more with the separator between; a flaw where there is none
abbrev pub some_with : Token → List Writing → Writing
some_with separator [] rest = flaw ∷ rest
some_with separator (w ∷ ws) rest = w (each_behind separator ws rest)

-- writes parts with the separator between; nothing where there is none
abbrev pub any_with : Token → List Writing → Writing
any_with separator [] rest = rest
any_with separator (w ∷ ws) rest = w (each_behind separator ws rest)
