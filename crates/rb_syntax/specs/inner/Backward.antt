-- Writing from the end: tokens are gathered last first, so that a tree is written in front of what follows it.
use Rattle.std.specs.Prelude.{◌≡◌, List, reverse}
use Rattle.rb_syntax.specs.declared.token.Token.{Token}
use Rattle.rb_syntax.specs.Written.{Written, Writing, tokens_in}

-- where `before` is what follows, gathered last first, `after` is that with what w writes in front of it, gathered
-- likewise
abbrev pub Wrote : Writing → (before after : List Token) → Type 0
Wrote w before after = (rest : List Written) → reverse before ≡ tokens_in rest → reverse after ≡ tokens_in (w rest)
