-- Laws of files that are accepted.
use Rattle.std.specs.Prelude.{◌≡◌, ℕ, List, Ok}
use Rattle.rb_core.specs.declared.program.Program.{Program}
use Rattle.rb_lines.specs.Answer.{Due}
use Rattle.rb_read.specs.Files.{IsFileAnswer}
use Rattle.rb_syntax.specs.Cutting.{HasTokens}
use Rattle.rb_syntax.specs.declared.lex.LexFault.{LexFault}
use Rattle.rb_syntax.specs.declared.token.Placed.{Placed}
use Rattle.rb_syntax.specs.declared.token.Token.{Token}
use Rattle.rb_syntax.specs.declared.tree.FileTree.{FileTree}
use Rattle.rb_accept.specs.Accepting.{IsAccepted, IsRefused, IsUncut}

-- a text has at most one list of tokens, and then it is refused by no byte
abbrev pub HaveOneCut : Type 0
HaveOneCut = (bytes : List ℕ) (ps : List Placed) → HasTokens bytes ps
    → ((qs : List Placed) → HasTokens bytes qs → ps ≡ qs) × ((fault : LexFault) → IsUncut bytes fault → ⊥)

-- tokens have at most one tree
abbrev pub HaveOneTree : Type 0
HaveOneTree =
    (ts : List Token) (file other : FileTree) → IsFileAnswer ts (Ok file) → IsFileAnswer ts (Ok other) → file ≡ other

-- a text has at most one accepted program
abbrev pub HaveOneProgram : Type 0
HaveOneProgram = (bytes : List ℕ) (p q : Program) → IsAccepted bytes p → IsAccepted bytes q → p ≡ q

-- a text that has an accepted program is not refused
abbrev pub HaveNoRefusal : Type 0
HaveNoRefusal = (bytes : List ℕ) (p : Program) (due : Due) → IsAccepted bytes p → IsRefused bytes due → ⊥
