-- Whose text bytes are, and the byte at which they stop being the front of any.
use Rattle.std.specs.Prelude.{◌≡◌, ℕ, List}
use Rattle.rb_core.specs.Stopping.{StopsAtIn}
use Rattle.rb_target.specs.Text.{code_text}
use Rattle.rb_target.specs.Spelled.{AreSpelled}
use Rattle.rb_target.specs.declared.code.CodeFun.{CodeFun}

-- the bytes are the text of these functions, which a text can hold and which may not be valid together; where there
-- are no functions, there are no bytes
pub record IsTextOf (bytes : List ℕ) (funs : List CodeFun) : Type 0 where
  pub spelled : AreSpelled funs
  pub is : bytes ≡ code_text funs

-- the bytes are a whole code text: that of some functions, valid together or not
abbrev pub IsCode : List ℕ → Type 0
IsCode bytes = (funs : List CodeFun) × IsTextOf bytes funs

-- the bytes before number `at`, counted from 0, begin some code text; with the byte there they do not, or `at` is the
-- number of all bytes and they are no whole text. So at most one `at` is so
abbrev pub StopsAt : List ℕ → ℕ → Type 0
StopsAt bytes at = StopsAtIn IsCode bytes at
