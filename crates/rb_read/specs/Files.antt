-- What tokens are as a file: its tree, or the first reason why it is none that is read.
use Rattle.std.specs.Prelude.{◌≡◌, List, Some, None, Result, Ok, Err}
use Rattle.rb_core.specs.Limits.{most_levels}
use Rattle.rb_syntax.specs.declared.token.Token.{Token}
use Rattle.rb_syntax.specs.declared.tree.FileTree.{FileTree}
use Rattle.rb_syntax.specs.Written.{AreWithin}
use Rattle.rb_syntax.specs.Spelling.{IsTreeOf, file_written}
use Rattle.rb_read.specs.declared.fault.ReadFault.{ReadFault}
use Rattle.rb_read.specs.declared.fault.ReadFault.TheVariants.{TooDeep, Syntax, Limit, Memory}
use Rattle.rb_read.specs.Exact.{StopsAt, IsFirstTooDeep, IsNowhereTooDeep}
use Rattle.rb_read.specs.Limits.{count_of, first_over}

-- `file` is the tree that the tokens spell, of no more levels than are allowed
pub record IsFile (ts : List Token) (file : FileTree) : Type 0 where
  pub tree : IsTreeOf ts file
  pub within : AreWithin most_levels (file_written file)

-- the answer to tokens: their file, whose counts are within the limits, or the refusal that comes first in the order
-- depth, syntax, limits; never want of memory
abbrev pub IsFileAnswer : List Token → Result FileTree ReadFault → Type 0
IsFileAnswer ts (Ok file) = IsFile ts file × (first_over file ≡ None)
IsFileAnswer ts (Err (TooDeep p)) = IsFirstTooDeep ts p
IsFileAnswer ts (Err (Syntax p)) = IsNowhereTooDeep ts × StopsAt ts p
IsFileAnswer ts (Err (Limit q n)) = (file : FileTree) × IsFile ts file × (first_over file ≡ Some (count_of q n))
IsFileAnswer ts (Err Memory) = ⊥

-- the result is the answer to the tokens, or want of memory, which says nothing of them
abbrev pub AnswersFile : List Token → Result FileTree ReadFault → Type 0
AnswersFile ts (Err Memory) = Unit {0}
AnswersFile ts result = IsFileAnswer ts result
