-- Where a file ends, and where it only begins.
use Rattle.std.specs.Prelude.{suc, List, [], ◌∷◌, length, Result, Ok, Err}
use Rattle.rb_core.specs.Stopping.{BeginsSome}
use Rattle.rb_syntax.specs.declared.token.Token.{Token}
use Rattle.rb_syntax.specs.declared.tree.ItemTree.{ItemTree}
use Rattle.rb_syntax.specs.declared.tree.FileTree.{FileTree}
use Rattle.rb_read.specs.Exact.{IsSpelled}
use Rattle.rb_read.specs.inner.Combining.{Fault, stuck, ReadOutcome}

-- some file begins with these tokens, or is just these
abbrev pub IsPrefix : List Token → Type 0
IsPrefix ts = BeginsSome IsSpelled ts

-- the file of the items that were read; it is stuck where a token is left behind them
unfoldable pub finished_file : List ItemTree → List Token → Result FileTree Fault
finished_file items [] = Ok (record { items = items })
finished_file items (t ∷ ts) = Err (stuck (suc (length ts)))

-- the file of what reading its items gives; it is stuck where a token is left behind them, and a fault stays
unfoldable pub whole_file : ReadOutcome (List ItemTree) → Result FileTree Fault
whole_file (Ok x) = finished_file x.0 x.1
whole_file (Err e) = Err e
