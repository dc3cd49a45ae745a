-- The reading function of files gives the tree, or the place of the fault.
use Rattle.std.proofs.Common.{◌≡◌, ℕ, ◌-◌, List, length, Result, Ok, Err}
use Rattle.rb_core.specs.Limits.{most_levels}
use Rattle.rb_syntax.specs.declared.token.Token.{Token}
use Rattle.rb_syntax.specs.declared.tree.FileTree.{FileTree}
use Rattle.rb_syntax.specs.Written.{AreWithin}
use Rattle.rb_syntax.specs.Spelling.{file_written, IsTreeOf}
use Rattle.rb_read.specs.inner.Combining.{Fault, stuck, deep}
use Rattle.rb_read.specs.inner.Reading.{begins_item, file_items}
use Rattle.rb_read.specs.Exact.{StopsAt, IsNowhereTooDeep, IsFirstTooDeep}
use Rattle.rb_read.proofs.ItemForms.{file-form}
use Rattle.rb_read.proofs.Exact as Exact

abbrev pub file_of : List Token → Result FileTree Fault
file_of ts = Exact.file_of begins_item file_items file-form (length ts) most_levels ts

pub read-ok : (ts : List Token) (file : FileTree) → file_of ts ≡ Ok file → IsTreeOf ts file × AreWithin most_levels (file_written file) × IsNowhereTooDeep ts
read-ok ts file e = let t = Exact.ok begins_item file_items file-form ts file e in (t.0, t.1, Exact.ok-nowhere begins_item file_items file-form ts file e)

pub read-only : (ts : List Token) (file : FileTree) → IsTreeOf ts file → AreWithin most_levels (file_written file) → file_of ts ≡ Ok file
read-only = Exact.only begins_item file_items file-form

pub read-stuck : (ts : List Token) (m : ℕ) → file_of ts ≡ Err (stuck m) → StopsAt ts (length ts - m) × IsNowhereTooDeep ts
read-stuck = Exact.is_stuck begins_item file_items file-form

pub read-deep : (ts : List Token) (m : ℕ) → file_of ts ≡ Err (deep m) → IsFirstTooDeep ts (length ts - m)
read-deep = Exact.is_deep begins_item file_items file-form
