-- What the tokens are as a file, from what the readers give.
use Rattle.std.proofs.Common.{◌≡◌, ℕ, ◌-◌, List, length, Result, Ok, Err, sym, subst}
use Rattle.rb_core.specs.Limits.{most_levels}
use Rattle.rb_syntax.specs.declared.token.Placed.{Placed}
use Rattle.rb_syntax.specs.declared.tree.FileTree.{FileTree}
use Rattle.rb_syntax.specs.Tokens.{tokens}
use Rattle.rb_read.specs.inner.Combining.{Fault, stuck, deep}
use Rattle.rb_read.specs.inner.Reading.{file_items}
use Rattle.rb_read.specs.Exact.{StopsAt, IsFirstTooDeep, IsNowhereTooDeep}
use Rattle.rb_read.specs.inner.Ending.{whole_file}
use Rattle.rb_read.specs.Files.{IsFile}
use Rattle.rb_read.proofs.FileReading.{file_of, read-ok, read-stuck, read-deep}
use Rattle.rb_read.proofs.Loops.{tokens-length}

-- what the readers give on these tokens
abbrev given : List Placed → Result FileTree Fault
given ps = whole_file (file_items (length ps) most_levels (tokens ps))

counted-anew : (ps : List Placed) (r : Result FileTree Fault) → given ps ≡ r → file_of (tokens ps) ≡ r
counted-anew ps r e = subst (λ n. whole_file (file_items n most_levels (tokens ps)) ≡ r) (tokens-length ps) e

pub given-file : (ps : List Placed) (file : FileTree) → given ps ≡ Ok file → IsFile (tokens ps) file
given-file ps file e = let p = read-ok (tokens ps) file (counted-anew ps (Ok file) e) in record { tree = p.0; within = p.1 }

pub given-stuck : (ps : List Placed) (m : ℕ) → given ps ≡ Err (stuck m) → IsNowhereTooDeep (tokens ps) × StopsAt (tokens ps) (length ps - m)
given-stuck ps m e =
    let p = read-stuck (tokens ps) m (counted-anew ps (Err (stuck m)) e) in
    (p.1, subst (λ n. StopsAt (tokens ps) (n - m)) (sym (tokens-length ps)) p.0)

pub given-deep : (ps : List Placed) (m : ℕ) → given ps ≡ Err (deep m) → IsFirstTooDeep (tokens ps) (length ps - m)
given-deep ps m e =
    let p = read-deep (tokens ps) m (counted-anew ps (Err (deep m)) e) in
    subst (λ n. IsFirstTooDeep (tokens ps) (n - m)) (sym (tokens-length ps)) p
