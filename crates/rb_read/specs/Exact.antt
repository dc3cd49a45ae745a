-- Which token is at fault. Tokens are numbered from 0 on. A node is an expression, a pattern (a leaf's provenance and
-- what is below its constructor are patterns too), a layout's tree, or a pointer part of a leaf. Its level is 1 where
-- no node is around it, else one more than that of the innermost node around it.
use Rattle.std.specs.Prelude.{◌≡◌, ℕ, suc, ◌<◌, ◌≤◌, List, ◌++◌, length, take}
use Rattle.rb_core.specs.Limits.{most_levels}
use Rattle.rb_core.specs.Stopping.{StopsAtIn}
use Rattle.rb_syntax.specs.declared.token.Token.{Token}
use Rattle.rb_syntax.specs.declared.tree.FileTree.{FileTree}
use Rattle.rb_syntax.specs.Written.{HaveNoFlaw, HasNode}
use Rattle.rb_syntax.specs.Spelling.{file_written, spell}

-- all the tokens of a file, of any depth: the grammar has a form for each part of it, whatever numbers it holds
abbrev pub IsSpelled : List Token → Type 0
IsSpelled ts = (file : FileTree) × (spell file ≡ ts) × HaveNoFlaw (file_written file)

-- `p` is the first token at which no file goes on, or the count of the tokens where they only begin a file
abbrev pub StopsAt : List Token → ℕ → Type 0
StopsAt ts p = StopsAtIn IsSpelled ts p

-- token `p` of `ts` begins a node one level deeper than is allowed, in some file of the grammar that begins with the
-- tokens up to and with this one, and goes on with any tokens, `more`; never where there is no token `p`
pub record IsTooDeepAt (ts : List Token) (p : ℕ) : Type 0 where
  pub within : p < length ts
  pub more : List Token
  pub file : FileTree
  pub spells : spell file ≡ take (suc p) ts ++ more
  pub formed : HaveNoFlaw (file_written file)
  pub deep : HasNode (length (take (suc p) ts ++ more)) (suc most_levels) p (file_written file)

-- no token begins a node one level deeper than is allowed, in any file that begins with the tokens up to it
abbrev pub IsNowhereTooDeep : List Token → Type 0
IsNowhereTooDeep ts = (p : ℕ) → IsTooDeepAt ts p → ⊥

-- `p` is the first token that begins a node one level deeper than is allowed
pub record IsFirstTooDeep (ts : List Token) (p : ℕ) : Type 0 where
  pub too_deep : IsTooDeepAt ts p
  pub is_first : (q : ℕ) → IsTooDeepAt ts q → p ≤ q
