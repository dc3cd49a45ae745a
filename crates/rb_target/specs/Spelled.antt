-- Functions that a code text can hold, valid together or not. Words are what stands behind the first word of a line,
-- each after a blank: numbers, names of operations, `-` and `of`.
use Rattle.std.specs.Prelude.{◌^◌, ◌<◌, List, All}
use Rattle.rb_target.specs.Validity.{IsBounded, IsLower}
use Rattle.rb_target.specs.Text.{line_words}
use Rattle.rb_target.specs.declared.word.LineWord.{LineWord}
use Rattle.rb_target.specs.declared.word.LineWord.TheVariants.{Number, Op, Dash, Of}
use Rattle.rb_target.specs.declared.instr.Instr.{Instr}
use Rattle.rb_target.specs.declared.code.CodeFun.{CodeFun}

-- the word, if it is a number, has at most 64 bits; nothing is asked of other words
abbrev pub IsShort : LineWord → Type 0
IsShort (Number n) = n < 2 ^ 64
IsShort (Op op) = Unit {0}
IsShort Dash = Unit {0}
IsShort Of = Unit {0}

-- an instruction with all of its numbers short, and those that are no slots and no targets within their bounds; its
-- slots, its targets and the function that it calls need not be there
pub record IsSpelledInstr (i : Instr) : Type 0 where
  pub bounded : IsBounded i
  pub short : All IsShort (line_words i)

-- a function whose name begins with a small letter and goes on with letters, digits and underscores, whose counts
-- have at most 64 bits, and whose instructions can stand in a text; its body may be empty
pub record IsSpelledFun (f : CodeFun) : Type 0 where
  pub named : IsLower f.name
  pub params : f.params < 2 ^ 64
  pub results : f.results < 2 ^ 64
  pub slots : f.slots < 2 ^ 64
  pub body : All IsSpelledInstr f.body

-- functions that a code text can hold; there may be none
abbrev pub AreSpelled : List CodeFun → Type 0
AreSpelled funs = All IsSpelledFun funs
