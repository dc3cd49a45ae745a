-- Why bytes are no code, and that nothing else is refused.
use Rattle.std.specs.Prelude.{◌≡◌, ℕ, List, Result, Ok, Err}
use Rattle.rb_target.specs.Validity.{IsValid}
use Rattle.rb_target.specs.Stopping.{IsTextOf, StopsAt}
use Rattle.rb_target.specs.Faults.{IsFirstCodeFault}
use Rattle.rb_target.specs.declared.code.CodeFun.{CodeFun}
use Rattle.rb_target.specs.declared.fault.CodeFault.{CodeFault}
use Rattle.rb_target.specs.declared.fault.CodeFault.TheVariants.{CodeSyntax, Memory}

-- The fault is true of the bytes: no text of functions goes on from the byte that it names, or the bytes are the text
-- of functions of which it is the first fault. Want of memory says nothing of them.
abbrev pub IsCodeRefusal : List ℕ → CodeFault → Type 0
IsCodeRefusal bytes (CodeSyntax at) = StopsAt bytes at
IsCodeRefusal bytes Memory = Unit {0}
IsCodeRefusal bytes fault = (funs : List CodeFun) × IsTextOf bytes funs × IsFirstCodeFault funs fault

-- a result answers the text of these functions: it is the functions themselves, which are valid together, or their
-- first fault, or want of memory, of which it says nothing
abbrev pub IsAnswerTo : List CodeFun → Result (List CodeFun) CodeFault → Type 0
IsAnswerTo funs (Ok code) = (code ≡ funs) × IsValid funs
IsAnswerTo funs (Err Memory) = Unit {0}
IsAnswerTo funs (Err fault) = IsFirstCodeFault funs fault

-- the result is these functions, or want of memory, and no other fault
abbrev pub IsThese : List CodeFun → Result (List CodeFun) CodeFault → Type 0
IsThese funs (Ok read) = read ≡ funs
IsThese funs (Err Memory) = Unit {0}
IsThese funs (Err fault) = ⊥
