-- The lines that the program writes. Each ends with byte 10, and each but that of words begins with the program's
-- name. A region is the part of memory in which a run makes its blocks. A trap ends a run: by an access that no block
-- holds, by the reading of a byte that was not written, or by a word that a switch has no arm for.
use Rattle.std.specs.Prelude.{ℕ, List, [], ◌∷◌, ◌++◌, codes}
use Rattle.std.specs.Fmt.{decimal}
use Rattle.rb_bytes.specs.declared.fault.Full.{Full}
use Rattle.rb_bytes.specs.declared.fault.Trap.{Trap}
use Rattle.rb_bytes.specs.declared.fault.Trap.TheVariants.{Astray, Unwritten, Unmatched}
use Rattle.rb_target.specs.declared.fault.CodeFault.{CodeFault}
use Rattle.rb_target.specs.declared.fault.CodeFault.TheVariants.{CodeSyntax, BadSlot, BadJump, BadCall, Memory}
use Rattle.rb_show.specs.Lines.{line}
use Rattle.rb_lines.specs.Numbers.{code_syntax, bad_slot, bad_jump, bad_call, trap_number}

-- a text behind the program's name, as each line for the error output begins
abbrev pub named_line : List ℕ → List ℕ
named_line text = codes "ribbit: " ++ text

-- the line of the first word at fault in a command
abbrev pub usage_line : ℕ → List ℕ
usage_line word = line (named_line (codes "usage at word ") ++ decimal word)

-- the line of a file whose opening or reading failed
abbrev pub read_fault_line : List ℕ
read_fault_line = codes "ribbit: read fault\n"

-- the line of an output that failed
abbrev pub write_fault_line : List ℕ
write_fault_line = codes "ribbit: write fault\n"

-- the line of want of memory
abbrev pub no_memory_line : List ℕ
no_memory_line = codes "ribbit: no memory\n"

-- the line of a file with so many bytes, over their limit
abbrev pub file_bytes_line : ℕ → ℕ → List ℕ
file_bytes_line count limit =
    line (named_line (codes "limit file bytes: ") ++ decimal count ++ codes " over " ++ decimal limit)

-- the line of a run that would make more than so many calls
abbrev pub spent_line : ℕ → List ℕ
spent_line calls = line (named_line (codes "calls spent: ") ++ decimal calls)

-- the line of a number of arguments that is not the function's
abbrev pub count_line : ℕ → ℕ → List ℕ
count_line wanted found =
    line (named_line (codes "wanted ") ++ decimal wanted ++ codes " arguments, found " ++ decimal found)

-- the line of code that has no function of this name
abbrev pub no_function_line : List ℕ → List ℕ
no_function_line name = line (named_line (codes "no function ") ++ name)

-- the line of a block that doesn't fit into the region: the address from which on it would be placed, its size and
-- alignment, and the address at which the region ends
abbrev pub full_line : Full → List ℕ
full_line f = line (named_line (codes "region full: next ") ++ decimal f.next ++ codes ", size " ++ decimal f.size
    ++ codes ", align " ++ decimal f.align ++ codes ", limit " ++ decimal f.limit)

-- the line of a trap, with its number
abbrev pub trap_line : Trap → List ℕ
trap_line (Astray base offset) =
    line (named_line (codes "trap ") ++ decimal (trap_number (Astray base offset)) ++ codes ": base " ++ decimal base
    ++ codes ", offset " ++ decimal offset)
trap_line (Unwritten address) =
    line (named_line (codes "trap ") ++ decimal (trap_number (Unwritten address)) ++ codes ": address "
    ++ decimal address)
trap_line (Unmatched word) =
    line (named_line (codes "trap ") ++ decimal (trap_number (Unmatched word)) ++ codes ": word " ++ decimal word)

-- the line of functions that are not valid together: the number of the fault's kind, and the instruction of a
-- function where it stands
abbrev pub at_instruction : ℕ → ℕ → ℕ → List ℕ
at_instruction kind function instruction = line (named_line (codes "code ") ++ decimal kind
    ++ codes ": function " ++ decimal function ++ codes ", instruction " ++ decimal instruction)

-- the line of bytes that are no code
abbrev pub code_line : CodeFault → List ℕ
code_line (CodeSyntax at) = line (named_line (codes "code ") ++ decimal code_syntax ++ codes " at byte " ++ decimal at)
code_line (BadSlot n pc) = at_instruction bad_slot n pc
code_line (BadJump n pc) = at_instruction bad_jump n pc
code_line (BadCall n pc) = at_instruction bad_call n pc
code_line Memory = no_memory_line

-- the line of a value with more nodes than this limit
abbrev pub large_line : ℕ → List ℕ
large_line limit = line (named_line (codes "value over ") ++ decimal limit ++ codes " nodes")

-- numbers in decimal digits, each after a blank
abbrev pub numbers_after_blanks : List ℕ → List ℕ
numbers_after_blanks [] = []
numbers_after_blanks (n ∷ ns) = 32 ∷ decimal n ++ numbers_after_blanks ns

-- numbers in decimal digits, with one blank between
abbrev pub numbers_text : List ℕ → List ℕ
numbers_text [] = []
numbers_text (n ∷ ns) = decimal n ++ numbers_after_blanks ns

-- the line of words in decimal digits, with one blank between
abbrev pub words_line : List ℕ → List ℕ
words_line words = line (numbers_text words)
