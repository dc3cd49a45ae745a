-- What is due to the commands `gen` and `genrun`: a file of so many functions that call each other in turn, and what
-- its run did. What is due is the right answer: a text that is printed, or a refusal, each with a number of steps.
-- Texts are lists of bytes. The functions are numbered from 0, and each calls the next one; the last calls the first.
use Rattle.std.specs.Prelude.{◌≡◌, ℕ, zero, suc, ◌+◌, ◌%◌, List, [], ◌++◌, codes}
use Rattle.std.specs.Fmt.{decimal}
use Rattle.rb_command.specs.Command.{Limits}
use Rattle.rb_lines.specs.Answer.{Due, printed}
use Rattle.rb_show.specs.Lines.{line}
use Rattle.ribbit_tool.specs.Count.{CountsFile}

-- the line that declares lists of numbers
abbrev pub list_type : List ℕ
list_type = codes "type List = Nil | Cons(u64, List);\n"

-- the line with the layout of lists: the lowest bit tells the empty list, 1, from a pointer to a block, 0, which
-- holds an item and the rest
abbrev pub list_layout : List ℕ
list_layout = codes "layout List <64> = split 0[0:1] { 1 => Nil : { word 64 { [0:1] = 1 } } 0 => Cons(_, _) : { word 64 { [0:1] = 0, [3:61] -> 8 { word 64 { [0:64] .0 }, inline .1 } } } };\n"

-- the line of the function `up`, which puts the numbers from 1 to n before a list
abbrev pub up_line : List ℕ
up_line = codes "fun up(n: u64, l: List): List = match n { 0 => l, _ => up(sub(n, 1), Cons(n, l)) };\n"

-- the line of function i, which adds the first item of a list to what function j makes of the others, and is 0 for
-- the empty list
abbrev pub sum_line : ℕ → ℕ → List ℕ
sum_line i j =
    line (codes "fun f" ++ decimal i ++ codes "(l: List): u64 = match l { Nil => 0, Cons(x, r) => add(x, f"
    ++ decimal j ++ codes "(r)) };")

-- the line of `main`, which gives the sum of the numbers from 1 to 3000, by function 0
abbrev pub main_line : List ℕ
main_line = codes "fun main(): u64 = f0(up(3000, Nil));\n"

-- the lines of `count` functions from function i on, where there are so many functions in all: each calls the next,
-- and the last of all calls the first
abbrev pub sum_lines : ℕ → ℕ → ℕ → List ℕ
sum_lines functions i zero = []
sum_lines functions i (suc count) = sum_line i ((i + 1) % functions) ++ sum_lines functions (i + 1) count

-- the file with so many functions: the type, its layout, `up`, the functions, and `main`
abbrev pub generated_file : ℕ → List ℕ
generated_file functions = list_type ++ list_layout ++ up_line ++ sum_lines functions 0 functions ++ main_line

-- what is due to `gen`: the file with so many functions is printed, which takes no steps
abbrev pub Generates : ℕ → Due → Type 0
Generates functions due = due ≡ printed (generated_file functions) 0

-- what is due to `genrun`: what `count` says of the file with so many functions, whose `main` takes no values
abbrev pub CountsGenerated : ℕ → Limits → Due → Type 0
CountsGenerated functions limits due = CountsFile limits [] (generated_file functions) due
