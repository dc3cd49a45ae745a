-- The lines of arguments that are refused. Arguments are counted from 1. The nodes of a value are its numbers and
-- constructors, inner ones among them. Bytes are counted from 0 in the argument.
use Rattle.std.specs.Prelude.{ℕ, List, ◌++◌, codes}
use Rattle.std.specs.Fmt.{decimal}
use Rattle.rb_core.specs.declared.types.DataDecl.{DataDecl}
use Rattle.rb_core.specs.declared.types.Ty.{Ty}
use Rattle.rb_core.specs.Texts.{type_text}
use Rattle.rb_values.specs.declared.fault.ValueFault.{ValueFault}
use Rattle.rb_values.specs.declared.fault.ValueFault.TheVariants as kind
use Rattle.rb_show.specs.Lines.{line}
use Rattle.rb_lines.specs.Lines.{named_line, no_memory_line}

-- the most nodes of an argument, and of a value that is shown
abbrev pub node_limit : ℕ
node_limit = 1000000

-- how the line of an argument of this number, counted from 1, begins
abbrev pub argument_begun : ℕ → List ℕ
argument_begun number = named_line (codes "argument ") ++ decimal number ++ codes ": "

-- the line of an argument that is no value from a byte on
abbrev pub syntax_line : ℕ → ℕ → List ℕ
syntax_line number at = line (argument_begun number ++ codes "syntax at byte " ++ decimal at)

-- the line of an argument with too many nodes
abbrev pub large_argument_line : ℕ → List ℕ
large_argument_line number = line (argument_begun number ++ codes "over " ++ decimal node_limit ++ codes " nodes")

-- the line of an argument that holds a value of another type at a byte
abbrev pub misfit_line : List DataDecl → ℕ → Ty → ℕ → List ℕ
misfit_line types number ty at =
    line (argument_begun number ++ codes "no value of " ++ type_text types ty ++ codes " at byte " ++ decimal at)

-- the line of what is wrong with the argument of this number, counted from 1, at the type of its parameter
abbrev pub argument_line : List DataDecl → ℕ → Ty → ValueFault → List ℕ
argument_line types number ty (kind.ValueSyntax at) = syntax_line number at
argument_line types number ty kind.ValueTooLarge = large_argument_line number
argument_line types number ty (kind.ValueType at) = misfit_line types number ty at
argument_line types number ty kind.Memory = no_memory_line
