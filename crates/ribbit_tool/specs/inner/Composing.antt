-- The text for the words of a command line, or the refusal in its place, before it is delivered: before anything is
-- written. A source hands out files by name.
use Rattle.std.specs.Prelude.{ℕ, List, Result}
use Rattle.std.specs.declared.alloc.Global.{Global}
use Rattle.std.specs.declared.vec.Vec.{Vec}
use Rattle.rb_accept.specs.Reading.{Source, ReadsInTurn, handed_out}
use Rattle.rb_command.specs.Command.{Parsed, IsParsed}
use Rattle.rb_lines.specs.View.{Meets}
use Rattle.rb_lines.specs.declared.refusal.Refusal.{Refusal}
use Rattle.ribbit_tool.specs.Answers.{Owes, files_of}
use Rattle.ribbit_tool.specs.Promise.{Counting}

-- the files of what the words come to were read, and the text or the line is what is owed to it
pub record Composes (words : List (List ℕ)) (source : Source) (steps : Counting)
    (text : Result (Vec ℕ Global) Refusal) : Type 0 where
  pub parsed : Parsed
  pub meant : IsParsed words parsed
  pub reads : ReadsInTurn (files_of parsed) source
  pub owes : Meets (Owes parsed (handed_out source)) steps.before steps.now text
