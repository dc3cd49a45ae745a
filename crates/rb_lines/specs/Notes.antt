-- What `check` prints of an accepted file: a line for each clause that no value reaches, and then `ok`. A
-- note is such a clause: its number in its match, and the number of the token at which the match begins.
use Rattle.std.specs.Prelude.{ℕ, List, ◌++◌, codes}
use Rattle.std.specs.List.{flat_map}
use Rattle.rb_core.specs.declared.program.Note.{Note}
use Rattle.rb_syntax.specs.declared.token.Placed.{Placed}
use Rattle.rb_lines.specs.FileLines.{note_line}
use Rattle.rb_lines.specs.Places.{byte_of}

-- the line of a note on a clause that no value reaches, in a file of these tokens and so many bytes
abbrev pub note_text : List Placed → ℕ → Note → List ℕ
note_text placed size n = note_line n.clause (byte_of placed size n.at)

-- what `check` prints of an accepted file: a line for each note, in their order, and then the line `ok`
abbrev pub check_text : List Placed → ℕ → List Note → List ℕ
check_text placed size notes = flat_map (note_text placed size) notes ++ codes "ok\n"
