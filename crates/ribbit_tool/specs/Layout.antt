-- What is due to the command `layout`: the flat form of each type's layout, in which each case of the type has its
-- words and its blocks written out. What is due is the right answer: a text that is printed, or a refusal.
use Rattle.std.specs.Prelude.{◌≡◌, ℕ, List}
use Rattle.rb_accept.specs.Accepting.{Accepts}
use Rattle.rb_core.specs.declared.program.Program.{Program}
use Rattle.rb_layout.specs.Flattening.{flat_layouts}
use Rattle.rb_lines.specs.Answer.{Due, printed}
use Rattle.rb_show.specs.Lines.{layouts_text}

-- the text of the layouts of a program, each in its flat form
abbrev pub layout_text : Program → List ℕ
layout_text p = layouts_text p.types (flat_layouts p)

-- what is due to `layout` of a file within the limit, by its bytes: its refusal, or the flat forms of its layouts
abbrev pub LaysOutFile : List ℕ → Due → Type 0
LaysOutFile bytes due = Accepts bytes (λ p a d. d ≡ printed (layout_text p) 0) due
