-- What a call answers: what the definition of numbering gives, or want of memory. Numbering replaces the names in a
-- part of a file by numbers; it gives the numbered part or the first fault of a name.
use Rattle.std.specs.Prelude.{◌≡◌, Ok, Err}
use Rattle.rb_names.specs.declared.fault.NameFault.TheVariants.{Memory}
use Rattle.rb_names.specs.Numbering.{Resolved}

-- a call's answer, first, is what numbering gives, second: the same part or fault; want of memory says nothing of it
abbrev pub AnswersNumbering : {A : Type 0} → Resolved A → Resolved A → Type 0
AnswersNumbering (Ok a) gives = gives ≡ Ok a
AnswersNumbering (Err Memory) gives = Unit {0}
AnswersNumbering (Err fault) gives = gives ≡ Err fault
