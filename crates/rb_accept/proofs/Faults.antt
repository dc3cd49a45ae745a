-- A fault that is not want of memory is the text's own.
use Rattle.std.proofs.Common.{◌≡◌, ◌≢◌, ℕ, List, refl, subst, Err}
use Rattle.rb_names.specs.Answers as names
use Rattle.rb_names.specs.Numbering.{Resolved}
use Rattle.rb_names.specs.declared.fault.NameFault.{NameFault}
use Rattle.rb_names.specs.declared.fault.NameFault.TheVariants as name
use Rattle.rb_read.specs.Files.{AnswersFile, IsFileAnswer}
use Rattle.rb_read.specs.declared.fault.ReadFault.{ReadFault}
use Rattle.rb_read.specs.declared.fault.ReadFault.TheVariants as read
use Rattle.rb_syntax.specs.Cutting.{LexesTo}
use Rattle.rb_syntax.specs.Lexing as lexing
use Rattle.rb_syntax.specs.declared.lex.LexFault.{LexFault}
use Rattle.rb_syntax.specs.declared.lex.LexFault.TheVariants as lex
use Rattle.rb_syntax.specs.declared.token.Token.{Token}
use Rattle.rb_accept.specs.Accepting.{IsUncut}

pub lex_fault : (bytes : List ℕ) (text : lexing.Lexed) (f : LexFault) → f ≢ lex.Memory → lexing.IsAnswer text (Err f) → LexesTo bytes text → IsUncut bytes f
lex_fault bytes text (lex.BadByte at) ne h right = subst (λ (r : lexing.Lexed). LexesTo bytes r) h right
lex_fault bytes text (lex.NumberTooWide at) ne h right = subst (λ (r : lexing.Lexed). LexesTo bytes r) h right
lex_fault bytes text lex.Memory ne h right = absurd (ne refl)

pub read_fault : (ts : List Token) (f : ReadFault) → f ≢ read.Memory → AnswersFile ts (Err f) → IsFileAnswer ts (Err f)
read_fault ts (read.TooDeep t) ne h = h
read_fault ts (read.Syntax t) ne h = h
read_fault ts (read.Limit q n) ne h = h
read_fault ts read.Memory ne h = absurd (ne refl)

pub name_fault : {A : Type 0} (gives : Resolved A) (f : NameFault) → f ≢ name.Memory → names.AnswersNumbering (Err f) gives → gives ≡ Err f
name_fault gives (name.Twice n t) ne h = h
name_fault gives (name.Unknown n t) ne h = h
name_fault gives name.NoMain ne h = h
name_fault gives name.Memory ne h = absurd (ne refl)
