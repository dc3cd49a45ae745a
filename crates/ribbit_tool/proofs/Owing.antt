-- A command that reads a file, or an image after its file, owes what is due to what was read of them.
use Rattle.std.proofs.Common.{◌≡◌, ℕ, ◌≤◌, List, [], ◌∷◌, length, refl, Ok}
use Rattle.rb_accept.specs.Opening.{Following, IsOpened, Opens}
use Rattle.rb_accept.specs.Reading.{ReadsOne, IsUnread, unread, within, whole}
use Rattle.rb_accept.specs.declared.opening.Opened.{Opened}
use Rattle.rb_accept.proofs.OpeningLaws.{opened_due, opens_whatever}
use Rattle.rb_command.specs.Command.{Command}
use Rattle.rb_edge.specs.History.{Reading}
use Rattle.rb_lines.specs.Answer.{Due}
use Rattle.ribbit_tool.specs.Answers.{AnswersCommand, Owes, answered}

module _ (command : Command) (file : List ℕ) (limit : ℕ) (Then : List ℕ → Due → Type 0)
    (reads : (readings : List Reading) (due : Due) → ReadsOne file limit Then readings due → AnswersCommand (Ok command) readings due)
    (readings : List Reading) (due : Due) where
  pub owes_read : (bytes : List ℕ) → readings ≡ whole file bytes ∷ [] → length bytes ≤ limit → Then bytes due → Owes (Ok command) readings due
  owes_read bytes is short h = answered (reads readings due (within bytes [] is short (refl, h)))

  pub owes_unread : IsUnread file limit readings due → Owes (Ok command) readings due
  owes_unread h = answered (reads readings due (unread h))

module _ (command : Command) (file image : List ℕ) (Then : Following)
    (opens : (readings : List Reading) (due : Due) → Opens file image Then readings due → AnswersCommand (Ok command) readings due)
    (readings : List Reading) (due : Due) where
  pub owes_stopped : Opens file image (λ p i d. ⊥) readings due → Owes (Ok command) readings due
  owes_stopped h = answered (opens readings due (opens_whatever file image Then readings due h))

  pub owes_opened : (o : Opened) → IsOpened file image readings o → Then o.accepted.agreed.covered.program o.image due → Owes (Ok command) readings due
  owes_opened o h follows = answered (opens readings due (opened_due file image readings o h Then due follows))
