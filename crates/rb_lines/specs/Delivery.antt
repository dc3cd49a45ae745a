-- How what is due is delivered to the output and the error output. What is due is a text for the output, or a status
-- with a line for the error output. Each of the two is a sink: it takes bytes, and a write to it may fail. What it
-- said, its account, is which bytes it took, and how many those were at each write that failed; a sink may also tell
-- what it really took.
-- Its count of faults rises with each write that fails, unless it is the greatest number already.
use Rattle.std.specs.Prelude.{◌≡◌, ℕ, List, [], ◌++◌, ◌⊎◌, IsTrue, Bool}
use Rattle.rb_edge.specs.Faults.{Rose}
use Rattle.rb_edge.specs.History.{Account, after_take}
use Rattle.rb_edge.specs.Whole.{TakesFront}
use Rattle.rb_lines.specs.Answer.{Due, printed, refused}
use Rattle.rb_lines.specs.Lines.{write_fault_line}
use Rattle.rb_lines.specs.Numbers.{status_number}

-- a sink before and after a call: whether it tells what it took, that, what it said, and its count of faults
pub record Change : Type 0 where
  pub tells : Bool
  pub old : List ℕ
  pub new : List ℕ
  pub said : Account
  pub says : Account
  pub before : ℕ
  pub now : ℕ

-- a sink `old` before a call and `new` after it, by what the trait says of it: whether it tells what it took, that,
-- what it said, and its count of faults
abbrev pub change : {S : Type 0} → (S → Bool) → (S → List ℕ) → (S → Account) → (S → ℕ) → S → S → Change
change tells taken account faults old new = record {
  tells = tells old;
  old = taken old;
  new = taken new;
  said = account old;
  says = account new;
  before = faults old;
  now = faults new;
}

-- The sink said in the call that it took this text, and no write failed. Where it tells, it took the text.
abbrev pub Took : Change → List ℕ → Type 0
Took sink text = (sink.says ≡ after_take text sink.said) × (IsTrue sink.tells → sink.new ≡ sink.old ++ text)

-- A write failed and was counted: the sink took a front of the text, not all of it, and nothing after that.
pub record CutOff (sink : Change) (text : List ℕ) : Type 0 where
  pub rose : Rose sink.before sink.now
  pub front : TakesFront sink.tells text sink.old sink.new sink.said sink.says

-- no fault of the sink was counted in the call, nor was its count at the greatest before
abbrev pub Stood : Change → Type 0
Stood sink = Rose sink.before sink.now → ⊥

-- The sink took the text whole, or a write failed and it took only a front.
abbrev pub TriesText : Change → List ℕ → Type 0
TriesText sink text = Took sink text ⊎ CutOff sink text

-- The output took the text whole, and the error output nothing: status 0. Or the output failed: then the line of a
-- write fault was tried on the error output, and the status is 8.
pub data Prints (text : List ℕ) (out err : Change) (status : ℕ) : Type 0 where
  output : status ≡ 0 → Took out text → Took err [] → Prints text out err status
  output_failed : status ≡ 8 → CutOff out text → TriesText err write_fault_line → Prints text out err status

-- The error output took the line whole, and the status is this number; or it failed, and the status is 8. The output
-- took nothing.
pub data Refuses (number : ℕ) (line : List ℕ) (out err : Change) (status : ℕ) : Type 0 where
  error_line : status ≡ number → Took out [] → Took err line → Refuses number line out err status
  error_failed : status ≡ 8 → Took out [] → CutOff err line → Refuses number line out err status

-- what is due was delivered, and gave this status: a text to the output, or the line of a refusal to the error output
abbrev pub Delivers : Due → Change → Change → ℕ → Type 0
Delivers (printed text steps) out err status = Prints text out err status
Delivers (refused named line steps) out err status = Refuses (status_number named) line out err status
