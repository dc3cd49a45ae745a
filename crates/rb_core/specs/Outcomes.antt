-- What more calls do to an outcome. An outcome is a log of events and an end: done, with a value and the
-- calls left, or spent, where a call was due and none was left.
use Rattle.std.specs.Prelude.{◌≡◌, ◌+◌, ℕ, List, ◌++◌}
use Rattle.rb_core.specs.declared.outcome.Event.{Event}
use Rattle.rb_core.specs.declared.outcome.SourceEnd.{SourceEnd}
use Rattle.rb_core.specs.declared.outcome.SourceEnd.TheVariants.{Done, Spent}
use Rattle.rb_core.specs.declared.outcome.Outcome.{Outcome}

-- the list `all` begins with the list `first`, and `rest` is what stands behind that
pub record BeginsWith (first all : List Event) : Type 0 where
  pub rest : List Event
  pub same : all ≡ first ++ rest

-- the outcome o is that of the same run with `more` more calls left, where this is the log and the end with
-- fewer: where they are done, o has the same log and value, and `more` more calls left; where they are spent,
-- their log is the beginning of that of o
abbrev pub GoesOn : ℕ → List Event → SourceEnd → Outcome → Type 0
GoesOn more log (Done v left) o = (log ≡ o.log) × (o.end ≡ Done v (left + more))
GoesOn more log Spent o = BeginsWith log o.log

-- the outcome `long` is what more calls do where `short` ends: `long` has `more` more calls left from the
-- start
abbrev pub ExtendsOutcome : ℕ → Outcome → Outcome → Type 0
ExtendsOutcome more short long = GoesOn more short.log short.end long
