-- Files of the system as a source. A name is a list of bytes; a reading is a file that was opened, or should have
-- been.
use Rattle.std.specs.Prelude.{ℕ, List, [], ◌∷◌, ◌++◌}
use Rattle.rb_edge.specs.Faults.{one_more}
use Rattle.rb_edge.specs.History.{Reading, fresh_reading, missed_reading, broken_reading, on_last}

-- what contracts see of a source of files of the system
pub record SourceCounts : Type 0 where
  -- what it handed out: the readings since it was made, in their order
  pub readings : List Reading
  -- how many faults there were since it was made
  pub faults : ℕ

-- the source after a name was opened: one reading more, of which nothing is handed out yet
abbrev pub after_opening : SourceCounts → List ℕ → SourceCounts
after_opening s name = record s { readings = s.readings ++ fresh_reading name ∷ [] }

-- the source after the opening of a name failed: one reading more, which failed, and one fault more
abbrev pub after_miss : SourceCounts → List ℕ → SourceCounts
after_miss s name = record { readings = s.readings ++ missed_reading name ∷ []; faults = one_more s.faults }

-- the source after a read failed: the last reading failed, if there is one, and there is one fault more
abbrev pub after_failure : SourceCounts → SourceCounts
after_failure s = record { readings = on_last broken_reading s.readings; faults = one_more s.faults }
