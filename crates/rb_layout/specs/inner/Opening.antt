-- Open positions below a path. An open position is a path, the field numbers from the root to a wildcard or variable of
-- a pattern, with the type there.
use Rattle.std.specs.Prelude.{ℕ, List, ◌++◌}
use Rattle.rb_layout.specs.Positions.{Open}

-- an open position of a pattern that stands at this path, seen from the root: its own path comes behind this one
abbrev pub under : List ℕ → Open → Open
under path o = record { path = path ++ o.path; ty = o.ty }
