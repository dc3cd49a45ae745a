-- Open positions as code lists them. An open position is a path, the field numbers from the root to a wildcard or
-- variable of a pattern, with the type there.
use Rattle.std.specs.Prelude.{List, map}
use Rattle.rb_layout.specs.Positions.{Open}
use Rattle.rb_layout.specs.declared.opens.OpenPosition.{OpenPosition}

-- an open position that code lists, as specifications speak of it
abbrev pub open_at : OpenPosition → Open
open_at o = record { path = o.path; ty = o.ty }

-- a list of open positions that code lists, as specifications speak of them, in the same order
abbrev pub opens_at : List OpenPosition → List Open
opens_at os = map open_at os
