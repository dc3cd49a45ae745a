-- Where a location ends, without the flat word there: what code hands on.
use Rattle.std.specs.Prelude.{Option, Some, None}
use Rattle.rb_layout.specs.declared.locate.End.{End}
use Rattle.rb_layout.specs.Locations.{Reached}

-- the reference of the word at which a location ends, and the last range; None where the location does not resolve
abbrev pub end_of : Option Reached → Option End
end_of None = None
end_of (Some x) = Some (record { at = x.ref; o = x.o; l = x.l })
