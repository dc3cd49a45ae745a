-- Patterns that match all that others do. Nothing is asked here of the types of patterns or values.
use Rattle.std.specs.Prelude.{◌≡◌, true}
use Rattle.rb_core.specs.declared.value.Value.{Value}
use Rattle.rb_core.specs.declared.pattern.Pat.{Pat}
use Rattle.rb_core.specs.Matching.{matches_of}

-- p matches each value that q matches
abbrev pub Covers : Pat → Pat → Type 0
Covers p q = (v : Value) → matches_of q v ≡ true → matches_of p v ≡ true
