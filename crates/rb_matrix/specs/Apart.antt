-- Patterns that share no value: no value matches both. Nothing is asked here of the types of patterns or values.
use Rattle.std.specs.Prelude.{◌≡◌, true}
use Rattle.rb_core.specs.declared.value.Value.{Value}
use Rattle.rb_core.specs.declared.pattern.Pat.{Pat}
use Rattle.rb_core.specs.Matching.{matches_of}

-- no value matches both patterns, of whatever type it is, and even where it is of none
abbrev pub PatternsAreApart : Pat → Pat → Type 0
PatternsAreApart p q = (v : Value) → matches_of p v ≡ true → matches_of q v ≡ true → ⊥
