-- The law of command lines.
use Rattle.std.specs.Prelude.{◌≡◌, ℕ, List}
use Rattle.rb_command.specs.Command.{Parsed, IsParsed}

-- words are those of a command or have a first word at fault, and come to one thing alone
abbrev pub HaveOneMeaning : Type 0
HaveOneMeaning = (words : List (List ℕ)) → (parsed : Parsed) × IsParsed words parsed
    × ((other : Parsed) → IsParsed words other → other ≡ parsed)
