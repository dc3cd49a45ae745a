-- Tables: names, each with what it stands for, in the order in which they were defined.
use Rattle.std.specs.Prelude.{ℕ, List, Option}
use Rattle.std.specs.Str.{bytes_eq}
use Rattle.std.specs.Map.{lookup}

-- the bytes of a name
abbrev pub Name : Type 0
Name = List ℕ

-- names, each with what it stands for; where a name stands twice, its first entry counts
abbrev pub Table : Type 0 → Type 0
Table A = List (Name × A)

-- what a name stands for in a table, by its first entry there; none where it has no entry
abbrev pub meaning : {A : Type 0} → Table A → Name → Option A
meaning table name = lookup (bytes_eq name) table
