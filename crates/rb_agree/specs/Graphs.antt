-- When a graph shows a relation of numbers. A graph lists for each number, that of a type, those to which it leads.
use Rattle.std.specs.Prelude.{◌↔◌, ℕ, List}
use Rattle.rb_layout.specs.Graphs.{Leads}

-- the graph leads from a number to another just where they are related
abbrev pub IsGraphOf : (ℕ → ℕ → Type 0) → List (List ℕ) → Type 0
IsGraphOf R graph = (t s : ℕ) → Leads graph t s ↔ R t s
