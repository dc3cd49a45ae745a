-- Patterns as they are shown, field by field.
use Rattle.std.specs.Prelude.{ℕ, List, codes, ◌==◌, if◌then◌else◌}

-- what stands before the field of this number: `(` before the first, which is number 0, and a comma before each other
abbrev pub opening : ℕ → List ℕ
opening number = if number == 0 then codes "(" else codes ", "
