-- What decoding comes to: the value that words represent, or that it is too large. A node of a value is one of its
-- constructions or numbers. Bits that no part of a layout's words has are free.
use Rattle.std.specs.Prelude.{◌≡◌, ℕ, ◌<◌, ◌≤◌, List, false, Result, Ok, Err}
use Rattle.rb_core.specs.declared.value.Value.{Value}
use Rattle.rb_core.specs.declared.types.Ty.{Ty}
use Rattle.rb_core.specs.declared.program.Program.{Program}
use Rattle.rb_core.specs.Values.{node_count}
use Rattle.rb_bytes.specs.Memory.{Memory}
use Rattle.rb_layout.specs.Flattening.{flat_layouts}
use Rattle.rb_rel.specs.Relation.{Represents}
use Rattle.rb_coding.specs.declared.fault.DecodeFault.{DecodeFault}
use Rattle.rb_coding.specs.declared.fault.DecodeFault.TheVariants.{TooLarge, Memory as NoMemory}

-- these words represent the value in a memory, at a type of the program; their free bits are anything
abbrev pub AreOf : Program → Memory → Ty → List ℕ → Value → Type 0
AreOf p m ty ws v = Represents p.types (flat_layouts p) m false ty v ws

-- what may be answered for words of value v: v, where it has at most `limit` nodes, or that it is too large, where it
-- has more; want of memory says nothing of it
abbrev pub IsDecoded : Value → ℕ → Result Value DecodeFault → Type 0
IsDecoded v limit (Ok found) = (found ≡ v) × (node_count v ≤ limit)
IsDecoded v limit (Err TooLarge) = limit < node_count v
IsDecoded v limit (Err NoMemory) = Unit {0}
