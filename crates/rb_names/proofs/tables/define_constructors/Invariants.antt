use Rattle.std.proofs.Common.{◌≡◌, ◌++◌, List, map, drop}
use Rattle.rb_names.specs.Definitions.{Definition, constructor_definition, constructors_from}
use Rattle.rb_names.specs.inner.Defining.{AreKnown}
use Rattle.rb_names.proofs.TablesLemmas.{Passed}
use Rattle.rb_names.proofs.tables.define_constructors.Given as goal

-- the constructors before i are defined
abbrev pub invariant-loop-i : goal.invariant-loop-i
invariant-loop-i l = record {
  constructors : l.known.tables.constructors ++ constructors_from l.ty l.i (drop l.i l.cons) ≡ l.fn.known.tables.constructors ++ constructors_from l.ty 0 l.cons;
  types : l.known.tables.types ≡ l.fn.known.tables.types;
  functions : l.known.tables.functions ≡ l.fn.known.tables.functions;
  added : (before : List Definition) → AreKnown before l.fn.known
      → Passed before (map constructor_definition l.cons) (map constructor_definition (drop l.i l.cons)) l.known;
}
