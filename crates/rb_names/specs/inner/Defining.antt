-- Definitions gone through one after the other, with the tables of those before. A definition is a name that an item
-- of the file defines, with its kind, which says in which table: that of types, of constructors, of functions, or of
-- types that have a layout. `before` are the definitions that were gone through, `more` those that come next, and
-- `known` the tables so far.
use Rattle.std.specs.Prelude.{◌≡◌, Bool, List, [], ◌∷◌, ◌++◌, ◌&&◌, length, is_some, Err, if◌then◌else◌, Option, Some, None}
use Rattle.std.specs.List.{list_any}
use Rattle.std.specs.Str.{bytes_eq}
use Rattle.rb_syntax.specs.declared.tree.NameTree.{NameTree}
use Rattle.rb_syntax.specs.declared.tree.ItemTree.{ItemTree}
use Rattle.rb_names.specs.declared.fault.NameFault.{NameFault}
use Rattle.rb_names.specs.declared.tables.Tables.{Tables}
use Rattle.rb_names.specs.declared.tables.Defining.{Defining}
use Rattle.rb_names.specs.Tables.{Name, Table, meaning}
use Rattle.rb_names.specs.Definitions.{TableKind, OfType, OfConstructor, OfFunction, OfLayout, Definition, same_kind, first_again, numbered_names, constructors_of, type_names, types_in, function_names}
use Rattle.rb_names.specs.Answers.{AnswersNumbering}
use Rattle.rb_names.specs.Programs.{no_twice}

-- a table after name is defined as x, given what name stood for before: it stays where that was something, and else
-- has a new entry at its end
abbrev pub with_definition : {A : Type 0} → Table A → Name → A → Option A → Table A
with_definition table name x (Some before) = table
with_definition table name x None = table ++ (name, x) ∷ []

-- whether this name is among these definitions as one of kind k, that is, in the table of that kind
abbrev pub is_defined : TableKind → Name → List Definition → Bool
is_defined k name before = list_any (λ (d : Definition). same_kind k d.kind && bytes_eq name d.name.text) before

-- the table has exactly the names that are among these definitions as ones of kind k
abbrev pub Knows : {A : Type 0} → TableKind → List Definition → Table A → Type 0
Knows k before table = (name : Name) → is_some (meaning table name) ≡ is_defined k name before

-- each table, and that of the types with a layout, has exactly the names that were defined in it before
pub record AreKnown (before : List Definition) (known : Defining) : Type 0 where
  pub types : Knows OfType before known.tables.types
  pub constructors : Knows OfConstructor before known.tables.constructors
  pub functions : Knows OfFunction before known.tables.functions
  pub laid : Knows OfLayout before known.laid

-- behind the definitions before, those in more define no name again, and the tables know all of them
pub record AreAdded (before more : List Definition) (known : Defining) : Type 0 where
  pub all : List Definition
  pub are_known : AreKnown all known
  pub are_new : (rest : List Definition) → first_again before (more ++ rest) ≡ first_again all rest

-- fault is that the first name of more that was defined before is defined twice; or it is want of memory, which says
-- nothing
abbrev pub IsAgain : (before more : List Definition) → NameFault → Type 0
IsAgain before more fault =
    (rest : List Definition)
    → AnswersNumbering {A = Unit {0}} (Err fault) (no_twice (first_again before (more ++ rest)))

-- the name, where it is there already, that is, defined in its table before; none where it is new
abbrev pub repeated_name : Bool → NameTree → Option NameTree
repeated_name there name = if there then Some name else None

-- the table has exactly these names, whatever they stand for
abbrev pub HasNames : {A : Type 0} → Table A → List Name → Type 0
HasNames table names = (name : Name) → is_some (meaning table name) ≡ list_any (bytes_eq name) names

-- the tables before any item
abbrev pub nothing_defined : Defining
nothing_defined = record { tables = record { types = []; constructors = []; functions = [] }; laid = [] }

-- the tables t when the items that are left are gone through as well: new types and functions get the numbers that
-- follow those of t
abbrev pub with_rest : Tables → List ItemTree → Tables
with_rest t items = record {
  types = t.types ++ numbered_names (length t.types) (type_names items);
  constructors = t.constructors ++ constructors_of (length t.types) (types_in items);
  functions = t.functions ++ numbered_names (length t.functions) (function_names items);
}
