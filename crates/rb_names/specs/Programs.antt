-- The program of a file's tree, or the first fault of its names. The tree has names as text, the program has numbers
-- in their places. The tables `t` say what the names of types, constructors and functions stand for. Items are type
-- declarations, layouts and functions.
use Rattle.std.specs.Prelude.{ℕ, List, [], ◌∷◌, codes, Option, Some, None, Ok, Err}
use Rattle.rb_core.specs.declared.types.DataDecl.{DataDecl}
use Rattle.rb_core.specs.declared.program.Fun.{Fun}
use Rattle.rb_core.specs.declared.program.Program.{Program}
use Rattle.rb_core.specs.declared.layout_decl.LayoutDecl.{LayoutDecl}
use Rattle.rb_syntax.specs.declared.tree.NameTree.{NameTree}
use Rattle.rb_syntax.specs.declared.tree.ItemTree.{ItemTree}
use Rattle.rb_syntax.specs.declared.tree.ItemTree.TheVariants as top
use Rattle.rb_syntax.specs.declared.tree.FileTree.{FileTree}
use Rattle.rb_names.specs.declared.fault.NameFault.TheVariants.{Twice, NoMain}
use Rattle.rb_names.specs.declared.tables.Tables.{Tables}
use Rattle.rb_names.specs.declared.items.Items.{Items}
use Rattle.rb_names.specs.Tables.{meaning}
use Rattle.rb_names.specs.Definitions.{tables_of, defined_twice}
use Rattle.rb_names.specs.Numbering.{Resolved, and_then, name_found, numbered_data, numbered_layout, numbered_function}

-- these items with one more type in front of their types
abbrev pub items_with_type : DataDecl → Items → Items
items_with_type d rest = record { types = d ∷ rest.types; layouts = rest.layouts; functions = rest.functions }

-- these items with one more layout in front of their layouts
abbrev pub with_layout : LayoutDecl → Items → Items
with_layout l rest = record { types = rest.types; layouts = l ∷ rest.layouts; functions = rest.functions }

-- these items with one more function in front of their functions
abbrev pub with_function : Fun → Items → Items
with_function f rest = record { types = rest.types; layouts = rest.layouts; functions = f ∷ rest.functions }

-- items with numbers for their names, each kind in the file's order, or the first fault of a name in them; a layout
-- that is left to the compiler is none yet, but its type has to be there
abbrev pub numbered_items : Tables → List ItemTree → Resolved Items
numbered_items t [] = Ok (record { types = []; layouts = []; functions = [] })
numbered_items t (top.Types d ∷ items) =
    and_then (numbered_data t d) (λ x. and_then (numbered_items t items) (λ rest. Ok (items_with_type x rest)))
numbered_items t (top.Layouts l ∷ items) =
    and_then (numbered_layout t l) (λ x. and_then (numbered_items t items) (λ rest. Ok (with_layout x rest)))
numbered_items t (top.Funs f ∷ items) =
    and_then (numbered_function t f) (λ x. and_then (numbered_items t items) (λ rest. Ok (with_function x rest)))
numbered_items t (top.Derived name a ∷ items) =
    and_then (name_found name (meaning t.types name.text)) (λ n. numbered_items t items)

-- the fault that this name is defined twice; no fault where there is no such name
abbrev pub no_twice : Option NameTree → Resolved (Unit {0})
no_twice None = Ok tt
no_twice (Some name) = Err (Twice name.text name.at)

-- the number of the function `main`, or the fault that there is none
abbrev pub main_number : Option ℕ → Resolved ℕ
main_number None = Err NoMain
main_number (Some n) = Ok n

-- the program of a file's items by its tables, or their first fault: a name that stands for nothing, then that there
-- is no `main`
abbrev pub program_by_tables : Tables → List ItemTree → Resolved Program
program_by_tables t items =
    and_then (numbered_items t items) (λ all. and_then (main_number (meaning t.functions (codes "main"))) (λ main.
    Ok (record { types = all.types; layouts = all.layouts; funs = all.functions; main = main })))

-- the program of a file's tree, or its first fault: a name that is defined twice is looked for before all else
abbrev pub program_of : FileTree → Resolved Program
program_of file =
    and_then (no_twice (defined_twice file.items)) (λ done. program_by_tables (tables_of file.items) file.items)
