-- What a file defines: its tables, and the first name that is defined twice. A file is a list of items: type
-- declarations, functions, written layouts, and layouts that are left to the compiler (`Derived`). A table says what
-- names stand for: of a type or a function its number, of a constructor its type's number and its own in that type,
-- all from 0.
use Rattle.std.specs.Prelude.{ℕ, suc, Bool, true, false, List, [], ◌∷◌, ◌++◌, map, ◌&&◌, if◌then◌else◌, Option, Some, None}
use Rattle.std.specs.List.{list_any, flat_map}
use Rattle.std.specs.Str.{bytes_eq}
use Rattle.rb_core.specs.declared.types.ConRef.{ConRef}
use Rattle.rb_syntax.specs.declared.tree.NameTree.{NameTree}
use Rattle.rb_syntax.specs.declared.tree.ConTree.{ConTree}
use Rattle.rb_syntax.specs.declared.tree.TypeTree.{TypeTree}
use Rattle.rb_syntax.specs.declared.tree.FunTree.{FunTree}
use Rattle.rb_syntax.specs.declared.tree.ItemTree.{ItemTree}
use Rattle.rb_syntax.specs.declared.tree.ItemTree.TheVariants as top
use Rattle.rb_names.specs.declared.tables.Tables.{Tables}
use Rattle.rb_names.specs.Tables.{Name, Table}

-- the type declarations among items, in the file's order
abbrev pub types_in : List ItemTree → List TypeTree
types_in [] = []
types_in (top.Types t ∷ items) = t ∷ types_in items
types_in (top.Layouts l ∷ items) = types_in items
types_in (top.Funs f ∷ items) = types_in items
types_in (top.Derived name a ∷ items) = types_in items

-- the functions among items, in the file's order
abbrev pub functions_in : List ItemTree → List FunTree
functions_in [] = []
functions_in (top.Types t ∷ items) = functions_in items
functions_in (top.Layouts l ∷ items) = functions_in items
functions_in (top.Funs f ∷ items) = f ∷ functions_in items
functions_in (top.Derived name a ∷ items) = functions_in items

-- names, each with its number: n for the first, and one more for each next
abbrev pub numbered_names : ℕ → List Name → Table ℕ
numbered_names n [] = []
numbered_names n (x ∷ xs) = (x, n) ∷ numbered_names (suc n) xs

-- the constructors of the type with number ty by their names: each stands for that type and its number in it, where
-- the first has the number con
abbrev pub constructors_from : (ty con : ℕ) → List ConTree → Table ConRef
constructors_from ty con [] = []
constructors_from ty con (c ∷ cs) = (c.name.text, record { ty = ty; con = con }) ∷ constructors_from ty (suc con) cs

-- all constructors of types by their names, where the first of the types has the number ty
abbrev pub constructors_of : (ty : ℕ) → List TypeTree → Table ConRef
constructors_of ty [] = []
constructors_of ty (t ∷ ts) = constructors_from ty 0 t.cons ++ constructors_of (suc ty) ts

-- the names of the types that items declare, in the file's order
abbrev pub type_names : List ItemTree → List Name
type_names items = map (λ t. t.name.text) (types_in items)

-- the names of the functions among items, in the file's order
abbrev pub function_names : List ItemTree → List Name
function_names items = map (λ f. f.name.text) (functions_in items)

-- The tables of a file with these items. Types and functions are numbered in the file's order, and constructors in
-- that of their type.
abbrev pub tables_of : List ItemTree → Tables
tables_of items = record {
  types = numbered_names 0 (type_names items);
  constructors = constructors_of 0 (types_in items);
  functions = numbered_names 0 (function_names items);
}

-- Twice -------------------------------------------------------------------------------------

-- the tables in which a name is defined; a type's name stands in the last of them by its layout
pub data TableKind : Type 0 where
  OfType : TableKind
  OfConstructor : TableKind
  OfFunction : TableKind
  OfLayout : TableKind

-- whether two kinds are the same, so that names of them are defined in the same table
abbrev pub same_kind : TableKind → TableKind → Bool
same_kind OfType OfType = true
same_kind OfConstructor OfConstructor = true
same_kind OfFunction OfFunction = true
same_kind OfLayout OfLayout = true
same_kind k l = false

-- a name that is defined, and in which table
pub record Definition : Type 0 where
  pub kind : TableKind
  pub name : NameTree

-- whether two definitions are of the same name in the same table
abbrev pub same_definition : Definition → Definition → Bool
same_definition d e = same_kind d.kind e.kind && bytes_eq d.name.text e.name.text

-- what a layout of the type with this name defines, written or derived: nothing where no type has the name
abbrev pub layout_definition : (types : List Name) → NameTree → List Definition
layout_definition types name =
    if list_any (bytes_eq name.text) types then record { kind = OfLayout; name = name } ∷ [] else []

-- what a constructor of a type declaration defines: its name, among the constructors
abbrev pub constructor_definition : ConTree → Definition
constructor_definition c = record { kind = OfConstructor; name = c.name }

-- what an item defines, in its order, in a file with types of these names
abbrev pub definitions : (types : List Name) → ItemTree → List Definition
definitions types (top.Types t) = record { kind = OfType; name = t.name } ∷ map constructor_definition t.cons
definitions types (top.Layouts l) = layout_definition types l.ty
definitions types (top.Funs f) = record { kind = OfFunction; name = f.name } ∷ []
definitions types (top.Derived name a) = layout_definition types name

-- the name of the first definition in after that equals one before it, in before or in after; none if there is none
abbrev pub first_again : (before after : List Definition) → Option NameTree
first_again before [] = None
first_again before (d ∷ ds) =
    if list_any (same_definition d) before then Some d.name else first_again (before ++ d ∷ []) ds

-- the first name of a file with these items that was defined before in its table; none where each is defined once
abbrev pub defined_twice : List ItemTree → Option NameTree
defined_twice items = first_again [] (flat_map (definitions (type_names items)) items)
