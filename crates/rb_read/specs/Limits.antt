-- The counts of a file that have a limit.
use Rattle.std.specs.Prelude.{ℕ, List, [], ◌∷◌, map, length, Bool, nat_lt, Option, find}
use Rattle.std.specs.List.{flat_map}
use Rattle.rb_core.specs.Limits as limits
use Rattle.rb_syntax.specs.declared.tree.ConTree.{ConTree}
use Rattle.rb_syntax.specs.declared.tree.TypeTree.{TypeTree}
use Rattle.rb_syntax.specs.declared.tree.FunTree.{FunTree}
use Rattle.rb_syntax.specs.declared.tree.ItemTree.{ItemTree}
use Rattle.rb_syntax.specs.declared.tree.ItemTree.TheVariants as top
use Rattle.rb_syntax.specs.declared.tree.FileTree.{FileTree}
use Rattle.rb_read.specs.declared.fault.Quantity.{Quantity}
use Rattle.rb_read.specs.declared.limits.Count.{Count}
use Rattle.rb_read.specs.declared.fault.Quantity.TheVariants.{FileBytes, Types, Functions, Constructors, Fields, Parameters, ShapeWords}

-- the most that is allowed of a quantity: of bytes, types and functions in a file, of constructors in a type, of
-- fields in a constructor, of parameters in a function, of words in a layout's shape
abbrev pub limit_of : Quantity → ℕ
limit_of FileBytes = limits.most_file_bytes
limit_of Types = limits.most_types
limit_of Functions = limits.most_functions
limit_of Constructors = limits.most_constructors
limit_of Fields = limits.most_fields
limit_of Parameters = limits.most_parameters
limit_of ShapeWords = limits.most_words

-- the count of a quantity of which there are `n`
abbrev pub count_of : Quantity → ℕ → Count
count_of q n = record { quantity = q; count = n }

-- whether a count is over the limit of its quantity; a count equal to the limit is not
abbrev pub is_over : Count → Bool
is_over c = nat_lt (limit_of c.quantity) c.count

-- the count of a constructor's fields
abbrev pub field_count : ConTree → Count
field_count con = count_of Fields (length con.fields)

-- the counts of a type: its constructors, then the fields of each
abbrev pub type_counts : TypeTree → List Count
type_counts t = count_of Constructors (length t.cons) ∷ map field_count t.cons

-- the counts of one item that have a limit: those of a type, the words of a layout's shape, or the parameters of a
-- function; a derived layout has none
abbrev pub item_counts : ItemTree → List Count
item_counts (top.Types t) = type_counts t
item_counts (top.Layouts l) = count_of ShapeWords (length l.shape) ∷ []
item_counts (top.Funs f) = count_of Parameters (length f.params) ∷ []
item_counts (top.Derived name a) = []

-- the types among the items, in their order
abbrev pub types_in : List ItemTree → List TypeTree
types_in [] = []
types_in (top.Types t ∷ items) = t ∷ types_in items
types_in (_ ∷ items) = types_in items

-- the functions among the items, in their order
abbrev pub functions_in : List ItemTree → List FunTree
functions_in [] = []
functions_in (top.Funs f ∷ items) = f ∷ functions_in items
functions_in (_ ∷ items) = functions_in items

-- the counts of a file's items that have a limit: of the types, of the functions, and then item by item as written;
-- the file's bytes are not among them, since they are counted where the file is read
abbrev pub counts : List ItemTree → List Count
counts items =
    count_of Types (length (types_in items)) ∷ count_of Functions (length (functions_in items))
    ∷ flat_map item_counts items

-- the first of a file's counts, in the order of `counts`, that is over its limit, or none; its bytes are not counted
abbrev pub first_over : FileTree → Option Count
first_over file = find is_over (counts file.items)
