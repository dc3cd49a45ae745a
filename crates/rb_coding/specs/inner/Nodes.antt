-- Nodes in post-order with their types and sizes, and where the nodes of subvalues stand. A node is the outermost
-- level of a value or of one of its subvalues, the layer: a number, or a constructor with a count of fields. It is
-- named by its number, from 0, and stands behind the nodes of its fields; a list of nodes has the value of each.
-- `types` are the data types of the program, by number; a table has the size and, so far, the words of each node.
use Rattle.std.specs.Prelude.{ℕ, zero, suc, ◌+◌, ◌-◌, List, [], ◌∷◌, ◌++◌, length, map, slice_index, slice_index_or}
use Rattle.rb_core.specs.declared.value.Value.{Value, Num, Con}
use Rattle.rb_core.specs.declared.value.Value.TheOpen as V
use Rattle.rb_core.specs.declared.value.Value.TheOpen.{Value-F}
use Rattle.rb_core.specs.declared.value.Value.TheFolds.{para-Value}
use Rattle.rb_core.specs.declared.types.Ty.{Ty}
use Rattle.rb_core.specs.declared.types.Ty.TheVariants.{Int, Named}
use Rattle.rb_core.specs.declared.types.DataDecl.{DataDecl}
use Rattle.rb_core.specs.Values.{subs}
use Rattle.rb_core.specs.Typing.{field_types}
use Rattle.rb_values.specs.Nodes.{at}
use Rattle.rb_values.specs.declared.nodes.Layer.{Layer}
use Rattle.rb_values.specs.declared.nodes.Layer.TheVariants as L
use Rattle.rb_coding.specs.declared.table.Table.{Table}

-- the types of the fields of constructor k of a type; none where there is no such constructor, as at an integer type
abbrev pub field_list : List DataDecl → Ty → ℕ → List Ty
field_list types (Int bits) k = []
field_list types (Named t) k = field_types types (record { ty = t; con = k })

-- the types of the fields of a node at a type, by its outermost level: a number has none
abbrev pub layer_fields : List DataDecl → Ty → Layer → List Ty
layer_fields types ty (L.Num n) = []
layer_fields types ty (L.Con k count) = field_list types ty k

-- the nodes of a value, each with its type, once the value's own type is given
abbrev pub NodeTyping : Type 0
NodeTyping = Ty → List (Value × Ty)

-- the nodes of fields, each field at its own type, from left to right, as far as both lists reach
abbrev pub typed_in_turn : List NodeTyping → List Ty → List (Value × Ty)
typed_in_turn [] ts = []
typed_in_turn (f ∷ fs) [] = []
typed_in_turn (f ∷ fs) (t ∷ ts) = f t ++ typed_in_turn fs ts

-- one level of `typed_posts`: the nodes of the fields, and behind them the value itself, each with its type
abbrev pub typed_step : List DataDecl → Value-F (Value × NodeTyping) → NodeTyping
typed_step types (V.Num n) ty = (Num n, ty) ∷ []
typed_step types (V.Con k ps) ty =
    typed_in_turn (map (λ (p : Value × NodeTyping). p.1) ps) (field_list types ty k)
    ++ (Con k (map (λ (p : Value × NodeTyping). p.0) ps), ty) ∷ []

-- the nodes of a value at a type, in post-order and each with its type
abbrev pub typed_posts : List DataDecl → Value → NodeTyping
typed_posts types = para-Value NodeTyping (typed_step types)

-- Where nodes stand: the nodes of a subvalue end with its own, behind those of the fields before it, and
-- `sizes` has the number of nodes of each ----------------------------------------------------------

-- where the nodes of the last `count` subvalues before node `end` begin: at `end` itself where `count` is 0
abbrev pub start_of : List ℕ → ℕ → ℕ → ℕ
start_of sizes end zero = end
start_of sizes end (suc count) = let start = start_of sizes end count in start - slice_index sizes (start - 1)

-- how many fields a node has; 0 where it is a number or not there
abbrev pub arity_of : List Value → ℕ → ℕ
arity_of nodes node = length (subs (at nodes node))

-- the number of the node of a field of a node: the nodes of the fields behind it stand between it and the node; of a
-- field that the node lacks, the answer says nothing
abbrev pub field_node : List Value → List ℕ → ℕ → ℕ → ℕ
field_node nodes sizes node field = start_of sizes node (arity_of nodes node - (field + 1)) - 1

-- the number of the node at a path of field numbers below a node, which is the node itself where the path is empty;
-- of a path on which some node lacks the field, the answer says nothing
abbrev pub node_at : List Value → List ℕ → ℕ → List ℕ → ℕ
node_at nodes sizes node [] = node
node_at nodes sizes node (field ∷ path) = node_at nodes sizes (field_node nodes sizes node field) path

-- the words that the table has for the node at a path below a node; none where it has none for it
abbrev pub subs_of : Table → List Value → ℕ → List ℕ → List ℕ
subs_of table nodes node path = slice_index_or table.words (node_at nodes table.sizes node path) []
