-- What reading leaves of a file: the spelling of its names, and counts within their limits. A file is read as a list
-- of tokens and as the tree of items that they spell. `Upper` tokens are names that begin with a capital, of types
-- and constructors; `Lower` ones are those of functions and variables.
use Rattle.std.specs.Prelude.{◌≡◌, ◌<◌, ◌^◌, List, [], ◌∷◌, length, Bool, true, ◌&&◌, nat_le}
use Rattle.std.specs.List.{list_all}
use Rattle.rb_core.specs.Limits.{most_types, most_functions, most_constructors, most_fields, most_parameters, most_words}
use Rattle.rb_core.specs.WellNumbered.{is_upper, is_lower}
use Rattle.rb_syntax.specs.declared.token.Token.{Token}
use Rattle.rb_syntax.specs.declared.token.Token.TheVariants as tok
use Rattle.rb_syntax.specs.declared.tree.ConTree.{ConTree}
use Rattle.rb_syntax.specs.declared.tree.TypeTree.{TypeTree}
use Rattle.rb_syntax.specs.declared.tree.ItemTree.{ItemTree}
use Rattle.rb_syntax.specs.declared.tree.ItemTree.TheVariants as top
use Rattle.rb_syntax.specs.declared.tree.FileTree.{FileTree}
use Rattle.rb_syntax.specs.Spelling.{IsTreeOf}
use Rattle.rb_names.specs.Definitions.{types_in, functions_in}

-- each name among these tokens begins with a letter of its kind, a capital or a small one, and goes on with letters,
-- digits and underscores; other tokens may be any
abbrev pub AreNamed : List Token → Type 0
AreNamed [] = Unit {0}
AreNamed (tok.Upper name ∷ ts) = (is_upper name ≡ true) × AreNamed ts
AreNamed (tok.Lower name ∷ ts) = (is_lower name ≡ true) × AreNamed ts
AreNamed (tok.Num n ∷ ts) = AreNamed ts
AreNamed (tok.Reserved w ∷ ts) = AreNamed ts
AreNamed (tok.Uint bits ∷ ts) = AreNamed ts
AreNamed (tok.Symbol s ∷ ts) = AreNamed ts

-- whether a constructor has no more fields than the limit allows
abbrev pub con_is_counted : ConTree → Bool
con_is_counted c = nat_le (length c.fields) most_fields

-- whether a type has no more constructors, and none of them more fields, than the limits allow
abbrev pub type_is_counted : TypeTree → Bool
type_is_counted d = nat_le (length d.cons) most_constructors && list_all con_is_counted d.cons

-- whether no count in an item is over its limit: constructors and fields of a type, words of a layout's shape,
-- parameters of a function; a layout that is left to the compiler has no count
abbrev pub item_is_counted : ItemTree → Bool
item_is_counted (top.Types d) = type_is_counted d
item_is_counted (top.Layouts l) = nat_le (length l.shape) most_words
item_is_counted (top.Funs f) = nat_le (length f.params) most_parameters
item_is_counted (top.Derived name a) = true

-- a file of these items has no more of anything than the limits of the language allow
pub record AreCounted (items : List ItemTree) : Type 0 where
  pub types : nat_le (length (types_in items)) most_types ≡ true
  pub functions : nat_le (length (functions_in items)) most_functions ≡ true
  pub each : list_all item_is_counted items ≡ true

-- what is known of a file that was read: its tokens, of which there are fewer than 2^32, spell it, their names are of
-- their kind, and its counts are within the limits
pub record IsReadFile (ts : List Token) (file : FileTree) : Type 0 where
  pub tree : IsTreeOf ts file
  pub short : length ts < 2 ^ 32
  pub named : AreNamed ts
  pub counted : AreCounted file.items
