-- Reading of files, form by form, as functions on lists of tokens. A node is an expression, a pattern, a provenance
-- or what is below its constructor, a layout's tree, or a pointer part of a leaf. It is read with a number of levels
-- left, and the nodes inside it with one fewer; with none left it is too deep. `total` is the number of all tokens of
-- the file, so that what begins at `ts` has the number `total - length ts`. A function named `.._from` takes the
-- first token apart from those behind it. One named `.._one` reads one layer of a node: it takes the readers of what
-- stands inside, and has the first token looked at by `.._from`. A token is refused where the reader is stuck at it.
use Rattle.std.specs.Prelude.{ℕ, zero, suc, ◌-◌, List, [], ◌∷◌, length, Bool, true, false, if◌then◌else◌, Option, Some, None, Ok, Err}
use Rattle.rb_core.specs.declared.expression.Op.{Op}
use Rattle.rb_core.specs.declared.types.Auto.TheVariants as auto
use Rattle.rb_core.specs.declared.types.Auto.{Auto}
use Rattle.rb_core.specs.declared.layout_decl.Step.{Step}
use Rattle.rb_core.specs.declared.layout_decl.Loc.{Loc}
use Rattle.rb_core.specs.declared.layout_decl.LayItem.{LayItem}
use Rattle.rb_core.specs.declared.layout_decl.LayItem.TheVariants as lay_item
use Rattle.rb_core.specs.declared.layout_decl.PartKind.{PartKind}
use Rattle.rb_core.specs.declared.layout_decl.PartKind.TheVariants as kind
use Rattle.rb_core.specs.declared.layout_decl.PartDecl.{PartDecl}
use Rattle.rb_syntax.specs.declared.token.ReservedWord.TheVariants as word
use Rattle.rb_syntax.specs.declared.token.Symbol.TheVariants as symbol
use Rattle.rb_syntax.specs.declared.token.Token.{Token}
use Rattle.rb_syntax.specs.declared.token.Token.TheVariants as token
use Rattle.rb_syntax.specs.declared.tree.NameTree.{NameTree}
use Rattle.rb_syntax.specs.declared.tree.TyTree.{TyTree}
use Rattle.rb_syntax.specs.declared.tree.TyTree.TheVariants as ty
use Rattle.rb_syntax.specs.declared.tree.ConTree.{ConTree}
use Rattle.rb_syntax.specs.declared.tree.PatTree.{PatTree}
use Rattle.rb_syntax.specs.declared.tree.PatTree.TheVariants as pat
use Rattle.rb_syntax.specs.declared.tree.ExprTree.{ExprTree}
use Rattle.rb_syntax.specs.declared.tree.ExprTree.TheVariants as expr
use Rattle.rb_syntax.specs.declared.tree.ClauseTree.{ClauseTree}
use Rattle.rb_syntax.specs.declared.tree.ParamTree.{ParamTree}
use Rattle.rb_syntax.specs.declared.tree.SplitTree.{SplitTree}
use Rattle.rb_syntax.specs.declared.tree.SplitTree.TheVariants as split
use Rattle.rb_syntax.specs.declared.tree.ArmTree.{ArmTree}
use Rattle.rb_syntax.specs.declared.tree.ItemTree.{ItemTree}
use Rattle.rb_syntax.specs.declared.tree.ItemTree.TheVariants as top
use Rattle.rb_syntax.specs.Spelling.{is_uint_width}
use Rattle.rb_read.specs.declared.starting.Form.{Form}
use Rattle.rb_read.specs.declared.starting.Form.TheVariants as form
use Rattle.rb_read.specs.inner.Starting.{is_symbol, is_word, is_number, form_of}
use Rattle.rb_read.specs.inner.Combining.{Reader, stuck, deep, pair, into, expect, expect_word, closed_by, some_closed, any_closed, in_parens, optional, each_of, beyond}
use Rattle.rb_read.specs.inner.Tokens.{lower_name, upper_name, number, field, width}

-- the name with this text, whose token has number `at`
abbrev pub name_tree : ℕ → List ℕ → NameTree
name_tree at name = record { at = at; text = name }

-- no form that is wanted begins with the token before these: it is stuck at that one
abbrev pub stop_before : {A : Type 0} → Reader A
stop_before ts = Err (stuck (suc (length ts)))

-- Types, constructors and parameters.

-- a type, by its first token and over those behind it: of integers of 1 to 64 bits, or a name with a capital, with
-- the number of its token; a width of 0 or over 64, and any other token, is refused
unfoldable pub type_from : ℕ → Token → Reader TyTree
type_from total (token.Uint bits) ts = if is_uint_width bits then Ok (ty.Int bits, ts) else stop_before ts
type_from total (token.Upper name) ts = Ok (ty.Named (name_tree (total - suc (length ts)) name), ts)
type_from total _ ts = stop_before ts

-- a type, `u8` or `T`; it is stuck where no token is left
unfoldable pub type_tree : ℕ → Reader TyTree
type_tree total [] = Err (stuck 0)
type_tree total (t ∷ ts) = type_from total t ts

-- a constructor of a type, `A` or `B(u8, T)`: its name with the number of its token, and the types of its fields,
-- none where no parenthesis opens
unfoldable pub con_tree : ℕ → Reader ConTree
con_tree total = into (λ (name, fields). record { name = name; fields = fields })
    (pair (upper_name total) (in_parens (type_tree total)))

-- What is made of a form takes the form's parts in their order, with `_` for each symbol or word beside them.

-- a parameter made of its name, whose token's number it has too, and its type behind the colon
abbrev pub parameter_of : NameTree × (Unit {0} × TyTree) → ParamTree
parameter_of (name, (_, ty)) = record { at = name.at; var = name; ty = ty }

-- a parameter of a function, `x: T`
unfoldable pub param_tree : ℕ → Reader ParamTree
param_tree total = into parameter_of (pair (lower_name total) (pair (expect symbol.Colon) (type_tree total)))

-- Patterns and provenances.

-- whether a token begins a pattern: it is a name, a number or `_`
abbrev pub begins_pattern : Token → Bool
begins_pattern (token.Upper name) = true
begins_pattern (token.Lower name) = true
begins_pattern (token.Num n) = true
begins_pattern t = is_symbol symbol.Underscore t

-- a pattern, by its first token, which has number `at`, and over those behind it: a name, a number or `_`; any other
-- token is refused. `inner` reads the patterns inside
unfoldable pub pattern_from : Reader PatTree → ℕ → Token → Reader PatTree
pattern_from inner at (token.Upper name) ts = into (λ ps. pat.Con at (name_tree at name) ps) (in_parens inner) ts
pattern_from inner at (token.Lower name) ts = Ok (pat.Var at (name_tree at name), ts)
pattern_from inner at (token.Num n) ts = Ok (pat.Num at n, ts)
pattern_from inner at (token.Symbol symbol.Underscore) ts = Ok (pat.Wild at, ts)
pattern_from inner at _ ts = stop_before ts

-- a pattern, where `inner` reads the patterns inside; it is stuck where no token is left
unfoldable pub pattern_one : Reader PatTree → ℕ → Reader PatTree
pattern_one inner total [] = Err (stuck 0)
pattern_one inner total (t ∷ ts) = pattern_from inner (total - suc (length ts)) t ts

-- a pattern, with so many levels left
unfoldable pub pattern : ℕ → ℕ → Reader PatTree
pattern zero total ts = beyond begins_pattern ts
pattern (suc n) total ts = pattern_one (λ us. pattern n total us) total ts

-- whether a token begins a provenance: a name with a capital
abbrev pub begins_provenance : Token → Bool
begins_provenance (token.Upper name) = true
begins_provenance _ = false

-- whether a token begins what may stand below a provenance's constructor: a name with a capital, or `_`
abbrev pub begins_below : Token → Bool
begins_below (token.Upper name) = true
begins_below t = is_symbol symbol.Underscore t

-- what stands below a provenance's constructor, by its first token, which has number `at`, and over those behind it:
-- a name with a capital, or `_`; any other token is refused. `inner` reads what is inside
unfoldable pub below_from : Reader PatTree → ℕ → Token → Reader PatTree
below_from inner at (token.Upper name) ts = into (λ ps. pat.Con at (name_tree at name) ps) (in_parens inner) ts
below_from inner at (token.Symbol symbol.Underscore) ts = Ok (pat.Wild at, ts)
below_from inner at _ ts = stop_before ts

-- what stands below a provenance's constructor, where `inner` reads what is inside; it is stuck where no token is
-- left
unfoldable pub below_one : Reader PatTree → ℕ → Reader PatTree
below_one inner total [] = Err (stuck 0)
below_one inner total (t ∷ ts) = below_from inner (total - suc (length ts)) t ts

-- what stands below a provenance's constructor, a constructor with its own parts or `_`, with so many levels left
unfoldable pub below : ℕ → ℕ → Reader PatTree
below zero total ts = beyond begins_below ts
below (suc n) total ts = below_one (λ us. below n total us) total ts

-- a provenance, by its first token, which has number `at`, and over those behind it: a name with a capital; any other
-- token is refused. `inner` reads what is below its constructor
unfoldable pub provenance_from : Reader PatTree → ℕ → Token → Reader PatTree
provenance_from inner at (token.Upper name) ts = into (λ ps. pat.Con at (name_tree at name) ps) (in_parens inner) ts
provenance_from inner at _ ts = stop_before ts

-- a provenance, where `inner` reads what is below its constructor; it is stuck where no token is left
unfoldable pub provenance_one : Reader PatTree → ℕ → Reader PatTree
provenance_one inner total [] = Err (stuck 0)
provenance_one inner total (t ∷ ts) = provenance_from inner (total - suc (length ts)) t ts

-- a provenance, that is, the pattern at the head of a leaf: a constructor, with constructors and `_` below it; with
-- so many levels left
unfoldable pub provenance : ℕ → ℕ → Reader PatTree
provenance zero total ts = beyond begins_provenance ts
provenance (suc n) total ts = provenance_one (λ us. below n total us) total ts

-- Expressions.

-- whether a form is one of an expression, as all but `Other` are
abbrev pub is_form : Form → Bool
is_form form.Other = false
is_form _ = true

-- whether a token begins an expression: it is a name, a number, or a reserved word of a form
abbrev pub begins_expression : Token → Bool
begins_expression (token.Upper name) = true
begins_expression (token.Lower name) = true
begins_expression (token.Num n) = true
begins_expression (token.Reserved w) = is_form (form_of w)
begins_expression _ = false

-- what a name with number `at` is: a variable where no parentheses stand behind it, or a call with those arguments
abbrev pub name_or_call : ℕ → List ℕ → Option (List ExprTree) → ExprTree
name_or_call at name None = expr.Var at (name_tree at name)
name_or_call at name (Some es) = expr.Call at (name_tree at name) es

-- an operation made of its two operands; its word has number `at`
abbrev pub operation_of : ℕ → Op → Unit {0} × (ExprTree × ExprTree) → ExprTree
operation_of at op (_, (first, second)) = expr.Binary at op first second

-- a conversion made of the width and the expression that is converted to it; its word has number `at`
abbrev pub conversion_of : ℕ → ℕ × (Unit {0} × ExprTree) → ExprTree
conversion_of at (bits, (_, converted)) = expr.To at bits converted

-- what a `let` binds, with its body
abbrev pub bound_of : ExprTree × (Unit {0} × ExprTree) → ExprTree × ExprTree
bound_of (bound, (_, body)) = (bound, body)

-- a `let` made of its name and its type, and of what is bound to it and its body; its word has number `at`
abbrev pub binding_of : ℕ → (NameTree × TyTree) × (ExprTree × ExprTree) → ExprTree
binding_of at ((name, ty), (bound, body)) = expr.Let at name ty bound body

-- a clause of a match made of its pattern and its body
abbrev pub clause_of : PatTree × ExprTree → ClauseTree
clause_of (pattern, body) = record { pat = pattern; body = body }

-- a match made of what is matched, and its clauses; its word has number `at`
abbrev pub matching_of : ℕ → ExprTree × List ClauseTree → ExprTree
matching_of at (matched, clauses) = expr.Match at matched clauses

-- the variable of a `let` behind its word, of `total` tokens in all, with its type and the `=` behind them: `x: T =`
unfoldable pub typed_variable : ℕ → Reader (NameTree × TyTree)
typed_variable total = pair (closed_by (lower_name total) symbol.Colon) (closed_by (type_tree total) symbol.Equals)

-- what a `let` binds and its body, `a in b`, where `inner` reads the expressions
unfoldable pub bound_and_body : Reader ExprTree → Reader (ExprTree × ExprTree)
bound_and_body inner = into bound_of (pair inner (pair (expect_word word.In) inner))

-- the arguments of a call in parentheses, any number, or nothing where no parenthesis opens; `inner` reads one
unfoldable pub arguments : Reader ExprTree → Reader (Option (List ExprTree))
arguments inner = optional (λ t. is_symbol symbol.OpenParen t)
    (into (λ p. p.1) (pair (expect symbol.OpenParen) (any_closed inner symbol.CloseParen)))

-- over the readers `inside` of the patterns and `inner` of the expressions inside, the number `total` of all tokens,
-- and the number `at` of the node's first token
module _ (inside : Reader PatTree) (inner : Reader ExprTree) (total at : ℕ) where
  -- an operation behind its word: `(a, b)` in `add(a, b)`
  unfoldable pub operation : Op → Reader ExprTree
  operation op = into (operation_of at op)
      (pair (expect symbol.OpenParen) (pair (closed_by inner symbol.Comma) (closed_by inner symbol.CloseParen)))

  -- a conversion behind its word: `u8(a)` in `to u8(a)`
  unfoldable pub conversion : Reader ExprTree
  conversion = into (conversion_of at)
      (pair width (pair (expect symbol.OpenParen) (closed_by inner symbol.CloseParen)))

  -- a `let` behind its word: `x: T = a in b`
  unfoldable pub binding : Reader ExprTree
  binding = into (binding_of at) (pair (typed_variable total) (bound_and_body inner))

  -- a clause of a match, `p => e`
  unfoldable pub clause_tree : Reader ClauseTree
  clause_tree = into clause_of (pair (closed_by inside symbol.FatArrow) inner)

  -- a match behind its word: `a { p => e, q => f }`, with one clause or more
  unfoldable pub matching : Reader ExprTree
  matching = into (matching_of at)
      (pair (closed_by inner symbol.OpenBrace) (some_closed clause_tree symbol.Comma symbol.CloseBrace))

  -- an expression behind the reserved word that it begins with, by the form of that word; with the form `Other` the
  -- word is refused
  unfoldable pub from_form : Form → Reader ExprTree
  from_form (form.Operation op) ts = operation op ts
  from_form form.Conversion ts = conversion ts
  from_form form.Binding ts = binding ts
  from_form form.Matching ts = matching ts
  from_form form.Other ts = stop_before ts

  -- an expression, by its first token and over those behind it: a number, a name, or a reserved word that begins one;
  -- any other token is refused
  unfoldable pub expression_from : Token → Reader ExprTree
  expression_from (token.Num n) ts = Ok (expr.Num at n, ts)
  expression_from (token.Lower name) ts = into (λ o. name_or_call at name o) (arguments inner) ts
  expression_from (token.Upper name) ts = into (λ es. expr.Build at (name_tree at name) es) (in_parens inner) ts
  expression_from (token.Reserved w) ts = from_form (form_of w) ts
  expression_from _ ts = stop_before ts

-- one layer of an expression, where `inside` reads the patterns in it, and `inner` the expressions in it; it is stuck
-- where no token is left
unfoldable pub expression_one : Reader PatTree → Reader ExprTree → ℕ → Reader ExprTree
expression_one inside inner total [] = Err (stuck 0)
expression_one inside inner total (t ∷ ts) = expression_from inside inner total (total - suc (length ts)) t ts

-- an expression, with so many levels left
unfoldable pub expression : ℕ → ℕ → Reader ExprTree
expression zero total ts = beyond begins_expression ts
expression (suc n) total ts = expression_one (λ us. pattern n total us) (λ us. expression n total us) total ts

-- Ranges, paths and locations.

-- a range made of its first bit and its length
abbrev pub range_of : ℕ × (Unit {0} × (ℕ × Unit {0})) → ℕ × ℕ
range_of (first, (_, (bits, _))) = (first, bits)

-- a range of bits behind its bracket: `0:8]`, the first bit and the length
unfoldable pub range_rest : Reader (ℕ × ℕ)
range_rest = into range_of
    (pair number (pair (expect symbol.Colon) (pair number (expect symbol.CloseBracket))))

-- a range of bits, `[0:8]`: the first bit and the length
unfoldable pub range : Reader (ℕ × ℕ)
range = into (λ p. p.1) (pair (expect symbol.OpenBracket) range_rest)

-- a field in a path, `.0`
unfoldable pub field_in : Reader ℕ
field_in = into (λ p. p.1) (pair (expect symbol.Dot) field)

-- the fields behind a path's first, any number
unfoldable pub more_fields : Reader (List ℕ)
more_fields = each_of (λ t. is_symbol symbol.Dot t) field_in

-- a path of fields, one or more: `.0.1`
unfoldable pub path : Reader (List ℕ)
path = into (λ (first, others). first ∷ others) (pair field_in more_fields)

-- a step of a location made of the alignment, the byte, the width, and the range of bits by first bit and length
abbrev pub step_of : Unit {0} × (ℕ × (Unit {0} × (ℕ × (Unit {0} × (ℕ × (ℕ × ℕ)))))) → Step
step_of (_, (align, (_, (byte, (_, (width, (first, bits))))))) =
    record { align = align; byte = byte; width = width; o = first; l = bits }

-- a step of a location, `-> 4 @0:8[0:8]`: alignment, byte, width, and range of bits by first bit and length
unfoldable pub loc_step : Reader Step
loc_step = into step_of
    (pair (expect symbol.Arrow) (pair number (pair (expect symbol.At) (pair number
    (pair (expect symbol.Colon) (pair number range))))))

-- a location made of a word's number, a range of its bits by first bit and length, and the steps behind it
abbrev pub location_of : ℕ × ((ℕ × ℕ) × List Step) → Loc
location_of (word, ((first, bits), steps)) = record { word = word; o = first; l = bits; steps = steps }

-- a location, `0[0:32] -> 4 @0:8[0:8]`: a range of bits in a word, and any number of steps
unfoldable pub location : Reader Loc
location = into location_of (pair number (pair range (each_of (λ t. is_symbol symbol.Arrow t) loc_step)))

-- Parts and items of a leaf.

-- what stands behind a path in a part: a slice's first bit and length, or a word's number
pub data PathEnd : Type 0 where
  sliced : ℕ → ℕ → PathEnd
  numbered : ℕ → PathEnd

-- whether a token begins what stands behind a path in a part: it is the word `word` or `[`
abbrev pub ends_path : Token → Bool
ends_path (token.Reserved w) = is_word word.Word (token.Reserved w)
ends_path t = is_symbol symbol.OpenBracket t

-- what stands behind a path in a part, by its first token and over those behind it: `[` or the word `word`; any other
-- token is refused
unfoldable pub path_end_from : Token → Reader PathEnd
path_end_from (token.Symbol symbol.OpenBracket) ts = into (λ r. sliced r.0 r.1) range_rest ts
path_end_from (token.Reserved word.Word) ts = into (λ j. numbered j) number ts
path_end_from _ ts = stop_before ts

-- what stands behind a path in a part, `[0:8]` or `word 1`; it is stuck where no token is left
unfoldable pub path_end : Reader PathEnd
path_end [] = Err (stuck 0)
path_end (t ∷ ts) = path_end_from t ts

-- what a part holds of the field at a path: all of it where nothing stands behind the path, some bits by first bit
-- and length, or the word with a number
abbrev pub field_part : List ℕ → Option PathEnd → PartKind
field_part fields None = kind.Whole fields
field_part fields (Some (sliced first bits)) = kind.Slice fields first bits
field_part fields (Some (numbered j)) = kind.Word fields j

-- what a part holds of a field, made of its path's first field, the others, and what stands behind the path
abbrev pub field_part_of : ℕ × (List ℕ × Option PathEnd) → PartKind
field_part_of (first, (others, end)) = field_part (first ∷ others) end

-- a part of a word made of its range of bits, by first bit and length, and what it holds
abbrev pub part_of : (ℕ × ℕ) × PartKind → PartDecl
part_of ((first, bits), kind) = record { o = first; l = bits; kind = kind }

-- a word of a leaf or block made of its width in bits, and its parts
abbrev pub word_item_of : ℕ × (Unit {0} × List PartDecl) → LayItem
word_item_of (bits, (_, parts)) = lay_item.Word bits parts

-- over the reader of what stands behind `->` in a part
module _ (pointed : Reader PartKind) where
  -- what a part holds, by its first token and over those behind it: `=`, `.` or `->`; any other token is refused
  unfoldable pub part_kind_from : Token → Reader PartKind
  part_kind_from (token.Symbol symbol.Equals) ts = into (λ n. kind.Const n) number ts
  part_kind_from (token.Symbol symbol.Dot) ts =
      into field_part_of (pair field (pair more_fields (optional ends_path path_end))) ts
  part_kind_from (token.Symbol symbol.Arrow) ts = pointed ts
  part_kind_from _ ts = stop_before ts

  -- what a part holds: `= 5`, `.0`, `.0[0:8]`, `.0 word 1` or `-> 8 { inline .1 }`; it is stuck where no token is
  -- left
  unfoldable pub part_kind : Reader PartKind
  part_kind [] = Err (stuck 0)
  part_kind (t ∷ ts) = part_kind_from t ts

  -- a part of a word, `[0:8] .0`: its range of bits, and what it holds
  unfoldable pub part : Reader PartDecl
  part = into part_of (pair range part_kind)

  -- a word or the words of a field, by the first token and over those behind it: the word `word` or `inline`; any
  -- other token is refused
  unfoldable pub item_from : Token → Reader LayItem
  item_from (token.Reserved word.Word) ts =
      into word_item_of (pair number (pair (expect symbol.OpenBrace) (any_closed part symbol.CloseBrace))) ts
  item_from (token.Reserved word.Inline) ts = into (λ p. lay_item.Inline p) path ts
  item_from _ ts = stop_before ts

  -- an item of a leaf or block: a word with its parts, `word 32 { [0:32] .0 }`, or the words of a field, `inline .1`;
  -- it is stuck where no token is left
  unfoldable pub item_one : Reader LayItem
  item_one [] = Err (stuck 0)
  item_one (t ∷ ts) = item_from t ts

-- what is read behind `->` in a part where no level is left: nothing, since the `->` before these tokens begins a
-- node too deep
unfoldable pub no_pointer : Reader PartKind
no_pointer ts = Err (deep (suc (length ts)))

-- a pointer part made of the alignment and the items of the block to which it points
abbrev pub pointer_of : ℕ × (Unit {0} × List LayItem) → PartKind
pointer_of (align, (_, items)) = kind.Pointer align items

-- a pointer part behind its `->`: `8 { inline .1 }`, where `inner` reads an item of the block
unfoldable pub pointer : Reader LayItem → Reader PartKind
pointer inner = into pointer_of
    (pair number (pair (expect symbol.OpenBrace) (any_closed inner symbol.CloseBrace)))

-- a word or the words of a field, with so many levels left for the pointer parts in it
unfoldable pub lay_item_tree : ℕ → Reader LayItem
lay_item_tree zero ts = item_one no_pointer ts
lay_item_tree (suc n) ts = item_one (pointer (λ us. lay_item_tree n us)) ts

-- what stands behind `->` in a part, by the levels that are left
unfoldable pub pointer_tree : ℕ → Reader PartKind
pointer_tree zero ts = no_pointer ts
pointer_tree (suc n) ts = pointer (λ us. lay_item_tree n us) ts

-- Trees of layouts.

-- whether a token begins a layout's tree: it is the word `split`, or a name with a capital, which begins a leaf
abbrev pub begins_tree : Token → Bool
begins_tree (token.Reserved w) = is_word word.Split (token.Reserved w)
begins_tree (token.Upper name) = true
begins_tree _ = false

-- an arm of a split made of its literal, and the tree under it
abbrev pub arm_of : ℕ × SplitTree → ArmTree
arm_of (literal, under) = record { literal = literal; under = under }

-- an arm of a split, `0 => ..`, where `inner` reads its tree
unfoldable pub arm_tree : Reader SplitTree → Reader ArmTree
arm_tree inner = into arm_of (pair (closed_by number symbol.FatArrow) inner)

-- the word and the arrow of an `else`
unfoldable pub else_arrow : Reader (Unit {0})
else_arrow = closed_by (expect_word word.Else) symbol.FatArrow

-- the tree of an `else`, made of what is read: the word with its arrow, and that tree
abbrev pub else_of : Unit {0} × SplitTree → SplitTree
else_of (_, under) = under

-- the `else` of a split, `else => ..`: its tree, which `inner` reads
unfoldable pub else_tree : Reader SplitTree → Reader SplitTree
else_tree inner = into else_of (pair else_arrow inner)

-- a split made of its location, its arms, and the tree of its `else`, if it has one
abbrev pub split_of : Loc × (List ArmTree × Option SplitTree) → SplitTree
split_of (loc, (arms, other)) = split.Split loc arms other

-- the `else` of a split, or nothing, and the brace that closes the split; `inner` reads its tree
unfoldable pub other_arm : Reader SplitTree → Reader (Option SplitTree)
other_arm inner = closed_by (optional (λ t. is_word word.Else t) (else_tree inner)) symbol.CloseBrace

-- the arms of a split and its `else`, with the brace behind them, where `inner` reads the trees inside
unfoldable pub branches : Reader SplitTree → Reader (List ArmTree × Option SplitTree)
branches inner = pair (each_of is_number (arm_tree inner)) (other_arm inner)

-- a split behind its word: `0[0:1] { 0 => .. else => .. }`, where `inner` reads the trees inside
unfoldable pub split_rest : Reader SplitTree → Reader SplitTree
split_rest inner = into split_of (pair (closed_by location symbol.OpenBrace) (branches inner))

-- a leaf made of its provenance and its items; its first token has number `at`
abbrev pub leaf_of : ℕ → PatTree × (Unit {0} × (Unit {0} × List LayItem)) → SplitTree
leaf_of at (provenance, (_, (_, items))) = split.Leaf at provenance items

-- a leaf, `Cons(_, _) : { word 64 { [0:64] .0 } }`, whose first token has number `at`; with `n` levels left inside
unfoldable pub leaf : ℕ → ℕ → ℕ → Reader SplitTree
leaf n total at = into (leaf_of at)
    (pair (provenance n total) (pair (expect symbol.Colon) (pair (expect symbol.OpenBrace)
    (some_closed (lay_item_tree n) symbol.Comma symbol.CloseBrace))))

-- a layout's tree, by its first token: a split, behind whose word `inner` reads the trees inside, or a leaf, which
-- `whole` reads from its name on; it is stuck where no token is left
unfoldable pub tree_by : Reader SplitTree → Reader SplitTree → Reader SplitTree
tree_by inner whole [] = Err (stuck 0)
tree_by inner whole (token.Reserved word.Split ∷ ts) = split_rest inner ts
tree_by inner whole (token.Upper name ∷ ts) = whole (token.Upper name ∷ ts)
tree_by inner whole (t ∷ ts) = stop_before ts

-- a layout's tree, with so many levels left
unfoldable pub layout_tree : ℕ → ℕ → Reader SplitTree
layout_tree zero total ts = beyond begins_tree ts
layout_tree (suc n) total ts = tree_by (λ us. layout_tree n total us) (λ us. leaf n total (total - length us) us) ts

-- Items.

-- a layout behind its type's name: the widths in bits of its shape's words, and its tree, or the word of a derived
-- one
pub data LayoutRest : Type 0 where
  laid_out : List ℕ → SplitTree → LayoutRest
  derived : Auto → LayoutRest

-- how a layout is derived, by the token that says so, the word `boxed` or `packed`, and over those behind it; any
-- other token is refused
unfoldable pub auto_from : Token → Reader Auto
auto_from (token.Reserved word.Boxed) ts = Ok (auto.Boxed, ts)
auto_from (token.Reserved word.Packed) ts = Ok (auto.Packed, ts)
auto_from _ ts = stop_before ts

-- how a layout is derived: the word `boxed` or `packed`; it is stuck where no token is left
unfoldable pub auto_word : Reader Auto
auto_word [] = Err (stuck 0)
auto_word (t ∷ ts) = auto_from t ts

-- a written layout, behind its type's name, made of its shape and its tree
abbrev pub laid_out_of : List ℕ × (Unit {0} × (SplitTree × Unit {0})) → LayoutRest
laid_out_of (shape, (_, (tree, _))) = laid_out shape tree

-- the item of a type, made of its name and its constructors
abbrev pub type_item_of : NameTree × (Unit {0} × List ConTree) → ItemTree
type_item_of (name, (_, cons)) = top.Types (record { name = name; cons = cons })

-- the item of a function, made of its name, its parameters, its type of results, and its body
abbrev pub fun_of : NameTree × (List ParamTree × (TyTree × ExprTree)) → ItemTree
fun_of (name, (params, (result, body))) =
    top.Funs (record { name = name; params = params; result = result; body = body })

-- the type of a function's results, of `total` tokens in all, between the symbols beside it: `: U =`
unfoldable pub result_type : ℕ → Reader TyTree
result_type total = into (λ p. p.1) (pair (expect symbol.Colon) (closed_by (type_tree total) symbol.Equals))

-- over the levels `limit` that the body of each function and the tree of each layout may have, and the number `total`
-- of all tokens
module _ (limit total : ℕ) where
  -- a layout behind its type's name, by the first token there and over those behind it: `<`, or `=` for a derived
  -- one; any other token is refused
  unfoldable pub layout_rest_from : Token → Reader LayoutRest
  layout_rest_from (token.Symbol symbol.Less) ts = into laid_out_of
      (pair (some_closed number symbol.Comma symbol.Greater) (pair (expect symbol.Equals)
      (pair (layout_tree limit total) (expect symbol.Semicolon)))) ts
  layout_rest_from (token.Symbol symbol.Equals) ts =
      into (λ p. derived p.0) (pair auto_word (expect symbol.Semicolon)) ts
  layout_rest_from _ ts = stop_before ts

  -- a layout behind its type's name, `<64> = ..;` or `= boxed;`; it is stuck where no token is left
  unfoldable pub layout_rest : Reader LayoutRest
  layout_rest [] = Err (stuck 0)
  layout_rest (t ∷ ts) = layout_rest_from t ts

  -- the item of a layout, made of its type's name and what stands behind that; its word `layout` has number `at`,
  -- which a derived one does not keep
  abbrev pub layout_of : ℕ → NameTree → LayoutRest → ItemTree
  layout_of at name (laid_out shape tree) = top.Layouts (record { at = at; ty = name; shape = shape; tree = tree })
  layout_of at name (derived a) = top.Derived name a

  -- a type behind its word: `T = A | B(u8);`
  unfoldable pub type_item : Reader ItemTree
  type_item = into type_item_of
      (pair (upper_name total) (pair (expect symbol.Equals) (some_closed (con_tree total) symbol.Bar symbol.Semicolon)))

  -- a layout behind its word, which has number `at`: `T <64> = ..;` or `T = boxed;`
  unfoldable pub layout_item : ℕ → Reader ItemTree
  layout_item at = into (λ (name, rest). layout_of at name rest) (pair (upper_name total) layout_rest)

  -- a function behind its word: `f(x: T): U = e;`
  unfoldable pub fun_item : Reader ItemTree
  fun_item = into fun_of
      (pair (closed_by (lower_name total) symbol.OpenParen) (pair (any_closed (param_tree total) symbol.CloseParen)
      (pair (result_type total) (closed_by (expression limit total) symbol.Semicolon))))

  -- an item of a file, by its first token, which has number `at`, and over those behind it: the word `type`, `layout`
  -- or `fun`; any other token is refused
  unfoldable pub file_item_from : ℕ → Token → Reader ItemTree
  file_item_from at (token.Reserved word.Type) ts = type_item ts
  file_item_from at (token.Reserved word.Layout) ts = layout_item at ts
  file_item_from at (token.Reserved word.Fun) ts = fun_item ts
  file_item_from at _ ts = stop_before ts

  -- an item of a file: a type, a layout or a function; it is stuck where no token is left
  unfoldable pub file_item : Reader ItemTree
  file_item [] = Err (stuck 0)
  file_item (t ∷ ts) = file_item_from (total - suc (length ts)) t ts

-- whether a token begins an item of a file: it is the word `type`, `layout` or `fun`
abbrev pub begins_item : Token → Bool
begins_item (token.Reserved word.Type) = true
begins_item (token.Reserved word.Layout) = true
begins_item (token.Reserved word.Fun) = true
begins_item _ = false

-- the items of a file of `total` tokens, with so many levels left for each body and for each layout's tree; there may
-- be none, and from the first token on that begins no item all are handed on
unfoldable pub file_items : ℕ → ℕ → Reader (List ItemTree)
file_items total limit = each_of begins_item (file_item limit total)
