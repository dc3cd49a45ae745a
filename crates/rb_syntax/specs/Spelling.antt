-- How trees are spelled, one equation a form. Each is written in front of what follows it, `rest`. A node is an
-- expression, a pattern, a layout's tree or a pointer part; its level is 1 where no node is around it, else one more
-- than that node's.
use Rattle.std.specs.Prelude.{◌≡◌, ℕ, suc, ◌^◌, List, [], ◌∷◌, length, map, Bool, ◌&&◌, nat_lt, nat_le, Option, Some, None}
use Rattle.rb_core.specs.declared.expression.Op.{Op}
use Rattle.rb_core.specs.declared.expression.Op.TheVariants as op
use Rattle.rb_core.specs.declared.types.Auto.{Auto}
use Rattle.rb_core.specs.declared.types.Auto.TheVariants as auto
use Rattle.rb_core.specs.declared.layout_decl.Step.{Step}
use Rattle.rb_core.specs.declared.layout_decl.Loc.{Loc}
use Rattle.rb_core.specs.declared.layout_decl.LayItem.{LayItem}
use Rattle.rb_core.specs.declared.layout_decl.LayItem.TheFolds.{fold-LayItem, fold-PartKind, fold-PartDecl}
use Rattle.rb_core.specs.declared.layout_decl.LayItem.TheOpen as item
use Rattle.rb_core.specs.declared.layout_decl.LayItem.TheOpen.{LayItem-F, PartKind-F}
use Rattle.rb_core.specs.declared.layout_decl.PartKind.{PartKind}
use Rattle.rb_core.specs.declared.layout_decl.PartDecl.{PartDecl, PartDecl-F}
use Rattle.rb_syntax.specs.declared.token.ReservedWord.TheVariants as word
use Rattle.rb_syntax.specs.declared.token.Symbol.TheVariants as symbol
use Rattle.rb_syntax.specs.declared.token.ReservedWord.{ReservedWord}
use Rattle.rb_syntax.specs.declared.token.Symbol.{Symbol}
use Rattle.rb_syntax.specs.declared.token.Token.{Token}
use Rattle.rb_syntax.specs.declared.token.Token.TheVariants as tok
use Rattle.rb_syntax.specs.declared.tree.NameTree.{NameTree}
use Rattle.rb_syntax.specs.declared.tree.TyTree.{TyTree}
use Rattle.rb_syntax.specs.declared.tree.TyTree.TheVariants as ty
use Rattle.rb_syntax.specs.declared.tree.ConTree.{ConTree}
use Rattle.rb_syntax.specs.declared.tree.TypeTree.{TypeTree}
use Rattle.rb_syntax.specs.declared.tree.PatTree.{PatTree, out-PatTree}
use Rattle.rb_syntax.specs.declared.tree.PatTree.TheFolds.{fold-PatTree}
use Rattle.rb_syntax.specs.declared.tree.PatTree.TheOpen as pat
use Rattle.rb_syntax.specs.declared.tree.PatTree.TheOpen.{PatTree-F}
use Rattle.rb_syntax.specs.declared.tree.ExprTree.{ExprTree}
use Rattle.rb_syntax.specs.declared.tree.ExprTree.TheFolds.{fold-ExprTree, fold-ClauseTree}
use Rattle.rb_syntax.specs.declared.tree.ExprTree.TheOpen as expr
use Rattle.rb_syntax.specs.declared.tree.ExprTree.TheOpen.{ExprTree-F}
use Rattle.rb_syntax.specs.declared.tree.ClauseTree.{ClauseTree, ClauseTree-F}
use Rattle.rb_syntax.specs.declared.tree.ParamTree.{ParamTree}
use Rattle.rb_syntax.specs.declared.tree.FunTree.{FunTree}
use Rattle.rb_syntax.specs.declared.tree.SplitTree.{SplitTree}
use Rattle.rb_syntax.specs.declared.tree.SplitTree.TheFolds.{fold-SplitTree, fold-ArmTree}
use Rattle.rb_syntax.specs.declared.tree.SplitTree.TheOpen as split
use Rattle.rb_syntax.specs.declared.tree.SplitTree.TheOpen.{SplitTree-F}
use Rattle.rb_syntax.specs.declared.tree.ArmTree.{ArmTree, ArmTree-F}
use Rattle.rb_syntax.specs.declared.tree.LayoutTree.{LayoutTree}
use Rattle.rb_syntax.specs.declared.tree.ItemTree.{ItemTree}
use Rattle.rb_syntax.specs.declared.tree.ItemTree.TheVariants as top
use Rattle.rb_syntax.specs.declared.tree.FileTree.{FileTree}
use Rattle.rb_syntax.specs.Written.{Written, token, number, node, flaw, tokens_in, AreNumbered, HaveNoFlaw, Writing, flaw_unless, each, each_behind, some_with, any_with}

-- Tokens by their names.

-- the token of the number n
abbrev pub num : ℕ → Written
num n = token (tok.Num n)

-- the token of a reserved word
abbrev pub word_token : ReservedWord → Written
word_token w = token (tok.Reserved w)

-- whether there is a type of integers of so many bits: 1 to 64
abbrev pub is_uint_width : ℕ → Bool
is_uint_width bits = nat_lt 0 bits && nat_le bits 64

-- the type of integers of so many bits, with a flaw before it where there is no such type
abbrev pub uint_written : ℕ → Writing
uint_written bits rest = flaw_unless (is_uint_width bits) (token (tok.Uint bits) ∷ rest)

-- the token of a symbol
abbrev pub sym : Symbol → Written
sym s = token (tok.Symbol s)

-- the token of a comma
abbrev pub comma : Token
comma = tok.Symbol symbol.Comma

-- the token of a bar, which stands between the constructors of a type
abbrev pub bar : Token
bar = tok.Symbol symbol.Bar

-- Names and types.

-- the name of a type or a constructor, with the number of its token
abbrev pub upper_written : NameTree → Writing
upper_written name rest = number name.at ∷ token (tok.Upper name.text) ∷ rest

-- the name of a function or a variable, with the number of its token
abbrev pub lower_written : NameTree → Writing
lower_written name rest = number name.at ∷ token (tok.Lower name.text) ∷ rest

-- a type by its word or name: that of integers of so many bits, or a data type
abbrev pub ty_written : TyTree → Writing
ty_written (ty.Int bits) rest = uint_written bits rest
ty_written (ty.Named name) rest = upper_written name rest

-- parts in parentheses with commas between; nothing, not even parentheses, where there is none
abbrev pub fields_written : List Writing → Writing
fields_written [] rest = rest
fields_written (w ∷ ws) rest = sym symbol.OpenParen ∷ w (each_behind comma ws (sym symbol.CloseParen ∷ rest))

-- Patterns, from a level on.

-- the way in which a part is written at each level
abbrev pub Deep : Type 0
Deep = ℕ → Writing

-- the ways in which parts are written at level l
abbrev pub at_level : ℕ → List Deep → List Writing
at_level l = map (λ (w : Deep). w l)

-- a pattern at level l, given how each of its subpatterns is written; they are one level deeper
abbrev pub pat_step : PatTree-F Deep → Deep
pat_step (pat.Wild at) l rest = node l ∷ number at ∷ sym symbol.Underscore ∷ rest
pat_step (pat.Var at name) l rest = node l ∷ number at ∷ lower_written name rest
pat_step (pat.Num at n) l rest = node l ∷ number at ∷ num n ∷ rest
pat_step (pat.Con at name ps) l rest =
    node l ∷ number at ∷ upper_written name (fields_written (at_level (suc l) ps) rest)

-- the way in which a pattern is written at each level
abbrev pub pat_written : PatTree → Deep
pat_written = fold-PatTree Deep pat_step

-- Expressions, from a level on.

-- the reserved word of an operator
abbrev pub op_word : Op → ReservedWord
op_word op.Add = word.Add
op_word op.Sub = word.Sub
op_word op.Mul = word.Mul
op_word op.And = word.And
op_word op.Or = word.Or
op_word op.Xor = word.Xor
op_word op.Eq = word.Eq
op_word op.Lt = word.Lt

-- an expression at level l, given how its subexpressions and its clauses are written; they are one level deeper
abbrev pub expr_step : ExprTree-F Deep Deep → Deep
expr_step (expr.Num at n) l rest = node l ∷ number at ∷ num n ∷ rest
expr_step (expr.Var at name) l rest = node l ∷ number at ∷ lower_written name rest
expr_step (expr.Call at name es) l rest =
    node l ∷ number at ∷ lower_written name
    (sym symbol.OpenParen ∷ any_with comma (at_level (suc l) es) (sym symbol.CloseParen ∷ rest))
expr_step (expr.Build at name es) l rest =
    node l ∷ number at ∷ upper_written name (fields_written (at_level (suc l) es) rest)
expr_step (expr.Binary at op a b) l rest =
    node l ∷ number at ∷ word_token (op_word op) ∷ sym symbol.OpenParen
    ∷ a (suc l) (token comma ∷ b (suc l) (sym symbol.CloseParen ∷ rest))
expr_step (expr.To at bits a) l rest =
    node l ∷ number at ∷ word_token word.To
    ∷ uint_written bits (sym symbol.OpenParen ∷ a (suc l) (sym symbol.CloseParen ∷ rest))
expr_step (expr.Let at name t a b) l rest =
    node l ∷ number at ∷ word_token word.Let ∷ lower_written name (sym symbol.Colon ∷ ty_written t (sym symbol.Equals
    ∷ a (suc l) (word_token word.In ∷ b (suc l) rest)))
expr_step (expr.Match at e cs) l rest =
    node l ∷ number at ∷ word_token word.Match ∷ e (suc l) (sym symbol.OpenBrace
    ∷ some_with comma (at_level (suc l) cs) (sym symbol.CloseBrace ∷ rest))

-- a clause of a match, given how its body is written; its pattern and its body are both at level l
abbrev pub clause_step : ClauseTree-F Deep Deep → Deep
clause_step c l rest = pat_written c.pat l (sym symbol.FatArrow ∷ c.body l rest)

-- the way in which an expression is written at each level
abbrev pub expr_written : ExprTree → Deep
expr_written = fold-ExprTree Deep Deep expr_step clause_step

-- the way in which a clause of a match is written, its pattern and its body at the same level
abbrev pub clause_written : ClauseTree → Deep
clause_written = fold-ClauseTree Deep Deep expr_step clause_step

-- Layouts.

-- the range `[o:l]`: l bits from bit o on
abbrev pub range_written : ℕ → ℕ → Writing
range_written o l rest = sym symbol.OpenBracket ∷ num o ∷ sym symbol.Colon ∷ num l ∷ sym symbol.CloseBracket ∷ rest

-- a field's number in a path, behind a dot; a flaw where it has more than 32 bits
abbrev pub field_written : ℕ → Writing
field_written field rest = sym symbol.Dot ∷ flaw_unless (nat_lt field (2 ^ 32)) (num field ∷ rest)

-- a path, the number of each field behind a dot; a flaw where it is empty
abbrev pub path_written : List ℕ → Writing
path_written [] rest = flaw ∷ rest
path_written (f ∷ fs) rest = field_written f (each (map field_written fs) rest)

-- a step of a location through a pointer, as `-> 4 @0:8[0:8]`: how many bytes the pointer counts by, and a range of a
-- word of the block to which it leads
abbrev pub loc_step_written : Step → Writing
loc_step_written s rest =
    sym symbol.Arrow ∷ num s.align ∷ sym symbol.At ∷ num s.byte ∷ sym symbol.Colon ∷ num s.width
    ∷ range_written s.o s.l rest

-- a location, as `0[0:32]`: a range of a root word, with the steps that lead on from there
abbrev pub loc_written : Loc → Writing
loc_written loc rest = num loc.word ∷ range_written loc.o loc.l (each (map loc_step_written loc.steps) rest)

-- what a part of a word holds, given how the items of a pointer's block are written. A pointer is a node at level l,
-- and the pointers in its block are one level deeper
abbrev pub kind_step : PartKind-F Deep Deep Deep → Deep
kind_step (item.Const c) l rest = sym symbol.Equals ∷ num c ∷ rest
kind_step (item.Whole path) l rest = path_written path rest
kind_step (item.Slice path first bits) l rest = path_written path (range_written first bits rest)
kind_step (item.PartKind::Word path j) l rest = path_written path (word_token word.Word ∷ num j ∷ rest)
kind_step (item.Pointer align items) l rest =
    node l ∷ sym symbol.Arrow ∷ num align ∷ sym symbol.OpenBrace
    ∷ any_with comma (at_level (suc l) items) (sym symbol.CloseBrace ∷ rest)

-- a part of a word: its range, and what it holds, given how that is written at level l
abbrev pub part_step : PartDecl-F Deep Deep Deep → Deep
part_step p l rest = range_written p.o p.l (p.kind l rest)

-- an item of a leaf or a block: a word, given how its parts are written at level l, or `inline` and the path of a
-- field
abbrev pub lay_item_step : LayItem-F Deep Deep Deep → Deep
lay_item_step (item.LayItem::Word bits parts) l rest =
    word_token word.Word ∷ num bits ∷ sym symbol.OpenBrace
    ∷ any_with comma (at_level l parts) (sym symbol.CloseBrace ∷ rest)
lay_item_step (item.Inline path) l rest = word_token word.Inline ∷ path_written path rest

-- an item of a leaf or a block: a word, or the words of a field; the pointer parts in it are at this level
abbrev pub lay_item_written : LayItem → Deep
lay_item_written = fold-LayItem Deep Deep Deep lay_item_step kind_step part_step

-- what a part of a word holds; a pointer is at this level
abbrev pub kind_written : PartKind → Deep
kind_written = fold-PartKind Deep Deep Deep lay_item_step kind_step part_step

-- a part of a word, with its range; a pointer that it holds is at this level
abbrev pub part_written : PartDecl → Deep
part_written = fold-PartDecl Deep Deep Deep lay_item_step kind_step part_step

-- a constructor or `_` within a provenance (the pattern of a leaf's values), given how the parts of the constructor
-- are written; they are one level deeper. A variable or a number is a flaw
abbrev pub prov_step : PatTree-F Deep → Deep
prov_step (pat.Wild at) l rest = node l ∷ number at ∷ sym symbol.Underscore ∷ rest
prov_step (pat.Var at name) l rest = flaw ∷ rest
prov_step (pat.Num at n) l rest = flaw ∷ rest
prov_step (pat.Con at name ps) l rest =
    node l ∷ number at ∷ upper_written name (fields_written (at_level (suc l) ps) rest)

-- a flaw where a whole provenance is `_`, since it must be a constructor; a variable or a number is a flaw elsewhere
abbrev pub root_checked : PatTree-F PatTree → Writing
root_checked (pat.Wild at) rest = flaw ∷ rest
root_checked (pat.Var at name) rest = rest
root_checked (pat.Num at n) rest = rest
root_checked (pat.Con at name ps) rest = rest

-- a provenance, or a part of one, at each level, where `_` is no flaw
abbrev pub below_written : PatTree → Deep
below_written = fold-PatTree Deep prov_step

-- a provenance, the pattern of a leaf's values, at level l; a flaw where it is no constructor
abbrev pub prov_written : PatTree → Deep
prov_written p l rest = root_checked (out-PatTree p) (below_written p l rest)

-- the `else` of a split, given how what stands under it is written; nothing where there is none
abbrev pub else_written : Option Deep → Deep
else_written None l rest = rest
else_written (Some w) l rest = word_token word.Else ∷ sym symbol.FatArrow ∷ w l rest

-- a layout's tree at level l, given how the arms and `else` of a split are written. They are one level deeper, and so
-- are the provenance and the pointer parts of a leaf
abbrev pub split_step : SplitTree-F Deep Deep → Deep
split_step (split.Split loc arms other) l rest =
    node l ∷ word_token word.Split ∷ loc_written loc (sym symbol.OpenBrace
    ∷ each (at_level (suc l) arms) (else_written other (suc l) (sym symbol.CloseBrace ∷ rest)))
split_step (split.Leaf at prov items) l rest =
    node l ∷ number at ∷ prov_written prov (suc l) (sym symbol.Colon ∷ sym symbol.OpenBrace
    ∷ some_with comma (map (λ (i : LayItem). lay_item_written i (suc l)) items) (sym symbol.CloseBrace ∷ rest))

-- an arm of a split: its literal, and what stands under it, given how that is written at level l
abbrev pub arm_step : ArmTree-F Deep Deep → Deep
arm_step a l rest = num a.literal ∷ sym symbol.FatArrow ∷ a.under l rest

-- the way in which a layout's tree is written at each level
abbrev pub split_written : SplitTree → Deep
split_written = fold-SplitTree Deep Deep split_step arm_step

-- the way in which an arm of a split is written, what stands under it being at the level
abbrev pub arm_written : ArmTree → Deep
arm_written = fold-ArmTree Deep Deep split_step arm_step

-- Items and files.

-- a constructor with the types of its fields in parentheses, without parentheses where it has none
abbrev pub con_written : ConTree → Writing
con_written c rest = upper_written c.name (fields_written (map ty_written c.fields) rest)

-- a type's declaration, as `type T = A | B(u8);`; a flaw where it has no constructor
abbrev pub type_written : TypeTree → Writing
type_written t rest =
    word_token word.Type ∷ upper_written t.name
    (sym symbol.Equals ∷ some_with bar (map con_written t.cons) (sym symbol.Semicolon ∷ rest))

-- the width in bits of one word in a layout's shape
abbrev pub width_written : ℕ → Writing
width_written bits rest = num bits ∷ rest

-- a layout, as `layout T <64> = ..;`, with the number of the word `layout`; a flaw where its shape is empty
abbrev pub layout_written : LayoutTree → Writing
layout_written t rest =
    number t.at ∷ word_token word.Layout ∷ upper_written t.ty
    (sym symbol.Less ∷ some_with comma (map width_written t.shape)
    (sym symbol.Greater ∷ sym symbol.Equals ∷ split_written t.tree 1 (sym symbol.Semicolon ∷ rest)))

-- a parameter of a function with its type, as `x: T`, with the number of its first token
abbrev pub param_written : ParamTree → Writing
param_written p rest = number p.at ∷ lower_written p.var (sym symbol.Colon ∷ ty_written p.ty rest)

-- a function's declaration, as `fun f(x: T): U = e;`, with its body at level 1
abbrev pub fun_written : FunTree → Writing
fun_written f rest =
    word_token word.Fun ∷ lower_written f.name (sym symbol.OpenParen ∷ any_with comma (map param_written f.params)
    (sym symbol.CloseParen ∷ sym symbol.Colon ∷ ty_written f.result (sym symbol.Equals
    ∷ expr_written f.body 1 (sym symbol.Semicolon ∷ rest))))

-- the reserved word of a derived layout: `boxed` or `packed`
abbrev pub auto_word : Auto → ReservedWord
auto_word auto.Boxed = word.Boxed
auto_word auto.Packed = word.Packed

-- an item of a file: a type, a layout, a function, or a layout that is derived, as `layout T = boxed;`
abbrev pub item_written : ItemTree → Writing
item_written (top.Types t) rest = type_written t rest
item_written (top.Layouts t) rest = layout_written t rest
item_written (top.Funs f) rest = fun_written f rest
item_written (top.Derived name a) rest =
    word_token word.Layout
    ∷ upper_written name (sym symbol.Equals ∷ word_token (auto_word a) ∷ sym symbol.Semicolon ∷ rest)

-- all that a file is written as: its items one after the other
abbrev pub file_written : FileTree → List Written
file_written file = each (map item_written file.items) []

-- the tokens that a file's tree is spelled with, in their order
abbrev pub spell : FileTree → List Token
spell file = tokens_in (file_written file)

-- the file is the tree of these tokens, of any depth: it is spelled so, the grammar has a form for each part of it,
-- and each number that it holds is that of the tokens before its place
pub record IsTreeOf (ts : List Token) (file : FileTree) : Type 0 where
  pub spells : spell file ≡ ts
  pub formed : HaveNoFlaw (file_written file)
  pub numbered : AreNumbered (length ts) (file_written file)
