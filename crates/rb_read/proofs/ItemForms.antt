-- Items and files.
use Rattle.std.proofs.Common.{◌≡◌, ℕ, List, [], ◌∷◌, ◌++◌, map, Bool, false, is_some, refl, arith}
use Rattle.rb_core.specs.declared.types.Auto.{Auto}
use Rattle.rb_core.specs.declared.types.Auto.TheVariants as auto
use Rattle.rb_syntax.specs.declared.token.ReservedWord.TheVariants as word
use Rattle.rb_syntax.specs.declared.token.Symbol.TheVariants as symbol
use Rattle.rb_syntax.specs.declared.token.Token.{Token}
use Rattle.rb_syntax.specs.declared.token.Token.TheVariants as tok
use Rattle.rb_syntax.specs.declared.tree.NameTree.{NameTree}
use Rattle.rb_syntax.specs.declared.tree.TyTree.{TyTree}
use Rattle.rb_syntax.specs.declared.tree.ConTree.{ConTree}
use Rattle.rb_syntax.specs.declared.tree.ParamTree.{ParamTree}
use Rattle.rb_syntax.specs.declared.tree.ExprTree.{ExprTree}
use Rattle.rb_syntax.specs.declared.tree.SplitTree.{SplitTree}
use Rattle.rb_syntax.specs.declared.tree.ItemTree.{ItemTree}
use Rattle.rb_syntax.specs.declared.tree.ItemTree.TheVariants as top
use Rattle.rb_syntax.specs.Written.{Written, Writing, token, number, tokens_in, each, some_with, any_with}
use Rattle.rb_syntax.specs.Spelling as spelling
use Rattle.rb_syntax.specs.Spelling.{word_token, upper_written, lower_written, ty_written, con_written, param_written, width_written, item_written}
use Rattle.rb_read.specs.inner.Combining.{Reader, pair, into, nothing, expect, closed_by, some_closed, any_closed}
use Rattle.rb_read.proofs.Open.{one, first, next, the, a_number, a_lower, an_upper, a_type, a_con, a_param, derived, layout_rest, item, begins, start}
use Rattle.rb_read.proofs.Open as open_at
use Rattle.rb_read.specs.inner.Tokens as tokens
use Rattle.rb_read.specs.inner.Tokens.{lower_name, upper_name}
use Rattle.rb_read.specs.inner.Reading.{LayoutRest, laid_out, auto_from, auto_word, layout_of, con_tree, param_tree, expression, layout_tree, begins_item, file_items, fun_of, laid_out_of, type_item_of}
use Rattle.rb_read.specs.inner.Reading as reading
use Rattle.rb_read.proofs.Forms.{IsRight, Again, Clear, IsForm}
use Rattle.rb_read.proofs.FormLaws.{nat_lt-zero, nothing-form, iso-form}
use Rattle.rb_read.proofs.NodeForms.{AtToken, IsPart, part-form, none-at, node-at, node-at-by, node-again, AreMarks, AllAre, is_deeper}
use Rattle.rb_read.proofs.TokenForms.{symbol-part, lower-part, upper-part, number-part}
use Rattle.rb_read.proofs.TypeForms.{before-any, closed_by-form, type-part, con-part, param-part}
use Rattle.rb_read.proofs.ExpressionForms.{expression-part}
use Rattle.rb_read.proofs.ListForms.{some_closed-form, any_closed-form, each-form}
use Rattle.rb_read.proofs.TreeForms.{at_tree, tree-part}

abbrev none : Token → Bool
none t = false

-- The word of a derived layout.

abbrev auto_written : Auto → Writing
auto_written a rest = word_token (spelling.auto_word a) ∷ rest

derived-part : (total limit : ℕ) → IsPart total limit none derived auto_written auto_word
unfolding begins auto_word auto_from into nothing
derived-part total limit = part-form refl on again where
  on : (t : Token) → AtToken total limit derived auto_written auto_word t
  on (tok.Reserved word.Boxed) = node-at (nothing-form total limit) 0 refl (nat_lt-zero limit) (λ at y. auto.Boxed) (λ ts. refl) (λ at. []) (λ at. tt) (λ at. tt) (λ at. refl) (λ at y rest. refl)
  on (tok.Reserved word.Packed) = node-at (nothing-form total limit) 0 refl (nat_lt-zero limit) (λ at y. auto.Packed) (λ ts. refl) (λ at. []) (λ at. tt) (λ at. tt) (λ at. refl) (λ at y rest. refl)
  on _ = none-at refl (λ ts. refl)

  again : (a : Auto) (rest : List Written) → IsRight total (auto_written a rest) → Clear none (tokens_in rest) → Again total limit auto_word a (auto_written a rest) rest
  again auto.Boxed rest i c = node-again (nothing-form total limit) (tok.Reserved word.Boxed) (λ at y. auto.Boxed) (λ ts. refl) [] tt refl _ tt rest _ refl (λ at h. refl) i c
  again auto.Packed rest i c = node-again (nothing-form total limit) (tok.Reserved word.Packed) (λ at y. auto.Packed) (λ ts. refl) [] tt refl _ tt rest _ refl (λ at h. refl) i c

-- A layout behind its type's name.

abbrev rest_written : LayoutRest → Writing
rest_written (laid_out shape tree) rest = token (tok.Symbol symbol.Less) ∷ some_with (tok.Symbol symbol.Comma) (map width_written shape) (token (tok.Symbol symbol.Greater)
    ∷ token (tok.Symbol symbol.Equals) ∷ at_tree 1 tree (token (tok.Symbol symbol.Semicolon) ∷ rest))
rest_written (reading.derived a) rest = token (tok.Symbol symbol.Equals) ∷ auto_written a (token (tok.Symbol symbol.Semicolon) ∷ rest)

module _ (total limit : ℕ) where
  -- what stands behind `<`
  abbrev laid_out_written : List ℕ × (Unit {0} × (SplitTree × Unit {0})) → Writing
  laid_out_written (shape, (_, (tree, _))) rest = some_with (tok.Symbol symbol.Comma) (map width_written shape)
      (token (tok.Symbol symbol.Greater) ∷ token (tok.Symbol symbol.Equals)
      ∷ at_tree 1 tree (token (tok.Symbol symbol.Semicolon) ∷ rest))

  laid_out-form : IsForm total limit none (one a_number ∷ next a_number symbol.Comma symbol.Greater ∷ one (the symbol.Equals) ∷ one (open_at.tree 1) ∷ one (the symbol.Semicolon) ∷ [])
      laid_out_written
      (pair (some_closed tokens.number symbol.Comma symbol.Greater) (pair (expect symbol.Equals) (pair (layout_tree limit total) (expect symbol.Semicolon))))
  laid_out-form =
      before-any (some_closed-form (number-part total limit) symbol.Comma symbol.Greater refl refl refl)
      (before-any (symbol-part total limit symbol.Equals).form
      (before-any (tree-part total limit limit 1 (omega arith)).form (symbol-part total limit symbol.Semicolon).form))

  derived-form : IsForm total limit none (one derived ∷ one (the symbol.Semicolon) ∷ []) (λ p rest. auto_written p.0 (token (tok.Symbol symbol.Semicolon) ∷ rest))
      (pair auto_word (expect symbol.Semicolon))
  derived-form = before-any (derived-part total limit).form (symbol-part total limit symbol.Semicolon).form

  rest-on : (t : Token) → AtToken total limit layout_rest rest_written (reading.layout_rest limit total) t
  unfolding begins reading.layout_rest reading.layout_rest_from
  rest-on (tok.Symbol symbol.Less) = node-at laid_out-form 0 refl (nat_lt-zero limit) (λ at. laid_out_of) (λ ts. refl) (λ at. []) (λ at. tt) (λ at. tt) (λ at. refl) (λ at p rest. refl)
  rest-on (tok.Symbol symbol.Equals) = node-at derived-form 0 refl (nat_lt-zero limit) (λ at p. reading.derived p.0) (λ ts. refl) (λ at. []) (λ at. tt) (λ at. tt) (λ at. refl) (λ at p rest. refl)
  rest-on _ = none-at refl (λ ts. refl)

  rest-again : (x : LayoutRest) (rest : List Written) → IsRight total (rest_written x rest) → Clear none (tokens_in rest)
      → Again total limit (reading.layout_rest limit total) x (rest_written x rest) rest
  unfolding reading.layout_rest reading.layout_rest_from
  rest-again (laid_out shape tree) rest i c = node-again laid_out-form (tok.Symbol symbol.Less) (λ at. laid_out_of) (λ ts. refl) [] tt refl _ (shape, (tt, (tree, tt))) rest _ refl (λ at h. refl) i c
  rest-again (reading.derived a) rest i c = node-again derived-form (tok.Symbol symbol.Equals) (λ at p. reading.derived p.0) (λ ts. refl) [] tt refl _ (a, tt) rest _ refl (λ at h. refl) i c

  rest-part : IsPart total limit none layout_rest rest_written (reading.layout_rest limit total)
  unfolding reading.layout_rest
  rest-part = part-form refl rest-on (λ x rest i c. rest-again x rest i c)

  -- Items.

  -- what stands behind `type`
  abbrev type_written : NameTree × (Unit {0} × List ConTree) → Writing
  type_written (name, (_, cons)) rest = upper_written name (token (tok.Symbol symbol.Equals)
      ∷ some_with (tok.Symbol symbol.Bar) (map con_written cons) (token (tok.Symbol symbol.Semicolon) ∷ rest))

  type-form : IsForm total limit none (one an_upper ∷ one (the symbol.Equals) ∷ one a_con ∷ next a_con symbol.Bar symbol.Semicolon ∷ [])
      type_written
      (pair (upper_name total) (pair (expect symbol.Equals) (some_closed (con_tree total) symbol.Bar symbol.Semicolon)))
  type-form =
      before-any (upper-part total limit).form
      (before-any (symbol-part total limit symbol.Equals).form (some_closed-form (con-part total limit) symbol.Bar symbol.Semicolon refl refl refl))

  layout-form : IsForm total limit none (one an_upper ∷ one layout_rest ∷ []) (λ p rest. upper_written p.0 (rest_written p.1 rest)) (pair (upper_name total) (reading.layout_rest limit total))
  layout-form = before-any (upper-part total limit).form rest-part.form

  -- what stands behind `fun`
  abbrev fun_written : NameTree × (List ParamTree × (TyTree × ExprTree)) → Writing
  fun_written (name, (params, (result, body))) rest = lower_written name
      (token (tok.Symbol symbol.OpenParen) ∷ any_with (tok.Symbol symbol.Comma) (map param_written params)
      (token (tok.Symbol symbol.CloseParen) ∷ token (tok.Symbol symbol.Colon)
      ∷ ty_written result (token (tok.Symbol symbol.Equals)
      ∷ spelling.expr_written body 1 (token (tok.Symbol symbol.Semicolon) ∷ rest))))

  result-form : IsForm total limit none (one (the symbol.Colon) ∷ one a_type ∷ one (the symbol.Equals) ∷ [])
      (λ ty rest. token (tok.Symbol symbol.Colon) ∷ ty_written ty (token (tok.Symbol symbol.Equals) ∷ rest)) (reading.result_type total)
  unfolding reading.result_type
  result-form = iso-form (λ p. p.1) (λ ty. (tt, ty)) (λ ty. refl) (λ p rest. refl)
      (before-any (symbol-part total limit symbol.Colon).form (closed_by-form (type-part total limit).form symbol.Equals refl))

  fun-form : IsForm total limit none (one a_lower ∷ one (the symbol.OpenParen) ∷ first a_param symbol.CloseParen
      ∷ one (the symbol.Colon) ∷ one a_type ∷ one (the symbol.Equals) ∷ one (open_at.expr 1) ∷ one (the symbol.Semicolon) ∷ [])
      fun_written
      (pair (closed_by (lower_name total) symbol.OpenParen) (pair (any_closed (param_tree total) symbol.CloseParen)
      (pair (reading.result_type total) (closed_by (expression limit total) symbol.Semicolon))))
  unfolding begins
  fun-form =
      before-any (closed_by-form (lower-part total limit).form symbol.OpenParen refl)
      (before-any (any_closed-form (param-part total limit) symbol.CloseParen refl refl refl refl)
      (before-any result-form (closed_by-form (expression-part total limit limit 1 (omega arith)).form symbol.Semicolon refl)))

  -- a layout that is written out has the number of its word
  abbrev layout_marks : ℕ → NameTree × LayoutRest → List Written
  layout_marks at (name, laid_out shape tree) = number at ∷ []
  layout_marks at (name, reading.derived a) = []

  abbrev this : Reader ItemTree
  this = reading.file_item limit total

  layout-written : (at : ℕ) (p : NameTree × LayoutRest) (rest : List Written) → item_written (layout_of limit total at p.0 p.1) rest
      ≡ layout_marks at p ++ token (tok.Reserved word.Layout) ∷ upper_written p.0 (rest_written p.1 rest)
  layout-written at (name, laid_out shape tree) rest = refl
  layout-written at (name, reading.derived a) rest = refl

  marks-are : (at : ℕ) (p : NameTree × LayoutRest) → AreMarks (layout_marks at p)
  marks-are at (name, laid_out shape tree) = tt
  marks-are at (name, reading.derived a) = tt

  marks-all : (at : ℕ) (p : NameTree × LayoutRest) → AllAre at (layout_marks at p)
  marks-all at (name, laid_out shape tree) = (refl, tt)
  marks-all at (name, reading.derived a) = tt

  marks-small : (at : ℕ) (p : NameTree × LayoutRest) → is_deeper limit (layout_marks at p) ≡ false
  marks-small at (name, laid_out shape tree) = refl
  marks-small at (name, reading.derived a) = refl

  item-on : (t : Token) → AtToken total limit item item_written this t
  unfolding begins reading.file_item reading.file_item_from reading.type_item reading.layout_item reading.fun_item
  item-on (tok.Reserved word.Type) = node-at type-form 0 refl (nat_lt-zero limit) (λ at. type_item_of) (λ ts. refl) (λ at. []) (λ at. tt) (λ at. tt) (λ at. refl) (λ at p rest. refl)
  item-on (tok.Reserved word.Layout) = node-at-by layout-form 0 refl (nat_lt-zero limit) (λ at p. layout_of limit total at p.0 p.1) (λ ts. refl) layout_marks marks-are marks-all marks-small layout-written
  item-on (tok.Reserved word.Fun) = node-at fun-form 0 refl (nat_lt-zero limit) (λ at. fun_of) (λ ts. refl)
      (λ at. []) (λ at. tt) (λ at. tt) (λ at. refl) (λ at p rest. refl)
  item-on _ = none-at refl (λ ts. refl)

  item-again : (x : ItemTree) (rest : List Written) → IsRight total (item_written x rest) → Clear none (tokens_in rest) → Again total limit this x (item_written x rest) rest
  unfolding reading.file_item reading.file_item_from reading.type_item reading.layout_item reading.fun_item
  item-again (top.Types t) rest i c = node-again type-form (tok.Reserved word.Type) (λ at. type_item_of) (λ ts. refl) [] tt refl _ (t.name, (tt, t.cons)) rest _ refl (λ at h. refl) i c
  item-again (top.Layouts t) rest i c = node-again layout-form (tok.Reserved word.Layout) (λ at p. layout_of limit total at p.0 p.1) (λ ts. refl) (number t.at ∷ []) tt refl _ (t.ty, laid_out t.shape t.tree) rest _ refl
      (λ at h. rw (← h.0) refl) i c
  item-again (top.Derived name a) rest i c = node-again layout-form (tok.Reserved word.Layout) (λ at p. layout_of limit total at p.0 p.1) (λ ts. refl) [] tt refl _ (name, reading.derived a) rest _ refl (λ at h. refl) i c
  item-again (top.Funs f) rest i c = node-again fun-form (tok.Reserved word.Fun) (λ at. fun_of) (λ ts. refl)
      [] tt refl _ (f.name, (f.params, (f.result, f.body))) rest _ refl (λ at h. refl) i c

  one_item-part : IsPart total limit none item item_written this
  unfolding reading.file_item
  one_item-part = part-form refl item-on (λ x rest i c. item-again x rest i c)

begins_item-tells : (t : Token) → is_some (begins item t) ≡ begins_item t
unfolding begins
begins_item-tells (tok.Reserved word.Type) = refl
begins_item-tells (tok.Reserved word.Layout) = refl
begins_item-tells (tok.Reserved word.Fun) = refl
begins_item-tells _ = refl

-- A file.
pub file-form : (total limit : ℕ) → IsForm total limit begins_item start (λ items rest. each (map item_written items) rest) (file_items total limit)
unfolding file_items
file-form total limit = each-form (one_item-part total limit) begins_item begins_item-tells (λ t. refl)
