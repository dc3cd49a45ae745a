-- What holds of all that is written from a place on, and then of what is written from the next place on, holds behind
-- each part.
use Rattle.std.proofs.Common.{ℕ, suc, ◌^◌, nat_lt, List, [], ◌∷◌, map, Bool, true, false, subst}
use Rattle.rb_syntax.specs.declared.token.Token.{Token}
use Rattle.rb_syntax.specs.declared.token.Token.TheVariants as tok
use Rattle.rb_syntax.specs.declared.token.Symbol.TheVariants as symbol
use Rattle.rb_syntax.specs.declared.tree.TyTree.{TyTree}
use Rattle.rb_syntax.specs.declared.tree.TyTree.TheVariants as ty
use Rattle.rb_syntax.specs.declared.tree.ConTree.{ConTree}
use Rattle.rb_syntax.specs.declared.tree.TypeTree.{TypeTree}
use Rattle.rb_core.specs.declared.layout_decl.Step.{Step}
use Rattle.rb_core.specs.declared.layout_decl.Loc.{Loc}
use Rattle.rb_core.specs.declared.layout_decl.LayItem.{LayItem}
use Rattle.rb_core.specs.declared.layout_decl.PartKind.{PartKind}
use Rattle.rb_core.specs.declared.layout_decl.PartDecl.{PartDecl}
use Rattle.rb_syntax.specs.declared.tree.PatTree.{PatTree, out-PatTree}
use Rattle.rb_syntax.specs.declared.tree.PatTree.TheOpen as pat
use Rattle.rb_syntax.specs.declared.tree.PatTree.TheOpen.{PatTree-F}
use Rattle.rb_syntax.specs.declared.tree.SplitTree.{SplitTree}
use Rattle.rb_syntax.specs.declared.tree.ArmTree.{ArmTree}
use Rattle.rb_syntax.specs.declared.tree.ClauseTree.{ClauseTree}
use Rattle.rb_syntax.specs.declared.tree.ExprTree.{ExprTree}
use Rattle.rb_syntax.specs.declared.tree.ParamTree.{ParamTree}
use Rattle.rb_syntax.specs.declared.tree.FunTree.{FunTree}
use Rattle.rb_syntax.specs.declared.tree.LayoutTree.{LayoutTree}
use Rattle.rb_syntax.specs.declared.tree.ItemTree.{ItemTree}
use Rattle.rb_syntax.specs.declared.tree.ItemTree.TheVariants as top
use Rattle.rb_syntax.specs.Written.{Written, Writing, token, flaw_unless, each, each_behind, some_with, any_with}
use Rattle.rb_syntax.specs.Spelling.{at_level, is_uint_width, uint_written, ty_written, fields_written, pat_written, expr_written, clause_written, con_written, type_written, param_written, fun_written, layout_written, item_written, split_written, arm_written, range_written, field_written, path_written, loc_step_written, loc_written, lay_item_written, kind_written, part_written, below_written, prov_written, root_checked, width_written}
use Rattle.rb_syntax.proofs.SpellingLemmas as spelled
use Rattle.rb_syntax.proofs.LayoutSpelling as shapes
use Rattle.rb_core.proofs.LayoutInduction as layouts
use Rattle.rb_syntax.proofs.SplitInduction as splits
use Rattle.rb_syntax.proofs.PatternInduction as patterns
use Rattle.rb_syntax.proofs.ExpressionInduction as expressions

module _ (P : List Written → Type 0) (next : (w : Written) (ws : List Written) → P (w ∷ ws) → P ws) where
  drops : {w : Written} {ws : List Written} → P (w ∷ ws) → P ws
  drops {w} {ws} h = next w ws h

  -- what holds in front of this writing holds behind it
  abbrev Drops : Writing → Type 0
  Drops w = (rest : List Written) → P (w rest) → P rest

  abbrev EachDrops : List Writing → Type 0
  EachDrops [] = Unit {0}
  EachDrops (w ∷ ws) = Drops w × EachDrops ws

  checked-drops : (b : Bool) → Drops (flaw_unless b)
  checked-drops true rest h = h
  checked-drops false rest h = drops h

  behind-drops : (separator : Token) (ws : List Writing) → EachDrops ws → Drops (each_behind separator ws)
  behind-drops separator [] all rest h = h
  behind-drops separator (w ∷ ws) all rest h = behind-drops separator ws all.1 rest (all.0 (each_behind separator ws rest) (drops h))

  some-drops : (separator : Token) (ws : List Writing) → EachDrops ws → Drops (some_with separator ws)
  some-drops separator [] all rest h = drops h
  some-drops separator (w ∷ ws) all rest h = behind-drops separator ws all.1 rest (all.0 (each_behind separator ws rest) h)

  any-drops : (separator : Token) (ws : List Writing) → EachDrops ws → Drops (any_with separator ws)
  any-drops separator [] all rest h = h
  any-drops separator (w ∷ ws) all rest h = behind-drops separator ws all.1 rest (all.0 (each_behind separator ws rest) h)

  abbrev close : List Written → List Written
  close rest = token (tok.Symbol symbol.CloseParen) ∷ rest

  abbrev comma : Token
  comma = tok.Symbol symbol.Comma

  fields-drops : (ws : List Writing) → EachDrops ws → Drops (fields_written ws)
  fields-drops [] all rest h = h
  fields-drops (w ∷ ws) all rest h = drops (behind-drops comma ws all.1 (close rest) (all.0 (each_behind comma ws (close rest)) (drops h)))

  -- of a list of parts, from that of each
  listed : {A : Type 0} (w : A → Writing) → ((x : A) → Drops (w x)) → (xs : List A) → EachDrops (map w xs)
  listed w all [] = tt
  listed w all (x ∷ xs) = (all x, listed w all xs)

  uint-drops : (bits : ℕ) → Drops (uint_written bits)
  uint-drops bits rest h = drops (checked-drops (is_uint_width bits) (token (tok.Uint bits) ∷ rest) h)

  pub type-drops : (x : TyTree) → Drops (ty_written x)
  type-drops (ty.Int bits) rest h = uint-drops bits rest h
  type-drops (ty.Named name) rest h = drops (drops h)

  pub con-drops : (c : ConTree) → Drops (con_written c)
  con-drops c rest h = fields-drops (map ty_written c.fields) (listed ty_written type-drops c.fields) rest (drops (drops h))

  pub data-drops : (d : TypeTree) → Drops (type_written d)
  data-drops d rest h = drops (some-drops (tok.Symbol symbol.Bar) (map con_written d.cons) (listed con_written con-drops d.cons) (token (tok.Symbol symbol.Semicolon) ∷ rest) (drops (drops (drops (drops h)))))

  -- Patterns.
  abbrev PatDrops : PatTree → Type 0
  PatDrops p = (l : ℕ) → Drops (pat_written p l)

  listed-patterns : (ps : List PatTree) → patterns.Each PatDrops ps → (l : ℕ) → EachDrops (at_level l (map pat_written ps))
  listed-patterns [] all l = tt
  listed-patterns (p ∷ ps) all l = (all.0 l, listed-patterns ps all.1 l)

  pub pattern-drops : (p : PatTree) → PatDrops p
  pattern-drops = patterns.induction PatDrops (record {
    wild = λ at l rest h. drops (drops (drops (subst P (spelled.pat-Wild at l rest) h)));
    var = λ at x l rest h. drops (drops (drops (drops (subst P (spelled.pat-Var at x l rest) h))));
    num = λ at n l rest h. drops (drops (drops (subst P (spelled.pat-Num at n l rest) h)));
    con = λ at x ps all l rest h. fields-drops (at_level (suc l) (map pat_written ps)) (listed-patterns ps all (suc l)) rest
        (drops (drops (drops (drops (subst P (spelled.pat-Con at x ps l rest) h)))));
  })

  -- Expressions.
  abbrev ExprDrops : ExprTree → Type 0
  ExprDrops e = (l : ℕ) → Drops (expr_written e l)

  listed-exprs : (es : List ExprTree) → expressions.Each ExprDrops es → (l : ℕ) → EachDrops (at_level l (map expr_written es))
  listed-exprs [] all l = tt
  listed-exprs (e ∷ es) all l = (all.0 l, listed-exprs es all.1 l)

  clause-drops : (c : ClauseTree) → ExprDrops c.body → (l : ℕ) → Drops (clause_written c l)
  clause-drops c body l rest h = body l rest (drops (pattern-drops c.pat l _ (subst P (spelled.clause-is c l rest) h)))

  listed-clauses : (cs : List ClauseTree) → expressions.EachBody ExprDrops cs → (l : ℕ) → EachDrops (at_level l (map clause_written cs))
  listed-clauses [] all l = tt
  listed-clauses (c ∷ cs) all l = (clause-drops c all.0 l, listed-clauses cs all.1 l)

  pub expression-drops : (e : ExprTree) → ExprDrops e
  expression-drops = expressions.induction ExprDrops (record {
    num = λ at n l rest h. drops (drops (drops (subst P (spelled.expr-Num at n l rest) h)));
    var = λ at x l rest h. drops (drops (drops (drops (subst P (spelled.expr-Var at x l rest) h))));
    call = λ at x es all l rest h. drops (any-drops comma (at_level (suc l) (map expr_written es)) (listed-exprs es all (suc l)) (close rest)
        (drops (drops (drops (drops (drops (subst P (spelled.expr-Call at x es l rest) h)))))));
    build = λ at x es all l rest h. fields-drops (at_level (suc l) (map expr_written es)) (listed-exprs es all (suc l)) rest
        (drops (drops (drops (drops (subst P (spelled.expr-Build at x es l rest) h)))));
    binary = λ at op a b f g l rest h. drops (g (suc l) (close rest) (drops (f (suc l) _ (drops (drops (drops (drops (subst P (spelled.expr-Binary at op a b l rest) h))))))));
    to = λ at bits a f l rest h. drops (f (suc l) (close rest) (drops (uint-drops bits _ (drops (drops (drops (subst P (spelled.expr-To at bits a l rest) h)))))));
    bound = λ at x t a b f g l rest h. g (suc l) rest (drops (f (suc l) _ (drops (type-drops t _ (drops (drops (drops (drops (drops (drops
        (subst P (spelled.expr-Let at x t a b l rest) h)))))))))));
    choice = λ at e cs f all l rest h. drops (some-drops comma (at_level (suc l) (map clause_written cs)) (listed-clauses cs all (suc l)) (token (tok.Symbol symbol.CloseBrace) ∷ rest)
        (drops (f (suc l) _ (drops (drops (drops (subst P (spelled.expr-Match at e cs l rest) h)))))));
  })

  -- Functions.
  param-drops : (p : ParamTree) → Drops (param_written p)
  param-drops p rest h = type-drops p.ty rest (drops (drops (drops (drops h))))

  pub function-drops : (f : FunTree) → Drops (fun_written f)
  function-drops f rest h =
      drops (expression-drops f.body 1 _ (drops (type-drops f.result _ (drops (drops (any-drops comma (map param_written f.params) (listed param_written param-drops f.params) _
      (drops (drops (drops (drops h))))))))))

  -- Layouts.
  range-drops : (o l : ℕ) → Drops (range_written o l)
  range-drops o l rest h = drops (drops (drops (drops (drops h))))

  field-drops : (field : ℕ) → Drops (field_written field)
  field-drops field rest h = drops (checked-drops (nat_lt field (2 ^ 32)) (token (tok.Num field) ∷ rest) (drops h))

  each-drops : (ws : List Writing) → EachDrops ws → Drops (each ws)
  each-drops [] all rest h = h
  each-drops (w ∷ ws) all rest h = each-drops ws all.1 rest (all.0 (each ws rest) h)

  path-drops : (path : List ℕ) → Drops (path_written path)
  path-drops [] rest h = drops h
  path-drops (f ∷ fs) rest h = each-drops (map field_written fs) (listed field_written field-drops fs) rest (field-drops f (each (map field_written fs) rest) h)

  step-drops : (s : Step) → Drops (loc_step_written s)
  step-drops s rest h = range-drops s.o s.l rest (drops (drops (drops (drops (drops (drops h))))))

  loc-drops : (loc : Loc) → Drops (loc_written loc)
  loc-drops loc rest h = each-drops (map loc_step_written loc.steps) (listed loc_step_written step-drops loc.steps) rest
      (range-drops loc.o loc.l (each (map loc_step_written loc.steps) rest) (drops h))

  abbrev ItemDrops : LayItem → Type 0
  ItemDrops x = (l : ℕ) → Drops (lay_item_written x l)

  abbrev KindDrops : PartKind → Type 0
  KindDrops k = (l : ℕ) → Drops (kind_written k l)

  part-drops : (p : PartDecl) → KindDrops p.kind → (l : ℕ) → Drops (part_written p l)
  part-drops p kind l rest h = kind l rest (range-drops p.o p.l (kind_written p.kind l rest) (subst P (shapes.part-is p l rest) h))

  listed-parts : (ps : List PartDecl) → layouts.Each (λ (p : PartDecl). KindDrops p.kind) ps → (l : ℕ) → EachDrops (at_level l (map part_written ps))
  listed-parts [] all l = tt
  listed-parts (p ∷ ps) all l = (part-drops p all.0 l, listed-parts ps all.1 l)

  listed-items : (xs : List LayItem) → layouts.Each ItemDrops xs → (l : ℕ) → EachDrops (at_level l (map lay_item_written xs))
  listed-items [] all l = tt
  listed-items (x ∷ xs) all l = (all.0 l, listed-items xs all.1 l)

  abbrev close_brace : List Written → List Written
  close_brace rest = token (tok.Symbol symbol.CloseBrace) ∷ rest

  pub lay-item-drops : (x : LayItem) → ItemDrops x
  lay-item-drops = layouts.item-induction ItemDrops KindDrops (record {
    word = λ bits parts all l rest h. drops (any-drops comma (at_level l (map part_written parts)) (listed-parts parts all l) (close_brace rest)
        (drops (drops (drops (subst P (shapes.item-Word bits parts l rest) h)))));
    inline = λ path l rest h. path-drops path rest (drops (subst P (shapes.item-Inline path l rest) h));
    const = λ c l rest h. drops (drops (subst P (shapes.kind-Const c l rest) h));
    whole = λ path l rest h. path-drops path rest (subst P (shapes.kind-Whole path l rest) h);
    slice = λ path first bits l rest h. range-drops first bits rest (path-drops path (range_written first bits rest) (subst P (shapes.kind-Slice path first bits l rest) h));
    word_of = λ path j l rest h. drops (drops (path-drops path _ (subst P (shapes.kind-Word path j l rest) h)));
    pointer = λ align items all l rest h. drops (any-drops comma (at_level (suc l) (map lay_item_written items)) (listed-items items all (suc l)) (close_brace rest)
        (drops (drops (drops (drops (subst P (shapes.kind-Pointer align items l rest) h))))));
  })

  root-drops : (p : PatTree-F PatTree) → Drops (root_checked p)
  root-drops (pat.Wild at) rest h = drops h
  root-drops (pat.Var at name) rest h = h
  root-drops (pat.Num at n) rest h = h
  root-drops (pat.Con at name ps) rest h = h

  abbrev BelowDrops : PatTree → Type 0
  BelowDrops p = (l : ℕ) → Drops (below_written p l)

  listed-below : (ps : List PatTree) → patterns.Each BelowDrops ps → (l : ℕ) → EachDrops (at_level l (map below_written ps))
  listed-below [] all l = tt
  listed-below (p ∷ ps) all l = (all.0 l, listed-below ps all.1 l)

  below-drops : (p : PatTree) → BelowDrops p
  below-drops = patterns.induction BelowDrops (record {
    wild = λ at l rest h. drops (drops (drops (subst P (shapes.below-Wild at l rest) h)));
    var = λ at x l rest h. drops (subst P (shapes.below-Var at x l rest) h);
    num = λ at n l rest h. drops (subst P (shapes.below-Num at n l rest) h);
    con = λ at x ps all l rest h. fields-drops (at_level (suc l) (map below_written ps)) (listed-below ps all (suc l)) rest
        (drops (drops (drops (drops (subst P (shapes.below-Con at x ps l rest) h)))));
  })

  pub provenance-drops : (p : PatTree) (l : ℕ) → Drops (prov_written p l)
  provenance-drops p l rest h = below-drops p l rest (root-drops (out-PatTree p) (below_written p l rest) h)

  abbrev TreeDrops : SplitTree → Type 0
  TreeDrops t = (l : ℕ) → Drops (split_written t l)

  arm-drops : (a : ArmTree) → TreeDrops a.under → (l : ℕ) → Drops (arm_written a l)
  arm-drops a under l rest h = under l rest (drops (drops (subst P (spelled.arm-is a l rest) h)))

  listed-arms : (xs : List ArmTree) → layouts.Each (λ (a : ArmTree). TreeDrops a.under) xs → (l : ℕ) → EachDrops (at_level l (map arm_written xs))
  listed-arms [] all l = tt
  listed-arms (a ∷ xs) all l = (arm-drops a all.0 l, listed-arms xs all.1 l)

  pub tree-drops : (t : SplitTree) → TreeDrops t
  tree-drops = splits.tree-induction TreeDrops (record {
    split = λ loc arms all l rest h. drops (each-drops (at_level (suc l) (map arm_written arms)) (listed-arms arms all (suc l)) (close_brace rest)
        (drops (loc-drops loc _ (drops (drops (subst P (spelled.split-None loc arms l rest) h))))));
    split_else = λ loc arms other all f l rest h. drops (f (suc l) (close_brace rest) (drops (drops
        (each-drops (at_level (suc l) (map arm_written arms)) (listed-arms arms all (suc l)) _
        (drops (loc-drops loc _ (drops (drops (subst P (spelled.split-Some loc arms other l rest) h)))))))));
    leaf = λ at p items l rest h. drops (some-drops comma (map (λ (i : LayItem). lay_item_written i (suc l)) items)
        (listed (λ (i : LayItem). lay_item_written i (suc l)) (λ i. lay-item-drops i (suc l)) items) (close_brace rest)
        (drops (drops (provenance-drops p (suc l) _ (drops (drops (subst P (spelled.split-Leaf at p items l rest) h)))))));
  })

  width-drops : (bits : ℕ) → Drops (width_written bits)
  width-drops bits rest h = drops h

  pub layout-drops : (x : LayoutTree) → Drops (layout_written x)
  layout-drops x rest h = drops (tree-drops x.tree 1 _ (drops (drops
      (some-drops comma (map width_written x.shape) (listed width_written width-drops x.shape) _ (drops (drops (drops (drops (drops h)))))))))

  -- Items.
  pub item-drops : (x : ItemTree) → Drops (item_written x)
  item-drops (top.Types d) rest h = data-drops d rest h
  item-drops (top.Layouts l) rest h = layout-drops l rest h
  item-drops (top.Funs f) rest h = function-drops f rest h
  item-drops (top.Derived name a) rest h = drops (drops (drops (drops (drops (drops h)))))
