-- Nodes are entered one level at a time: the first beyond a limit is one level beyond it.
use Rattle.std.proofs.Common.{◌≡◌, ◌⊎◌, inl, inr, ℕ, suc, ◌-◌, ◌<◌, ◌≤◌, ◌^◌, List, [], ◌∷◌, map, length, Bool, true, false, nat_lt, if◌then◌else◌, Some, refl, sym, ap, subst, arith}
use Rattle.std.proofs.lemmas.Grind.{common_steps}
use Rattle.rb_core.specs.declared.layout_decl.Loc.{Loc}
use Rattle.rb_core.specs.declared.layout_decl.PartDecl.{PartDecl}
use Rattle.rb_core.specs.declared.layout_decl.LayItem.{LayItem}
use Rattle.rb_syntax.specs.declared.token.Token.{Token}
use Rattle.rb_syntax.specs.declared.tree.TyTree.{TyTree}
use Rattle.rb_syntax.specs.declared.tree.TyTree.TheVariants as ty
use Rattle.rb_syntax.specs.declared.tree.ConTree.{ConTree}
use Rattle.rb_syntax.specs.declared.tree.PatTree.{PatTree, out-PatTree}
use Rattle.rb_syntax.specs.declared.tree.PatTree.TheOpen as pat
use Rattle.rb_syntax.specs.declared.tree.PatTree.TheOpen.{PatTree-F}
use Rattle.rb_syntax.specs.declared.tree.ClauseTree.{ClauseTree}
use Rattle.rb_syntax.specs.declared.tree.ExprTree.{ExprTree}
use Rattle.rb_syntax.specs.declared.tree.ParamTree.{ParamTree}
use Rattle.rb_syntax.specs.declared.tree.SplitTree.{SplitTree}
use Rattle.rb_syntax.specs.declared.tree.ArmTree.{ArmTree}
use Rattle.rb_syntax.specs.declared.tree.ItemTree.{ItemTree}
use Rattle.rb_syntax.specs.declared.tree.ItemTree.TheVariants as top
use Rattle.rb_syntax.specs.declared.tree.FileTree.{FileTree}
use Rattle.rb_syntax.specs.Written.{Written, node, tokens_in, HasNode, Writing, flaw_unless, each, each_behind, some_with, any_with}
use Rattle.rb_syntax.specs.Spelling.{is_uint_width, Deep, at_level, comma, bar, root_checked, ty_written, fields_written, pat_written, below_written, prov_written, expr_written, clause_written, field_written, path_written, loc_step_written, loc_written, kind_written, part_written, lay_item_written, split_written, arm_written, con_written, width_written, param_written, item_written, file_written}
use Rattle.rb_syntax.proofs.PatternInduction as patterns
use Rattle.rb_syntax.proofs.ExpressionInduction as expressions
use Rattle.rb_syntax.proofs.SpellingLemmas.{pat-Wild, pat-Var, pat-Num, pat-Con, clause-is, expr-Num, expr-Var, expr-Call, expr-Build, expr-Binary, expr-To, expr-Let, expr-Match, arm-is, split-Leaf, split-None, split-Some}
use Rattle.rb_syntax.proofs.LayoutSpelling.{item-Word, item-Inline, part-is, kind-Const, kind-Whole, kind-Slice, kind-Word, kind-Pointer, below-Wild, below-Var, below-Num, below-Con}
use Rattle.rb_read.proofs.Forms.{over}
use Rattle.rb_core.proofs.LayoutInduction.{Each, item-induction}
use Rattle.rb_syntax.proofs.SplitInduction.{tree-induction}

module _ (total limit : ℕ) where
  -- the first node beyond the limit is one level beyond it
  abbrev Climbs : List Written → Type 0
  Climbs ws = (m : ℕ) → over limit ws ≡ Some m → HasNode total (suc limit) (total - m) ws

  -- so it stays where this is written
  abbrev Keeps : Writing → Type 0
  Keeps w = (rest : List Written) → Climbs rest → Climbs (w rest)

  -- at the levels up to one beyond the limit
  abbrev KeepsAt : Deep → Type 0
  KeepsAt w = (l : ℕ) → l ≤ suc limit → Keeps (w l)

  node-first : (l : ℕ) (ws : List Written) → l ≤ suc limit → (suc l ≤ suc limit → Climbs ws) → Climbs (node l ∷ ws)
  node-first l ws h next m e = by_level (nat_lt limit l) refl e where
    by_level : (b : Bool) → nat_lt limit l ≡ b → (if b then Some (length (tokens_in ws)) else over limit ws) ≡ Some m
        → ((l ≡ suc limit) × (total - m ≡ total - length (tokens_in ws))) ⊎ HasNode total (suc limit) (total - m) ws
    by_level true d q =
        let k : length (tokens_in ws) ≡ m = cc in
        let g : limit < l = grind (arith, common_steps, d) in inl (omega arith, ap (λ n. total - n) (sym k))
    by_level false d q = let g : suc l ≤ suc limit = grind (arith, common_steps, d) in inr (next g m q)

  -- what stands in a node is one level deeper
  node-climbs : {all ws : List Written} (l : ℕ) → all ≡ node l ∷ ws → l ≤ suc limit → (suc l ≤ suc limit → Climbs ws) → Climbs all
  node-climbs {all} {ws} l e h next = subst Climbs (sym e) (node-first l ws h next)

  -- Lists of parts.

  each-keeps : (ws : List Writing) → Each Keeps ws → Keeps (each ws)
  each-keeps [] h rest g = g
  each-keeps (w ∷ ws) h rest g = h.0 _ (each-keeps ws h.1 rest g)

  each_behind-keeps : (separator : Token) (ws : List Writing) → Each Keeps ws → Keeps (each_behind separator ws)
  each_behind-keeps separator [] h rest g = g
  each_behind-keeps separator (w ∷ ws) h rest g = h.0 _ (each_behind-keeps separator ws h.1 rest g)

  some_with-keeps : (separator : Token) (ws : List Writing) → Each Keeps ws → Keeps (some_with separator ws)
  some_with-keeps separator [] h rest g = g
  some_with-keeps separator (w ∷ ws) h rest g = h.0 _ (each_behind-keeps separator ws h.1 rest g)

  any_with-keeps : (separator : Token) (ws : List Writing) → Each Keeps ws → Keeps (any_with separator ws)
  any_with-keeps separator [] h rest g = g
  any_with-keeps separator (w ∷ ws) h rest g = h.0 _ (each_behind-keeps separator ws h.1 rest g)

  fields-keeps : (ws : List Writing) → Each Keeps ws → Keeps (fields_written ws)
  fields-keeps [] h rest g = g
  fields-keeps (w ∷ ws) h rest g = h.0 _ (each_behind-keeps comma ws h.1 _ g)

  map-keeps : {A : Type 0} (w : A → Writing) → ((a : A) → Keeps (w a)) → (xs : List A) → Each Keeps (map w xs)
  map-keeps w h [] = tt
  map-keeps w h (x ∷ xs) = (h x, map-keeps w h xs)

  checked-keeps : (b : Bool) → Keeps (flaw_unless b)
  checked-keeps true rest g = g
  checked-keeps false rest g = g

  ty-keeps : (t : TyTree) → Keeps (ty_written t)
  ty-keeps (ty.Int bits) rest g = checked-keeps (is_uint_width bits) _ g
  ty-keeps (ty.Named name) rest g = g

  -- Patterns and provenances.

  patterns-keep : (w : PatTree → Deep) (l : ℕ) (ps : List PatTree) → l ≤ suc limit → patterns.Each (λ p. KeepsAt (w p)) ps → Each Keeps (at_level l (map w ps))
  patterns-keep w l [] k h = tt
  patterns-keep w l (p ∷ ps) k h = (h.0 l k, patterns-keep w l ps k h.1)

  pattern-keeps : (p : PatTree) → KeepsAt (pat_written p)
  pattern-keeps = patterns.induction (λ p. KeepsAt (pat_written p)) (record {
    wild = λ at l k rest g. node-climbs l (pat-Wild at l rest) k (λ j. g);
    var = λ at name l k rest g. node-climbs l (pat-Var at name l rest) k (λ j. g);
    num = λ at n l k rest g. node-climbs l (pat-Num at n l rest) k (λ j. g);
    con = λ at name ps h l k rest g. node-climbs l (pat-Con at name ps l rest) k (λ j. fields-keeps _ (patterns-keep pat_written (suc l) ps j h) rest g);
  })

  below-keeps : (p : PatTree) → KeepsAt (below_written p)
  below-keeps = patterns.induction (λ p. KeepsAt (below_written p)) (record {
    wild = λ at l k rest g. node-climbs l (below-Wild at l rest) k (λ j. g);
    var = λ at name l k rest g. rw (below-Var at name l rest) g;
    num = λ at n l k rest g. rw (below-Num at n l rest) g;
    con = λ at name ps h l k rest g. node-climbs l (below-Con at name ps l rest) k (λ j. fields-keeps _ (patterns-keep below_written (suc l) ps j h) rest g);
  })

  root-keeps : (x : PatTree-F PatTree) → Keeps (root_checked x)
  root-keeps (pat.Wild at) rest g = g
  root-keeps (pat.Var at name) rest g = g
  root-keeps (pat.Num at n) rest g = g
  root-keeps (pat.Con at name ps) rest g = g

  prov-keeps : (p : PatTree) → KeepsAt (prov_written p)
  prov-keeps p l k rest g = root-keeps (out-PatTree p) _ (below-keeps p l k rest g)

  -- Expressions.

  expressions-keep : (l : ℕ) (es : List ExprTree) → l ≤ suc limit → expressions.Each (λ e. KeepsAt (expr_written e)) es → Each Keeps (at_level l (map expr_written es))
  expressions-keep l [] k h = tt
  expressions-keep l (e ∷ es) k h = (h.0 l k, expressions-keep l es k h.1)

  clauses-keep : (l : ℕ) (cs : List ClauseTree) → l ≤ suc limit → expressions.EachBody (λ e. KeepsAt (expr_written e)) cs → Each Keeps (at_level l (map clause_written cs))
  clauses-keep l [] k h = tt
  clauses-keep l (c ∷ cs) k h = (λ rest g. rw (clause-is c l rest) (pattern-keeps c.pat l k _ (h.0 l k rest g)), clauses-keep l cs k h.1)

  expression-keeps : (e : ExprTree) → KeepsAt (expr_written e)
  expression-keeps = expressions.induction (λ e. KeepsAt (expr_written e)) (record {
    num = λ at n l k rest g. node-climbs l (expr-Num at n l rest) k (λ j. g);
    var = λ at name l k rest g. node-climbs l (expr-Var at name l rest) k (λ j. g);
    call = λ at name es h l k rest g. node-climbs l (expr-Call at name es l rest) k (λ j. any_with-keeps comma _ (expressions-keep (suc l) es j h) _ g);
    build = λ at name es h l k rest g. node-climbs l (expr-Build at name es l rest) k (λ j. fields-keeps _ (expressions-keep (suc l) es j h) rest g);
    binary = λ at op a b p q l k rest g. node-climbs l (expr-Binary at op a b l rest) k (λ j. p (suc l) j _ (q (suc l) j _ g));
    to = λ at bits a p l k rest g. node-climbs l (expr-To at bits a l rest) k (λ j. checked-keeps (is_uint_width bits) _ (p (suc l) j _ g));
    bound = λ at name t a b p q l k rest g. node-climbs l (expr-Let at name t a b l rest) k (λ j. ty-keeps t _ (p (suc l) j _ (q (suc l) j rest g)));
    choice = λ at e cs p h l k rest g. node-climbs l (expr-Match at e cs l rest) k (λ j. p (suc l) j _ (some_with-keeps comma _ (clauses-keep (suc l) cs j h) _ g));
  })

  -- Layouts.

  field-keeps : (f : ℕ) → Keeps (field_written f)
  field-keeps f rest g = checked-keeps (nat_lt f (2 ^ 32)) _ g

  path-keeps : (path : List ℕ) → Keeps (path_written path)
  path-keeps [] rest g = g
  path-keeps (f ∷ fs) rest g = field-keeps f _ (each-keeps _ (map-keeps field_written field-keeps fs) rest g)

  loc-keeps : (loc : Loc) → Keeps (loc_written loc)
  loc-keeps loc rest g = each-keeps _ (map-keeps loc_step_written (λ s r f. f) loc.steps) rest g

  parts-keep : (l : ℕ) (ps : List PartDecl) → l ≤ suc limit → Each (λ (p : PartDecl). KeepsAt (kind_written p.kind)) ps → Each Keeps (at_level l (map part_written ps))
  parts-keep l [] k h = tt
  parts-keep l (p ∷ ps) k h = (λ rest g. rw (part-is p l rest) (h.0 l k rest g), parts-keep l ps k h.1)

  items-keep : (l : ℕ) (is : List LayItem) → l ≤ suc limit → Each (λ i. KeepsAt (lay_item_written i)) is → Each Keeps (at_level l (map lay_item_written is))
  items-keep l [] k h = tt
  items-keep l (i ∷ is) k h = (h.0 l k, items-keep l is k h.1)

  lay_item-keeps : (i : LayItem) → KeepsAt (lay_item_written i)
  lay_item-keeps = item-induction (λ i. KeepsAt (lay_item_written i)) (λ q. KeepsAt (kind_written q)) (record {
    word = λ bits parts h l k rest g. rw (item-Word bits parts l rest) (any_with-keeps comma _ (parts-keep l parts k h) _ g);
    inline = λ path l k rest g. rw (item-Inline path l rest) (path-keeps path rest g);
    const = λ c l k rest g. rw (kind-Const c l rest) g;
    whole = λ path l k rest g. rw (kind-Whole path l rest) (path-keeps path rest g);
    slice = λ path first bits l k rest g. rw (kind-Slice path first bits l rest) (path-keeps path _ g);
    word_of = λ path i l k rest g. rw (kind-Word path i l rest) (path-keeps path _ g);
    pointer = λ align is h l k rest g. node-climbs l (kind-Pointer align is l rest) k (λ j. any_with-keeps comma _ (items-keep (suc l) is j h) _ g);
  })

  arms-keep : (l : ℕ) (bs : List ArmTree) → l ≤ suc limit → Each (λ (a : ArmTree). KeepsAt (split_written a.under)) bs → Each Keeps (at_level l (map arm_written bs))
  arms-keep l [] k h = tt
  arms-keep l (a ∷ bs) k h = (λ rest g. rw (arm-is a l rest) (h.0 l k rest g), arms-keep l bs k h.1)

  tree-keeps : (t : SplitTree) → KeepsAt (split_written t)
  tree-keeps = tree-induction (λ t. KeepsAt (split_written t)) (record {
    split = λ loc arms h l k rest g. node-climbs l (split-None loc arms l rest) k (λ j. loc-keeps loc _ (each-keeps _ (arms-keep (suc l) arms j h) _ g));
    split_else = λ loc arms other h o l k rest g. node-climbs l (split-Some loc arms other l rest) k
        (λ j. loc-keeps loc _ (each-keeps _ (arms-keep (suc l) arms j h) _ (o (suc l) j _ g)));
    leaf = λ at prov items l k rest g. node-climbs l (split-Leaf at prov items l rest) k (λ j. prov-keeps prov (suc l) j _
        (some_with-keeps comma _ (map-keeps (λ (i : LayItem). lay_item_written i (suc l)) (λ i. lay_item-keeps i (suc l) j) items) _ g));
  })

  -- Items and files.

  con-keeps : (c : ConTree) → Keeps (con_written c)
  con-keeps c rest g = fields-keeps _ (map-keeps ty_written ty-keeps c.fields) rest g

  param-keeps : (p : ParamTree) → Keeps (param_written p)
  param-keeps p rest g = ty-keeps p.ty rest g

  item-keeps : (i : ItemTree) → Keeps (item_written i)
  item-keeps (top.Types t) rest g = some_with-keeps bar _ (map-keeps con_written con-keeps t.cons) _ g
  item-keeps (top.Layouts t) rest g =
      some_with-keeps comma _ (map-keeps width_written (λ b r f. f) t.shape) _ (tree-keeps t.tree 1 (omega arith) _ g)
  item-keeps (top.Funs f) rest g =
      any_with-keeps comma _ (map-keeps param_written param-keeps f.params) _ (ty-keeps f.result _ (expression-keeps f.body 1 (omega arith) _ g))
  item-keeps (top.Derived name a) rest g = g

  pub file-climbs : (file : FileTree) → Climbs (file_written file)
  file-climbs file = each-keeps _ (map-keeps item_written item-keeps file.items) [] (λ m e. cc)
