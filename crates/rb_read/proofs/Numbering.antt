-- Every tree can be numbered rightly, and is then written the same but for its numbers.
use Rattle.std.proofs.Common.{◌≡◌, ℕ, suc, ◌-◌, ◌^◌, List, [], ◌∷◌, map, length, Bool, true, false, nat_lt, Some, None, refl, sym, ◌∙◌, ap, subst}
use Rattle.rb_core.specs.declared.layout_decl.Step.{Step}
use Rattle.rb_core.specs.declared.layout_decl.Loc.{Loc}
use Rattle.rb_core.specs.declared.layout_decl.PartDecl.{PartDecl}
use Rattle.rb_core.specs.declared.layout_decl.LayItem.{LayItem}
use Rattle.rb_syntax.specs.declared.token.Symbol.TheVariants as symbol
use Rattle.rb_syntax.specs.declared.token.ReservedWord.TheVariants as word
use Rattle.rb_syntax.specs.declared.token.Token.{Token}
use Rattle.rb_syntax.specs.declared.token.Token.TheVariants as tok
use Rattle.rb_syntax.specs.declared.tree.NameTree.{NameTree}
use Rattle.rb_syntax.specs.declared.tree.TyTree.{TyTree}
use Rattle.rb_syntax.specs.declared.tree.TyTree.TheVariants as ty
use Rattle.rb_syntax.specs.declared.tree.ConTree.{ConTree}
use Rattle.rb_syntax.specs.declared.tree.PatTree.{PatTree, out-PatTree}
use Rattle.rb_syntax.specs.declared.tree.PatTree as P
use Rattle.rb_syntax.specs.declared.tree.PatTree.TheOpen as pat
use Rattle.rb_syntax.specs.declared.tree.PatTree.TheOpen.{PatTree-F}
use Rattle.rb_syntax.specs.declared.tree.ClauseTree.{ClauseTree}
use Rattle.rb_syntax.specs.declared.tree.ExprTree.{ExprTree}
use Rattle.rb_syntax.specs.declared.tree.ExprTree as X
use Rattle.rb_syntax.specs.declared.tree.ParamTree.{ParamTree}
use Rattle.rb_syntax.specs.declared.tree.SplitTree.{SplitTree}
use Rattle.rb_syntax.specs.declared.tree.SplitTree as S
use Rattle.rb_syntax.specs.declared.tree.ArmTree.{ArmTree}
use Rattle.rb_syntax.specs.declared.tree.ItemTree.{ItemTree}
use Rattle.rb_syntax.specs.declared.tree.ItemTree.TheVariants as top
use Rattle.rb_syntax.specs.declared.tree.FileTree.{FileTree}
use Rattle.rb_syntax.specs.Written.{Written, token, number, node, flaw, tokens_in, AreNumbered, HaveNoFlaw, HasNode, Writing, flaw_unless, each, each_behind, some_with, any_with}
use Rattle.rb_syntax.specs.Spelling.{is_uint_width, Deep, at_level, comma, bar, ty_written, upper_written, lower_written, fields_written, pat_written, root_checked, below_written, prov_written, expr_written, clause_written, field_written, path_written, loc_step_written, loc_written, range_written, auto_word, kind_written, part_written, lay_item_written, split_written, arm_written, con_written, width_written, param_written, item_written, file_written, spell, IsTreeOf}
use Rattle.rb_syntax.proofs.PatternInduction as patterns
use Rattle.rb_syntax.proofs.ExpressionInduction as expressions
use Rattle.rb_syntax.proofs.SpellingLemmas.{pat-Wild, pat-Var, pat-Num, pat-Con, clause-is, expr-Num, expr-Var, expr-Call, expr-Build, expr-Binary, expr-To, expr-Let, expr-Match, arm-is, split-Leaf, split-None, split-Some}
use Rattle.rb_syntax.proofs.LayoutSpelling.{item-Word, item-Inline, part-is, kind-Const, kind-Whole, kind-Slice, kind-Word, kind-Pointer, below-Wild, below-Var, below-Num, below-Con}
use Rattle.rb_core.proofs.LayoutInduction.{Each, item-induction}
use Rattle.rb_syntax.proofs.SplitInduction.{tree-induction}

-- what is written, but for its numbers
abbrev bare : List Written → List Written
bare [] = []
bare (token t ∷ ws) = token t ∷ bare ws
bare (number at ∷ ws) = bare ws
bare (node l ∷ ws) = node l ∷ bare ws
bare (flaw ∷ ws) = flaw ∷ bare ws

tokens-bare : (ws : List Written) → tokens_in (bare ws) ≡ tokens_in ws
tokens-bare [] = refl
tokens-bare (token t ∷ ws) = ap (λ ts. t ∷ ts) (tokens-bare ws)
tokens-bare (number at ∷ ws) = tokens-bare ws
tokens-bare (node l ∷ ws) = tokens-bare ws
tokens-bare (flaw ∷ ws) = tokens-bare ws

formed-bare : (ws : List Written) → HaveNoFlaw (bare ws) ≡ HaveNoFlaw ws
formed-bare [] = refl
formed-bare (token t ∷ ws) = formed-bare ws
formed-bare (number at ∷ ws) = formed-bare ws
formed-bare (node l ∷ ws) = formed-bare ws
formed-bare (flaw ∷ ws) = refl

node-bare : (total level at : ℕ) (ws : List Written) → HasNode total level at (bare ws) ≡ HasNode total level at ws
node-bare total level at [] = refl
node-bare total level at (token t ∷ ws) = node-bare total level at ws
node-bare total level at (number n ∷ ws) = node-bare total level at ws
node-bare total level at (node l ∷ ws) = rw (tokens-bare ws, node-bare total level at ws) refl
node-bare total level at (flaw ∷ ws) = node-bare total level at ws

module _ (total : ℕ) where
  -- The one is numbered rightly, and is the other but for the numbers.
  record Numbered (us ws : List Written) : Type 0 where
    pub same : bare us ≡ bare ws
    pub numbered : AreNumbered total us

  behind : {us ws : List Written} {t : Token} → Numbered us ws → Numbered (token t ∷ us) (token t ∷ ws)
  behind {us} {ws} {t} n = record { same = ap (λ z. token t ∷ z) n.same; numbered = n.numbered }

  in_node : {us ws : List Written} {l : ℕ} → Numbered us ws → Numbered (node l ∷ us) (node l ∷ ws)
  in_node {us} {ws} {l} n = record { same = ap (λ z. node l ∷ z) n.same; numbered = n.numbered }

  flawed : {us ws : List Written} → Numbered us ws → Numbered (flaw ∷ us) (flaw ∷ ws)
  flawed n = record { same = ap (λ z. flaw ∷ z) n.same; numbered = n.numbered }

  checked-numbered : (b : Bool) {us ws : List Written} → Numbered us ws → Numbered (flaw_unless b us) (flaw_unless b ws)
  checked-numbered true n = n
  checked-numbered false n = flawed n

  at_number : (old : ℕ) {us ws : List Written} → Numbered us ws → (at : ℕ) × Numbered (number at ∷ us) (number old ∷ ws)
  at_number old {us} {ws} n = (total - length (tokens_in us), record { same = n.same; numbered = (refl, n.numbered) })

  upper : (name : NameTree) {us ws : List Written} → Numbered us ws → (new : NameTree) × Numbered (upper_written new us) (upper_written name ws)
  upper name n = let a = at_number name.at (behind {t = tok.Upper name.text} n) in (record { at = a.0; text = name.text }, a.1)

  lower : (name : NameTree) {us ws : List Written} → Numbered us ws → (new : NameTree) × Numbered (lower_written new us) (lower_written name ws)
  lower name n = let a = at_number name.at (behind {t = tok.Lower name.text} n) in (record { at = a.0; text = name.text }, a.1)

  by_equations : {us us' ws ws' : List Written} → us ≡ us' → ws ≡ ws' → Numbered us' ws' → Numbered us ws
  by_equations {us} {us'} {ws} {ws'} e d n = subst (λ z. Numbered z ws) (sym e) (subst (λ z. Numbered us' z) (sym d) n)

  -- The tree can be numbered rightly where what follows is.
  abbrev Fresh : {A : Type 0} → (A → Writing) → A → Type 0
  Fresh {A} w x = (us ws : List Written) → Numbered us ws → (y : A) × Numbered (w y us) (w x ws)

  abbrev FreshAt : {A : Type 0} → (A → Deep) → A → Type 0
  FreshAt {A} w x = (l : ℕ) → Fresh (λ y. w y l) x

  -- nothing in it is numbered
  abbrev Steady : Writing → Type 0
  Steady w = (us ws : List Written) → Numbered us ws → Numbered (w us) (w ws)

  by_node : {A : Type 0} (w : A → List Written) {v us ws : List Written} (make : ℕ → A) (l old : ℕ) → ((at : ℕ) → w (make at) ≡ node l ∷ number at ∷ us)
      → v ≡ node l ∷ number old ∷ ws → Numbered us ws → (y : A) × Numbered (w y) v
  by_node w make l old e d n = let a = at_number old n in (make a.0, by_equations (e a.0) d (in_node a.1))

  -- Lists of parts: `of` are how these are written.
  module _ {A : Type 0} (w : A → Writing) (of : List A → List Writing) (nil : of [] ≡ []) (cons : (x : A) (xs : List A) → of (x ∷ xs) ≡ w x ∷ of xs) where
    each-fresh : (xs : List A) → Each (Fresh w) xs → Fresh (λ ys. each (of ys)) xs
    each-fresh [] h us ws n = ([], rw nil n)
    each-fresh (x ∷ xs) h us ws n =
        let r = each-fresh xs h.1 us ws n in let q = h.0 _ _ r.1 in (q.0 ∷ r.0, rw (cons q.0 r.0, cons x xs) q.1)

    each_behind-fresh : (separator : Token) (xs : List A) → Each (Fresh w) xs → Fresh (λ ys. each_behind separator (of ys)) xs
    each_behind-fresh separator [] h us ws n = ([], rw nil n)
    each_behind-fresh separator (x ∷ xs) h us ws n =
        let r = each_behind-fresh separator xs h.1 us ws n in let q = h.0 _ _ r.1 in (q.0 ∷ r.0, rw (cons q.0 r.0, cons x xs) (behind q.1))

    some_with-fresh : (separator : Token) (xs : List A) → Each (Fresh w) xs → Fresh (λ ys. some_with separator (of ys)) xs
    some_with-fresh separator [] h us ws n = ([], rw nil (flawed n))
    some_with-fresh separator (x ∷ xs) h us ws n =
        let r = each_behind-fresh separator xs h.1 us ws n in let q = h.0 _ _ r.1 in (q.0 ∷ r.0, rw (cons q.0 r.0, cons x xs) q.1)

    any_with-fresh : (separator : Token) (xs : List A) → Each (Fresh w) xs → Fresh (λ ys. any_with separator (of ys)) xs
    any_with-fresh separator [] h us ws n = ([], rw nil n)
    any_with-fresh separator (x ∷ xs) h us ws n =
        let r = each_behind-fresh separator xs h.1 us ws n in let q = h.0 _ _ r.1 in (q.0 ∷ r.0, rw (cons q.0 r.0, cons x xs) q.1)

    fields-fresh : (xs : List A) → Each (Fresh w) xs → Fresh (λ ys. fields_written (of ys)) xs
    fields-fresh [] h us ws n = ([], rw nil n)
    fields-fresh (x ∷ xs) h us ws n =
        let r = each_behind-fresh comma xs h.1 _ _ (behind {t = tok.Symbol symbol.CloseParen} n) in let q = h.0 _ _ r.1 in (q.0 ∷ r.0, rw (cons q.0 r.0, cons x xs) (behind q.1))

  each-each : {A : Type 0} {Q R : A → Type 0} → ((x : A) → Q x → R x) → (xs : List A) → Each Q xs → Each R xs
  each-each h [] q = tt
  each-each h (x ∷ xs) q = (h x q.0, each-each h xs q.1)

  each-all : {A : Type 0} {R : A → Type 0} → ((x : A) → R x) → (xs : List A) → Each R xs
  each-all h [] = tt
  each-all h (x ∷ xs) = (h x, each-all h xs)

  -- Types, constructors and parameters.

  ty-fresh : (t : TyTree) → Fresh ty_written t
  ty-fresh (ty.Int bits) us ws n = (ty.Int bits, checked-numbered (is_uint_width bits) (behind n))
  ty-fresh (ty.Named name) us ws n = let r = upper name n in (ty.Named r.0, r.1)

  con-fresh : (c : ConTree) → Fresh con_written c
  con-fresh c us ws n =
      let f = fields-fresh ty_written (λ ts. map ty_written ts) refl (λ x xs. refl) c.fields (each-all ty-fresh c.fields) us ws n in
      let r = upper c.name f.1 in (record { name = r.0; fields = f.0 }, r.1)

  param-fresh : (p : ParamTree) → Fresh param_written p
  param-fresh p us ws n =
      let t = ty-fresh p.ty us ws n in
      let r = lower p.var (behind {t = tok.Symbol symbol.Colon} t.1) in
      let a = at_number p.at r.1 in (record { at = a.0; var = r.0; ty = t.0 }, a.1)

  -- Patterns and provenances.

  patterns-fresh : (w : PatTree → Deep) (l : ℕ) (ps : List PatTree) → patterns.Each (λ p. FreshAt w p) ps → Each (Fresh (λ p. w p l)) ps
  patterns-fresh w l [] h = tt
  patterns-fresh w l (p ∷ ps) h = (h.0 l, patterns-fresh w l ps h.1)

  pattern-fields : (w : PatTree → Deep) (l : ℕ) (ps : List PatTree) → patterns.Each (λ p. FreshAt w p) ps → Fresh (λ qs. fields_written (at_level l (map w qs))) ps
  pattern-fields w l ps h = fields-fresh (λ p. w p l) (λ qs. at_level l (map w qs)) refl (λ x xs. refl) ps (patterns-fresh w l ps h)

  pattern-fresh : (p : PatTree) → FreshAt pat_written p
  pattern-fresh = patterns.induction (λ p. FreshAt pat_written p) (record {
    wild = λ old l us ws n. by_node (λ p. pat_written p l us) (λ at. P.Wild at) l old (λ at. pat-Wild at l us) (pat-Wild old l ws) (behind n);
    var = λ old name l us ws n. let r = lower name n in
        by_node (λ p. pat_written p l us) (λ at. P.Var at r.0) l old (λ at. pat-Var at r.0 l us) (pat-Var old name l ws) r.1;
    num = λ old k l us ws n. by_node (λ p. pat_written p l us) (λ at. P.Num at k) l old (λ at. pat-Num at k l us) (pat-Num old k l ws) (behind n);
    con = λ old name ps h l us ws n. let f = pattern-fields pat_written (suc l) ps h us ws n in let r = upper name f.1 in
        by_node (λ p. pat_written p l us) (λ at. P.Con at r.0 f.0) l old (λ at. pat-Con at r.0 f.0 l us) (pat-Con old name ps l ws) r.1;
  })

  -- with the same root
  abbrev BelowFresh : PatTree → Type 0
  BelowFresh p = (l : ℕ) (us ws : List Written) → Numbered us ws
      → (q : PatTree) × Numbered (below_written q l us) (below_written p l ws) × (root_checked (out-PatTree q) ≡ root_checked (out-PatTree p))

  belows-fresh : (l : ℕ) (ps : List PatTree) → patterns.Each BelowFresh ps → Each (Fresh (λ p. below_written p l)) ps
  belows-fresh l [] h = tt
  belows-fresh l (p ∷ ps) h = (λ us ws n. let r = h.0 l us ws n in (r.0, r.1), belows-fresh l ps h.1)

  below-fresh : (p : PatTree) → BelowFresh p
  unfolding P.roll-PatTree denote.Hole.Carrier.roll P.out-PatTree denote.Hole.Carrier.out
  below-fresh = patterns.induction BelowFresh (record {
    wild = λ old l us ws n.
        let a = at_number old (behind {t = tok.Symbol symbol.Underscore} n) in (P.Wild a.0, by_equations (below-Wild a.0 l us) (below-Wild old l ws) (in_node a.1), refl);
    var = λ old name l us ws n. (P.Var old name, by_equations (below-Var old name l us) (below-Var old name l ws) (flawed n), refl);
    num = λ old k l us ws n. (P.Num old k, by_equations (below-Num old k l us) (below-Num old k l ws) (flawed n), refl);
    con = λ old name ps h l us ws n.
        let f = fields-fresh (λ p. below_written p (suc l)) (λ qs. at_level (suc l) (map below_written qs)) refl (λ x xs. refl) ps (belows-fresh (suc l) ps h) us ws n in
        let r = upper name f.1 in
        let a = at_number old r.1 in
        (P.Con a.0 r.0 f.0, by_equations (below-Con a.0 r.0 f.0 l us) (below-Con old name ps l ws) (in_node a.1), refl);
  })

  root-numbered : (x : PatTree-F PatTree) → Steady (root_checked x)
  root-numbered (pat.Wild at) us ws n = flawed n
  root-numbered (pat.Var at name) us ws n = n
  root-numbered (pat.Num at k) us ws n = n
  root-numbered (pat.Con at name ps) us ws n = n

  prov-fresh : (p : PatTree) → FreshAt prov_written p
  prov-fresh p l us ws n =
      let b = below-fresh p l us ws n in
      (b.0, subst (λ (w : Writing). Numbered (w (below_written b.0 l us)) (prov_written p l ws)) (sym b.2) (root-numbered (out-PatTree p) _ _ b.1))

  -- Expressions.

  expressions-fresh : (l : ℕ) (es : List ExprTree) → expressions.Each (λ e. FreshAt expr_written e) es → Each (Fresh (λ e. expr_written e l)) es
  expressions-fresh l [] h = tt
  expressions-fresh l (e ∷ es) h = (h.0 l, expressions-fresh l es h.1)

  clause-fresh : (l : ℕ) (c : ClauseTree) → FreshAt expr_written c.body → Fresh (λ d. clause_written d l) c
  clause-fresh l c h us ws n =
      let b = h l us ws n in
      let p = pattern-fresh c.pat l _ _ (behind {t = tok.Symbol symbol.FatArrow} b.1) in
      let d : ClauseTree = record { pat = p.0; body = b.0 } in (d, by_equations (clause-is d l us) (clause-is c l ws) p.1)

  clauses-fresh : (l : ℕ) (cs : List ClauseTree) → expressions.EachBody (λ e. FreshAt expr_written e) cs → Each (Fresh (λ c. clause_written c l)) cs
  clauses-fresh l [] h = tt
  clauses-fresh l (c ∷ cs) h = (clause-fresh l c h.0, clauses-fresh l cs h.1)

  expression-fresh : (e : ExprTree) → FreshAt expr_written e
  expression-fresh = expressions.induction (λ e. FreshAt expr_written e) (record {
    num = λ old k l us ws n. by_node (λ e. expr_written e l us) (λ at. X.Num at k) l old (λ at. expr-Num at k l us) (expr-Num old k l ws) (behind n);
    var = λ old name l us ws n. let r = lower name n in
        by_node (λ e. expr_written e l us) (λ at. X.Var at r.0) l old (λ at. expr-Var at r.0 l us) (expr-Var old name l ws) r.1;
    call = λ old name es h l us ws n.
        let f = any_with-fresh (λ e. expr_written e (suc l)) (λ ds. at_level (suc l) (map expr_written ds)) refl (λ x xs. refl) comma es
        (expressions-fresh (suc l) es h) _ _ (behind {t = tok.Symbol symbol.CloseParen} n) in
        let r = lower name (behind {t = tok.Symbol symbol.OpenParen} f.1) in
        by_node (λ e. expr_written e l us) (λ at. X.Call at r.0 f.0) l old (λ at. expr-Call at r.0 f.0 l us) (expr-Call old name es l ws) r.1;
    build = λ old name es h l us ws n.
        let f = fields-fresh (λ e. expr_written e (suc l)) (λ ds. at_level (suc l) (map expr_written ds)) refl (λ x xs. refl) es (expressions-fresh (suc l) es h) us ws n in
        let r = upper name f.1 in
        by_node (λ e. expr_written e l us) (λ at. X.Build at r.0 f.0) l old (λ at. expr-Build at r.0 f.0 l us) (expr-Build old name es l ws) r.1;
    binary = λ old op a b p q l us ws n.
        let g = q (suc l) _ _ (behind {t = tok.Symbol symbol.CloseParen} n) in
        let f = p (suc l) _ _ (behind {t = comma} g.1) in
        by_node (λ e. expr_written e l us) (λ at. X.Binary at op f.0 g.0) l old (λ at. expr-Binary at op f.0 g.0 l us) (expr-Binary old op a b l ws) (behind (behind f.1));
    to = λ old bits a p l us ws n.
        let f = p (suc l) _ _ (behind {t = tok.Symbol symbol.CloseParen} n) in
        by_node (λ e. expr_written e l us) (λ at. X.To at bits f.0) l old (λ at. expr-To at bits f.0 l us) (expr-To old bits a l ws)
        (behind (checked-numbered (is_uint_width bits) (behind (behind f.1))));
    bound = λ old name t a b p q l us ws n.
        let g = q (suc l) us ws n in
        let f = p (suc l) _ _ (behind {t = tok.Reserved word.In} g.1) in
        let s = ty-fresh t _ _ (behind {t = tok.Symbol symbol.Equals} f.1) in
        let r = lower name (behind {t = tok.Symbol symbol.Colon} s.1) in
        by_node (λ e. expr_written e l us) (λ at. X.Let at r.0 s.0 f.0 g.0) l old (λ at. expr-Let at r.0 s.0 f.0 g.0 l us) (expr-Let old name t a b l ws) (behind r.1);
    choice = λ old e cs p h l us ws n.
        let g = some_with-fresh (λ c. clause_written c (suc l)) (λ ds. at_level (suc l) (map clause_written ds)) refl (λ x xs. refl) comma cs
        (clauses-fresh (suc l) cs h) _ _ (behind {t = tok.Symbol symbol.CloseBrace} n) in
        let f = p (suc l) _ _ (behind {t = tok.Symbol symbol.OpenBrace} g.1) in
        by_node (λ d. expr_written d l us) (λ at. X.Match at f.0 g.0) l old (λ at. expr-Match at f.0 g.0 l us) (expr-Match old e cs l ws) (behind f.1);
  })

  -- Layouts, whose items have no numbers.

  each-steady : (ws : List Writing) → Each Steady ws → Steady (each ws)
  each-steady [] h us vs n = n
  each-steady (w ∷ ws) h us vs n = h.0 _ _ (each-steady ws h.1 us vs n)

  each_behind-steady : (separator : Token) (ws : List Writing) → Each Steady ws → Steady (each_behind separator ws)
  each_behind-steady separator [] h us vs n = n
  each_behind-steady separator (w ∷ ws) h us vs n = behind (h.0 _ _ (each_behind-steady separator ws h.1 us vs n))

  some_with-steady : (separator : Token) (ws : List Writing) → Each Steady ws → Steady (some_with separator ws)
  some_with-steady separator [] h us vs n = flawed n
  some_with-steady separator (w ∷ ws) h us vs n = h.0 _ _ (each_behind-steady separator ws h.1 us vs n)

  any_with-steady : (separator : Token) (ws : List Writing) → Each Steady ws → Steady (any_with separator ws)
  any_with-steady separator [] h us vs n = n
  any_with-steady separator (w ∷ ws) h us vs n = h.0 _ _ (each_behind-steady separator ws h.1 us vs n)

  map-steady : {A : Type 0} (w : A → Writing) → ((a : A) → Steady (w a)) → (xs : List A) → Each Steady (map w xs)
  map-steady w h [] = tt
  map-steady w h (x ∷ xs) = (h x, map-steady w h xs)

  range-steady : (o l : ℕ) → Steady (range_written o l)
  range-steady o l us ws n = behind (behind (behind (behind (behind n))))

  field-steady : (f : ℕ) → Steady (field_written f)
  field-steady f us ws n = behind (checked-numbered (nat_lt f (2 ^ 32)) (behind n))

  path-steady : (path : List ℕ) → Steady (path_written path)
  path-steady [] us ws n = flawed n
  path-steady (f ∷ fs) us ws n = field-steady f _ _ (each-steady _ (map-steady field_written field-steady fs) us ws n)

  step-steady : (s : Step) → Steady (loc_step_written s)
  step-steady s us ws n = behind (behind (behind (behind (behind (behind (range-steady s.o s.l us ws n))))))

  loc-steady : (loc : Loc) → Steady (loc_written loc)
  loc-steady loc us ws n = behind (range-steady loc.o loc.l _ _ (each-steady _ (map-steady loc_step_written step-steady loc.steps) us ws n))

  abbrev SteadyAt : Deep → Type 0
  SteadyAt w = (l : ℕ) → Steady (w l)

  parts-steady : (l : ℕ) (ps : List PartDecl) → Each (λ (p : PartDecl). SteadyAt (kind_written p.kind)) ps → Each Steady (at_level l (map part_written ps))
  parts-steady l [] h = tt
  parts-steady l (p ∷ ps) h =
      (λ us ws n. by_equations (part-is p l us) (part-is p l ws) (range-steady p.o p.l _ _ (h.0 l us ws n)), parts-steady l ps h.1)

  items-steady : (l : ℕ) (is : List LayItem) → Each (λ i. SteadyAt (lay_item_written i)) is → Each Steady (at_level l (map lay_item_written is))
  items-steady l [] h = tt
  items-steady l (i ∷ is) h = (h.0 l, items-steady l is h.1)

  lay_item-steady : (i : LayItem) → SteadyAt (lay_item_written i)
  lay_item-steady = item-induction (λ i. SteadyAt (lay_item_written i)) (λ q. SteadyAt (kind_written q)) (record {
    word = λ bits parts h l us ws n. by_equations (item-Word bits parts l us) (item-Word bits parts l ws)
        (behind (behind (behind (any_with-steady comma _ (parts-steady l parts h) _ _ (behind n)))));
    inline = λ path l us ws n. by_equations (item-Inline path l us) (item-Inline path l ws) (behind (path-steady path us ws n));
    const = λ c l us ws n. by_equations (kind-Const c l us) (kind-Const c l ws) (behind (behind n));
    whole = λ path l us ws n. by_equations (kind-Whole path l us) (kind-Whole path l ws) (path-steady path us ws n);
    slice = λ path first bits l us ws n. by_equations (kind-Slice path first bits l us) (kind-Slice path first bits l ws)
        (path-steady path _ _ (range-steady first bits us ws n));
    word_of = λ path j l us ws n. by_equations (kind-Word path j l us) (kind-Word path j l ws) (path-steady path _ _ (behind (behind n)));
    pointer = λ align is h l us ws n. by_equations (kind-Pointer align is l us) (kind-Pointer align is l ws)
        (in_node (behind (behind (behind (any_with-steady comma _ (items-steady (suc l) is h) _ _ (behind n))))));
  })

  arms-fresh : (l : ℕ) (bs : List ArmTree) → Each (λ (a : ArmTree). FreshAt split_written a.under) bs → Each (Fresh (λ a. arm_written a l)) bs
  arms-fresh l [] h = tt
  arms-fresh l (a ∷ bs) h = (
    λ us ws n.
        let r = h.0 l us ws n in
        let b : ArmTree = record { literal = a.literal; under = r.0 } in (b, by_equations (arm-is b l us) (arm-is a l ws) (behind (behind r.1))),
    arms-fresh l bs h.1,
  )

  each_arm-fresh : (l : ℕ) (bs : List ArmTree) → Each (λ (a : ArmTree). FreshAt split_written a.under) bs → Fresh (λ cs. each (at_level l (map arm_written cs))) bs
  each_arm-fresh l bs h = each-fresh (λ a. arm_written a l) (λ cs. at_level l (map arm_written cs)) refl (λ x xs. refl) bs (arms-fresh l bs h)

  tree-fresh : (t : SplitTree) → FreshAt split_written t
  tree-fresh = tree-induction (λ t. FreshAt split_written t) (record {
    split = λ loc arms h l us ws n.
        let f = each_arm-fresh (suc l) arms h _ _ (behind {t = tok.Symbol symbol.CloseBrace} n) in
        (S.Split loc f.0 None, by_equations (split-None loc f.0 l us) (split-None loc arms l ws) (in_node (behind (loc-steady loc _ _ (behind f.1)))));
    split_else = λ loc arms other h o l us ws n.
        let g = o (suc l) _ _ (behind {t = tok.Symbol symbol.CloseBrace} n) in
        let f = each_arm-fresh (suc l) arms h _ _ (behind {t = tok.Reserved word.Else} (behind {t = tok.Symbol symbol.FatArrow} g.1)) in
        (S.Split loc f.0 (Some g.0), by_equations (split-Some loc f.0 g.0 l us) (split-Some loc arms other l ws) (in_node (behind (loc-steady loc _ _ (behind f.1)))));
    leaf = λ old prov items l us ws n.
        let i = some_with-steady comma _ (map-steady (λ (i : LayItem). lay_item_written i (suc l)) (λ i. lay_item-steady i (suc l)) items) _ _
        (behind {t = tok.Symbol symbol.CloseBrace} n) in
        let p = prov-fresh prov (suc l) _ _ (behind {t = tok.Symbol symbol.Colon} (behind {t = tok.Symbol symbol.OpenBrace} i)) in
        by_node (λ t. split_written t l us) (λ at. S.Leaf at p.0 items) l old (λ at. split-Leaf at p.0 items l us) (split-Leaf old prov items l ws) p.1;
  })

  -- Items and files.

  item-fresh : (i : ItemTree) → Fresh item_written i
  item-fresh (top.Types t) us ws n =
      let f = some_with-fresh con_written (λ cs. map con_written cs) refl (λ x xs. refl) bar t.cons (each-all con-fresh t.cons) _ _ (behind {t = tok.Symbol symbol.Semicolon} n) in
      let r = upper t.name (behind {t = tok.Symbol symbol.Equals} f.1) in
      (top.Types (record { name = r.0; cons = f.0 }), behind r.1)
  item-fresh (top.Layouts t) us ws n =
      let g = tree-fresh t.tree 1 _ _ (behind {t = tok.Symbol symbol.Semicolon} n) in
      let f = some_with-steady comma _ (map-steady width_written (λ b vs xs m. behind m) t.shape) _ _
      (behind {t = tok.Symbol symbol.Greater} (behind {t = tok.Symbol symbol.Equals} g.1)) in
      let r = upper t.ty (behind {t = tok.Symbol symbol.Less} f) in
      let a = at_number t.at (behind {t = tok.Reserved word.Layout} r.1) in
      (top.Layouts (record { at = a.0; ty = r.0; shape = t.shape; tree = g.0 }), a.1)
  item-fresh (top.Funs f) us ws n =
      let b = expression-fresh f.body 1 _ _ (behind {t = tok.Symbol symbol.Semicolon} n) in
      let t = ty-fresh f.result _ _ (behind {t = tok.Symbol symbol.Equals} b.1) in
      let p = any_with-fresh param_written (λ ps. map param_written ps) refl (λ x xs. refl) comma f.params (each-all param-fresh f.params) _ _
      (behind {t = tok.Symbol symbol.CloseParen} (behind {t = tok.Symbol symbol.Colon} t.1)) in
      let r = lower f.name (behind {t = tok.Symbol symbol.OpenParen} p.1) in
      (top.Funs (record { name = r.0; params = p.0; result = t.0; body = b.0 }), behind r.1)
  item-fresh (top.Derived name a) us ws n =
      let r = upper name (behind {t = tok.Symbol symbol.Equals} (behind {t = tok.Reserved (auto_word a)} (behind {t = tok.Symbol symbol.Semicolon} n))) in
      (top.Derived r.0 a, behind r.1)

  file-fresh : (file : FileTree) → (new : FileTree) × Numbered (file_written new) (file_written file)
  file-fresh file =
      let f = each-fresh item_written (λ is. map item_written is) refl (λ x xs. refl) file.items (each-all item-fresh file.items) [] [] (record { same = refl; numbered = tt }) in
      (record { items = f.0 }, f.1)

-- What is spelled is spelled by a tree that is numbered rightly, with the same nodes.
pub renumbered : (ts : List Token) (file : FileTree) → spell file ≡ ts → HaveNoFlaw (file_written file)
    → (new : FileTree) × IsTreeOf ts new × ((level at : ℕ) → HasNode (length ts) level at (file_written file) → HasNode (length ts) level at (file_written new))
renumbered ts file e h =
    let f = file-fresh (length ts) file in
    let new : List Written = file_written f.0 in
    let old : List Written = file_written file in
    let same : bare new ≡ bare old = f.1.same in
    let s : tokens_in new ≡ ts = sym (tokens-bare new) ∙ ap tokens_in same ∙ tokens-bare old ∙ e in
    let h' : HaveNoFlaw (bare old) = rw (formed-bare old) h in
    let g : HaveNoFlaw new = rw⁻¹ (formed-bare new) (rw same h') in (
      f.0,
      record { spells = s; formed = g; numbered = f.1.numbered },
      λ level at n.
          let n' : HasNode (length ts) level at (bare old) = rw (node-bare (length ts) level at old) n in
          rw⁻¹ (node-bare (length ts) level at new) (rw same n'),
    )
