-- Expressions of a file that was read are well numbered, and the numbers of their matches rise.
use Rattle.std.proofs.Common.{◌≡◌, ℕ, suc, ◌+◌, ◌^◌, ◌<◌, ◌≤◌, List, [], ◌∷◌, ◌++◌, map, length, Bool, true, false, ◌||◌, nat_lt, nat_eq, if◌then◌else◌, cond, Option, Some, Ok, refl, sym, ◌∙◌, ap, subst, arith}
use Rattle.std.proofs.lemmas.Bool.{and_from, or_right}
use Rattle.std.proofs.lemmas.Grind.{common_steps}
use Rattle.std.proofs.lemmas.List.Folds.{list_any-append}
use Rattle.std.proofs.lemmas.Slice.Eq.{bytes_eq-Decides}
use Rattle.std.specs.List.{list_any}
use Rattle.std.specs.Str.{bytes_eq}
use Rattle.rb_core.specs.declared.types.Ty.TheVariants as core_ty
use Rattle.rb_core.specs.declared.types.ConRef.{ConRef}
use Rattle.rb_core.specs.declared.types.DataDecl.{DataDecl}
use Rattle.rb_core.specs.declared.program.Fun.{Fun}
use Rattle.rb_core.specs.declared.pattern.Pat.{Pat}
use Rattle.rb_core.specs.declared.expression.Op.{Op}
use Rattle.rb_core.specs.declared.expression.Clause.{Clause}
use Rattle.rb_core.specs.declared.expression.Expr.{Expr}
use Rattle.rb_core.specs.declared.expression.Expr as C
use Rattle.rb_core.specs.declared.expression.Expr.TheOpen as E
use Rattle.rb_core.specs.declared.expression.Expr.TheOpen.{Expr-F}
use Rattle.rb_core.specs.declared.expression.Expr.TheFolds.{fold-Clause, fold-roll-Expr, fold_out-Clause}
use Rattle.rb_core.specs.Layouts.{is_short}
use Rattle.rb_core.specs.WellNumbered.{is_constructor, all_within, all_tokens, expression_is_numbered, tokens_step, body_tokens, match_tokens, vars_of}
use Rattle.rb_core.proofs.NumberedForms.{clause_numbered, clause_numbered-is, numbered-is}
use Rattle.rb_syntax.specs.declared.token.Token.{Token}
use Rattle.rb_syntax.specs.declared.token.Token.TheVariants as tok
use Rattle.rb_syntax.specs.declared.token.ReservedWord.TheVariants as word
use Rattle.rb_syntax.specs.declared.token.Symbol.TheVariants as symbol
use Rattle.rb_syntax.specs.declared.tree.NameTree.{NameTree}
use Rattle.rb_syntax.specs.declared.tree.TyTree.{TyTree}
use Rattle.rb_syntax.specs.declared.tree.TyTree.TheVariants as ty
use Rattle.rb_syntax.specs.declared.tree.PatTree.{PatTree}
use Rattle.rb_syntax.specs.declared.tree.ClauseTree.{ClauseTree}
use Rattle.rb_syntax.specs.declared.tree.ExprTree.{ExprTree}
use Rattle.rb_syntax.specs.declared.tree.ExprTree as X
use Rattle.rb_syntax.specs.Written.{Written, Writing, token, number, node, tokens_in, each_behind, any_with, some_with}
use Rattle.rb_syntax.specs.Spelling.{fields_written, op_word, word_token, ty_written, uint_written, pat_written, expr_written, clause_written}
use Rattle.rb_syntax.proofs.SpellingLemmas as spelled
use Rattle.rb_syntax.proofs.ExpressionInduction.{Each, EachBody, induction}
use Rattle.rb_names.specs.declared.tables.Tables.{Tables}
use Rattle.rb_names.specs.Tables.{Name, meaning}
use Rattle.rb_names.specs.Scopes.{Scope, inside, with_name, with_names, names_in, binders_of}
use Rattle.rb_names.specs.Numbering.{name_found, Numbered, Numbering, in_turn, numbered_type, numbered_pattern, numbered_expression}
use Rattle.rb_names.specs.inner.Parts.{numbered_clause}
use Rattle.rb_names.proofs.ExpressionEquations as numbering
use Rattle.rb_names.proofs.Rising.{Rise, rise-wider, rise-append, Right, place}
use Rattle.rb_names.proofs.Inverting.{then-ok, known-ok, made-is}
use Rattle.rb_names.proofs.WellTypes.{TypeWell, type-well}
use Rattle.rb_names.proofs.WellPatterns.{at_level-map, any-left, any-right, or-cases, length-map, short-list, moved, PatternWell, pattern-well}

abbrev comma : Token
comma = tok.Symbol symbol.Comma

-- each name of the scope stands for one of these variables
abbrev pub Covers : Scope → List ℕ → Type 0
Covers scope xs = (name : Name) (x : ℕ) → meaning scope name ≡ Some x → list_any (nat_eq x) xs ≡ true

cond-cases : (Q : Type 0) (b : Bool) (o p : Option ℕ) (x : ℕ) → cond b o p ≡ Some x → (o ≡ Some x → Q) → (p ≡ Some x → Q) → Q
cond-cases Q true o p x e h k = h e
cond-cases Q false o p x e h k = k e

pub some-same : (x y : ℕ) → (let o : Option ℕ = Some x in o) ≡ Some y → x ≡ y
some-same x y e = cc

pub or-left-here : (n : ℕ) (b : Bool) → (nat_eq n n || b) ≡ true
or-left-here n b = let e : nat_eq n n ≡ true = grind (arith, common_steps) in rw e refl

abbrev pub named_so : Name → List Name → Bool
named_so name names = list_any (λ n. bytes_eq n name) names

bytes_eq-turned : (a b : Name) → bytes_eq a b ≡ false → bytes_eq b a ≡ false
bytes_eq-turned a b e = by_test (bytes_eq b a) refl where
  by_test : (c : Bool) → bytes_eq b a ≡ c → bytes_eq b a ≡ false
  by_test true h =
      let same : b ≡ a = (bytes_eq-Decides b a).0 h in
      let k : bytes_eq a b ≡ true = (bytes_eq-Decides a b).1 (sym same) in absurd cc
  by_test false h = h

-- a name that is bound by none of these stands for what it stood for outside
pub inside-other : (names : List Name) (n : ℕ) (scope : Scope) (name : Name) → named_so name names ≡ false → meaning (inside names n scope) name ≡ meaning scope name
inside-other [] n scope name e = refl
inside-other (x ∷ xs) n scope name e =
    or-false (bytes_eq x name) (named_so name xs) e (λ a b. inside-other xs (suc n) ((x, n) ∷ scope) name b ∙ other-key x n scope name a) where
      other-key : (x : Name) (n : ℕ) (scope : Scope) (name : Name) → bytes_eq x name ≡ false → meaning ((x, n) ∷ scope) name ≡ meaning scope name
      other-key x n scope name a = rw (bytes_eq-turned x name a) refl

      or-false : {Q : Type 0} (a b : Bool) → (a || b) ≡ false → (a ≡ false → b ≡ false → Q) → Q
      or-false true b e k = absurd cc
      or-false false b e k = k refl e

or-none : (b : Bool) → (b || false) ≡ b
or-none true = refl
or-none false = refl

-- binders are names of the pattern
with_name-only : (seen : List Name) (x name : Name) → named_so name (with_name seen x) ≡ true → (named_so name seen || bytes_eq x name) ≡ true
with_name-only seen x name e = by_test (list_any (λ n. bytes_eq n x) seen) refl where
  by_test : (b : Bool) → list_any (λ n. bytes_eq n x) seen ≡ b → (named_so name seen || bytes_eq x name) ≡ true
  by_test true h = let k : named_so name seen ≡ true = subst (λ (b : Bool). named_so name (if b then seen else seen ++ x ∷ []) ≡ true) h e in rw k refl
  by_test false h =
      let k : named_so name (seen ++ x ∷ []) ≡ true = subst (λ (b : Bool). named_so name (if b then seen else seen ++ x ∷ []) ≡ true) h e in
      ap (λ b. named_so name seen || b) (sym (or-none (bytes_eq x name))) ∙ sym (list_any-append (λ n. bytes_eq n name) seen (x ∷ [])) ∙ k

pub with_names-only : (ns seen : List Name) (name : Name) → named_so name (with_names seen ns) ≡ true → (named_so name seen || named_so name ns) ≡ true
with_names-only [] seen name e = rw e refl
with_names-only (x ∷ xs) seen name e =
    or-cases _ (named_so name (with_name seen x)) (named_so name xs) (with_names-only xs (with_name seen x) name e)
    (λ h. or-cases _ (named_so name seen) (bytes_eq x name) (with_name-only seen x name h) (λ k. rw k refl)
    (λ k. or_right (named_so name seen) (bytes_eq x name || named_so name xs) (rw k refl)))
    (λ h. or_right (named_so name seen) (bytes_eq x name || named_so name xs) (or_right (bytes_eq x name) (named_so name xs) h))

binders-only : (p : PatTree) (name : Name) → named_so name (names_in p) ≡ false → named_so name (binders_of p) ≡ false
binders-only p name e = by_test (named_so name (binders_of p)) refl where
  by_test : (b : Bool) → named_so name (binders_of p) ≡ b → named_so name (binders_of p) ≡ false
  by_test true h = let k : named_so name (names_in p) ≡ true = with_names-only (names_in p) [] name h in absurd cc
  by_test false h = h

module _ (types : List DataDecl) (funs : List Fun) where
  abbrev clause_tokens : Clause → List ℕ
  clause_tokens = fold-Clause (List ℕ) (List ℕ) tokens_step body_tokens

  tokens-are : (e : Expr-F Expr Clause) → match_tokens (C.roll-Expr e) ≡ tokens_step (C.map-Expr Expr Clause (List ℕ) (List ℕ) match_tokens clause_tokens e)
  tokens-are e = fold-roll-Expr (List ℕ) (List ℕ) tokens_step body_tokens e

  clause-tokens-are : (c : Clause) → clause_tokens c ≡ match_tokens c.body
  clause-tokens-are c = fold_out-Clause (List ℕ) (List ℕ) tokens_step body_tokens c

module _ (total : ℕ) (small : total < 2 ^ 32) (types : List DataDecl) (funs : List Fun) (t : Tables)
    (known_type : (name : Name) (n : ℕ) → meaning t.types name ≡ Some n → nat_lt n (length types) ≡ true)
    (known_con : (name : Name) (c : ConRef) → meaning t.constructors name ≡ Some c → is_constructor types c ≡ true)
    (known_fun : (name : Name) (f : ℕ) → meaning t.functions name ≡ Some f → nat_lt f (length funs) ≡ true) where
  -- what is numbered between two places of the file
  pub record Fine (xs : List ℕ) (lo hi : ℕ) (e : Expr) : Type 0 where
    pub numbered : expression_is_numbered types funs e xs ≡ true
    pub rises : Rise lo hi (match_tokens e)

  abbrev at_expr : ℕ → ExprTree → Writing
  at_expr l e rest = expr_written e l rest

  pub record ExprWell (e : ExprTree) (l : ℕ) (rest : List Written) : Type 0 where
    pub right : Right total rest
    pub shorter : length (tokens_in rest) < length (tokens_in (at_expr l e rest))
    pub well : (scope : Scope) (next : ℕ) (r : Numbered Expr) (xs : List ℕ) → numbered_expression t e scope next ≡ Ok r → Covers scope xs
        → Fine xs (place total (at_expr l e rest)) (place total rest) r.what

  abbrev Well : ExprTree → Type 0
  Well e = (l : ℕ) (rest : List Written) → Right total (at_expr l e rest) → ExprWell e l rest

  -- expressions one after the other
  record ArgsWell (es : List ExprTree) (ws rest : List Written) : Type 0 where
    right : Right total rest
    count : length es + length (tokens_in rest) ≤ length (tokens_in ws)
    well : (scope : Scope) (next : ℕ) (rs : Numbered (List Expr)) (xs : List ℕ) → in_turn (map (numbered_expression t) es) scope next ≡ Ok rs → Covers scope xs
        → (length rs.what ≡ length es) × (all_within (map (expression_is_numbered types funs) rs.what) xs ≡ true) × Rise (place total ws) (place total rest) (all_tokens (map match_tokens rs.what))

  two-found : {A : Type 0} (p : Numbering A) (ps : List (Numbering A)) (scope : Scope) (next : ℕ) (all : Numbered (List A)) → in_turn (p ∷ ps) scope next ≡ Ok all
      → (x : Numbered A) × (xs : Numbered (List A)) × (p scope next ≡ Ok x) × (in_turn ps scope x.next ≡ Ok xs) × (x.what ∷ xs.what ≡ all.what)
  two-found p ps scope next all e =
      let a = then-ok (p scope next) _ all e in
      let b = then-ok (in_turn ps scope a.0.next) _ all a.2 in
      (a.0, b.0, a.1, b.1, made-is (a.0.what ∷ b.0.what) b.0.next all b.2)

  args-behind : (es : List ExprTree) → Each Well es → (l : ℕ) (rest : List Written) → Right total (each_behind comma (map (at_expr l) es) rest)
      → ArgsWell es (each_behind comma (map (at_expr l) es) rest) rest
  args-behind [] h l rest r = record {
    right = r;
    count = omega arith;
    well = λ scope next rs xs e c. let same : [] ≡ rs.what = made-is [] next rs e in rw (← same) (refl, refl, omega arith);
  }
  args-behind (a ∷ es) h l rest r =
      let behind : List Written = each_behind comma (map (at_expr l) es) rest in
      let f : ExprWell a l behind = h.0 l behind (record { formed = r.formed; numbers = r.numbers; fits = omega (arith, r.fits) }) in
      let g : ArgsWell es behind rest = args-behind es h.1 l rest f.right in record {
        right = g.right;
        count = omega (arith, g.count, f.shorter);
        well = λ scope next rs xs e c.
            let two = two-found (numbered_expression t a) (map (numbered_expression t) es) scope next rs e in
            let v = f.well scope next two.0 xs two.2 c in
            let w = g.well scope two.0.next two.1 xs two.3 c in
            rw (← two.4) (
              ap suc w.0,
              and_from _ _ v.numbered w.1,
              rise-append _ (place total behind) _ (match_tokens two.0.what) _ (rise-wider _ _ _ _ (match_tokens two.0.what) (omega arith) (omega arith) v.rises) w.2,
            );
      }

  args-any : (es : List ExprTree) → Each Well es → (l : ℕ) (rest : List Written) → Right total (any_with comma (map (at_expr l) es) rest)
      → ArgsWell es (any_with comma (map (at_expr l) es) rest) rest
  args-any [] h l rest r = args-behind [] h l rest r
  args-any (a ∷ es) h l rest r =
      let behind : List Written = each_behind comma (map (at_expr l) es) rest in
      let f : ExprWell a l behind = h.0 l behind r in
      let g : ArgsWell es behind rest = args-behind es h.1 l rest f.right in record {
        right = g.right;
        count = omega (arith, g.count, f.shorter);
        well = λ scope next rs xs e c.
            let two = two-found (numbered_expression t a) (map (numbered_expression t) es) scope next rs e in
            let v = f.well scope next two.0 xs two.2 c in
            let w = g.well scope two.0.next two.1 xs two.3 c in
            rw (← two.4) (ap suc w.0, and_from _ _ v.numbered w.1, rise-append _ (place total behind) _ (match_tokens two.0.what) _ v.rises w.2);
      }

  -- what stands in front of them moves no place back
  args-wider : (es : List ExprTree) (us ws vs rest : List Written) → length (tokens_in ws) ≤ length (tokens_in us) → length (tokens_in rest) ≤ length (tokens_in vs) → Right total rest
      → ArgsWell es ws vs → ArgsWell es us rest
  args-wider es us ws vs rest h k r a = record {
    right = r;
    count = omega (arith, a.count, h, k);
    well = λ scope next rs xs e c. let v = a.well scope next rs xs e c in
        (v.0, v.1, rise-wider _ _ _ _ (all_tokens (map match_tokens rs.what)) (omega (arith, h)) (omega (arith, k)) v.2);
  }

  args-fields : (es : List ExprTree) → Each Well es → (l : ℕ) (rest : List Written) → Right total (fields_written (map (at_expr l) es) rest)
      → ArgsWell es (fields_written (map (at_expr l) es) rest) rest
  args-fields [] h l rest r = args-behind [] h l rest r
  args-fields (a ∷ es) h l rest r =
      let close : List Written = token (tok.Symbol symbol.CloseParen) ∷ rest in
      let inner : List Written = any_with comma (map (at_expr l) (a ∷ es)) close in
      let g : ArgsWell (a ∷ es) inner close = args-any (a ∷ es) h l close (record { formed = r.formed; numbers = r.numbers; fits = omega (arith, r.fits) }) in
      args-wider (a ∷ es) _ inner close rest (omega arith) (omega arith)
      (record { formed = g.right.formed; numbers = g.right.numbers; fits = omega (arith, g.right.fits) }) g

  no-match : (ws rest : List Written) (e : Expr) → length (tokens_in rest) ≤ length (tokens_in ws) → match_tokens e ≡ [] → Rise (place total ws) (place total rest) (match_tokens e)
  no-match ws rest e h m = rw m (omega (arith, h))

  num-well : (at n : ℕ) → Well (X.Num at n)
  unfolding C.roll-Expr denote.Hole.Carrier.roll
  num-well at n l rest r =
      let s : Right total (node l ∷ number at ∷ token (tok.Num n) ∷ rest) = moved total small types t known_con (spelled.expr-Num at n l rest) r in
      let short : length (tokens_in rest) < length (tokens_in (at_expr l (X.Num at n) rest)) = rw (spelled.expr-Num at n l rest) (omega arith) in record {
        right = record { formed = s.formed; numbers = s.numbers.1; fits = omega (arith, s.fits) };
        shorter = short;
        well = λ scope next q xs e c.
            let same : C.Num at n ≡ q.what = made-is (C.Num at n) next q (sym (numbering.expr-Num t at n scope next) ∙ e) in
            rw (← same) (record { numbered = numbered-is types funs (E.Num at n) xs; rises = no-match (at_expr l (X.Num at n) rest) rest (C.Num at n) (omega (arith, short)) (tokens-are types funs (E.Num at n)) });
      }

  var-well : (at : ℕ) (v : NameTree) → Well (X.Var at v)
  unfolding C.roll-Expr denote.Hole.Carrier.roll
  var-well at v l rest r =
      let s : Right total (node l ∷ number at ∷ number v.at ∷ token (tok.Lower v.text) ∷ rest) = moved total small types t known_con (spelled.expr-Var at v l rest) r in
      let short : length (tokens_in rest) < length (tokens_in (at_expr l (X.Var at v) rest)) = rw (spelled.expr-Var at v l rest) (omega arith) in record {
        right = record { formed = s.formed; numbers = s.numbers.1.1; fits = omega (arith, s.fits) };
        shorter = short;
        well = λ scope next q xs e c.
            let f = then-ok (name_found v (meaning scope v.text)) _ q (sym (numbering.expr-Var t at v scope next) ∙ e) in
            let same : C.Var at f.0 ≡ q.what = made-is (C.Var at f.0) next q f.2 in
            rw (← same) (record {
              numbered = numbered-is types funs (E.Var at f.0) xs ∙ c v.text f.0 (known-ok v (meaning scope v.text) f.0 f.1);
              rises = no-match (at_expr l (X.Var at v) rest) rest (C.Var at f.0) (omega (arith, short)) (tokens-are types funs (E.Var at f.0));
            });
      }

  call-written : (at : ℕ) (x : NameTree) (es : List ExprTree) (l : ℕ) (rest : List Written) → expr_written (X.Call at x es) l rest
      ≡ node l ∷ number at ∷ number x.at ∷ token (tok.Lower x.text) ∷ token (tok.Symbol symbol.OpenParen)
      ∷ any_with comma (map (at_expr (suc l)) es) (token (tok.Symbol symbol.CloseParen) ∷ rest)
  call-written at x es l rest = spelled.expr-Call at x es l rest
      ∙ ap (λ ws. node l ∷ number at ∷ number x.at ∷ token (tok.Lower x.text) ∷ token (tok.Symbol symbol.OpenParen)
      ∷ any_with comma ws (token (tok.Symbol symbol.CloseParen) ∷ rest)) (at_level-map expr_written (suc l) es)

  build-written : (at : ℕ) (x : NameTree) (es : List ExprTree) (l : ℕ) (rest : List Written) → expr_written (X.Build at x es) l rest
      ≡ node l ∷ number at ∷ number x.at ∷ token (tok.Upper x.text) ∷ fields_written (map (at_expr (suc l)) es) rest
  build-written at x es l rest = spelled.expr-Build at x es l rest
      ∙ ap (λ ws. node l ∷ number at ∷ number x.at ∷ token (tok.Upper x.text) ∷ fields_written ws rest) (at_level-map expr_written (suc l) es)

  short-args : (es : List ExprTree) (ws rest : List Written) (xs : List Expr) → length xs ≡ length es → length es + length (tokens_in rest) ≤ length (tokens_in ws) → length (tokens_in ws) ≤ total
      → is_short (map (expression_is_numbered types funs) xs) ≡ true
  short-args es ws rest xs e h k = short-list total small types t known_con (map (expression_is_numbered types funs) xs) (length es)
      (length-map total small types t known_con (expression_is_numbered types funs) xs ∙ e) (omega (arith, h, k))

  call-well : (at : ℕ) (x : NameTree) (es : List ExprTree) → Each Well es → Well (X.Call at x es)
  unfolding C.roll-Expr denote.Hole.Carrier.roll
  call-well at x es h l rest r =
      let close : List Written = token (tok.Symbol symbol.CloseParen) ∷ rest in
      let vs : List Written = any_with comma (map (at_expr (suc l)) es) close in
      let us : List Written = node l ∷ number at ∷ number x.at ∷ token (tok.Lower x.text) ∷ token (tok.Symbol symbol.OpenParen) ∷ vs in
      let s : Right total us = moved total small types t known_con (call-written at x es l rest) r in
      let a : ArgsWell es vs close = args-any es h (suc l) close (record { formed = s.formed; numbers = s.numbers.1.1; fits = omega (arith, s.fits) }) in record {
        right = record { formed = a.right.formed; numbers = a.right.numbers; fits = omega (arith, a.right.fits) };
        shorter = rw (call-written at x es l rest) (omega (arith, a.count));
        well = λ scope next q xs e c.
            let f = then-ok (name_found x (meaning t.functions x.text)) _ q (sym (numbering.expr-Call t at x es scope next) ∙ e) in
            let g = then-ok (in_turn (map (numbered_expression t) es) scope next) _ q f.2 in
            let v = a.well scope next g.0 xs g.1 c in
            let same : C.Call at f.0 g.0.what ≡ q.what = made-is (C.Call at f.0 g.0.what) g.0.next q g.2 in
            rw (← same) (record {
              numbered = numbered-is types funs (E.Call at f.0 g.0.what) xs ∙ and_from _ _ (known_fun x.text f.0 (known-ok x (meaning t.functions x.text) f.0 f.1))
                  (and_from _ _ (short-args es vs close g.0.what v.0 a.count (omega (arith, s.fits))) v.1);
              rises = rw (call-written at x es l rest, tokens-are types funs (E.Call at f.0 g.0.what))
                  (rise-wider _ _ _ _ (all_tokens (map match_tokens g.0.what)) (omega arith) (omega arith) v.2);
            });
      }

  build-well : (at : ℕ) (x : NameTree) (es : List ExprTree) → Each Well es → Well (X.Build at x es)
  unfolding C.roll-Expr denote.Hole.Carrier.roll
  build-well at x es h l rest r =
      let vs : List Written = fields_written (map (at_expr (suc l)) es) rest in
      let us : List Written = node l ∷ number at ∷ number x.at ∷ token (tok.Upper x.text) ∷ vs in
      let s : Right total us = moved total small types t known_con (build-written at x es l rest) r in
      let a : ArgsWell es vs rest = args-fields es h (suc l) rest (record { formed = s.formed; numbers = s.numbers.1.1; fits = omega (arith, s.fits) }) in record {
        right = a.right;
        shorter = rw (build-written at x es l rest) (omega (arith, a.count));
        well = λ scope next q xs e c.
            let f = then-ok (name_found x (meaning t.constructors x.text)) _ q (sym (numbering.expr-Build t at x es scope next) ∙ e) in
            let g = then-ok (in_turn (map (numbered_expression t) es) scope next) _ q f.2 in
            let v = a.well scope next g.0 xs g.1 c in
            let same : C.Build at f.0 g.0.what ≡ q.what = made-is (C.Build at f.0 g.0.what) g.0.next q g.2 in
            rw (← same) (record {
              numbered = numbered-is types funs (E.Build at f.0 g.0.what) xs ∙ and_from _ _ (known_con x.text f.0 (known-ok x (meaning t.constructors x.text) f.0 f.1))
                  (and_from _ _ (short-args es vs rest g.0.what v.0 a.count (omega (arith, s.fits))) v.1);
              rises = rw (build-written at x es l rest, tokens-are types funs (E.Build at f.0 g.0.what))
                  (rise-wider _ _ _ _ (all_tokens (map match_tokens g.0.what)) (omega arith) (omega arith) v.2);
            });
      }

  binary-well : (at : ℕ) (o : Op) (a b : ExprTree) → Well a → Well b → Well (X.Binary at o a b)
  unfolding C.roll-Expr denote.Hole.Carrier.roll
  binary-well at o a b ha hb l rest r =
      let close : List Written = token (tok.Symbol symbol.CloseParen) ∷ rest in
      let ws : List Written = at_expr (suc l) b close in
      let vs : List Written = at_expr (suc l) a (token comma ∷ ws) in
      let s : Right total (node l ∷ number at ∷ word_token (op_word o) ∷ token (tok.Symbol symbol.OpenParen) ∷ vs) = moved total small types t known_con (spelled.expr-Binary at o a b l rest) r in
      let f : ExprWell a (suc l) (token comma ∷ ws) = ha (suc l) (token comma ∷ ws) (record { formed = s.formed; numbers = s.numbers.1; fits = omega (arith, s.fits) }) in
      let g : ExprWell b (suc l) close = hb (suc l) close (record { formed = f.right.formed; numbers = f.right.numbers; fits = omega (arith, f.right.fits) }) in record {
        right = record { formed = g.right.formed; numbers = g.right.numbers; fits = omega (arith, g.right.fits) };
        shorter = rw (spelled.expr-Binary at o a b l rest) (omega (arith, f.shorter, g.shorter));
        well = λ scope next q xs e c.
            let i = then-ok (numbered_expression t a scope next) _ q (sym (numbering.expr-Binary t at o a b scope next) ∙ e) in
            let j = then-ok (numbered_expression t b scope i.0.next) _ q i.2 in
            let v = f.well scope next i.0 xs i.1 c in
            let w = g.well scope i.0.next j.0 xs j.1 c in
            let same : C.Binary at o i.0.what j.0.what ≡ q.what = made-is (C.Binary at o i.0.what j.0.what) j.0.next q j.2 in
            rw (← same) (record {
              numbered = numbered-is types funs (E.Binary at o i.0.what j.0.what) xs ∙ and_from _ _ v.numbered w.numbered;
              rises = rw (spelled.expr-Binary at o a b l rest, tokens-are types funs (E.Binary at o i.0.what j.0.what))
                  (rise-append _ (place total ws) _ (match_tokens i.0.what) (match_tokens j.0.what)
                  (rise-wider _ _ _ _ (match_tokens i.0.what) (omega arith) (omega arith) v.rises)
                  (rise-wider _ _ _ _ (match_tokens j.0.what) (omega arith) (omega arith) w.rises));
            });
      }

  to-well : (at bits : ℕ) (a : ExprTree) → Well a → Well (X.To at bits a)
  unfolding C.roll-Expr denote.Hole.Carrier.roll
  to-well at bits a ha l rest r =
      let close : List Written = token (tok.Symbol symbol.CloseParen) ∷ rest in
      let vs : List Written = at_expr (suc l) a close in
      let us : List Written = token (tok.Symbol symbol.OpenParen) ∷ vs in
      let s : Right total (node l ∷ number at ∷ word_token word.To ∷ uint_written bits us) = moved total small types t known_con (spelled.expr-To at bits a l rest) r in
      let k : TypeWell total types t known_type (ty.Int bits) us = type-well total types t known_type (ty.Int bits) us (record { formed = s.formed; numbers = s.numbers.1; fits = omega (arith, s.fits) }) in
      let f : ExprWell a (suc l) close = ha (suc l) close (record { formed = k.right.formed; numbers = k.right.numbers; fits = omega (arith, k.right.fits) }) in record {
        right = record { formed = f.right.formed; numbers = f.right.numbers; fits = omega (arith, f.right.fits) };
        shorter = rw (spelled.expr-To at bits a l rest) (omega (arith, f.shorter, k.shorter));
        well = λ scope next q xs e c.
            let i = then-ok (numbered_expression t a scope next) _ q (sym (numbering.expr-To t at bits a scope next) ∙ e) in
            let v = f.well scope next i.0 xs i.1 c in
            let same : C.To at bits i.0.what ≡ q.what = made-is (C.To at bits i.0.what) i.0.next q i.2 in
            rw (← same) (record {
              numbered = numbered-is types funs (E.To at bits i.0.what) xs ∙ and_from _ _ (k.well (core_ty.Int bits) refl) v.numbered;
              rises = rw (spelled.expr-To at bits a l rest, tokens-are types funs (E.To at bits i.0.what))
                  (rise-wider _ _ _ _ (match_tokens i.0.what) (omega (arith, k.shorter)) (omega arith) v.rises);
            });
      }

  -- inside one more binder
  covers-one : (scope : Scope) (xs : List ℕ) (name : Name) (n : ℕ) → Covers scope xs → Covers ((name, n) ∷ scope) (n ∷ xs)
  covers-one scope xs name n c other x m = cond-cases _ (bytes_eq other name) (Some n) (meaning scope other) x m
      (λ e. subst (λ (y : ℕ). (nat_eq y n || list_any (nat_eq y) xs) ≡ true) (some-same n x e) (or-left-here n (list_any (nat_eq n) xs)))
      (λ e. or_right (nat_eq x n) (list_any (nat_eq x) xs) (c other x e))

  let-well : (at : ℕ) (x : NameTree) (u : TyTree) (a b : ExprTree) → Well a → Well b → Well (X.Let at x u a b)
  unfolding C.roll-Expr denote.Hole.Carrier.roll
  let-well at x u a b ha hb l rest r =
      let ws : List Written = at_expr (suc l) b rest in
      let inner : List Written = word_token word.In ∷ ws in
      let vs : List Written = at_expr (suc l) a inner in
      let us : List Written = token (tok.Symbol symbol.Equals) ∷ vs in
      let s : Right total (node l ∷ number at ∷ word_token word.Let ∷ number x.at ∷ token (tok.Lower x.text) ∷ token (tok.Symbol symbol.Colon) ∷ ty_written u us)
      = moved total small types t known_con (spelled.expr-Let at x u a b l rest) r in
      let k : TypeWell total types t known_type u us = type-well total types t known_type u us (record { formed = s.formed; numbers = s.numbers.1.1; fits = omega (arith, s.fits) }) in
      let f : ExprWell a (suc l) inner = ha (suc l) inner (record { formed = k.right.formed; numbers = k.right.numbers; fits = omega (arith, k.right.fits) }) in
      let g : ExprWell b (suc l) rest = hb (suc l) rest (record { formed = f.right.formed; numbers = f.right.numbers; fits = omega (arith, f.right.fits) }) in record {
        right = g.right;
        shorter = rw (spelled.expr-Let at x u a b l rest) (omega (arith, f.shorter, g.shorter, k.shorter));
        well = λ scope next q xs e c.
            let h = then-ok (numbered_type t u) _ q (sym (numbering.expr-Let t at x u a b scope next) ∙ e) in
            let i = then-ok (numbered_expression t a scope (suc next)) _ q h.2 in
            let j = then-ok (numbered_expression t b ((x.text, next) ∷ scope) i.0.next) _ q i.2 in
            let v = f.well scope (suc next) i.0 xs i.1 c in
            let w = g.well ((x.text, next) ∷ scope) i.0.next j.0 (next ∷ xs) j.1 (covers-one scope xs x.text next c) in
            let same : C.Let at next h.0 i.0.what j.0.what ≡ q.what = made-is (C.Let at next h.0 i.0.what j.0.what) j.0.next q j.2 in
            rw (← same) (record {
              numbered = numbered-is types funs (E.Let at next h.0 i.0.what j.0.what) xs ∙ and_from _ _ (k.well h.0 h.1) (and_from _ _ v.numbered w.numbered);
              rises = rw (spelled.expr-Let at x u a b l rest, tokens-are types funs (E.Let at next h.0 i.0.what j.0.what))
                  (rise-append _ (place total ws) _ (match_tokens i.0.what) (match_tokens j.0.what)
                  (rise-wider _ _ _ _ (match_tokens i.0.what) (omega (arith, k.shorter)) (omega arith) v.rises) w.rises);
            });
      }

  record ClauseWell (c : ClauseTree) (l : ℕ) (rest : List Written) : Type 0 where
    right : Right total rest
    shorter : length (tokens_in rest) < length (tokens_in (clause_written c l rest))
    well : (scope : Scope) (next : ℕ) (d : Numbered Clause) (xs : List ℕ) → numbered_clause t c scope next ≡ Ok d → Covers scope xs
        → (clause_numbered types funs d.what xs ≡ true) × Rise (place total (clause_written c l rest)) (place total rest) (clause_tokens types funs d.what)

  covers-inside : (p : PatTree) (q : Pat) (next : ℕ) (scope : Scope) (xs : List ℕ)
      → ((name : Name) (x : ℕ) → named_so name (names_in p) ≡ true → meaning (inside (binders_of p) next scope) name ≡ Some x → list_any (nat_eq x) (vars_of q) ≡ true)
      → Covers scope xs → Covers (inside (binders_of p) next scope) (vars_of q ++ xs)
  covers-inside p q next scope xs binds c name x m = by_test (named_so name (names_in p)) refl where
    by_test : (b : Bool) → named_so name (names_in p) ≡ b → list_any (nat_eq x) (vars_of q ++ xs) ≡ true
    by_test true h = any-left (nat_eq x) (vars_of q) xs (binds name x h m)
    by_test false h = any-right (nat_eq x) (vars_of q) xs (c name x (sym (inside-other (binders_of p) next scope name (binders-only p name h)) ∙ m))

  clause-well : (c : ClauseTree) → Well c.body → (l : ℕ) (rest : List Written) → Right total (clause_written c l rest) → ClauseWell c l rest
  clause-well c h l rest r =
      let ws : List Written = at_expr l c.body rest in
      let arrow : List Written = token (tok.Symbol symbol.FatArrow) ∷ ws in
      let s : Right total (pat_written c.pat l arrow) = moved total small types t known_con (spelled.clause-is c l rest) r in
      let p : PatternWell total small types t known_con c.pat l arrow = pattern-well total small types t known_con c.pat l arrow s in
      let f : ExprWell c.body l rest = h l rest (record { formed = p.right.formed; numbers = p.right.numbers; fits = omega (arith, p.right.fits) }) in record {
        right = f.right;
        shorter = rw (spelled.clause-is c l rest) (omega (arith, f.shorter, p.shorter));
        well = λ scope next d xs e k.
            let inner : Scope = inside (binders_of c.pat) next scope in
            let i = then-ok (numbered_pattern t inner c.pat) _ d (sym (ap (λ (g : Numbering Clause). g scope next) (numbering.clause-is t c)) ∙ e) in
            let j = then-ok (numbered_expression t c.body inner (next + length (binders_of c.pat))) _ d i.2 in
            let w = p.well inner i.0 i.1 in
            let v = f.well inner (next + length (binders_of c.pat)) j.0 (vars_of i.0 ++ xs) j.1 (covers-inside c.pat i.0 next scope xs w.binds k) in
            let made : Clause = record { pat = i.0; body = j.0.what } in
            let same : made ≡ d.what = made-is made j.0.next d j.2 in
            rw (← same) (
              clause_numbered-is types funs made xs ∙ and_from _ _ w.numbered v.numbered,
              rw (spelled.clause-is c l rest, clause-tokens-are types funs made) (rise-wider _ _ _ _ (match_tokens j.0.what) (omega (arith, p.shorter)) (omega arith) v.rises),
            );
      }

  record ClausesWell (cs : List ClauseTree) (ws rest : List Written) : Type 0 where
    right : Right total rest
    count : length cs + length (tokens_in rest) ≤ length (tokens_in ws)
    well : (scope : Scope) (next : ℕ) (ds : Numbered (List Clause)) (xs : List ℕ) → in_turn (map (numbered_clause t) cs) scope next ≡ Ok ds → Covers scope xs
        → (length ds.what ≡ length cs) × (all_within (map (clause_numbered types funs) ds.what) xs ≡ true) × Rise (place total ws) (place total rest) (all_tokens (map (clause_tokens types funs) ds.what))

  abbrev at_clause : ℕ → ClauseTree → Writing
  at_clause l c rest = clause_written c l rest

  clauses-behind : (cs : List ClauseTree) → EachBody Well cs → (l : ℕ) (rest : List Written) → Right total (each_behind comma (map (at_clause l) cs) rest)
      → ClausesWell cs (each_behind comma (map (at_clause l) cs) rest) rest
  clauses-behind [] h l rest r = record {
    right = r;
    count = omega arith;
    well = λ scope next ds xs e c. let same : [] ≡ ds.what = made-is [] next ds e in rw (← same) (refl, refl, omega arith);
  }
  clauses-behind (a ∷ cs) h l rest r =
      let behind : List Written = each_behind comma (map (at_clause l) cs) rest in
      let f : ClauseWell a l behind = clause-well a h.0 l behind (record { formed = r.formed; numbers = r.numbers; fits = omega (arith, r.fits) }) in
      let g : ClausesWell cs behind rest = clauses-behind cs h.1 l rest f.right in record {
        right = g.right;
        count = omega (arith, g.count, f.shorter);
        well = λ scope next ds xs e c.
            let two = two-found (numbered_clause t a) (map (numbered_clause t) cs) scope next ds e in
            let v = f.well scope next two.0 xs two.2 c in
            let w = g.well scope two.0.next two.1 xs two.3 c in
            rw (← two.4) (
              ap suc w.0,
              and_from _ _ v.0 w.1,
              rise-append _ (place total behind) _ (clause_tokens types funs two.0.what) _ (rise-wider _ _ _ _ (clause_tokens types funs two.0.what) (omega arith) (omega arith) v.1) w.2,
            );
      }

  clauses-some : (cs : List ClauseTree) → EachBody Well cs → (l : ℕ) (rest : List Written) → Right total (some_with comma (map (at_clause l) cs) rest)
      → (0 < length cs) × ClausesWell cs (some_with comma (map (at_clause l) cs) rest) rest
  clauses-some [] h l rest r = absurd r.formed
  clauses-some (a ∷ cs) h l rest r =
      let behind : List Written = each_behind comma (map (at_clause l) cs) rest in
      let f : ClauseWell a l behind = clause-well a h.0 l behind r in
      let g : ClausesWell cs behind rest = clauses-behind cs h.1 l rest f.right in (
        omega arith,
        record {
          right = g.right;
          count = omega (arith, g.count, f.shorter);
          well = λ scope next ds xs e c.
              let two = two-found (numbered_clause t a) (map (numbered_clause t) cs) scope next ds e in
              let v = f.well scope next two.0 xs two.2 c in
              let w = g.well scope two.0.next two.1 xs two.3 c in
              rw (← two.4) (ap suc w.0, and_from _ _ v.0 w.1, rise-append _ (place total behind) _ (clause_tokens types funs two.0.what) _ v.1 w.2);
        },
      )

  match-written : (at : ℕ) (e : ExprTree) (cs : List ClauseTree) (l : ℕ) (rest : List Written) → expr_written (X.Match at e cs) l rest
      ≡ node l ∷ number at ∷ word_token word.Match ∷ expr_written e (suc l) (token (tok.Symbol symbol.OpenBrace)
      ∷ some_with comma (map (at_clause (suc l)) cs) (token (tok.Symbol symbol.CloseBrace) ∷ rest))
  match-written at e cs l rest = spelled.expr-Match at e cs l rest
      ∙ ap (λ ws. node l ∷ number at ∷ word_token word.Match ∷ expr_written e (suc l) (token (tok.Symbol symbol.OpenBrace)
      ∷ some_with comma ws (token (tok.Symbol symbol.CloseBrace) ∷ rest))) (at_level-map clause_written (suc l) cs)

  match-well : (at : ℕ) (a : ExprTree) (cs : List ClauseTree) → Well a → EachBody Well cs → Well (X.Match at a cs)
  unfolding C.roll-Expr denote.Hole.Carrier.roll
  match-well at a cs ha hs l rest r =
      let close : List Written = token (tok.Symbol symbol.CloseBrace) ∷ rest in
      let ws : List Written = some_with comma (map (at_clause (suc l)) cs) close in
      let inner : List Written = token (tok.Symbol symbol.OpenBrace) ∷ ws in
      let vs : List Written = at_expr (suc l) a inner in
      let us : List Written = node l ∷ number at ∷ word_token word.Match ∷ vs in
      let s : Right total us = moved total small types t known_con (match-written at a cs l rest) r in
      let f : ExprWell a (suc l) inner = ha (suc l) inner (record { formed = s.formed; numbers = s.numbers.1; fits = omega (arith, s.fits) }) in
      let some = clauses-some cs hs (suc l) close (record { formed = f.right.formed; numbers = f.right.numbers; fits = omega (arith, f.right.fits) }) in
      let g : ClausesWell cs ws close = some.1 in record {
        right = record { formed = g.right.formed; numbers = g.right.numbers; fits = omega (arith, g.right.fits) };
        shorter = rw (match-written at a cs l rest) (omega (arith, f.shorter, g.count));
        well = λ scope next q xs e c.
            let i = then-ok (numbered_expression t a scope next) _ q (sym (numbering.expr-Match t at a cs scope next) ∙ e) in
            let j = then-ok (in_turn (map (numbered_clause t) cs) scope i.0.next) _ q i.2 in
            let v = f.well scope next i.0 xs i.1 c in
            let w = g.well scope i.0.next j.0 xs j.1 c in
            let same : C.Match at i.0.what j.0.what ≡ q.what = made-is (C.Match at i.0.what j.0.what) j.0.next q j.2 in
            let many : length (map (clause_numbered types funs) j.0.what) ≡ length cs = length-map total small types t known_con (clause_numbered types funs) j.0.what ∙ w.0 in
            let some_there : nat_lt 0 (length (map (clause_numbered types funs) j.0.what)) ≡ true = let k : 0 < length (map (clause_numbered types funs) j.0.what) = omega (arith, many, some.0) in grind (arith, common_steps, k) in
            rw (← same) (record {
              numbered = numbered-is types funs (E.Match at i.0.what j.0.what) xs ∙ and_from _ _ v.numbered (and_from _ _ some_there
                  (and_from _ _ (short-list total small types t known_con (map (clause_numbered types funs) j.0.what) (length cs) many (omega (arith, g.count, f.shorter, s.fits))) w.1));
              rises = rw (match-written at a cs l rest, tokens-are types funs (E.Match at i.0.what j.0.what)) (
                omega (arith, s.numbers.0),
                rise-append _ (place total ws) _ (match_tokens i.0.what) (all_tokens (map (clause_tokens types funs) j.0.what))
                    (rise-wider _ _ _ _ (match_tokens i.0.what) (omega (arith, s.numbers.0, s.fits)) (omega arith) v.rises)
                    (rise-wider _ _ _ _ (all_tokens (map (clause_tokens types funs) j.0.what)) (omega arith) (omega arith) w.2),
              );
            });
      }

  pub expression-well : (e : ExprTree) → Well e
  expression-well = induction Well (record {
    num = num-well;
    var = var-well;
    call = call-well;
    build = build-well;
    binary = binary-well;
    to = to-well;
    bound = let-well;
    choice = match-well;
  })
