-- Patterns of a file that was read are well numbered.
use Rattle.std.proofs.Common.{◌≡◌, ℕ, suc, ◌+◌, ◌^◌, ◌<◌, ◌≤◌, List, [], ◌∷◌, ◌++◌, map, length, Bool, true, false, ◌&&◌, ◌||◌, nat_eq, Option, Some, Ok, refl, sym, ◌∙◌, ap, subst, arith}
use Rattle.std.proofs.lemmas.Bool.{and_from, or_left, or_right}
use Rattle.std.proofs.lemmas.Grind.{common_steps}
use Rattle.std.proofs.lemmas.List.Folds.{list_any-append}
use Rattle.std.proofs.lemmas.Slice.Eq.{bytes_eq-Decides}
use Rattle.std.specs.List.{list_any, list_all, flat_map}
use Rattle.std.specs.Str.{bytes_eq}
use Rattle.rb_core.specs.declared.types.ConRef.{ConRef}
use Rattle.rb_core.specs.declared.types.DataDecl.{DataDecl}
use Rattle.rb_core.specs.declared.pattern.Pat.{Pat}
use Rattle.rb_core.specs.declared.pattern.Pat as C
use Rattle.rb_core.specs.Layouts.{is_short}
use Rattle.rb_core.specs.WellNumbered.{is_constructor, pattern_is_numbered, numbered_pattern_step, vars_of, vars_step}
use Rattle.rb_core.proofs.PatternLaws.{fold-Wild, fold-Var, fold-Num, fold-Con}
use Rattle.rb_syntax.specs.declared.token.Token.{Token}
use Rattle.rb_syntax.specs.declared.token.Token.TheVariants as tok
use Rattle.rb_syntax.specs.declared.token.Symbol.TheVariants as symbol
use Rattle.rb_syntax.specs.declared.tree.NameTree.{NameTree}
use Rattle.rb_syntax.specs.declared.tree.PatTree.{PatTree}
use Rattle.rb_syntax.specs.declared.tree.PatTree as P
use Rattle.rb_syntax.specs.Written.{Written, Writing, token, number, node, tokens_in, each_behind}
use Rattle.rb_syntax.specs.Spelling.{Deep, at_level, fields_written, pat_written}
use Rattle.rb_syntax.proofs.SpellingLemmas.{pat-Wild, pat-Var, pat-Num, pat-Con}
use Rattle.rb_syntax.proofs.PatternInduction.{Each, induction}
use Rattle.rb_names.specs.declared.tables.Tables.{Tables}
use Rattle.rb_names.specs.Tables.{Name, meaning}
use Rattle.rb_names.specs.Scopes.{Scope, names_in}
use Rattle.rb_names.specs.Numbering.{Resolved, all_of, name_found, numbered_pattern}
use Rattle.rb_names.proofs.PatternEquations.{names-Wild, names-Var, names-Num, names-Con, pattern-Wild, pattern-Var, pattern-Num, pattern-Con}
use Rattle.rb_names.proofs.Rising.{Right}
use Rattle.rb_names.proofs.Inverting.{then-ok, known-ok, ok-is}

pub at_level-map : {A : Type 0} (w : A → Deep) (l : ℕ) (xs : List A) → at_level l (map w xs) ≡ map (λ x. w x l) xs
at_level-map w l [] = refl
at_level-map w l (x ∷ xs) = ap (λ ws. w x l ∷ ws) (at_level-map w l xs)

pub or-cases : (Q : Type 0) (a b : Bool) → (a || b) ≡ true → (a ≡ true → Q) → (b ≡ true → Q) → Q
or-cases Q true b e h k = h refl
or-cases Q false b e h k = k e

pub any-left : {A : Type 0} (test : A → Bool) (xs ys : List A) → list_any test xs ≡ true → list_any test (xs ++ ys) ≡ true
any-left test xs ys e = list_any-append test xs ys ∙ or_left _ _ e

pub any-right : {A : Type 0} (test : A → Bool) (xs ys : List A) → list_any test ys ≡ true → list_any test (xs ++ ys) ≡ true
any-right test xs ys e = list_any-append test xs ys ∙ or_right _ _ e

abbrev comma : Token
comma = tok.Symbol symbol.Comma

abbrev named_so : Name → List Name → Bool
named_so name names = list_any (λ n. bytes_eq n name) names

module _ (total : ℕ) (small : total < 2 ^ 32) (types : List DataDecl) (t : Tables)
    (known_con : (name : Name) (c : ConRef) → meaning t.constructors name ≡ Some c → is_constructor types c ≡ true) where
  -- what is numbered from a pattern in a scope
  pub record IsWell (scope : Scope) (names : List Name) (fine : Bool) (vars : List ℕ) : Type 0 where
    pub numbered : fine ≡ true
    -- the number of each of its names is one of its variables
    pub binds : (name : Name) (x : ℕ) → named_so name names ≡ true → meaning scope name ≡ Some x → list_any (nat_eq x) vars ≡ true

  pub record PatternWell (p : PatTree) (l : ℕ) (rest : List Written) : Type 0 where
    pub right : Right total rest
    pub shorter : length (tokens_in rest) < length (tokens_in (pat_written p l rest))
    pub well : (scope : Scope) (q : Pat) → numbered_pattern t scope p ≡ Ok q → IsWell scope (names_in p) (pattern_is_numbered types q) (vars_of q)

  abbrev Well : PatTree → Type 0
  Well p = (l : ℕ) (rest : List Written) → Right total (pat_written p l rest) → PatternWell p l rest

  abbrev at_pattern : ℕ → PatTree → Writing
  at_pattern l p rest = pat_written p l rest

  record PatternsWell (ps : List PatTree) (l : ℕ) (ws rest : List Written) : Type 0 where
    right : Right total rest
    count : length ps + length (tokens_in rest) ≤ length (tokens_in ws)
    well : (scope : Scope) (qs : List Pat) → all_of (map (numbered_pattern t scope) ps) ≡ Ok qs
        → (length qs ≡ length ps) × IsWell scope (flat_map (λ xs. xs) (map names_in ps)) (list_all (λ b. b) (map (pattern_is_numbered types) qs)) (flat_map (λ xs. xs) (map vars_of qs))

  first-and-others : (scope : Scope) (p : PatTree) (ps : List PatTree) (q : Pat) (qs : List Pat)
      → IsWell scope (names_in p) (pattern_is_numbered types q) (vars_of q)
      → IsWell scope (flat_map (λ xs. xs) (map names_in ps)) (list_all (λ b. b) (map (pattern_is_numbered types) qs)) (flat_map (λ xs. xs) (map vars_of qs))
      → IsWell scope (names_in p ++ flat_map (λ xs. xs) (map names_in ps)) (pattern_is_numbered types q && list_all (λ b. b) (map (pattern_is_numbered types) qs)) (vars_of q ++ flat_map (λ xs. xs) (map vars_of qs))
  first-and-others scope p ps q qs a b = record {
    numbered = and_from _ _ a.numbered b.numbered;
    binds = λ name x n m. or-cases _ (named_so name (names_in p)) _ (sym (list_any-append (λ n. bytes_eq n name) (names_in p) _) ∙ n)
        (λ e. any-left (nat_eq x) (vars_of q) _ (a.binds name x e m))
        (λ e. any-right (nat_eq x) (vars_of q) _ (b.binds name x e m));
  }

  two-found : (scope : Scope) (p : PatTree) (ps : List PatTree) (all : List Pat) → all_of (map (numbered_pattern t scope) (p ∷ ps)) ≡ Ok all
      → (q : Pat) × (qs : List Pat) × (numbered_pattern t scope p ≡ Ok q) × (all_of (map (numbered_pattern t scope) ps) ≡ Ok qs) × (q ∷ qs ≡ all)
  two-found scope p ps all e =
      let a = then-ok (numbered_pattern t scope p) _ all e in
      let b = then-ok (all_of (map (numbered_pattern t scope) ps)) _ all a.2 in
      (a.0, b.0, a.1, b.1, ok-is (a.0 ∷ b.0) all b.2)

  none-found : (all : List Pat) → (let r : Resolved (List Pat) = Ok [] in r) ≡ Ok all → [] ≡ all
  none-found all e = ok-is [] all e

  patterns-behind : (ps : List PatTree) → Each Well ps → (l : ℕ) (rest : List Written) → Right total (each_behind comma (map (at_pattern l) ps) rest)
      → PatternsWell ps l (each_behind comma (map (at_pattern l) ps) rest) rest
  patterns-behind [] h l rest r = record {
    right = r;
    count = omega arith;
    well = λ scope qs e. rw (← none-found qs e) (refl, record { numbered = refl; binds = λ name x n m. absurd cc });
  }
  patterns-behind (p ∷ ps) h l rest r =
      let behind : List Written = each_behind comma (map (at_pattern l) ps) rest in
      let a : PatternWell p l behind = h.0 l behind (record { formed = r.formed; numbers = r.numbers; fits = omega (arith, r.fits) }) in
      let b : PatternsWell ps l behind rest = patterns-behind ps h.1 l rest a.right in record {
        right = b.right;
        count = omega (arith, b.count, a.shorter);
        well = λ scope qs e. let f = two-found scope p ps qs e in
            let v = b.well scope f.1 f.3 in
            rw (← f.4) (ap suc v.0, first-and-others scope p ps f.0 f.1 (a.well scope f.0 f.2) v.1);
      }

  -- patterns in parentheses
  patterns-fields : (ps : List PatTree) → Each Well ps → (l : ℕ) (rest : List Written) → Right total (fields_written (map (at_pattern l) ps) rest)
      → PatternsWell ps l (fields_written (map (at_pattern l) ps) rest) rest
  patterns-fields [] h l rest r = patterns-behind [] h l rest r
  patterns-fields (p ∷ ps) h l rest r =
      let close : List Written = token (tok.Symbol symbol.CloseParen) ∷ rest in
      let behind : List Written = each_behind comma (map (at_pattern l) ps) close in
      let a : PatternWell p l behind = h.0 l behind (record { formed = r.formed; numbers = r.numbers; fits = omega (arith, r.fits) }) in
      let b : PatternsWell ps l behind close = patterns-behind ps h.1 l close a.right in record {
        right = record { formed = b.right.formed; numbers = b.right.numbers; fits = omega (arith, b.right.fits) };
        count = omega (arith, b.count, a.shorter);
        well = λ scope qs e. let f = two-found scope p ps qs e in
            let v = b.well scope f.1 f.3 in
            rw (← f.4) (ap suc v.0, first-and-others scope p ps f.0 f.1 (a.well scope f.0 f.2) v.1);
      }

  pub moved : {ws vs : List Written} → ws ≡ vs → Right total ws → Right total vs
  moved e r = subst (λ us. Right total us) e r

  no-names : (scope : Scope) (names : List Name) (vars : List ℕ) (fine : Bool) → names ≡ [] → fine ≡ true → IsWell scope names fine vars
  no-names scope names vars fine e f = record { numbered = f; binds = λ name x n m. let g : named_so name [] ≡ true = subst (λ ns. named_so name ns ≡ true) e n in absurd cc }

  wild-well : (at : ℕ) → Well (P.Wild at)
  wild-well at l rest r =
      let s : Right total (node l ∷ number at ∷ token (tok.Symbol symbol.Underscore) ∷ rest) = moved (pat-Wild at l rest) r in record {
        right = record { formed = s.formed; numbers = s.numbers.1; fits = omega (arith, s.fits) };
        shorter = rw (pat-Wild at l rest) (omega arith);
        well = λ scope q e. rw (← ok-is (C.Wild at) q (sym (pattern-Wild t scope at) ∙ e))
            (no-names scope (names_in (P.Wild at)) _ _ (names-Wild at) (fold-Wild Bool (numbered_pattern_step types) at));
      }

  num-well : (at n : ℕ) → Well (P.Num at n)
  num-well at n l rest r =
      let s : Right total (node l ∷ number at ∷ token (tok.Num n) ∷ rest) = moved (pat-Num at n l rest) r in record {
        right = record { formed = s.formed; numbers = s.numbers.1; fits = omega (arith, s.fits) };
        shorter = rw (pat-Num at n l rest) (omega arith);
        well = λ scope q e. rw (← ok-is (C.Num at n) q (sym (pattern-Num t scope at n) ∙ e))
            (no-names scope (names_in (P.Num at n)) _ _ (names-Num at n) (fold-Num Bool (numbered_pattern_step types) at n));
      }

  pub same-name : (a b : Name) → bytes_eq a b ≡ true → a ≡ b
  same-name a b e = (bytes_eq-Decides a b).0 e

  pub some-is : (x y : ℕ) → (let o : Option ℕ = Some x in o) ≡ Some y → x ≡ y
  some-is x y e = cc

  var-binds : (at : ℕ) (v : NameTree) (scope : Scope) (x : ℕ) → meaning scope v.text ≡ Some x → (name : Name) (y : ℕ)
      → named_so name (v.text ∷ []) ≡ true → meaning scope name ≡ Some y → list_any (nat_eq y) (x ∷ []) ≡ true
  var-binds at v scope x m name y n k =
      or-cases _ (bytes_eq v.text name) false n
      (λ e. let same : v.text ≡ name = same-name v.text name e in
      let xy : x ≡ y = some-is x y (sym m ∙ subst (λ (w : Name). meaning scope w ≡ Some y) (sym same) k) in
      rw (← xy) (grind (arith, common_steps)))
      (λ e. absurd cc)

  var-well : (at : ℕ) (v : NameTree) → Well (P.Var at v)
  var-well at v l rest r =
      let s : Right total (node l ∷ number at ∷ number v.at ∷ token (tok.Lower v.text) ∷ rest) = moved (pat-Var at v l rest) r in record {
        right = record { formed = s.formed; numbers = s.numbers.1.1; fits = omega (arith, s.fits) };
        shorter = rw (pat-Var at v l rest) (omega arith);
        well = λ scope q e.
            let f = then-ok (name_found v (meaning scope v.text)) _ q (sym (pattern-Var t scope at v) ∙ e) in
            let m : meaning scope v.text ≡ Some f.0 = known-ok v (meaning scope v.text) f.0 f.1 in
            rw (← ok-is (C.Var at f.0) q f.2) (record {
              numbered = fold-Var Bool (numbered_pattern_step types) at f.0;
              binds = λ name y n k. rw (fold-Var (List ℕ) vars_step at f.0) (var-binds at v scope f.0 m name y (subst (λ ns. named_so name ns ≡ true) (names-Var at v) n) k);
            });
      }

  con-written : (at : ℕ) (x : NameTree) (ps : List PatTree) (l : ℕ) (rest : List Written) → pat_written (P.Con at x ps) l rest
      ≡ node l ∷ number at ∷ number x.at ∷ token (tok.Upper x.text) ∷ fields_written (map (at_pattern (suc l)) ps) rest
  con-written at x ps l rest = pat-Con at x ps l rest
      ∙ ap (λ ws. node l ∷ number at ∷ number x.at ∷ token (tok.Upper x.text) ∷ fields_written ws rest) (at_level-map pat_written (suc l) ps)

  pub length-map : {A B : Type 0} (f : A → B) (xs : List A) → length (map f xs) ≡ length xs
  length-map f [] = refl
  length-map f (x ∷ xs) = ap suc (length-map f xs)

  pub short-list : {A : Type 0} (xs : List A) (n : ℕ) → length xs ≡ n → n ≤ total → is_short xs ≡ true
  short-list xs n e h = let k : length xs < 2 ^ 32 = omega (arith, e, h, small) in grind (arith, common_steps, k)

  con-well : (at : ℕ) (x : NameTree) (ps : List PatTree) → Each Well ps → Well (P.Con at x ps)
  con-well at x ps h l rest r =
      let vs : List Written = fields_written (map (at_pattern (suc l)) ps) rest in
      let s : Right total (node l ∷ number at ∷ number x.at ∷ token (tok.Upper x.text) ∷ vs) = moved (con-written at x ps l rest) r in
      let b : PatternsWell ps (suc l) vs rest = patterns-fields ps h (suc l) rest (record { formed = s.formed; numbers = s.numbers.1.1; fits = omega (arith, s.fits) }) in record {
        right = b.right;
        shorter = rw (con-written at x ps l rest) (omega (arith, b.count));
        well = λ scope q e.
            let f = then-ok (name_found x (meaning t.constructors x.text)) _ q (sym (pattern-Con t scope at x ps) ∙ e) in
            let g = then-ok (all_of (map (numbered_pattern t scope) ps)) _ q f.2 in
            let v = b.well scope g.0 g.1 in
            let short : is_short (map (pattern_is_numbered types) g.0) ≡ true =
            short-list (map (pattern_is_numbered types) g.0) (length ps) (length-map (pattern_is_numbered types) g.0 ∙ v.0) (omega (arith, b.count, s.fits)) in
            rw (← ok-is (C.Con at f.0 g.0) q g.2) (record {
              numbered = fold-Con Bool (numbered_pattern_step types) at f.0 g.0
                  ∙ and_from _ _ (known_con x.text f.0 (known-ok x (meaning t.constructors x.text) f.0 f.1)) (and_from _ _ short v.1.numbered);
              binds = λ name y n k. rw (fold-Con (List ℕ) vars_step at f.0 g.0) (v.1.binds name y (subst (λ ns. named_so name ns ≡ true) (names-Con at x ps) n) k);
            });
      }

  pub pattern-well : (p : PatTree) → Well p
  pattern-well = induction Well (record { wild = wild-well; var = var-well; num = num-well; con = con-well })
