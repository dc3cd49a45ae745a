-- Functions of a file that was read are well numbered.
use Rattle.std.proofs.Common.{◌≡◌, ℕ, suc, ◌^◌, ◌<◌, ◌≤◌, List, [], ◌∷◌, map, length, Bool, true, false, ◌||◌, nat_lt, nat_le, nat_eq, Some, Ok, refl, sym, ◌∙◌, ap, subst, arith}
use Rattle.std.proofs.lemmas.Bool.{and_from, or_right}
use Rattle.std.proofs.lemmas.Grind.{common_steps}
use Rattle.std.specs.List.{list_any, list_all}
use Rattle.std.specs.Str.{bytes_eq}
use Rattle.rb_core.specs.declared.types.Ty.{Ty}
use Rattle.rb_core.specs.declared.types.ConRef.{ConRef}
use Rattle.rb_core.specs.declared.types.DataDecl.{DataDecl}
use Rattle.rb_core.specs.declared.program.Param.{Param}
use Rattle.rb_core.specs.declared.program.Fun.{Fun}
use Rattle.rb_core.specs.WellNumbered.{is_constructor, is_lower, is_type, param_is_numbered, function_is_numbered, match_tokens}
use Rattle.rb_syntax.specs.declared.token.Token.{Token}
use Rattle.rb_syntax.specs.declared.token.Token.TheVariants as tok
use Rattle.rb_syntax.specs.declared.token.Symbol.TheVariants as symbol
use Rattle.rb_syntax.specs.declared.tree.ParamTree.{ParamTree}
use Rattle.rb_syntax.specs.declared.tree.FunTree.{FunTree}
use Rattle.rb_syntax.specs.Written.{Written, token, tokens_in, each_behind, any_with}
use Rattle.rb_syntax.specs.Spelling.{ty_written, param_written, expr_written, fun_written}
use Rattle.rb_names.specs.declared.tables.Tables.{Tables}
use Rattle.rb_names.specs.Tables.{Name, meaning}
use Rattle.rb_names.specs.Scopes.{Scope, inside, param_binders}
use Rattle.rb_names.specs.Numbering.{all_of, name_found, numbered_type, numbered_expression, numbered_param, numbered_function}
use Rattle.rb_names.proofs.Rising.{Rise, rise-wider, Right, place}
use Rattle.rb_names.proofs.Inverting.{then-ok, known-ok, ok-is}
use Rattle.rb_names.proofs.WellTypes.{TypeWell, type-well}
use Rattle.rb_names.proofs.WellPatterns.{or-cases, same-name}
use Rattle.rb_names.proofs.WellExpressions.{Covers, ExprWell, expression-well, named_so, inside-other, with_names-only, some-same, or-left-here}

abbrev comma : Token
comma = tok.Symbol symbol.Comma

abbrev names_of : List ParamTree → List Name
names_of ps = map (λ (p : ParamTree). p.var.text) ps

params-only : (ps : List ParamTree) (name : Name) → named_so name (names_of ps) ≡ false → named_so name (param_binders ps) ≡ false
params-only ps name e = by_test (named_so name (param_binders ps)) refl where
  by_test : (b : Bool) → named_so name (param_binders ps) ≡ b → named_so name (param_binders ps) ≡ false
  by_test true h = let k : named_so name (names_of ps) ≡ true = with_names-only (names_of ps) [] name h in absurd cc
  by_test false h = h

module _ (total : ℕ) (small : total < 2 ^ 32) (types : List DataDecl) (funs : List Fun) (t : Tables)
    (known_type : (name : Name) (n : ℕ) → meaning t.types name ≡ Some n → nat_lt n (length types) ≡ true)
    (known_con : (name : Name) (c : ConRef) → meaning t.constructors name ≡ Some c → is_constructor types c ≡ true)
    (known_fun : (name : Name) (f : ℕ) → meaning t.functions name ≡ Some f → nat_lt f (length funs) ≡ true) where
  record ParamsWell (ps : List ParamTree) (ws rest : List Written) : Type 0 where
    right : Right total rest
    shorter : length (tokens_in rest) ≤ length (tokens_in ws)
    well : (scope : Scope) (qs : List Param) → all_of (map (numbered_param t scope) ps) ≡ Ok qs
        → (length qs ≡ length ps) × (list_all (param_is_numbered types) qs ≡ true)
        × ((name : Name) (x : ℕ) → named_so name (names_of ps) ≡ true → meaning scope name ≡ Some x → list_any (nat_eq x) (map (λ (p : Param). p.var) qs) ≡ true)

  found : (scope : Scope) (p : ParamTree) (ps : List ParamTree) (qs : List Param) → all_of (map (numbered_param t scope) (p ∷ ps)) ≡ Ok qs
      → ((u : Ty) → numbered_type t p.ty ≡ Ok u → is_type types u ≡ true)
      → ((scope : Scope) (qs : List Param) → all_of (map (numbered_param t scope) ps) ≡ Ok qs
      → (length qs ≡ length ps) × (list_all (param_is_numbered types) qs ≡ true)
      × ((name : Name) (x : ℕ) → named_so name (names_of ps) ≡ true → meaning scope name ≡ Some x → list_any (nat_eq x) (map (λ (p : Param). p.var) qs) ≡ true))
      → (length qs ≡ suc (length ps)) × (list_all (param_is_numbered types) qs ≡ true)
      × ((name : Name) (x : ℕ) → named_so name (names_of (p ∷ ps)) ≡ true → meaning scope name ≡ Some x → list_any (nat_eq x) (map (λ (p : Param). p.var) qs) ≡ true)
  found scope p ps qs e kw gw =
      let a = then-ok (numbered_param t scope p) _ qs e in
      let b = then-ok (all_of (map (numbered_param t scope) ps)) _ qs a.2 in
      let u = then-ok (numbered_type t p.ty) _ a.0 a.1 in
      let v = then-ok (name_found p.var (meaning scope p.var.text)) _ a.0 u.2 in
      let m : meaning scope p.var.text ≡ Some v.0 = known-ok p.var (meaning scope p.var.text) v.0 v.1 in
      let w = gw scope b.0 b.1 in
      let made : record { at = p.at; var = v.0; ty = u.0 } ≡ a.0 = ok-is _ a.0 v.2 in
      let is_ty : is_type types a.0.ty ≡ true = subst (λ (q : Param). is_type types q.ty ≡ true) made (kw u.0 u.1) in
      let is_var : v.0 ≡ a.0.var = ap (λ (q : Param). q.var) made in
      subst (λ (all : List Param). (length all ≡ suc (length ps)) × (list_all (param_is_numbered types) all ≡ true)
      × ((name : Name) (x : ℕ) → named_so name (names_of (p ∷ ps)) ≡ true → meaning scope name ≡ Some x → list_any (nat_eq x) (map (λ (p : Param). p.var) all) ≡ true))
      (ok-is (a.0 ∷ b.0) qs b.2) (
        ap suc w.0,
        and_from _ _ is_ty w.1,
        λ name x n k. or-cases _ (bytes_eq p.var.text name) (named_so name (names_of ps)) n
            (λ h. let same : p.var.text ≡ name = same-name total small types t known_con p.var.text name h in
            let y : v.0 ≡ x = some-same v.0 x (sym m ∙ subst (λ (w : Name). meaning scope w ≡ Some x) (sym same) k) in
            subst (λ (z : ℕ). (nat_eq x z || list_any (nat_eq x) (map (λ (p : Param). p.var) b.0)) ≡ true) (sym y ∙ is_var) (or-left-here x _))
            (λ h. or_right (nat_eq x a.0.var) _ (w.2 name x h k)),
      )

  params-behind : (ps : List ParamTree) (rest : List Written) → Right total (each_behind comma (map param_written ps) rest)
      → ParamsWell ps (each_behind comma (map param_written ps) rest) rest
  params-behind [] rest r = record {
    right = r;
    shorter = omega arith;
    well = λ scope qs e. let same : [] ≡ qs = ok-is [] qs e in rw (← same) (refl, refl, λ name x n m. absurd cc);
  }
  params-behind (p ∷ ps) rest r =
      let behind : List Written = each_behind comma (map param_written ps) rest in
      let k : TypeWell total types t known_type p.ty behind = type-well total types t known_type p.ty behind
      (record { formed = r.formed; numbers = r.numbers.1.1; fits = omega (arith, r.fits) }) in
      let g : ParamsWell ps behind rest = params-behind ps rest k.right in record {
        right = g.right;
        shorter = omega (arith, g.shorter, k.shorter);
        well = λ scope qs e. found scope p ps qs e k.well g.well;
      }

  params-any : (ps : List ParamTree) (rest : List Written) → Right total (any_with comma (map param_written ps) rest)
      → ParamsWell ps (any_with comma (map param_written ps) rest) rest
  params-any [] rest r = params-behind [] rest r
  params-any (p ∷ ps) rest r =
      let behind : List Written = each_behind comma (map param_written ps) rest in
      let k : TypeWell total types t known_type p.ty behind = type-well total types t known_type p.ty behind
      (record { formed = r.formed; numbers = r.numbers.1.1; fits = omega (arith, r.fits) }) in
      let g : ParamsWell ps behind rest = params-behind ps rest k.right in record {
        right = g.right;
        shorter = omega (arith, g.shorter, k.shorter);
        well = λ scope qs e. found scope p ps qs e k.well g.well;
      }

  pub record FunctionWell (f : FunTree) (rest : List Written) : Type 0 where
    pub right : Right total rest
    pub shorter : length (tokens_in rest) < length (tokens_in (fun_written f rest))
    pub well : (d : Fun) → numbered_function t f ≡ Ok d → is_lower f.name.text ≡ true → length f.params ≤ 32
        → (function_is_numbered types funs d ≡ true) × Rise (place total (fun_written f rest)) (place total rest) (match_tokens d.body)

  -- the parameters are bound in the body
  covers-params : (ps : List ParamTree) (qs : List Param)
      → ((name : Name) (x : ℕ) → named_so name (names_of ps) ≡ true → meaning (inside (param_binders ps) 0 []) name ≡ Some x → list_any (nat_eq x) (map (λ (p : Param). p.var) qs) ≡ true)
      → Covers (inside (param_binders ps) 0 []) (map (λ (p : Param). p.var) qs)
  covers-params ps qs binds name x m = by_test (named_so name (names_of ps)) refl where
    by_test : (b : Bool) → named_so name (names_of ps) ≡ b → list_any (nat_eq x) (map (λ (p : Param). p.var) qs) ≡ true
    by_test true h = binds name x h m
    by_test false h =
        let outside : meaning [] name ≡ Some x = sym (inside-other (param_binders ps) 0 [] name (params-only ps name h)) ∙ m in absurd cc

  pub function-well : (f : FunTree) (rest : List Written) → Right total (fun_written f rest) → FunctionWell f rest
  function-well f rest r =
      let end : List Written = token (tok.Symbol symbol.Semicolon) ∷ rest in
      let body : List Written = expr_written f.body 1 end in
      let equals : List Written = token (tok.Symbol symbol.Equals) ∷ body in
      let result : List Written = ty_written f.result equals in
      let close : List Written = token (tok.Symbol symbol.CloseParen) ∷ token (tok.Symbol symbol.Colon) ∷ result in
      let params : List Written = any_with comma (map param_written f.params) close in
      let p : ParamsWell f.params params close = params-any f.params close (record { formed = r.formed; numbers = r.numbers.1; fits = omega (arith, r.fits) }) in
      let k : TypeWell total types t known_type f.result equals = type-well total types t known_type f.result equals
      (record { formed = p.right.formed; numbers = p.right.numbers; fits = omega (arith, p.right.fits) }) in
      let g : ExprWell total small types funs t known_type known_con known_fun f.body 1 end = expression-well total small types funs t known_type known_con known_fun f.body 1 end
      (record { formed = k.right.formed; numbers = k.right.numbers; fits = omega (arith, k.right.fits) }) in record {
        right = record { formed = g.right.formed; numbers = g.right.numbers; fits = omega (arith, g.right.fits) };
        shorter = omega (arith, g.shorter, k.shorter, p.shorter);
        well = λ d e lower few.
            let scope : Scope = inside (param_binders f.params) 0 [] in
            let a = then-ok (all_of (map (numbered_param t scope) f.params)) _ d e in
            let b = then-ok (numbered_type t f.result) _ d a.2 in
            let c = then-ok (numbered_expression t f.body scope (length (param_binders f.params))) _ d b.2 in
            let ps = p.well scope a.0 a.1 in
            let v = g.well scope (length (param_binders f.params)) c.0 (map (λ (p : Param). p.var) a.0) c.1 (covers-params f.params a.0 ps.2) in
            let n : nat_le (length a.0) 32 ≡ true = let q : length a.0 ≤ 32 = omega (arith, ps.0, few) in grind (arith, common_steps, q) in
            rw (← ok-is _ d c.2) (
              and_from _ _ lower (and_from _ _ n (and_from _ _ ps.1 (and_from _ _ (k.well b.0 b.1) v.numbered))),
              rise-wider _ _ _ _ (match_tokens c.0.what) (omega (arith, k.shorter, p.shorter)) (omega arith) v.rises,
            );
      }
