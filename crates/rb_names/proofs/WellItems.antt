-- The functions of a file that was read are well numbered, and the numbers of their matches rise.
use Rattle.std.proofs.Common.{◌≡◌, ℕ, ◌^◌, ◌<◌, ◌≤◌, List, [], ◌∷◌, map, length, true, nat_lt, nat_le, Some, Ok, refl, subst, arith}
use Rattle.std.proofs.lemmas.Bool.{and_from, and_parts}
use Rattle.std.proofs.lemmas.Grind.{common_steps}
use Rattle.std.specs.List.{list_all, flat_map}
use Rattle.rb_core.specs.declared.types.ConRef.{ConRef}
use Rattle.rb_core.specs.declared.types.DataDecl.{DataDecl}
use Rattle.rb_core.specs.declared.program.Fun.{Fun}
use Rattle.rb_core.specs.WellNumbered.{is_constructor, function_is_numbered, match_tokens}
use Rattle.rb_syntax.specs.declared.tree.ItemTree.{ItemTree}
use Rattle.rb_syntax.specs.declared.tree.ItemTree.TheVariants as top
use Rattle.rb_syntax.specs.Written.{Written, token, number, node, flaw, tokens_in, each}
use Rattle.rb_syntax.specs.Spelling.{item_written}
use Rattle.rb_syntax.specs.declared.token.Token.{Token}
use Rattle.rb_syntax.specs.declared.token.Token.TheVariants as tok
use Rattle.rb_names.specs.declared.tables.Tables.{Tables}
use Rattle.rb_names.specs.declared.items.Items.{Items}
use Rattle.rb_names.specs.Tables.{Name, meaning}
use Rattle.rb_names.specs.Numbering.{name_found, numbered_data, numbered_layout, numbered_function}
use Rattle.rb_names.specs.Programs.{numbered_items}
use Rattle.rb_names.specs.Written.{AreNamed, item_is_counted}
use Rattle.rb_names.proofs.Rising.{Rise, rise-wider, rise-append, Right, place}
use Rattle.rb_names.proofs.Inverting.{then-ok, ok-is}
use Rattle.rb_names.proofs.Dropping.{item-drops}
use Rattle.rb_names.proofs.WellFunctions.{FunctionWell, function-well}

-- the rest of a file is right, named, and no longer
right-next : (total : ℕ) (w : Written) (ws : List Written) → Right total (w ∷ ws) → Right total ws
right-next total (token t) ws r = record { formed = r.formed; numbers = r.numbers; fits = omega (arith, r.fits) }
right-next total (number at) ws r = record { formed = r.formed; numbers = r.numbers.1; fits = r.fits }
right-next total (node l) ws r = record { formed = r.formed; numbers = r.numbers; fits = r.fits }
right-next total flaw ws r = absurd r.formed

abbrev IsNamed : List Written → Type 0
IsNamed ws = AreNamed (tokens_in ws)

token-named : (t : Token) (ts : List Token) → AreNamed (t ∷ ts) → AreNamed ts
token-named (tok.Upper x) ts h = h.1
token-named (tok.Lower x) ts h = h.1
token-named (tok.Num n) ts h = h
token-named (tok.Reserved w) ts h = h
token-named (tok.Uint b) ts h = h
token-named (tok.Symbol s) ts h = h

named-next : (w : Written) (ws : List Written) → IsNamed (w ∷ ws) → IsNamed ws
named-next (token t) ws h = token-named t (tokens_in ws) h
named-next (number at) ws h = h
named-next (node l) ws h = h
named-next flaw ws h = h

short-next : (n : ℕ) (w : Written) (ws : List Written) → length (tokens_in (w ∷ ws)) ≤ n → length (tokens_in ws) ≤ n
short-next n (token t) ws h = omega (arith, h)
short-next n (number at) ws h = h
short-next n (node l) ws h = h
short-next n flaw ws h = h

pub right-behind : (total : ℕ) (x : ItemTree) (rest : List Written) → Right total (item_written x rest) → Right total rest
right-behind total x rest r = item-drops (Right total) (right-next total) x rest r

pub named-behind : (x : ItemTree) (rest : List Written) → AreNamed (tokens_in (item_written x rest)) → AreNamed (tokens_in rest)
named-behind x rest h = item-drops IsNamed named-next x rest h

pub shorter-behind : (x : ItemTree) (rest : List Written) → length (tokens_in rest) ≤ length (tokens_in (item_written x rest))
shorter-behind x rest = item-drops (λ ws. length (tokens_in ws) ≤ length (tokens_in (item_written x rest))) (short-next _) x rest (omega arith)

module _ (total : ℕ) (small : total < 2 ^ 32) (types : List DataDecl) (funs : List Fun) (t : Tables)
    (known_type : (name : Name) (n : ℕ) → meaning t.types name ≡ Some n → nat_lt n (length types) ≡ true)
    (known_con : (name : Name) (c : ConRef) → meaning t.constructors name ≡ Some c → is_constructor types c ≡ true)
    (known_fun : (name : Name) (f : ℕ) → meaning t.functions name ≡ Some f → nat_lt f (length funs) ≡ true) where
  abbrev tokens_of : List Fun → List ℕ
  tokens_of fs = flat_map (λ (f : Fun). match_tokens f.body) fs

  pub record FunctionsWell (lo hi : ℕ) (fs : List Fun) : Type 0 where
    pub numbered : list_all (function_is_numbered types funs) fs ≡ true
    pub rises : Rise lo hi (tokens_of fs)

  pub functions-well : (items : List ItemTree) (rest : List Written) → Right total (each (map item_written items) rest) → AreNamed (tokens_in (each (map item_written items) rest))
      → list_all item_is_counted items ≡ true → (all : Items) → numbered_items t items ≡ Ok all
      → FunctionsWell (place total (each (map item_written items) rest)) (place total rest) all.functions
  functions-well [] rest r n c all e =
      subst (λ (a : Items). FunctionsWell (place total rest) (place total rest) a.functions) (ok-is _ all e) (record { numbered = refl; rises = omega arith })
  functions-well (top.Types d ∷ items) rest r n c all e =
      let x = top.Types d in
      let ws : List Written = each (map item_written items) rest in
      let a = then-ok (numbered_data t d) _ all e in
      let b = then-ok (numbered_items t items) _ all a.2 in
      let w = functions-well items rest (right-behind total x ws r) (named-behind x ws n) (and_parts (item_is_counted x) _ c).1 b.0 b.1 in
      let s = shorter-behind x ws in
      subst (λ (q : Items). FunctionsWell (place total (item_written x ws)) (place total rest) q.functions) (ok-is _ all b.2)
      (record { numbered = w.numbered; rises = rise-wider _ _ _ _ (tokens_of b.0.functions) (omega (arith, s)) (omega arith) w.rises })
  functions-well (top.Layouts l ∷ items) rest r n c all e =
      let x = top.Layouts l in
      let ws : List Written = each (map item_written items) rest in
      let a = then-ok (numbered_layout t l) _ all e in
      let b = then-ok (numbered_items t items) _ all a.2 in
      let w = functions-well items rest (right-behind total x ws r) (named-behind x ws n) (and_parts (item_is_counted x) _ c).1 b.0 b.1 in
      let s = shorter-behind x ws in
      subst (λ (q : Items). FunctionsWell (place total (item_written x ws)) (place total rest) q.functions) (ok-is _ all b.2)
      (record { numbered = w.numbered; rises = rise-wider _ _ _ _ (tokens_of b.0.functions) (omega (arith, s)) (omega arith) w.rises })
  functions-well (top.Derived name k ∷ items) rest r n c all e =
      let x = top.Derived name k in
      let ws : List Written = each (map item_written items) rest in
      let a = then-ok (name_found name (meaning t.types name.text)) _ all e in
      let w = functions-well items rest (right-behind total x ws r) (named-behind x ws n) (and_parts (item_is_counted x) _ c).1 all a.2 in
      let s = shorter-behind x ws in
      record { numbered = w.numbered; rises = rise-wider _ _ _ _ (tokens_of all.functions) (omega (arith, s)) (omega arith) w.rises }
  functions-well (top.Funs f ∷ items) rest r n c all e =
      let x = top.Funs f in
      let ws : List Written = each (map item_written items) rest in
      let a = then-ok (numbered_function t f) _ all e in
      let b = then-ok (numbered_items t items) _ all a.2 in
      let w = functions-well items rest (right-behind total x ws r) (named-behind x ws n) (and_parts (item_is_counted x) _ c).1 b.0 b.1 in
      let g : FunctionWell total small types funs t known_type known_con known_fun f ws = function-well total small types funs t known_type known_con known_fun f ws r in
      let few : length f.params ≤ 32 = let h : nat_le (length f.params) 32 ≡ true = (and_parts (item_is_counted x) _ c).0 in grind (arith, common_steps, h) in
      let v = g.well a.0 a.1 n.0 few in
      subst (λ (q : Items). FunctionsWell (place total (item_written x ws)) (place total rest) q.functions) (ok-is _ all b.2)
      (record { numbered = and_from _ _ v.0 w.numbered; rises = rise-append _ (place total ws) _ (match_tokens a.0.body) (tokens_of b.0.functions) v.1 w.rises })
