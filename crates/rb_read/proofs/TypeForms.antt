-- Types, constructors and parameters.
use Rattle.std.proofs.Common.{◌≡◌, ℕ, suc, ◌-◌, List, [], ◌∷◌, ◌++◌, map, length, Bool, true, false, Ok, Err, refl, sym, ◌∙◌, ap}
use Rattle.rb_syntax.specs.declared.token.Symbol.{Symbol}
use Rattle.rb_syntax.specs.declared.token.Symbol.TheVariants as symbol
use Rattle.rb_syntax.specs.declared.token.Token.{Token}
use Rattle.rb_syntax.specs.declared.token.Token.TheVariants as tok
use Rattle.rb_syntax.specs.declared.tree.TyTree.{TyTree}
use Rattle.rb_syntax.specs.declared.tree.TyTree.TheVariants as ty
use Rattle.rb_syntax.specs.Written.{Written, Writing, token, number, tokens_in}
use Rattle.rb_syntax.specs.Spelling.{is_uint_width, ty_written, fields_written, con_written, param_written}
use Rattle.rb_read.specs.inner.Starting.{is_symbol}
use Rattle.rb_read.specs.inner.Combining.{ReadOutcome, Reader, ◌>>=◌, pair, into, nothing, expect, closed_by, in_parens}
use Rattle.rb_read.specs.inner.Tokens.{lower_name}
use Rattle.rb_read.proofs.Open.{Open, one, maybe, the, an_upper, fields, a_type, a_con, a_param, begins, ahead_of}
use Rattle.rb_read.specs.inner.Reading.{name_tree, type_from, type_tree, con_tree, param_tree, parameter_of}
use Rattle.rb_read.proofs.Forms.{IsRight, Again, Clear, IsForm}
use Rattle.rb_read.proofs.FormLaws.{IsStrict, nat_lt-zero, nothing-form, pair-form, first-strict, iso-form, into-strict, alias-form}
use Rattle.rb_read.proofs.ListForms.{in_parens-form}
use Rattle.rb_read.proofs.NodeForms.{AtToken, IsPart, part-form, none-at, node-at, node-again, if-at}
use Rattle.rb_read.proofs.TokenForms.{checked-right, upper-part, symbol-part}

pub all-clear : (ts : List Token) → Clear (λ _. false) ts
all-clear [] = tt
all-clear (t ∷ ts) = refl

-- nothing would go on with the first
pub before-any : {A B : Type 0} {total limit : ℕ} {bars : Token → Bool} {o1 o2 : List Open} {w1 : A → Writing} {w2 : B → Writing} {r : Reader A} {s : Reader B}
    → IsForm total limit (λ _. false) o1 w1 r → IsForm total limit bars o2 w2 s
    → IsForm total limit bars (o1 ++ o2) (λ p rest. w1 p.0 (w2 p.1 rest)) (pair r s)
before-any {w2 = w2} f g = pair-form f g (λ b rest c. all-clear (tokens_in (w2 b rest)))

-- a part, and the symbol that closes it, which would not go on with the part
module _ {A : Type 0} {total limit : ℕ} {bars : Token → Bool} {opens : List Open} {written : A → Writing} {r : Reader A}
    (f : IsForm total limit bars opens written r) (s : Symbol) where
  pub closed_by-form : bars (tok.Symbol s) ≡ false
      → IsForm total limit (λ _. false) (opens ++ one (the s) ∷ []) (λ a rest. written a (token (tok.Symbol s) ∷ rest)) (closed_by r s)
  unfolding closed_by
  closed_by-form clear = iso-form (λ p. p.0) (λ a. (a, tt)) (λ a. refl) (λ p rest. refl)
      (pair-form f (symbol-part total limit s).form (λ b rest c. clear))

  pub closed_by-strict : IsStrict r → IsStrict (closed_by r s)
  unfolding closed_by
  closed_by-strict h = into-strict _ _ (first-strict f (symbol-part total limit s).form h)

pub type-part : (total limit : ℕ) → IsPart total limit (λ _. false) a_type ty_written (type_tree total)
unfolding begins type_tree type_from into nothing
type-part total limit = part-form refl on again where
  on : (t : Token) → AtToken total limit a_type ty_written (type_tree total) t
  on (tok.Uint bits) = if-at (is_uint_width bits)
      (λ e. node-at (nothing-form total limit) 0 (rw e refl) (nat_lt-zero limit) (λ at y. ty.Int bits) (λ ts. rw e refl) (λ at. []) (λ at. tt) (λ at. tt) (λ at. refl) (λ at y rest. rw e refl))
      (λ e. none-at (rw e refl) (λ ts. rw e refl))
  on (tok.Upper name) = node-at (nothing-form total limit) 0 refl (nat_lt-zero limit) (λ at y. ty.Named (name_tree at name)) (λ ts. refl) (λ at. number at ∷ [])
      (λ at. tt) (λ at. (refl, tt)) (λ at. refl) (λ at y rest. refl)
  on _ = none-at refl (λ ts. refl)

  again : (x : TyTree) (rest : List Written) → IsRight total (ty_written x rest) → Clear (λ _. false) (tokens_in rest)
      → Again total limit (type_tree total) x (ty_written x rest) rest
  again (ty.Int bits) rest i c = let e : is_uint_width bits ≡ true = checked-right total _ _ i in
      node-again (nothing-form total limit) (tok.Uint bits) (λ at y. ty.Int bits) (λ ts. rw e refl) [] tt refl (ty.Int bits) tt rest _ (rw e refl) (λ at h. refl) i c
  again (ty.Named x) rest i c =
      node-again (nothing-form total limit) (tok.Upper x.text) (λ at y. ty.Named (name_tree at x.text)) (λ ts. refl) (number x.at ∷ []) tt refl (ty.Named x) tt rest _ refl
      (λ at h. rw (← h.0) refl) i c

abbrev pub opens_paren : Token → Bool
opens_paren t = is_symbol symbol.OpenParen t

pub con-part : (total limit : ℕ) → IsPart total limit opens_paren a_con con_written (con_tree total)
unfolding begins con_tree
con-part total limit = record {
  form = alias-form begun (iso-form (λ p. record { name = p.0; fields = p.1 }) (λ c. (c.name, c.fields)) (λ c. refl) (λ p rest. refl)
      (before-any (upper-part total limit).form inner));
  strict = into-strict _ _ (first-strict (upper-part total limit).form inner (upper-part total limit).strict);
} where
  inner : IsForm total limit opens_paren (maybe (fields a_type) ∷ []) (λ fs rest. fields_written (map ty_written fs) rest) (in_parens (type_tree total))
  inner = in_parens-form (type-part total limit) refl refl

  begun : (t : Token) → begins a_con t ≡ ahead_of (maybe (fields a_type) ∷ []) (begins an_upper t)
  begun (tok.Upper x) = refl
  begun _ = refl

-- what is made of a name and of what stands behind it
behind-name : {A B X : Type 0} (make : A × B → X) (a : A) (r : ReadOutcome B)
    → ((r >>= λ y. Ok ((a, y.0), y.1)) >>= λ z. Ok (make z.0, z.1)) ≡ (r >>= λ y. Ok (make (a, y.0), y.1))
behind-name make a (Ok y) = refl
behind-name make a (Err e) = refl

-- a parameter, with its name's number twice
param-taken : (total limit : ℕ) → IsForm total limit (λ _. false) (one (the symbol.Colon) ∷ one a_type ∷ [])
    (λ p rest. token (tok.Symbol symbol.Colon) ∷ ty_written p.1 rest) (pair (expect symbol.Colon) (type_tree total))
param-taken total limit = before-any (symbol-part total limit symbol.Colon).form (type-part total limit).form

pub param-part : (total limit : ℕ) → IsPart total limit (λ _. false) a_param param_written (param_tree total)
unfolding begins param_tree lower_name pair into
param-part total limit = part-form refl on
    (λ x rest i c. node-again (param-taken total limit) (tok.Lower x.var.text) (λ at p. record { at = at; var = name_tree at x.var.text; ty = p.1 }) (λ ts. reads x.var.text ts)
    (number x.at ∷ number x.var.at ∷ []) tt refl x (tt, x.ty) rest _ refl (λ at h. rw (← h.0) (ap (λ (m : ℕ). record { at = x.at; var = name_tree m x.var.text; ty = x.ty }) (h.0 ∙ sym h.1.0))) i c) where
      reads : (name : List ℕ) (ts : List Token) → param_tree total (tok.Lower name ∷ ts)
          ≡ into (λ p. record { at = total - suc (length ts); var = name_tree (total - suc (length ts)) name; ty = p.1 }) (pair (expect symbol.Colon) (type_tree total)) ts
      reads name ts = behind-name parameter_of (name_tree (total - suc (length ts)) name) (pair (expect symbol.Colon) (type_tree total) ts)

      on : (t : Token) → AtToken total limit a_param param_written (param_tree total) t
      on (tok.Lower x) = node-at (param-taken total limit) 0 refl (nat_lt-zero limit) (λ at p. record { at = at; var = name_tree at x; ty = p.1 }) (λ ts. reads x ts) (λ at. number at ∷ number at ∷ [])
          (λ at. tt) (λ at. (refl, (refl, tt))) (λ at. refl) (λ at p rest. refl)
      on _ = none-at refl (λ ts. refl)
