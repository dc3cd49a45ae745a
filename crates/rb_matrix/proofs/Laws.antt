-- How rows are matched, by what their first patterns are.
use Rattle.std.proofs.Common.{◌≡◌, ℕ, zero, suc, ◌<◌, ◌≤◌, List, [], ◌∷◌, ◌++◌, map, length, Bool, true, false, ◌&&◌, ◌||◌, ◌==◌, Option, Some, None, refl, sym, ap, ◌∙◌, arith, subst, ◌⊎◌, inl, inr}
use Rattle.std.specs.Prelude.{if◌then◌else◌}
use Rattle.std.specs.Option.{option_or}
use Rattle.std.proofs.Math.Bool.{and-false, and_assoc}
use Rattle.std.proofs.lemmas.Bool.{eqb-true, eqb-false, false≢true}
use Rattle.rb_core.specs.declared.value.Value.{Value, out-Value}
use Rattle.rb_core.specs.declared.value.Value.TheOpen as V
use Rattle.rb_core.specs.declared.types.ConRef.{ConRef}
use Rattle.rb_core.specs.declared.pattern.Pat.{Pat, Wild, out-Pat, map-Pat}
use Rattle.rb_core.specs.declared.pattern.Pat.TheOpen as P
use Rattle.rb_core.specs.declared.pattern.Pat.TheOpen.{Pat-F}
use Rattle.rb_core.specs.declared.pattern.Pat.TheFolds.{fold_out-Pat}
use Rattle.rb_core.specs.Matching.{all_pass, matches_of, matches_step, is_number, is_con}
use Rattle.rb_core.specs.Values.{subs, subs_in}
use Rattle.rb_matrix.specs.declared.matrix.Head.{Head}
use Rattle.rb_matrix.specs.declared.matrix.Head.TheVariants as H
use Rattle.rb_matrix.specs.Rows.{row_matches, any_row, all_rows, row_or_none_matches}
use Rattle.rb_matrix.specs.Heads.{layer_begins, begins, layer_head, row_head, option_begins, column_begins}
use Rattle.rb_matrix.specs.FirstHead.{first_head}
use Rattle.rb_matrix.specs.Specialize.{wilds, special_of_layer, special_row, special, default_of_layer, default_row, defaults, keep}

pub or-false-left : (a b : Bool) → (a || b) ≡ false → a ≡ false
or-false-left true b h = h
or-false-left false b h = refl

pub or-false-right : (a b : Bool) → (a || b) ≡ false → b ≡ false
or-false-right true b h = absurd (false≢true (sym h))
or-false-right false b h = h

pub row-append : (ps qs : List Pat) (us vs : List Value) → length ps ≡ length us → row_matches (ps ++ qs) (us ++ vs) ≡ (row_matches ps us && row_matches qs vs)
row-append [] qs [] vs e = refl
row-append [] qs (u ∷ us) vs e = absurd (omega (arith, e))
row-append (p ∷ ps) qs [] vs e = absurd (omega (arith, e))
row-append (p ∷ ps) qs (u ∷ us) vs e = ap (λ b. matches_of p u && b) (row-append ps qs us vs (omega (arith, e))) ∙ sym (and_assoc (matches_of p u) (row_matches ps us) (row_matches qs vs))

pub row-unlike : (ps : List Pat) (us : List Value) → (length ps ≡ length us → ⊥) → row_matches ps us ≡ false
row-unlike [] [] ne = absurd (ne refl)
row-unlike [] (v ∷ vs) ne = refl
row-unlike (p ∷ ps) [] ne = refl
row-unlike (p ∷ ps) (v ∷ vs) ne = ap (λ b. matches_of p v && b) (row-unlike ps vs (λ e. ne (ap suc e))) ∙ and-false (matches_of p v)

-- a pattern by its own layer
abbrev pub open_matches : Pat-F Pat → Value → Bool
open_matches l v = matches_step (map-Pat Pat (Value → Bool) matches_of l) v

pub opened : (p : Pat) (v : Value) → matches_of p v ≡ open_matches (out-Pat p) v
opened p v = ap (λ (f : Value → Bool). f v) (fold_out-Pat (Value → Bool) matches_step p)

pub wild-matches : (v : Value) → matches_of (Wild 0) v ≡ true
unfolding out-Pat denote.Hole.Carrier.out
wild-matches v = opened (Wild 0) v

pub row-wilds : (us : List Value) → row_matches (wilds (length us)) us ≡ true
row-wilds [] = refl
row-wilds (u ∷ us) = ap (λ b. b && row_matches (wilds (length us)) us) (wild-matches u) ∙ row-wilds us

pub wilds-length : (n : ℕ) → length (wilds n) ≡ n
wilds-length zero = refl
wilds-length (suc n) = ap suc (wilds-length n)

row-wild_front : (us vs : List Value) (rest : List Pat) → row_matches (wilds (length us) ++ rest) (us ++ vs) ≡ row_matches rest vs
row-wild_front us vs rest = row-append (wilds (length us)) rest us vs (wilds-length (length us)) ∙ ap (λ b. b && row_matches rest vs) (row-wilds us)

-- S, at a construction -----------------------------------------------------------------------

-- a constructor's pattern at a construction of as many values as the constructor has fields
con-front : (b b' : Bool) (qs rest : List Pat) (us vs : List Value) → (length qs == length us) ≡ b'
    → ((b && row_matches qs us) && row_matches rest vs) ≡ row_or_none_matches (if b && b' then Some (qs ++ rest) else None) (us ++ vs)
con-front false b' qs rest us vs e = refl
con-front true true qs rest us vs e = sym (row-append qs rest us vs (eqb-true _ _ e))
con-front true false qs rest us vs e = ap (λ b. b && row_matches rest vs) (row-unlike qs us (eqb-false _ _ e))

module _ (c : ConRef) (us vs : List Value) (v : Value) (is : out-Value v ≡ V.Con c.con us) where
  con-layer : (l : Pat-F Pat) (rest : List Pat) → (open_matches l v && row_matches rest vs) ≡ row_or_none_matches (special_of_layer (H.Con c) (length us) rest l) (us ++ vs)
  con-layer (P.Wild at) rest = sym (row-wild_front us vs rest)
  con-layer (P.Var at x) rest = sym (row-wild_front us vs rest)
  con-layer (P.Num at k) rest = ap (λ l. is_number k l && row_matches rest vs) is
  con-layer (P.Con at d qs) rest = ap (λ l. is_con d.con (map matches_of qs) l && row_matches rest vs) is ∙ con-front (d.con == c.con) (length qs == length us) qs rest us vs refl

  con-row : (ps : List Pat) → row_matches ps (v ∷ vs) ≡ row_or_none_matches (special_row (H.Con c) (length us) ps) (us ++ vs)
  con-row [] = refl
  con-row (p ∷ ps) = ap (λ b. b && row_matches ps vs) (opened p v) ∙ con-layer (out-Pat p) ps

-- S, at a number -----------------------------------------------------------------------------

module _ (k : ℕ) (vs : List Value) (v : Value) (is : out-Value v ≡ V.Num k) where
  num-front : (rest : List Pat) (b : Bool) → (b && row_matches rest vs) ≡ row_or_none_matches (if b then Some rest else None) vs
  num-front rest true = refl
  num-front rest false = refl

  num-layer : (l : Pat-F Pat) (rest : List Pat) → (open_matches l v && row_matches rest vs) ≡ row_or_none_matches (special_of_layer (H.Num k) 0 rest l) vs
  num-layer (P.Wild at) rest = refl
  num-layer (P.Var at x) rest = refl
  num-layer (P.Num at m) rest = ap (λ l. is_number m l && row_matches rest vs) is ∙ num-front rest (m == k)
  num-layer (P.Con at d qs) rest = ap (λ l. is_con d.con (map matches_of qs) l && row_matches rest vs) is

  num-row : (ps : List Pat) → row_matches ps (v ∷ vs) ≡ row_or_none_matches (special_row (H.Num k) 0 ps) vs
  num-row [] = refl
  num-row (p ∷ ps) = ap (λ b. b && row_matches ps vs) (opened p v) ∙ num-layer (out-Pat p) ps

-- S at any value that begins with the head: its subvalues stand in its place
module _ (v : Value) (vs : List Value) (ps : List Pat) where
  layer-row : (h : Head) (l : V.Value-F Value) → out-Value v ≡ l → layer_begins h l ≡ true
      → row_matches ps (v ∷ vs) ≡ row_or_none_matches (special_row h (length (subs_in l)) ps) (subs_in l ++ vs)
  layer-row (H.Num m) (V.Num n) is e =
      num-row n vs v is ps ∙ ap (λ i. row_or_none_matches (special_row (H.Num i) 0 ps) vs) (sym (eqb-true m n e))
  layer-row (H.Num m) (V.Con k us) is e = absurd (false≢true e)
  layer-row (H.Con c) (V.Num n) is e = absurd (false≢true e)
  layer-row (H.Con c) (V.Con k us) is e =
      con-row c us vs v (is ∙ ap (λ i. V.Con i us) (sym (eqb-true c.con k e))) ps

  pub special-row : (h : Head) → begins h v ≡ true → row_matches ps (v ∷ vs) ≡ row_or_none_matches (special_row h (length (subs v)) ps) (subs v ++ vs)
  special-row h e = layer-row h (out-Value v) refl e

-- D, at a value whose head the row does not begin with -------------------------------------------

num-not : (k : ℕ) (l : V.Value-F Value) → layer_begins (H.Num k) l ≡ false → is_number k l ≡ false
num-not k (V.Num m) e = e
num-not k (V.Con c us) e = refl

con-not : (d : ConRef) (ts : List (Value → Bool)) (l : V.Value-F Value) → layer_begins (H.Con d) l ≡ false → is_con d.con ts l ≡ false
con-not d ts (V.Num m) e = refl
con-not d ts (V.Con c us) e = ap (λ b. b && all_pass ts us) e

module _ (v : Value) (vs : List Value) where
  default-layer : (l : Pat-F Pat) (rest : List Pat) → option_begins (layer_head l) (out-Value v) ≡ false
      → (open_matches l v && row_matches rest vs) ≡ row_or_none_matches (default_of_layer rest l) vs
  default-layer (P.Wild at) rest e = refl
  default-layer (P.Var at x) rest e = refl
  default-layer (P.Num at k) rest e = ap (λ b. b && row_matches rest vs) (num-not k (out-Value v) e)
  default-layer (P.Con at d qs) rest e = ap (λ b. b && row_matches rest vs) (con-not d (map matches_of qs) (out-Value v) e)

  pub default-row : (ps : List Pat) → option_begins (row_head ps) (out-Value v) ≡ false → row_matches ps (v ∷ vs) ≡ row_or_none_matches (default_row ps) vs
  default-row [] e = refl
  default-row (p ∷ ps) e = ap (λ b. b && row_matches ps vs) (opened p v) ∙ default-layer (out-Pat p) ps e

  -- a row that does not match has no default row that does, whatever the value begins with
  less-layer : (l : Pat-F Pat) (rest : List Pat) → (open_matches l v && row_matches rest vs) ≡ false → row_or_none_matches (default_of_layer rest l) vs ≡ false
  less-layer (P.Wild at) rest e = e
  less-layer (P.Var at x) rest e = e
  less-layer (P.Num at k) rest e = refl
  less-layer (P.Con at d qs) rest e = refl

  less-row : (ps : List Pat) → row_matches ps (v ∷ vs) ≡ false → row_or_none_matches (default_row ps) vs ≡ false
  less-row [] e = refl
  less-row (p ∷ ps) e = less-layer (out-Pat p) ps (ap (λ b. b && row_matches ps vs) (sym (opened p v)) ∙ e)

  -- a row that begins with another head than the value does not match
  other-layer : (l : Pat-F Pat) (rest : List Pat) (h : Head) → layer_head l ≡ Some h → layer_begins h (out-Value v) ≡ false → (open_matches l v && row_matches rest vs) ≡ false
  other-layer (P.Wild at) rest h is e = cc
  other-layer (P.Var at x) rest h is e = cc
  other-layer (P.Num at k) rest h is e =
      ap (λ b. b && row_matches rest vs) (num-not k (out-Value v) (ap (λ o. option_begins o (out-Value v)) is ∙ e))
  other-layer (P.Con at d qs) rest h is e =
      ap (λ b. b && row_matches rest vs) (con-not d (map matches_of qs) (out-Value v) (ap (λ o. option_begins o (out-Value v)) is ∙ e))

  other-row : (ps : List Pat) (h : Head) → row_head ps ≡ Some h → layer_begins h (out-Value v) ≡ false → row_matches ps (v ∷ vs) ≡ false
  other-row [] h is e = refl
  other-row (p ∷ ps) h is e = ap (λ b. b && row_matches ps vs) (opened p v) ∙ other-layer (out-Pat p) ps h is e

-- Matrices ---------------------------------------------------------------------------------------

-- each row is in order
abbrev pub AllFine : (List Pat → Bool) → List (List Pat) → Type 0
AllFine fine [] = Unit {0}
AllFine fine (r ∷ rs) = (fine r ≡ false) × AllFine fine rs

abbrev pub never : List Pat → Bool
never r = false

pub all-never : (rs : List (List Pat)) → AllFine never rs
all-never [] = tt
all-never (r ∷ rs) = (refl, all-never rs)

-- rows and what becomes of them, which match alike
module _ (new_row : List Pat → Option (List Pat)) (new_rows : List (List Pat) → List (List Pat))
    (none : new_rows [] ≡ []) (more : (r : List Pat) (rs : List (List Pat)) → new_rows (r ∷ rs) ≡ keep (new_row r) (new_rows rs))
    (bad : List Pat → Bool) (ws xs : List Value) (same : (r : List Pat) → bad r ≡ false → row_matches r ws ≡ row_or_none_matches (new_row r) xs) where
  any-keep : (o : Option (List Pat)) (rs : List (List Pat)) → any_row (keep o rs) xs ≡ (row_or_none_matches o xs || any_row rs xs)
  any-keep None rs = refl
  any-keep (Some r) rs = refl

  pub any-new : (rs : List (List Pat)) → AllFine bad rs → any_row rs ws ≡ any_row (new_rows rs) xs
  any-new [] f = ap (λ l. any_row l xs) (sym none)
  any-new (r ∷ rs) f = ap (λ b. b || any_row rs ws) (same r f.0) ∙ ap (λ b. row_or_none_matches (new_row r) xs || b) (any-new rs f.1)
      ∙ sym (any-keep (new_row r) (new_rows rs)) ∙ ap (λ l. any_row l xs) (sym (more r rs))

  keep-length : (o : Option (List Pat)) (rs : List (List Pat)) → length (keep o rs) ≤ suc (length rs)
  keep-length None rs = omega arith
  keep-length (Some r) rs = omega arith

  pub new-length : (rs : List (List Pat)) → length (new_rows rs) ≤ length rs
  new-length [] = rw none (omega arith)
  new-length (r ∷ rs) = let h = new-length rs in let k = keep-length (new_row r) (new_rows rs) in rw (more r rs) (omega (arith, h, k))

  all-keep : (o : Option (List Pat)) (rs : List (List Pat)) (n : ℕ) → length rs ≤ n → length (keep o rs) ≡ suc n → (all_rows (keep o rs) xs ≡ (row_or_none_matches o xs && all_rows rs xs)) × (length rs ≡ n)
  all-keep None rs n le e = absurd (omega (arith, le, e))
  all-keep (Some r) rs n le e = (refl, omega (arith, e))

  -- where no row falls away
  pub all-new : (rs : List (List Pat)) → AllFine bad rs → length (new_rows rs) ≡ length rs → all_rows rs ws ≡ all_rows (new_rows rs) xs
  all-new [] f e = ap (λ l. all_rows l xs) (sym none)
  all-new (r ∷ rs) f e =
      let k = all-keep (new_row r) (new_rows rs) (length rs) (new-length rs) (ap (λ l. length l) (sym (more r rs)) ∙ e) in
      ap (λ b. b && all_rows rs ws) (same r f.0) ∙ ap (λ b. row_or_none_matches (new_row r) xs && b) (all-new rs f.1 k.1)
      ∙ sym k.0 ∙ ap (λ l. all_rows l xs) (sym (more r rs))

  none-keep : (o : Option (List Pat)) (rs : List (List Pat)) (n : ℕ) → length (keep o rs) < suc n → (row_or_none_matches o xs ≡ false) ⊎ (length rs < n)
  none-keep None rs n lt = inl refl
  none-keep (Some r) rs n lt = inr (omega (arith, lt))

  -- where one falls away
  pub lost-new : (rs : List (List Pat)) → AllFine bad rs → length (new_rows rs) < length rs → all_rows rs ws ≡ false
  lost-new [] f lt = absurd (omega (arith, lt))
  lost-new (r ∷ rs) f lt =
      elim (none-keep (new_row r) (new_rows rs) (length rs) (subst (λ l. length l < suc (length rs)) (more r rs) lt)) [
        | inl e ↦ ap (λ b. b && all_rows rs ws) (same r f.0 ∙ e)
        | inr h ↦ ap (λ b. row_matches r ws && b) (lost-new rs f.1 h) ∙ and-false (row_matches r ws)
      ]

-- S at a value that begins with the head
module _ (h : Head) (v : Value) (vs : List Value) (is : begins h v ≡ true) where
  pub special-any : (rs : List (List Pat)) → any_row rs (v ∷ vs) ≡ any_row (special h (length (subs v)) rs) (subs v ++ vs)
  special-any rs = any-new (special_row h (length (subs v))) (special h (length (subs v))) refl (λ r rs. refl) never (v ∷ vs) (subs v ++ vs) (λ r f. special-row v vs r h is) rs (all-never rs)

  pub special-all : (rs : List (List Pat)) → length (special h (length (subs v)) rs) ≡ length rs → all_rows rs (v ∷ vs) ≡ all_rows (special h (length (subs v)) rs) (subs v ++ vs)
  special-all rs = all-new (special_row h (length (subs v))) (special h (length (subs v))) refl (λ r rs. refl) never (v ∷ vs) (subs v ++ vs) (λ r f. special-row v vs r h is) rs (all-never rs)

  pub special-lost : (rs : List (List Pat)) → length (special h (length (subs v)) rs) < length rs → all_rows rs (v ∷ vs) ≡ false
  special-lost rs = lost-new (special_row h (length (subs v))) (special h (length (subs v))) refl (λ r rs. refl) never (v ∷ vs) (subs v ++ vs) (λ r f. special-row v vs r h is) rs (all-never rs)

pub special-length : (h : Head) (n : ℕ) (rs : List (List Pat)) → length (special h n rs) ≤ length rs
special-length h n [] = omega arith
special-length h n (r ∷ rs) = let a = special-length h n rs in let b = kept (special_row h n r) (special h n rs) in omega (arith, a, b)
  where
    kept : (o : Option (List Pat)) (rs : List (List Pat)) → length (keep o rs) ≤ suc (length rs)
    kept None rs = omega arith
    kept (Some r) rs = omega arith

-- D at a value whose head stands nowhere in the first column
module _ (v : Value) (vs : List Value) where
  fine : (rs : List (List Pat)) → column_begins rs (out-Value v) ≡ false → AllFine (λ r. option_begins (row_head r) (out-Value v)) rs
  fine [] e = tt
  fine (r ∷ rs) e = (or-false-left _ (column_begins rs (out-Value v)) e, fine rs (or-false-right (option_begins (row_head r) (out-Value v)) _ e))

  pub default-any : (rs : List (List Pat)) → column_begins rs (out-Value v) ≡ false → any_row rs (v ∷ vs) ≡ any_row (defaults rs) vs
  default-any rs e = any-new default_row defaults refl (λ r rs. refl) (λ r. option_begins (row_head r) (out-Value v)) (v ∷ vs) vs (default-row v vs) rs (fine rs e)

  pub default-all : (rs : List (List Pat)) → column_begins rs (out-Value v) ≡ false → length (defaults rs) ≡ length rs → all_rows rs (v ∷ vs) ≡ all_rows (defaults rs) vs
  default-all rs e = all-new default_row defaults refl (λ r rs. refl) (λ r. option_begins (row_head r) (out-Value v)) (v ∷ vs) vs (default-row v vs) rs (fine rs e)

  pub default-lost : (rs : List (List Pat)) → column_begins rs (out-Value v) ≡ false → length (defaults rs) < length rs → all_rows rs (v ∷ vs) ≡ false
  default-lost rs e = lost-new default_row defaults refl (λ r rs. refl) (λ r. option_begins (row_head r) (out-Value v)) (v ∷ vs) vs (default-row v vs) rs (fine rs e)

  -- where no row matches, no default row does, whatever the value begins with
  pub default-less : (rs : List (List Pat)) → any_row rs (v ∷ vs) ≡ false → any_row (defaults rs) vs ≡ false
  default-less [] e = refl
  default-less (r ∷ rs) e = kept (default_row r) (less-row v vs r (or-false-left _ (any_row rs (v ∷ vs)) e)) (default-less rs (or-false-right (row_matches r (v ∷ vs)) _ e))
    where
      kept : (o : Option (List Pat)) → row_or_none_matches o vs ≡ false → any_row (defaults rs) vs ≡ false → any_row (keep o (defaults rs)) vs ≡ false
      kept None i h = h
      kept (Some r) i h = ap (λ b. b || any_row (defaults rs) vs) i ∙ h

  -- where the first head of the column is not the value's, its row does not match
  pub first-lost : (rs : List (List Pat)) (h : Head) → first_head rs ≡ Some h → begins h v ≡ false → all_rows rs (v ∷ vs) ≡ false
  first-lost [] h is e = cc
  first-lost (r ∷ rs) h is e = by (row_head r) refl is (λ f. first-lost rs h f e)
    where
      by : (o : Option Head) → row_head r ≡ o → option_or o (first_head rs) ≡ Some h → (first_head rs ≡ Some h → all_rows rs (v ∷ vs) ≡ false) → all_rows (r ∷ rs) (v ∷ vs) ≡ false
      by None f is rest = ap (λ b. row_matches r (v ∷ vs) && b) (rest is) ∙ and-false (row_matches r (v ∷ vs))
      by (Some g) f is rest = ap (λ b. b && all_rows rs (v ∷ vs)) (other-row v vs r h (f ∙ is) e)

pub defaults-length : (rs : List (List Pat)) → length (defaults rs) ≤ length rs
defaults-length [] = omega arith
defaults-length (r ∷ rs) = let a = defaults-length rs in let b = kept (default_row r) (defaults rs) in omega (arith, a, b)
  where
    kept : (o : Option (List Pat)) (rs : List (List Pat)) → length (keep o rs) ≤ suc (length rs)
    kept None rs = omega arith
    kept (Some r) rs = omega arith

-- no head in the column
pub no-head : (rs : List (List Pat)) (l : V.Value-F Value) → first_head rs ≡ None → column_begins rs l ≡ false
no-head [] l is = refl
no-head (r ∷ rs) l is = by (row_head r) is (λ f. no-head rs l f)
  where
    by : (o : Option Head) → option_or o (first_head rs) ≡ None → (first_head rs ≡ None → column_begins rs l ≡ false) → (option_begins o l || column_begins rs l) ≡ false
    by None is rest = rest is
    by (Some g) is rest = cc
