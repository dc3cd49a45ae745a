-- Vectors of values and rows of patterns by their types.
use Rattle.std.proofs.Common.{◌≡◌, ℕ, suc, ◌^◌, ◌≤◌, List, [], ◌∷◌, ◌++◌, map, take, drop, length, Bool, true, false, ◌&&◌, refl, sym, ap, ◌∙◌, arith}
use Rattle.std.specs.Prelude.{slice_get, nat_lt}
use Rattle.std.proofs.Math.Bool.{and_assoc}
use Rattle.std.proofs.lemmas.Bool.{false≢true, eq-eqb}
use Rattle.std.proofs.lemmas.List.{take-append-drop, length-take}
use Rattle.rb_core.specs.declared.value.Value.{Value, out-Value, map-Value}
use Rattle.rb_core.specs.declared.value.Value.TheOpen as V
use Rattle.rb_core.specs.declared.value.Value.TheFolds.{fold_out-Value}
use Rattle.rb_core.specs.declared.types.ConRef.{ConRef}
use Rattle.rb_core.specs.declared.types.DataDecl.{DataDecl}
use Rattle.rb_core.specs.declared.types.Ty.{Ty}
use Rattle.rb_core.specs.declared.types.Ty.TheVariants.{Int, Named}
use Rattle.rb_core.specs.declared.pattern.Pat.{Pat, Wild, out-Pat, map-Pat}
use Rattle.rb_core.specs.declared.pattern.Pat as Pats
use Rattle.rb_core.specs.declared.pattern.Pat.TheFolds.{fold_out-Pat}
use Rattle.rb_core.specs.declared.pattern.Pat.TheVariants as PV
use Rattle.rb_core.specs.Matching.{matches_of, matches_step, is_number, is_con}
use Rattle.rb_core.specs.Values.{is_of_type, of_type_step, all_of_types, are_of, fields_in, fields_of}
use Rattle.rb_matrix.specs.Rows.{row_matches, vector_of}
use Rattle.rb_matrix.specs.Specialize.{wilds}
use Rattle.rb_matrix.specs.Search.{is_plain, plain_step, row_plain}
use Rattle.rb_matrix.proofs.Laws.{opened, row-append}

pub and-left : (a b : Bool) → (a && b) ≡ true → a ≡ true
and-left true b h = refl
and-left false b h = h

pub and-right : (a b : Bool) → (a && b) ≡ true → b ≡ true
and-right true b h = h
and-right false b h = absurd (false≢true h)

-- tests of types, one after another
pub types-append : (fs ts : List Ty) (us vs : List (Ty → Bool)) → length us ≡ length fs → all_of_types (us ++ vs) (fs ++ ts) ≡ (all_of_types us fs && all_of_types vs ts)
types-append [] ts [] vs e = refl
types-append [] ts (u ∷ us) vs e = absurd (omega (arith, e))
types-append (f ∷ fs) ts [] vs e = absurd (omega (arith, e))
types-append (f ∷ fs) ts (u ∷ us) vs e = ap (λ b. u f && b) (types-append fs ts us vs (omega (arith, e))) ∙ sym (and_assoc (u f) (all_of_types us fs) (all_of_types vs ts))

pub types-length : (ts : List Ty) (vs : List (Ty → Bool)) → all_of_types vs ts ≡ true → length vs ≡ length ts
types-length [] [] h = refl
types-length [] (v ∷ vs) h = absurd (false≢true h)
types-length (t ∷ ts) [] h = absurd (false≢true h)
types-length (t ∷ ts) (v ∷ vs) h = ap suc (types-length ts vs (and-right (v t) (all_of_types vs ts) h))

map-append : {A B : Type 0} (f : A → B) (xs ys : List A) → map f (xs ++ ys) ≡ map f xs ++ map f ys
map-append f [] ys = refl
map-append f (x ∷ xs) ys = ap (λ l. f x ∷ l) (map-append f xs ys)

pub length-map : {A B : Type 0} (f : A → B) (xs : List A) → length (map f xs) ≡ length xs
length-map f [] = refl
length-map f (x ∷ xs) = ap suc (length-map f xs)

-- Patterns by their own layer --------------------------------------------------------------------

pub num-matches : (at n : ℕ) (v : Value) → matches_of (Pats.Num at n) v ≡ is_number n (out-Value v)
unfolding out-Pat denote.Hole.Carrier.out
num-matches at n v = opened (Pats.Num at n) v

pub con-matches : (at : ℕ) (c : ConRef) (qs : List Pat) (v : Value) → matches_of (Pats.Con at c qs) v ≡ is_con c.con (map matches_of qs) (out-Value v)
con-matches at c qs v = opened (Pats.Con at c qs) v ∙ ap (λ l. matches_step (map-Pat Pat (Value → Bool) matches_of l) v) (PV.outs-Con at c qs)

pub row-length : (ps : List Pat) (vs : List Value) → row_matches ps vs ≡ true → length ps ≡ length vs
row-length [] [] h = refl
row-length [] (v ∷ vs) h = absurd (false≢true h)
row-length (p ∷ ps) [] h = absurd (false≢true h)
row-length (p ∷ ps) (v ∷ vs) h = ap suc (row-length ps vs (and-right (matches_of p v) (row_matches ps vs) h))

pub split-row : (n : ℕ) (row : List Pat) (us vs : List Value) → length us ≡ n → n ≤ length row
    → row_matches row (us ++ vs) ≡ (row_matches (take n row) us && row_matches (drop n row) vs)
split-row n row us vs e le = ap (λ r. row_matches r (us ++ vs)) (sym (take-append-drop n row))
    ∙ row-append (take n row) (drop n row) us vs (omega (arith, length-take n row, e, le))

-- Types ------------------------------------------------------------------------------------------

module _ (types : List DataDecl) where
  pub vector-append : (fs ts : List Ty) (us vs : List Value) → length us ≡ length fs
      → vector_of types (fs ++ ts) (us ++ vs) ≡ (vector_of types fs us && vector_of types ts vs)
  vector-append fs ts us vs e = ap (λ l. all_of_types l (fs ++ ts)) (map-append (is_of_type types) us vs)
      ∙ types-append fs ts (map (is_of_type types) us) (map (is_of_type types) vs) (length-map (is_of_type types) us ∙ e)

  pub vector-length : (ts : List Ty) (vs : List Value) → vector_of types ts vs ≡ true → length vs ≡ length ts
  vector-length ts vs h = sym (length-map (is_of_type types) vs) ∙ types-length ts (map (is_of_type types) vs) h

  typed : (v : Value) (t : Ty) → is_of_type types v t ≡ of_type_step types (map-Value Value (Ty → Bool) (is_of_type types) (out-Value v)) t
  typed v t = ap (λ (f : Ty → Bool). f t) (fold_out-Value (Ty → Bool) (of_type_step types) v)

  typed_at : (v : Value) (l : V.Value-F Value) (t : Ty) → out-Value v ≡ l → is_of_type types v t ≡ of_type_step types (map-Value Value (Ty → Bool) (is_of_type types) l) t
  typed_at v l t is = typed v t ∙ ap (λ l. of_type_step types (map-Value Value (Ty → Bool) (is_of_type types) l) t) is

  pub con-of : (v : Value) (k : ℕ) (us : List Value) (t : ℕ) → out-Value v ≡ V.Con k us → is_of_type types v (Named t) ≡ are_of (map (is_of_type types) us) (fields_in (slice_get types t) k)
  con-of v k us t is = typed_at v (V.Con k us) (Named t) is

  pub con-of_int : (v : Value) (k bits : ℕ) (us : List Value) → out-Value v ≡ V.Con k us → is_of_type types v (Int bits) ≡ false
  con-of_int v k bits us is = typed_at v (V.Con k us) (Int bits) is

  pub num-of : (v : Value) (n t : ℕ) → out-Value v ≡ V.Num n → is_of_type types v (Named t) ≡ false
  num-of v n t is = typed_at v (V.Num n) (Named t) is

  pub num-of_int : (v : Value) (n bits : ℕ) → out-Value v ≡ V.Num n → is_of_type types v (Int bits) ≡ nat_lt n (2 ^ bits)
  num-of_int v n bits is = typed_at v (V.Num n) (Int bits) is

  -- plain patterns
  plain-opened : (p : Pat) (t : Ty) → is_plain types p t ≡ plain_step types (map-Pat Pat (Ty → Bool) (is_plain types) (out-Pat p)) t
  plain-opened p t = ap (λ (f : Ty → Bool). f t) (fold_out-Pat (Ty → Bool) (plain_step types) p)

  pub wild-plain : (t : Ty) → is_plain types (Wild 0) t ≡ true
  unfolding out-Pat denote.Hole.Carrier.out
  wild-plain t = plain-opened (Wild 0) t

  pub num-plain : (n bits : ℕ) → is_plain types (Pats.Num 0 n) (Int bits) ≡ nat_lt n (2 ^ bits)
  unfolding out-Pat denote.Hole.Carrier.out
  num-plain n bits = plain-opened (Pats.Num 0 n) (Int bits)

  pub con-plain : (t k : ℕ) (qs : List Pat) → is_plain types (Pats.Con 0 (record { ty = t; con = k }) qs) (Named t) ≡ are_of (map (is_plain types) qs) (fields_in (slice_get types t) k)
  con-plain t k qs =
      let c : ConRef = record { ty = t; con = k } in
      plain-opened (Pats.Con 0 c qs) (Named t)
      ∙ ap (λ l. plain_step types (map-Pat Pat (Ty → Bool) (is_plain types) l) (Named t)) (PV.outs-Con 0 c qs)
      ∙ ap (λ b. b && are_of (map (is_plain types) qs) (fields_of types c)) (eq-eqb t t refl)

  pub plain-append : (fs ts : List Ty) (ps qs : List Pat) → length ps ≡ length fs
      → row_plain types (fs ++ ts) (ps ++ qs) ≡ (row_plain types fs ps && row_plain types ts qs)
  plain-append fs ts ps qs e = ap (λ l. all_of_types l (fs ++ ts)) (map-append (is_plain types) ps qs)
      ∙ types-append fs ts (map (is_plain types) ps) (map (is_plain types) qs) (length-map (is_plain types) ps ∙ e)

  pub plain-length : (ts : List Ty) (ps : List Pat) → row_plain types ts ps ≡ true → length ps ≡ length ts
  plain-length ts ps h = sym (length-map (is_plain types) ps) ∙ types-length ts (map (is_plain types) ps) h

  pub wilds-plain : (fs : List Ty) → row_plain types fs (wilds (length fs)) ≡ true
  wilds-plain [] = refl
  wilds-plain (f ∷ fs) = ap (λ b. b && row_plain types fs (wilds (length fs))) (wild-plain f) ∙ wilds-plain fs
