-- What sets of numbers say of heads and of patterns that were gone over.
use Rattle.std.proofs.Common.{◌≡◌, ℕ, zero, suc, ◌+◌, ◌^◌, List, [], ◌∷◌, ◌++◌, take, length, Bool, true, false, ◌&&◌, ◌||◌, ◌==◌, not, Some, None, refl, sym, ap, ◌∙◌, arith, subst, add-one}
use Rattle.std.specs.Prelude.{slice_get, is_some, nat_lt, if◌then◌else◌, cond}
use Rattle.std.specs.Ordering.{nat_cmp, is_eq}
use Rattle.std.proofs.Math.Bool.{or-false, or_assoc}
use Rattle.std.proofs.lemmas.Bool.{eqb-true, eq-eqb, false≢true}
use Rattle.std.proofs.lemmas.Bool.Decides.{nat_tests}
use Rattle.rb_core.specs.declared.value.Value.{Value, Num, out-Value}
use Rattle.rb_core.specs.declared.value.Value.TheOpen as V
use Rattle.rb_core.specs.declared.types.DataDecl.{DataDecl}
use Rattle.rb_core.specs.declared.types.Ty.{Ty}
use Rattle.rb_core.specs.declared.types.Ty.TheVariants.{Int, Named}
use Rattle.rb_core.specs.declared.pattern.Pat.{Pat, out-Pat}
use Rattle.rb_core.specs.declared.pattern.Pat as Pats
use Rattle.rb_core.specs.declared.pattern.Pat.TheOpen as P
use Rattle.rb_core.specs.declared.pattern.Pat.TheOpen.{Pat-F}
use Rattle.rb_core.specs.Matching.{matches_of, chosen_clause, is_number, is_con, IsUnreached}
use Rattle.rb_core.specs.Values.{is_of_type}
use Rattle.rb_matrix.specs.declared.matrix.Head.TheVariants as H
use Rattle.rb_matrix.specs.declared.passed.Passed.{Passed}
use Rattle.rb_matrix.specs.inner.OneColumn.{any_matches, IsReachAnswer}
use Rattle.rb_matrix.specs.Heads.{fields_at}
use Rattle.rb_matrix.specs.inner.Open.{layer_open}
use Rattle.rb_matrix.specs.Known.{has}
use Rattle.rb_matrix.specs.inner.Indexes.{BothExtend}
use Rattle.rb_matrix.specs.inner.Passed.{layer_number, some_open, some_number, ArePassed}
use Rattle.rb_matrix.proofs.Differing.{take-suc}
use Rattle.rb_matrix.proofs.Exhausts.{first-chosen, chosen-first}
use Rattle.rb_matrix.proofs.Inhabited.{out-num}
use Rattle.rb_matrix.proofs.Laws.{opened, open_matches}
use Rattle.rb_matrix.proofs.Vectors.{and-left, num-matches, num-of, num-of_int}

-- Sets -------------------------------------------------------------------------------------------

pub with-number : (b : Bool) (k n : ℕ) → cond (is_eq (nat_cmp k n)) true b ≡ (b || (k == n))
with-number true k n = by (is_eq (nat_cmp k n))
  where
    by : (c : Bool) → cond c true true ≡ true
    by true = refl
    by false = refl
with-number false k n = grind (arith, nat_tests)

pub or-true : (b : Bool) → true ≡ (b || true)
or-true true = refl
or-true false = refl

-- Patterns that were gone over -------------------------------------------------------------------

or-both : (a b c d : Bool) → ((a || b) || (c || d)) ≡ ((a || c) || (b || d))
or-both true b c d = refl
or-both false true true d = refl
or-both false true false d = refl
or-both false false true d = refl
or-both false false false d = refl

some_open-append : (ps : List Pat) (p : Pat) → some_open (ps ++ p ∷ []) ≡ (some_open ps || layer_open (out-Pat p))
some_open-append [] p = or-false (layer_open (out-Pat p))
some_open-append (q ∷ ps) p = ap (λ b. layer_open (out-Pat q) || b) (some_open-append ps p) ∙ sym (or_assoc (layer_open (out-Pat q)) (some_open ps) (layer_open (out-Pat p)))

some_number-append : (ps : List Pat) (p : Pat) (n : ℕ) → some_number (ps ++ p ∷ []) n ≡ (some_number ps n || layer_number (out-Pat p) n)
some_number-append [] p n = or-false (layer_number (out-Pat p) n)
some_number-append (q ∷ ps) p n = ap (λ b. layer_number (out-Pat q) n || b) (some_number-append ps p n) ∙ sym (or_assoc (layer_number (out-Pat q) n) (some_number ps n) (layer_number (out-Pat p) n))

take-length : (ps : List Pat) (i : ℕ) (p : Pat) → slice_get ps i ≡ Some p → length (take i ps) ≡ i
take-length [] i p at = absurd cc
take-length (q ∷ ps) zero p at = refl
take-length (q ∷ ps) (suc i) p at = ap suc (take-length ps i p at)

pub passed-more : (ps : List Pat) (i : ℕ) (p : Pat) (old new : Passed) → slice_get ps i ≡ Some p → ArePassed (take i ps) old
    → new.all ≡ (old.all || layer_open (out-Pat p)) → ((n : ℕ) → has new.numbers n ≡ (has old.numbers n || layer_number (out-Pat p) n))
    → BothExtend i p old.indexes new.indexes → ArePassed (take (i + 1) ps) new
passed-more ps i p old new at known all numbers more =
    subst (λ qs. ArePassed qs new) (sym (ap (λ k. take k ps) (add-one i) ∙ take-suc ps i p at)) (record {
      all = all ∙ ap (λ b. b || layer_open (out-Pat p)) known.all ∙ sym (some_open-append (take i ps) p);
      numbers = λ n. numbers n ∙ ap (λ b. b || layer_number (out-Pat p) n) (known.numbers n) ∙ sym (some_number-append (take i ps) p n);
      indexes = record {
        first = more.first (take i ps) (take-length ps i p at) known.indexes.first;
        second = more.second (take i ps) (take-length ps i p at) known.indexes.second;
      };
    })

-- a pattern at a number
layer-at : (l : Pat-F Pat) (v : Value) (n : ℕ) → out-Value v ≡ V.Num n → open_matches l v ≡ (layer_open l || layer_number l n)
layer-at (P.Wild at) v n is = refl
layer-at (P.Var at x) v n is = refl
layer-at (P.Num at k) v n is = ap (is_number k) is
layer-at (P.Con at c qs) v n is = ap (is_con c.con _) is

number-any : (ps : List Pat) (v : Value) (n : ℕ) → out-Value v ≡ V.Num n → any_matches ps v ≡ (some_open ps || some_number ps n)
number-any [] v n is = refl
number-any (p ∷ ps) v n is = ap (λ b. b || any_matches ps v) (opened p v ∙ layer-at (out-Pat p) v n is)
    ∙ ap (λ b. (layer_open (out-Pat p) || layer_number (out-Pat p) n) || b) (number-any ps v n is)
    ∙ or-both (layer_open (out-Pat p)) (layer_number (out-Pat p) n) (some_open ps) (some_number ps n)

-- a pattern without a head
open-layer : (l : Pat-F Pat) (v : Value) → layer_open l ≡ true → open_matches l v ≡ true
open-layer (P.Wild at) v h = refl
open-layer (P.Var at x) v h = refl
open-layer (P.Num at n) v h = absurd (false≢true h)
open-layer (P.Con at c ps) v h = absurd (false≢true h)

open-any : (ps : List Pat) (v : Value) → some_open ps ≡ true → any_matches ps v ≡ true
open-any [] v h = absurd (false≢true h)
open-any (p ∷ ps) v h = by (layer_open (out-Pat p)) refl h (open-any ps v)
  where
    by : (b : Bool) → layer_open (out-Pat p) ≡ b → (b || some_open ps) ≡ true → (some_open ps ≡ true → any_matches ps v ≡ true) → (matches_of p v || any_matches ps v) ≡ true
    by true e h rest = ap (λ b. b || any_matches ps v) (opened p v ∙ open-layer (out-Pat p) v e)
    by false e h rest = ap (λ b. matches_of p v || b) (rest h) ∙ sym (or-true (matches_of p v))

-- One more pattern behind them -------------------------------------------------------------------

-- what is of the type
fits-some : (b : Bool) (fs : List Ty) → is_some (if b then Some fs else None) ≡ b
fits-some true fs = refl
fits-some false fs = refl

number-of : (types : List DataDecl) (ty : Ty) (v : Value) (n : ℕ) → out-Value v ≡ V.Num n → is_of_type types v ty ≡ is_some (fields_at types ty (H.Num n))
number-of types (Int bits) v n is = num-of_int types v n bits is ∙ sym (fits-some (nat_lt n (2 ^ bits)) [])
number-of types (Named t) v n is = num-of types v n t is

is-number : (k : ℕ) (l : V.Value-F Value) → is_number k l ≡ true → l ≡ V.Num k
is-number k (V.Num m) h = ap V.Num (sym (eqb-true k m h))
is-number k (V.Con c us) h = absurd (false≢true h)

not-both : (a b : Bool) → (a && not b) ≡ true → b ≡ true → ⊥
not-both true true h e = false≢true h
not-both true false h e = false≢true e
not-both false b h e = false≢true h

module _ (types : List DataDecl) (ty : Ty) (ps : List Pat) (i : ℕ) (p : Pat) (at : slice_get ps i ≡ Some p) (s : Passed) (known : ArePassed (take i ps) s) where
  -- one of them matches every value
  pub all-passed : s.all ≡ true → IsUnreached types ty ps i
  all-passed e v of chosen = not-both (matches_of p v) (any_matches (take i ps) v) (chosen-first ps i p v at chosen) (open-any (take i ps) v (sym known.all ∙ e))

  module _ (first n : ℕ) (is : p ≡ Pats.Num first n) where
    pub value-is : (v : Value) → chosen_clause ps v ≡ Some i → out-Value v ≡ V.Num n
    value-is v chosen =
        let hit : matches_of p v ≡ true = and-left (matches_of p v) (not (any_matches (take i ps) v)) (chosen-first ps i p v at chosen) in
        is-number n (out-Value v) (sym (ap (λ q. matches_of q v) is ∙ num-matches first n v) ∙ hit)

    any-at : (v : Value) → out-Value v ≡ V.Num n → any_matches (take i ps) v ≡ (s.all || has s.numbers n)
    any-at v e = number-any (take i ps) v n e ∙ ap (λ b. b || some_number (take i ps) n) (sym known.all) ∙ ap (λ b. s.all || b) (sym (known.numbers n))

    pub number-answer : s.all ≡ false → (b : Bool) → b ≡ (not (has s.numbers n) && is_some (fields_at types ty (H.Num n))) → IsReachAnswer types ty ps i b
    number-answer none b e = by (has s.numbers n) (is_some (fields_at types ty (H.Num n))) refl refl b e
      where
        by : (h f : Bool) → has s.numbers n ≡ h → is_some (fields_at types ty (H.Num n)) ≡ f → (b : Bool) → b ≡ (not h && f) → IsReachAnswer types ty ps i b
        by true f here fits b e = subst (IsReachAnswer types ty ps i) (sym e) (λ v of chosen.
            not-both (matches_of p v) (any_matches (take i ps) v) (chosen-first ps i p v at chosen) (any-at v (value-is v chosen) ∙ ap (λ c. s.all || c) here ∙ sym (or-true s.all)))
        by false false here fits b e = subst (IsReachAnswer types ty ps i) (sym e) (λ v of chosen.
            false≢true (sym (number-of types ty v n (value-is v chosen) ∙ fits) ∙ of))
        by false true here fits b e = subst (IsReachAnswer types ty ps i) (sym e) (record {
          value = Num n;
          typed = number-of types ty (Num n) n (out-num n) ∙ fits;
          chosen = first-chosen ps i p (Num n) at (ap (λ q. matches_of q (Num n)) is ∙ num-matches first n (Num n) ∙ ap (is_number n) (out-num n) ∙ eq-eqb n n refl)
              (any-at (Num n) (out-num n) ∙ ap (λ c. c || has s.numbers n) none ∙ here);
        })
