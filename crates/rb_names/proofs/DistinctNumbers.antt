-- Distinct numbers, in two lists one behind the other.
use Rattle.std.proofs.Common.{◌≡◌, ℕ, Bool, true, false, ◌||◌, not, List, [], ◌∷◌, ◌++◌, nat_eq, refl, sym, ap, ◌∙◌}
use Rattle.std.specs.List.{list_any}
use Rattle.std.proofs.lemmas.Bool.{and_parts, eqb-true, eq-eqb, or_parts, not-true}
use Rattle.rb_core.specs.WellNumbered.{is_distinct}
use Rattle.rb_names.proofs.DefiningLemmas.{any-append}

abbrev pub IsIn : ℕ → List ℕ → Type 0
IsIn n ns = list_any (nat_eq n) ns ≡ true

abbrev pub IsNotIn : ℕ → List ℕ → Type 0
IsNotIn n ns = list_any (nat_eq n) ns ≡ false

abbrev pub AreDistinct : List ℕ → Type 0
AreDistinct ns = is_distinct nat_eq ns ≡ true

pub in-or-not : (n : ℕ) (ns : List ℕ) → IsIn n ns → IsNotIn n ns → ⊥
in-or-not n ns a b = cc

pub other-way : (a b : ℕ) → nat_eq a b ≡ false → nat_eq b a ≡ false
other-way a b e = by (nat_eq b a) refl
  where
    by : (c : Bool) → nat_eq b a ≡ c → nat_eq b a ≡ false
    by true f = let same : nat_eq a b ≡ true = eq-eqb a b (sym (eqb-true b a f)) in absurd cc
    by false f = f

or-swapped : (a b c : Bool) → (a || (b || c)) ≡ (b || (a || c))
or-swapped true true c = refl
or-swapped true false c = refl
or-swapped false true c = refl
or-swapped false false c = refl

-- a number further back
any-moved : (n k : ℕ) (ns ms : List ℕ) → list_any (nat_eq n) (ns ++ k ∷ ms) ≡ (nat_eq n k || list_any (nat_eq n) (ns ++ ms))
any-moved n k [] ms = refl
any-moved n k (m ∷ ns) ms = ap (λ b. nat_eq n m || b) (any-moved n k ns ms) ∙ or-swapped (nat_eq n m) (nat_eq n k) (list_any (nat_eq n) (ns ++ ms))

pub moved-not-in : (n k : ℕ) (ns ms : List ℕ) → IsNotIn n (k ∷ (ns ++ ms)) → IsNotIn n (ns ++ k ∷ ms)
moved-not-in n k ns ms h = any-moved n k ns ms ∙ h

-- what is_distinct says of a list's first number and of the others
pub first-apart : (n : ℕ) (ns : List ℕ) → AreDistinct (n ∷ ns) → IsNotIn n ns × AreDistinct ns
first-apart n ns h = let parts = and_parts (not (list_any (nat_eq n) ns)) (is_distinct nat_eq ns) h in (not-true (list_any (nat_eq n) ns) parts.0, parts.1)

pub distinct-both : (n : ℕ) (ns : List ℕ) → IsNotIn n ns → AreDistinct ns → AreDistinct (n ∷ ns)
distinct-both n ns a b = rw (a, b) refl

pub moved-distinct : (k : ℕ) (ns ms : List ℕ) → AreDistinct (k ∷ (ns ++ ms)) → AreDistinct (ns ++ k ∷ ms)
moved-distinct k [] ms h = h
moved-distinct k (n ∷ ns) ms h =
    let a = first-apart k (n ∷ (ns ++ ms)) h in
    let b = first-apart n (ns ++ ms) a.1 in
    let c = or_parts (nat_eq k n) (list_any (nat_eq k) (ns ++ ms)) a.0 in
    let apart : IsNotIn n (k ∷ (ns ++ ms)) = rw (other-way k n c.0) b.0 in
    distinct-both n (ns ++ k ∷ ms) (moved-not-in n k ns ms apart) (moved-distinct k ns ms (distinct-both k (ns ++ ms) c.1 b.1))

-- a list without its last numbers, or without one in the middle
front-not-in : (n : ℕ) (ns ms : List ℕ) → IsNotIn n (ns ++ ms) → IsNotIn n ns
front-not-in n ns ms h = (or_parts (list_any (nat_eq n) ns) (list_any (nat_eq n) ms) (sym (any-append (nat_eq n) ns ms) ∙ h)).0

pub front-distinct : (ns ms : List ℕ) → AreDistinct (ns ++ ms) → AreDistinct ns
front-distinct [] ms h = refl
front-distinct (n ∷ ns) ms h = let a = first-apart n (ns ++ ms) h in distinct-both n ns (front-not-in n ns ms a.0) (front-distinct ns ms a.1)

pub without-distinct : (k : ℕ) (ns ms : List ℕ) → AreDistinct (ns ++ k ∷ ms) → AreDistinct (ns ++ ms)
without-distinct k [] ms h = (first-apart k ms h).1
without-distinct k (n ∷ ns) ms h =
    let a = first-apart n (ns ++ k ∷ ms) h in
    distinct-both n (ns ++ ms) (or_parts (nat_eq n k) (list_any (nat_eq n) (ns ++ ms)) (sym (any-moved n k ns ms) ∙ a.0)).1 (without-distinct k ns ms a.1)

-- a number of the second list is none of the first
pub apart-from-front : (n : ℕ) (ns ms : List ℕ) → AreDistinct (ns ++ ms) → IsIn n ms → IsNotIn n ns
apart-from-front n [] ms h is = refl
apart-from-front n (m ∷ ns) ms h is =
    let a = first-apart m (ns ++ ms) h in
    let rest = apart-from-front n ns ms a.1 is in
    by (nat_eq n m) refl rest
  where
    behind : (b : Bool) → b ≡ true → (a : Bool) → (a || b) ≡ true
    behind b e true = refl
    behind b e false = e

    by : (b : Bool) → nat_eq n m ≡ b → IsNotIn n ns → (b || list_any (nat_eq n) ns) ≡ false
    by true e rest =
        let same : n ≡ m = eqb-true n m e in
        let there : IsIn n (ns ++ ms) = any-append (nat_eq n) ns ms ∙ behind (list_any (nat_eq n) ms) is (list_any (nat_eq n) ns) in
        absurd (in-or-not m (ns ++ ms) (ap (λ k. list_any (nat_eq k) (ns ++ ms)) (sym same) ∙ there) (first-apart m (ns ++ ms) h).0)
    by false e rest = rest
