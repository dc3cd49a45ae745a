-- Of the functions of code with the program's names, each is the first one of its name.
use Rattle.std.proofs.Common.{◌≡◌, ◌<◌, ◌+◌, ℕ, zero, suc, Bool, true, false, not, ◌||◌, cond, List, [], ◌∷◌, map, length, Some, None, refl, sym, ap, ◌∙◌, arith}
use Rattle.std.proofs.lemmas.Bool.Decides.{nat_tests}
use Rattle.std.proofs.lemmas.Option.{same_Some}
use Rattle.std.proofs.lemmas.Slice.Eq.{bytes_eq-Decides}
use Rattle.std.specs.List.{list_any, position, position_or_len}
use Rattle.std.specs.Prelude.{slice_get, nat_lt}
use Rattle.std.specs.Str.{bytes_eq}
use Rattle.std.proofs.lemmas.Bool.{and_parts}
use Rattle.rb_core.specs.WellNumbered.{is_distinct}
use Rattle.rb_core.specs.declared.program.Fun.{Fun}
use Rattle.rb_target.specs.declared.code.CodeFun.{CodeFun}

abbrev names_of : List Fun → List (List ℕ)
names_of fs = map (λ f. f.name) fs

-- functions of the code have the names of those of the program
abbrev pub HaveNames : List Fun → List CodeFun → Type 0
HaveNames fs qs = (g : ℕ) (f : Fun) → slice_get fs g ≡ Some f → (q : CodeFun) × (slice_get qs g ≡ Some q) × (q.name ≡ f.name)

neither : (a b : Bool) → (a || b) ≡ false → (a ≡ false) × (b ≡ false)
neither true b e = absurd cc
neither false b e = (refl, e)

is_false : (b : Bool) → not b ≡ true → b ≡ false
is_false true e = absurd cc
is_false false e = refl

named_at : (fs : List Fun) (k : ℕ) (f : Fun) → slice_get fs k ≡ Some f → slice_get (names_of fs) k ≡ Some f.name
named_at [] k f at = absurd cc
named_at (x ∷ fs) zero f at = ap (λ (y : Fun). Some y.name) (same_Some x f at)
named_at (x ∷ fs) (suc k) f at = named_at fs k f at

-- a name that is none of these is not the one at a place
other_name : (x : List ℕ) (names : List (List ℕ)) (k : ℕ) (y : List ℕ) → list_any (bytes_eq x) names ≡ false → slice_get names k ≡ Some y → bytes_eq x y ≡ false
other_name x [] k y none at = absurd cc
other_name x (n ∷ names) zero y none at = ap (bytes_eq x) (sym (same_Some n y at)) ∙ (neither (bytes_eq x n) (list_any (bytes_eq x) names) none).0
other_name x (n ∷ names) (suc k) y none at = other_name x names k y (neither (bytes_eq x n) (list_any (bytes_eq x) names) none).1 at

module _ (name : List ℕ) where
  abbrev named : CodeFun → Bool
  named q = bytes_eq q.name name

  found : (q : CodeFun) (qs : List CodeFun) (b : Bool) → named q ≡ b → position_or_len named (q ∷ qs) ≡ cond (not b) (1 + position_or_len named qs) 0
  found q qs b is = ap (λ c. cond (not c) (1 + position_or_len named qs) 0) is

  first : (fs : List Fun) (qs : List CodeFun) → HaveNames fs qs → is_distinct bytes_eq (names_of fs) ≡ true
      → (g : ℕ) (f : Fun) → slice_get fs g ≡ Some f → f.name ≡ name → (position_or_len named qs ≡ g) × (g < length qs)
  first [] qs have distinct g f at is = absurd cc
  first (x ∷ fs) [] have distinct g f at is = let h = have 0 x refl in absurd (cc h.1)
  first (x ∷ fs) (q ∷ qs) have distinct zero f at is =
      let h = have 0 x refl in
      let own : q.name ≡ name = ap (λ (r : CodeFun). r.name) (same_Some q h.0 h.1) ∙ h.2 ∙ ap (λ (y : Fun). y.name) (same_Some x f at) ∙ is in
      (found q qs true ((bytes_eq-Decides q.name name).1 own), omega arith)
  first (x ∷ fs) (q ∷ qs) have distinct (suc k) f at is =
      let h = have 0 x refl in
      let apart = and_parts (not (list_any (bytes_eq x.name) (names_of fs))) (is_distinct bytes_eq (names_of fs)) distinct in
      let other = other_name x.name (names_of fs) k f.name (is_false (list_any (bytes_eq x.name) (names_of fs)) apart.0) (named_at fs k f at) in
      let own : q.name ≡ x.name = ap (λ (r : CodeFun). r.name) (same_Some q h.0 h.1) ∙ h.2 in
      let fails : named q ≡ false = ap (λ n. bytes_eq n name) own ∙ ap (bytes_eq x.name) (sym is) ∙ other in
      let rest = first fs qs (λ j y e. have (suc j) y e) apart.1 k f at is in
      (found q qs false fails ∙ ap (λ n. 1 + n) rest.0 ∙ omega arith, omega (arith, rest.1))

pub first_of_name : (fs : List Fun) (qs : List CodeFun) → HaveNames fs qs → is_distinct bytes_eq (names_of fs) ≡ true
    → (g : ℕ) (f : Fun) → slice_get fs g ≡ Some f → position (λ q. bytes_eq q.name f.name) qs ≡ Some g
first_of_name fs qs have distinct g f at =
    let is = first f.name fs qs have distinct g f at refl in
    let within : nat_lt g (length qs) ≡ true = grind (arith, nat_tests, is.1) in
    ap (λ n. cond (nat_lt n (length qs)) (Some n) None) is.0 ∙ ap (λ b. cond b (Some g) None) within
