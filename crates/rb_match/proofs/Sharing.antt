-- Choosing and binding share the bound of a match.
use Rattle.std.proofs.Common.{◌≡◌, ℕ, zero, suc, ◌+◌, ◌*◌, ◌≤◌, Bool, true, false, List, [], ◌∷◌, ◌++◌, map, length, Some, refl, sym, subst, ap, ◌∙◌, arith}
use Rattle.std.specs.Prelude.{slice_get, nat_lt, if◌then◌else◌}
use Rattle.std.specs.List.{AllByRecursion}
use Rattle.rb_core.specs.declared.types.Ty.{Ty}
use Rattle.rb_core.specs.declared.types.Ty.TheVariants.{Int, Named}
use Rattle.rb_core.specs.declared.types.DataDecl.{DataDecl}
use Rattle.rb_core.specs.declared.pattern.Pat.{Pat}
use Rattle.rb_core.specs.Typing.{field_types}
use Rattle.rb_core.proofs.PatternLaws as Q
use Rattle.rb_decide.specs.Decisions.{AreDistinct}
use Rattle.rb_decide.specs.Trees.{match_tree, size}
use Rattle.rb_layout.specs.declared.layout.Layout.{Layout}
use Rattle.rb_rel.specs.Switches.{depth_of, look_of, mend_of}
use Rattle.rb_match.specs.Bounding.{BoundIsShared, binding_bound, binding_look, choosing_bound, looks_of, places_of_patterns, rounds}
use Rattle.rb_facts.specs.Looks.{TypedPosition, choosing_look, takes_none_apart, looks_with, place_below, places_below, places_in, places_step}
use Rattle.rb_facts.specs.Ways.{path_of}
use Rattle.rb_match.proofs.Bounds.{in_distinct, within_sum}
use Rattle.rb_facts.proofs.Placing.{in-flat}

-- Places of one pattern are distinct ---------------------------------------------------------------

abbrev BeginsFrom : ℕ → List ℕ → Type 0
BeginsFrom i q = (j : ℕ) × (rest : List ℕ) × (q ≡ j ∷ rest) × (i ≤ j)

all-append : {A : Type 0} (P : A → Type 0) (xs ys : List A) → AllByRecursion P xs → AllByRecursion P ys → AllByRecursion P (xs ++ ys)
all-append P [] ys a b = b
all-append P (x ∷ xs) ys a b = (a.0, all-append P xs ys a.1 b)

all-more : {A : Type 0} (P R : A → Type 0) (f : (x : A) → P x → R x) (xs : List A) → AllByRecursion P xs → AllByRecursion R xs
all-more P R f [] a = tt
all-more P R f (x ∷ xs) a = (f x a.0, all-more P R f xs a.1)

abbrev head_of : List ℕ → ℕ
head_of [] = 0
head_of (n ∷ ns) = n

append-distinct : (i : ℕ) (xs ys : List (List ℕ)) → AreDistinct xs → AreDistinct ys → AllByRecursion (λ q. (rest : List ℕ) × (q ≡ i ∷ rest)) xs → AllByRecursion (BeginsFrom (i + 1)) ys → AreDistinct (xs ++ ys)
append-distinct i [] ys a b first later = b
append-distinct i (x ∷ xs) ys a b first later =
    (all-append (λ r. x ≡ r → ⊥) xs ys a.0 (all-more (BeginsFrom (i + 1)) (λ r. x ≡ r → ⊥) (λ r h e. differs r h e) ys later), append-distinct i xs ys a.1 b first.1 later)
  where
    differs : (r : List ℕ) → BeginsFrom (i + 1) r → x ≡ r → ⊥
    differs r h e = let same : i ≡ h.0 = ap head_of (sym first.0.1 ∙ e ∙ h.2) in let le = h.3 in omega (arith, same, le)

below-paths : (i : ℕ) (ps : List TypedPosition) → map path_of (map (place_below i) ps) ≡ map (λ q. i ∷ q) (map path_of ps)
below-paths i [] = refl
below-paths i (p ∷ ps) = ap (λ l. (i ∷ p.path) ∷ l) (below-paths i ps)

abbrev tail_of : List ℕ → List ℕ
tail_of [] = []
tail_of (n ∷ ns) = ns

below-distinct : (i : ℕ) (qs : List (List ℕ)) → AreDistinct qs → AreDistinct (map (λ q. i ∷ q) qs)
below-distinct i [] d = tt
below-distinct i (q ∷ qs) d = (others qs d.0, below-distinct i qs d.1)
  where
    same : (r : List ℕ) → (q ≡ r → ⊥) → (i ∷ q) ≡ (i ∷ r) → ⊥
    same r ne e = ne (ap tail_of e)

    others : (rs : List (List ℕ)) → AllByRecursion (λ r. q ≡ r → ⊥) rs → AllByRecursion (λ r. (i ∷ q) ≡ r → ⊥) (map (λ r. i ∷ r) rs)
    others [] a = tt
    others (r ∷ rs) a = (same r a.0, others rs a.1)

all-first : (i : ℕ) (qs : List (List ℕ)) → AllByRecursion (λ q. (rest : List ℕ) × (q ≡ i ∷ rest)) (map (λ q. i ∷ q) qs)
all-first i [] = tt
all-first i (q ∷ qs) = ((q, refl), all-first i qs)

map-paths : (ps qs : List TypedPosition) → map path_of (ps ++ qs) ≡ map path_of ps ++ map path_of qs
map-paths [] qs = refl
map-paths (p ∷ ps) qs = ap (λ l. p.path ∷ l) (map-paths ps qs)

module _ (types : List DataDecl) where
  abbrev paths : Pat → Ty → List (List ℕ)
  paths p t = map path_of (places_in types p t)

  abbrev Once : Pat → Type 0
  Once p = (t : Ty) → AreDistinct (paths p t)

  abbrev below : List Pat → List Ty → ℕ → List (List ℕ)
  below ps ts i = map path_of (places_below (map (places_in types) ps) ts i)

  below-cons : (p : Pat) (ps : List Pat) (t : Ty) (ts : List Ty) (i : ℕ) → below (p ∷ ps) (t ∷ ts) i ≡ map (λ q. i ∷ q) (paths p t) ++ below ps ts (i + 1)
  below-cons p ps t ts i = map-paths (map (place_below i) (places_in types p t)) (places_below (map (places_in types) ps) ts (i + 1)) ∙ ap (λ l. l ++ below ps ts (i + 1)) (below-paths i (places_in types p t))

  from : (ps : List Pat) (ts : List Ty) (i : ℕ) → AllByRecursion (BeginsFrom i) (below ps ts i)
  from [] ts i = tt
  from (p ∷ ps) [] i = tt
  from (p ∷ ps) (t ∷ ts) i =
      subst (λ l. AllByRecursion (BeginsFrom i) l) (sym (below-cons p ps t ts i))
      (all-append (BeginsFrom i) (map (λ q. i ∷ q) (paths p t)) (below ps ts (i + 1))
      (all-more (λ q. (rest : List ℕ) × (q ≡ i ∷ rest)) (BeginsFrom i) (λ q h. (i, h.0, h.1, omega arith)) (map (λ q. i ∷ q) (paths p t)) (all-first i (paths p t)))
      (all-more (BeginsFrom (i + 1)) (BeginsFrom i) (λ q h. (h.0, h.1, h.2, (let le = h.3 in omega (arith, le)))) (below ps ts (i + 1)) (from ps ts (i + 1))))

  all-once : (ps : List Pat) → Q.Each Once ps → (ts : List Ty) (i : ℕ) → AreDistinct (below ps ts i)
  all-once [] each ts i = tt
  all-once (p ∷ ps) each [] i = tt
  all-once (p ∷ ps) each (t ∷ ts) i =
      subst AreDistinct (sym (below-cons p ps t ts i)) (append-distinct i (map (λ q. i ∷ q) (paths p t)) (below ps ts (i + 1)) (below-distinct i (paths p t) (each.0 t)) (all-once ps each.1 ts (i + 1)) (all-first i (paths p t)) (from ps ts (i + 1)))

  root-apart : (qs : List (List ℕ)) → AllByRecursion (BeginsFrom 0) qs → AllByRecursion (λ r. [] ≡ r → ⊥) qs
  root-apart qs a = all-more (BeginsFrom 0) (λ r. [] ≡ r → ⊥) (λ r h e. absurd (let z = e ∙ h.2 in cc)) qs a

  abbrev at_type : Ty → (Ty → List TypedPosition) → List TypedPosition
  at_type t f = f t

  pub pattern-once : (p : Pat) → Once p
  pattern-once = Q.induction Once (record {
    wild = λ at t. subst (λ ps. AreDistinct (map path_of ps)) (sym (ap (at_type t) (Q.fold-Wild (Ty → List TypedPosition) (places_step types) at))) tt;
    var = λ at x t. subst (λ ps. AreDistinct (map path_of ps)) (sym (ap (at_type t) (Q.fold-Var (Ty → List TypedPosition) (places_step types) at x))) tt;
    num = λ at n t. subst (λ ps. AreDistinct (map path_of ps)) (sym (ap (at_type t) (Q.fold-Num (Ty → List TypedPosition) (places_step types) at n))) (tt, tt);
    con = λ at c ps each t. subst (λ ps. AreDistinct (map path_of ps)) (sym (ap (at_type t) (Q.fold-Con (Ty → List TypedPosition) (places_step types) at c ps)))
        (root-apart (below ps (field_types types c) 0) (from ps (field_types types c) 0), all-once ps each (field_types types c) 0);
  })

-- Sums -----------------------------------------------------------------------------------------------

look_sum : (layouts : List Layout) (t : Ty) → look_of layouts t ≡ choosing_look layouts t + binding_look layouts t
look_sum layouts (Int bits) = refl
look_sum layouts (Named t) = go (takes_none_apart layouts t)
  where
    go : (u : Bool) → (if u then depth_of layouts (Named t) else 2 * (depth_of layouts (Named t) + mend_of layouts t)) ≡ depth_of layouts (Named t) + (if u then 0 else mend_of layouts t) + (if u then 0 else depth_of layouts (Named t) + mend_of layouts t)
    go true = omega arith
    go false = omega arith

looks_sum : (layouts : List Layout) (ps : List TypedPosition) → looks_of layouts ps ≡ looks_with (choosing_look layouts) ps + looks_with (binding_look layouts) ps
looks_sum layouts [] = refl
looks_sum layouts (p ∷ ps) = let a = look_sum layouts p.ty in let b = looks_sum layouts ps in omega (arith, a, b)

one_round : (types : List DataDecl) (t : Ty) (pats : List Pat) (k : ℕ) (pat : Pat) → slice_get pats k ≡ Some pat → 1 ≤ rounds types t pats
one_round types t pats k pat at = go (nat_lt 512 (size (match_tree types t pats))) (some pats k pat at)
  where
    some : (ps : List Pat) (k : ℕ) (p : Pat) → slice_get ps k ≡ Some p → 1 ≤ length ps
    some [] k p e = absurd cc
    some (x ∷ ps) k p e = omega arith

    go : (u : Bool) → 1 ≤ length pats → 1 ≤ (if u then length pats else 1)
    go true le = le
    go false le = omega arith

times : (r a b c : ℕ) → 1 ≤ r → c ≤ b → r * a + c ≤ r * (a + b)
times zero a b c le lt = absurd (omega (arith, le))
times (suc zero) a b c le lt = omega (arith, lt)
times (suc (suc r)) a b c le lt = let h = times (suc r) a b c (omega arith) lt in grind (arith, h)

pub bound_shared : BoundIsShared
bound_shared types layouts t pats k pat at =
    let D = places_of_patterns types t pats in
    let sum = looks_sum layouts D in
    let within = within_sum (binding_look layouts) (places_in types pat t) D (pattern-once types pat t) (λ p i. in_distinct p _ (in-flat (λ q. places_in types q t) pats k pat p at i.0 i.1)) in
    let r = rounds types t pats in
    let some = one_round types t pats k pat at in
    subst (λ n. choosing_bound types layouts t pats + binding_bound types layouts t pat ≤ r * n) (sym sum) (times r (looks_with (choosing_look layouts) D) (looks_with (binding_look layouts) D) (binding_bound types layouts t pat) some within)
