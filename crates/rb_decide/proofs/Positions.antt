-- A matrix's tree tests no position twice on a way, and only those with a head.
use Rattle.std.proofs.Common.{◌≡◌, ℕ, zero, suc, ◌+◌, ◌<◌, List, [], ◌∷◌, ◌++◌, map, length, Bool, true, false, ◌&&◌, ◌||◌, not, ◌==◌, Option, Some, None, is_some, refl, sym, ap, ◌∙◌, arith, subst, ◌⊎◌, inl, inr}
use Rattle.std.specs.Prelude.{◌^◌, nat_lt, slice_get, if◌then◌else◌, option_map, unwrap_or}
use Rattle.std.specs.Option.{option_or}
use Rattle.std.specs.List.{AllByRecursion, flat_map}
use Rattle.std.proofs.lemmas.Bool.{eqb-true, eqb-false, eq-eqb, false≢true, cases_lt}
use Rattle.rb_core.specs.declared.types.DataDecl.{DataDecl}
use Rattle.rb_core.specs.declared.types.Ty.{Ty}
use Rattle.rb_core.specs.declared.types.Ty.TheVariants.{Int, Named}
use Rattle.rb_core.specs.declared.pattern.Pat.{Pat, Wild, out-Pat}
use Rattle.rb_core.specs.declared.pattern.Pat.TheOpen as P
use Rattle.rb_core.specs.declared.pattern.Pat.TheOpen.{Pat-F}
use Rattle.rb_matrix.specs.declared.matrix.Head.{Head}
use Rattle.rb_matrix.specs.declared.matrix.Head.TheVariants as H
use Rattle.rb_matrix.specs.Heads.{layer_head, row_head}
use Rattle.rb_matrix.specs.Specialize.{wilds, special_of_number, special_of_con, special_of_layer, special_row, default_of_layer, default_row}
use Rattle.rb_decide.specs.declared.clause_matrix.Column.{Column}
use Rattle.rb_decide.specs.declared.clause_matrix.Row.{Row}
use Rattle.rb_decide.specs.declared.decision_tree.Tree.{Tree, Clause}
use Rattle.rb_decide.specs.ClauseMatrices.{match_rows, match_column, first_test, to_front, row_to_front, column_heads, is_complete, keep_row, special_rows, default_rows, field_types, field_columns}
use Rattle.rb_decide.specs.Trees.{Way, ways, Subtree, arms_of, other_of, test_of, tree_at, tree_step, tree_within, count_of_heads, match_tree}
use Rattle.rb_decide.specs.Decisions.{subpatterns, subpattern, pattern_from, is_head, any_head_at, AreDistinct, TestsOnce, HaveHeads, TestsHeads}
use Rattle.rb_decide.proofs.Moving.{swap, moved, front-moved, front-past}
use Rattle.rb_decide.proofs.TreeSteps.{arm_ways, ways-Clause, ways-Test}
use Rattle.rb_decide.proofs.Weights.{column_head, front-column}

-- all items of lists put together -------------------------------------------------------------------

module _ {A : Type 0} (P : A → Type 0) where
  all-append : (xs ys : List A) → AllByRecursion P xs → AllByRecursion P ys → AllByRecursion P (xs ++ ys)
  all-append [] ys h k = k
  all-append (x ∷ xs) ys h k = (h.0, all-append xs ys h.1 k)

  all-joined : (xss : List (List A)) → AllByRecursion (AllByRecursion P) xss → AllByRecursion P (flat_map (λ xs. xs) xss)
  all-joined [] h = tt
  all-joined (xs ∷ xss) h = all-append xs (flat_map (λ xs. xs) xss) h.0 (all-joined xss h.1)

module _ {A B : Type 0} (P : A → Type 0) (Q : B → Type 0) where
  all-mapped : (f : A → B) → ((x : A) → P x → Q (f x)) → (xs : List A) → AllByRecursion P xs → AllByRecursion Q (map f xs)
  all-mapped f g [] h = tt
  all-mapped f g (x ∷ xs) h = (g x h.0, all-mapped f g xs h.1)

all-kept : {A : Type 0} (P Q : A → Type 0) → ((x : A) → P x → Q x) → (xs : List A) → AllByRecursion P xs → AllByRecursion Q xs
all-kept P Q g [] h = tt
all-kept P Q g (x ∷ xs) h = (g x h.0, all-kept P Q g xs h.1)

-- positions -----------------------------------------------------------------------------------------

-- the one leads to the other
abbrev leads : List ℕ → List ℕ → Bool
leads [] r = true
leads (i ∷ q) [] = false
leads (i ∷ q) (j ∷ r) = (i == j) && leads q r

-- no position lies below both
abbrev apart : List ℕ → List ℕ → Bool
apart [] r = false
apart (i ∷ q) [] = false
apart (i ∷ q) (j ∷ r) = not (i == j) || apart q r

and-left : (a b : Bool) → (a && b) ≡ true → a ≡ true
and-left true b h = refl
and-left false b h = h

and-right : (a b : Bool) → (a && b) ≡ true → b ≡ true
and-right true b h = h
and-right false b h = absurd (false≢true h)

same_or : (n m : ℕ) (b : Bool) → (n == m) ≡ b → (n ≡ m) ⊎ (n ≡ m → ⊥)
same_or n m true e = inl (eqb-true n m e)
same_or n m false e = inr (eqb-false n m e)

unlike : (i j : ℕ) → (i ≡ j → ⊥) → (i == j) ≡ false
unlike i j ne = by (i == j) refl
  where
    by : (b : Bool) → (i == j) ≡ b → b ≡ false
    by true e = absurd (ne (eqb-true i j e))
    by false e = refl

like : (i : ℕ) → (i == i) ≡ true
like i = eq-eqb i i refl

leads-self : (q : List ℕ) → leads q q ≡ true
leads-self [] = refl
leads-self (i ∷ q) = ap (λ b. b && leads q q) (like i) ∙ leads-self q

leads-longer : (q : List ℕ) (s r : List ℕ) → leads (q ++ s) r ≡ true → leads q r ≡ true
leads-longer [] s r e = refl
leads-longer (i ∷ q) s [] e = e
leads-longer (i ∷ q) s (j ∷ r) e = ap (λ b. b && leads q r) (and-left (i == j) (leads (q ++ s) r) e) ∙ leads-longer q s r (and-right (i == j) (leads (q ++ s) r) e)

not-back : (q : List ℕ) (i : ℕ) → leads (q ++ i ∷ []) q ≡ true → ⊥
not-back [] i e = false≢true e
not-back (j ∷ q) i e = not-back q i (and-right (j == j) (leads (q ++ i ∷ []) q) e)

not-both : (p q r : List ℕ) → apart p q ≡ true → leads p r ≡ true → leads q r ≡ true → ⊥
not-both [] q r a e f = false≢true a
not-both (i ∷ p) [] r a e f = false≢true a
not-both (i ∷ p) (j ∷ q) [] a e f = false≢true e
not-both (i ∷ p) (j ∷ q) (k ∷ r) a e f =
    let x : i ≡ k = eqb-true i k (and-left (i == k) (leads p r) e) in
    let y : j ≡ k = eqb-true j k (and-left (j == k) (leads q r) f) in
    let z : (i == j) ≡ true = eq-eqb i j (x ∙ sym y) in
    not-both p q r (sym (ap (λ b. not b || apart p q) z) ∙ a) (and-right (i == k) (leads p r) e) (and-right (j == k) (leads q r) f)

apart-longer : (p q s : List ℕ) → apart p q ≡ true → apart (p ++ s) q ≡ true
apart-longer [] q s a = absurd (false≢true a)
apart-longer (i ∷ p) [] s a = absurd (false≢true a)
apart-longer (i ∷ p) (j ∷ q) s a = by (i == j) (apart-longer p q s) a
  where
    by : (b : Bool) → (apart p q ≡ true → apart (p ++ s) q ≡ true) → (not b || apart p q) ≡ true → (not b || apart (p ++ s) q) ≡ true
    by false rest e = refl
    by true rest e = rest e

apart-sym : (p q : List ℕ) → apart p q ≡ true → apart q p ≡ true
apart-sym [] q a = absurd (false≢true a)
apart-sym (i ∷ p) [] a = absurd (false≢true a)
apart-sym (i ∷ p) (j ∷ q) a = elim (same_or i j (i == j) refl) [
  | inl e ↦ ap (λ b. not b || apart q p) (eq-eqb j i (sym e)) ∙ apart-sym p q (sym (ap (λ b. not b || apart p q) (eq-eqb i j e)) ∙ a)
  | inr ne ↦ ap (λ b. not b || apart q p) (unlike j i (λ e. ne (sym e)))
]

apart-fields : (q : List ℕ) (i j : ℕ) → i < j → apart (q ++ i ∷ []) (q ++ j ∷ []) ≡ true
apart-fields [] i j lt = ap (λ b. not b || false) (unlike i j (λ e. omega (arith, e, lt)))
apart-fields (k ∷ q) i j lt = ap (λ b. not b || apart (q ++ i ∷ []) (q ++ j ∷ [])) (like k) ∙ apart-fields q i j lt

-- columns apart from each other ---------------------------------------------------------------------

abbrev ApartFrom : List ℕ → List Column → Type 0
ApartFrom q cs = AllByRecursion (λ (d : Column). apart q d.position ≡ true) cs

abbrev Apart : List Column → Type 0
Apart [] = Unit {0}
Apart (c ∷ cs) = ApartFrom c.position cs × Apart cs

-- some column leads to the position
abbrev any_leads : List Column → List ℕ → Bool
any_leads [] r = false
any_leads (c ∷ cs) r = leads c.position r || any_leads cs r

from-swap : (q : List ℕ) (c : Column) (cs : List Column) → apart q c.position ≡ true → ApartFrom q cs → ApartFrom q (swap c cs)
from-swap q c [] a h = (a, tt)
from-swap q c (d ∷ cs) a h = (h.0, (a, h.1))

from-moved : (i : ℕ) (q : List ℕ) (cs : List Column) → ApartFrom q cs → ApartFrom q (moved i cs)
from-moved zero q cs h = h
from-moved (suc i) q [] h = tt
from-moved (suc i) q (c ∷ cs) h = from-swap q c (moved i cs) h.0 (from-moved i q cs h.1)

apart-swap : (c : Column) (cs : List Column) → ApartFrom c.position cs → Apart cs → Apart (swap c cs)
apart-swap c [] h a = (tt, tt)
apart-swap c (d ∷ cs) h a = ((apart-sym c.position d.position h.0, a.0), (h.1, a.1))

apart-moved : (i : ℕ) (cs : List Column) → Apart cs → Apart (moved i cs)
apart-moved zero cs a = a
apart-moved (suc i) [] a = tt
apart-moved (suc i) (c ∷ cs) a = apart-swap c (moved i cs) (from-moved i c.position cs a.0) (apart-moved i cs a.1)

or-swap : (a b c : Bool) → (a || (b || c)) ≡ (b || (a || c))
or-swap true true c = refl
or-swap true false c = refl
or-swap false b c = refl

leads-swap : (c : Column) (cs : List Column) (r : List ℕ) → any_leads (swap c cs) r ≡ any_leads (c ∷ cs) r
leads-swap c [] r = refl
leads-swap c (d ∷ cs) r = or-swap (leads d.position r) (leads c.position r) (any_leads cs r)

leads-moved : (i : ℕ) (cs : List Column) (r : List ℕ) → any_leads (moved i cs) r ≡ any_leads cs r
leads-moved zero cs r = refl
leads-moved (suc i) [] r = refl
leads-moved (suc i) (c ∷ cs) r = leads-swap c (moved i cs) r ∙ ap (λ b. leads c.position r || b) (leads-moved i cs r)

-- by the item at the front
module _ (i : ℕ) (cs : List Column) where
  apart-front : Apart cs → Apart (to_front i cs)
  apart-front a = elim (cases_lt i (length cs)) [
    | inl lt ↦ subst Apart (sym (front-moved i cs lt)) (apart-moved i cs a)
    | inr le ↦ subst Apart (sym (front-past i cs le)) a
  ]

  leads-front : (r : List ℕ) → any_leads (to_front i cs) r ≡ any_leads cs r
  leads-front r = elim (cases_lt i (length cs)) [
    | inl lt ↦ ap (λ l. any_leads l r) (front-moved i cs lt) ∙ leads-moved i cs r
    | inr le ↦ ap (λ l. any_leads l r) (front-past i cs le)
  ]

-- the columns of fields
from-fields : (p q : List ℕ) (i : ℕ) (ts : List Ty) → apart p q ≡ true → ApartFrom p (field_columns q i ts)
from-fields p q i [] a = tt
from-fields p q i (t ∷ ts) a = (apart-sym (q ++ i ∷ []) p (apart-longer q p (i ∷ []) (apart-sym p q a)), from-fields p q (suc i) ts a)

later-fields : (q : List ℕ) (i j : ℕ) (ts : List Ty) → i < j → ApartFrom (q ++ i ∷ []) (field_columns q j ts)
later-fields q i j [] lt = tt
later-fields q i j (t ∷ ts) lt = (apart-fields q i j lt, later-fields q i (suc j) ts (omega (arith, lt)))

longer-from : (q : List ℕ) (i : ℕ) (cs : List Column) → ApartFrom q cs → ApartFrom (q ++ i ∷ []) cs
longer-from q i cs h = all-kept (λ (d : Column). apart q d.position ≡ true) (λ (d : Column). apart (q ++ i ∷ []) d.position ≡ true) (λ d a. apart-longer q d.position (i ∷ []) a) cs h

fields-apart : (q : List ℕ) (i : ℕ) (ts : List Ty) (cs : List Column) → ApartFrom q cs → Apart cs → Apart (field_columns q i ts ++ cs)
fields-apart q i [] cs h a = a
fields-apart q i (t ∷ ts) cs h a = (
  all-append (λ (d : Column). apart (q ++ i ∷ []) d.position ≡ true) (field_columns q (suc i) ts) cs (later-fields q i (suc i) ts (omega arith)) (longer-from q i cs h),
  fields-apart q (suc i) ts cs h a,
)

or-true : (a b : Bool) → (a || b) ≡ true → (a ≡ true) ⊎ (b ≡ true)
or-true true b e = inl refl
or-true false b e = inr e

or-either : (a b : Bool) → (a ≡ true) ⊎ (b ≡ true) → (a || b) ≡ true
or-either true b h = refl
or-either false b (inl e) = absurd (false≢true e)
or-either false b (inr e) = e

-- a position below a field lies below the whole and is another
fields-lead : (q : List ℕ) (i : ℕ) (ts : List Ty) (cs : List Column) (r : List ℕ) → any_leads (field_columns q i ts ++ cs) r ≡ true
    → ((leads q r ≡ true) × (q ≡ r → ⊥)) ⊎ (any_leads cs r ≡ true)
fields-lead q i [] cs r e = inr e
fields-lead q i (t ∷ ts) cs r e = elim (or-true (leads (q ++ i ∷ []) r) (any_leads (field_columns q (suc i) ts ++ cs) r) e) [
  | inl h ↦ inl (leads-longer q (i ∷ []) r h, λ same. not-back q i (ap (leads (q ++ i ∷ [])) same ∙ h))
  | inr h ↦ fields-lead q (suc i) ts cs r h
]

apart-other : (q r : List ℕ) (cs : List Column) → ApartFrom q cs → any_leads cs r ≡ true → q ≡ r → ⊥
apart-other q r [] h e same = false≢true e
apart-other q r (c ∷ cs) h e same = elim (or-true (leads c.position r) (any_leads cs r) e) [
  | inl f ↦ not-both q c.position r h.0 (ap (leads q) (sym same) ∙ leads-self q) f
  | inr f ↦ apart-other q r cs h.1 f same
]

-- where a row's patterns come from ------------------------------------------------------------------

-- without a head, or the part of a clause's pattern at the column's position
abbrev Source : Pat → List ℕ → Pat → Type 0
Source whole q p = (is_head (Some p) ≡ false) ⊎ (pattern_from (Some whole) q ≡ Some p)

abbrev Sources : Pat → List Column → List Pat → Type 0
Sources whole [] [] = Unit {0}
Sources whole [] (p ∷ ps) = ⊥
Sources whole (c ∷ cs) [] = ⊥
Sources whole (c ∷ cs) (p ∷ ps) = Source whole c.position p × Sources whole cs ps

abbrev Among : List Pat → Pat → Type 0
Among [] whole = ⊥
Among (p ∷ ps) whole = (p ≡ whole) ⊎ Among ps whole

record Sourced (all : List Pat) (cs : List Column) (ps : List Pat) : Type 0 where
  whole : Pat
  among : Among all whole
  sources : Sources whole cs ps

abbrev AllSourced : List Pat → List Column → List Row → Type 0
AllSourced all cs [] = Unit {0}
AllSourced all cs (r ∷ rs) = Sourced all cs r.pats × AllSourced all cs rs

head-among : (all : List Pat) (whole : Pat) (q : List ℕ) → Among all whole → is_head (pattern_from (Some whole) q) ≡ true → any_head_at all q ≡ true
head-among [] whole q a e = absurd a
head-among (p ∷ all) whole q (inl same) e = or-either (is_head (pattern_from (Some p) q)) (any_head_at all q) (inl (ap (λ x. is_head (pattern_from (Some x) q)) same ∙ e))
head-among (p ∷ all) whole q (inr a) e = or-either (is_head (pattern_from (Some p) q)) (any_head_at all q) (inr (head-among all whole q a e))

-- a head in the first column stands in some clause
tested-head : (all : List Pat) (c : Column) (cs : List Column) (rows : List Row) → AllSourced all (c ∷ cs) rows → is_some (column_head rows) ≡ true → any_head_at all c.position ≡ true
tested-head all c cs [] s e = absurd (false≢true e)
tested-head all c cs (r ∷ rs) s e = row r.pats s.0 (tested-head all c cs rs s.1) e
  where
    source : (whole p : Pat) → Source whole c.position p → is_some (layer_head (out-Pat p)) ≡ true → is_head (pattern_from (Some whole) c.position) ≡ true
    source whole p (inl plain) e = absurd (false≢true (sym plain ∙ e))
    source whole p (inr there) e = ap is_head there ∙ e

    row : (ps : List Pat) → Sourced all (c ∷ cs) ps → (is_some (column_head rs) ≡ true → any_head_at all c.position ≡ true)
        → is_some (option_or (row_head ps) (column_head rs)) ≡ true → any_head_at all c.position ≡ true
    row [] so rest e = absurd so.sources
    row (p ∷ ps) so rest e = by (layer_head (out-Pat p)) refl e
      where
        by : (o : Option Head) → layer_head (out-Pat p) ≡ o → is_some (option_or o (column_head rs)) ≡ true → any_head_at all c.position ≡ true
        by (Some h) is e = head-among all so.whole c.position so.among (source so.whole p so.sources.0 (ap (λ (o : Option Head). is_some o) is))
        by None is e = rest e

-- a column at the front
sources-swap : (whole : Pat) (c : Column) (cs : List Column) (p : Pat) (ps : List Pat) → Source whole c.position p → Sources whole cs ps → Sources whole (swap c cs) (swap p ps)
sources-swap whole c [] p [] h s = (h, tt)
sources-swap whole c [] p (x ∷ ps) h s = absurd s
sources-swap whole c (d ∷ cs) p [] h s = absurd s
sources-swap whole c (d ∷ cs) p (x ∷ ps) h s = (s.0, (h, s.1))

sources-moved : (whole : Pat) (i : ℕ) (cs : List Column) (ps : List Pat) → Sources whole cs ps → Sources whole (moved i cs) (moved i ps)
sources-moved whole zero cs ps s = s
sources-moved whole (suc i) [] [] s = s
sources-moved whole (suc i) [] (p ∷ ps) s = absurd s
sources-moved whole (suc i) (c ∷ cs) [] s = absurd s
sources-moved whole (suc i) (c ∷ cs) (p ∷ ps) s = sources-swap whole c (moved i cs) p (moved i ps) s.0 (sources-moved whole i cs ps s.1)

sources-length : (whole : Pat) (cs : List Column) (ps : List Pat) → Sources whole cs ps → length cs ≡ length ps
sources-length whole [] [] s = refl
sources-length whole [] (p ∷ ps) s = absurd s
sources-length whole (c ∷ cs) [] s = absurd s
sources-length whole (c ∷ cs) (p ∷ ps) s = ap suc (sources-length whole cs ps s.1)

sources-front : (whole : Pat) (i : ℕ) (cs : List Column) (ps : List Pat) → Sources whole cs ps → Sources whole (to_front i cs) (to_front i ps)
sources-front whole i cs ps s = let len = sources-length whole cs ps s in elim (cases_lt i (length cs)) [
  | inl lt ↦ subst (λ l. Sources whole l (to_front i ps)) (sym (front-moved i cs lt))
      (subst (Sources whole (moved i cs)) (sym (front-moved i ps (omega (arith, lt, len)))) (sources-moved whole i cs ps s))
  | inr le ↦ subst (λ l. Sources whole l (to_front i ps)) (sym (front-past i cs le))
      (subst (Sources whole cs) (sym (front-past i ps (omega (arith, le, len)))) s)
]

all-front : (all : List Pat) (i : ℕ) (cs : List Column) (rows : List Row) → AllSourced all cs rows → AllSourced all (to_front i cs) (map (row_to_front i) rows)
all-front all i cs [] s = tt
all-front all i cs (r ∷ rs) s = (record { whole = s.0.whole; among = s.0.among; sources = sources-front s.0.whole i cs r.pats s.0.sources }, all-front all i cs rs s.1)

-- special and default rows
wild-headless : is_head (Some (Wild 0)) ≡ false
unfolding out-Pat denote.Hole.Carrier.out
wild-headless = refl

wilds-sources : (whole : Pat) (q : List ℕ) (i : ℕ) (ts : List Ty) (cs : List Column) (rest : List Pat) → Sources whole cs rest → Sources whole (field_columns q i ts ++ cs) (wilds (length ts) ++ rest)
wilds-sources whole q i [] cs rest s = s
wilds-sources whole q i (t ∷ ts) cs rest s = (inl wild-headless, wilds-sources whole q (suc i) ts cs rest s)

at-end : (q : List ℕ) (i : ℕ) (o : Option Pat) → pattern_from o (q ++ i ∷ []) ≡ subpattern (pattern_from o q) i
at-end [] i o = refl
at-end (j ∷ q) i o = at-end q i (subpattern o j)

plus_zero : (i : ℕ) → i ≡ i + 0
plus_zero i = omega arith

plus_suc : (i j : ℕ) → i + suc j ≡ suc i + j
plus_suc i j = omega arith

fields-sources : (whole p : Pat) (q : List ℕ) → pattern_from (Some whole) q ≡ Some p → (i : ℕ) (ts : List Ty) (qs : List Pat)
    → ((j : ℕ) → slice_get qs j ≡ slice_get (subpatterns (out-Pat p)) (i + j)) → length qs ≡ length ts → (cs : List Column) (rest : List Pat) → Sources whole cs rest
    → Sources whole (field_columns q i ts ++ cs) (qs ++ rest)
fields-sources whole p q at i [] [] same e cs rest s = s
fields-sources whole p q at i [] (x ∷ qs) same e cs rest s = absurd (omega (arith, e))
fields-sources whole p q at i (t ∷ ts) [] same e cs rest s = absurd (omega (arith, e))
fields-sources whole p q at i (t ∷ ts) (x ∷ qs) same e cs rest s = (
  inr (at-end q i (Some whole) ∙ ap (λ o. subpattern o i) at ∙ ap (slice_get (subpatterns (out-Pat p))) (plus_zero i) ∙ sym (same 0)),
  fields-sources whole p q at (suc i) ts qs (λ j. same (suc j) ∙ ap (slice_get (subpatterns (out-Pat p))) (plus_suc i j)) (omega (arith, e)) cs rest s,
)

abbrev OptionSourced : Pat → List Column → Option (List Pat) → Type 0
OptionSourced whole cs None = Unit {0}
OptionSourced whole cs (Some ps) = Sources whole cs ps

abbrev NumbersHaveNone : Head → List Ty → Type 0
NumbersHaveNone (H.Num m) ts = ts ≡ []
NumbersHaveNone (H.Con c) ts = Unit {0}

abbrev fitting : Bool → Option (List Ty)
fitting b = if b then Some [] else None

numbers-none : (types : List DataDecl) (t : Ty) (h : Head) → NumbersHaveNone h (field_types types t h)
numbers-none types (Int bits) (H.Num m) = by (nat_lt m (2 ^ bits))
  where
    by : (b : Bool) → unwrap_or (fitting b) [] ≡ []
    by true = refl
    by false = refl
numbers-none types (Named t) (H.Num m) = refl
numbers-none types t (H.Con c) = tt

module _ (whole : Pat) (q : List ℕ) (cs : List Column) (ts : List Ty) (h : Head) (none : NumbersHaveNone h ts) (p : Pat) (rest : List Pat) (src : Source whole q p) (s : Sources whole cs rest) where
  one-special : (l : Pat-F Pat) → out-Pat p ≡ l → OptionSourced whole (field_columns q 0 ts ++ cs) (special_of_layer h (length ts) rest l)
  one-special (P.Wild at) is = wilds-sources whole q 0 ts cs rest s
  one-special (P.Var at x) is = wilds-sources whole q 0 ts cs rest s
  one-special (P.Num at k) is = number h none
    where
      if-kept : (b : Bool) → OptionSourced whole cs (if b then Some rest else None)
      if-kept true = s
      if-kept false = tt

      number : (g : Head) → NumbersHaveNone g ts → OptionSourced whole (field_columns q 0 ts ++ cs) (special_of_number g k rest)
      number (H.Num m) e = subst (λ l. OptionSourced whole (field_columns q 0 l ++ cs) (if k == m then Some rest else None)) (sym e) (if-kept (k == m))
      number (H.Con d) e = tt
  one-special (P.Con at c qs) is = con h
    where
      there : Source whole q p → pattern_from (Some whole) q ≡ Some p
      there (inl plain) = absurd (false≢true (sym plain ∙ ap (λ l. is_some (layer_head l)) is))
      there (inr e) = e

      zero_plus : (i : ℕ) → i ≡ 0 + i
      zero_plus i = omega arith

      if-kept : (b b' : Bool) → (length qs == length ts) ≡ b' → OptionSourced whole (field_columns q 0 ts ++ cs) (if b && b' then Some (qs ++ rest) else None)
      if-kept false b' e = tt
      if-kept true false e = tt
      if-kept true true e = fields-sources whole p q (there src) 0 ts qs
          (λ j. ap (slice_get qs) (zero_plus j) ∙ ap (λ l. slice_get (subpatterns l) (0 + j)) (sym is)) (eqb-true (length qs) (length ts) e) cs rest s

      con : (g : Head) → OptionSourced whole (field_columns q 0 ts ++ cs) (special_of_con g (length ts) c qs rest)
      con (H.Num m) = tt
      con (H.Con d) = if-kept (c.con == d.con) (length qs == length ts) refl

  other-default : (l : Pat-F Pat) → OptionSourced whole cs (default_of_layer rest l)
  other-default (P.Wild at) = s
  other-default (P.Var at x) = s
  other-default (P.Num at k) = tt
  other-default (P.Con at c qs) = tt

module _ (all : List Pat) (c : Column) (cs : List Column) where
  keep-sourced : (whole : Pat) (ds : List Column) → Among all whole → (o : Option (List Pat)) (k : ℕ) (rs : List Row) → OptionSourced whole ds o → AllSourced all ds rs → AllSourced all ds (keep_row o k rs)
  keep-sourced whole ds a None k rs h s = s
  keep-sourced whole ds a (Some ps) k rs h s = (record { whole = whole; among = a; sources = h }, s)

  special-sourced : (h : Head) (ts : List Ty) → NumbersHaveNone h ts → (rows : List Row) → AllSourced all (c ∷ cs) rows → AllSourced all (field_columns c.position 0 ts ++ cs) (special_rows h (length ts) rows)
  special-sourced h ts none [] s = tt
  special-sourced h ts none (r ∷ rs) s = keep-sourced s.0.whole (field_columns c.position 0 ts ++ cs) s.0.among (special_row h (length ts) r.pats) r.clause (special_rows h (length ts) rs)
      (row r.pats s.0.sources) (special-sourced h ts none rs s.1)
    where
      row : (ps : List Pat) → Sources s.0.whole (c ∷ cs) ps → OptionSourced s.0.whole (field_columns c.position 0 ts ++ cs) (special_row h (length ts) ps)
      row [] so = tt
      row (p ∷ ps) so = one-special s.0.whole c.position cs ts h none p ps so.0 so.1 (out-Pat p) refl

  default-sourced : (rows : List Row) → AllSourced all (c ∷ cs) rows → AllSourced all cs (default_rows rows)
  default-sourced [] s = tt
  default-sourced (r ∷ rs) s = keep-sourced s.0.whole cs s.0.among (default_row r.pats) r.clause (default_rows rs) (row r.pats s.0.sources) (default-sourced rs s.1)
    where
      row : (ps : List Pat) → Sources s.0.whole (c ∷ cs) ps → OptionSourced s.0.whole cs (default_row ps)
      row [] so = tt
      row (p ∷ ps) so = other-default s.0.whole c.position cs [] (H.Num 0) refl p ps so.0 so.1 (out-Pat p)

-- the ways of a matrix's tree -----------------------------------------------------------------------

module _ (types : List DataDecl) (all : List Pat) where
  -- a way through the tree of a matrix over these columns
  record IsFine (cs : List Column) (way : Way) : Type 0 where
    below : AllByRecursion (λ q. any_leads cs q ≡ true) way
    once : AreDistinct way
    heads : HaveHeads all way

  abbrev FineTree : List Column → Tree → Type 0
  FineTree cs t = AllByRecursion (IsFine cs) (ways t)

  clause-fine : (cs : List Column) (k : ℕ) → FineTree cs (Clause k)
  clause-fine cs k = subst (AllByRecursion (IsFine cs)) (sym (ways-Clause k)) (record { below = tt; once = tt; heads = tt }, tt)

  module _ (sub : Subtree) (fine : (cs : List Column) (rows : List Row) → Apart cs → AllSourced all cs rows → FineTree cs (sub cs rows)) where
    module _ (c : Column) (cs : List Column) (rows : List Row) (a : Apart (c ∷ cs)) (s : AllSourced all (c ∷ cs) rows) (some : is_some (column_head rows) ≡ true) where
      one-longer : (ds : List Column) → ((r : List ℕ) → any_leads ds r ≡ true → (any_leads (c ∷ cs) r ≡ true) × (c.position ≡ r → ⊥)) → (way : Way) → IsFine ds way → IsFine (c ∷ cs) (c.position ∷ way)
      one-longer ds g way f = record {
        below = (
          or-either (leads c.position c.position) (any_leads cs c.position) (inl (leads-self c.position)),
          all-kept (λ q. any_leads ds q ≡ true) (λ q. any_leads (c ∷ cs) q ≡ true) (λ q h. (g q h).0) way f.below,
        );
        once = (all-kept (λ q. any_leads ds q ≡ true) (λ q. c.position ≡ q → ⊥) (λ q h. (g q h).1) way f.below, f.once);
        heads = (tested-head all c cs rows s some, f.heads);
      }

      through-field : (ts : List Ty) (r : List ℕ) → any_leads (field_columns c.position 0 ts ++ cs) r ≡ true → (any_leads (c ∷ cs) r ≡ true) × (c.position ≡ r → ⊥)
      through-field ts r e = elim (fields-lead c.position 0 ts cs r e) [
        | inl h ↦ (or-either (leads c.position r) (any_leads cs r) (inl h.0), h.1)
        | inr h ↦ (or-either (leads c.position r) (any_leads cs r) (inr h), apart-other c.position r cs a.0 h)
      ]

      through-rest : (r : List ℕ) → any_leads cs r ≡ true → (any_leads (c ∷ cs) r ≡ true) × (c.position ≡ r → ⊥)
      through-rest r e = (or-either (leads c.position r) (any_leads cs r) (inr e), apart-other c.position r cs a.0 e)

      abbrev Longer : Way → Type 0
      Longer way = IsFine (c ∷ cs) (c.position ∷ way)

      arms-fine : (hs : List Head) → AllByRecursion (AllByRecursion Longer) (map arm_ways (arms_of types sub c cs rows hs))
      arms-fine [] = tt
      arms-fine (h ∷ hs) = let ts : List Ty = field_types types c.ty h in (
        all-kept (IsFine (field_columns c.position 0 (field_types types c.ty h) ++ cs)) Longer (one-longer (field_columns c.position 0 (field_types types c.ty h) ++ cs) (through-field (field_types types c.ty h))) _
            (fine (field_columns c.position 0 (field_types types c.ty h) ++ cs) (special_rows h (length (field_types types c.ty h)) rows)
            (fields-apart c.position 0 (field_types types c.ty h) cs a.0 a.1) (special-sourced all c cs h (field_types types c.ty h) (numbers-none types c.ty h) rows s)),
        arms-fine hs,
      )

      other-fine : (b : Bool) → AllByRecursion Longer (unwrap_or (option_map ways (if b then None else Some (sub cs (default_rows rows)))) [])
      other-fine true = tt
      other-fine false = all-kept (IsFine cs) Longer (one-longer cs through-rest) _ (fine cs (default_rows rows) a.1 (default-sourced all c cs rows s))

      test-fine : FineTree (c ∷ cs) (test_of types sub (c ∷ cs) rows)
      test-fine = subst (AllByRecursion (IsFine (c ∷ cs))) (sym (ways-Test c.position (arms_of types sub c cs rows (column_heads rows)) (other_of types sub c cs rows)))
          (all-mapped Longer (IsFine (c ∷ cs)) (λ way. c.position ∷ way) (λ way f. f) _
          (all-append Longer _ _ (all-joined Longer _ (arms-fine (column_heads rows))) (other-fine (is_complete types c.ty (column_heads rows)))))

    front-fine : (cs : List Column) (rows : List Row) → Apart cs → AllSourced all cs rows → is_some (column_head rows) ≡ true → FineTree cs (test_of types sub cs rows)
    front-fine [] rows a s some = clause-fine [] 0
    front-fine (c ∷ cs) rows a s some = test-fine c cs rows a s some

    step-fine : (cs : List Column) (rows : List Row) → Apart cs → AllSourced all cs rows → FineTree cs (tree_step types sub cs rows)
    step-fine cs [] a s = clause-fine cs 0
    step-fine cs (r ∷ rs) a s = at (first_test r.pats) refl
      where
        back : (i : ℕ) (way : Way) → IsFine (to_front i cs) way → IsFine cs way
        back i way f = record {
          below = all-kept (λ q. any_leads (to_front i cs) q ≡ true) (λ q. any_leads cs q ≡ true) (λ q e. sym (leads-front i cs q) ∙ e) way f.below;
          once = f.once;
          heads = f.heads;
        }

        at : (o : Option ℕ) → first_test r.pats ≡ o → FineTree cs (tree_at types sub cs (r ∷ rs) r.clause o)
        at None e = clause-fine cs r.clause
        at (Some i) e = all-kept (IsFine (to_front i cs)) (IsFine cs) (back i) (ways (test_of types sub (to_front i cs) (map (row_to_front i) (r ∷ rs))))
            (front-fine (to_front i cs) (map (row_to_front i) (r ∷ rs)) (apart-front i cs a) (all-front all i cs (r ∷ rs) s) (front-column r rs i e))

  within-fine : (n : ℕ) (cs : List Column) (rows : List Row) → Apart cs → AllSourced all cs rows → FineTree cs (tree_within types n cs rows)
  within-fine zero cs rows a s = step-fine (λ cs rs. Clause 0) (λ cs rs a s. clause-fine cs 0) cs rows a s
  within-fine (suc n) cs rows a s = step-fine (tree_within types n) (within-fine n) cs rows a s

-- the rows of a match -------------------------------------------------------------------------------

module _ (ty : Ty) where
  match-sourced : (all : List Pat) (k : ℕ) (ps : List Pat) → ((p : Pat) → Among ps p → Among all p) → AllSourced all (match_column ty ∷ []) (match_rows k ps)
  match-sourced all k [] sub = tt
  match-sourced all k (p ∷ ps) sub = (record { whole = p; among = sub p (inl refl); sources = (inr refl, tt) }, match-sourced all (suc k) ps (λ q a. sub q (inr a)))

match-fine : (types : List DataDecl) (ty : Ty) (ps : List Pat) → FineTree types ps (match_column ty ∷ []) (match_tree types ty ps)
match-fine types ty ps = within-fine types ps (count_of_heads (match_rows 0 ps)) (match_column ty ∷ []) (match_rows 0 ps) (tt, tt) (match-sourced ty ps 0 ps (λ p a. a))

pub match-once : (types : List DataDecl) (ty : Ty) (ps : List Pat) → TestsOnce (match_tree types ty ps)
match-once types ty ps = all-kept (IsFine types ps (match_column ty ∷ [])) AreDistinct (λ way f. f.once) (ways (match_tree types ty ps)) (match-fine types ty ps)

pub match-heads : (types : List DataDecl) (ty : Ty) (ps : List Pat) → TestsHeads ps (match_tree types ty ps)
match-heads types ty ps = all-kept (IsFine types ps (match_column ty ∷ [])) (HaveHeads ps) (λ way f. f.heads) (ways (match_tree types ty ps)) (match-fine types ty ps)
