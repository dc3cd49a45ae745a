-- Branches: what is left of a problem by the heads of its first column.
use Rattle.std.proofs.Common.{◌≡◌, ◌*◌, ◌≤◌, List, [], ◌∷◌, ◌++◌, length, true, Option, Some, None, refl, sym, ap, ◌∙◌, arith, inl, inr}
use Rattle.std.proofs.lemmas.Bool.{false≢true, or_cases}
use Rattle.std.proofs.lemmas.List.{length-append}
use Rattle.rb_core.specs.declared.value.Value.{Value, out-Value}
use Rattle.rb_core.specs.declared.types.DataDecl.{DataDecl}
use Rattle.rb_core.specs.declared.types.Ty.{Ty}
use Rattle.rb_core.specs.declared.pattern.Pat.{Pat}
use Rattle.rb_core.specs.Values.{is_of_type}
use Rattle.rb_matrix.specs.declared.matrix.Head.{Head}
use Rattle.rb_matrix.specs.declared.problem.Problem.{Problem}
use Rattle.rb_matrix.specs.declared.problem.Branches.{Branches}
use Rattle.rb_matrix.specs.declared.problem.Left.TheVariants.{Whole, ByHead}
use Rattle.rb_matrix.specs.Heads.{begins, any_begins, some_head}
use Rattle.rb_matrix.specs.FirstHead.{first_head}
use Rattle.rb_matrix.specs.Search.{AreTypesIn}
use Rattle.rb_matrix.specs.inner.Problems.{with_column, NoneBy, IsPartAt, part_cost}
use Rattle.rb_matrix.specs.Counts.{rows_head_count}
use Rattle.rb_matrix.specs.declared.groups.Groups.{Groups}
use Rattle.rb_matrix.specs.inner.Groups.{AreGrouped}
use Rattle.rb_matrix.specs.inner.Left.{parent, wholes, NoneByHead, AllNone, costs, LeadsTo, AreWithin, IsSplit}
use Rattle.rb_matrix.proofs.HeadLemmas.{any_begins-append}
use Rattle.rb_matrix.proofs.Weights.{first_head-count, some-part-cost, one-head-less, heads-fewer}
use Rattle.rb_matrix.proofs.Defaults.{all-none, one-none}
use Rattle.rb_matrix.proofs.Working.{no-split, part-within}

pub head-stands : (rows : List (List Pat)) (h : Head) → first_head rows ≡ Some h → 1 ≤ some_head (first_head rows)
head-stands rows h e = rw e (omega arith)

module _ (types : List DataDecl) where
  -- heads with which every value begins
  pub all-branches : (ty : Ty) (p : Problem) (hs : List Head) (x : Groups) → AreGrouped p.unwanted x → AreTypesIn types p.tys → 1 ≤ some_head (first_head p.unwanted) → length hs ≤ rows_head_count p.unwanted
      → ((v : Value) → is_of_type types v ty ≡ true → any_begins hs (out-Value v) ≡ true)
      → IsSplit types (Whole (with_column ty p)) (ByHead (record { ty = ty; behind = p; heads = hs; groups = x }) ∷ [])
  all-branches ty p hs x groups lives stands few every =
      let falls = heads-fewer types (with_column ty p) (length hs) (omega (arith, few)) (omega arith) in
      record {
        none = λ all. all-none types ty p.tys p.wanted p.unwanted hs all.0 every;
        within = λ root w. (record { ready = (lives, omega (arith, stands), groups); sound = w.sound }, tt);
        fewer = omega (arith, falls);
      }

  -- the part that there may be for a head
  module _ (ty : Ty) (ts : List Ty) (p : Problem) (h : Head) where
    made-none : (o : Option Problem) → IsPartAt types ty ts p h o → AllNone types (wholes o) → NoneBy types ty ts p h
    made-none None gone all = gone
    made-none (Some c) part all = part.1 all.0

    made-within : (o : Option Problem) → IsPartAt types ty ts p h o → (root : Problem) → LeadsTo types root p → AreWithin types root (wholes o)
    made-within None gone root sound = tt
    made-within (Some c) part root sound = (part-within types root p c part.0 sound, tt)

    made-cost : (o : Option Problem) → IsPartAt types ty ts p h o → costs types (wholes o) ≤ part_cost types p
    made-cost None gone = omega arith
    made-cost (Some c) part = let cheap = part.0.cheap in omega (arith, cheap)

  -- the one head of a wanted row
  pub one-split : (ty : Ty) (p : Problem) (h : Head) (o : Option Problem) → first_head p.wanted ≡ Some h → IsPartAt types ty p.tys (with_column ty p) h o
      → IsSplit types (Whole (with_column ty p)) (wholes o)
  one-split ty p h o first made =
      let q = with_column ty p in
      let stands = head-stands p.wanted h first in let count = first_head-count p.wanted in
      let falls = heads-fewer types q 1 (omega (arith, stands, count)) (omega arith) in let cheap = made-cost ty p.tys q h o made in
      record {
        none = λ all. one-none types ty p.tys p.wanted p.unwanted h first (made-none ty p.tys q h o made all);
        within = λ root w. made-within ty p.tys q h o made root w.sound;
        fewer = omega (arith, falls, cheap);
      }

  -- the part that there may be for one of the heads of branches
  module _ (b : Branches) (h : Head) where
    abbrev IsMade : Option Problem → Type 0
    IsMade o = IsPartAt types b.ty b.behind.tys (parent b) h o

    -- no vector begins with one of the others, and none with this
    none-more : (hs : List Head) → b.heads ≡ hs ++ h ∷ [] → NoneByHead types (record { ty = b.ty; behind = b.behind; heads = hs; groups = b.groups })
        → NoneBy types b.ty b.behind.tys (parent b) h → NoneByHead types b
    none-more hs e others this v vs begun =
        elim (or_cases (any_begins hs (out-Value v)) (begins h v) (sym (any_begins-append hs h (out-Value v)) ∙ ap (λ l. any_begins l (out-Value v)) (sym e) ∙ begun))
        [ inl a ↦ others v vs a | inr a ↦ this v vs a ]

    pub next-split : (hs : List Head) (o : Option Problem) → b.heads ≡ hs ++ h ∷ [] → IsMade o
        → IsSplit types (ByHead b) (ByHead (record { ty = b.ty; behind = b.behind; heads = hs; groups = b.groups }) ∷ wholes o)
    next-split hs o e made =
        let l = ap (λ l. length l) e ∙ length-append hs (h ∷ []) in
        let paid = one-head-less (length hs) (part_cost types (parent b)) (costs types (wholes o)) (some-part-cost types (parent b)) (made-cost b.ty b.behind.tys (parent b) h o made) in
        let whole = ap (λ n. n * (2 * part_cost types (parent b))) l in
        record {
          none = λ all. none-more hs e all.0 (made-none b.ty b.behind.tys (parent b) h o made all.1);
          within = λ root w. (record { ready = w.ready; sound = w.sound }, made-within b.ty b.behind.tys (parent b) h o made root w.sound);
          fewer = omega (arith, paid, whole);
        }

    pub last-split : (hs : List Head) (o : Option Problem) → b.heads ≡ hs ++ h ∷ [] → hs ≡ [] → IsMade o → IsSplit types (ByHead b) (wholes o)
    last-split hs o e last made =
        let next = next-split hs o e made in let fewer = next.fewer in
        let empty : NoneByHead types (record { ty = b.ty; behind = b.behind; heads = hs; groups = b.groups }) =
        (λ v vs begun. absurd (false≢true (sym (ap (λ l. any_begins l (out-Value v)) last) ∙ begun))) in
        record {
          none = λ all. next.none (empty, all);
          within = λ root w. (next.within root w).1;
          fewer = omega (arith, fewer);
        }

  pub no-heads : (b : Branches) → b.heads ≡ [] → IsSplit types (ByHead b) []
  no-heads b e = no-split types (ByHead b) [] refl (λ v vs begun. absurd (false≢true (sym (ap (λ l. any_begins l (out-Value v)) e) ∙ begun)))
