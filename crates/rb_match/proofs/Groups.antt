-- Lists of groups, made leaf by leaf.
use Rattle.std.proofs.Common.{◌≡◌, ℕ, zero, suc, ◌+◌, inl, inr, List, [], ◌∷◌, ◌++◌, length, length-append, Option, Some, None, refl, subst, ap, ◌∙◌, arith}
use Rattle.std.specs.Prelude.{slice_get}
use Rattle.std.proofs.lemmas.Option.{same_Some}
use Rattle.rb_target.proofs.Growing.{below_or, get-append, get-seam}
use Rattle.rb_fetch.specs.Pruning.{GroupsBelow}
use Rattle.rb_match.specs.inner.Asking.{AreGroups}

module _ {A : Type 0} (IsGroup : ℕ → A → Type 0) where
  pub no_groups : AreGroups IsGroup 0 []
  no_groups = record { long = refl; each = λ leaf lt. absurd (omega (arith, lt)) }

  pub one_group_more : (n : ℕ) (groups : List A) (group : A) → AreGroups IsGroup n groups → IsGroup n group → AreGroups IsGroup (n + 1) (groups ++ group ∷ [])
  one_group_more n groups group all is = record {
    long = length-append groups (group ∷ []) ∙ ap (λ k. k + 1) all.long;
    each = λ leaf lt. elim (below_or leaf n) [
      | inl less ↦ (let x = all.each leaf less in (x.0, get-append groups (group ∷ []) leaf (omega (arith, less, all.long)) ∙ x.1, x.2))
      | inr more ↦ (let at : leaf ≡ length groups = omega (arith, lt, more, all.long) in let number : n ≡ leaf = omega (arith, lt, more) in
          (group, ap (slice_get (groups ++ group ∷ [])) at ∙ get-seam groups group [], subst (λ k. IsGroup k group) number is))
    ];
  }

-- some number is above all of them
pub above : (groups : List (Option ℕ)) → (count : ℕ) × GroupsBelow count groups
above [] = (0, λ leaf g e. absurd cc)
above (None ∷ groups) = let more = above groups in (more.0, none more.0 more.1)
  where
    none : (count : ℕ) → GroupsBelow count groups → GroupsBelow count (None ∷ groups)
    none count below zero g e = absurd cc
    none count below (suc k) g e = below k g e
above (Some h ∷ groups) = let more = above groups in (h + 1 + more.0, some more.0 more.1)
  where
    some : (count : ℕ) → GroupsBelow count groups → GroupsBelow (h + 1 + count) (Some h ∷ groups)
    some count below zero g e = let same = same_Some h g e in omega (arith, same)
    some count below (suc k) g e = let lt = below k g e in omega (arith, lt)
