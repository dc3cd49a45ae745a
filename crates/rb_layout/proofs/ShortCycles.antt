-- Where a cycle goes through a type, so does one that has none of its types twice.
use Rattle.std.proofs.Common.{◌≡◌, ℕ, ◌||◌, ◌&&◌, not, nat_eq, List, [], ◌∷◌, Bool, true, false, refl, sym, ap, subst, ◌∙◌}
use Rattle.std.specs.List.{list_any}
use Rattle.std.proofs.lemmas.Bool.{and_parts}
use Rattle.rb_core.specs.WellNumbered.{is_distinct}
use Rattle.rb_layout.specs.Cycles.{IsChain, HasListed}
use Rattle.rb_layout.specs.A9.{Flattens}
use Rattle.rb_layout.specs.A10.{HoldsField}
use Rattle.rb_layout.specs.Spots.{CyclesAreListed}
use Rattle.rb_layout.proofs.Derivations.{same_nat}

module _ (R : ℕ → ℕ → Type 0) where
  -- a chain from a number to the last, none of whose numbers stands twice
  record ShortChain (s last : ℕ) : Type 0 where
    between : List ℕ
    chain : IsChain R s between last
    distinct : is_distinct nat_eq (s ∷ between) ≡ true

  -- the rest of a chain, from a number in it on
  cut : (s u last : ℕ) (us : List ℕ) → IsChain R u us last → is_distinct nat_eq (u ∷ us) ≡ true → (b : Bool) → nat_eq s u ≡ b
      → (b || list_any (nat_eq s) us) ≡ true → ShortChain s last
  cut s u last us chain distinct true is any = subst (λ k. ShortChain k last) (sym (same_nat s u is)) (record { between = us; chain = chain; distinct = distinct })
  cut s u last [] chain distinct false is any = absurd cc
  cut s u last (v ∷ us) chain distinct false is any =
      cut s v last us chain.1 (and_parts (not (list_any (nat_eq u) (v ∷ us))) (is_distinct nat_eq (v ∷ us)) distinct).1 (nat_eq s v) refl any

  one_more : (s u last : ℕ) → R s u → (x : ShortChain u last) → (b : Bool) → list_any (nat_eq s) (u ∷ x.between) ≡ b → ShortChain s last
  one_more s u last r x true is = cut s u last x.between x.chain x.distinct (nat_eq s u) refl is
  one_more s u last r x false is = record {
    between = u ∷ x.between;
    chain = (r, x.chain);
    distinct = ap (λ b. not b && is_distinct nat_eq (u ∷ x.between)) is ∙ x.distinct;
  }

  short : (s last : ℕ) (ts : List ℕ) → IsChain R s ts last → ShortChain s last
  short s last [] chain = record { between = []; chain = chain; distinct = refl }
  short s last (u ∷ ts) chain =
      let x = short u last ts chain.1 in
      one_more s u last chain.0 x (list_any (nat_eq s) (u ∷ x.between)) refl

  pub has_listed : HasListed R
  has_listed t ts cycle =
      let x = short t t ts cycle in
      (t ∷ x.between, (refl, x.chain, x.distinct))

pub cycles_are_listed : CyclesAreListed
cycles_are_listed types layouts = (has_listed (Flattens layouts), has_listed (HoldsField types layouts))
