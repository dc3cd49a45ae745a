-- Which pattern matches a node, by its outermost level, and the first leaf that does.
use Rattle.std.proofs.Common.{◌≡◌, ℕ, zero, suc, ◌+◌, ◌<◌, ◌==◌, ◌&&◌, length, map, drop, get_or, List, [], ◌∷◌, Bool, true, false, Some, None, refl, sym, ap, ◌∙◌, arith}
use Rattle.std.specs.Prelude.{nat_eq, slice_get, if◌then◌else◌}
use Rattle.std.proofs.lemmas.Grind.{common_steps}
use Rattle.rb_core.specs.declared.value.Value.{Value, Num, Con, out-Value}
use Rattle.rb_core.specs.declared.value.Value.TheVariants.{outs-Num, outs-Con}
use Rattle.rb_core.specs.declared.types.ConRef.{ConRef}
use Rattle.rb_core.specs.declared.pattern.Pat.{Pat}
use Rattle.rb_core.specs.declared.pattern.Pat as Q
use Rattle.rb_core.specs.Matching.{matches_of, is_number, is_con, all_pass}
use Rattle.rb_core.specs.Values.{subs}
use Rattle.rb_core.proofs.MatchingForms.{matches-Num, matches-Con}
use Rattle.rb_layout.specs.declared.layout.Leaf.{Leaf}
use Rattle.rb_layout.specs.Positions.{leaf_from}
use Rattle.rb_rel.specs.Placing.{leaf_numbered}
use Rattle.rb_rel.proofs.Images.{nat_is}

pub num_num : (v : Value) (at n m : ℕ) → v ≡ Num m → nat_eq n m ≡ matches_of (Q.Num at n) v
num_num v at n m e = sym (matches-Num v at n ∙ ap (is_number n) (ap out-Value e ∙ outs-Num m))

pub num_con : (v : Value) (at n k : ℕ) (vs : List Value) → v ≡ Con k vs → false ≡ matches_of (Q.Num at n) v
num_con v at n k vs e = sym (matches-Num v at n ∙ ap (is_number n) (ap out-Value e ∙ outs-Con k vs))

pub con_num : (v : Value) (at : ℕ) (c : ConRef) (ps : List Pat) (m : ℕ) → v ≡ Num m → false ≡ matches_of (Q.Con at c ps) v
con_num v at c ps m e = sym (matches-Con v at c ps ∙ ap (is_con c.con (map matches_of ps)) (ap out-Value e ∙ outs-Num m))

con_con : (v : Value) (at : ℕ) (c : ConRef) (ps : List Pat) (k : ℕ) (vs : List Value) → v ≡ Con k vs → matches_of (Q.Con at c ps) v ≡ ((c.con == k) && all_pass (map matches_of ps) vs)
con_con v at c ps k vs e = matches-Con v at c ps ∙ ap (is_con c.con (map matches_of ps)) (ap out-Value e ∙ outs-Con k vs)

same_test : (a b : ℕ) → a ≡ b → (a == b) ≡ true
same_test a b e = grind (arith, common_steps)

pub then_con : (v : Value) (at : ℕ) (c : ConRef) (ps : List Pat) (k : ℕ) (b : Bool) → v ≡ Con k (subs v) → c.con ≡ k → b ≡ all_pass (map matches_of ps) (subs v) → b ≡ matches_of (Q.Con at c ps) v
then_con v at c ps k b e same is = is ∙ sym (con_con v at c ps k (subs v) e ∙ ap (λ x. x && all_pass (map matches_of ps) (subs v)) (same_test c.con k same))

pub else_con : (v : Value) (at : ℕ) (c : ConRef) (ps : List Pat) (k : ℕ) → v ≡ Con k (subs v) → (c.con ≡ k → ⊥) → nat_eq c.con k ≡ matches_of (Q.Con at c ps) v
else_con v at c ps k e other = go (nat_eq c.con k) refl
  where
    go : (b : Bool) → nat_eq c.con k ≡ b → nat_eq c.con k ≡ matches_of (Q.Con at c ps) v
    go true is = absurd (other (nat_is c.con k is))
    go false is = is ∙ sym (con_con v at c ps k (subs v) e ∙ ap (λ x. x && all_pass (map matches_of ps) (subs v)) is)

-- the leaves from number i on
leaf_next : (leaves : List Leaf) (v : Value) (i n : ℕ) (leaf : Leaf) → i < length leaves → leaf ≡ get_or leaves i leaf
    → leaf_from (drop i leaves) v n ≡ (if matches_of leaf.prov v then Some n else leaf_from (drop (suc i) leaves) v (n + 1))
leaf_next [] v i n leaf lt is = absurd (omega (arith, lt))
leaf_next (x ∷ leaves) v zero n leaf lt is = ap (λ (y : Leaf). if matches_of y.prov v then Some n else leaf_from leaves v (n + 1)) (sym is)
leaf_next (x ∷ leaves) v (suc i) n leaf lt is = leaf_next leaves v i n leaf (omega (arith, lt)) is

pub leaf_passed : (leaves : List Leaf) (v : Value) (i : ℕ) (leaf : Leaf) → i < length leaves → leaf ≡ get_or leaves i leaf → matches_of leaf.prov v ≡ false
    → leaf_from (drop i leaves) v i ≡ leaf_from (drop (i + 1) leaves) v (i + 1)
leaf_passed leaves v i leaf lt is e =
    let z : suc i ≡ i + 1 = omega arith in
    leaf_next leaves v i i leaf lt is ∙ ap (λ b. if b then Some i else leaf_from (drop (suc i) leaves) v (i + 1)) e ∙ ap (λ j. leaf_from (drop j leaves) v (i + 1)) z

got_leaf : (leaves : List Leaf) (i : ℕ) (leaf : Leaf) → i < length leaves → leaf ≡ get_or leaves i leaf → slice_get leaves i ≡ Some leaf
got_leaf [] i leaf lt is = absurd (omega (arith, lt))
got_leaf (x ∷ leaves) zero leaf lt is = ap Some (sym is)
got_leaf (x ∷ leaves) (suc i) leaf lt is = got_leaf leaves i leaf (omega (arith, lt)) is

pub leaf_found : (leaves : List Leaf) (v : Value) (i : ℕ) (leaf : Leaf) → leaf_from leaves v 0 ≡ leaf_from (drop i leaves) v i → i < length leaves → leaf ≡ get_or leaves i leaf → matches_of leaf.prov v ≡ true
    → Some leaf ≡ leaf_numbered leaves (leaf_from leaves v 0)
leaf_found leaves v i leaf from lt is e =
    let here : leaf_from leaves v 0 ≡ Some i = from ∙ leaf_next leaves v i i leaf lt is ∙ ap (λ b. if b then Some i else leaf_from (drop (suc i) leaves) v (i + 1)) e in
    sym (ap (leaf_numbered leaves) here ∙ got_leaf leaves i leaf lt is)

none_left : (leaves : List Leaf) (v : Value) (i n : ℕ) → length leaves ≡ i → leaf_from (drop i leaves) v n ≡ None
none_left [] v zero n e = refl
none_left [] v (suc i) n e = refl
none_left (x ∷ leaves) v zero n e = absurd (omega (arith, e))
none_left (x ∷ leaves) v (suc i) n e = none_left leaves v i n (omega (arith, e))

pub no_leaf : (leaves : List Leaf) (v : Value) (i : ℕ) → leaf_from leaves v 0 ≡ leaf_from (drop i leaves) v i → length leaves ≡ i → None ≡ leaf_numbered leaves (leaf_from leaves v 0)
no_leaf leaves v i from e = sym (ap (leaf_numbered leaves) (from ∙ none_left leaves v i i e))
