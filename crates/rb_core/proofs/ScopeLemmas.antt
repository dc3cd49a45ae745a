-- The type of a variable, looked for from the last binder of a scope on, or by halving where numbers never fall.
use Rattle.std.proofs.Common.{◌≡◌, ◌≢◌, ℕ, zero, suc, ◌-◌, ◌<◌, ◌≤◌, ◌==◌, true, false, nat_le, if◌then◌else◌, List, [], ◌∷◌, ◌++◌, take, length, get_or, refl, sym, ap, subst, ◌∙◌, arith}
use Rattle.std.specs.Prelude.{IfSome}
use Rattle.std.specs.List.Sorted.{IsPartitionPoint}
use Rattle.std.proofs.Math.Nat.{lt_of_not-le}
use Rattle.std.proofs.Math.Seq.{take-suc, take-length}
use Rattle.std.proofs.lemmas.List.Sorted.{IsNonDecreasingBy-push}
use Rattle.std.proofs.lemmas.Option.{slice_get-get_or}
use Rattle.std.proofs.lemmas.Bool.{eq-eqb, ne_eqb}
use Rattle.std.proofs.lemmas.Grind.{common_steps}
use Rattle.rb_core.specs.declared.types.Ty.{Ty}
use Rattle.rb_core.specs.declared.types.Ty.TheVariants.{Int}
use Rattle.rb_core.specs.declared.typing.Binder.{Binder}
use Rattle.rb_core.specs.Typing.{bound_type, variable_type}
use Rattle.rb_core.specs.inner.Order.{AreInOrder, Follows}

bound-last : (outer : Ty) (x : ℕ) (bs : List Binder) (b : Binder)
    → bound_type outer x (bs ++ b ∷ []) ≡ (if b.var == x then b.ty else bound_type outer x bs)
bound-last outer x [] b = refl
bound-last outer x (a ∷ bs) b = bound-last (if a.var == x then a.ty else outer) x bs b

-- the last of the first i binders, and those before it
module _ (x : ℕ) (bs : List Binder) (i : ℕ) (d : Binder) (some : 0 < i) (within : i ≤ length bs) where
  abbrev pub last-of : Binder
  last-of = get_or bs (i - 1) d

  last-decides : variable_type x (take i bs) ≡ (if last-of.var == x then last-of.ty else variable_type x (take (i - 1) bs))
  last-decides =
      let e : i ≡ suc (i - 1) = omega (arith, some) in
      ap (λ k. variable_type x (take k bs)) e
      ∙ ap (variable_type x) (take-suc bs (i - 1) d (omega (arith, some, within)))
      ∙ bound-last (Int 64) x (take (i - 1) bs) last-of

  pub found-here : last-of.var ≡ x → variable_type x (take i bs) ≡ last-of.ty
  found-here h = last-decides ∙ ap (λ b. if b then last-of.ty else variable_type x (take (i - 1) bs)) (eq-eqb last-of.var x h)

  pub not-here : last-of.var ≢ x → variable_type x (take (i - 1) bs) ≡ variable_type x (take i bs)
  not-here h = sym (last-decides ∙ ap (λ b. if b then last-of.ty else variable_type x (take (i - 1) bs)) (ne_eqb last-of.var x h))

-- what stands behind the first k decides nothing where none there has the number
module _ (x : ℕ) (d : Binder) where
  none-bound : (outer : Ty) (bs : List Binder) → ((j : ℕ) → j < length bs → (get_or bs j d).var ≢ x) → bound_type outer x bs ≡ outer
  none-bound outer [] other = refl
  none-bound outer (b ∷ bs) other =
      ap (λ here. bound_type (if here then b.ty else outer) x bs) (ne_eqb b.var x (other 0 (omega arith)))
      ∙ none-bound outer bs (λ j lt. other (suc j) (omega (arith, lt)))

  none-behind : (outer : Ty) (bs : List Binder) (k : ℕ) → ((j : ℕ) → k ≤ j → j < length bs → (get_or bs j d).var ≢ x)
      → bound_type outer x (take k bs) ≡ bound_type outer x bs
  none-behind outer bs zero other = sym (none-bound outer bs (λ j lt. other j (omega arith) lt))
  none-behind outer [] (suc k) other = refl
  none-behind outer (b ∷ bs) (suc k) other =
      none-behind (if b.var == x then b.ty else outer) bs k (λ j le lt. other (suc j) (omega (arith, le)) (omega (arith, lt)))

-- in order, where the numbers that are not above x end
module _ (x : ℕ) (bs : List Binder) (end : ℕ) (d : Binder) (within : end ≤ length bs) (up : AreInOrder bs)
    (point : IsPartitionPoint (λ b. nat_le b.var x ≡ true) (λ b. nat_le b.var x ≡ false) bs end) where
  above : (j : ℕ) → end ≤ j → j < length bs → x < (get_or bs j d).var
  above j le lt = let high : nat_le (get_or bs j d).var x ≡ false = point.1 j d le lt in grind (arith, common_steps, high)

  below : (j : ℕ) → j < end → (get_or bs j d).var ≤ x
  below j lt = let low : nat_le (get_or bs j d).var x ≡ true = point.0 j d (omega arith) lt in grind (arith, common_steps, low)

  pub found-at_end : 0 < end → (get_or bs (end - 1) d).var ≡ x → (get_or bs (end - 1) d).ty ≡ variable_type x bs
  found-at_end some here =
      sym (found-here x bs end d some within here)
      ∙ none-behind x d (Int 64) bs end (λ j le lt same. let high = above j le lt in absurd (omega (arith, high, same)))

  pub found-nowhere : (0 < end → (get_or bs (end - 1) d).var ≢ x) → Int 64 ≡ variable_type x bs
  found-nowhere other =
      sym (none-bound x d (Int 64) bs (λ j lt same.
      let before : j < end = lt_of_not-le (λ le. let high = above j le lt in absurd (omega (arith, high, same))) in
      let rises : (get_or bs j d).var ≤ (get_or bs (end - 1) d).var = up j (end - 1) d (omega (arith, before)) (omega (arith, before, within)) in
      let low = below (end - 1) (omega (arith, before)) in
      other (omega (arith, before)) (omega (arith, rises, low, same))))

-- one more that follows those in order
pub order-grows : (n : ℕ) (bs : List Binder) (b : Binder) → n ≡ length bs → AreInOrder (take n bs) → Follows b.var bs
    → AreInOrder (take (length (bs ++ b ∷ [])) (bs ++ b ∷ []))
order-grows n bs b whole up follows =
    let all : AreInOrder bs = subst AreInOrder (ap (λ k. take k bs) whole ∙ take-length bs) up in
    subst AreInOrder (sym (take-length (bs ++ b ∷ [])))
    (IsNonDecreasingBy-push (λ a. a.var) bs b all (λ d some. subst (λ a. IfSome a (λ a. a.var ≤ b.var)) (slice_get-get_or bs (length bs - 1) d (omega (arith, some))) follows))
