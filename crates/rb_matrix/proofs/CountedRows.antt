-- Rows whose first wildcards are counted.
use Rattle.std.proofs.Common.{◌≡◌, ℕ, zero, suc, ◌+◌, ◌-◌, ◌<◌, List, ◌∷◌, ◌++◌, true, ◌&&◌, Some, refl, sym, ap, ◌∙◌, arith}
use Rattle.rb_core.specs.declared.pattern.Pat.{Pat, Wild, out-Pat}
use Rattle.rb_matrix.specs.declared.matrix.Head.{Head}
use Rattle.rb_matrix.specs.inner.Open.{layer_open, is_open}
use Rattle.rb_matrix.specs.Specialize.{wilds, special_of_layer, special_row}

wild-open : layer_open (out-Pat (Wild 0)) ≡ true
unfolding out-Pat denote.Hole.Carrier.out
wild-open = refl

wild-special : (h : Head) (n : ℕ) (rest : List Pat) → special_of_layer h n rest (out-Pat (Wild 0)) ≡ Some (wilds n ++ rest)
unfolding out-Pat denote.Hole.Carrier.out
wild-special h n rest = refl

wilds-more : (n m : ℕ) (rest : List Pat) → wilds n ++ (wilds m ++ rest) ≡ wilds (n + m) ++ rest
wilds-more zero m rest = ap (λ k. wilds k ++ rest) (omega arith)
wilds-more (suc n) m rest =
    let e : suc n + m ≡ suc (n + m) = omega arith in
    ap (λ l. Wild 0 ∷ l) (wilds-more n m rest) ∙ ap (λ k. wilds k ++ rest) (sym e)

pub open_counted : (n : ℕ) (rest : List Pat) → is_open (wilds n ++ rest) ≡ is_open rest
open_counted zero rest = refl
open_counted (suc n) rest = ap (λ b. b && is_open (wilds n ++ rest)) wild-open ∙ open_counted n rest

pub special_counted : (h : Head) (fields n k : ℕ) (rest : List Pat) → 0 < n → k ≡ fields + (n - 1) → special_row h fields (wilds n ++ rest) ≡ Some (wilds k ++ rest)
special_counted h fields zero k rest some e = absurd (omega (arith, some))
special_counted h fields (suc n) k rest some e =
    let all : fields + n ≡ k = omega (arith, e) in
    wild-special h fields (wilds n ++ rest) ∙ ap (λ l. Some l) (wilds-more fields n rest ∙ ap (λ m. wilds m ++ rest) all)
