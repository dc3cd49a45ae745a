-- Variables whose numbers are below a bound, and the first that stands twice.
use Rattle.std.proofs.Common.{◌≡◌, ℕ, zero, suc, ◌+◌, ◌<◌, ◌≤◌, ◌==◌, false, List, [], ◌∷◌, ◌++◌, take, drop, length, get_or, refl, sym, ap, ◌∙◌, subst, arith, add-one}
use Rattle.std.specs.List.{list_any}
use Rattle.std.proofs.lemmas.Grind.{common_steps}
use Rattle.rb_core.specs.declared.program.Param.{Param}
use Rattle.rb_core.specs.Typing.{repeat_after}
use Rattle.rb_check.specs.inner.Below.{ParamsBelow}

-- a number that is not below the bound is none of theirs
pub none-stands : (above x : ℕ) (ps : List Param) → ParamsBelow above ps → above ≤ x → list_any (λ q. q.var == x) ps ≡ false
none-stands above x [] h le = refl
none-stands above x (p ∷ ps) h le =
    let apart : (p.var == x) ≡ false = grind (arith, common_steps, h.0, le) in
    rw apart (none-stands above x ps h.1 le)

below-more : (above new : ℕ) (ps : List Param) (i : ℕ) (default : Param) → i < length ps → above ≤ new → (get_or ps i default).var < new
    → ParamsBelow above (take i ps) → ParamsBelow new (take (suc i) ps)
below-more above new [] i default lt le here h = absurd (omega arith)
below-more above new (p ∷ ps) zero default lt le here h = (here, tt)
below-more above new (p ∷ ps) (suc i) default lt le here h = (omega (arith, h.0, le), below-more above new ps i default (omega arith) le here h.1)

-- one more of them
pub below-next : (above new x : ℕ) (ps : List Param) (i : ℕ) (default : Param) → i < length ps → x ≡ (get_or ps i default).var → above ≤ new → x < new
    → ParamsBelow above (take i ps) → ParamsBelow new (take (i + 1) ps)
below-next above new x ps i default lt is le here h = rw (add-one i) (below-more above new ps i default lt le (subst (λ y. y < new) is here) h)

drop-here : {A : Type 0} (xs : List A) (i : ℕ) (default : A) → i < length xs → drop i xs ≡ get_or xs i default ∷ drop (suc i) xs
drop-here [] i default lt = absurd (omega arith)
drop-here (x ∷ xs) zero default lt = refl
drop-here (x ∷ xs) (suc i) default lt = drop-here xs i default (omega arith)

take-here : {A : Type 0} (xs : List A) (i : ℕ) (default : A) → i < length xs → take (suc i) xs ≡ take i xs ++ get_or xs i default ∷ []
take-here [] i default lt = absurd (omega arith)
take-here (x ∷ xs) zero default lt = refl
take-here (x ∷ xs) (suc i) default lt = ap (λ ys. x ∷ ys) (take-here xs i default (omega arith))

new-first : (before : List Param) (p : Param) (ps : List Param) → list_any (λ q. q.var == p.var) before ≡ false
    → repeat_after before (p ∷ ps) ≡ repeat_after (before ++ p ∷ []) ps
new-first before p ps none = rw none refl

-- a variable that stands nowhere before
pub repeat-next : (ps : List Param) (i : ℕ) (default : Param) → i < length ps → list_any (λ q. q.var == (get_or ps i default).var) (take i ps) ≡ false
    → repeat_after (take (i + 1) ps) (drop (i + 1) ps) ≡ repeat_after (take i ps) (drop i ps)
repeat-next ps i default lt none =
    rw (add-one i) (ap (λ before. repeat_after before (drop (suc i) ps)) (take-here ps i default lt)
    ∙ sym (ap (repeat_after (take i ps)) (drop-here ps i default lt) ∙ new-first (take i ps) (get_or ps i default) (drop (suc i) ps) none))
