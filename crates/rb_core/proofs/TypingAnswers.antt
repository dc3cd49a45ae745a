-- What typing came from where it answers: a step and what follows it, a test, a wanted type, an integer type.
use Rattle.std.proofs.Common.{◌≡◌, ℕ, Bool, true, false, Option, Some, None, Ok, Err, refl, sym, ap, ◌∙◌, eqb-true}
use Rattle.std.specs.Prelude.{if◌then◌else◌}
use Rattle.rb_core.specs.declared.types.Ty.{Ty}
use Rattle.rb_core.specs.declared.types.Ty.TheVariants.{Int, Named}
use Rattle.rb_core.specs.declared.typing.TypeFault.{TypeFault}
use Rattle.rb_core.specs.Typing.{Typing, and_then, same_type, as_wanted, integer}

pub ok-same : {A : Type 0} {a b : A} → ◌≡◌ {A = Typing A} (Ok a) (Ok b) → a ≡ b
ok-same e = cc

-- what came before an answer
pub record Came {A B : Type 0} (first : Typing A) (go : A → Typing B) (b : B) : Type 0 where
  pub from : A
  pub first_is : first ≡ Ok from
  pub then_is : go from ≡ Ok b

pub came : {A B : Type 0} (first : Typing A) (go : A → Typing B) (b : B) → and_then first go ≡ Ok b → Came first go b
came (Ok a) go b e = record { from = a; first_is = refl; then_is = e }
came (Err f) go b e = cc

-- a choice of an answer and a fault that gave an answer
pub chosen : {A : Type 0} (b : Bool) (a t : A) (f : TypeFault) → (if b then Ok a else Err f) ≡ Ok t → (b ≡ true) × (a ≡ t)
chosen true a t f e = (refl, cc)
chosen false a t f e = cc

-- a choice of what typing gave and a fault that gave an answer
pub constructed : {A : Type 0} (b : Bool) (a : Typing A) (f : TypeFault) (t : A) → (if b then a else Err f) ≡ Ok t → (b ≡ true) × (a ≡ Ok t)
constructed true a f t e = (refl, e)
constructed false a f t e = cc

pub same_type-is : (t u : Ty) → same_type t u ≡ true → t ≡ u
same_type-is (Int n) (Int m) e = ap Int (eqb-true n m e)
same_type-is (Int n) (Named t) e = cc
same_type-is (Named t) (Int n) e = cc
same_type-is (Named t) (Named s) e = ap Named (eqb-true t s e)

-- what fits is what was found, and is what was wanted
pub fits_found : (at : ℕ) (wanted : Option Ty) (found t : Ty) → as_wanted at wanted found ≡ Ok t → found ≡ t
fits_found at None found t e = ok-same e
fits_found at (Some w) found t e =
    let c = chosen (same_type w found) w t _ e in sym (same_type-is w found c.0) ∙ c.1

pub fits_wanted : (at : ℕ) (w found t : Ty) → as_wanted at (Some w) found ≡ Ok t → w ≡ t
fits_wanted at w found t e = (chosen (same_type w found) w t _ e).1

pub integer_is : (at : ℕ) (u t : Ty) → integer at u ≡ Ok t → (n : ℕ) × (t ≡ Int n) × (u ≡ t)
integer_is at (Int n) t e = (n, sym (ok-same e), ok-same e)
integer_is at (Named s) t e = cc
