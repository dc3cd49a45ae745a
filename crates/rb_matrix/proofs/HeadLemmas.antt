-- Heads of columns.
use Rattle.std.proofs.Common.{◌≡◌, ℕ, List, [], ◌∷◌, ◌++◌, Bool, true, false, ◌||◌, ◌==◌, refl, sym, ap, ◌∙◌}
use Rattle.std.proofs.Math.Bool.{or-false, or_assoc}
use Rattle.std.proofs.lemmas.Bool.{eqb-true, false≢true}
use Rattle.rb_core.specs.declared.value.Value.{Value}
use Rattle.rb_core.specs.declared.value.Value.TheOpen as V
use Rattle.rb_core.specs.declared.value.Value.TheOpen.{Value-F}
use Rattle.rb_matrix.specs.declared.matrix.Head.{Head}
use Rattle.rb_matrix.specs.declared.matrix.Head.TheVariants as H
use Rattle.rb_matrix.specs.Heads.{layer_begins, any_begins, sample}

pub any_begins-append : (hs : List Head) (h : Head) (l : Value-F Value) → any_begins (hs ++ h ∷ []) l ≡ (any_begins hs l || layer_begins h l)
any_begins-append [] h l = or-false (layer_begins h l)
any_begins-append (g ∷ hs) h l = ap (λ b. layer_begins g l || b) (any_begins-append hs h l) ∙ sym (or_assoc (layer_begins g l) (any_begins hs l) (layer_begins h l))

-- what begins with one head is alike to every other head
alike : (g h : Head) (l : Value-F Value) → layer_begins h l ≡ true → layer_begins g l ≡ layer_begins g (sample h)
alike (H.Num m) (H.Num n) (V.Num k) e = ap (λ i. m == i) (sym (eqb-true n k e))
alike (H.Num m) (H.Num n) (V.Con k us) e = absurd (false≢true e)
alike (H.Num m) (H.Con c) (V.Num k) e = absurd (false≢true e)
alike (H.Num m) (H.Con c) (V.Con k us) e = refl
alike (H.Con c) (H.Num n) (V.Num k) e = refl
alike (H.Con c) (H.Num n) (V.Con k us) e = absurd (false≢true e)
alike (H.Con c) (H.Con d) (V.Num k) e = absurd (false≢true e)
alike (H.Con c) (H.Con d) (V.Con k us) e = ap (λ i. c.con == i) (sym (eqb-true d.con k e))

pub any_begins-alike : (hs : List Head) (h : Head) (l : Value-F Value) → layer_begins h l ≡ true → any_begins hs l ≡ any_begins hs (sample h)
any_begins-alike [] h l e = refl
any_begins-alike (g ∷ hs) h l e = ap (λ b. b || any_begins hs l) (alike g h l e) ∙ ap (λ b. layer_begins g (sample h) || b) (any_begins-alike hs h l e)

-- a known head adds nothing
pub any_begins-known : (hs : List Head) (h : Head) → any_begins hs (sample h) ≡ true → (l : Value-F Value) → (any_begins hs l || layer_begins h l) ≡ any_begins hs l
any_begins-known hs h known l = by (layer_begins h l) refl
  where
    by : (b : Bool) → layer_begins h l ≡ b → (any_begins hs l || layer_begins h l) ≡ any_begins hs l
    by false e = ap (λ c. any_begins hs l || c) e ∙ or-false (any_begins hs l)
    by true e = let all = any_begins-alike hs h l e ∙ known in ap (λ c. c || layer_begins h l) all ∙ sym all

-- a constructor's fields are no part of its head
pub any_begins-con : (hs : List Head) (k : ℕ) (us : List Value) → any_begins hs (V.Con k us) ≡ any_begins hs (V.Con k [])
any_begins-con [] k us = refl
any_begins-con (H.Num m ∷ hs) k us = any_begins-con hs k us
any_begins-con (H.Con c ∷ hs) k us = ap (λ b. (c.con == k) || b) (any_begins-con hs k us)
