-- What is derived, one type after another.
use Rattle.std.proofs.Common.{◌≡◌, ℕ, ◌+◌, ◌<◌, List, [], ◌∷◌, ◌++◌, length, take, get_or, Option, Ok, Err, refl, sym, ap, ◌∙◌, subst, add-one}
use Rattle.std.specs.Option.{option_or}
use Rattle.std.proofs.Math.Seq.{take-suc}
use Rattle.rb_core.specs.declared.types.Auto.{Auto}
use Rattle.rb_core.specs.declared.program.Program.{Program}
use Rattle.rb_auto.specs.Answers.{Derives}
use Rattle.rb_names.specs.declared.derivation.Derived.{Derived}
use Rattle.rb_names.specs.Completing.{AreDerived, IsDerived, first_refusal, layouts_in}
use Rattle.rb_names.specs.inner.Deriving.{IsAllDerived, IsNext}

are-more : (p : Program) (kinds : List (Option Auto)) (ts : List ℕ) (rs : List Derives) (t : ℕ) (r : Derives) → AreDerived p kinds ts rs → IsDerived p kinds t r
    → AreDerived p kinds (ts ++ t ∷ []) (rs ++ r ∷ [])
are-more p kinds [] [] t r are is = (is, tt)
are-more p kinds [] (x ∷ rs) t r are is = absurd are
are-more p kinds (s ∷ ts) [] t r are is = absurd are
are-more p kinds (s ∷ ts) (x ∷ rs) t r are is = (are.0, are-more p kinds ts rs t r are.1 is)

layouts-more : (rs ss : List Derives) → layouts_in (rs ++ ss) ≡ layouts_in rs ++ layouts_in ss
layouts-more [] ss = refl
layouts-more (Ok d ∷ rs) ss = ap (λ ds. d ∷ ds) (layouts-more rs ss)
layouts-more (Err e ∷ rs) ss = layouts-more rs ss

refusal-more : (rs ss : List Derives) → first_refusal (rs ++ ss) ≡ option_or (first_refusal rs) (first_refusal ss)
refusal-more [] ss = refl
refusal-more (Ok d ∷ rs) ss = refusal-more rs ss
refusal-more (Err e ∷ rs) ss = refl

module _ (p : Program) (kinds : List (Option Auto)) where
  one-more : (ts : List ℕ) (t : ℕ) (before after : Derived) → IsAllDerived p kinds ts before → IsNext p kinds t before after → IsAllDerived p kinds (ts ++ t ∷ []) after
  one-more ts t before after all next = record {
    answers = all.answers ++ next.answer ∷ [];
    are_derived = are-more p kinds ts all.answers t next.answer all.are_derived next.is_derived;
    layouts = next.layouts ∙ ap (λ ds. ds ++ layouts_in (next.answer ∷ [])) all.layouts ∙ sym (layouts-more all.answers (next.answer ∷ []));
    refused = next.refused ∙ ap (λ o. option_or o (first_refusal (next.answer ∷ []))) all.refused ∙ sym (refusal-more all.answers (next.answer ∷ []));
  }

  pub derived-next : (ts : List ℕ) (i : ℕ) (before after : Derived) → i < length ts → IsAllDerived p kinds (take i ts) before → IsNext p kinds (get_or ts i 0) before after
      → IsAllDerived p kinds (take (i + 1) ts) after
  derived-next ts i before after lt all next =
      subst (λ us. IsAllDerived p kinds us after) (sym (ap (λ n. take n ts) (add-one i) ∙ take-suc ts i 0 lt)) (one-more (take i ts) (get_or ts i 0) before after all next)
