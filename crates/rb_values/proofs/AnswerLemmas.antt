-- A text at a type within a limit has one answer, want of memory aside.
use Rattle.std.proofs.Common.{◌≡◌, ◌≢◌, ℕ, ◌<◌, ◌≤◌, List, [], ◌∷◌, ◌++◌, Option, Some, None, Result, Ok, Err, refl, sym, ◌∙◌, ap, arith, append_assoc}
use Rattle.std.proofs.lemmas.List.{map-append, append-nil}
use Rattle.rb_core.specs.declared.value.Value.{Value}
use Rattle.rb_core.specs.declared.types.Ty.{Ty}
use Rattle.rb_core.specs.declared.types.DataDecl.{DataDecl}
use Rattle.rb_syntax.specs.declared.token.Placed.{Placed}
use Rattle.rb_syntax.specs.Fronts.{front}
use Rattle.rb_values.specs.declared.sign.Sign.{Sign}
use Rattle.rb_values.specs.declared.fault.ValueFault.{ValueFault}
use Rattle.rb_values.specs.declared.fault.ValueFault.TheVariants.{ValueSyntax, ValueTooLarge, ValueType, Memory}
use Rattle.rb_values.specs.Terms.{Term, term_nodes, sign_of, signs, SpellsTerm}
use Rattle.rb_values.specs.Fitting.{misfits, first, value_of}
use Rattle.rb_values.specs.Reading.{IsSignFront, StopsAt, token, refused, ended, SpellsValue, ValueIsRead}
use Rattle.rb_values.specs.inner.States.{expecting, answer}
use Rattle.rb_values.proofs.SpellingLemmas.{again}

some-number : (p q : ℕ) → Some p ≡ Some q → p ≡ q
some-number p q e = cc

not-none : (p : ℕ) → ◌≡◌ {A = Option ℕ} (Some p) None → ⊥
not-none p e = cc

some-term : (t u : Term) → Some t ≡ Some u → t ≡ u
some-term t u e = cc

-- a text spells one term
one-term : (text : List ℕ) (t u : Term) → SpellsTerm text t → SpellsTerm text u → t ≡ u
one-term text t u h g = some-term t u (sym (again t) ∙ ap (answer (expecting [])) (sym h.1 ∙ g.1) ∙ again u)

-- Where no value goes on ---------------------------------------------------------------------

parts : (before : List Placed) (here : Placed) (behind : List Placed) → signs (before ++ here ∷ behind) ≡ signs before ++ sign_of here ∷ signs behind
parts before here behind = map-append sign_of before (here ∷ behind)

-- what a value begins with, up to one of its tokens
cut-short : (before : List Placed) (here : Placed) (behind all : List Placed) → all ≡ before ++ here ∷ behind → IsSignFront (signs all) → IsSignFront (signs before ++ sign_of here ∷ [])
cut-short before here behind all e b = (
  b.0,
  signs behind ++ b.1,
  append_assoc (signs before) (sign_of here ∷ []) (signs behind ++ b.1)
      ∙ sym (append_assoc (signs before) (sign_of here ∷ signs behind) b.1)
      ∙ ap (λ (l : List Sign). l ++ b.1) (sym (ap signs e ∙ parts before here behind))
      ∙ b.2,
)

whole-begins : (text : List ℕ) (t : Term) → SpellsTerm text t → IsSignFront (signs (front text).tokens)
whole-begins text t h = (t, [], append-nil (signs (front text).tokens) ∙ h.1)

not-spelled : (text : List ℕ) (p : ℕ) (t : Term) → StopsAt text p → SpellsTerm text t → ⊥
not-spelled text p t (token before here behind e at b stop) h = stop (cut-short before here behind (front text).tokens e (whole-begins text t h))
not-spelled text p t (refused f b) h = not-none p (sym f ∙ h.0)
not-spelled text p t (ended f l b w) h = w t h.1

-- two tokens of a list are the same, or one stands before the other
data Apart (x : List Placed) (a : Placed) (z : List Placed) (c : Placed) : Type 0 where
  same : a ≡ c → Apart x a z c
  later : (m : List Placed) → z ≡ x ++ a ∷ m → Apart x a z c
  sooner : (m : List Placed) → x ≡ z ++ c ∷ m → Apart x a z c

apart-more : (x : List Placed) (a : Placed) (z : List Placed) (c b d : Placed) → b ≡ d → Apart x a z c → Apart (b ∷ x) a (d ∷ z) c
apart-more x a z c b d q (same e) = same e
apart-more x a z c b d q (later m e) = later m (ap (λ (l : List Placed). d ∷ l) e ∙ ap (λ (k : Placed). k ∷ (x ++ a ∷ m)) (sym q))
apart-more x a z c b d q (sooner m e) = sooner m (ap (λ (l : List Placed). b ∷ l) e ∙ ap (λ (k : Placed). k ∷ (z ++ c ∷ m)) q)

apart : (x : List Placed) (a : Placed) (y z : List Placed) (c : Placed) (w : List Placed) → x ++ a ∷ y ≡ z ++ c ∷ w → Apart x a z c
apart [] a y [] c w e = let q : a ≡ c = cc in same q
apart [] a y (d ∷ z) c w e = let q : d ≡ a = cc in later z (ap (λ (k : Placed). k ∷ z) q)
apart (b ∷ x) a y [] c w e = let q : b ≡ c = cc in sooner x (ap (λ (k : Placed). k ∷ x) q)
apart (b ∷ x) a y (d ∷ z) c w e =
    let q : b ≡ d = cc in
    let r : x ++ a ∷ y ≡ z ++ c ∷ w = cc in
    apart-more x a z c b d q (apart x a y z c w r)

met : (x : List Placed) (a : Placed) (z : List Placed) (c : Placed) → IsSignFront (signs x) → (IsSignFront (signs x ++ sign_of a ∷ []) → ⊥)
    → IsSignFront (signs z) → (IsSignFront (signs z ++ sign_of c ∷ []) → ⊥) → Apart x a z c → a ≡ c
met x a z c b stop d halt (same e) = e
met x a z c b stop d halt (later m e) = absurd (stop (cut-short x a m z e d))
met x a z c b stop d halt (sooner m e) = absurd (halt (cut-short z c m x e b))

one-place : (text : List ℕ) (p q : ℕ) → StopsAt text p → StopsAt text q → p ≡ q
one-place text p q (token x a y e at b stop) (token z c w f place d halt) =
    sym at ∙ ap (λ (k : Placed). k.at) (met x a z c b stop d halt (apart x a y z c w (sym e ∙ f))) ∙ place
one-place text p q (token x a y e at b stop) (refused f d) = absurd (stop (cut-short x a y (front text).tokens e d))
one-place text p q (token x a y e at b stop) (ended f l d w) = absurd (stop (cut-short x a y (front text).tokens e d))
one-place text p q (refused e b) (token z c w f place d halt) = absurd (halt (cut-short z c w (front text).tokens f b))
one-place text p q (refused e b) (refused f d) = some-number p q (sym e ∙ f)
one-place text p q (refused e b) (ended f l d w) = absurd (not-none p (sym e ∙ f))
one-place text p q (ended e l b v) (token z c w f place d halt) = absurd (halt (cut-short z c w (front text).tokens f b))
one-place text p q (ended e l b v) (refused f d) = absurd (not-none q (sym f ∙ e))
one-place text p q (ended e l b v) (ended f k d w) = l ∙ sym k

-- One answer -----------------------------------------------------------------------------------

module _ (types : List DataDecl) (ty : Ty) (limit : ℕ) (text : List ℕ) where
  not-large : (t u : Term) → SpellsTerm text t → SpellsTerm text u → term_nodes t ≤ limit → limit < term_nodes u → ⊥
  not-large t u h g w l = omega (arith, w, l, ap term_nodes (one-term text t u h g))

  not-both : (t u : Term) (p : ℕ) → SpellsTerm text t → SpellsTerm text u → misfits types t ty ≡ [] → first (misfits types u ty) ≡ Some p → ⊥
  not-both t u p h g f e = not-none p (sym e ∙ ap (λ (t : Term). first (misfits types t ty)) (one-term text u t g h) ∙ ap first f)

  one-value : (v w : Value) → SpellsValue types ty limit text v → SpellsValue types ty limit text w → v ≡ w
  one-value v w r s = r.value ∙ ap (λ (t : Term). value_of types t ty) (one-term text r.term s.term r.spells s.spells) ∙ sym s.value

  one-misfit : (t u : Term) (p q : ℕ) → SpellsTerm text t → SpellsTerm text u → first (misfits types t ty) ≡ Some p → first (misfits types u ty) ≡ Some q → p ≡ q
  one-misfit t u p q h g e f = some-number p q (sym e ∙ ap (λ (t : Term). first (misfits types t ty)) (one-term text t u h g) ∙ f)

  pub one-answer : (r s : Result Value ValueFault) → r ≢ Err Memory → s ≢ Err Memory → ValueIsRead types ty limit text r → ValueIsRead types ty limit text s → r ≡ s
  one-answer (Err Memory) s x y h g = absurd (x refl)
  one-answer (Ok v) (Err Memory) x y h g = absurd (y refl)
  one-answer (Ok v) (Ok w) x y h g = ap (λ (v : Value). Ok v) (one-value v w h g)
  one-answer (Ok v) (Err (ValueSyntax q)) x y h g = absurd (not-spelled text q h.term g h.spells)
  one-answer (Ok v) (Err ValueTooLarge) x y h g = absurd (not-large h.term g.0 h.spells g.1 h.within g.2)
  one-answer (Ok v) (Err (ValueType q)) x y h g = absurd (not-both h.term g.0 q h.spells g.1 h.fits g.3)
  one-answer (Err (ValueSyntax p)) (Err Memory) x y h g = absurd (y refl)
  one-answer (Err (ValueSyntax p)) (Ok w) x y h g = absurd (not-spelled text p g.term h g.spells)
  one-answer (Err (ValueSyntax p)) (Err (ValueSyntax q)) x y h g = ap (λ (p : ℕ). Err (ValueSyntax p)) (one-place text p q h g)
  one-answer (Err (ValueSyntax p)) (Err ValueTooLarge) x y h g = absurd (not-spelled text p g.0 h g.1)
  one-answer (Err (ValueSyntax p)) (Err (ValueType q)) x y h g = absurd (not-spelled text p g.0 h g.1)
  one-answer (Err ValueTooLarge) (Err Memory) x y h g = absurd (y refl)
  one-answer (Err ValueTooLarge) (Ok w) x y h g = absurd (not-large g.term h.0 g.spells h.1 g.within h.2)
  one-answer (Err ValueTooLarge) (Err (ValueSyntax q)) x y h g = absurd (not-spelled text q h.0 g h.1)
  one-answer (Err ValueTooLarge) (Err ValueTooLarge) x y h g = refl
  one-answer (Err ValueTooLarge) (Err (ValueType q)) x y h g = absurd (not-large g.0 h.0 g.1 h.1 g.2 h.2)
  one-answer (Err (ValueType p)) (Err Memory) x y h g = absurd (y refl)
  one-answer (Err (ValueType p)) (Ok w) x y h g = absurd (not-both g.term h.0 p g.spells h.1 g.fits h.3)
  one-answer (Err (ValueType p)) (Err (ValueSyntax q)) x y h g = absurd (not-spelled text q h.0 g h.1)
  one-answer (Err (ValueType p)) (Err ValueTooLarge) x y h g = absurd (not-large h.0 g.0 h.1 g.1 h.2 g.2)
  one-answer (Err (ValueType p)) (Err (ValueType q)) x y h g = ap (λ (p : ℕ). Err (ValueType p)) (one-misfit h.0 g.0 p q h.1 g.1 h.3 g.3)
