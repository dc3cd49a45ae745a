-- Reading a text, token by token.
use Rattle.std.proofs.Common.{◌≡◌, ℕ, ◌-◌, ◌≤◌, List, [], ◌∷◌, ◌++◌, length, refl, arith, ◌∙◌, ap, sym, append_assoc, true, false, is_some, Option, Some, None, Result, Ok, Err}
use Rattle.std.proofs.lemmas.List.{map-append, append-nil}
use Rattle.rb_core.specs.declared.value.Value.{Value}
use Rattle.rb_core.specs.declared.types.Ty.{Ty}
use Rattle.rb_core.specs.declared.types.DataDecl.{DataDecl}
use Rattle.rb_syntax.specs.declared.token.Placed.{Placed}
use Rattle.rb_syntax.specs.Fronts.{Front, ends, front_with, front_at, front}
use Rattle.rb_values.specs.declared.outline.Outline.{Outline}
use Rattle.rb_values.specs.declared.fault.ValueFault.{ValueFault}
use Rattle.rb_values.specs.declared.fault.ValueFault.TheVariants.{ValueSyntax, ValueTooLarge, ValueType, Memory}
use Rattle.rb_values.specs.Terms.{Term, build, none, term_nodes, sign_of, signs}
use Rattle.rb_values.specs.Fitting.{first}
use Rattle.rb_values.specs.Reading.{StopsAt, token, refused, ended, ValueIsRead}
use Rattle.rb_values.specs.inner.States.{Wait, State, expecting, named, complete, step, end_of, term_of, IsStateOf, outline_of, outline_or_none, mode_whole}
use Rattle.rb_values.specs.inner.Typing.{settled_state}
use Rattle.rb_values.specs.inner.Finishing.{IsSettled, IsFinished}
use Rattle.rb_values.proofs.SpellingLemmas.{begins, reached_first, reached_next, stops, is_part, is_whole, whole_same, nodes_whole}

pub no-step : (o : Option State) → outline_or_none o ≡ None → o ≡ None
no-step None e = refl
no-step (Some s) e = cc

pub some-step : (o : Option State) (out : Outline) → outline_or_none o ≡ Some out → (next : State) × (o ≡ Some next) × (out ≡ outline_of next)
some-step None out e = cc
some-step (Some s) out e = (s, refl, cc)

pub first-nil : (xs : List ℕ) → first xs ≡ None → xs ≡ []
first-nil [] e = refl
first-nil (x ∷ xs) e = cc

no-term : (o : Option Term) → is_some o ≡ false → o ≡ None
no-term None e = refl
no-term (Some t) e = cc

some-term : (o : Option Term) → is_some o ≡ true → (t : Term) × (o ≡ Some t)
some-term None e = cc
some-term (Some t) e = (t, refl)

pub not-whole : (s : State) (o : Outline) → o ≡ outline_of s → mode_whole o.mode o.depth ≡ false → term_of s ≡ None
not-whole s o e w = no-term (term_of s) (sym (whole_same s) ∙ (rw e at w))

pub whole-term : (s : State) (o : Outline) → o ≡ outline_of s → mode_whole o.mode o.depth ≡ true → (t : Term) × (term_of s ≡ Some t) × (o.nodes ≡ term_nodes t)
whole-term s o e w =
    let r = some-term (term_of s) (sym (whole_same s) ∙ (rw e at w)) in
    (r.0, r.1, ap (λ (o : Outline). o.nodes) e ∙ nodes_whole s r.0 r.1)

end-settled : (t : Term) (os : List Wait) (v : Term) → end_of t os ≡ Some v → complete t os ≡ complete v []
end-settled t [] v e = let q : t ≡ v = cc in ap (λ (t : Term). complete t []) q
end-settled t (o ∷ os) v e = cc

pub settled-whole : (s : State) (t : Term) → term_of s ≡ Some t → settled_state s ≡ complete t []
settled-whole (expecting os) t e = cc
settled-whole (named at x os) t e = end-settled (build at x none) os t e
settled-whole (complete u os) t e = end-settled u os t e

pub finished : (types : List DataDecl) (ty : Ty) (limit len : ℕ) (s : State) (t : Term) (r : Result Value ValueFault) → term_of s ≡ Some t → term_nodes t ≤ limit
    → IsSettled types ty t r → IsFinished types ty limit s len r
finished types ty limit len s t (Ok v) e h g = (t, e, h, g.0, g.1)
finished types ty limit len s t (Err (ValueSyntax p)) e h g = absurd g
finished types ty limit len s t (Err ValueTooLarge) e h g = absurd g
finished types ty limit len s t (Err (ValueType p)) e h g = (t, e, h, g)
finished types ty limit len s t (Err Memory) e h g = tt

module _ (text : List ℕ) where
  -- the tokens before a byte lead to a state
  pub record At (at : ℕ) (seen : List Placed) (s : State) : Type 0 where
    pub tokens : (front text).tokens ≡ seen ++ (front_at text at).tokens
    pub fault : (front text).fault ≡ (front_at text at).fault
    pub reached : IsStateOf (signs seen) s

  pub at-first : At 0 [] (expecting [])
  at-first =
      let z : length text - 0 ≡ length text = omega arith in
      let e : front text ≡ front_at text 0 = rw z refl in
      record { tokens = ap (λ (f : Front). f.tokens) e; fault = ap (λ (f : Front). f.fault) e; reached = reached_first }

  module _ (at : ℕ) (seen : List Placed) (s : State) (h : At at seen s) where
    pub at-next : (end : ℕ) (p : Placed) (next : State) → front_at text at ≡ front_with p (front_at text end) → step s (sign_of p) ≡ Some next → At end (seen ++ p ∷ []) next
    at-next end p next e g = record {
      tokens = h.tokens ∙ ap (λ (f : Front). seen ++ f.tokens) e ∙ sym (append_assoc seen (p ∷ []) (front_at text end).tokens);
      fault = h.fault ∙ ap (λ (f : Front). f.fault) e;
      reached = rw (map-append sign_of seen (p ∷ [])) (reached_next (signs seen) (sign_of p) s next h.reached g);
    }

    pub stops-token : (rest : Front) (p : Placed) → front_at text at ≡ front_with p rest → step s (sign_of p) ≡ None → StopsAt text p.at
    stops-token rest p e g =
        token seen p rest.tokens (h.tokens ∙ ap (λ (f : Front). seen ++ f.tokens) e) refl (begins (signs seen) s h.reached) (stops (signs seen) (sign_of p) s h.reached g)

    all-seen : (f : Option ℕ) → front_at text at ≡ ends f → (front text).tokens ≡ seen
    all-seen f e = h.tokens ∙ ap (λ (f : Front). seen ++ f.tokens) e ∙ append-nil seen

    pub stops-fault : (p : ℕ) → front_at text at ≡ ends (Some p) → StopsAt text p
    stops-fault p e = refused (h.fault ∙ ap (λ (f : Front). f.fault) e) (rw (all-seen (Some p) e) (begins (signs seen) s h.reached))

    pub read-whole : (types : List DataDecl) (ty : Ty) (limit : ℕ) (r : Result Value ValueFault) → front_at text at ≡ ends None
        → IsFinished types ty limit s (length text) r → ValueIsRead types ty limit text r
    read-whole types ty limit (Ok v) e g =
        record { term = g.0; spells = (h.fault ∙ ap (λ (f : Front). f.fault) e, ap signs (all-seen None e) ∙ is_whole (signs seen) s g.0 h.reached g.1); within = g.2; fits = g.3; value = g.4 }
    read-whole types ty limit (Err (ValueSyntax p)) e g =
        ended (h.fault ∙ ap (λ (f : Front). f.fault) e) g.0 (rw (all-seen None e) (begins (signs seen) s h.reached))
        (λ t q. is_part (signs seen) s h.reached g.1 t (sym (ap signs (all-seen None e)) ∙ q))
    read-whole types ty limit (Err ValueTooLarge) e g =
        (g.0, (h.fault ∙ ap (λ (f : Front). f.fault) e, ap signs (all-seen None e) ∙ is_whole (signs seen) s g.0 h.reached g.1), g.2)
    read-whole types ty limit (Err (ValueType p)) e g =
        (g.0, (h.fault ∙ ap (λ (f : Front). f.fault) e, ap signs (all-seen None e) ∙ is_whole (signs seen) s g.0 h.reached g.1), g.2, g.3)
    read-whole types ty limit (Err Memory) e g = tt
