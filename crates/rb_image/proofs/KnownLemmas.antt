-- Places in a set: what its keys make of a test, and of a place that is added.
use lib.Pointwise.{pointwise}
use Rattle.std.proofs.Common.{◌≡◌, ℕ, ◌||◌, ◌&&◌, nat_eq, Bool, true, false, List, [], ◌∷◌, ◌++◌, map, refl, sym, subst, ap, ◌∙◌, arith}
use Rattle.std.specs.Prelude.{if◌then◌else◌}
use Rattle.std.specs.List.{AllByRecursion, list_any}
use Rattle.std.proofs.lemmas.Bool.{and_parts}
use Rattle.std.proofs.lemmas.List.{map-append}
use Rattle.std.proofs.lemmas.Grind.{common_steps}
use Rattle.rb_image.specs.declared.kept.Kept.{Kept}
use Rattle.rb_image.specs.declared.kept.Place.{Place}
use Rattle.rb_image.specs.Parts.{At, at_of}
use Rattle.rb_image.specs.inner.Knowing.{is_among, same_place, same_word, with_place}

-- Equal places -------------------------------------------------------------------------------

same_nat : (a b : ℕ) → nat_eq a b ≡ true → a ≡ b
same_nat a b e = grind (arith, common_steps)

word_is : (v w : Kept) → same_word v w ≡ true → v ≡ w
word_is v w e =
    let a = and_parts (nat_eq v.number w.number) (nat_eq v.base w.base && nat_eq v.place w.place) e in
    let b = and_parts (nat_eq v.base w.base) (nat_eq v.place w.place) a.1 in
    ap (λ (n : ℕ). record { number = n; base = v.base; place = v.place }) (same_nat v.number w.number a.0)
    ∙ ap (λ (n : ℕ). record { number = w.number; base = n; place = v.place }) (same_nat v.base w.base b.0)
    ∙ ap (λ (n : ℕ). record { number = w.number; base = w.base; place = n }) (same_nat v.place w.place b.1)

words_are : (vs ws : List Kept) → pointwise same_word vs ws ≡ true → vs ≡ ws
words_are [] [] e = refl
words_are [] (w ∷ ws) e = absurd cc
words_are (v ∷ vs) [] e = absurd cc
words_are (v ∷ vs) (w ∷ ws) e =
    let b = and_parts (same_word v w) (pointwise same_word vs ws) e in
    ap (λ x. x ∷ vs) (word_is v w b.0) ∙ ap (λ xs. w ∷ xs) (words_are vs ws b.1)

place_is : (p q : At) → same_place p q ≡ true → q ≡ p
place_is p q e =
    let b = and_parts (nat_eq p.ty q.ty) (pointwise same_word p.words q.words) e in
    ap (λ (t : ℕ). record { ty = t; words = q.words }) (sym (same_nat p.ty q.ty b.0)) ∙ ap (λ (ws : List Kept). record { ty = p.ty; words = ws }) (sym (words_are p.words q.words b.1))

-- Members ------------------------------------------------------------------------------------
-- what holds of all holds of a place among them
pub holds_among : (P : At → Type 0) (ps : List At) (p : At) → AllByRecursion P ps → is_among ps p ≡ true → P p
holds_among P [] p all e = absurd cc
holds_among P (q ∷ qs) p all e = turn (holds_among P qs p all.1) (same_place p q) refl
  where
    turn : (is_among qs p ≡ true → P p) → (b : Bool) → same_place p q ≡ b → P p
    turn rest true is = subst P (place_is p q is) all.0
    turn rest false is = rest (ap (λ b. b || list_any (same_place p) qs) (sym is) ∙ e)

all_last : (P : At → Type 0) (ps : List At) (p : At) → AllByRecursion P ps → P p → AllByRecursion P (ps ++ p ∷ [])
all_last P [] p all h = (h, tt)
all_last P (q ∷ qs) p all h = (all.0, all_last P qs p all.1 h)

-- and of one more
pub holds_with : (P : At → Type 0) (ps : List At) (p : At) → AllByRecursion P ps → P p → AllByRecursion P (with_place ps p)
holds_with P ps p all h = turn (is_among ps p)
  where
    turn : (b : Bool) → AllByRecursion P (if b then ps else ps ++ p ∷ [])
    turn true = all
    turn false = all_last P ps p all h

-- Keys ---------------------------------------------------------------------------------------
pub has-keys : (p : At) (test : Place → Bool) → ((q : Place) → test q ≡ same_place p (at_of q)) → (ks : List Place) → list_any test ks ≡ is_among (map at_of ks) p
has-keys p test same [] = refl
has-keys p test same (k ∷ ks) = ap (λ b. b || list_any test ks) (same k) ∙ ap (λ b. same_place p (at_of k) || b) (has-keys p test same ks)

chosen : (b : Bool) (ks : List Place) (p : Place) → map at_of (if b then ks else ks ++ p ∷ []) ≡ (if b then map at_of ks else map at_of ks ++ at_of p ∷ [])
chosen true ks p = refl
chosen false ks p = map-append at_of ks (p ∷ [])

pub add-keys : (p : Place) (test : Place → Bool) → ((q : Place) → test q ≡ same_place (at_of p) (at_of q)) → (ks new : List Place) → new ≡ (if list_any test ks then ks else ks ++ p ∷ [])
    → map at_of new ≡ with_place (map at_of ks) (at_of p)
add-keys p test same ks new is =
    ap (map at_of) is ∙ chosen (list_any test ks) ks p ∙ ap (λ b. if b then map at_of ks else map at_of ks ++ at_of p ∷ []) (has-keys (at_of p) test same ks)
