-- Heads of a column in the order of first standing there.
use Rattle.std.proofs.Common.{◌≡◌, List, [], ◌∷◌, ◌++◌, Bool, true, false, ◌||◌, Option, Some, None, refl, sym, ap, ◌∙◌}
use Rattle.std.specs.Prelude.{if◌then◌else◌}
use Rattle.std.proofs.Common.{append_assoc}
use Rattle.rb_matrix.specs.declared.matrix.Head.{Head}
use Rattle.rb_matrix.specs.Heads.{layer_begins, any_begins, sample}
use Rattle.rb_matrix.proofs.HeadLemmas.{any_begins-append, any_begins-alike}
use Rattle.rb_decide.specs.ClauseMatrices.{without, with_first}
use Rattle.rb_matrix.specs.Known.{with_head}

-- those that are not known
abbrev pub beyond : List Head → List Head → List Head
beyond known [] = []
beyond known (g ∷ gs) = if any_begins known (sample g) then beyond known gs else g ∷ beyond known gs

pub beyond-none : (hs : List Head) → beyond [] hs ≡ hs
beyond-none [] = refl
beyond-none (h ∷ hs) = ap (λ l. h ∷ l) (beyond-none hs)

-- what is like a known head is known
beyond-without : (known : List Head) (h : Head) → any_begins known (sample h) ≡ true → (hs : List Head) → beyond known (without h hs) ≡ beyond known hs
beyond-without known h is [] = refl
beyond-without known h is (g ∷ gs) = by (layer_begins h (sample g)) refl (beyond-without known h is gs)
  where
    by : (b : Bool) → layer_begins h (sample g) ≡ b → beyond known (without h gs) ≡ beyond known gs → beyond known (if b then without h gs else g ∷ without h gs) ≡ beyond known (g ∷ gs)
    by true e rest = rest
        ∙ sym (ap (λ b. if b then beyond known gs else g ∷ beyond known gs) (any_begins-alike known h (sample g) e ∙ is))
    by false e rest = ap (λ l. if any_begins known (sample g) then l else g ∷ l) rest

-- a head that is not known comes next
beyond-new : (known : List Head) (h : Head) (hs : List Head) → beyond known (without h hs) ≡ beyond (known ++ h ∷ []) hs
beyond-new known h [] = refl
beyond-new known h (g ∷ gs) = by (layer_begins h (sample g)) refl (beyond-new known h gs) ∙ sym (ap (λ b. if b then beyond (known ++ h ∷ []) gs else g ∷ beyond (known ++ h ∷ []) gs) (any_begins-append known h (sample g)))
  where
    either : (a : Bool) → (a || true) ≡ true
    either true = refl
    either false = refl

    neither : (a : Bool) → (a || false) ≡ a
    neither true = refl
    neither false = refl

    by : (b : Bool) → layer_begins h (sample g) ≡ b → beyond known (without h gs) ≡ beyond (known ++ h ∷ []) gs → beyond known (if b then without h gs else g ∷ without h gs)
        ≡ (if any_begins known (sample g) || layer_begins h (sample g) then beyond (known ++ h ∷ []) gs else g ∷ beyond (known ++ h ∷ []) gs)
    by true e rest = rest
        ∙ sym (ap (λ b. if any_begins known (sample g) || b then beyond (known ++ h ∷ []) gs else g ∷ beyond (known ++ h ∷ []) gs) e
        ∙ ap (λ b. if b then beyond (known ++ h ∷ []) gs else g ∷ beyond (known ++ h ∷ []) gs) (either (any_begins known (sample g))))
    by false e rest = ap (λ l. if any_begins known (sample g) then l else g ∷ l) rest
        ∙ sym (ap (λ b. if any_begins known (sample g) || b then beyond (known ++ h ∷ []) gs else g ∷ beyond (known ++ h ∷ []) gs) e
        ∙ ap (λ b. if b then beyond (known ++ h ∷ []) gs else g ∷ beyond (known ++ h ∷ []) gs) (neither (any_begins known (sample g))))

-- one row more
pub one-more : (known : List Head) (o : Option Head) (rest : List Head) → with_head known o ++ beyond (with_head known o) rest ≡ known ++ beyond known (with_first o rest)
one-more known None rest = refl
one-more known (Some h) rest = by (any_begins known (sample h)) refl
  where
    by : (b : Bool) → any_begins known (sample h) ≡ b → (if b then known else known ++ h ∷ []) ++ beyond (if b then known else known ++ h ∷ []) rest
        ≡ known ++ (if b then beyond known (without h rest) else h ∷ beyond known (without h rest))
    by true e = ap (λ l. known ++ l) (sym (beyond-without known h e rest))
    by false e = append_assoc known (h ∷ []) (beyond (known ++ h ∷ []) rest) ∙ ap (λ l. known ++ h ∷ l) (sym (beyond-new known h rest))
