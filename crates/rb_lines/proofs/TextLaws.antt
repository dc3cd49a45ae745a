-- The text of a list grows at its end.
use Rattle.std.proofs.Common.{◌≡◌, ℕ, ◌+◌, ◌<◌, List, [], ◌∷◌, ◌++◌, length, map, take, get_or, refl, sym, ap, ◌∙◌, append-nil}
use Rattle.std.proofs.lemmas.List.{take_more}
use Rattle.std.proofs.lemmas.List.Concat.{flat_map-append}
use Rattle.std.specs.List.{flat_map}

pub flat_map_next : {X A : Type 0} (f : X → List A) (xs : List X) (k : ℕ) (d : X) → k < length xs → flat_map f (take (k + 1) xs) ≡ flat_map f (take k xs) ++ f (get_or xs k d)
flat_map_next f xs k d lt =
    ap (λ ys. flat_map f ys) (take_more xs k d lt) ∙ flat_map-append f (take k xs) (get_or xs k d ∷ [])
    ∙ ap (λ t. flat_map f (take k xs) ++ t) (append-nil (f (get_or xs k d)))

flat_map-map : {X Y A : Type 0} (f : Y → List A) (g : X → Y) (xs : List X) → flat_map f (map g xs) ≡ flat_map (λ x. f (g x)) xs
flat_map-map f g [] = refl
flat_map-map f g (x ∷ xs) = ap (λ t. f (g x) ++ t) (flat_map-map f g xs)

pub mapped_next : {X Y A : Type 0} (f : Y → List A) (g : X → Y) (xs : List X) (k : ℕ) (d : X) → k < length xs
    → flat_map f (map g (take (k + 1) xs)) ≡ flat_map f (map g (take k xs)) ++ f (g (get_or xs k d))
mapped_next f g xs k d lt =
    flat_map-map f g (take (k + 1) xs) ∙ flat_map_next (λ x. f (g x)) xs k d lt ∙ ap (λ t. t ++ f (g (get_or xs k d))) (sym (flat_map-map f g (take k xs)))
