-- Texts of lists grow at their end, and those of a pattern's fields with them.
use Rattle.std.proofs.Common.{◌≡◌, ℕ, suc, ◌+◌, ◌<◌, List, [], ◌∷◌, ◌++◌, codes, map, length, take, get_or, sym, ap, ◌∙◌, append_assoc, append-nil, length-take, ne_eqb, if◌then◌else◌, Bool, arith}
use Rattle.std.proofs.lemmas.List.{take_more, map-append, length-map}
use Rattle.std.proofs.lemmas.List.Concat.{flat_map-append}
use Rattle.std.specs.List.{flat_map}
use Rattle.rb_core.specs.Texts.{opening_text}
use Rattle.rb_core.specs.inner.Texts.{opening}

-- one piece more, behind what stood there at first
pub appended : {X : Type 0} (first done all : List X) (x : List X) (before after : List X) → before ≡ first ++ done → after ≡ before ++ x → all ≡ done ++ x → after ≡ first ++ all
appended first done all x before after e0 e1 e2 =
    e1 ∙ ap (λ t. t ++ x) e0 ∙ append_assoc first done x ∙ ap (λ t. first ++ t) (sym e2)

pub two : {X : Type 0} (start x y middle after : List X) (s : List X) → middle ≡ start ++ s → s ≡ x → after ≡ middle ++ y → after ≡ start ++ (x ++ y)
two start x y middle after s e0 e1 e2 = e2 ∙ ap (λ t. t ++ y) (e0 ∙ ap (λ t. start ++ t) e1) ∙ append_assoc start x y

-- Fields of patterns ------------------------------------------------------------------------

abbrev comma : List ℕ → List ℕ
comma u = codes ", " ++ u

opening-suc : (n : ℕ) → opening (suc n) ≡ codes ", "
opening-suc n = ap (λ (b : Bool). if b then codes "(" else codes ", ") (ne_eqb (suc n) 0 (λ e. omega (arith, e)))

opened-push : (ts : List (List ℕ)) (t : List ℕ) → opening_text (ts ++ t ∷ []) ≡ opening_text ts ++ (opening (length ts) ++ t)
opened-push [] t = ap (λ u. codes "(" ++ u) (append-nil t)
opened-push (u ∷ us) t =
    ap (λ v. codes "(" ++ u ++ v) (flat_map-append comma us (t ∷ []) ∙ ap (λ v. flat_map comma us ++ v) (append-nil (comma t)))
    ∙ ap (λ v. codes "(" ++ v) (sym (append_assoc u (flat_map comma us) (comma t)))
    ∙ ap (λ v. opening_text (u ∷ us) ++ (v ++ t)) (sym (opening-suc (length us)))

pub opened_next : {X : Type 0} (f : X → List ℕ) (xs : List X) (k : ℕ) (d : X) → k < length xs
    → opening_text (map f (take (k + 1) xs)) ≡ opening_text (map f (take k xs)) ++ (opening k ++ f (get_or xs k d))
opened_next f xs k d lt =
    let many : length (map f (take k xs)) ≡ k = let e = length-take k xs in let m = length-map (take k xs) f in omega (arith, e, m, lt) in
    ap (λ ys. opening_text (map f ys)) (take_more xs k d lt) ∙ ap (λ ts. opening_text ts) (map-append f (take k xs) (get_or xs k d ∷ []))
    ∙ opened-push (map f (take k xs)) (f (get_or xs k d))
    ∙ ap (λ n. opening_text (map f (take k xs)) ++ (opening n ++ f (get_or xs k d))) many
