-- Constructors of patterns by position, form by form.
use Rattle.std.proofs.Common.{◌≡◌, ℕ, suc, ◌+◌, ◌≤◌, List, [], ◌∷◌, ◌++◌, map, length, drop, add-one, Option, Some, None, refl, sym, ap, ◌∙◌}
use Rattle.std.specs.Prelude.{slice_get}
use Rattle.std.proofs.lemmas.List.{append-nil, append_assoc, map-append, drop_all}
use Rattle.rb_core.specs.declared.types.ConRef.{ConRef}
use Rattle.rb_core.specs.declared.pattern.Pat.{Pat, Wild, Var, Num, Con}
use Rattle.rb_core.proofs.PatternLaws.{fold-Wild, fold-Var, fold-Num, fold-Con}
use Rattle.rb_layout.specs.declared.layout.Leaf.{Leaf}
use Rattle.rb_layout.proofs.Walks.{drop_from}
use Rattle.rb_rel.specs.Switches.{HeadAt, head_below, heads_below, heads_of, heads_step, inner_heads}
use Rattle.rb_fetch.specs.declared.heads.Place.{Place}
use Rattle.rb_fetch.specs.inner.Heads.{behind, head_behind, head_under, heads_behind, shown_heads}

under-below : (path : List ℕ) (i : ℕ) (hs : List HeadAt) → map (head_under path) (map (head_below i) hs) ≡ map (head_under (path ++ i ∷ [])) hs
under-below path i [] = refl
under-below path i (h ∷ hs) =
    let here : path ++ i ∷ h.path ≡ (path ++ i ∷ []) ++ h.path = sym (append_assoc path (i ∷ []) h.path) in
    ap (λ (p : List ℕ). record { path = p; con = h.con } ∷ map (head_under path) (map (head_below i) hs)) here
    ∙ ap (λ (xs : List HeadAt). record { path = (path ++ i ∷ []) ++ h.path; con = h.con } ∷ xs) (under-below path i hs)

abbrev rest : List ℕ → List Pat → ℕ → List HeadAt
rest path pats i = map (head_under path) (heads_below (map heads_of (drop i pats)) i)

rest-more : (path : List ℕ) (pats : List Pat) (i : ℕ) (p : Pat) → slice_get pats i ≡ Some p → rest path pats i ≡ map (head_under (path ++ i ∷ [])) (heads_of p) ++ rest path pats (i + 1)
rest-more path pats i p is =
    ap (λ (ps : List Pat). map (head_under path) (heads_below (map heads_of ps) i)) (drop_from pats i p is)
    ∙ map-append (head_under path) (map (head_below i) (heads_of p)) (heads_below (map heads_of (drop (suc i) pats)) (i + 1))
    ∙ ap (λ (xs : List HeadAt). xs ++ map (head_under path) (heads_below (map heads_of (drop (suc i) pats)) (i + 1))) (under-below path i (heads_of p))
    ∙ ap (λ n. map (head_under (path ++ i ∷ [])) (heads_of p) ++ map (head_under path) (heads_below (map heads_of (drop n pats)) (i + 1))) (sym (add-one i))

pub heads-more : (path longer : List ℕ) (pats : List Pat) (i : ℕ) (p : Pat) (here next start : List HeadAt) → slice_get pats i ≡ Some p → longer ≡ path ++ i ∷ []
    → next ≡ here ++ map (head_under longer) (heads_of p) → here ++ rest path pats i ≡ start → next ++ rest path pats (i + 1) ≡ start
heads-more path longer pats i p here next start is long added all =
    ap (λ (xs : List HeadAt). xs ++ rest path pats (i + 1)) (added ∙ ap (λ (q : List ℕ). here ++ map (head_under q) (heads_of p)) long)
    ∙ append_assoc here (map (head_under (path ++ i ∷ [])) (heads_of p)) (rest path pats (i + 1))
    ∙ ap (λ (xs : List HeadAt). here ++ xs) (sym (rest-more path pats i p is)) ∙ all

pub heads-end : (path : List ℕ) (pats : List Pat) (i : ℕ) (here start : List HeadAt) → length pats ≤ i → here ++ rest path pats i ≡ start → here ≡ start
heads-end path pats i here start le all =
    let nothing : rest path pats i ≡ [] = ap (λ (ps : List Pat). map (head_under path) (heads_below (map heads_of ps) i)) (drop_all i pats le) in
    sym (append-nil here) ∙ ap (λ (xs : List HeadAt). here ++ xs) (sym nothing) ∙ all

shown-more : (ps : List Place) (p : Place) → shown_heads (ps ++ p ∷ []) ≡ shown_heads ps ++ record { path = p.path; con = p.con } ∷ []
shown-more [] p = refl
shown-more (q ∷ ps) p = ap (λ (hs : List HeadAt). record { path = q.path; con = q.con } ∷ hs) (shown-more ps p)

pub heads_of_con : (pat : Pat) (at : ℕ) (c : ConRef) (pats : List Pat) (path here : List ℕ) (old one new : List Place) → pat ≡ Con at c pats → here ≡ path
    → one ≡ old ++ record { path = here; con = c } ∷ [] → shown_heads new ≡ shown_heads one ++ map (head_under path) (heads_below (map heads_of pats) 0)
    → shown_heads new ≡ shown_heads old ++ map (head_under path) (heads_of pat)
heads_of_con pat at c pats path here old one new is same first rest1 =
    let below = map (head_under path) (heads_below (map heads_of pats) 0) in
    rest1 ∙ ap (λ (ps : List Place). shown_heads ps ++ below) first
    ∙ ap (λ (hs : List HeadAt). hs ++ below) (shown-more old (record { path = here; con = c }))
    ∙ append_assoc (shown_heads old) (record { path = here; con = c } ∷ []) below
    ∙ ap (λ (q : List ℕ). shown_heads old ++ record { path = q; con = c } ∷ below) (same ∙ sym (append-nil path))
    ∙ ap (λ (hs : List HeadAt). shown_heads old ++ map (head_under path) hs) (sym (fold-Con (List HeadAt) heads_step at c pats))
    ∙ ap (λ (p : Pat). shown_heads old ++ map (head_under path) (heads_of p)) (sym is)

pub under-root : (hs : List HeadAt) → map (head_under []) hs ≡ hs
under-root [] = refl
under-root (h ∷ hs) = ap (λ (xs : List HeadAt). h ∷ xs) (under-root hs)

pub inner_con : (leaf : Leaf) (at : ℕ) (c : ConRef) (pats : List Pat) (path : List ℕ) (old new : List Place) → leaf.prov ≡ Con at c pats → old ≡ []
    → shown_heads new ≡ shown_heads old ++ map (head_under path) (heads_below (map heads_of pats) 0) → shown_heads new ≡ map (head_under path) (inner_heads leaf)
inner_con leaf at c pats path old new is none all =
    all ∙ ap (λ (ps : List Place). shown_heads ps ++ map (head_under path) (heads_below (map heads_of pats) 0)) none
    ∙ ap (λ (hs : List HeadAt). map (head_under path) (drop 1 hs)) (sym (fold-Con (List HeadAt) heads_step at c pats))
    ∙ ap (λ (p : Pat). map (head_under path) (drop 1 (heads_of p))) (sym is)

-- the other forms have none
pub no-heads-Wild : (at : ℕ) → heads_of (Wild at) ≡ []
no-heads-Wild at = fold-Wild (List HeadAt) heads_step at

pub no-heads-Var : (at x : ℕ) → heads_of (Var at x) ≡ []
no-heads-Var at x = fold-Var (List HeadAt) heads_step at x

pub no-heads-Num : (at n : ℕ) → heads_of (Num at n) ≡ []
no-heads-Num at n = fold-Num (List HeadAt) heads_step at n

-- Constructors as seen from a path

head-behind : (o : Option (List ℕ)) (con : ConRef) (hs : List HeadAt) → head_behind o con hs ≡ head_behind o con [] ++ hs
head-behind None con hs = refl
head-behind (Some q) con hs = refl

pub none_behind : (out : List Place) (o : Option (List ℕ)) (con : ConRef) → None ≡ o → shown_heads out ≡ shown_heads out ++ head_behind o con []
none_behind out o con is = sym (append-nil (shown_heads out)) ∙ ap (λ r. shown_heads out ++ head_behind r con []) is

pub some_behind : (out new : List Place) (o : Option (List ℕ)) (q rest : List ℕ) (con : ConRef) → Some rest ≡ o → q ≡ rest → new ≡ out ++ record { path = q; con = con } ∷ [] → shown_heads new ≡ shown_heads out ++ head_behind o con []
some_behind out new o q rest con is same more =
    ap shown_heads more ∙ shown-more out (record { path = q; con = con }) ∙ ap (λ r. shown_heads out ++ head_behind r con []) (ap Some same ∙ is)

pub behind_next : (path : List ℕ) (known : List Place) (i : ℕ) (p : Place) (old new : List Place) (all : List HeadAt) → slice_get known i ≡ Some p → shown_heads old ++ heads_behind path (shown_heads (drop i known)) ≡ all
    → shown_heads new ≡ shown_heads old ++ head_behind (behind path p.path) p.con [] → shown_heads new ++ heads_behind path (shown_heads (drop (i + 1) known)) ≡ all
behind_next path known i p old new all is so_far more =
    let here = behind path p.path in
    let rest = heads_behind path (shown_heads (drop (i + 1) known)) in
    let now : heads_behind path (shown_heads (drop i known)) ≡ head_behind here p.con rest =
    ap (λ (ps : List Place). heads_behind path (shown_heads ps)) (drop_from known i p is) ∙ ap (λ n. head_behind here p.con (heads_behind path (shown_heads (drop n known)))) (sym (add-one i)) in
    ap (λ (hs : List HeadAt). hs ++ rest) more ∙ append_assoc (shown_heads old) (head_behind here p.con []) rest
    ∙ ap (λ (hs : List HeadAt). shown_heads old ++ hs) (sym (now ∙ head-behind here p.con rest)) ∙ so_far

-- those of patterns that stand below the root
pub below_root : (pats : List Pat) (path : List ℕ) (old new : List Place) → path ≡ [] → old ≡ []
    → shown_heads new ≡ shown_heads old ++ map (head_under path) (heads_below (map heads_of pats) 0) → shown_heads new ≡ heads_below (map heads_of pats) 0
below_root pats path old new root none all =
    all ∙ ap (λ (ps : List Place). shown_heads ps ++ map (head_under path) (heads_below (map heads_of pats) 0)) none
    ∙ ap (λ (q : List ℕ). map (head_under q) (heads_below (map heads_of pats) 0)) root
    ∙ under-root (heads_below (map heads_of pats) 0)
