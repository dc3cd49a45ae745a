-- The tree of one pattern and a wildcard is the pattern's chain.
use Rattle.std.proofs.Common.{◌≡◌, ℕ, zero, suc, ◌<◌, ◌≤◌, List, [], ◌∷◌, ◌++◌, map, length, Bool, true, false, ◌&&◌, ◌==◌, Option, Some, None, is_some, refl, sym, ap, ◌∙◌, arith, subst}
use Rattle.std.specs.Prelude.{if◌then◌else◌, unwrap_or, nat_lt, ◌^◌}
use Rattle.std.specs.Option.{option_or}
use Rattle.std.specs.List.{AllByRecursion}
use Rattle.std.proofs.lemmas.Bool.{eqb-true, false≢true}
use Rattle.std.proofs.lemmas.Grind.{common_steps}
use Rattle.std.proofs.lemmas.List.{length-append, length-map}
use Rattle.rb_core.specs.declared.types.ConRef.{ConRef}
use Rattle.rb_core.specs.declared.types.Ty.{Ty}
use Rattle.rb_core.specs.declared.types.Ty.TheVariants.{Int, Named}
use Rattle.rb_core.specs.declared.types.DataDecl.{DataDecl}
use Rattle.rb_core.specs.declared.pattern.Pat.{Pat, Wild, out-Pat, map-Pat}
use Rattle.rb_core.specs.declared.pattern.Pat.TheOpen as P
use Rattle.rb_core.specs.declared.pattern.Pat.TheOpen.{Pat-F}
use Rattle.rb_core.specs.declared.pattern.Pat.TheFolds.{fold_out-Pat}
use Rattle.rb_core.specs.Matching.{IsExhaustive, chosen_clause, matches_of, next_clause}
use Rattle.rb_core.proofs.MatchingForms.{matches-Wild}
use Rattle.rb_matrix.specs.declared.matrix.Head.{Head}
use Rattle.rb_matrix.specs.declared.matrix.Head.TheVariants as H
use Rattle.rb_matrix.specs.Heads.{layer_head, row_head}
use Rattle.rb_matrix.specs.Specialize.{wilds, special_of_layer, default_of_layer}
use Rattle.rb_decide.specs.declared.clause_matrix.Column.{Column}
use Rattle.rb_decide.specs.declared.clause_matrix.Row.{Row}
use Rattle.rb_decide.specs.declared.decision_tree.Tree.{Tree, Test, Clause}
use Rattle.rb_decide.specs.ClauseMatrices.{match_column, first_test, next_column, to_front, row_to_front, column_heads, with_first, is_complete, keep_row, special_rows, default_rows, field_types, field_columns}
use Rattle.rb_decide.specs.Trees.{Subtree, arms_of, other_of, test_of, tree_at, tree_step, tree_within, count_of_heads, match_tree}
use Rattle.rb_decide.specs.inner.Chains.{Chain, one_test, chain_row, chain_fields, chain_step, chain}
use Rattle.rb_decide.proofs.Moving.{swap, moved, front-moved, moved-length}
use Rattle.rb_decide.proofs.Weights.{column_head, special-less, rows-front, tested, front-head, front-column}

-- wildcards and variables ---------------------------------------------------------------------------

abbrev pub IsHeadless : Pat → Type 0
IsHeadless p = layer_head (out-Pat p) ≡ None

abbrev pub AreHeadless : List Pat → Type 0
AreHeadless ps = AllByRecursion IsHeadless ps

headless-append : (ps qs : List Pat) → AreHeadless ps → AreHeadless qs → AreHeadless (ps ++ qs)
headless-append [] qs a b = b
headless-append (p ∷ ps) qs a b = (a.0, headless-append ps qs a.1 b)

headless-wild : IsHeadless (Wild 0)
unfolding out-Pat denote.Hole.Carrier.out
headless-wild = refl

headless-wilds : (n : ℕ) → AreHeadless (wilds n)
headless-wilds zero = tt
headless-wilds (suc n) = (headless-wild, headless-wilds n)

headless-swap : (p : Pat) (ps : List Pat) → IsHeadless p → AreHeadless ps → AreHeadless (swap p ps)
headless-swap p [] a b = (a, tt)
headless-swap p (q ∷ qs) a b = (b.0, (a, b.1))

headless-moved : (i : ℕ) (ps : List Pat) → AreHeadless ps → AreHeadless (moved i ps)
headless-moved zero ps a = a
headless-moved (suc i) [] a = tt
headless-moved (suc i) (p ∷ ps) a = headless-swap p (moved i ps) a.0 (headless-moved i ps a.1)

headless-test : (ps : List Pat) → AreHeadless ps → first_test ps ≡ None
headless-test [] a = refl
headless-test (p ∷ ps) a = ap (λ o. if is_some o then Some 0 else next_column (first_test ps)) a.0 ∙ ap next_column (headless-test ps a.1)

-- what first_test says of the first pattern
untested : (b : Bool) (o : Option ℕ) → (if b then Some 0 else next_column o) ≡ None → (b ≡ false) × (o ≡ None)
untested true o e = cc
untested false None e = (refl, refl)
untested false (Some i) e = cc

later : (b : Bool) (o : Option ℕ) (i : ℕ) → (if b then Some 0 else next_column o) ≡ Some (suc i) → (b ≡ false) × (o ≡ Some i)
later true o i e = cc
later false None i e = cc
later false (Some j) i e = let same : j ≡ i = cc in (refl, ap (λ n. Some n) same)

no-head : (o : Option Head) → is_some o ≡ false → o ≡ None
no-head None e = refl
no-head (Some h) e = absurd (false≢true (sym e))

abbrev one : List Pat → List Row
one ws = record { pats = ws; clause = 1 } ∷ []

abbrev pub two : List Pat → List Pat → List Row
two ps ws = record { pats = ps; clause = 0 } ∷ one ws

-- chains --------------------------------------------------------------------------------------------

module _ (types : List DataDecl) where
  abbrev pub row : List Column → List Pat → Tree → Tree
  row cs ps t = chain_row (map (chain types) ps) cs t

  pub chain-layer : (p : Pat) (c : Column) (t : Tree) → chain types p c t ≡ chain_step types (map-Pat Pat Chain (chain types) (out-Pat p)) c t
  chain-layer p c t = ap (λ (f : Chain). f c t) (fold_out-Pat Chain (chain_step types) p)

  layer-headless : (l : Pat-F Pat) (c : Column) (t : Tree) → layer_head l ≡ None → chain_step types (map-Pat Pat Chain (chain types) l) c t ≡ t
  layer-headless (P.Wild at) c t e = refl
  layer-headless (P.Var at x) c t e = refl
  layer-headless (P.Num at k) c t e = cc
  layer-headless (P.Con at d ps) c t e = cc

  chain-headless : (p : Pat) (c : Column) (t : Tree) → IsHeadless p → chain types p c t ≡ t
  chain-headless p c t e = chain-layer p c t ∙ layer-headless (out-Pat p) c t e

  row-untested : (cs : List Column) (ps : List Pat) (t : Tree) → first_test ps ≡ None → row cs ps t ≡ t
  row-untested cs [] t e = refl
  row-untested [] (p ∷ ps) t e = refl
  row-untested (c ∷ cs) (p ∷ ps) t e = let h = untested (is_some (layer_head (out-Pat p))) (first_test ps) e in
      chain-headless p c (row cs ps t) (no-head (layer_head (out-Pat p)) h.0) ∙ row-untested cs ps t h.1

  row-swap : (c : Column) (p : Pat) (cs : List Column) (ps : List Pat) (t : Tree) → IsHeadless p → length cs ≡ length ps → row (swap c cs) (swap p ps) t ≡ row cs ps t
  row-swap c p [] [] t e l = chain-headless p c t e
  row-swap c p [] (q ∷ qs) t e l = absurd (omega (arith, l))
  row-swap c p (d ∷ ds) [] t e l = absurd (omega (arith, l))
  row-swap c p (d ∷ ds) (q ∷ qs) t e l = ap (chain types q d) (chain-headless p c (row ds qs t) e)

  row-moved : (i : ℕ) (cs : List Column) (ps : List Pat) (t : Tree) → first_test ps ≡ Some i → length cs ≡ length ps → row (moved i cs) (moved i ps) t ≡ row cs ps t
  row-moved zero cs ps t e l = refl
  row-moved (suc i) [] [] t e l = refl
  row-moved (suc i) [] (p ∷ ps) t e l = absurd (omega (arith, l))
  row-moved (suc i) (c ∷ cs) [] t e l = absurd (omega (arith, l))
  row-moved (suc i) (c ∷ cs) (p ∷ ps) t e l =
      let h = later (is_some (layer_head (out-Pat p))) (first_test ps) i e in
      let none = no-head (layer_head (out-Pat p)) h.0 in
      let short : length cs ≡ length ps = omega (arith, l) in
      row-swap c p (moved i cs) (moved i ps) t none (moved-length i cs ∙ short ∙ sym (moved-length i ps))
      ∙ row-moved i cs ps t h.1 short ∙ sym (chain-headless p c (row cs ps t) none)

  row-append : (cs ds : List Column) (ps qs : List Pat) (t : Tree) → length cs ≡ length ps → row (cs ++ ds) (ps ++ qs) t ≡ row cs ps (row ds qs t)
  row-append [] ds [] qs t l = refl
  row-append [] ds (p ∷ ps) qs t l = absurd (omega (arith, l))
  row-append (c ∷ cs) ds [] qs t l = absurd (omega (arith, l))
  row-append (c ∷ cs) ds (p ∷ ps) qs t l = ap (chain types p c) (row-append cs ds ps qs t (omega (arith, l)))

  -- the matrix of a pattern's row and a wildcard's -----------------------------------------------------

  no-test : (sub : Subtree) (cs : List Column) (ps : List Pat) (k : ℕ) (rest : List Row) → first_test ps ≡ None → tree_step types sub cs (record { pats = ps; clause = k } ∷ rest) ≡ Clause k
  no-test sub cs ps k rest e = ap (tree_at types sub cs (record { pats = ps; clause = k } ∷ rest) k) e

  only-wild : (n : ℕ) (cs : List Column) (ws : List Pat) → AreHeadless ws → tree_within types n cs (one ws) ≡ Clause 1
  only-wild zero cs ws a = no-test (λ cs rs. Clause 0) cs ws 1 [] (headless-test ws a)
  only-wild (suc n) cs ws a = no-test (tree_within types n) cs ws 1 [] (headless-test ws a)

  columns-length : (position : List ℕ) (i : ℕ) (tys : List Ty) → length (field_columns position i tys) ≡ length tys
  columns-length position i [] = refl
  columns-length position i (t ∷ ts) = ap suc (columns-length position (suc i) ts)

  no-fields : (ty : Ty) (k : ℕ) → field_types types ty (H.Num k) ≡ []
  no-fields (Int bits) k = either (nat_lt k (2 ^ bits)) [] refl
    where
      either : (b : Bool) (tys : List Ty) → tys ≡ [] → unwrap_or (if b then Some tys else None) [] ≡ []
      either true tys e = e
      either false tys e = refl
  no-fields (Named t) k = refl

  same-number : (k : ℕ) → (k == k) ≡ true
  same-number k = grind (arith, common_steps)

  -- what the wildcard's row becomes
  wild-special : (h : Head) (n : ℕ) (us : List Pat) (l : Pat-F Pat) → layer_head l ≡ None → special_of_layer h n us l ≡ Some (wilds n ++ us)
  wild-special h n us (P.Wild at) e = refl
  wild-special h n us (P.Var at x) e = refl
  wild-special h n us (P.Num at k) e = cc
  wild-special h n us (P.Con at d ps) e = cc

  wild-default : (us : List Pat) (l : Pat-F Pat) → layer_head l ≡ None → default_of_layer us l ≡ Some us
  wild-default us (P.Wild at) e = refl
  wild-default us (P.Var at x) e = refl
  wild-default us (P.Num at k) e = cc
  wild-default us (P.Con at d ps) e = cc

  module _ (m : ℕ) (c : Column) (cs : List Column) (p : Pat) (ps : List Pat) (w : Pat) (ws : List Pat) (none : IsHeadless w) (wild : AreHeadless ws) where
    abbrev rows : List Row
    rows = two (p ∷ ps) (w ∷ ws)

    abbrev Below : Type 0
    Below = (ds : List Column) (qs us : List Pat) → length ds ≡ length qs → length us ≡ length qs → AreHeadless us → count_of_heads (two qs us) ≤ m
        → tree_within types m ds (two qs us) ≡ row ds qs (Clause 0)

    heads-are : (h : Head) → layer_head (out-Pat p) ≡ Some h → column_heads rows ≡ h ∷ []
    heads-are h e = ap (λ o. with_first (layer_head (out-Pat p)) (with_first o [])) none ∙ ap (λ o. with_first o []) e

    rest-are : (l : Pat-F Pat) (h : Head) → out-Pat p ≡ l → layer_head l ≡ Some h → default_rows rows ≡ one ws
    rest-are l h e f = ap (λ o. keep_row (default_of_layer ps (out-Pat p)) 0 (keep_row o 1 [])) (wild-default ws (out-Pat w) none) ∙ ap (λ x. keep_row (default_of_layer ps x) 0 (one ws)) e ∙ by l f
      where
        by : (l : Pat-F Pat) → layer_head l ≡ Some h → keep_row (default_of_layer ps l) 0 (one ws) ≡ one ws
        by (P.Wild at) f = cc
        by (P.Var at x) f = cc
        by (P.Num at k) f = refl
        by (P.Con at d qs) f = refl

    other-is : (l : Pat-F Pat) (h : Head) → out-Pat p ≡ l → layer_head l ≡ Some h
        → other_of types (tree_within types m) c cs rows ≡ (if is_complete types c.ty (h ∷ []) then None else Some (Clause 1))
    other-is l h e f = ap (λ hs. if is_complete types c.ty hs then None else Some (tree_within types m cs (default_rows rows))) (heads-are h (ap layer_head e ∙ f))
        ∙ ap (λ rs. if is_complete types c.ty (h ∷ []) then None else Some (tree_within types m cs rs)) (rest-are l h e f)
        ∙ ap (λ t. if is_complete types c.ty (h ∷ []) then None else Some t) (only-wild m cs ws wild)

    abbrev fields : Head → List Ty
    fields h = field_types types c.ty h

    abbrev under : Head → Tree
    under h = tree_within types m (field_columns c.position 0 (fields h) ++ cs) (special_rows h (length (fields h)) rows)

    -- one arm, and clause 1 for the others
    test-is : (l : Pat-F Pat) (h : Head) → out-Pat p ≡ l → layer_head l ≡ Some h → (t : Tree) → under h ≡ t → test_of types (tree_within types m) (c ∷ cs) rows ≡ one_test types h c t
    test-is l h e f t g = ap (λ hs. Test c.position (arms_of types (tree_within types m) c cs rows hs) (other_of types (tree_within types m) c cs rows)) (heads-are h (ap layer_head e ∙ f))
        ∙ ap (λ x. Test c.position (record { head = h; under = x } ∷ []) (other_of types (tree_within types m) c cs rows)) g
        ∙ ap (Test c.position (record { head = h; under = t } ∷ [])) (other-is l h e f)

    special-are : (h : Head) (n : ℕ) → special_rows h n rows ≡ keep_row (special_of_layer h n ps (out-Pat p)) 0 (one (wilds n ++ ws))
    special-are h n = ap (λ o. keep_row (special_of_layer h n ps (out-Pat p)) 0 (keep_row o 1 [])) (wild-special h n ws (out-Pat w) none)

    module _ (ih : Below) (small : count_of_heads rows ≤ suc m) (same : length cs ≡ length ps) (also : length ws ≡ length ps) where
      less : (h : Head) (n : ℕ) (rs : List Row) → is_some (column_head rows) ≡ true → special_rows h n rows ≡ rs → count_of_heads rs ≤ m
      less h n rs e f = let a = special-less h n rows e in let b = ap count_of_heads f in omega (arith, a, b, small)

      some : (h : Head) → layer_head (out-Pat p) ≡ Some h → is_some (column_head rows) ≡ true
      some h e = ap (λ o. is_some (option_or o (option_or (layer_head (out-Pat w)) None))) e

      wilds-long : (n : ℕ) → length (wilds n) ≡ n
      wilds-long zero = refl
      wilds-long (suc n) = ap suc (wilds-long n)

      both-long : (n : ℕ) (us vs : List Pat) → length us ≡ n → length (wilds n ++ ws) ≡ length (us ++ ps)
      both-long n us vs e = let a = length-append (wilds n) ws in let b = length-append us ps in let d = wilds-long n in omega (arith, a, b, d, e, also)

      number-under : (at k : ℕ) → out-Pat p ≡ P.Num at k → under (H.Num k) ≡ row cs ps (Clause 0)
      number-under at k e =
          let are : special_rows (H.Num k) 0 rows ≡ two ps ws = special-are (H.Num k) 0 ∙ ap (λ l. keep_row (special_of_layer (H.Num k) 0 ps l) 0 (one ws)) e
          ∙ ap (λ b. keep_row (if b then Some ps else None) 0 (one ws)) (same-number k) in
          ap (λ tys. tree_within types m (field_columns c.position 0 tys ++ cs) (special_rows (H.Num k) (length tys) rows)) (no-fields c.ty k)
          ∙ ap (tree_within types m cs) are
          ∙ ih cs ps ws same also wild (less (H.Num k) 0 (two ps ws) (some (H.Num k) (ap layer_head e)) are)

      abbrev many_of : Head → ℕ
      many_of h = length (fields h)

      abbrev firsts_of : Head → List Column
      firsts_of h = field_columns c.position 0 (fields h)

      con-under : (at : ℕ) (d : ConRef) (qs : List Pat) → out-Pat p ≡ P.Con at d qs
          → under (H.Con d) ≡ chain_fields (map (chain types) qs) c.position (fields (H.Con d)) (row cs ps (Clause 0))
      con-under at d qs e = by (length qs == many_of (H.Con d)) refl
        where
          are : (b : Bool) → (length qs == many_of (H.Con d)) ≡ b → special_rows (H.Con d) (many_of (H.Con d)) rows ≡ keep_row (if b then Some (qs ++ ps) else None) 0 (one (wilds (many_of (H.Con d)) ++ ws))
          are b f = special-are (H.Con d) (many_of (H.Con d)) ∙ ap (λ l. keep_row (special_of_layer (H.Con d) (many_of (H.Con d)) ps l) 0 (one (wilds (many_of (H.Con d)) ++ ws))) e
              ∙ ap (λ x. keep_row (if x && (length qs == many_of (H.Con d)) then Some (qs ++ ps) else None) 0 (one (wilds (many_of (H.Con d)) ++ ws))) (same-number d.con)
              ∙ ap (λ x. keep_row (if x then Some (qs ++ ps) else None) 0 (one (wilds (many_of (H.Con d)) ++ ws))) f

          many : length (map (chain types) qs) ≡ length qs
          many = length-map qs (chain types)

          all-wild : AreHeadless (wilds (many_of (H.Con d)) ++ ws)
          all-wild = headless-append (wilds (many_of (H.Con d))) ws (headless-wilds (many_of (H.Con d))) wild

          by : (b : Bool) → (length qs == many_of (H.Con d)) ≡ b → under (H.Con d) ≡ chain_fields (map (chain types) qs) c.position (fields (H.Con d)) (row cs ps (Clause 0))
          by true f =
              let count : length qs ≡ many_of (H.Con d) = eqb-true (length qs) (many_of (H.Con d)) f in
              let columns = columns-length c.position 0 (fields (H.Con d)) in
              let left = length-append (firsts_of (H.Con d)) cs in
              let right = length-append qs ps in
              ap (tree_within types m (firsts_of (H.Con d) ++ cs)) (are true f)
              ∙ ih (firsts_of (H.Con d) ++ cs) (qs ++ ps) (wilds (many_of (H.Con d)) ++ ws) (omega (arith, left, right, columns, count, same)) (both-long (many_of (H.Con d)) qs ps count) all-wild
              (less (H.Con d) (many_of (H.Con d)) (two (qs ++ ps) (wilds (many_of (H.Con d)) ++ ws)) (some (H.Con d) (ap layer_head e)) (are true f))
              ∙ row-append (firsts_of (H.Con d)) cs qs ps (Clause 0) (columns ∙ sym count)
              ∙ sym (ap (λ k. if k == many_of (H.Con d) then chain_row (map (chain types) qs) (firsts_of (H.Con d)) (row cs ps (Clause 0)) else Clause 1) many
              ∙ ap (λ b. if b then chain_row (map (chain types) qs) (firsts_of (H.Con d)) (row cs ps (Clause 0)) else Clause 1) f)
          by false f = ap (tree_within types m (firsts_of (H.Con d) ++ cs)) (are false f) ∙ only-wild m (firsts_of (H.Con d) ++ cs) (wilds (many_of (H.Con d)) ++ ws) all-wild
              ∙ sym (ap (λ k. if k == many_of (H.Con d) then chain_row (map (chain types) qs) (firsts_of (H.Con d)) (row cs ps (Clause 0)) else Clause 1) many
              ∙ ap (λ b. if b then chain_row (map (chain types) qs) (firsts_of (H.Con d)) (row cs ps (Clause 0)) else Clause 1) f)

      tested-is : (l : Pat-F Pat) → out-Pat p ≡ l → is_some (layer_head l) ≡ true
          → test_of types (tree_within types m) (c ∷ cs) rows ≡ chain_step types (map-Pat Pat Chain (chain types) l) c (row cs ps (Clause 0))
      tested-is (P.Wild at) e f = absurd (false≢true f)
      tested-is (P.Var at x) e f = absurd (false≢true f)
      tested-is (P.Num at k) e f = test-is (P.Num at k) (H.Num k) e refl (row cs ps (Clause 0)) (number-under at k e)
      tested-is (P.Con at d qs) e f = test-is (P.Con at d qs) (H.Con d) e refl (chain_fields (map (chain types) qs) c.position (fields (H.Con d)) (row cs ps (Clause 0))) (con-under at d qs e)

      pub test-chain : is_some (layer_head (out-Pat p)) ≡ true → test_of types (tree_within types m) (c ∷ cs) rows ≡ row (c ∷ cs) (p ∷ ps) (Clause 0)
      test-chain f = tested-is (out-Pat p) refl f ∙ sym (chain-layer p c (row cs ps (Clause 0)))

  front-is : (i : ℕ) (ps ws : List Pat) → i < length ps → length ws ≡ length ps → map (row_to_front i) (two ps ws) ≡ two (moved i ps) (moved i ws)
  front-is i ps ws lt k = ap (λ qs. two qs (to_front i ws)) (front-moved i ps lt) ∙ ap (two (moved i ps)) (front-moved i ws (omega (arith, lt, k)))

  -- at a tested column
  module _ (m : ℕ)
      (ih : (ds : List Column) (qs us : List Pat) → length ds ≡ length qs → length us ≡ length qs → AreHeadless us → count_of_heads (two qs us) ≤ m → tree_within types m ds (two qs us) ≡ row ds qs (Clause 0)) where
    front-chain : (cs : List Column) (ps ws : List Pat) → length cs ≡ length ps → length ws ≡ length ps → AreHeadless ws → count_of_heads (two ps ws) ≤ suc m → is_some (row_head ps) ≡ true
        → test_of types (tree_within types m) cs (two ps ws) ≡ row cs ps (Clause 0)
    front-chain cs [] ws l k a small e = absurd (false≢true e)
    front-chain [] (p ∷ ps) ws l k a small e = absurd (omega (arith, l))
    front-chain (c ∷ cs) (p ∷ ps) [] l k a small e = absurd (omega (arith, k))
    front-chain (c ∷ cs) (p ∷ ps) (w ∷ ws) l k a small e = test-chain m c cs p ps w ws a.0 a.1 ih small (omega (arith, l)) (omega (arith, k)) e

    step-chain : (cs : List Column) (ps ws : List Pat) → length cs ≡ length ps → length ws ≡ length ps → AreHeadless ws → count_of_heads (two ps ws) ≤ suc m → (o : Option ℕ) → first_test ps ≡ o
        → tree_within types (suc m) cs (two ps ws) ≡ row cs ps (Clause 0)
    step-chain cs ps ws l k a small None e = no-test (tree_within types m) cs ps 0 (one ws) e ∙ sym (row-untested cs ps (Clause 0) e)
    step-chain cs ps ws l k a small (Some i) e =
        let lt = (tested ps i e).within in
        let rows = front-is i ps ws lt k in
        let weight = rows-front i (two ps ws) in
        let moved-weight = ap count_of_heads rows in
        ap (tree_at types (tree_within types m) cs (two ps ws) 0) e
        ∙ ap (test_of types (tree_within types m) (to_front i cs)) rows
        ∙ ap (λ ds. test_of types (tree_within types m) ds (two (moved i ps) (moved i ws))) (front-moved i cs (omega (arith, lt, l)))
        ∙ front-chain (moved i cs) (moved i ps) (moved i ws) (moved-length i cs ∙ l ∙ sym (moved-length i ps)) (moved-length i ws ∙ k ∙ sym (moved-length i ps))
        (headless-moved i ws a) (omega (arith, weight, moved-weight, small)) (ap (λ qs. is_some (row_head qs)) (sym (front-moved i ps lt)) ∙ front-head ps i e)
        ∙ row-moved i cs ps (Clause 0) e l

  none-left : (cs : List Column) (ps ws : List Pat) → count_of_heads (two ps ws) ≤ 0 → (o : Option ℕ) → first_test ps ≡ o → tree_within types 0 cs (two ps ws) ≡ row cs ps (Clause 0)
  none-left cs ps ws small None e = no-test (λ cs rs. Clause 0) cs ps 0 (one ws) e ∙ sym (row-untested cs ps (Clause 0) e)
  none-left cs ps ws small (Some i) e = absurd (
      let some = front-column (record { pats = ps; clause = 0 }) (one ws) i e in
      let a = special-less (H.Num 0) 0 (map (row_to_front i) (two ps ws)) some in let b = rows-front i (two ps ws) in omega (arith, a, b, small))

  pub within-chain : (n : ℕ) (cs : List Column) (ps ws : List Pat) → length cs ≡ length ps → length ws ≡ length ps → AreHeadless ws → count_of_heads (two ps ws) ≤ n
      → tree_within types n cs (two ps ws) ≡ row cs ps (Clause 0)
  within-chain zero cs ps ws l k a small = none-left cs ps ws small (first_test ps) refl
  within-chain (suc m) cs ps ws l k a small = step-chain m (within-chain m) cs ps ws l k a small (first_test ps) refl

-- the tree of the match -----------------------------------------------------------------------------

pub pattern-chain : (types : List DataDecl) (ty : Ty) (p : Pat) → chain types p (match_column ty) (Clause 0) ≡ match_tree types ty (p ∷ Wild 0 ∷ [])
pattern-chain types ty p = sym (within-chain types (count_of_heads (two (p ∷ []) (Wild 0 ∷ []))) (match_column ty ∷ []) (p ∷ []) (Wild 0 ∷ []) refl refl (headless-wild, tt) (omega arith))

-- a pattern and a wildcard match each value
pub pattern-exhaustive : (types : List DataDecl) (ty : Ty) (p : Pat) → IsExhaustive types ty (p ∷ Wild 0 ∷ [])
pattern-exhaustive types ty p v of = by (matches_of p v) refl
  where
    last : chosen_clause (Wild 0 ∷ []) v ≡ Some 0
    last = ap (λ b. if b then Some 0 else next_clause (chosen_clause [] v)) (matches-Wild v 0)

    by : (b : Bool) → matches_of p v ≡ b → Rattle.std.specs.Prelude.IsSome (chosen_clause (p ∷ Wild 0 ∷ []) v)
    by true e = subst Rattle.std.specs.Prelude.IsSome (sym (ap (λ b. if b then Some 0 else next_clause (chosen_clause (Wild 0 ∷ []) v)) e)) refl
    by false e = subst Rattle.std.specs.Prelude.IsSome (sym (ap (λ b. if b then Some 0 else next_clause (chosen_clause (Wild 0 ∷ []) v)) e ∙ ap next_clause last)) refl
