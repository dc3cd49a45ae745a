-- Each branch of a test has fewer numbers and constructors than its matrix.
use Rattle.std.proofs.Common.{◌≡◌, ℕ, zero, suc, ◌+◌, ◌<◌, ◌≤◌, List, [], ◌∷◌, ◌++◌, map, take, drop, length, get_or, Bool, true, false, ◌&&◌, ◌==◌, Option, Some, None, is_some, refl, sym, ap, ◌∙◌, arith, inl, inr}
use Rattle.std.specs.Prelude.{slice_get, if◌then◌else◌}
use Rattle.std.specs.Option.{option_or}
use Rattle.std.proofs.lemmas.Bool.{false≢true, cases_lt}
use Rattle.std.proofs.lemmas.Grind.{common_steps}
use Rattle.rb_core.specs.declared.types.ConRef.{ConRef}
use Rattle.rb_core.specs.declared.pattern.Pat.{Pat, Wild, out-Pat, map-Pat}
use Rattle.rb_core.specs.declared.pattern.Pat.TheOpen as P
use Rattle.rb_core.specs.declared.pattern.Pat.TheOpen.{Pat-F}
use Rattle.rb_core.specs.declared.pattern.Pat.TheFolds.{fold_out-Pat}
use Rattle.rb_matrix.specs.declared.matrix.Head.{Head}
use Rattle.rb_matrix.specs.declared.matrix.Head.TheVariants as H
use Rattle.rb_matrix.specs.Heads.{layer_head, row_head, some_head}
use Rattle.rb_matrix.specs.FirstHead.{first_head}
use Rattle.rb_matrix.specs.Specialize.{wilds, special_of_number, special_of_con, special_of_layer, special_row, default_of_layer, default_row}
use Rattle.rb_matrix.specs.Counts.{heads_step, head_count, row_head_count, rows_head_count}
use Rattle.rb_decide.specs.declared.clause_matrix.Row.{Row}
use Rattle.rb_decide.specs.ClauseMatrices.{before, to_front, row_to_front, first_test, next_column, keep_row, special_rows, default_rows}
use Rattle.rb_decide.specs.Trees.{row_pats, count_of_heads}
use Rattle.rb_decide.proofs.Moving.{front-there, front-past}

pub row-cons : (p : Pat) (ps : List Pat) → row_head_count (p ∷ ps) ≡ head_count p + row_head_count ps
row-cons p ps = grind (arith, common_steps)

pub rows-cons : (r : List Pat) (rs : List (List Pat)) → rows_head_count (r ∷ rs) ≡ row_head_count r + rows_head_count rs
rows-cons r rs = grind (arith, common_steps)

row-append : (ps qs : List Pat) → row_head_count (ps ++ qs) ≡ row_head_count ps + row_head_count qs
row-append [] qs = omega arith
row-append (p ∷ ps) qs = let h = row-append ps qs in omega (arith, h, row-cons p ps, row-cons p (ps ++ qs))

opened_heads : (p : Pat) → head_count p ≡ heads_step (map-Pat Pat ℕ head_count (out-Pat p))
opened_heads p = fold_out-Pat ℕ heads_step p

wild-heads : head_count (Wild 0) ≡ 0
unfolding out-Pat denote.Hole.Carrier.out
wild-heads = opened_heads (Wild 0)

wilds-heads : (n : ℕ) → row_head_count (wilds n) ≡ 0
wilds-heads zero = refl
wilds-heads (suc n) = let h = wilds-heads n in let w = wild-heads in omega (arith, h, w, row-cons (Wild 0) (wilds n))

-- special and default rows -------------------------------------------------------------------------------------

abbrev option_heads : Option (List Pat) → ℕ
option_heads None = 0
option_heads (Some r) = row_head_count r

if-heads : (b : Bool) (r : List Pat) → option_heads (if b then Some r else None) ≤ row_head_count r
if-heads true r = omega arith
if-heads false r = omega arith

number-heads : (h : Head) (k : ℕ) (rest : List Pat) → option_heads (special_of_number h k rest) ≤ row_head_count rest
number-heads (H.Num m) k rest = if-heads (k == m) rest
number-heads (H.Con c) k rest = omega arith

con-heads : (h : Head) (n : ℕ) (c : ConRef) (ps rest : List Pat) → option_heads (special_of_con h n c ps rest) ≤ row_head_count ps + row_head_count rest
con-heads (H.Num m) n c ps rest = omega arith
con-heads (H.Con d) n c ps rest = let a = if-heads ((c.con == d.con) && (length ps == n)) (ps ++ rest) in let b = row-append ps rest in omega (arith, a, b)

special_of_layer-heads : (h : Head) (n : ℕ) (rest : List Pat) (l : Pat-F Pat) → option_heads (special_of_layer h n rest l) + some_head (layer_head l) ≤ heads_step (map-Pat Pat ℕ head_count l) + row_head_count rest
special_of_layer-heads h n rest (P.Wild at) = let a = row-append (wilds n) rest in let b = wilds-heads n in omega (arith, a, b)
special_of_layer-heads h n rest (P.Var at x) = let a = row-append (wilds n) rest in let b = wilds-heads n in omega (arith, a, b)
special_of_layer-heads h n rest (P.Num at k) = let a = number-heads h k rest in omega (arith, a)
special_of_layer-heads h n rest (P.Con at c ps) = let a = con-heads h n c ps rest in omega (arith, a)

special_row-heads : (h : Head) (n : ℕ) (r : List Pat) → option_heads (special_row h n r) + some_head (row_head r) ≤ row_head_count r
special_row-heads h n [] = omega arith
special_row-heads h n (p ∷ ps) = let a = special_of_layer-heads h n ps (out-Pat p) in let b = opened_heads p in omega (arith, a, b, row-cons p ps)

default_of_layer-heads : (rest : List Pat) (l : Pat-F Pat) → option_heads (default_of_layer rest l) + some_head (layer_head l) ≤ heads_step (map-Pat Pat ℕ head_count l) + row_head_count rest
default_of_layer-heads rest (P.Wild at) = omega arith
default_of_layer-heads rest (P.Var at x) = omega arith
default_of_layer-heads rest (P.Num at k) = omega arith
default_of_layer-heads rest (P.Con at c ps) = omega arith

default_row-heads : (r : List Pat) → option_heads (default_row r) + some_head (row_head r) ≤ row_head_count r
default_row-heads [] = omega arith
default_row-heads (p ∷ ps) = let a = default_of_layer-heads ps (out-Pat p) in let b = opened_heads p in omega (arith, a, b, row-cons p ps)

-- matrices ------------------------------------------------------------------------------------------

pub in-cons : (r : Row) (rs : List Row) → count_of_heads (r ∷ rs) ≡ row_head_count r.pats + count_of_heads rs
in-cons r rs = rows-cons r.pats (map row_pats rs)

keep-heads : (o : Option (List Pat)) (k : ℕ) (rs : List Row) → count_of_heads (keep_row o k rs) ≡ option_heads o + count_of_heads rs
keep-heads None k rs = omega arith
keep-heads (Some ps) k rs = in-cons (record { pats = ps; clause = k }) rs

abbrev pub column_head : List Row → Option Head
column_head rows = first_head (map row_pats rows)

else-head : (a b : Option Head) → some_head (option_or a b) ≤ some_head a + some_head b
else-head None b = omega arith
else-head (Some h) b = omega arith

special-heads : (h : Head) (n : ℕ) (rs : List Row) → count_of_heads (special_rows h n rs) + some_head (column_head rs) ≤ count_of_heads rs
special-heads h n [] = omega arith
special-heads h n (r ∷ rs) = let a = keep-heads (special_row h n r.pats) r.clause (special_rows h n rs) in let b = special_row-heads h n r.pats in let c = special-heads h n rs in
    let d = else-head (row_head r.pats) (column_head rs) in omega (arith, a, b, c, d, in-cons r rs)

default-heads : (rs : List Row) → count_of_heads (default_rows rs) + some_head (column_head rs) ≤ count_of_heads rs
default-heads [] = omega arith
default-heads (r ∷ rs) = let a = keep-heads (default_row r.pats) r.clause (default_rows rs) in let b = default_row-heads r.pats in let c = default-heads rs in
    let d = else-head (row_head r.pats) (column_head rs) in omega (arith, a, b, c, d, in-cons r rs)

one-head : (o : Option Head) → is_some o ≡ true → 1 ≤ some_head o
one-head None e = absurd (false≢true e)
one-head (Some h) e = omega arith

pub special-less : (h : Head) (n : ℕ) (rows : List Row) → is_some (column_head rows) ≡ true → count_of_heads (special_rows h n rows) < count_of_heads rows
special-less h n rows e = let a = special-heads h n rows in let b = one-head (column_head rows) e in omega (arith, a, b)

pub default-less : (rows : List Row) → is_some (column_head rows) ≡ true → count_of_heads (default_rows rows) < count_of_heads rows
default-less rows e = let a = default-heads rows in let b = one-head (column_head rows) e in omega (arith, a, b)

-- a column at the front -----------------------------------------------------------------------------

split-heads : (i : ℕ) (ps : List Pat) (d : Pat) → i < length ps → row_head_count ps ≡ head_count (get_or ps i d) + row_head_count (take i ps ++ drop (suc i) ps)
split-heads i [] d lt = absurd (omega (arith, lt))
split-heads zero (p ∷ ps) d lt = row-cons p ps
split-heads (suc i) (p ∷ ps) d lt = let h = split-heads i ps d (omega (arith, lt)) in
    omega (arith, h, row-cons p ps, row-cons p (take i ps ++ drop (suc i) ps))

pub front-heads : (i : ℕ) (ps : List Pat) → row_head_count (to_front i ps) ≡ row_head_count ps
front-heads i ps = elim (cases_lt i (length ps)) [
  | inl lt ↦ ap row_head_count (front-there i ps (Wild 0) lt) ∙ row-cons (get_or ps i (Wild 0)) (take i ps ++ drop (suc i) ps) ∙ sym (split-heads i ps (Wild 0) lt)
  | inr le ↦ ap row_head_count (front-past i ps le)
]

pub rows-front : (i : ℕ) (rows : List Row) → count_of_heads (map (row_to_front i) rows) ≡ count_of_heads rows
rows-front i [] = refl
rows-front i (r ∷ rs) = let h = rows-front i rs in let g = front-heads i r.pats in
    omega (arith, h, g, in-cons (row_to_front i r) (map (row_to_front i) rs), in-cons r rs)

-- the tested column has a head ----------------------------------------------------------------------

-- the pattern at the column of a first test
pub record TestedAt (ps : List Pat) (i : ℕ) : Type 0 where
  pub within : i < length ps
  pub pat : Pat
  pub there : slice_get ps i ≡ Some pat
  pub head : is_some (layer_head (out-Pat pat)) ≡ true

pub tested : (ps : List Pat) (i : ℕ) → first_test ps ≡ Some i → TestedAt ps i
tested [] i e = cc
tested (p ∷ ps) i e = by (is_some (layer_head (out-Pat p))) (first_test ps) i refl (λ j. tested ps j) e
  where
    by : (b : Bool) (o : Option ℕ) (i : ℕ) → is_some (layer_head (out-Pat p)) ≡ b → ((j : ℕ) → o ≡ Some j → TestedAt ps j) → (if b then Some 0 else next_column o) ≡ Some i → TestedAt (p ∷ ps) i
    by true o zero is rec e = record { within = omega arith; pat = p; there = refl; head = is }
    by true o (suc i) is rec e = cc
    by false None i is rec e = cc
    by false (Some j) zero is rec e = cc
    by false (Some j) (suc i) is rec e = let same : j ≡ i = cc in let t = rec i (ap (λ n. Some n) same) in
        record { within = let w = t.within in omega (arith, w); pat = t.pat; there = t.there; head = t.head }

pub front-head : (ps : List Pat) (i : ℕ) → first_test ps ≡ Some i → is_some (row_head (to_front i ps)) ≡ true
front-head ps i e = let t = tested ps i e in ap (λ o. is_some (row_head (before o (take i ps ++ drop (suc i) ps)))) t.there ∙ t.head

some-else : (a b : Option Head) → is_some a ≡ true → is_some (option_or a b) ≡ true
some-else None b e = absurd (false≢true e)
some-else (Some h) b e = refl

pub front-column : (r : Row) (rs : List Row) (i : ℕ) → first_test r.pats ≡ Some i → is_some (column_head (map (row_to_front i) (r ∷ rs))) ≡ true
front-column r rs i e = some-else (row_head (to_front i r.pats)) (column_head (map (row_to_front i) rs)) (front-head r.pats i e)
