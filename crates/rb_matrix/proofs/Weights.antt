-- What falls from a problem to its parts.
use Rattle.std.proofs.Common.{◌≡◌, ℕ, zero, suc, ◌+◌, ◌-◌, ◌*◌, ◌^◌, ◌<◌, ◌≤◌, List, [], ◌∷◌, ◌++◌, map, length, sum, Bool, true, false, ◌&&◌, ◌==◌, Option, Some, None, refl, sym, ap, ◌∙◌, arith}
use Rattle.std.specs.Prelude.{slice_get, if◌then◌else◌}
use Rattle.std.specs.Option.{option_or}
use Rattle.std.proofs.lemmas.Option.{slice_get_within, get_or_from_slice_get}
use Rattle.std.proofs.Math.Nat.{mul-le-mul_right, pow-le-pow_left, pow-le-pow_right, one-le-pow}
use Rattle.std.proofs.lemmas.Grind.{common_steps, pow_more}
use Rattle.rb_core.specs.declared.types.ConRef.{ConRef}
use Rattle.rb_core.specs.declared.types.DataDecl.{DataDecl}
use Rattle.rb_core.specs.declared.types.Ty.{Ty}
use Rattle.rb_core.specs.declared.pattern.Pat.{Pat, Wild, out-Pat, map-Pat}
use Rattle.rb_core.specs.declared.pattern.Pat.TheOpen as P
use Rattle.rb_core.specs.declared.pattern.Pat.TheOpen.{Pat-F}
use Rattle.rb_core.specs.declared.pattern.Pat.TheFolds.{fold_out-Pat}
use Rattle.rb_core.specs.Values.{fields_in}
use Rattle.rb_matrix.specs.declared.matrix.Head.{Head}
use Rattle.rb_matrix.specs.declared.matrix.Head.TheVariants as H
use Rattle.rb_matrix.specs.declared.problem.Problem.{Problem}
use Rattle.rb_matrix.specs.Heads.{layer_head, row_head, some_head}
use Rattle.rb_matrix.specs.FirstHead.{first_head}
use Rattle.rb_matrix.specs.Specialize.{wilds, keep, special_of_number, special_of_con, special_of_layer, special_row, special, default_of_layer, default_row, defaults}
use Rattle.rb_matrix.specs.Counts.{heads_step, head_count, row_head_count, rows_head_count}
use Rattle.rb_matrix.specs.inner.Problems.{con_fields, decl_fields, fields_bound, heads_of, weight, cost, part_cost}
use Rattle.rb_matrix.proofs.Absent.{con-at}

sum-cons : {A : Type 0} (f : A → ℕ) (x : A) (xs : List A) → sum (map f (x ∷ xs)) ≡ f x + sum (map f xs)
sum-cons f x xs = grind (arith, common_steps)

row-cons : (p : Pat) (ps : List Pat) → row_head_count (p ∷ ps) ≡ head_count p + row_head_count ps
row-cons p ps = grind (arith, common_steps)

pub rows-cons : (r : List Pat) (rs : List (List Pat)) → rows_head_count (r ∷ rs) ≡ row_head_count r + rows_head_count rs
rows-cons r rs = grind (arith, common_steps)

row-append : (ps qs : List Pat) → row_head_count (ps ++ qs) ≡ row_head_count ps + row_head_count qs
row-append [] qs = omega arith
row-append (p ∷ ps) qs = let h = row-append ps qs in omega (arith, h, row-cons p ps, row-cons p (ps ++ qs))

opened_heads : (p : Pat) → head_count p ≡ heads_step (map-Pat Pat ℕ head_count (out-Pat p))
opened_heads p = fold_out-Pat ℕ heads_step p

wild-heads : head_count (Wild 0) ≡ 0
unfolding out-Pat denote.Hole.Carrier.out
wild-heads = opened_heads (Wild 0)

wilds-heads : (n : ℕ) → row_head_count (wilds n) ≡ 0
wilds-heads zero = refl
wilds-heads (suc n) = let h = wilds-heads n in let w = wild-heads in omega (arith, h, w, row-cons (Wild 0) (wilds n))

-- heads of what becomes of rows ------------------------------------------------------------------

abbrev row_or_none_heads : Option (List Pat) → ℕ
row_or_none_heads None = 0
row_or_none_heads (Some r) = row_head_count r

if-heads : (b : Bool) (r : List Pat) → row_or_none_heads (if b then Some r else None) ≤ row_head_count r
if-heads true r = omega arith
if-heads false r = omega arith

number-heads : (h : Head) (k : ℕ) (rest : List Pat) → row_or_none_heads (special_of_number h k rest) ≤ row_head_count rest
number-heads (H.Num m) k rest = if-heads (k == m) rest
number-heads (H.Con c) k rest = omega arith

con-heads : (h : Head) (n : ℕ) (c : ConRef) (ps rest : List Pat) → row_or_none_heads (special_of_con h n c ps rest) ≤ row_head_count ps + row_head_count rest
con-heads (H.Num m) n c ps rest = omega arith
con-heads (H.Con d) n c ps rest = let a = if-heads ((c.con == d.con) && (length ps == n)) (ps ++ rest) in let b = row-append ps rest in omega (arith, a, b)

special_of_layer-heads : (h : Head) (n : ℕ) (rest : List Pat) (l : Pat-F Pat) → row_or_none_heads (special_of_layer h n rest l) + some_head (layer_head l) ≤ heads_step (map-Pat Pat ℕ head_count l) + row_head_count rest
special_of_layer-heads h n rest (P.Wild at) = let a = row-append (wilds n) rest in let b = wilds-heads n in omega (arith, a, b)
special_of_layer-heads h n rest (P.Var at x) = let a = row-append (wilds n) rest in let b = wilds-heads n in omega (arith, a, b)
special_of_layer-heads h n rest (P.Num at k) = let a = number-heads h k rest in omega (arith, a)
special_of_layer-heads h n rest (P.Con at c ps) = let a = con-heads h n c ps rest in omega (arith, a)

special_row-heads : (h : Head) (n : ℕ) (r : List Pat) → row_or_none_heads (special_row h n r) + some_head (row_head r) ≤ row_head_count r
special_row-heads h n [] = omega arith
special_row-heads h n (p ∷ ps) = let a = special_of_layer-heads h n ps (out-Pat p) in let b = opened_heads p in omega (arith, a, b, row-cons p ps)

keep-heads : (o : Option (List Pat)) (rs : List (List Pat)) → rows_head_count (keep o rs) ≡ row_or_none_heads o + rows_head_count rs
keep-heads None rs = omega arith
keep-heads (Some r) rs = rows-cons r rs

else-head : (a b : Option Head) → some_head (option_or a b) ≤ some_head a + some_head b
else-head None b = omega arith
else-head (Some h) b = omega arith

special-heads : (h : Head) (n : ℕ) (rs : List (List Pat)) → rows_head_count (special h n rs) + some_head (first_head rs) ≤ rows_head_count rs
special-heads h n [] = omega arith
special-heads h n (r ∷ rs) = let a = keep-heads (special_row h n r) (special h n rs) in let b = special_row-heads h n r in let c = special-heads h n rs in
    let d = else-head (row_head r) (first_head rs) in omega (arith, a, b, c, d, rows-cons r rs)

default_of_layer-heads : (rest : List Pat) (l : Pat-F Pat) → row_or_none_heads (default_of_layer rest l) ≤ heads_step (map-Pat Pat ℕ head_count l) + row_head_count rest
default_of_layer-heads rest (P.Wild at) = omega arith
default_of_layer-heads rest (P.Var at x) = omega arith
default_of_layer-heads rest (P.Num at k) = omega arith
default_of_layer-heads rest (P.Con at c ps) = omega arith

default_row-heads : (r : List Pat) → row_or_none_heads (default_row r) ≤ row_head_count r
default_row-heads [] = omega arith
default_row-heads (p ∷ ps) = let a = default_of_layer-heads ps (out-Pat p) in let b = opened_heads p in omega (arith, a, b, row-cons p ps)

defaults-heads : (rs : List (List Pat)) → rows_head_count (defaults rs) ≤ rows_head_count rs
defaults-heads [] = omega arith
defaults-heads (r ∷ rs) = let a = keep-heads (default_row r) (defaults rs) in let b = default_row-heads r in let c = defaults-heads rs in omega (arith, a, b, c, rows-cons r rs)

-- the first head of a column is one of its rows' heads
pub first_head-count : (rs : List (List Pat)) → some_head (first_head rs) ≤ rows_head_count rs
first_head-count rs = let a = special-heads (H.Num 0) 0 rs in omega (arith, a)

-- a row's own head is one of its heads
pub row_head-count : (r : List Pat) → some_head (row_head r) ≤ row_head_count r
row_head-count r = let a = special_row-heads (H.Num 0) 0 r in omega (arith, a)

-- the fields of one constructor ------------------------------------------------------------------

-- no item is more than all together
sum-bound : {A : Type 0} (f : A → ℕ) (xs : List A) (k : ℕ) (x : A) → slice_get xs k ≡ Some x → f x ≤ sum (map f xs)
sum-bound f [] k x e = absurd (omega (arith, slice_get_within [] k x e))
sum-bound f (y ∷ ys) zero x e = let same : y ≡ x = get_or_from_slice_get (y ∷ ys) 0 x y e in let h = ap f same in let g = sum-cons f y ys in omega (arith, h, g)
sum-bound f (y ∷ ys) (suc k) x e = let h = sum-bound f ys k x e in let g = sum-cons f y ys in omega (arith, h, g)

pub fields-bound : (types : List DataDecl) (t k : ℕ) (fs : List Ty) → fields_in (slice_get types t) k ≡ Some fs → length fs ≤ fields_bound types
fields-bound types t k fs h = let w = con-at types t k fs h in
    let a = sum-bound con_fields w.0.cons k w.1 w.3 in let b = sum-bound decl_fields types t w.0 w.2 in let l = ap (λ x. length x) w.4 in omega (arith, a, b, l)

-- the parts' weight ------------------------------------------------------------------------------

-- a head fewer makes up for a constructor's fields
pub special-falls : (types : List DataDecl) (h : Head) (n : ℕ) (p c : Problem) (rest : ℕ)
    → c.wanted ≡ special h n p.wanted → c.unwanted ≡ special h n p.unwanted
    → 1 ≤ some_head (first_head p.wanted) + some_head (first_head p.unwanted) → length c.tys ≤ fields_bound types + rest → length p.tys ≡ suc rest
    → (heads_of c ≤ heads_of p) × (weight types c < weight types p)
special-falls types h n p c rest w u some le tys =
    let a = special-heads h n p.wanted in let b = special-heads h n p.unwanted in
    let a' = ap rows_head_count w in let b' = ap rows_head_count u in
    let fewer : heads_of c + 1 ≤ heads_of p = omega (arith, a, b, a', b', some) in
    (omega (arith, fewer), product (heads_of c) (heads_of p) (fields_bound types) (length c.tys) (length p.tys) rest fewer le tys)
  where
    product : (x y b columns all rest : ℕ) → x + 1 ≤ y → columns ≤ b + rest → all ≡ suc rest → x * (b + 1) + columns < y * (b + 1) + all
    product x y b columns all rest le le' is = let m = mul-le-mul_right (b + 1) le in omega (arith, m, le', is)

pub defaults-fall : (types : List DataDecl) (p c : Problem)
    → c.wanted ≡ defaults p.wanted → c.unwanted ≡ defaults p.unwanted → length c.tys < length p.tys
    → (heads_of c ≤ heads_of p) × (weight types c < weight types p)
defaults-fall types p c w u tys =
    let a = defaults-heads p.wanted in let b = defaults-heads p.unwanted in
    let a' = ap rows_head_count w in let b' = ap rows_head_count u in
    let fewer : heads_of c ≤ heads_of p = omega (arith, a, b, a', b') in
    (fewer, product (heads_of c) (heads_of p) (fields_bound types) (length c.tys) (length p.tys) fewer tys)
  where
    product : (x y b columns all : ℕ) → x ≤ y → columns < all → x * (b + 1) + columns < y * (b + 1) + all
    product x y b columns all le lt = let m = mul-le-mul_right (b + 1) le in omega (arith, m, lt)

-- costs ------------------------------------------------------------------------------------------

pub cheap : (types : List DataDecl) (p c : Problem) → (heads_of c ≤ heads_of p) × (weight types c < weight types p) → cost types c ≤ part_cost types p
unfolding cost part_cost
cheap types p c h = powers (heads_of c) (heads_of p) (weight types c) (weight types p) h.0 h.1
  where
    powers : (x y w u : ℕ) → x ≤ y → w < u → (2 * x + 2) ^ w ≤ (2 * y + 2) ^ (u - 1)
    powers x y w u le lt =
        let le' : 2 * x + 2 ≤ 2 * y + 2 = omega (arith, le) in
        let some : 0 < 2 * y + 2 = omega arith in
        let lt' : w ≤ u - 1 = omega (arith, lt) in
        let a = pow-le-pow_left le' w in
        let b : (2 * y + 2) ^ w ≤ (2 * y + 2) ^ (u - 1) = pow-le-pow_right some lt' in omega (arith, a, b)

pub some-cost : (types : List DataDecl) (p : Problem) → 0 < cost types p
unfolding cost
some-cost types p = let a = one-le-pow (weight types p) (2 * heads_of p + 2) (omega arith) in omega (arith, a)

pub some-part-cost : (types : List DataDecl) (p : Problem) → 0 < part_cost types p
unfolding part_cost
some-part-cost types p = let a = one-le-pow (weight types p - 1) (2 * heads_of p + 2) (omega arith) in omega (arith, a)

-- a head less pays for its part
pub one-head-less : (n u x : ℕ) → 0 < u → x ≤ u → n * (2 * u) + 1 + x < (n + 1) * (2 * u) + 1
one-head-less n u x some le = grind (arith, some, le)

-- a problem pays for all its heads
pub heads-fewer : (types : List DataDecl) (p : Problem) (n : ℕ) → n ≤ heads_of p → 1 ≤ length p.tys → n * (2 * part_cost types p) + 1 < cost types p
unfolding cost part_cost
heads-fewer types p n le some = by (heads_of p) (weight types p) le (omega (arith, some))
  where
    below : (n y u t : ℕ) → n ≤ y → 1 ≤ u → t ≡ u * (2 * y + 2) → n * (2 * u) + 1 < t
    below n y u t le some e = let m : n * (2 * u) ≤ y * (2 * u) = mul-le-mul_right (2 * u) le in grind (arith, m, some, e)

    by : (y w : ℕ) → n ≤ y → 1 ≤ w → n * (2 * (2 * y + 2) ^ (w - 1)) + 1 < (2 * y + 2) ^ w
    by y w le some =
        let positive : 1 ≤ (2 * y + 2) ^ (w - 1) = one-le-pow (w - 1) (2 * y + 2) (omega arith) in
        let e : (w - 1) + 1 ≡ w = omega (arith, some) in
        let whole : (2 * y + 2) ^ w ≡ (2 * y + 2) ^ (w - 1) * (2 * y + 2) = ap (λ k. (2 * y + 2) ^ k) (sym e) ∙ pow_more (2 * y + 2) (w - 1) in
        below n y ((2 * y + 2) ^ (w - 1)) ((2 * y + 2) ^ w) le positive whole

-- a problem pays for one part
pub part-fewer : (types : List DataDecl) (p c : Problem) → cost types c ≤ part_cost types p → 1 ≤ length p.tys → cost types c < cost types p
unfolding cost part_cost
part-fewer types p c le some = by (heads_of p) (weight types p) (cost types c) le (omega (arith, some))
  where
    below : (y u x t : ℕ) → x ≤ u → 1 ≤ u → t ≡ u * (2 * y + 2) → x < t
    below y u x t le some e = grind (arith, le, some, e)

    by : (y w x : ℕ) → x ≤ (2 * y + 2) ^ (w - 1) → 1 ≤ w → x < (2 * y + 2) ^ w
    by y w x le some =
        let positive : 1 ≤ (2 * y + 2) ^ (w - 1) = one-le-pow (w - 1) (2 * y + 2) (omega arith) in
        let e : (w - 1) + 1 ≡ w = omega (arith, some) in
        let whole : (2 * y + 2) ^ w ≡ (2 * y + 2) ^ (w - 1) * (2 * y + 2) = ap (λ k. (2 * y + 2) ^ k) (sym e) ∙ pow_more (2 * y + 2) (w - 1) in
        below y ((2 * y + 2) ^ (w - 1)) x ((2 * y + 2) ^ w) le positive whole
