-- Generated files grow function by function, and are within the limit of files.
use Rattle.std.proofs.Common.{◌≡◌, ℕ, zero, suc, ◌+◌, ◌*◌, ◌%◌, ◌<◌, ◌≤◌, ◌++◌, codes, length, refl, sym, ap, ◌∙◌, arith, append_assoc, append-nil, length-append}
use Rattle.std.specs.Fmt.{decimal}
use Rattle.std.proofs.lemmas.Fmt.{length-decimal-le}
use Rattle.rb_core.specs.Limits.{most_file_bytes}
use Rattle.ribbit_tool.specs.Generate.{list_type, list_layout, up_line, main_line, sum_line, sum_lines, generated_file}

pub sums_next : (functions i n : ℕ) → sum_lines functions i (n + 1) ≡ sum_lines functions i n ++ sum_line (i + n) ((i + n + 1) % functions)
sums_next functions i n = let z : suc n ≡ n + 1 = omega arith in ap (sum_lines functions i) (sym z) ∙ more i n
  where
    more : (i n : ℕ) → sum_lines functions i (suc n) ≡ sum_lines functions i n ++ sum_line (i + n) ((i + n + 1) % functions)
    more i zero = let z : i ≡ i + 0 = omega arith in append-nil (sum_line i ((i + 1) % functions)) ∙ ap (λ j. sum_line j ((j + 1) % functions)) z
    more i (suc n) =
        let here = sum_line i ((i + 1) % functions) in
        let z : i + 1 + n ≡ i + suc n = omega arith in
        ap (λ t. here ++ t) (more (i + 1) n ∙ ap (λ j. sum_lines functions (i + 1) n ++ sum_line j ((j + 1) % functions)) z)
        ∙ sym (append_assoc here (sum_lines functions (i + 1) n) (sum_line (i + suc n) ((i + suc n + 1) % functions)))

short_number : (n : ℕ) → n < 10000 → length (decimal n) ≤ 4
short_number n lt = length-decimal-le 4 n (omega arith) (omega (arith, lt)) (omega (arith, lt))

sum_short : (i j : ℕ) → i < 10000 → j < 10000 → length (sum_line i j) ≤ 100
sum_short i j a b =
    let x = short_number i a in
    let y = short_number j b in
    let before = codes "fun f" in
    let middle = codes "(l: List): u64 = match l { Nil => 0, Cons(x, r) => add(x, f" in
    let behind = codes "(r)) };" in
    let l1 : length before ≡ 5 = refl in
    let l2 : length middle ≡ 59 = refl in
    let l3 : length behind ≡ 7 = refl in
    let l4 : length (codes "\n") ≡ 1 = refl in
    let e1 = length-append before (decimal i) in
    let e2 = length-append (before ++ decimal i) middle in
    let e3 = length-append (before ++ decimal i ++ middle) (decimal j) in
    let e4 = length-append (before ++ decimal i ++ middle ++ decimal j) behind in
    let e5 = length-append (before ++ decimal i ++ middle ++ decimal j ++ behind) (codes "\n") in
    omega (arith, x, y, l1, l2, l3, l4, e1, e2, e3, e4, e5)

sums_short : (functions i n : ℕ) → 1 ≤ functions → functions ≤ 2000 → i + n ≤ 2000 → length (sum_lines functions i n) ≤ 100 * n
sums_short functions i zero some few le = omega arith
sums_short functions i (suc n) some few le =
    let below : (i + 1) % functions < functions = omega (arith, some) in
    let next : (i + 1) % functions < 10000 = omega (arith, below, few) in
    let here = sum_short i ((i + 1) % functions) (omega (arith, le)) next in
    let rest = sums_short functions (i + 1) n some few (omega (arith, le)) in
    let e = length-append (sum_line i ((i + 1) % functions)) (sum_lines functions (i + 1) n) in
    omega (arith, here, rest, e)

pub generated_short : (functions : ℕ) → 1 ≤ functions → functions ≤ 2000 → length (generated_file functions) ≤ most_file_bytes
generated_short functions some few =
    let sums = sums_short functions 0 functions some few (omega (arith, few)) in
    let head = list_type ++ list_layout ++ up_line in
    let l1 : length list_type ≡ 35 = refl in
    let l2 : length list_layout ≡ 168 = refl in
    let l3 : length up_line ≡ 84 = refl in
    let l4 : length main_line ≡ 37 = refl in
    let h1 = length-append list_type list_layout in
    let h2 = length-append (list_type ++ list_layout) up_line in
    let e1 = length-append head (sum_lines functions 0 functions) in
    let e2 = length-append (head ++ sum_lines functions 0 functions) main_line in
    omega (arith, sums, l1, l2, l3, l4, h1, h2, e1, e2, few)
