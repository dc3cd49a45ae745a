-- The steps of building a tree.
use Rattle.std.proofs.Common.{◌≡◌, ℕ, zero, suc, ◌+◌, ◌-◌, ◌<◌, ◌≤◌, List, [], ◌∷◌, ◌++◌, map, take, drop, length, get_or, sum, Bool, true, false, Option, Some, None, is_some, refl, sym, ap, ◌∙◌, arith, subst}
use Rattle.std.specs.Prelude.{if◌then◌else◌}
use Rattle.std.proofs.Common.{length-drop, append_assoc}
use Rattle.std.proofs.lemmas.Bool.{false≢true}
use Rattle.std.proofs.lemmas.List.{take_all, append-nil}
use Rattle.std.proofs.lemmas.Grind.{common_steps}
use Rattle.rb_core.specs.declared.types.DataDecl.{DataDecl}
use Rattle.rb_core.specs.declared.types.Ty.{Ty}
use Rattle.rb_matrix.specs.declared.matrix.Head.{Head}
use Rattle.rb_matrix.specs.declared.matrix.Head.TheVariants as H
use Rattle.rb_decide.specs.declared.clause_matrix.Column.{Column}
use Rattle.rb_decide.specs.declared.clause_matrix.Row.{Row}
use Rattle.rb_decide.specs.declared.decision_tree.Tree.{Tree, Test, Clause}
use Rattle.rb_decide.specs.declared.decision_tree.TreeArm.{TreeArm}
use Rattle.rb_decide.specs.ClauseMatrices.{first_test, to_front, row_to_front, column_heads, is_complete, special_rows, default_rows, field_types, field_columns}
use Rattle.rb_decide.specs.Trees.{size, arms_of, other_of, test_of, tree_at, tree_step, tree_within, count_of_heads}
use Rattle.rb_decide.specs.inner.Building.{IsBuilt, AreBuilt, arms_size}
use Rattle.rb_decide.proofs.TreeSteps.{size-Clause, size-None, size-Some, size-least, arms-cons, arms-append}
use Rattle.rb_decide.proofs.Weights.{column_head, rows-front, front-column, special-less, default-less}

split-first : {A : Type 0} (xs : List A) (x : A) → 1 ≤ length xs → x ≡ get_or xs 0 x → xs ≡ x ∷ drop 1 xs
split-first [] x le e = absurd (omega (arith, le))
split-first (y ∷ ys) x le e = ap (λ z. z ∷ ys) (sym e)

pub split-rest : {A : Type 0} (xs : List A) (x : A) → 1 ≤ length xs → x ≡ get_or xs 0 x → xs ≡ x ∷ take (length xs - 1) (drop 1 xs)
split-rest xs x le e = split-first xs x le e ∙ ap (λ l. x ∷ l) (sym (take_all (length xs - 1) (drop 1 xs) (let a = length-drop 1 xs in omega (arith, a))))

-- the first row's test ------------------------------------------------------------------------------

module _ (rows : List Row) (first : Row) (le : 1 ≤ length rows) (is : first ≡ get_or rows 0 first) (i : ℕ) (test : first_test first.pats ≡ Some i) where
  pub moved-column : (mr : List Row) → mr ≡ map (row_to_front i) rows → is_some (column_head mr) ≡ true
  moved-column mr e = ap (λ l. is_some (column_head l)) (e ∙ ap (map (row_to_front i)) (split-first rows first le is)) ∙ front-column first (drop 1 rows) i test

  pub moved-less : (mr : List Row) → mr ≡ map (row_to_front i) rows → count_of_heads mr ≡ count_of_heads rows
  moved-less mr e = ap count_of_heads e ∙ rows-front i rows

  pub built-moved : (types : List DataDecl) (cols mc : List Column) (mr : List Row) (old new : ℕ) (r : Option Tree) → mc ≡ to_front i cols → mr ≡ map (row_to_front i) rows
      → ((n : ℕ) → count_of_heads mr ≤ suc n → IsBuilt (test_of types (tree_within types n) mc mr) old new r)
      → (n : ℕ) → count_of_heads rows ≤ n → IsBuilt (tree_within types n cols rows) old new r
  built-moved types cols mc mr old new r e f h zero small =
      absurd (let a = special-less (H.Num 0) 0 mr (moved-column mr f) in let b = moved-less mr f in omega (arith, a, b, small))
  built-moved types cols mc mr old new r e f h (suc n) small =
      let b = moved-less mr f in
      subst (λ t. IsBuilt t old new r) (sym (ap (tree_step types (tree_within types n) cols) (split-first rows first le is)
      ∙ ap (λ o. tree_at types (tree_within types n) cols (first ∷ drop 1 rows) first.clause o) test
      ∙ ap (λ l. test_of types (tree_within types n) (to_front i cols) (map (row_to_front i) l)) (sym (split-first rows first le is))
      ∙ ap (λ c. test_of types (tree_within types n) c (map (row_to_front i) rows)) (sym e) ∙ ap (test_of types (tree_within types n) mc) (sym f)))
      (h n (omega (arith, b, small)))

-- a clause
module _ (types : List DataDecl) (cols : List Column) (rows : List Row) (old : ℕ) (some : 0 < old) where
  clause-built : (k : ℕ) → (size (Clause k) + (old - 1)) ≡ old
  clause-built k = let a = size-Clause k in omega (arith, a, some)

  within-clause : (k n : ℕ) → ((sub : List Column → List Row → Tree) → tree_step types sub cols rows ≡ Clause k) → IsBuilt (tree_within types n cols rows) old (old - 1) (Some (Clause k))
  within-clause k zero e = subst (λ t. IsBuilt t old (old - 1) (Some (Clause k))) (sym (e (λ cs rs. Clause 0))) (refl, clause-built k)
  within-clause k (suc n) e = subst (λ t. IsBuilt t old (old - 1) (Some (Clause k))) (sym (e (tree_within types n))) (refl, clause-built k)

  pub no-rows : length rows ≡ 0 → (n : ℕ) → IsBuilt (tree_within types n cols rows) old (old - 1) (Some (Clause 0))
  no-rows e n = within-clause 0 n (λ sub. by rows e sub)
    where
      by : (rows : List Row) → length rows ≡ 0 → (sub : List Column → List Row → Tree) → tree_step types sub cols rows ≡ Clause 0
      by [] e sub = refl
      by (r ∷ rs) e sub = absurd (omega (arith, e))

  pub first-clause : (first : Row) → 1 ≤ length rows → first ≡ get_or rows 0 first → first_test first.pats ≡ None → (n : ℕ) → IsBuilt (tree_within types n cols rows) old (old - 1) (Some (Clause first.clause))
  first-clause first le is test n = within-clause first.clause n (λ sub. ap (tree_step types sub cols) (split-first rows first le is) ∙ ap (tree_at types sub cols (first ∷ drop 1 rows) first.clause) test)

-- a test --------------------------------------------------------------------------------------------

if-true : (b : Bool) (t : Tree) → b ≡ true → (if b then None else Some t) ≡ None
if-true true t e = refl
if-true false t e = absurd (false≢true e)

if-false : (b : Bool) (t : Tree) → b ≡ false → (if b then None else Some t) ≡ Some t
if-false true t e = absurd (false≢true (sym e))
if-false false t e = refl

pub no-columns : (types : List DataDecl) (columns : List Column) (rows : List Row) (sub : List Column → List Row → Tree) (old : ℕ) → 0 < old → length columns ≡ 0
    → IsBuilt (test_of types sub columns rows) old (old - 1) (Some (Clause 0))
no-columns types [] rows sub old some e = (refl, (let a = size-Clause 0 in omega (arith, a, some)))
no-columns types (c ∷ cs) rows sub old some e = absurd (omega (arith, e))

module _ (types : List DataDecl) (columns : List Column) (c : Column) (cs : List Column) (rows : List Row) (whole : columns ≡ c ∷ cs) (hs : List Head) (are : hs ≡ column_heads rows)
    (old mid : ℕ) (some : 0 < old) (built : Option (List TreeArm))
    (h : (n : ℕ) → count_of_heads rows ≤ suc n → AreBuilt (arms_of types (tree_within types n) c cs rows hs) (old - 1) mid built) where
  abbrev arms_at : ℕ → List TreeArm
  arms_at n = arms_of types (tree_within types n) c cs rows (column_heads rows)

  test-is : (n : ℕ) → test_of types (tree_within types n) columns rows ≡ Test c.position (arms_at n) (other_of types (tree_within types n) c cs rows)
  test-is n = ap (λ l. test_of types (tree_within types n) l rows) whole

  h' : (n : ℕ) → count_of_heads rows ≤ suc n → AreBuilt (arms_at n) (old - 1) mid built
  h' n small = subst (λ l. AreBuilt (arms_of types (tree_within types n) c cs rows l) (old - 1) mid built) are (h n small)

  pub arms-over : built ≡ None → (n : ℕ) → count_of_heads rows ≤ suc n → old < size (test_of types (tree_within types n) columns rows)
  arms-over e n small = let over : old - 1 < arms_size (arms_at n) = subst (AreBuilt (arms_at n) (old - 1) mid) e (h' n small) in
      let a = ap size (test-is n) in let b = size-least c.position (arms_at n) (other_of types (tree_within types n) c cs rows) in omega (arith, over, a, b, some)

  module _ (arms : List TreeArm) (is : built ≡ Some arms) (position : List ℕ) (same : position ≡ c.position) (full : Bool) (cover : full ≡ is_complete types c.ty hs) where
    cover' : full ≡ is_complete types c.ty (column_heads rows)
    cover' = cover ∙ ap (is_complete types c.ty) are

    g : (n : ℕ) → count_of_heads rows ≤ suc n → (arms ≡ arms_at n) × (arms_size (arms_at n) + mid ≡ old - 1)
    g n small = subst (AreBuilt (arms_at n) (old - 1) mid) is (h' n small)

    pub full-built : full ≡ true → (n : ℕ) → count_of_heads rows ≤ suc n
        → (Test position arms None ≡ test_of types (tree_within types n) columns rows) × (size (test_of types (tree_within types n) columns rows) + mid ≡ old)
    full-built e n small =
        let k = g n small in let no = if-true (is_complete types c.ty (column_heads rows)) (tree_within types n cs (default_rows rows)) (sym cover' ∙ e) in
        let tree = test-is n ∙ ap (Test c.position (arms_at n)) no in
        let sz = ap size tree ∙ size-None c.position (arms_at n) in let left = k.1 in
        (ap (λ p. Test p arms None) same ∙ ap (λ l. Test c.position l None) k.0 ∙ sym tree, omega (arith, sz, left, some))

    module _ (off : full ≡ false) (others : List Row) (rest : others ≡ default_rows rows) (new : ℕ) (tree : Option Tree)
        (heads : is_some (column_head rows) ≡ true)
        (k : (n : ℕ) → count_of_heads others ≤ n → IsBuilt (tree_within types n cs others) mid new tree) where
      k' : (n : ℕ) → count_of_heads rows ≤ suc n → IsBuilt (tree_within types n cs (default_rows rows)) mid new tree
      k' n small = subst (λ l. IsBuilt (tree_within types n cs l) mid new tree) rest
          (k n (let a = default-less rows heads in let b = ap count_of_heads rest in omega (arith, a, b, small)))

      last : (n : ℕ) → test_of types (tree_within types n) columns rows ≡ Test c.position (arms_at n) (Some (tree_within types n cs (default_rows rows)))
      last n = test-is n ∙ ap (Test c.position (arms_at n)) (if-false (is_complete types c.ty (column_heads rows)) (tree_within types n cs (default_rows rows)) (sym cover' ∙ off))

      pub rest-over : tree ≡ None → (n : ℕ) → count_of_heads rows ≤ suc n → old < size (test_of types (tree_within types n) columns rows)
      rest-over e n small = let over : mid < size (tree_within types n cs (default_rows rows)) = subst (IsBuilt (tree_within types n cs (default_rows rows)) mid new) e (k' n small) in
          let j = g n small in let left = j.1 in let sz = ap size (last n) ∙ size-Some c.position (arms_at n) (tree_within types n cs (default_rows rows)) in omega (arith, over, left, sz, some)

      pub rest-built : (other boxed : Tree) → tree ≡ Some other → boxed ≡ other → (n : ℕ) → count_of_heads rows ≤ suc n
          → (Test position arms (Some boxed) ≡ test_of types (tree_within types n) columns rows) × (size (test_of types (tree_within types n) columns rows) + new ≡ old)
      rest-built other boxed e f n small =
          let b = subst (IsBuilt (tree_within types n cs (default_rows rows)) mid new) e (k' n small) in
          let j = g n small in let left = j.1 in let sz = ap size (last n) ∙ size-Some c.position (arms_at n) (tree_within types n cs (default_rows rows)) in let more = b.1 in
          (ap (λ p. Test p arms (Some boxed)) same ∙ ap (λ l. Test c.position l (Some boxed)) j.0 ∙ ap (λ t. Test c.position (arms_at n) (Some t)) (f ∙ b.0) ∙ sym (last n), omega (arith, left, sz, more, some))

-- one arm more --------------------------------------------------------------------------------------

module _ (types : List DataDecl) (c : Column) (cs : List Column) (rows : List Row) (some : is_some (column_head rows) ≡ true) (hs : List Head) (i : ℕ) (head : Head) (within : i < length hs) (item : head ≡ get_or hs i head)
    (fs : List Ty) (fields : fs ≡ field_types types c.ty head) (cols : List Column) (columns : cols ≡ field_columns c.position 0 fs ++ cs) (count : ℕ) (many : count ≡ length fs) (sp : List Row) (special : sp ≡ special_rows head count rows) where
  abbrev all_at : ℕ → List Head → List TreeArm
  all_at n l = arms_of types (tree_within types n) c cs rows l

  pub arm-less : count_of_heads sp < count_of_heads rows
  arm-less = rw special (special-less head count rows some)

  module _ (old mid new : ℕ) (done : List TreeArm) (sum : arms_size done + mid ≡ old) (so_far : (n : ℕ) → count_of_heads rows ≤ suc n → done ++ all_at n (drop i hs) ≡ all_at n hs)
      (tree : Option Tree) (h : (n : ℕ) → count_of_heads sp ≤ n → IsBuilt (tree_within types n cols sp) mid new tree) where
    cut : drop i hs ≡ head ∷ drop (i + 1) hs
    cut = grind (arith, common_steps)

    sub-is : (n : ℕ) → all_at n (drop i hs) ≡ record { head = head; under = tree_within types n cols sp } ∷ all_at n (drop (i + 1) hs)
    sub-is n = ap (all_at n) cut ∙ ap (λ t. record { head = head; under = t } ∷ all_at n (drop (i + 1) hs))
        (ap (λ l. tree_within types n (field_columns c.position 0 l ++ cs) (special_rows head (length l) rows)) (sym fields)
        ∙ ap (λ l. tree_within types n l (special_rows head (length fs) rows)) (sym columns) ∙ ap (λ m. tree_within types n cols (special_rows head m rows)) (sym many) ∙ ap (tree_within types n cols) (sym special))

    small' : (n : ℕ) → count_of_heads rows ≤ suc n → count_of_heads sp ≤ n
    small' n small = let a = arm-less in omega (arith, a, small)

    sizes : (n : ℕ) → count_of_heads rows ≤ suc n → arms_size (all_at n hs) ≡ arms_size done + (size (tree_within types n cols sp) + arms_size (all_at n (drop (i + 1) hs)))
    sizes n small = ap arms_size (sym (so_far n small)) ∙ arms-append done (all_at n (drop i hs)) ∙ ap (λ l. arms_size done + arms_size l) (sub-is n)
        ∙ ap (λ m. arms_size done + m) (arms-cons (record { head = head; under = tree_within types n cols sp }) (all_at n (drop (i + 1) hs)))

    pub arm-over : tree ≡ None → (n : ℕ) → count_of_heads rows ≤ suc n → old < arms_size (all_at n hs)
    arm-over e n small = let over : mid < size (tree_within types n cols sp) = subst (IsBuilt (tree_within types n cols sp) mid new) e (h n (small' n small)) in
        let s = sizes n small in omega (arith, over, s, sum)

    module _ (under : Tree) (is : tree ≡ Some under) (done' : List TreeArm) (pushed : done' ≡ done ++ record { head = head; under = under } ∷ []) where
      b : (n : ℕ) → count_of_heads sp ≤ n → (under ≡ tree_within types n cols sp) × (size (tree_within types n cols sp) + new ≡ mid)
      b n small = subst (IsBuilt (tree_within types n cols sp) mid new) is (h n small)

      pub arm-sum : arms_size done' + new ≡ old
      arm-sum = let k = b (count_of_heads sp) (omega arith) in let s = k.1 in let u = ap size k.0 in
          let a = ap arms_size pushed ∙ arms-append done (record { head = head; under = under } ∷ []) ∙ ap (λ m. arms_size done + m) (arms-cons (record { head = head; under = under }) []) in
          omega (arith, s, u, a, sum)

      pub arm-done : (n : ℕ) → count_of_heads rows ≤ suc n → done' ++ all_at n (drop (i + 1) hs) ≡ all_at n hs
      arm-done n small = let k = b n (small' n small) in
          ap (λ l. l ++ all_at n (drop (i + 1) hs)) pushed ∙ append_assoc done (record { head = head; under = under } ∷ []) (all_at n (drop (i + 1) hs))
          ∙ ap (λ t. done ++ record { head = head; under = t } ∷ all_at n (drop (i + 1) hs)) k.0 ∙ ap (λ l. done ++ l) (sym (sub-is n)) ∙ so_far n small

pub get-same : {A : Type 0} (xs : List A) (i : ℕ) (d e : A) → i < length xs → get_or xs i d ≡ get_or xs i e
get-same [] i d e lt = absurd (omega (arith, lt))
get-same (x ∷ xs) zero d e lt = refl
get-same (x ∷ xs) (suc i) d e lt = get-same xs i d e (omega (arith, lt))

pub all-done : (types : List DataDecl) (c : Column) (cs : List Column) (rows : List Row) (hs : List Head) (i : ℕ) (old mid : ℕ) (done : List TreeArm) → length hs ≤ i → arms_size done + mid ≡ old
    → ((n : ℕ) → count_of_heads rows ≤ suc n → done ++ arms_of types (tree_within types n) c cs rows (drop i hs) ≡ arms_of types (tree_within types n) c cs rows hs)
    → (n : ℕ) → count_of_heads rows ≤ suc n → (done ≡ arms_of types (tree_within types n) c cs rows hs) × (arms_size (arms_of types (tree_within types n) c cs rows hs) + mid ≡ old)
all-done types c cs rows hs i old mid done le sum h n small =
    let none : drop i hs ≡ [] = grind (arith, common_steps) in
    let is = sym (append-nil done) ∙ ap (λ l. done ++ arms_of types (tree_within types n) c cs rows l) (sym none) ∙ h n small in
    (is, ap (λ l. arms_size l + mid) (sym is) ∙ sum)
