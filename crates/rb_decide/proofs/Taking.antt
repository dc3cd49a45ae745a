-- A matrix's tree takes the first row that matches.
use Rattle.std.proofs.Common.{◌≡◌, ℕ, zero, suc, ◌+◌, ◌<◌, ◌≤◌, List, [], ◌∷◌, ◌++◌, map, length, Bool, true, false, ◌&&◌, ◌||◌, ◌==◌, Option, Some, None, is_some, refl, sym, ap, ◌∙◌, arith, subst}
use Rattle.std.specs.Prelude.{◌^◌, nat_lt, slice_get, if◌then◌else◌, option_map, unwrap_or, IsSome}
use Rattle.std.proofs.Math.Bool.{and-false}
use Rattle.std.proofs.lemmas.Bool.{eqb-true, false≢true}
use Rattle.std.proofs.lemmas.List.{length-append}
use Rattle.rb_core.specs.declared.value.Value.{Value, out-Value}
use Rattle.rb_core.specs.declared.value.Value.TheOpen.{Value-F}
use Rattle.rb_core.specs.declared.pattern.Pat.{Pat, out-Pat}
use Rattle.rb_core.specs.declared.pattern.Pat.TheOpen as P
use Rattle.rb_core.specs.declared.pattern.Pat.TheOpen.{Pat-F}
use Rattle.rb_core.specs.declared.types.DataDecl.{DataDecl}
use Rattle.rb_core.specs.declared.types.Ty.{Ty}
use Rattle.rb_core.specs.declared.types.Ty.TheVariants.{Int, Named}
use Rattle.rb_core.specs.Matching.{all_pass, matches_of, chosen_clause, next_clause, IsExhaustive}
use Rattle.rb_core.specs.Values.{is_of_type, subs, sub_at, part_from, part_at}
use Rattle.rb_matrix.specs.declared.matrix.Head.{Head}
use Rattle.rb_matrix.specs.declared.matrix.Head.TheVariants as H
use Rattle.rb_matrix.specs.Heads.{layer_begins, begins, any_begins, option_begins, layer_head, row_head, sample, fields_at}
use Rattle.rb_matrix.specs.Rows.{row_matches, row_or_none_matches, vector_of}
use Rattle.rb_matrix.specs.Search.{useful_by}
use Rattle.rb_matrix.specs.Specialize.{wilds, special_of_layer, special_row, default_of_layer, default_row}
use Rattle.rb_matrix.proofs.HeadLemmas.{any_begins-alike}
use Rattle.rb_matrix.proofs.Laws.{opened, open_matches, wilds-length, special-row, default-row}
use Rattle.rb_matrix.proofs.Parts.{of-fields, no-fields}
use Rattle.rb_matrix.proofs.Vectors.{and-left, and-right, vector-append, vector-length}
use Rattle.rb_decide.specs.declared.clause_matrix.Column.{Column}
use Rattle.rb_decide.specs.declared.clause_matrix.Row.{Row}
use Rattle.rb_decide.specs.declared.decision_tree.Tree.{Tree, Clause}
use Rattle.rb_decide.specs.ClauseMatrices.{match_rows, match_column, first_test, next_column, to_front, row_to_front, without, with_first, column_heads, is_complete, keep_row, special_rows, default_rows, field_types, field_columns}
use Rattle.rb_decide.specs.Trees.{Taking, take_other, take_arm, take_at, clause_taken, Subtree, arms_of, other_of, test_of, tree_at, tree_step, tree_within, count_of_heads, match_tree}
use Rattle.rb_decide.specs.Decisions.{TakesChosen}
use Rattle.rb_decide.specs.inner.Building.{column_ty}
use Rattle.rb_decide.proofs.Covering.{covered}
use Rattle.rb_decide.proofs.Moving.{swap, moved, front-moved, moved-length}
use Rattle.rb_decide.proofs.TreeSteps.{taken_arm, taken-Test, taken-Clause, taken-arm}
use Rattle.rb_decide.proofs.Weights.{column_head, special-less, default-less, rows-front, tested, front-column}

-- the clause of the first row that matches
abbrev pub first_row : List Row → List Value → Option ℕ
first_row [] vs = None
first_row (r ∷ rs) vs = if row_matches r.pats vs then Some r.clause else first_row rs vs

-- rows of one width ---------------------------------------------------------------------------------

abbrev pub AllWide : ℕ → List Row → Type 0
AllWide n [] = Unit {0}
AllWide n (r ∷ rs) = (length r.pats ≡ n) × AllWide n rs

abbrev OptionWide : ℕ → Option (List Pat) → Type 0
OptionWide n None = Unit {0}
OptionWide n (Some r) = length r ≡ n

wide-keep : (n k : ℕ) (o : Option (List Pat)) (rs : List Row) → OptionWide n o → AllWide n rs → AllWide n (keep_row o k rs)
wide-keep n k None rs o w = w
wide-keep n k (Some r) rs o w = (o, w)

abbrev HasFields : Head → ℕ → Type 0
HasFields (H.Num m) n = n ≡ 0
HasFields (H.Con c) n = Unit {0}

if-wide : (b b' : Bool) (n m : ℕ) (qs rest : List Pat) → (length qs == n) ≡ b' → length rest ≡ m → OptionWide (n + m) (if b && b' then Some (qs ++ rest) else None)
if-wide false b' n m qs rest e f = tt
if-wide true false n m qs rest e f = tt
if-wide true true n m qs rest e f = let a = length-append qs rest in let g = eqb-true (length qs) n e in omega (arith, a, g, f)

one-wide : (b : Bool) (m : ℕ) (rest : List Pat) → length rest ≡ m → OptionWide m (if b then Some rest else None)
one-wide true m rest f = f
one-wide false m rest f = tt

none-more : (n m : ℕ) → n ≡ 0 → m ≡ n + m
none-more n m e = omega (arith, e)

layer-wide : (h : Head) (n m : ℕ) (rest : List Pat) (l : Pat-F Pat) → HasFields h n → length rest ≡ m → OptionWide (n + m) (special_of_layer h n rest l)
layer-wide h n m rest (P.Wild at) z f = let a = length-append (wilds n) rest in let g = wilds-length n in omega (arith, a, g, f)
layer-wide h n m rest (P.Var at x) z f = let a = length-append (wilds n) rest in let g = wilds-length n in omega (arith, a, g, f)
layer-wide (H.Num j) n m rest (P.Num at k) z f = subst (λ x. OptionWide x (if k == j then Some rest else None)) (none-more n m z) (one-wide (k == j) m rest f)
layer-wide (H.Con c) n m rest (P.Num at k) z f = tt
layer-wide (H.Num j) n m rest (P.Con at d qs) z f = tt
layer-wide (H.Con c) n m rest (P.Con at d qs) z f = if-wide (d.con == c.con) (length qs == n) n m qs rest refl f

special-wide : (h : Head) (n m : ℕ) (ps : List Pat) → HasFields h n → length ps ≡ suc m → OptionWide (n + m) (special_row h n ps)
special-wide h n m [] z e = tt
special-wide h n m (p ∷ ps) z e = layer-wide h n m ps (out-Pat p) z (omega (arith, e))

wide-special : (h : Head) (n m : ℕ) (rows : List Row) → HasFields h n → AllWide (suc m) rows → AllWide (n + m) (special_rows h n rows)
wide-special h n m [] z w = tt
wide-special h n m (r ∷ rs) z w = wide-keep (n + m) r.clause (special_row h n r.pats) (special_rows h n rs) (special-wide h n m r.pats z w.0) (wide-special h n m rs z w.1)

default_of_layer-wide : (m : ℕ) (rest : List Pat) (l : Pat-F Pat) → length rest ≡ m → OptionWide m (default_of_layer rest l)
default_of_layer-wide m rest (P.Wild at) f = f
default_of_layer-wide m rest (P.Var at x) f = f
default_of_layer-wide m rest (P.Num at k) f = tt
default_of_layer-wide m rest (P.Con at c ps) f = tt

default-wide : (m : ℕ) (ps : List Pat) → length ps ≡ suc m → OptionWide m (default_row ps)
default-wide m [] e = tt
default-wide m (p ∷ ps) e = default_of_layer-wide m ps (out-Pat p) (omega (arith, e))

wide-default : (m : ℕ) (rows : List Row) → AllWide (suc m) rows → AllWide m (default_rows rows)
wide-default m [] w = tt
wide-default m (r ∷ rs) w = wide-keep m r.clause (default_row r.pats) (default_rows rs) (default-wide m r.pats w.0) (wide-default m rs w.1)

no-column : (rows : List Row) → is_some (column_head rows) ≡ true → AllWide 0 rows → ⊥
no-column [] e w = false≢true e
no-column (r ∷ rs) e w = empty r.pats (λ g. no-column rs g w.1) e w.0
  where
    empty : (ps : List Pat) → (is_some (column_head rs) ≡ true → ⊥) → is_some (column_head (record { pats = ps; clause = r.clause } ∷ rs)) ≡ true → length ps ≡ 0 → ⊥
    empty [] rest e f = rest e
    empty (p ∷ ps) rest e f = absurd (omega (arith, f))

-- a row of wildcards and variables matches ----------------------------------------------------------

wild-layer : (l : Pat-F Pat) (v : Value) → is_some (layer_head l) ≡ false → open_matches l v ≡ true
wild-layer (P.Wild at) v e = refl
wild-layer (P.Var at x) v e = refl
wild-layer (P.Num at k) v e = absurd (false≢true (sym e))
wild-layer (P.Con at c ps) v e = absurd (false≢true (sym e))

headless : (b : Bool) (o : Option ℕ) → (if b then Some 0 else next_column o) ≡ None → (b ≡ false) × (o ≡ None)
headless true o e = cc
headless false None e = (refl, refl)
headless false (Some i) e = cc

wild-row : (ps : List Pat) (vs : List Value) → first_test ps ≡ None → length ps ≡ length vs → row_matches ps vs ≡ true
wild-row [] [] e f = refl
wild-row [] (v ∷ vs) e f = absurd (omega (arith, f))
wild-row (p ∷ ps) [] e f = absurd (omega (arith, f))
wild-row (p ∷ ps) (v ∷ vs) e f = let h = headless (is_some (layer_head (out-Pat p))) (first_test ps) e in
    ap (λ b. b && row_matches ps vs) (opened p v ∙ wild-layer (out-Pat p) v h.0) ∙ wild-row ps vs h.1 (omega (arith, f))

-- a column at the front -----------------------------------------------------------------------------

module _ {A : Type 0} (m : A → Value → Bool) where
  swap-pass : (x : A) (xs : List A) (v : Value) (vs : List Value) → all_pass (map m (swap x xs)) (swap v vs) ≡ (m x v && all_pass (map m xs) vs)
  swap-pass x [] v [] = refl
  swap-pass x [] v (w ∷ vs) = and-false (m x w) ∙ sym (and-false (m x v))
  swap-pass x (y ∷ xs) v [] = and-false (m y v) ∙ sym (and-false (m x v))
  swap-pass x (y ∷ xs) v (w ∷ vs) = flip (m y w) (m x v) (all_pass (map m xs) vs)
    where
      flip : (a b c : Bool) → (a && (b && c)) ≡ (b && (a && c))
      flip true b c = refl
      flip false true c = refl
      flip false false c = refl

  swap-left : (v : Value) (vs : List Value) → all_pass [] (swap v vs) ≡ false
  swap-left v [] = refl
  swap-left v (w ∷ vs) = refl

  swap-right : (x : A) (xs : List A) → all_pass (map m (swap x xs)) [] ≡ false
  swap-right x [] = refl
  swap-right x (y ∷ xs) = refl

  moved-pass : (i : ℕ) (xs : List A) (vs : List Value) → all_pass (map m (moved i xs)) (moved i vs) ≡ all_pass (map m xs) vs
  moved-pass zero xs vs = refl
  moved-pass (suc i) [] [] = refl
  moved-pass (suc i) [] (v ∷ vs) = swap-left v (moved i vs)
  moved-pass (suc i) (x ∷ xs) [] = swap-right x (moved i xs)
  moved-pass (suc i) (x ∷ xs) (v ∷ vs) = swap-pass x (moved i xs) v (moved i vs) ∙ ap (λ b. m x v && b) (moved-pass i xs vs)

abbrev row_moved : ℕ → Row → Row
row_moved i r = record { pats = moved i r.pats; clause = r.clause }

rows-moved : (i n : ℕ) (rows : List Row) → i < n → AllWide n rows → map (row_to_front i) rows ≡ map (row_moved i) rows
rows-moved i n [] lt w = refl
rows-moved i n (r ∷ rs) lt w = ap (λ ps. record { pats = ps; clause = r.clause } ∷ map (row_to_front i) rs) (front-moved i r.pats (let a = w.0 in omega (arith, a, lt)))
    ∙ ap (λ l. row_moved i r ∷ l) (rows-moved i n rs lt w.1)

first-moved : (i : ℕ) (rows : List Row) (vs : List Value) → first_row (map (row_moved i) rows) (moved i vs) ≡ first_row rows vs
first-moved i [] vs = refl
first-moved i (r ∷ rs) vs = ap (λ b. if b then Some r.clause else first_row (map (row_moved i) rs) (moved i vs)) (moved-pass matches_of i r.pats vs)
    ∙ ap (λ o. if row_matches r.pats vs then Some r.clause else o) (first-moved i rs vs)

wide-moved : (i n : ℕ) (rows : List Row) → AllWide n rows → AllWide n (map (row_moved i) rows)
wide-moved i n [] w = tt
wide-moved i n (r ∷ rs) w = (moved-length i r.pats ∙ w.0, wide-moved i n rs w.1)

-- special and default rows -------------------------------------------------------------------------------------

first-keep : (o : Option (List Pat)) (k : ℕ) (rs : List Row) (xs : List Value) → first_row (keep_row o k rs) xs ≡ (if row_or_none_matches o xs then Some k else first_row rs xs)
first-keep None k rs xs = refl
first-keep (Some r) k rs xs = refl

abbrev AllFine : (List Pat → Bool) → List Row → Type 0
AllFine bad [] = Unit {0}
AllFine bad (r ∷ rs) = (bad r.pats ≡ false) × AllFine bad rs

module _ (ws xs : List Value) where
  first-special : (h : Head) (n : ℕ) → ((ps : List Pat) → row_matches ps ws ≡ row_or_none_matches (special_row h n ps) xs) → (rows : List Row) → first_row rows ws ≡ first_row (special_rows h n rows) xs
  first-special h n same [] = refl
  first-special h n same (r ∷ rs) = ap (λ b. if b then Some r.clause else first_row rs ws) (same r.pats)
      ∙ ap (λ o. if row_or_none_matches (special_row h n r.pats) xs then Some r.clause else o) (first-special h n same rs)
      ∙ sym (first-keep (special_row h n r.pats) r.clause (special_rows h n rs) xs)

  first-default : (bad : List Pat → Bool) → ((ps : List Pat) → bad ps ≡ false → row_matches ps ws ≡ row_or_none_matches (default_row ps) xs) → (rows : List Row) → AllFine bad rows → first_row rows ws ≡ first_row (default_rows rows) xs
  first-default bad same [] f = refl
  first-default bad same (r ∷ rs) f = ap (λ b. if b then Some r.clause else first_row rs ws) (same r.pats f.0)
      ∙ ap (λ o. if row_or_none_matches (default_row r.pats) xs then Some r.clause else o) (first-default bad same rs f.1)
      ∙ sym (first-keep (default_row r.pats) r.clause (default_rows rs) xs)

-- heads that stand nowhere --------------------------------------------------------------------------

or-left : (a b : Bool) → (a || b) ≡ false → a ≡ false
or-left true b h = h
or-left false b h = refl

or-right : (a b : Bool) → (a || b) ≡ false → b ≡ false
or-right true b h = absurd (false≢true (sym h))
or-right false b h = h

or-none : (a b : Bool) → a ≡ false → b ≡ false → (a || b) ≡ false
or-none a b e f = ap (λ x. x || b) e ∙ f

without-none : (h : Head) (l : Value-F Value) → layer_begins h l ≡ false → (hs : List Head) → any_begins (without h hs) l ≡ false → any_begins hs l ≡ false
without-none h l other [] e = refl
without-none h l other (g ∷ gs) e = by (layer_begins h (sample g)) refl (without-none h l other gs) e
  where
    one : (b : Bool) → layer_begins g l ≡ b → layer_begins h (sample g) ≡ true → layer_begins g l ≡ false
    one false e is = e
    one true e is =
        let same : (layer_begins h l || false) ≡ (layer_begins h (sample g) || false) = any_begins-alike (h ∷ []) g l e in
        absurd (false≢true (sym (or-none (layer_begins h l) false other refl) ∙ same ∙ ap (λ b. b || false) is))

    by : (b : Bool) → layer_begins h (sample g) ≡ b → (any_begins (without h gs) l ≡ false → any_begins gs l ≡ false) → any_begins (if b then without h gs else g ∷ without h gs) l ≡ false → any_begins (g ∷ gs) l ≡ false
    by true is rest e = or-none (layer_begins g l) (any_begins gs l) (one (layer_begins g l) refl is) (rest e)
    by false is rest e = or-none (layer_begins g l) (any_begins gs l) (or-left (layer_begins g l) (any_begins (without h gs) l) e)
        (rest (or-right (layer_begins g l) (any_begins (without h gs) l) e))

with-none : (o : Option Head) (hs : List Head) (l : Value-F Value) → any_begins (with_first o hs) l ≡ false → (option_begins o l ≡ false) × (any_begins hs l ≡ false)
with-none None hs l e = (refl, e)
with-none (Some h) hs l e = let other = or-left (layer_begins h l) (any_begins (without h hs) l) e in
    (other, without-none h l other hs (or-right (layer_begins h l) (any_begins (without h hs) l) e))

nowhere : (rows : List Row) (l : Value-F Value) → any_begins (column_heads rows) l ≡ false → AllFine (λ ps. option_begins (row_head ps) l) rows
nowhere [] l e = tt
nowhere (r ∷ rs) l e = let h = with-none (row_head r.pats) (column_heads rs) l e in (h.0, nowhere rs l h.1)

-- values behind the columns -------------------------------------------------------------------------

abbrev Tracks : List Column → Value → List Value → Type 0
Tracks [] v [] = Unit {0}
Tracks [] v (w ∷ ws) = ⊥
Tracks (c ∷ cs) v [] = ⊥
Tracks (c ∷ cs) v (w ∷ ws) = (part_at v c.position ≡ Some w) × Tracks cs v ws

plus_zero : (i : ℕ) → i ≡ i + 0
plus_zero i = omega arith

plus_suc : (i j : ℕ) → i + suc j ≡ suc i + j
plus_suc i j = omega arith

tracks-length : (v : Value) (cs : List Column) (ws : List Value) → Tracks cs v ws → length cs ≡ length ws
tracks-length v [] [] t = refl
tracks-length v [] (w ∷ ws) t = absurd t
tracks-length v (c ∷ cs) [] t = absurd t
tracks-length v (c ∷ cs) (w ∷ ws) t = ap suc (tracks-length v cs ws t.1)

module _ (v : Value) where
  tracks-swap : (c : Column) (cs : List Column) (w : Value) (ws : List Value) → (part_at v c.position ≡ Some w) → Tracks cs v ws → Tracks (swap c cs) v (swap w ws)
  tracks-swap c [] w [] h t = (h, tt)
  tracks-swap c [] w (x ∷ ws) h t = absurd t
  tracks-swap c (d ∷ cs) w [] h t = absurd t
  tracks-swap c (d ∷ cs) w (x ∷ ws) h t = (t.0, (h, t.1))

  tracks-moved : (i : ℕ) (cs : List Column) (ws : List Value) → Tracks cs v ws → Tracks (moved i cs) v (moved i ws)
  tracks-moved zero cs ws t = t
  tracks-moved (suc i) [] [] t = t
  tracks-moved (suc i) [] (w ∷ ws) t = absurd t
  tracks-moved (suc i) (c ∷ cs) [] t = absurd t
  tracks-moved (suc i) (c ∷ cs) (w ∷ ws) t = tracks-swap c (moved i cs) w (moved i ws) t.0 (tracks-moved i cs ws t.1)

  at-end : (q : List ℕ) (i : ℕ) (o : Option Value) → part_from o (q ++ i ∷ []) ≡ sub_at (part_from o q) i
  at-end [] i o = refl
  at-end (j ∷ q) i o = at-end q i (sub_at o j)

  -- the columns of a head's fields
  tracks-fields : (q : List ℕ) (w : Value) → part_at v q ≡ Some w
      → (i : ℕ) (ts : List Ty) (us : List Value) → ((j : ℕ) → slice_get us j ≡ slice_get (subs w) (i + j)) → length us ≡ length ts → Tracks (field_columns q i ts) v us
  tracks-fields q w h i [] [] same e = tt
  tracks-fields q w h i [] (u ∷ us) same e = absurd (omega (arith, e))
  tracks-fields q w h i (t ∷ ts) [] same e = absurd (omega (arith, e))
  tracks-fields q w h i (t ∷ ts) (u ∷ us) same e = (
    at-end q i (Some v) ∙ ap (λ o. sub_at o i) h ∙ ap (slice_get (subs w)) (plus_zero i) ∙ sym (same 0),
    tracks-fields q w h (suc i) ts us (λ j. same (suc j) ∙ ap (slice_get (subs w)) (plus_suc i j)) (omega (arith, e)),
  )

  tracks-append : (cs ds : List Column) (us ws : List Value) → Tracks cs v us → Tracks ds v ws → Tracks (cs ++ ds) v (us ++ ws)
  tracks-append [] ds [] ws t s = s
  tracks-append [] ds (u ∷ us) ws t s = absurd t
  tracks-append (c ∷ cs) ds [] ws t s = absurd t
  tracks-append (c ∷ cs) ds (u ∷ us) ws t s = (t.0, tracks-append cs ds us ws t.1 s)

field-types : (q : List ℕ) (i : ℕ) (ts : List Ty) (cs : List Column) → map column_ty (field_columns q i ts ++ cs) ≡ ts ++ map column_ty cs
field-types q i [] cs = refl
field-types q i (t ∷ ts) cs = ap (λ l. t ∷ l) (field-types q (suc i) ts cs)

module _ (types : List DataDecl) where
  typed-swap : (c : Column) (cs : List Column) (w : Value) (ws : List Value) → vector_of types (map column_ty (swap c cs)) (swap w ws) ≡ (is_of_type types w c.ty && vector_of types (map column_ty cs) ws)
  typed-swap c [] w [] = refl
  typed-swap c [] w (x ∷ ws) = and-false (is_of_type types x c.ty) ∙ sym (and-false (is_of_type types w c.ty))
  typed-swap c (d ∷ cs) w [] = and-false (is_of_type types w d.ty) ∙ sym (and-false (is_of_type types w c.ty))
  typed-swap c (d ∷ cs) w (x ∷ ws) = flip (is_of_type types x d.ty) (is_of_type types w c.ty) (vector_of types (map column_ty cs) ws)
    where
      flip : (a b c : Bool) → (a && (b && c)) ≡ (b && (a && c))
      flip true b c = refl
      flip false true c = refl
      flip false false c = refl

  typed-moved : (i : ℕ) (cs : List Column) (v : Value) (ws : List Value) → Tracks cs v ws → vector_of types (map column_ty (moved i cs)) (moved i ws) ≡ vector_of types (map column_ty cs) ws
  typed-moved zero cs v ws t = refl
  typed-moved (suc i) [] v [] t = refl
  typed-moved (suc i) [] v (w ∷ ws) t = absurd t
  typed-moved (suc i) (c ∷ cs) v [] t = absurd t
  typed-moved (suc i) (c ∷ cs) v (w ∷ ws) t = typed-swap c (moved i cs) w (moved i ws) ∙ ap (λ b. is_of_type types w c.ty && b) (typed-moved i cs v ws t.1)

  -- the fields of a head with which a value of the type begins
  record Fields (t : Ty) (h : Head) (w : Value) : Type 0 where
    fields : List Ty
    at : fields_at types t h ≡ Some fields

  fields : (t : Ty) (h : Head) (w : Value) → begins h w ≡ true → is_of_type types w t ≡ true → Fields t h w
  fields t h w is of = by (fields_at types t h) refl
    where
      by : (o : Option (List Ty)) → fields_at types t h ≡ o → Fields t h w
      by (Some fs) e = record { fields = fs; at = e }
      by None e =
          let none : useful_by types (t ∷ []) [] [] (w ∷ []) ≡ false = no-fields types t h [] [] [] e w [] is in
          absurd (false≢true (sym none ∙ ap (λ b. (b && true) && true) of))

  fields-many : (t : Ty) (h : Head) (fs : List Ty) → fields_at types t h ≡ Some fs → HasFields h (length fs)
  fields-many (Int bits) (H.Num m) fs e = by (nat_lt m (2 ^ bits)) e
    where
      by : (b : Bool) → (if b then Some [] else None) ≡ Some fs → length fs ≡ 0
      by true e = let same : [] ≡ fs = cc in ap (λ l. length l) (sym same)
      by false e = cc
  fields-many (Int bits) (H.Con c) fs e = tt
  fields-many (Named t) (H.Num m) fs e = cc
  fields-many (Named t) (H.Con c) fs e = tt

-- the arm that is taken -----------------------------------------------------------------------------

abbrev under : List DataDecl → Subtree → Column → List Column → List Row → Head → Tree
under types sub c cs rows h = sub (field_columns c.position 0 (field_types types c.ty h) ++ cs) (special_rows h (length (field_types types c.ty h)) rows)

take-arms : (types : List DataDecl) (sub : Subtree) (c : Column) (cs : List Column) (rows : List Row) (d : Option Taking) (l : Value-F Value) (v : Value) (k : ℕ)
    → ((h : Head) → layer_begins h l ≡ true → clause_taken (under types sub c cs rows h) v ≡ Some k)
    → (hs : List Head) → (any_begins hs l ≡ false → take_other d v ≡ Some k)
    → take_arm (map taken_arm (arms_of types sub c cs rows hs)) d l v ≡ Some k
take-arms types sub c cs rows d l v k arm [] other = other refl
take-arms types sub c cs rows d l v k arm (h ∷ hs) other =
    ap (λ (a : Head × Taking). if layer_begins a.0 l then a.1 v else take_arm (map taken_arm (arms_of types sub c cs rows hs)) d l v)
    (taken-arm h (under types sub c cs rows h))
    ∙ by (layer_begins h l) refl (λ e. take-arms types sub c cs rows d l v k arm hs (λ g. other (or-none (layer_begins h l) (any_begins hs l) e g)))
  where
    by : (b : Bool) → layer_begins h l ≡ b → (layer_begins h l ≡ false → take_arm (map taken_arm (arms_of types sub c cs rows hs)) d l v ≡ Some k)
        → (if b then clause_taken (under types sub c cs rows h) v else take_arm (map taken_arm (arms_of types sub c cs rows hs)) d l v) ≡ Some k
    by true e rest = arm h e
    by false e rest = rest e

-- the theorem ---------------------------------------------------------------------------------------

module _ (types : List DataDecl) (v : Value) where
  -- a vector for these columns, of which this clause is the first that matches
  record Ready (cols : List Column) (rows : List Row) (vs : List Value) (k : ℕ) : Type 0 where
    wide : AllWide (length vs) rows
    tracks : Tracks cols v vs
    typed : vector_of types (map column_ty cols) vs ≡ true
    first : first_row rows vs ≡ Some k

  -- under an arm
  arm : (c : Column) (cs : List Column) (rows : List Row) (w : Value) (ws : List Value) (k : ℕ) → Ready (c ∷ cs) rows (w ∷ ws) k
      → (h : Head) → begins h w ≡ true
      → Ready (field_columns c.position 0 (field_types types c.ty h) ++ cs) (special_rows h (length (field_types types c.ty h)) rows) (subs w ++ ws) k
  arm c cs rows w ws k r h is =
      let of = and-left (is_of_type types w c.ty) (vector_of types (map column_ty cs) ws) r.typed in
      let f = fields types c.ty h w is of in
      let fine = sym (of-fields types c.ty h f.fields w f.at is) ∙ of in
      let len = vector-length types f.fields (subs w) fine in
      let fs : field_types types c.ty h ≡ f.fields = ap (λ o. unwrap_or o []) f.at in
      subst (λ F. Ready (field_columns c.position 0 F ++ cs) (special_rows h (length F) rows) (subs w ++ ws) k) (sym fs) (record {
        wide = subst (λ x. AllWide x (special_rows h (length f.fields) rows)) (sym (length-append (subs w) ws ∙ ap (λ x. x + length ws) len))
            (wide-special h (length f.fields) (length ws) rows (fields-many types c.ty h f.fields f.at) r.wide);
        tracks = tracks-append v (field_columns c.position 0 f.fields) cs (subs w) ws
            (tracks-fields v c.position w r.tracks.0 0 f.fields (subs w) (λ i. ap (slice_get (subs w)) (zero_plus i)) len) r.tracks.1;
        typed = ap (λ ts. vector_of types ts (subs w ++ ws)) (field-types c.position 0 f.fields cs) ∙ vector-append types f.fields (map column_ty cs) (subs w) ws len
            ∙ ap (λ b. b && vector_of types (map column_ty cs) ws) fine ∙ and-right (is_of_type types w c.ty) (vector_of types (map column_ty cs) ws) r.typed;
        first = ap (λ n. first_row (special_rows h n rows) (subs w ++ ws)) (sym len)
            ∙ sym (first-special (w ∷ ws) (subs w ++ ws) h (length (subs w)) (λ ps. special-row w ws ps h is) rows) ∙ r.first;
      })
    where
      zero_plus : (i : ℕ) → i ≡ 0 + i
      zero_plus i = omega arith

  module _ (sub : Subtree) (most : ℕ) (takes : (cols : List Column) (rows : List Row) (vs : List Value) (k : ℕ) → count_of_heads rows < most → Ready cols rows vs k → clause_taken (sub cols rows) v ≡ Some k) where
    test-takes : (cols : List Column) (rows : List Row) (vs : List Value) (k : ℕ) → count_of_heads rows ≤ most → is_some (column_head rows) ≡ true → Ready cols rows vs k → clause_taken (test_of types sub cols rows) v ≡ Some k
    test-takes [] rows [] k le some r = absurd (no-column rows some r.wide)
    test-takes [] rows (w ∷ ws) k le some r = absurd r.tracks
    test-takes (c ∷ cs) rows [] k le some r = absurd r.tracks
    test-takes (c ∷ cs) rows (w ∷ ws) k le some r =
        taken-Test c.position (arms_of types sub c cs rows (column_heads rows)) (other_of types sub c cs rows) v
        ∙ ap (λ o. take_at (map taken_arm (arms_of types sub c cs rows (column_heads rows))) (option_map clause_taken (other_of types sub c cs rows)) o v) r.tracks.0
        ∙ take-arms types sub c cs rows (option_map clause_taken (other_of types sub c cs rows)) (out-Value w) v k
        (λ h e. let a = arm c cs rows w ws k r h e in takes _ _ (subs w ++ ws) k (let l = special-less h (length (field_types types c.ty h)) rows some in omega (arith, l, le)) a)
        (column_heads rows)
        (λ e. other (is_complete types c.ty (column_heads rows)) refl e)
      where
        other : (b : Bool) → is_complete types c.ty (column_heads rows) ≡ b → any_begins (column_heads rows) (out-Value w) ≡ false
            → take_other (option_map clause_taken (if b then None else Some (sub cs (default_rows rows)))) v ≡ Some k
        other true f e = absurd (false≢true (sym e ∙ covered types c.ty (column_heads rows) w (out-Value w) refl f (and-left (is_of_type types w c.ty) (vector_of types (map column_ty cs) ws) r.typed)))
        other false f e = takes cs (default_rows rows) ws k (let a = default-less rows some in omega (arith, a, le)) (record {
          wide = wide-default (length ws) rows r.wide;
          tracks = r.tracks.1;
          typed = and-right (is_of_type types w c.ty) (vector_of types (map column_ty cs) ws) r.typed;
          first = sym (first-default (w ∷ ws) ws (λ ps. option_begins (row_head ps) (out-Value w)) (default-row w ws) rows (nowhere rows (out-Value w) e)) ∙ r.first;
        })

    step-takes : (cols : List Column) (rows : List Row) (vs : List Value) (k : ℕ) → count_of_heads rows ≤ most → Ready cols rows vs k → clause_taken (tree_step types sub cols rows) v ≡ Some k
    step-takes cols [] vs k le d = let none : None ≡ Some k = d.first in cc
    step-takes cols (r ∷ rs) vs k le d = at (first_test r.pats) refl
      where
        at : (o : Option ℕ) → first_test r.pats ≡ o → clause_taken (tree_at types sub cols (r ∷ rs) r.clause o) v ≡ Some k
        at None e = taken-Clause r.clause v ∙ sym (ap (λ b. if b then Some r.clause else first_row rs vs) (wild-row r.pats vs e d.wide.0)) ∙ d.first
        at (Some i) e =
            let within : i < length vs = let t = tested r.pats i e in let a = t.within in let b = d.wide.0 in omega (arith, a, b) in
            let cols-are = front-moved i cols (let a = tracks-length v cols vs d.tracks in omega (arith, a, within)) in
            let rows-are = rows-moved i (length vs) (r ∷ rs) within d.wide in
            test-takes (to_front i cols) (map (row_to_front i) (r ∷ rs)) (moved i vs) k
            (let a = rows-front i (r ∷ rs) in omega (arith, a, le))
            (front-column r rs i e)
            (record {
              wide = subst (λ l. AllWide (length (moved i vs)) l) (sym rows-are) (subst (λ n. AllWide n (map (row_moved i) (r ∷ rs))) (sym (moved-length i vs)) (wide-moved i (length vs) (r ∷ rs) d.wide));
              tracks = subst (λ l. Tracks l v (moved i vs)) (sym cols-are) (tracks-moved v i cols vs d.tracks);
              typed = ap (λ l. vector_of types (map column_ty l) (moved i vs)) cols-are ∙ typed-moved types i cols v vs d.tracks ∙ d.typed;
              first = ap (λ l. first_row l (moved i vs)) rows-are ∙ first-moved i (r ∷ rs) vs ∙ d.first;
            })

  within-takes : (n : ℕ) (cols : List Column) (rows : List Row) (vs : List Value) (k : ℕ) → count_of_heads rows ≤ n → Ready cols rows vs k → clause_taken (tree_within types n cols rows) v ≡ Some k
  within-takes zero cols rows vs k le d = step-takes (λ cs rs. Clause 0) 0 (λ cs rs ws j lt e. absurd (omega (arith, lt))) cols rows vs k le d
  within-takes (suc n) cols rows vs k le d = step-takes (tree_within types n) (suc n) (λ cs rs ws j lt e. within-takes n cs rs ws j (omega (arith, lt)) e) cols rows vs k le d

-- the rows of a match -------------------------------------------------------------------------------

match-wide : (k : ℕ) (ps : List Pat) → AllWide 1 (match_rows k ps)
match-wide k [] = tt
match-wide k (p ∷ ps) = (refl, match-wide (suc k) ps)

abbrev counted : ℕ → Option ℕ → Option ℕ
counted k o = option_map (λ i. k + i) o

next-counted : (k : ℕ) (o : Option ℕ) → counted (suc k) o ≡ counted k (next_clause o)
next-counted k None = refl
next-counted k (Some i) = ap (λ n. Some n) (omega arith)

match-first : (k : ℕ) (ps : List Pat) (v : Value) → first_row (match_rows k ps) (v ∷ []) ≡ counted k (chosen_clause ps v)
match-first k [] v = refl
match-first k (p ∷ ps) v = by (matches_of p v) (match-first (suc k) ps v)
  where
    by : (b : Bool) → first_row (match_rows (suc k) ps) (v ∷ []) ≡ counted (suc k) (chosen_clause ps v)
        → (if b && true then Some k else first_row (match_rows (suc k) ps) (v ∷ [])) ≡ counted k (if b then Some 0 else next_clause (chosen_clause ps v))
    by true e = ap (λ n. Some n) (plus_zero k)
    by false e = e ∙ next-counted k (chosen_clause ps v)

from_zero : (k : ℕ) → k ≡ 0 + k
from_zero k = omega arith

-- the tree of a match takes the chosen clause
pub match-takes : (types : List DataDecl) (ty : Ty) (ps : List Pat) → IsExhaustive types ty ps → TakesChosen types ty ps (match_tree types ty ps)
match-takes types ty ps all v of = by (chosen_clause ps v) refl (all v of)
  where
    by : (o : Option ℕ) → chosen_clause ps v ≡ o → IsSome o → clause_taken (match_tree types ty ps) v ≡ chosen_clause ps v
    by None e h = absurd (false≢true h)
    by (Some k) e h = within-takes types v (count_of_heads (match_rows 0 ps)) (match_column ty ∷ []) (match_rows 0 ps) (v ∷ []) k (omega arith) (record {
      wide = match-wide 0 ps;
      tracks = (refl, tt);
      typed = ap (λ b. b && true) of;
      first = match-first 0 ps v ∙ ap (counted 0) e ∙ ap (λ n. Some n) (sym (from_zero k));
    }) ∙ sym e
