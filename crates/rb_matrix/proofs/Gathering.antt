-- What is gathered of rows one after another: the heads that they begin with.
use Rattle.std.proofs.Common.{◌≡◌, ℕ, ◌+◌, ◌<◌, ◌≤◌, List, ◌∷◌, drop, length, get_or, ◌||◌, sym, ap, ◌∙◌, arith}
use Rattle.std.specs.Prelude.{Option}
use Rattle.std.proofs.Math.Bool.{or_assoc}
use Rattle.std.proofs.lemmas.List.{drop_more}
use Rattle.rb_core.specs.declared.value.Value.{Value}
use Rattle.rb_core.specs.declared.value.Value.TheOpen.{Value-F}
use Rattle.rb_core.specs.declared.pattern.Pat.{Pat}
use Rattle.rb_matrix.specs.declared.matrix.Head.{Head}
use Rattle.rb_matrix.specs.Heads.{any_begins, column_begins, option_begins, row_head, some_head}
use Rattle.rb_matrix.specs.Counts.{rows_head_count}
use Rattle.rb_matrix.proofs.Weights.{rows-cons, row_head-count}

pub next-item : {A : Type 0} (xs : List A) (i : ℕ) (x : A) → i < length xs → x ≡ get_or xs i x → drop i xs ≡ x ∷ drop (i + 1) xs
next-item xs i x within is = drop_more xs i x within ∙ ap (λ y. y ∷ drop (i + 1) xs) (sym is)

-- the heads of the rows before number i, and what stands there with the head of row i
module _ (rows : List (List Pat)) (i : ℕ) (r : List Pat) (within : i < length rows) (is : r ≡ get_or rows i r) (h : Option Head) (head : h ≡ row_head r) (old new : List Head) where
  pub begun-more : ((l : Value-F Value) → any_begins new l ≡ (any_begins old l || option_begins h l)) → ((l : Value-F Value) → (any_begins old l || column_begins (drop i rows) l) ≡ column_begins rows l)
      → (l : Value-F Value) → (any_begins new l || column_begins (drop (i + 1) rows) l) ≡ column_begins rows l
  begun-more more before = λ l.
      ap (λ b. b || column_begins (drop (i + 1) rows) l) (more l)
      ∙ or_assoc (any_begins old l) (option_begins h l) (column_begins (drop (i + 1) rows) l)
      ∙ ap (λ o. any_begins old l || (option_begins o l || column_begins (drop (i + 1) rows) l)) head
      ∙ ap (λ rs. any_begins old l || column_begins rs l) (sym (next-item rows i r within is))
      ∙ before l

  pub few-more : length new ≤ length old + some_head h → length old + rows_head_count (drop i rows) ≤ rows_head_count rows
      → length new + rows_head_count (drop (i + 1) rows) ≤ rows_head_count rows
  few-more more before =
      let one = ap some_head head in
      let all = ap rows_head_count (next-item rows i r within is) in
      let parts = rows-cons r (drop (i + 1) rows) in
      let few = row_head-count r in
      omega arith
