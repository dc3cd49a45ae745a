-- Types whose layouts are left to the compiler, item by item.
use Rattle.std.proofs.Common.{◌≡◌, ℕ, suc, ◌+◌, ◌<◌, ◌≤◌, Bool, true, false, cond, List, [], ◌∷◌, ◌++◌, map, drop, length, get_or, Option, Some, None, Result, Ok, Err, IfOk, refl, sym, ap, ◌∙◌, add-one}
use Rattle.std.specs.Str.{bytes_eq}
use Rattle.std.specs.Cmp.Lexicographic.{bytes_decides}
use Rattle.std.proofs.lemmas.List.{append_assoc, append-nil, drop_all, map-append}
use Rattle.rb_core.specs.declared.types.Auto.{Auto}
use Rattle.rb_syntax.specs.declared.tree.ItemTree.{ItemTree}
use Rattle.rb_syntax.specs.declared.tree.ItemTree.TheVariants as top
use Rattle.rb_syntax.specs.declared.tree.FileTree.{FileTree}
use Rattle.rb_names.specs.declared.tables.Tables.{Tables}
use Rattle.rb_names.specs.Tables.{Name, Table, meaning}
use Rattle.rb_names.specs.inner.Defining.{with_definition}
use Rattle.rb_names.specs.Definitions.{defined_twice, tables_of, type_names}
use Rattle.rb_names.specs.Numbering.{and_then}
use Rattle.rb_names.specs.Programs.{no_twice}
use Rattle.rb_names.specs.Completing.{kinds_of, left_in, left_types, type_numbers, with_number}
use Rattle.rb_names.specs.inner.Deriving.{MeanTheSame}
use Rattle.rb_names.proofs.Inverting.{ok-is}
use Rattle.rb_names.proofs.ListLemmas.{drop-here}
use Rattle.rb_names.proofs.TablesLemmas.{type_names-cons}

-- A name that is defined, unless it was defined before ----------------------------------------

found-first : {A : Type 0} (t u : Table A) (q : Name) (y : A) → meaning t q ≡ Some y → meaning (t ++ u) q ≡ Some y
found-first [] u q y e = absurd cc
found-first {A} (d ∷ t) u q y e = by (bytes_eq q d.0) (found-first t u q y) e
  where
    by : (b : Bool) → (meaning t q ≡ Some y → meaning (t ++ u) q ≡ Some y) → cond b (Some d.1) (meaning t q) ≡ Some y → cond b (Some d.1) (meaning (t ++ u) q) ≡ Some y
    by true rest h = h
    by false rest h = rest h

skip-other : {A : Type 0} (t rest : Table A) (n q : Name) (x : A) → bytes_eq q n ≡ false → meaning (t ++ (n, x) ∷ rest) q ≡ meaning (t ++ rest) q
skip-other [] rest n q x e = rw e refl
skip-other (d ∷ t) rest n q x e = ap (λ o. cond (bytes_eq q d.0) (Some d.1) o) (skip-other t rest n q x e)

defined-same : {A : Type 0} (t rest : Table A) (n : Name) (x : A) → MeanTheSame (with_definition t n x (meaning t n) ++ rest) (t ++ (n, x) ∷ rest)
defined-same {A} t rest n x q = by (meaning t n) refl
  where
    there : (y : A) → meaning t n ≡ Some y → (b : Bool) → bytes_eq q n ≡ b → meaning (t ++ rest) q ≡ meaning (t ++ (n, x) ∷ rest) q
    there y e true same =
        let known : meaning t q ≡ Some y = ap (meaning t) ((bytes_decides q n).0 same) ∙ e in
        found-first t rest q y known ∙ sym (found-first t ((n, x) ∷ rest) q y known)
    there y e false other = sym (skip-other t rest n q x other)

    by : (o : Option A) → meaning t n ≡ o → meaning (with_definition t n x o ++ rest) q ≡ meaning (t ++ (n, x) ∷ rest) q
    by None e = ap (λ u. meaning u q) (append_assoc t ((n, x) ∷ []) rest)
    by (Some y) e = there y e (bytes_eq q n) refl

pub left-added : (old new : Table Auto) (n : Name) (kind : Auto) (rest : Table Auto) → new ≡ with_definition old n kind (meaning old n) → MeanTheSame (new ++ rest) (old ++ (n, kind) ∷ rest)
left-added old new n kind rest is q = ap (λ t. meaning (t ++ rest) q) is ∙ defined-same old rest n kind q

-- Items, one after another -----------------------------------------------------------------------

module _ (types : Table ℕ) where
  numbers-cons : (item : ItemTree) (items : List ItemTree) → type_numbers types (left_in (item ∷ items)) ≡ type_numbers types (left_in (item ∷ [])) ++ type_numbers types (left_in items)
  numbers-cons (top.Types t) items = refl
  numbers-cons (top.Layouts l) items = refl
  numbers-cons (top.Funs f) items = refl
  numbers-cons (top.Derived name a) items = by (meaning types name.text)
    where
      by : (o : Option ℕ) → with_number o (type_numbers types (left_in items)) ≡ with_number o [] ++ type_numbers types (left_in items)
      by None = refl
      by (Some n) = refl

  pub numbers-next : (items : List ItemTree) (i : ℕ) (item : ItemTree) (old new all : List ℕ) → i < length items → item ≡ get_or items i item
      → new ≡ old ++ type_numbers types (left_in (item ∷ [])) → old ++ type_numbers types (left_in (drop i items)) ≡ all
      → new ++ type_numbers types (left_in (drop (i + 1) items)) ≡ all
  numbers-next items i item old new all lt is grown h =
      let rest = drop (suc i) items in
      let here : type_numbers types (left_in (drop i items)) ≡ type_numbers types (left_in (item ∷ [])) ++ type_numbers types (left_in rest) =
      ap (λ (us : List ItemTree). type_numbers types (left_in us)) (drop-here items i item lt is) ∙ numbers-cons item rest in
      rw (add-one i) (ap (λ ns. ns ++ type_numbers types (left_in rest)) grown
      ∙ append_assoc old (type_numbers types (left_in (item ∷ []))) (type_numbers types (left_in rest)) ∙ ap (λ ns. old ++ ns) (sym here) ∙ h)

  pub numbers-end : (items : List ItemTree) (i : ℕ) (numbers all : List ℕ) → length items ≤ i → numbers ++ type_numbers types (left_in (drop i items)) ≡ all → numbers ≡ all
  numbers-end items i numbers all le h = sym (append-nil numbers) ∙ ap (λ us. numbers ++ type_numbers types (left_in us)) (sym (drop_all i items le)) ∙ h

module _ (items : List ItemTree) (i : ℕ) (item : ItemTree) (lt : i < length items) (is : item ≡ get_or items i item) where
  pub kinds-next : (left : Table Auto) (old new all : List (Option Auto)) → new ≡ old ++ map (meaning left) (type_names (item ∷ []))
      → old ++ map (meaning left) (type_names (drop i items)) ≡ all → new ++ map (meaning left) (type_names (drop (i + 1) items)) ≡ all
  kinds-next left old new all grown h =
      let rest = drop (suc i) items in
      let here : map (meaning left) (type_names (drop i items)) ≡ map (meaning left) (type_names (item ∷ [])) ++ map (meaning left) (type_names rest) =
      ap (λ (us : List ItemTree). map (meaning left) (type_names us)) (drop-here items i item lt is) ∙ ap (map (meaning left)) (type_names-cons item rest)
      ∙ map-append (meaning left) (type_names (item ∷ [])) (type_names rest) in
      rw (add-one i) (ap (λ ks. ks ++ map (meaning left) (type_names rest)) grown
      ∙ append_assoc old (map (meaning left) (type_names (item ∷ []))) (map (meaning left) (type_names rest)) ∙ ap (λ ks. old ++ ks) (sym here) ∙ h)

  pub left-next : (old new all : Table Auto) → ((rest : List ItemTree) → MeanTheSame (new ++ left_in rest) (old ++ left_in (item ∷ rest)))
      → MeanTheSame (old ++ left_in (drop i items)) all → MeanTheSame (new ++ left_in (drop (i + 1) items)) all
  left-next old new all step h name =
      rw (add-one i) (step (drop (suc i) items) name ∙ ap (λ us. meaning (old ++ left_in us) name) (sym (drop-here items i item lt is)) ∙ h name)

-- All items ---------------------------------------------------------------------------------------

same-kinds : (t u : Table Auto) → MeanTheSame t u → (names : List Name) → map (meaning t) names ≡ map (meaning u) names
same-kinds t u same [] = refl
same-kinds t u same (name ∷ names) = rw (same name, same-kinds t u same names) refl

pub kinds-all : {E : Type 0} (file : FileTree) (items : List ItemTree) (left : Table Auto) (r : Result (List (Option Auto)) E) → items ≡ file.items
    → MeanTheSame left (left_in items) → IfOk r (λ kinds. kinds ≡ map (meaning left) (type_names items)) → IfOk r (λ kinds. kinds ≡ kinds_of file)
kinds-all file items left (Ok kinds) is same h =
    h ∙ same-kinds left (left_in items) same (type_names items) ∙ ap (λ us. map (meaning (left_in us)) (type_names us)) is
kinds-all file items left (Err e) is same h = tt

pub numbers-all : {E : Type 0} (file : FileTree) (items : List ItemTree) (tables : Tables) (r : Result (List ℕ) E) → items ≡ file.items → defined_twice file.items ≡ None
    → and_then (no_twice (defined_twice items)) (λ done. Ok (tables_of items)) ≡ Ok tables → IfOk r (λ numbers. numbers ≡ type_numbers tables.types (left_in items))
    → IfOk r (λ numbers. numbers ≡ left_types file)
numbers-all file items tables (Ok numbers) is once found h =
    let same : defined_twice items ≡ None = ap defined_twice is ∙ once in
    let these : tables_of items ≡ tables = ok-is (tables_of items) tables (rw same at found) in
    h ∙ ap (λ t. type_numbers t.types (left_in items)) (sym these) ∙ ap (λ us. type_numbers (tables_of us).types (left_in us)) is
numbers-all file items tables (Err e) is once found h = tt
