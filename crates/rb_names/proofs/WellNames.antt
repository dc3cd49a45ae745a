-- What names of a file stand for is in the program, and no two of its names are equal.
use Rattle.std.proofs.Common.{◌≡◌, ℕ, zero, suc, ◌+◌, ◌<◌, ◌≤◌, cond, List, [], ◌∷◌, ◌++◌, map, length, Bool, true, false, ◌&&◌, ◌||◌, not, nat_lt, nat_eq, is_some, Option, Some, None, Ok, refl, sym, ◌∙◌, ap, arith, slice_get, codes}
use Rattle.std.proofs.lemmas.Bool.{lt-ltb, and_parts, and_from, or_parts, not-true}
use Rattle.std.proofs.lemmas.Grind.{common_steps}
use Rattle.std.proofs.lemmas.List.{length-map, append_assoc, append-nil}
use Rattle.std.specs.List.{list_any, flat_map}
use Rattle.std.specs.Str.{bytes_eq}
use Rattle.std.specs.Cmp.Lexicographic.{bytes_decides}
use Rattle.std.proofs.lemmas.Cmp.{nat_list_eq_equiv}
use Rattle.rb_core.specs.declared.types.ConRef.{ConRef}
use Rattle.rb_core.specs.declared.types.Con.{Con}
use Rattle.rb_core.specs.declared.types.DataDecl.{DataDecl}
use Rattle.rb_core.specs.declared.program.Fun.{Fun}
use Rattle.rb_core.specs.declared.layout_decl.LayoutDecl.{LayoutDecl}
use Rattle.rb_core.specs.Values.{fields_of_con, fields_in}
use Rattle.rb_core.specs.WellNumbered.{is_constructor, is_distinct, con_names}
use Rattle.rb_syntax.specs.declared.tree.NameTree.{NameTree}
use Rattle.rb_syntax.specs.declared.tree.ConTree.{ConTree}
use Rattle.rb_syntax.specs.declared.tree.TypeTree.{TypeTree}
use Rattle.rb_syntax.specs.declared.tree.FunTree.{FunTree}
use Rattle.rb_syntax.specs.declared.tree.ItemTree.{ItemTree}
use Rattle.rb_syntax.specs.declared.tree.ItemTree.TheVariants as top
use Rattle.rb_names.specs.declared.tables.Tables.{Tables}
use Rattle.rb_names.specs.declared.items.Items.{Items}
use Rattle.rb_names.specs.Tables.{Name, Table, meaning}
use Rattle.rb_names.specs.Scopes.{param_binders, inside}
use Rattle.rb_names.specs.Definitions.{TableKind, OfType, OfConstructor, OfFunction, OfLayout, Definition, same_kind, same_definition, constructor_definition, layout_definition, definitions, first_again, defined_twice, types_in, functions_in, numbered_names, constructors_from, constructors_of, type_names, function_names, tables_of}
use Rattle.rb_names.specs.Numbering.{Resolved, and_then, all_of, name_found, numbered_type, numbered_constructor, numbered_data, numbered_split, numbered_layout, numbered_function, numbered_param, numbered_expression}
use Rattle.rb_names.specs.Programs.{items_with_type, with_layout, with_function, numbered_items, main_number}
use Rattle.rb_names.specs.Completing.{left_in, type_numbers}
use Rattle.rb_names.proofs.DefiningLemmas.{any-append}
use Rattle.rb_names.proofs.DistinctNumbers.{AreDistinct, front-distinct, moved-distinct, moved-not-in}
use Rattle.rb_names.proofs.Inverting.{then-ok, known-ok, ok-is}

-- Parts that are all numbered.
module _ {A B : Type 0} (rule : A → Resolved B) where
  pub all-cons : (x : A) (xs : List A) (all : List B) → all_of (map rule (x ∷ xs)) ≡ Ok all
      → (y : B) × (ys : List B) × (rule x ≡ Ok y) × (all_of (map rule xs) ≡ Ok ys) × (y ∷ ys ≡ all)
  all-cons x xs all e =
      let a = then-ok (rule x) _ all e in
      let b = then-ok (all_of (map rule xs)) _ all a.2 in
      (a.0, b.0, a.1, b.1, ok-is (a.0 ∷ b.0) all b.2)

  pub all-nil : (all : List B) → all_of (map rule []) ≡ Ok all → [] ≡ all
  all-nil all e = ok-is [] all e

  -- what the parts keep
  pub all-map : {C : Type 0} (f : A → C) (g : B → C) → ((x : A) (y : B) → rule x ≡ Ok y → g y ≡ f x)
      → (xs : List A) (ys : List B) → all_of (map rule xs) ≡ Ok ys → map g ys ≡ map f xs
  all-map f g same [] ys e = rw (← all-nil ys e) refl
  all-map f g same (x ∷ xs) ys e = let a = all-cons x xs ys e in rw (← a.4, same x a.0 a.2, all-map f g same xs a.1 a.3) refl

  pub all-flat : {C : Type 0} (f : A → List C) (g : B → List C) → ((x : A) (y : B) → rule x ≡ Ok y → g y ≡ f x)
      → (xs : List A) (ys : List B) → all_of (map rule xs) ≡ Ok ys → flat_map g ys ≡ flat_map f xs
  all-flat f g same [] ys e = rw (← all-nil ys e) refl
  all-flat f g same (x ∷ xs) ys e = let a = all-cons x xs ys e in rw (← a.4, same x a.0 a.2, all-flat f g same xs a.1 a.3) refl

  pub all-length : (xs : List A) (ys : List B) → all_of (map rule xs) ≡ Ok ys → length ys ≡ length xs
  all-length [] ys e = rw (← all-nil ys e) refl
  all-length (x ∷ xs) ys e = let a = all-cons x xs ys e in rw (← a.4, all-length xs a.1 a.3) refl

all-join : {A : Type 0} (r : Resolved A) (rs : Resolved (List A)) (x : A) (xs : List A) → r ≡ Ok x → rs ≡ Ok xs
    → and_then r (λ y. and_then rs (λ ys. Ok (y ∷ ys))) ≡ Ok (x ∷ xs)
all-join r rs x xs a b = rw (a, b) refl

-- Items, by kind.
module _ (t : Tables) where
  pub items-types : (items : List ItemTree) (all : Items) → numbered_items t items ≡ Ok all → all_of (map (numbered_data t) (types_in items)) ≡ Ok all.types
  items-types [] all e = rw (← ok-is _ all e) refl
  items-types (top.Types d ∷ items) all e =
      let a = then-ok (numbered_data t d) _ all e in
      let b = then-ok (numbered_items t items) _ all a.2 in
      rw (← ok-is (items_with_type a.0 b.0) all b.2) (all-join (numbered_data t d) (all_of (map (numbered_data t) (types_in items))) a.0 (b.0).types a.1 (items-types items b.0 b.1))
  items-types (top.Layouts l ∷ items) all e =
      let a = then-ok (numbered_layout t l) _ all e in
      let b = then-ok (numbered_items t items) _ all a.2 in
      rw (← ok-is (with_layout a.0 b.0) all b.2) (items-types items b.0 b.1)
  items-types (top.Funs f ∷ items) all e =
      let a = then-ok (numbered_function t f) _ all e in
      let b = then-ok (numbered_items t items) _ all a.2 in
      rw (← ok-is (with_function a.0 b.0) all b.2) (items-types items b.0 b.1)
  items-types (top.Derived name auto ∷ items) all e =
      let a = then-ok (name_found name (meaning t.types name.text)) _ all e in items-types items all a.2

  pub items-functions : (items : List ItemTree) (all : Items) → numbered_items t items ≡ Ok all → all_of (map (numbered_function t) (functions_in items)) ≡ Ok all.functions
  items-functions [] all e = rw (← ok-is _ all e) refl
  items-functions (top.Types d ∷ items) all e =
      let a = then-ok (numbered_data t d) _ all e in
      let b = then-ok (numbered_items t items) _ all a.2 in
      rw (← ok-is (items_with_type a.0 b.0) all b.2) (items-functions items b.0 b.1)
  items-functions (top.Layouts l ∷ items) all e =
      let a = then-ok (numbered_layout t l) _ all e in
      let b = then-ok (numbered_items t items) _ all a.2 in
      rw (← ok-is (with_layout a.0 b.0) all b.2) (items-functions items b.0 b.1)
  items-functions (top.Funs f ∷ items) all e =
      let a = then-ok (numbered_function t f) _ all e in
      let b = then-ok (numbered_items t items) _ all a.2 in
      rw (← ok-is (with_function a.0 b.0) all b.2) (all-join (numbered_function t f) (all_of (map (numbered_function t) (functions_in items))) a.0 (b.0).functions a.1 (items-functions items b.0 b.1))
  items-functions (top.Derived name auto ∷ items) all e =
      let a = then-ok (name_found name (meaning t.types name.text)) _ all e in items-functions items all a.2

  -- what a numbered item keeps of its tree
  pub constructor-name : (c : ConTree) (k : Con) → numbered_constructor t c ≡ Ok k → k.name ≡ c.name.text
  constructor-name c k e =
      let a = then-ok (all_of (map (numbered_type t) c.fields)) _ k e in rw (← ok-is _ k a.2) refl

  pub data-name : (d : TypeTree) (x : DataDecl) → numbered_data t d ≡ Ok x → x.name ≡ d.name.text
  data-name d x e =
      let a = then-ok (all_of (map (numbered_constructor t) d.cons)) _ x e in rw (← ok-is _ x a.2) refl

  pub data-cons : (d : TypeTree) (x : DataDecl) → numbered_data t d ≡ Ok x → all_of (map (numbered_constructor t) d.cons) ≡ Ok x.cons
  data-cons d x e =
      let a = then-ok (all_of (map (numbered_constructor t) d.cons)) _ x e in rw (← ok-is _ x a.2) a.1

  pub function-name : (f : FunTree) (x : Fun) → numbered_function t f ≡ Ok x → x.name ≡ f.name.text
  function-name f x e =
      let scope = inside (param_binders f.params) 0 [] in
      let a = then-ok (all_of (map (numbered_param t scope) f.params)) _ x e in
      let b = then-ok (numbered_type t f.result) _ x a.2 in
      let c = then-ok (numbered_expression t f.body scope (length (param_binders f.params))) _ x b.2 in
      rw (← ok-is _ x c.2) refl

-- What is found in tables.
number-below : (k : ℕ) (names : List Name) (name : Name) (n : ℕ) → meaning (numbered_names k names) name ≡ Some n → n < k + length names
number-below k [] name n e = absurd cc
number-below k (x ∷ xs) name n e = by (bytes_eq name x) e (number-below (suc k) xs name n)
  where
    by : (b : Bool) → cond b (Some k) (meaning (numbered_names (suc k) xs) name) ≡ Some n
        → (meaning (numbered_names (suc k) xs) name ≡ Some n → n < suc k + length xs) → n < k + length (x ∷ xs)
    by true e later = let same : k ≡ n = cc in omega (arith, same)
    by false e later = omega (arith, later e)

-- a constructor of types, the first of which has the number k
abbrev HasCon : ℕ → List TypeTree → ConRef → Type 0
HasCon k ts c = (j : ℕ) × (d : TypeTree) × (c.ty ≡ k + j) × (slice_get ts j ≡ Some d) × (c.con < length d.cons)

con-below : (ty k : ℕ) (cs : List ConTree) (more : Table ConRef) (name : Name) (c : ConRef) → meaning (constructors_from ty k cs ++ more) name ≡ Some c
    → (Q : Type 0) → (c.ty ≡ ty → c.con < k + length cs → Q) → (meaning more name ≡ Some c → Q) → Q
con-below ty k [] more name c e Q here there = there e
con-below ty k (x ∷ xs) more name c e Q here there =
    by (bytes_eq name x.name.text) e (λ e. con-below ty (suc k) xs more name c e Q (λ a b. here a (omega (arith, b))) there)
  where
    by : (b : Bool) → cond b (Some (let r : ConRef = record { ty = ty; con = k } in r)) (meaning (constructors_from ty (suc k) xs ++ more) name) ≡ Some c
        → (meaning (constructors_from ty (suc k) xs ++ more) name ≡ Some c → Q) → Q
    by true e later = let same : (let r : ConRef = record { ty = ty; con = k } in r) ≡ c = cc in here (rw (← same) refl) (rw (← same) (omega arith))
    by false e later = later e

cons-found : (k : ℕ) (ts : List TypeTree) (name : Name) (c : ConRef) → meaning (constructors_of k ts) name ≡ Some c → HasCon k ts c
cons-found k [] name c e = absurd cc
cons-found k (d ∷ ts) name c e = con-below k 0 d.cons (constructors_of (suc k) ts) name c e (HasCon k (d ∷ ts) c)
    (λ a b. (0, d, omega (arith, a), refl, omega (arith, b)))
    (λ e. let f = cons-found (suc k) ts name c e in (suc f.0, f.1, omega (arith, f.2), f.3, f.4))

con-there : (cs : List Con) (i : ℕ) → i < length cs → is_some (fields_of_con (slice_get cs i)) ≡ true
con-there [] i lt = absurd (omega arith)
con-there (c ∷ cs) zero lt = refl
con-there (c ∷ cs) (suc i) lt = con-there cs i (omega arith)

data-there : (t : Tables) (ts : List TypeTree) (types : List DataDecl) → all_of (map (numbered_data t) ts) ≡ Ok types
    → (j : ℕ) (d : TypeTree) (i : ℕ) → slice_get ts j ≡ Some d → i < length d.cons → is_some (fields_in (slice_get types j) i) ≡ true
data-there t [] types e j d i f lt = absurd cc
data-there t (d' ∷ ts) types e zero d i f lt =
    let a = all-cons (numbered_data t) d' ts types e in
    let same : d' ≡ d = cc in
    let long : length (a.0).cons ≡ length d'.cons = all-length (numbered_constructor t) d'.cons (a.0).cons (data-cons t d' a.0 a.2) in
    rw (← a.4) (con-there (a.0).cons i (omega (arith, lt, long, ap (λ d. length d.cons) same)))
data-there t (d' ∷ ts) types e (suc j) d i f lt =
    let a = all-cons (numbered_data t) d' ts types e in
    rw (← a.4) (data-there t ts a.1 a.3 j d i f lt)

-- Distinct names -----------------------------------------------------------------------------

pub bytes-symm : (xs ys : Name) → bytes_eq xs ys ≡ bytes_eq ys xs
bytes-symm xs ys = nat_list_eq_equiv.symm xs ys

distinct-last : (xs : List Name) (y : Name) → is_distinct bytes_eq xs ≡ true → list_any (bytes_eq y) xs ≡ false → is_distinct bytes_eq (xs ++ y ∷ []) ≡ true
distinct-last [] y d n = refl
distinct-last (x ∷ xs) y d n =
    let e = and_parts (not (list_any (bytes_eq x) xs)) _ d in
    let f = or_parts (bytes_eq y x) (list_any (bytes_eq y) xs) n in
    let apart : list_any (bytes_eq x) (xs ++ y ∷ []) ≡ false =
    any-append (bytes_eq x) xs (y ∷ []) ∙ rw (not-true _ e.0, bytes-symm x y, f.0) refl in
    and_from (not (list_any (bytes_eq x) (xs ++ y ∷ []))) _ (ap not apart) (distinct-last xs y e.1 f.1)

kind-same : (k l : TableKind) → same_kind k l ≡ true → k ≡ l
kind-same OfType OfType e = refl
kind-same OfType OfConstructor e = absurd cc
kind-same OfType OfFunction e = absurd cc
kind-same OfType OfLayout e = absurd cc
kind-same OfConstructor OfType e = absurd cc
kind-same OfConstructor OfConstructor e = refl
kind-same OfConstructor OfFunction e = absurd cc
kind-same OfConstructor OfLayout e = absurd cc
kind-same OfFunction OfType e = absurd cc
kind-same OfFunction OfConstructor e = absurd cc
kind-same OfFunction OfFunction e = refl
kind-same OfFunction OfLayout e = absurd cc
kind-same OfLayout OfType e = absurd cc
kind-same OfLayout OfConstructor e = absurd cc
kind-same OfLayout OfFunction e = absurd cc
kind-same OfLayout OfLayout e = refl

-- the names that are defined in one table
abbrev pub names_of : TableKind → List Definition → List Name
names_of k [] = []
names_of k (d ∷ ds) = cond (same_kind k d.kind) (d.name.text ∷ names_of k ds) (names_of k ds)

names-append : (k : TableKind) (ds es : List Definition) → names_of k (ds ++ es) ≡ names_of k ds ++ names_of k es
names-append k [] es = refl
names-append k (d ∷ ds) es = by (same_kind k d.kind) (names-append k ds es)
  where
    by : (b : Bool) → names_of k (ds ++ es) ≡ names_of k ds ++ names_of k es
        → cond b (d.name.text ∷ names_of k (ds ++ es)) (names_of k (ds ++ es)) ≡ cond b (d.name.text ∷ names_of k ds) (names_of k ds) ++ names_of k es
    by true rest = ap (λ ns. d.name.text ∷ ns) rest
    by false rest = rest

any-named : (d : Definition) (ds : List Definition) → list_any (same_definition d) ds ≡ list_any (bytes_eq d.name.text) (names_of d.kind ds)
any-named d [] = refl
any-named d (e ∷ es) = by (same_kind d.kind e.kind) (any-named d es)
  where
    by : (b : Bool) → list_any (same_definition d) es ≡ list_any (bytes_eq d.name.text) (names_of d.kind es)
        → ((b && bytes_eq d.name.text e.name.text) || list_any (same_definition d) es)
        ≡ list_any (bytes_eq d.name.text) (cond b (e.name.text ∷ names_of d.kind es) (names_of d.kind es))
    by true rest = ap (λ b. bytes_eq d.name.text e.name.text || b) rest
    by false rest = rest

-- with one more definition, which none before it equals
one-more : (k : TableKind) (ds : List Definition) (d : Definition) → list_any (same_definition d) ds ≡ false → is_distinct bytes_eq (names_of k ds) ≡ true
    → is_distinct bytes_eq (names_of k (ds ++ d ∷ [])) ≡ true
one-more k ds d none h = rw (names-append k ds (d ∷ [])) (by (same_kind k d.kind) refl)
  where
    by : (b : Bool) → same_kind k d.kind ≡ b → is_distinct bytes_eq (names_of k ds ++ cond b (d.name.text ∷ []) []) ≡ true
    by true e =
        let same : list_any (bytes_eq d.name.text) (names_of k ds) ≡ false =
        ap (λ l. list_any (bytes_eq d.name.text) (names_of l ds)) (kind-same k d.kind e) ∙ sym (any-named d ds) ∙ none in
        distinct-last (names_of k ds) d.name.text h same
    by false e = rw (append-nil (names_of k ds)) h

first-distinct : (k : TableKind) (before ds : List Definition) → first_again before ds ≡ None → is_distinct bytes_eq (names_of k before) ≡ true
    → is_distinct bytes_eq (names_of k (before ++ ds)) ≡ true
first-distinct k before [] e h = rw (append-nil before) h
first-distinct k before (d ∷ ds) e h = by (list_any (same_definition d) before) refl e (λ n f. first-distinct k (before ++ d ∷ []) ds f (one-more k before d n h))
  where
    by : (b : Bool) → list_any (same_definition d) before ≡ b → cond b (Some d.name) (first_again (before ++ d ∷ []) ds) ≡ None
        → (list_any (same_definition d) before ≡ false → first_again (before ++ d ∷ []) ds ≡ None → is_distinct bytes_eq (names_of k ((before ++ d ∷ []) ++ ds)) ≡ true)
        → is_distinct bytes_eq (names_of k (before ++ d ∷ ds)) ≡ true
    by true n e later = absurd cc
    by false n e later = rw (← append_assoc before (d ∷ []) ds) (later n e)

skip-constructors : (k : TableKind) → same_kind k OfConstructor ≡ false → (cs : List ConTree) (ds : List Definition) → names_of k (map constructor_definition cs ++ ds) ≡ names_of k ds
skip-constructors k e [] ds = refl
skip-constructors k e (c ∷ cs) ds = rw e (skip-constructors k e cs ds)

skip-layout : (k : TableKind) → same_kind k OfLayout ≡ false → (types : List Name) (name : NameTree) (ds : List Definition) → names_of k (layout_definition types name ++ ds) ≡ names_of k ds
skip-layout k e types name ds = by (list_any (bytes_eq name.text) types)
  where
    by : (b : Bool) → names_of k (cond b (record { kind = OfLayout; name = name } ∷ []) [] ++ ds) ≡ names_of k ds
    by true = rw e refl
    by false = refl

all-constructors : (cs : List ConTree) (ds : List Definition) → names_of OfConstructor (map constructor_definition cs ++ ds) ≡ map (λ c. c.name.text) cs ++ names_of OfConstructor ds
all-constructors [] ds = refl
all-constructors (c ∷ cs) ds = ap (λ ns. c.name.text ∷ ns) (all-constructors cs ds)

abbrev con_texts : TypeTree → List Name
con_texts d = map (λ c. c.name.text) d.cons

module _ (types : List Name) where
  abbrev defs : List ItemTree → List Definition
  defs items = flat_map (definitions types) items

  defined-types : (items : List ItemTree) → names_of OfType (defs items) ≡ type_names items
  defined-types [] = refl
  defined-types (top.Types d ∷ items) = ap (λ ns. d.name.text ∷ ns) (skip-constructors OfType refl d.cons (defs items) ∙ defined-types items)
  defined-types (top.Layouts l ∷ items) = skip-layout OfType refl types l.ty (defs items) ∙ defined-types items
  defined-types (top.Funs f ∷ items) = defined-types items
  defined-types (top.Derived name auto ∷ items) = skip-layout OfType refl types name (defs items) ∙ defined-types items

  defined-functions : (items : List ItemTree) → names_of OfFunction (defs items) ≡ function_names items
  defined-functions [] = refl
  defined-functions (top.Types d ∷ items) = skip-constructors OfFunction refl d.cons (defs items) ∙ defined-functions items
  defined-functions (top.Layouts l ∷ items) = skip-layout OfFunction refl types l.ty (defs items) ∙ defined-functions items
  defined-functions (top.Funs f ∷ items) = ap (λ ns. f.name.text ∷ ns) (defined-functions items)
  defined-functions (top.Derived name auto ∷ items) = skip-layout OfFunction refl types name (defs items) ∙ defined-functions items

  defined-constructors : (items : List ItemTree) → names_of OfConstructor (defs items) ≡ flat_map con_texts (types_in items)
  defined-constructors [] = refl
  defined-constructors (top.Types d ∷ items) = all-constructors d.cons (defs items) ∙ ap (λ ns. con_texts d ++ ns) (defined-constructors items)
  defined-constructors (top.Layouts l ∷ items) = skip-layout OfConstructor refl types l.ty (defs items) ∙ defined-constructors items
  defined-constructors (top.Funs f ∷ items) = defined-constructors items
  defined-constructors (top.Derived name auto ∷ items) = skip-layout OfConstructor refl types name (defs items) ∙ defined-constructors items

  layout-named : (name : NameTree) (ds : List Definition) → list_any (bytes_eq name.text) types ≡ true → names_of OfLayout (layout_definition types name ++ ds) ≡ name.text ∷ names_of OfLayout ds
  layout-named name ds h = rw h refl

  skip-type : (d : TypeTree) (ds : List Definition) → names_of OfLayout (definitions types (top.Types d) ++ ds) ≡ names_of OfLayout ds
  skip-type d ds = skip-constructors OfLayout refl d.cons ds

-- Layouts of distinct types have distinct types' numbers: the written ones, and behind them those that are left to the
-- compiler.
module _ (t : Tables) (types : List Name)
    (named : (name : Name) (n : ℕ) → meaning t.types name ≡ Some n → list_any (bytes_eq name) types ≡ true)
    (one : (a b : Name) (n : ℕ) → meaning t.types a ≡ Some n → meaning t.types b ≡ Some n → bytes_eq a b ≡ true) where
  record Apart (names : List Name) (numbers : List ℕ) : Type 0 where
    absent : (q : Name) (n : ℕ) → meaning t.types q ≡ Some n → list_any (bytes_eq q) names ≡ false → list_any (nat_eq n) numbers ≡ false
    distinct : is_distinct bytes_eq names ≡ true → is_distinct nat_eq numbers ≡ true

  apart-both : (names : List Name) (numbers : List ℕ) (name : Name) (k : ℕ) → meaning t.types name ≡ Some k → Apart names numbers → Apart (name ∷ names) (k ∷ numbers)
  apart-both names numbers name k is a = record {
    absent = λ q n m e.
        let f = or_parts (bytes_eq q name) (list_any (bytes_eq q) names) e in
        rw (other q n m f.0 (nat_eq n k) refl) (a.absent q n m f.1);
    distinct = λ e.
        let f = and_parts (not (list_any (bytes_eq name) names)) (is_distinct bytes_eq names) e in
        rw (a.absent name k is (not-true _ f.0)) (a.distinct f.1);
  }
    where
      other : (q : Name) (n : ℕ) → meaning t.types q ≡ Some n → bytes_eq q name ≡ false → (b : Bool) → nat_eq n k ≡ b → nat_eq n k ≡ false
      other q n m f true e =
          let same : n ≡ k = grind (arith, common_steps, e) in
          absurd (true-false _ (one q name k (m ∙ ap Some same) is) f)
        where
          true-false : (b : Bool) → b ≡ true → b ≡ false → ⊥
          true-false true p q = cc
          true-false false p q = cc
      other q n m f false e = e

  apart-inside : (names : List Name) (written left : List ℕ) (name : Name) (k : ℕ) → meaning t.types name ≡ Some k → Apart names (written ++ left)
      → Apart (name ∷ names) (written ++ k ∷ left)
  apart-inside names written left name k is a =
      let b = apart-both names (written ++ left) name k is a in
      record {
        absent = λ q n m e. moved-not-in n k written left (b.absent q n m e);
        distinct = λ e. moved-distinct k written left (b.distinct e);
      }

  abbrev laid : List ItemTree → Items → List ℕ
  laid items all = map (λ l. l.ty) all.layouts ++ type_numbers t.types (left_in items)

  apart : (items : List ItemTree) (all : Items) → numbered_items t items ≡ Ok all → Apart (names_of OfLayout (defs types items)) (laid items all)
  apart [] all e = rw (← ok-is _ all e) (record { absent = λ q n m f. refl; distinct = λ f. refl })
  apart (top.Types d ∷ items) all e =
      let a = then-ok (numbered_data t d) _ all e in
      let b = then-ok (numbered_items t items) _ all a.2 in
      rw (← ok-is (items_with_type a.0 b.0) all b.2, skip-type types d (defs types items)) (apart items b.0 b.1)
  apart (top.Layouts l ∷ items) all e =
      let a = then-ok (numbered_layout t l) _ all e in
      let b = then-ok (numbered_items t items) _ all a.2 in
      let k = then-ok (name_found l.ty (meaning t.types l.ty.text)) _ a.0 a.1 in
      let s = then-ok (numbered_split t l.tree) _ a.0 k.2 in
      let is : meaning t.types l.ty.text ≡ Some k.0 = known-ok l.ty _ k.0 k.1 in
      let same : (a.0).ty ≡ k.0 = ap (λ (x : LayoutDecl). x.ty) (sym (ok-is _ a.0 s.2)) in
      rw (← ok-is (with_layout a.0 b.0) all b.2, layout-named types l.ty (defs types items) (named l.ty.text k.0 is), same)
      (apart-both _ _ l.ty.text k.0 is (apart items b.0 b.1))
  apart (top.Funs f ∷ items) all e =
      let a = then-ok (numbered_function t f) _ all e in
      let b = then-ok (numbered_items t items) _ all a.2 in
      rw (← ok-is (with_function a.0 b.0) all b.2) (apart items b.0 b.1)
  apart (top.Derived name auto ∷ items) all e =
      let a = then-ok (name_found name (meaning t.types name.text)) _ all e in
      let is : meaning t.types name.text ≡ Some a.0 = known-ok name _ a.0 a.1 in
      rw (layout-named types name (defs types items) (named name.text a.0 is), is)
      (apart-inside _ (map (λ l. l.ty) all.layouts) (type_numbers t.types (left_in items)) name.text a.0 is (apart items all a.2))

number-named : (k : ℕ) (names : List Name) (name : Name) (n : ℕ) → meaning (numbered_names k names) name ≡ Some n → (k ≤ n) × (list_any (bytes_eq name) names ≡ true)
number-named k [] name n e = absurd cc
number-named k (x ∷ xs) name n e = by (bytes_eq name x) e (number-named (suc k) xs name n)
  where
    by : (b : Bool) → cond b (Some k) (meaning (numbered_names (suc k) xs) name) ≡ Some n
        → (meaning (numbered_names (suc k) xs) name ≡ Some n → (suc k ≤ n) × (list_any (bytes_eq name) xs ≡ true)) → (k ≤ n) × ((b || list_any (bytes_eq name) xs) ≡ true)
    by true e later = let same : k ≡ n = cc in (omega (arith, same), refl)
    by false e later = let f = later e in (omega (arith, f.0), f.1)

number-one : (k : ℕ) (names : List Name) (a b : Name) (n : ℕ) → meaning (numbered_names k names) a ≡ Some n → meaning (numbered_names k names) b ≡ Some n → bytes_eq a b ≡ true
number-one k [] a b n e f = absurd cc
number-one k (x ∷ xs) a b n e f = by (bytes_eq a x) (bytes_eq b x) refl refl e f (number-one (suc k) xs a b n)
  where
    by : (p q : Bool) → bytes_eq a x ≡ p → bytes_eq b x ≡ q
        → cond p (Some k) (meaning (numbered_names (suc k) xs) a) ≡ Some n → cond q (Some k) (meaning (numbered_names (suc k) xs) b) ≡ Some n
        → (meaning (numbered_names (suc k) xs) a ≡ Some n → meaning (numbered_names (suc k) xs) b ≡ Some n → bytes_eq a b ≡ true) → bytes_eq a b ≡ true
    by true true p q e f later = (bytes_decides a b).1 ((bytes_decides a x).0 p ∙ sym ((bytes_decides b x).0 q))
    by true false p q e f later = let same : k ≡ n = cc in absurd (omega (arith, same, (number-named (suc k) xs b n f).0))
    by false true p q e f later = let same : k ≡ n = cc in absurd (omega (arith, same, (number-named (suc k) xs a n e).0))
    by false false p q e f later = later e f

-- in a file whose items are numbered
module _ (items : List ItemTree) (all : Items) (found : numbered_items (tables_of items) items ≡ Ok all) where
  abbrev t : Tables
  t = tables_of items

  pub count-types : length all.types ≡ length (type_names items)
  count-types = all-length (numbered_data t) (types_in items) all.types (items-types t items all found) ∙ sym (length-map (types_in items) (λ (t : TypeTree). t.name.text))

  count-functions : length all.functions ≡ length (function_names items)
  count-functions = all-length (numbered_function t) (functions_in items) all.functions (items-functions t items all found) ∙ sym (length-map (functions_in items) (λ (f : FunTree). f.name.text))

  pub known_type : (name : Name) (n : ℕ) → meaning t.types name ≡ Some n → nat_lt n (length all.types) ≡ true
  known_type name n e = lt-ltb n _ (omega (arith, count-types, number-below 0 (type_names items) name n e))

  pub known_fun : (name : Name) (f : ℕ) → meaning t.functions name ≡ Some f → nat_lt f (length all.functions) ≡ true
  known_fun name f e = lt-ltb f _ (omega (arith, count-functions, number-below 0 (function_names items) name f e))

  pub known_con : (name : Name) (c : ConRef) → meaning t.constructors name ≡ Some c → is_constructor all.types c ≡ true
  known_con name c e =
      let f = cons-found 0 (types_in items) name c e in
      let is : c.ty ≡ f.0 = omega (arith, f.2) in
      rw is (data-there t (types_in items) all.types (items-types t items all found) f.0 f.1 c.con f.3 f.4)

  -- so is main
  pub main-below : (m : ℕ) → main_number (meaning t.functions (codes "main")) ≡ Ok m → nat_lt m (length all.functions) ≡ true
  main-below m e = known_fun (codes "main") m (main-is _ e)
    where
      main-is : (o : Option ℕ) → main_number o ≡ Ok m → o ≡ Some m
      main-is None e = absurd cc
      main-is (Some n) e = cc

  module _ (once : defined_twice items ≡ None) where
    distinct-of : (k : TableKind) → is_distinct bytes_eq (names_of k (defs (type_names items) items)) ≡ true
    distinct-of k = first-distinct k [] (defs (type_names items) items) once refl

    pub distinct-names : is_distinct bytes_eq (type_names items) ≡ true
    distinct-names = ap (is_distinct bytes_eq) (sym (defined-types (type_names items) items)) ∙ distinct-of OfType

    pub distinct-types : is_distinct bytes_eq (map (λ d. d.name) all.types) ≡ true
    distinct-types =
        ap (is_distinct bytes_eq) (all-map (numbered_data t) (λ (d : TypeTree). d.name.text) (λ (d : DataDecl). d.name) (data-name t) (types_in items) all.types (items-types t items all found))
        ∙ distinct-names

    pub distinct-functions : is_distinct bytes_eq (map (λ f. f.name) all.functions) ≡ true
    distinct-functions =
        ap (is_distinct bytes_eq) (all-map (numbered_function t) (λ (f : FunTree). f.name.text) (λ (f : Fun). f.name) (function-name t) (functions_in items) all.functions (items-functions t items all found)
        ∙ sym (defined-functions (type_names items) items)) ∙ distinct-of OfFunction

    pub distinct-constructors : is_distinct bytes_eq (flat_map con_names all.types) ≡ true
    distinct-constructors =
        ap (is_distinct bytes_eq) (all-flat (numbered_data t) con_texts con_names
        (λ d x e. all-map (numbered_constructor t) (λ (c : ConTree). c.name.text) (λ (c : Con). c.name) (constructor-name t) d.cons x.cons (data-cons t d x e))
        (types_in items) all.types (items-types t items all found) ∙ sym (defined-constructors (type_names items) items)) ∙ distinct-of OfConstructor

    pub distinct-laid : AreDistinct (map (λ l. l.ty) all.layouts ++ type_numbers t.types (left_in items))
    distinct-laid =
        (apart t (type_names items) (λ name n e. (number-named 0 (type_names items) name n e).1) (number-one 0 (type_names items)) items all found).distinct (distinct-of OfLayout)

    pub distinct-layouts : is_distinct nat_eq (map (λ l. l.ty) all.layouts) ≡ true
    distinct-layouts = front-distinct (map (λ l. l.ty) all.layouts) (type_numbers t.types (left_in items)) distinct-laid
