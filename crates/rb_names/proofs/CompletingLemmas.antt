-- A completed program: it has what is derived for each type that is left to the compiler, and is well numbered.
use Rattle.std.proofs.Common.{◌≡◌, ℕ, zero, suc, ◌+◌, ◌<◌, Bool, true, false, ◌||◌, cond, not, List, [], ◌∷◌, ◌++◌, map, length, nat_eq, nat_lt, Option, Some, None, Ok, Err, IfOk, Result, refl, sym, ◌∙◌, ap, subst, arith, slice_get, codes}
use Rattle.std.proofs.lemmas.Result.{IfOk-weaker}
use Rattle.std.proofs.lemmas.Bool.{eq-eqb, ltb-true, and_parts, and_from, or_parts, not-true}
use Rattle.std.proofs.lemmas.List.{append_assoc, map-append}
use Rattle.std.proofs.lemmas.Option.{same_Some}
use Rattle.std.specs.List.{list_any, list_all}
use Rattle.std.specs.Prelude.{◌==◌, if◌then◌else◌}
use Rattle.std.specs.Str.{bytes_eq}
use Rattle.std.specs.Cmp.Lexicographic.{bytes_decides}
use Rattle.rb_core.specs.declared.types.Auto.{Auto}
use Rattle.rb_core.specs.declared.program.Program.{Program}
use Rattle.rb_core.specs.declared.layout_decl.LayoutDecl.{LayoutDecl}
use Rattle.rb_core.specs.WellNumbered.{IsWellNumbered, is_distinct, layout_is_numbered}
use Rattle.rb_layout.specs.Flattening.{decl_of}
use Rattle.rb_syntax.specs.declared.tree.FileTree.{FileTree}
use Rattle.rb_auto.specs.Answers.{Derives, IsDerivedAnswer}
use Rattle.rb_auto.specs.Completed.{Completes, completed_program}
use Rattle.rb_auto.specs.Rooms.{kind_in, kind_of}
use Rattle.rb_auto.proofs.Tagging.{answer-form}
use Rattle.rb_names.specs.declared.complete.Completed.{Completed}
use Rattle.rb_names.specs.declared.derivation.Derived.{Derived}
use Rattle.rb_names.specs.declared.items.Items.{Items}
use Rattle.rb_names.specs.declared.tables.Tables.{Tables}
use Rattle.rb_names.specs.Tables.{Name, Table, meaning}
use Rattle.rb_names.specs.Definitions.{defined_twice, numbered_names, tables_of, type_names}
use Rattle.rb_names.specs.Programs.{main_number, no_twice, program_of, numbered_items}
use Rattle.rb_names.specs.Completing.{AreDerived, IsCompleted, IsCompletion, first_refusal, kinds_of, layouts_in, left_in, left_types, type_numbers, with_number}
use Rattle.rb_names.specs.inner.Deriving.{IsAllDerived, IsWith}
use Rattle.rb_names.proofs.Inverting.{then-ok, ok-is}
use Rattle.rb_names.proofs.DistinctNumbers.{AreDistinct, IsIn, IsNotIn, apart-from-front, other-way, without-distinct}
use Rattle.rb_names.proofs.WellLists.{Each}
use Rattle.rb_names.proofs.WellNames as names
use Rattle.rb_names.proofs.WellNames.{bytes-symm}
use Rattle.rb_names.proofs.WellDerived.{derived-well}
use Rattle.rb_names.proofs.WellProgram.{once-ok}

-- Answers ----------------------------------------------------------------------------------------

module _ (p : Program) (kinds : List (Option Auto)) where
  derived-type : (t : ℕ) (d : LayoutDecl) → IsDerivedAnswer p kinds t (Ok d) → d.ty ≡ t
  derived-type t d is = ap (λ (x : LayoutDecl). x.ty) (answer-form p kinds is.0 t d is.2).1

  each-answer : (ts : List ℕ) (rs : List Derives) → AreDerived p kinds ts rs → (k : ℕ) (d : LayoutDecl) → slice_get (layouts_in rs) k ≡ Some d → IsDerivedAnswer p kinds d.ty (Ok d)
  each-answer [] [] are k d e = absurd cc
  each-answer [] (r ∷ rs) are k d e = absurd are
  each-answer (t ∷ ts) [] are k d e = absurd are
  each-answer (t ∷ ts) (Ok x ∷ rs) are zero d e =
      subst (λ (y : LayoutDecl). IsDerivedAnswer p kinds y.ty (Ok y)) (same_Some x d e) (subst (λ s. IsDerivedAnswer p kinds s (Ok x)) (sym (derived-type t x are.0)) are.0)
  each-answer (t ∷ ts) (Ok x ∷ rs) are (suc k) d e = each-answer ts rs are.1 k d e
  each-answer (t ∷ ts) (Err f ∷ rs) are k d e = each-answer ts rs are.1 k d e

  -- where none is refused, each of these types has one
  all-types : (ts : List ℕ) (rs : List Derives) → AreDerived p kinds ts rs → first_refusal rs ≡ None → map (λ (d : LayoutDecl). d.ty) (layouts_in rs) ≡ ts
  all-types [] [] are none = refl
  all-types [] (r ∷ rs) are none = absurd are
  all-types (t ∷ ts) [] are none = absurd are
  all-types (t ∷ ts) (Ok d ∷ rs) are none =
      ap (λ s. s ∷ map (λ (d : LayoutDecl). d.ty) (layouts_in rs)) (derived-type t d are.0) ∙ ap (λ ss. t ∷ ss) (all-types ts rs are.1 none)
  all-types (t ∷ ts) (Err f ∷ rs) are none = absurd cc

  still-distinct : (written : List ℕ) (ts : List ℕ) (rs : List Derives) → AreDerived p kinds ts rs → AreDistinct (written ++ ts)
      → AreDistinct (written ++ map (λ (d : LayoutDecl). d.ty) (layouts_in rs))
  still-distinct written [] [] are h = h
  still-distinct written [] (r ∷ rs) are h = absurd are
  still-distinct written (t ∷ ts) [] are h = absurd are
  still-distinct written (t ∷ ts) (Ok d ∷ rs) are h =
      let rest = map (λ (d : LayoutDecl). d.ty) (layouts_in rs) in
      ap (λ s. is_distinct nat_eq (written ++ s ∷ rest)) (derived-type t d are.0)
      ∙ ap (is_distinct nat_eq) (sym (append_assoc written (t ∷ []) rest))
      ∙ still-distinct (written ++ t ∷ []) ts rs are.1 (ap (is_distinct nat_eq) (append_assoc written (t ∷ []) ts) ∙ h)
  still-distinct written (t ∷ ts) (Err f ∷ rs) are h = still-distinct written ts rs are.1 (without-distinct t written ts h)

  module _ (well : IsWellNumbered p) where
    derived-numbered : (t : ℕ) (d : LayoutDecl) → t < length p.types → IsDerivedAnswer p kinds t (Ok d) → layout_is_numbered p.types d ≡ true
    derived-numbered t d lt is =
        let form = answer-form p kinds is.0 t d is.2 in ap (layout_is_numbered p.types) form.1 ∙ derived-well p well is.0 t lt form.0

    all-numbered : (ts : List ℕ) (rs : List Derives) → AreDerived p kinds ts rs → Each (λ t. t < length p.types) ts → list_all (layout_is_numbered p.types) (layouts_in rs) ≡ true
    all-numbered [] [] are below = refl
    all-numbered [] (r ∷ rs) are below = absurd are
    all-numbered (t ∷ ts) [] are below = absurd are
    all-numbered (t ∷ ts) (Ok d ∷ rs) are below = and_from _ _ (derived-numbered t d below.0 are.0) (all-numbered ts rs are.1 below.1)
    all-numbered (t ∷ ts) (Err f ∷ rs) are below = all-numbered ts rs are.1 below.1

-- Layouts of types --------------------------------------------------------------------------------

abbrev types_of : List LayoutDecl → List ℕ
types_of ds = map (λ (d : LayoutDecl). d.ty) ds

layout-found : (ds : List LayoutDecl) (t : ℕ) → IsIn t (types_of ds) → (d : LayoutDecl) × (decl_of ds t ≡ Some d)
layout-found [] t is = absurd cc
layout-found (x ∷ ds) t is = by (x.ty == t) refl (λ e. layout-found ds t (rest e is))
  where
    rest : nat_eq x.ty t ≡ false → (nat_eq t x.ty || list_any (nat_eq t) (types_of ds)) ≡ true → IsIn t (types_of ds)
    rest e h = rw (other-way x.ty t e) at h

    by : (b : Bool) → (x.ty == t) ≡ b → ((x.ty == t) ≡ false → (d : LayoutDecl) × (decl_of ds t ≡ Some d))
        → (d : LayoutDecl) × ((if b then Some x else decl_of ds t) ≡ Some d)
    by true e later = (x, refl)
    by false e later = later e

no-layout : (ds : List LayoutDecl) (t : ℕ) → IsNotIn t (types_of ds) → decl_of ds t ≡ None
no-layout [] t is = refl
no-layout (x ∷ ds) t is = let h = or_parts (nat_eq t x.ty) (list_any (nat_eq t) (types_of ds)) is in rw (other-way t x.ty h.0) (no-layout ds t h.1)

-- Types that are left to the compiler --------------------------------------------------------------

behind-number : (o : Option ℕ) (n : ℕ) (ns : List ℕ) → IsIn n ns → IsIn n (with_number o ns)
behind-number None n ns h = h
behind-number (Some t) n ns h = by (nat_eq n t)
  where
    by : (b : Bool) → (b || list_any (nat_eq n) ns) ≡ true
    by true = refl
    by false = h

-- the number of a type's name is among those of the types that are left
number-in : (types : Table ℕ) (left : Table Auto) (name : Name) (n : ℕ) (kind : Auto) → meaning types name ≡ Some n → meaning left name ≡ Some kind → IsIn n (type_numbers types left)
number-in types [] name n kind is e = absurd cc
number-in types (l ∷ left) name n kind is e = by (bytes_eq name l.0) refl e (number-in types left name n kind is)
  where
    first : meaning types l.0 ≡ Some n → IsIn n (with_number (meaning types l.0) (type_numbers types left))
    first found = rw (found, eq-eqb n n refl) refl

    by : (b : Bool) → bytes_eq name l.0 ≡ b → cond b (Some l.1) (meaning left name) ≡ Some kind → (meaning left name ≡ Some kind → IsIn n (type_numbers types left))
        → IsIn n (with_number (meaning types l.0) (type_numbers types left))
    by true same e later = first (ap (meaning types) (sym ((bytes_decides name l.0).0 same)) ∙ is)
    by false other e later = behind-number (meaning types l.0) n (type_numbers types left) (later e)

numbers-each : (P : ℕ → Type 0) (types : Table ℕ) (left : Table Auto) → ((name : Name) (n : ℕ) → meaning types name ≡ Some n → P n) → Each P (type_numbers types left)
numbers-each P types [] all = tt
numbers-each P types (l ∷ left) all = by (meaning types l.0) refl (numbers-each P types left all)
  where
    by : (o : Option ℕ) → meaning types l.0 ≡ o → Each P (type_numbers types left) → Each P (with_number o (type_numbers types left))
    by None e rest = rest
    by (Some n) e rest = (all l.0 n e, rest)

-- of distinct names each stands for its place
other-name : (names : List Name) (t : ℕ) (x y : Name) → slice_get names t ≡ Some x → list_any (bytes_eq y) names ≡ false → bytes_eq x y ≡ false
other-name [] t x y e h = absurd cc
other-name (n ∷ names) zero x y e h = bytes-symm x y ∙ ap (bytes_eq y) (sym (same_Some n x e)) ∙ (or_parts (bytes_eq y n) (list_any (bytes_eq y) names) h).0
other-name (n ∷ names) (suc t) x y e h = other-name names t x y e (or_parts (bytes_eq y n) (list_any (bytes_eq y) names) h).1

number-at : (k : ℕ) (names : List Name) (t : ℕ) (x : Name) → is_distinct bytes_eq names ≡ true → slice_get names t ≡ Some x → meaning (numbered_names k names) x ≡ Some (k + t)
number-at k [] t x d e = absurd cc
number-at k (y ∷ names) zero x d e =
    let same : bytes_eq x y ≡ true = (bytes_decides x y).1 (sym (same_Some y x e)) in rw same (ap (λ n. Some n) (none_more k))
  where
    none_more : (n : ℕ) → n ≡ n + 0
    none_more n = omega arith
number-at k (y ∷ names) (suc t) x d e =
    let h = and_parts (not (list_any (bytes_eq y) names)) (is_distinct bytes_eq names) d in
    rw (other-name names t x y e (not-true (list_any (bytes_eq y) names) h.0)) (number-at (suc k) names t x h.1 e ∙ ap (λ n. Some n) (one_more k t))
  where
    one_more : (n m : ℕ) → suc n + m ≡ n + suc m
    one_more n m = omega arith

-- the name of a type of which a layout is derived
kind-named : (left : Table Auto) (names : List Name) (t : ℕ) (kind : Auto) → kind_in (slice_get (map (meaning left) names) t) ≡ Some kind
    → (x : Name) × (slice_get names t ≡ Some x) × (meaning left x ≡ Some kind)
kind-named left [] t kind e = absurd cc
kind-named left (x ∷ names) zero kind e = (x, refl, e)
kind-named left (x ∷ names) (suc t) kind e = kind-named left names t kind e

-- The file ------------------------------------------------------------------------------------------

-- what is found of a file that has a program
record IsFound (file : FileTree) (p : Program) : Type 0 where
  all : Items
  found : numbered_items (tables_of file.items) file.items ≡ Ok all
  once : defined_twice file.items ≡ None
  types : all.types ≡ p.types
  layouts : all.layouts ≡ p.layouts

is-found : (file : FileTree) (p : Program) → program_of file ≡ Ok p → IsFound file p
is-found file p e =
    let t : Tables = tables_of file.items in
    let a = then-ok (no_twice (defined_twice file.items)) _ p e in
    let b = then-ok (numbered_items t file.items) _ p a.2 in
    let c = then-ok (main_number (meaning t.functions (codes "main"))) _ p b.2 in
    let same = ok-is _ p c.2 in
    record {
      all = b.0;
      found = b.1;
      once = once-ok (defined_twice file.items) a.0 a.1;
      types = ap (λ (q : Program). q.types) same;
      layouts = ap (λ (q : Program). q.layouts) same;
    }

pub once : (file : FileTree) (p : Program) → program_of file ≡ Ok p → defined_twice file.items ≡ None
once file p e = (is-found file p e).once

all-join : {A : Type 0} (test : A → Bool) (xs ys : List A) → list_all test xs ≡ true → list_all test ys ≡ true → list_all test (xs ++ ys) ≡ true
all-join test [] ys h g = g
all-join test (x ∷ xs) ys h g = let parts = and_parts (test x) (list_all test xs) h in and_from _ _ parts.0 (all-join test xs ys parts.1 g)

module _ (file : FileTree) (p : Program) (named : program_of file ≡ Ok p) where
  abbrev is : IsFound file p
  is = is-found file p named

  laid-distinct : AreDistinct (types_of p.layouts ++ left_types file)
  laid-distinct = subst (λ (ds : List LayoutDecl). AreDistinct (types_of ds ++ left_types file)) is.layouts (names.distinct-laid file.items is.all is.found is.once)

  left-below : Each (λ t. t < length p.types) (left_types file)
  left-below =
      numbers-each (λ t. t < length p.types) (tables_of file.items).types (left_in file.items)
      (λ name n e. ltb-true n (length p.types) (ap (λ ds. nat_lt n (length ds)) (sym is.types) ∙ names.known_type file.items is.all is.found name n e))

  in-left : (t : ℕ) (kind : Auto) → kind_of (kinds_of file) t ≡ Some kind → IsIn t (left_types file)
  in-left t kind e =
      let x = kind-named (left_in file.items) (type_names file.items) t kind e in
      number-in (tables_of file.items).types (left_in file.items) x.0 t kind
      (number-at 0 (type_names file.items) t x.0 (names.distinct-names file.items is.all is.found is.once) x.1 ∙ ap (λ n. Some n) (none_before t)) x.2
    where
      none_before : (n : ℕ) → 0 + n ≡ n
      none_before n = omega arith

  module _ (c : Completed) (done : IsCompleted file p c) where
    abbrev added : List LayoutDecl
    added = layouts_in done.answers

    all-completes : c.refused ≡ None → Completes p (kinds_of file) added
    all-completes none =
        let whole : types_of added ≡ left_types file = all-types p (kinds_of file) (left_types file) done.answers done.are_derived (sym done.refused ∙ none) in
        record {
          each = each-answer p (kinds_of file) (left_types file) done.answers done.are_derived;
          all = λ t kind lt e. layout-found added t (ap (list_any (nat_eq t)) whole ∙ in-left t kind e);
          alone = λ t kind e. no-layout p.layouts t (apart-from-front t (types_of p.layouts) (left_types file) laid-distinct (in-left t kind e));
        }

    is-whole : c.refused ≡ None → IsCompletion file p c
    is-whole none = record { derived = added; completes = all-completes none; program = done.program }

    completed-well : IsWellNumbered p → IsWellNumbered (completed_program p added)
    completed-well well = record {
      main = well.main;
      types = well.types;
      layouts = all-join (layout_is_numbered p.types) p.layouts added well.layouts (all-numbered p (kinds_of file) well (left_types file) done.answers done.are_derived left-below);
      functions = well.functions;
      type_count = well.type_count;
      function_count = well.function_count;
      type_names = well.type_names;
      con_names = well.con_names;
      function_names = well.function_names;
      layout_types =
          ap (is_distinct nat_eq) (map-append (λ (d : LayoutDecl). d.ty) p.layouts added)
          ∙ still-distinct p (kinds_of file) (types_of p.layouts) (left_types file) done.answers done.are_derived laid-distinct;
      match_tokens = well.match_tokens;
    }

    is-well : IsWellNumbered p → IsWellNumbered c.program
    is-well well = subst IsWellNumbered (sym done.program) (completed-well well)

-- What a call answers -------------------------------------------------------------------------------

module _ {E : Type 0} (file : FileTree) (p : Program) (r : Result Completed E) where
  pub answer-completed : (kinds : List (Option Auto)) (ts : List ℕ) (d : Derived) → kinds ≡ kinds_of file → ts ≡ left_types file → IsAllDerived p kinds ts d
      → IfOk r (IsWith p d) → IfOk r (IsCompleted file p)
  answer-completed kinds ts d is_kinds is_types all =
      IfOk-weaker r (IsWith p d) (IsCompleted file p)
      (λ c w. record {
        answers = all.answers;
        are_derived =
            subst (λ ks. AreDerived p ks (left_types file) all.answers) is_kinds (subst (λ us. AreDerived p kinds us all.answers) is_types all.are_derived);
        program = w.program ∙ ap (completed_program p) all.layouts;
        refused = w.refused ∙ all.refused;
      })

module _ {E : Type 0} (file : FileTree) (p : Program) (named : program_of file ≡ Ok p) (r : Result Completed E) (done : IfOk r (IsCompleted file p)) where
  pub answer-whole : IfOk r (λ c. c.refused ≡ None → IsCompletion file p c)
  answer-whole = IfOk-weaker r (IsCompleted file p) (λ c. c.refused ≡ None → IsCompletion file p c) (is-whole file p named) done

  pub answer-well : IsWellNumbered p → IfOk r (λ c. IsWellNumbered c.program)
  answer-well well = IfOk-weaker r (IsCompleted file p) (λ c. IsWellNumbered c.program) (λ c d. is-well file p named c d well) done
