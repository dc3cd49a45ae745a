-- The tables of a file, item by item.
use Rattle.std.proofs.Common.{◌≡◌, ℕ, suc, ◌+◌, ◌<◌, Bool, true, false, cond, ◌||◌, List, [], ◌∷◌, ◌++◌, map, drop, length, get_or, Option, Some, None, is_some, Ok, Err, refl, sym, ap, ◌∙◌, subst, add-one}
use Rattle.std.specs.List.{list_any, flat_map}
use Rattle.std.specs.Str.{bytes_eq}
use Rattle.std.specs.Cmp.Lexicographic.{bytes_decides}
use Rattle.std.proofs.lemmas.List.{append_assoc, append-nil, length-append}
use Rattle.rb_core.specs.declared.types.ConRef.{ConRef}
use Rattle.rb_syntax.specs.declared.tree.NameTree.{NameTree}
use Rattle.rb_syntax.specs.declared.tree.ConTree.{ConTree}
use Rattle.rb_syntax.specs.declared.tree.TypeTree.{TypeTree}
use Rattle.rb_syntax.specs.declared.tree.FunTree.{FunTree}
use Rattle.rb_syntax.specs.declared.tree.ItemTree.{ItemTree}
use Rattle.rb_syntax.specs.declared.tree.ItemTree.TheVariants as top
use Rattle.rb_names.specs.declared.fault.NameFault.{NameFault}
use Rattle.rb_names.specs.declared.tables.Tables.{Tables}
use Rattle.rb_names.specs.declared.tables.Defining.{Defining}
use Rattle.rb_names.specs.Tables.{Name, Table, meaning}
use Rattle.rb_names.specs.inner.Defining.{with_definition, AreKnown, AreAdded, IsAgain, repeated_name, with_rest}
use Rattle.rb_names.specs.Definitions.{Definition, OfConstructor, first_again, constructor_definition, definitions, constructors_from, constructors_of, numbered_names, type_names, types_in, function_names, tables_of}
use Rattle.rb_names.proofs.DefiningLemmas.{any-append, is_some-append, or-false, constructor-added, made-again}
use Rattle.rb_names.proofs.ListLemmas.{drop-here}
use Rattle.rb_names.specs.Numbering.{Resolved, and_then}
use Rattle.rb_names.specs.Programs.{no_twice}
use Rattle.rb_names.specs.Answers.{AnswersNumbering}

pub with_rest-end : (t : Tables) → with_rest t [] ≡ t
with_rest-end t = rw (append-nil t.types, append-nil t.constructors, append-nil t.functions) refl

table-rest : (t : Table ℕ) (n : Name) (names : List Name) → (t ++ (n, length t) ∷ []) ++ numbered_names (length (t ++ (n, length t) ∷ [])) names ≡ t ++ numbered_names (length t) (n ∷ names)
table-rest t n names =
    let long : length (t ++ (n, length t) ∷ []) ≡ suc (length t) = length-append t ((n, length t) ∷ []) ∙ add-one (length t) in
    ap (λ k. (t ++ (n, length t) ∷ []) ++ numbered_names k names) long ∙ append_assoc t ((n, length t) ∷ []) (numbered_names (suc (length t)) names)

module _ (t after : Tables) where
  pub type-rest : (tree : TypeTree) (ty : ℕ) → ty ≡ length t.types → after.types ≡ t.types ++ (tree.name.text, ty) ∷ []
      → after.constructors ≡ t.constructors ++ constructors_from ty 0 tree.cons → after.functions ≡ t.functions
      → (rest : List ItemTree) → with_rest after rest ≡ with_rest t (top.Types tree ∷ rest)
  type-rest tree ty is types constructors functions rest =
      let long : length (t.types ++ (tree.name.text, length t.types) ∷ []) ≡ suc (length t.types) = length-append t.types ((tree.name.text, length t.types) ∷ []) ∙ add-one (length t.types) in
      rw (
        types,
        constructors,
        functions,
        is,
        table-rest t.types tree.name.text (type_names rest),
        long,
        append_assoc t.constructors (constructors_from (length t.types) 0 tree.cons) (constructors_of (suc (length t.types)) (types_in rest)),
      ) refl

  pub function-rest : (f : FunTree) → after.functions ≡ t.functions ++ (f.name.text, length t.functions) ∷ [] → after.types ≡ t.types
      → after.constructors ≡ t.constructors → (rest : List ItemTree) → with_rest after rest ≡ with_rest t (top.Funs f ∷ rest)
  function-rest f functions types constructors rest = rw (functions, types, constructors, table-rest t.functions f.name.text (function_names rest)) refl

or-true : (b : Bool) → (b || true) ≡ true
or-true true = refl
or-true false = refl

-- the names of a table with one more definition
pub defined-names : {A : Type 0} (t : Table A) (q n : Name) (x : A) → is_some (meaning (with_definition t n x (meaning t n)) q) ≡ (is_some (meaning t q) || bytes_eq q n)
defined-names {A} t q n x = by (meaning t n) refl
  where
    alone : (b : Bool) → is_some (cond b (Some x) None) ≡ b
    alone true = refl
    alone false = refl

    there : (y : A) → meaning t n ≡ Some y → (b : Bool) → bytes_eq q n ≡ b → is_some (meaning t q) ≡ (is_some (meaning t q) || b)
    there y e true same =
        let known : is_some (meaning t q) ≡ true = ap (λ k. is_some (meaning t k)) ((bytes_decides q n).0 same) ∙ ap is_some e in
        known ∙ sym (or-true (is_some (meaning t q)))
    there y e false same = sym (or-false (is_some (meaning t q)))

    by : (o : Option A) → meaning t n ≡ o → is_some (meaning (with_definition t n x o) q) ≡ (is_some (meaning t q) || bytes_eq q n)
    by None e = is_some-append q t ((n, x) ∷ []) ∙ ap (λ b. is_some (meaning t q) || b) (alone (bytes_eq q n))
    by (Some y) e = there y e (bytes_eq q n) refl

-- AreAdded, one list of definitions after another
pub added-both : (before xs ys : List Definition) (k1 k2 : Defining) → AreAdded before xs k1 → ((all : List Definition) → AreKnown all k1 → AreAdded all ys k2)
    → AreAdded before (xs ++ ys) k2
added-both before xs ys k1 k2 a more =
    let b = more a.all a.are_known in
    record {
      all = b.all;
      are_known = b.are_known;
      are_new = λ rest. ap (first_again before) (append_assoc xs ys rest) ∙ a.are_new (ys ++ rest) ∙ b.are_new rest;
    }

-- definitions that are gone through from a place on
pub record Passed (before all rest : List Definition) (known : Defining) : Type 0 where
  pub gone : List Definition
  pub are_known : AreKnown gone known
  pub same : (after : List Definition) → first_again before (all ++ after) ≡ first_again gone (rest ++ after)

pub passed-none : (before all : List Definition) (known : Defining) → AreKnown before known → Passed before all all known
passed-none before all known a = record { gone = before; are_known = a; same = λ after. refl }

pub passed-all : (before all : List Definition) (known : Defining) → Passed before all [] known → AreAdded before all known
passed-all before all known p = record { all = p.gone; are_known = p.are_known; are_new = p.same }

module _ (cons : List ConTree) (i : ℕ) (con : ConTree) (lt : i < length cons) (is : con ≡ get_or cons i con) where
  constructors-here : map constructor_definition (drop i cons) ≡ constructor_definition con ∷ map constructor_definition (drop (suc i) cons)
  constructors-here = ap (map constructor_definition) (drop-here cons i con lt is)

  pub constructors-next : (old new all : Table ConRef) (ty number : ℕ) → number ≡ i → new ≡ old ++ (con.name.text, record { ty = ty; con = number }) ∷ []
      → old ++ constructors_from ty i (drop i cons) ≡ all → new ++ constructors_from ty (i + 1) (drop (i + 1) cons) ≡ all
  constructors-next old new all ty number same grown h =
      let x : Name × ConRef = (con.name.text, record { ty = ty; con = i }) in
      let grown' : new ≡ old ++ x ∷ [] = grown ∙ ap (λ n. old ++ (con.name.text, record { ty = ty; con = n }) ∷ []) same in
      rw (add-one i) (ap (λ t. t ++ constructors_from ty (suc i) (drop (suc i) cons)) grown' ∙ append_assoc old (x ∷ []) (constructors_from ty (suc i) (drop (suc i) cons))
      ∙ ap (λ cs. old ++ constructors_from ty i cs) (sym (drop-here cons i con lt is)) ∙ h)

  pub constructor-passed : (before all : List Definition) (known : Defining) (x : ConRef) (new : Table ConRef)
      → new ≡ known.tables.constructors ++ (con.name.text, x) ∷ [] → is_some (meaning known.tables.constructors con.name.text) ≡ false
      → Passed before all (map constructor_definition (drop i cons)) known
      → Passed before all (map constructor_definition (drop (i + 1) cons)) (record { tables = record { types = known.tables.types; constructors = new; functions = known.tables.functions }; laid = known.laid })
  constructor-passed before all known x new grown h p =
      let b = constructor-added p.gone known p.are_known con.name x new grown h in
      let rest = map constructor_definition (drop (suc i) cons) in
      rw (add-one i) (record {
        gone = b.all;
        are_known = b.are_known;
        same = λ after. p.same after ∙ ap (λ ds. first_again p.gone (ds ++ after)) constructors-here ∙ b.are_new (rest ++ after);
      })

  pub constructor-again : (before all : List Definition) (known : Defining) (fault : NameFault)
      → AnswersNumbering {A = Unit {0}} (Err fault) (no_twice (repeated_name (is_some (meaning known.tables.constructors con.name.text)) con.name))
      → Passed before all (map constructor_definition (drop i cons)) known → IsAgain before all fault
  constructor-again before all known fault h p rest =
      subst (λ (o : Option NameTree). AnswersNumbering {A = Unit {0}} (Err fault) (no_twice o))
      (sym (p.same rest ∙ ap (λ ds. first_again p.gone (ds ++ rest)) constructors-here))
      (made-again OfConstructor p.gone known.tables.constructors p.are_known.constructors con.name fault h (map constructor_definition (drop (suc i) cons) ++ rest))

-- a number that is handed on
pub handed : (n number : ℕ) (r : Resolved ℕ) → r ≡ Ok n → r ≡ Ok number → number ≡ n
handed n number r a b = cc

-- Items, one after another.

pub type_names-cons : (item : ItemTree) (items : List ItemTree) → type_names (item ∷ items) ≡ type_names (item ∷ []) ++ type_names items
type_names-cons (top.Types t) items = refl
type_names-cons (top.Layouts l) items = refl
type_names-cons (top.Funs f) items = refl
type_names-cons (top.Derived name a) items = refl

or-assoc : (a b c : Bool) → ((a || b) || c) ≡ (a || (b || c))
or-assoc true b c = refl
or-assoc false b c = refl

pub names-next : (items : List ItemTree) (i : ℕ) (item : ItemTree) (name : Name) (old new : Bool) → i < length items → item ≡ get_or items i item
    → new ≡ (old || list_any (bytes_eq name) (type_names (item ∷ [])))
    → (new || list_any (bytes_eq name) (type_names (drop (i + 1) items))) ≡ (old || list_any (bytes_eq name) (type_names (drop i items)))
names-next items i item name old new lt is h =
    let rest = drop (suc i) items in
    let here : list_any (bytes_eq name) (type_names (drop i items)) ≡ (list_any (bytes_eq name) (type_names (item ∷ [])) || list_any (bytes_eq name) (type_names rest)) =
    ap (λ (us : List ItemTree). list_any (bytes_eq name) (type_names us)) (drop-here items i item lt is) ∙ ap (list_any (bytes_eq name)) (type_names-cons item rest)
    ∙ any-append (bytes_eq name) (type_names (item ∷ [])) (type_names rest) in
    rw (add-one i) (ap (λ b. b || list_any (bytes_eq name) (type_names rest)) h ∙ or-assoc old _ _ ∙ ap (λ b. old || b) (sym here))

pub name-added : {A : Type 0} (t new : Table A) (n q : Name) (x : A) → new ≡ with_definition t n x (meaning t n) → is_some (meaning new q) ≡ (is_some (meaning t q) || (bytes_eq q n || false))
name-added t new n q x is = ap (λ u. is_some (meaning u q)) is ∙ defined-names t q n x ∙ ap (λ b. is_some (meaning t q) || b) (sym (or-false (bytes_eq q n)))

module _ (items : List ItemTree) (i : ℕ) (item : ItemTree) (lt : i < length items) (is : item ≡ get_or items i item) where
  pub tables-next : (old new : Tables) → ((rest : List ItemTree) → with_rest new rest ≡ with_rest old (item ∷ rest)) → with_rest old (drop i items) ≡ tables_of items
      → with_rest new (drop (i + 1) items) ≡ tables_of items
  tables-next old new step h = rw (add-one i) (step (drop (suc i) items) ∙ ap (with_rest old) (sym (drop-here items i item lt is)) ∙ h)

  definitions-here : (names : List Name) → flat_map (definitions names) (drop i items) ≡ definitions names item ++ flat_map (definitions names) (drop (suc i) items)
  definitions-here names = ap (flat_map (definitions names)) (drop-here items i item lt is)

  pub twice-next : (names : List Name) (gone : List Definition) (new : Defining) (twice : Option NameTree) → AreAdded gone (definitions names item) new
      → first_again gone (flat_map (definitions names) (drop i items)) ≡ twice
      → (after : List Definition) × AreKnown after new × (first_again after (flat_map (definitions names) (drop (i + 1) items)) ≡ twice)
  twice-next names gone new twice a h =
      (a.all, a.are_known, rw (add-one i) (sym (a.are_new (flat_map (definitions names) (drop (suc i) items))) ∙ ap (first_again gone) (sym (definitions-here names)) ∙ h))

  pub twice-here : (names : List Name) (gone : List Definition) (fault : NameFault) (twice : Option NameTree) → IsAgain gone (definitions names item) fault
      → first_again gone (flat_map (definitions names) (drop i items)) ≡ twice → AnswersNumbering {A = Unit {0}} (Err fault) (no_twice twice)
  twice-here names gone fault twice a h =
      subst (λ (o : Option NameTree). AnswersNumbering {A = Unit {0}} (Err fault) (no_twice o)) (ap (first_again gone) (sym (definitions-here names)) ∙ h)
      (a (flat_map (definitions names) (drop (suc i) items)))

pub twice-refused : {A : Type 0} (twice : Option NameTree) (go : Unit {0} → Resolved A) (f : NameFault) → no_twice twice ≡ Err f → and_then (no_twice twice) go ≡ Err f
twice-refused twice go f h = ap (λ r. and_then r go) h

-- a type's own name may be made again, or one of its constructors'
pub later-again : (before more rest : List Definition) (known : Defining) (fault : NameFault) (a : AreAdded before more known) → IsAgain a.all rest fault → IsAgain before (more ++ rest) fault
later-again before more rest known fault a h after =
    subst (λ (o : Option NameTree). AnswersNumbering {A = Unit {0}} (Err fault) (no_twice o)) (sym (ap (first_again before) (append_assoc more rest after) ∙ a.are_new (rest ++ after))) (h after)

pub first-again-of : (before : List Definition) (d : Definition) (rest : List Definition) (fault : NameFault) → IsAgain before (d ∷ []) fault → IsAgain before (d ∷ rest) fault
first-again-of before d rest fault h after = h (rest ++ after)
