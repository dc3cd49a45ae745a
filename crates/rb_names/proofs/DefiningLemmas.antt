-- What tables know while definitions are gone through.
use Rattle.std.proofs.Common.{◌≡◌, ℕ, Bool, true, false, ◌&&◌, ◌||◌, cond, List, [], ◌∷◌, ◌++◌, Option, Some, None, is_some, Ok, Err, refl, sym, ◌∙◌, subst}
use Rattle.std.specs.List.{list_any}
use Rattle.std.specs.Str.{bytes_eq}
use Rattle.rb_core.specs.declared.types.ConRef.{ConRef}
use Rattle.rb_syntax.specs.declared.tree.NameTree.{NameTree}
use Rattle.rb_names.specs.declared.fault.NameFault.{NameFault}
use Rattle.rb_names.specs.declared.fault.NameFault.TheVariants.{Twice, Unknown, NoMain, Memory}
use Rattle.rb_names.specs.Numbering.{Resolved}
use Rattle.rb_names.specs.declared.tables.Defining.{Defining}
use Rattle.rb_names.specs.Tables.{Name, Table, meaning}
use Rattle.rb_names.specs.Definitions.{TableKind, OfType, OfConstructor, OfFunction, OfLayout, Definition, same_kind, first_again}
use Rattle.rb_names.specs.Programs.{no_twice}
use Rattle.rb_names.specs.Answers.{AnswersNumbering}
use Rattle.rb_names.specs.inner.Defining.{is_defined, Knows, AreKnown, AreAdded, IsAgain, repeated_name}

pub any-append : {A : Type 0} (p : A → Bool) (xs ys : List A) → list_any p (xs ++ ys) ≡ (list_any p xs || list_any p ys)
any-append p [] ys = refl
any-append p (x ∷ xs) ys = by (p x) (any-append p xs ys)
  where
    by : (b : Bool) → list_any p (xs ++ ys) ≡ (list_any p xs || list_any p ys) → (b || list_any p (xs ++ ys)) ≡ ((b || list_any p xs) || list_any p ys)
    by true rest = refl
    by false rest = rest

pub is_some-append : {A : Type 0} (name : Name) (t u : Table A) → is_some (meaning (t ++ u) name) ≡ (is_some (meaning t name) || is_some (meaning u name))
is_some-append name [] u = refl
is_some-append {A} name (e ∷ t) u = by (bytes_eq name e.0) (is_some-append name t u)
  where
    by : (b : Bool) → is_some (meaning (t ++ u) name) ≡ (is_some (meaning t name) || is_some (meaning u name))
        → is_some (cond b (Some e.1) (meaning (t ++ u) name)) ≡ (is_some (cond b (Some e.1) (meaning t name)) || is_some (meaning u name))
    by true rest = refl
    by false rest = rest

pub Knows-append : {A : Type 0} (k : TableKind) (before more : List Definition) (t u : Table A) → Knows k before t → Knows k more u → Knows k (before ++ more) (t ++ u)
Knows-append k before more t u a b name =
    is_some-append name t u ∙ rw (a name, b name) refl ∙ sym (any-append (λ (d : Definition). same_kind k d.kind && bytes_eq name d.name.text) before more)

pub or-false : (b : Bool) → (b || false) ≡ b
or-false true = refl
or-false false = refl

-- a definition in another table
pub Knows-other : {A : Type 0} (k : TableKind) (before more : List Definition) (t : Table A) → Knows k before t → ((name : Name) → is_defined k name more ≡ false) → Knows k (before ++ more) t
Knows-other k before more t a none name =
    a name ∙ sym (any-append (λ (d : Definition). same_kind k d.kind && bytes_eq name d.name.text) before more ∙ rw (none name) (or-false (is_defined k name before)))

one-name : {A : Type 0} (name n : Name) (x : A) → is_some (cond (bytes_eq name n) (Some x) None) ≡ ((true && bytes_eq name n) || false)
one-name name n x = by (bytes_eq name n)
  where
    by : (b : Bool) → is_some (cond b (Some x) None) ≡ ((true && b) || false)
    by true = refl
    by false = refl

pub again-first : (before : List Definition) (d : Definition) (rest : List Definition) → is_defined d.kind d.name.text before ≡ true → first_again before (d ∷ rest) ≡ Some d.name
again-first before d rest h = rw h refl

pub new-first : (before : List Definition) (d : Definition) (rest : List Definition) → is_defined d.kind d.name.text before ≡ false → first_again before (d ∷ rest) ≡ first_again (before ++ d ∷ []) rest
new-first before d rest h = rw h refl

-- one more definition, in each of the tables
module _ (before : List Definition) (known : Defining) (a : AreKnown before known) (name : NameTree) where
  pub type-added : (x : ℕ) (new : Table ℕ) → new ≡ known.tables.types ++ (name.text, x) ∷ [] → is_some (meaning known.tables.types name.text) ≡ false
      → AreAdded before (record { kind = OfType; name = name } ∷ []) (record { tables = record { types = new; constructors = known.tables.constructors; functions = known.tables.functions }; laid = known.laid })
  type-added x new is h = record {
    all = before ++ record { kind = OfType; name = name } ∷ [];
    are_known = record {
      types = subst (Knows OfType (before ++ record { kind = OfType; name = name } ∷ [])) (sym is) (Knows-append OfType before _ known.tables.types _ a.types (λ q. one-name q name.text x));
      constructors = Knows-other OfConstructor before _ known.tables.constructors a.constructors (λ q. refl);
      functions = Knows-other OfFunction before _ known.tables.functions a.functions (λ q. refl);
      laid = Knows-other OfLayout before _ known.laid a.laid (λ q. refl);
    };
    are_new = λ rest. new-first before (record { kind = OfType; name = name }) rest (sym (a.types name.text) ∙ h);
  }

  pub constructor-added : (x : ConRef) (new : Table ConRef) → new ≡ known.tables.constructors ++ (name.text, x) ∷ [] → is_some (meaning known.tables.constructors name.text) ≡ false
      → AreAdded before (record { kind = OfConstructor; name = name } ∷ []) (record { tables = record { types = known.tables.types; constructors = new; functions = known.tables.functions }; laid = known.laid })
  constructor-added x new is h = record {
    all = before ++ record { kind = OfConstructor; name = name } ∷ [];
    are_known = record {
      types = Knows-other OfType before _ known.tables.types a.types (λ q. refl);
      constructors = subst (Knows OfConstructor (before ++ record { kind = OfConstructor; name = name } ∷ [])) (sym is) (Knows-append OfConstructor before _ known.tables.constructors _ a.constructors (λ q. one-name q name.text x));
      functions = Knows-other OfFunction before _ known.tables.functions a.functions (λ q. refl);
      laid = Knows-other OfLayout before _ known.laid a.laid (λ q. refl);
    };
    are_new = λ rest. new-first before (record { kind = OfConstructor; name = name }) rest (sym (a.constructors name.text) ∙ h);
  }

  pub function-added : (x : ℕ) (new : Table ℕ) → new ≡ known.tables.functions ++ (name.text, x) ∷ [] → is_some (meaning known.tables.functions name.text) ≡ false
      → AreAdded before (record { kind = OfFunction; name = name } ∷ []) (record { tables = record { types = known.tables.types; constructors = known.tables.constructors; functions = new }; laid = known.laid })
  function-added x new is h = record {
    all = before ++ record { kind = OfFunction; name = name } ∷ [];
    are_known = record {
      types = Knows-other OfType before _ known.tables.types a.types (λ q. refl);
      constructors = Knows-other OfConstructor before _ known.tables.constructors a.constructors (λ q. refl);
      functions = subst (Knows OfFunction (before ++ record { kind = OfFunction; name = name } ∷ [])) (sym is) (Knows-append OfFunction before _ known.tables.functions _ a.functions (λ q. one-name q name.text x));
      laid = Knows-other OfLayout before _ known.laid a.laid (λ q. refl);
    };
    are_new = λ rest. new-first before (record { kind = OfFunction; name = name }) rest (sym (a.functions name.text) ∙ h);
  }

  pub layout-added : (x : ℕ) (new : Table ℕ) → new ≡ known.laid ++ (name.text, x) ∷ [] → is_some (meaning known.laid name.text) ≡ false
      → AreAdded before (record { kind = OfLayout; name = name } ∷ []) (record { tables = known.tables; laid = new })
  layout-added x new is h = record {
    all = before ++ record { kind = OfLayout; name = name } ∷ [];
    are_known = record {
      types = Knows-other OfType before _ known.tables.types a.types (λ q. refl);
      constructors = Knows-other OfConstructor before _ known.tables.constructors a.constructors (λ q. refl);
      functions = Knows-other OfFunction before _ known.tables.functions a.functions (λ q. refl);
      laid = subst (Knows OfLayout (before ++ record { kind = OfLayout; name = name } ∷ [])) (sym is) (Knows-append OfLayout before _ known.laid _ a.laid (λ q. one-name q name.text x));
    };
    are_new = λ rest. new-first before (record { kind = OfLayout; name = name }) rest (sym (a.laid name.text) ∙ h);
  }

-- no definition
pub none-added : (before : List Definition) (known : Defining) → AreKnown before known → AreAdded before [] known
none-added before known a = record { all = before; are_known = a; are_new = λ rest. refl }

-- nothing is refused but for memory
not-refused : (fault : NameFault) (gives : Resolved (Unit {0})) → AnswersNumbering {A = Unit {0}} (Err fault) (Ok tt) → AnswersNumbering {A = Unit {0}} (Err fault) gives
not-refused Memory gives h = tt
not-refused (Twice name at) gives h = cc
not-refused (Unknown name at) gives h = cc
not-refused NoMain gives h = cc

-- a definition that is made again
module _ {A : Type 0} (k : TableKind) (before : List Definition) (table : Table A) (a : Knows k before table) (name : NameTree) (fault : NameFault) where
  pub made-again : AnswersNumbering {A = Unit {0}} (Err fault) (no_twice (repeated_name (is_some (meaning table name.text)) name)) → IsAgain before (record { kind = k; name = name } ∷ []) fault
  made-again h rest = by (is_some (meaning table name.text)) refl h
    where
      by : (b : Bool) → is_some (meaning table name.text) ≡ b → AnswersNumbering {A = Unit {0}} (Err fault) (no_twice (repeated_name b name))
          → AnswersNumbering {A = Unit {0}} (Err fault) (no_twice (first_again before (record { kind = k; name = name } ∷ rest)))
      by true e h = subst (λ (o : Option NameTree). AnswersNumbering {A = Unit {0}} (Err fault) (no_twice o)) (sym (again-first before (record { kind = k; name = name }) rest (sym (a name.text) ∙ e))) h
      by false e h = not-refused fault _ h
