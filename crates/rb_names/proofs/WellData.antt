-- The types of a file that was read are well numbered.
use Rattle.std.proofs.Common.{◌≡◌, ℕ, ◌<◌, List, [], ◌∷◌, map, length, true, nat_lt, nat_le, Some, Ok, refl, ◌∙◌, ap, arith}
use Rattle.std.proofs.lemmas.Bool.{and_parts, and_from}
use Rattle.std.proofs.lemmas.Grind.{common_steps}
use Rattle.std.specs.List.{list_all}
use Rattle.rb_core.specs.declared.types.Ty.{Ty}
use Rattle.rb_core.specs.declared.types.Con.{Con}
use Rattle.rb_core.specs.declared.types.DataDecl.{DataDecl}
use Rattle.rb_core.specs.WellNumbered.{is_between, is_upper, is_type, con_is_numbered, type_is_numbered}
use Rattle.rb_syntax.specs.declared.token.Token.{Token}
use Rattle.rb_syntax.specs.declared.token.Token.TheVariants as tok
use Rattle.rb_syntax.specs.declared.token.Symbol.TheVariants as symbol
use Rattle.rb_syntax.specs.declared.tree.TyTree.{TyTree}
use Rattle.rb_syntax.specs.declared.tree.ConTree.{ConTree}
use Rattle.rb_syntax.specs.declared.tree.TypeTree.{TypeTree}
use Rattle.rb_syntax.specs.declared.tree.ItemTree.{ItemTree}
use Rattle.rb_syntax.specs.declared.tree.ItemTree.TheVariants as top
use Rattle.rb_syntax.specs.Written.{Written, token, number, node, flaw, tokens_in, each, each_behind, some_with}
use Rattle.rb_syntax.specs.Spelling.{ty_written, fields_written, con_written, type_written, item_written}
use Rattle.rb_names.specs.declared.tables.Tables.{Tables}
use Rattle.rb_names.specs.declared.items.Items.{Items}
use Rattle.rb_names.specs.Tables.{Name, meaning}
use Rattle.rb_names.specs.Definitions.{types_in, functions_in, tables_of}
use Rattle.rb_names.specs.Numbering.{all_of, numbered_type, numbered_constructor, numbered_data, numbered_function}
use Rattle.rb_names.specs.Programs.{numbered_items}
use Rattle.rb_names.specs.Written.{AreNamed, con_is_counted, type_is_counted, item_is_counted, AreCounted}
use Rattle.rb_names.proofs.Rising.{Right}
use Rattle.rb_names.proofs.Inverting.{then-ok, ok-is}
use Rattle.rb_names.proofs.Dropping.{con-drops, item-drops}
use Rattle.rb_names.proofs.WellNames.{all-cons, all-nil, all-length, items-types, items-functions, known_type}
use Rattle.rb_names.proofs.WellTypes.{TypeWell, type-well}

named-next : (x : Token) (ts : List Token) → AreNamed (x ∷ ts) → AreNamed ts
named-next (tok.Upper name) ts h = h.1
named-next (tok.Lower name) ts h = h.1
named-next (tok.Num n) ts h = h
named-next (tok.Reserved w) ts h = h
named-next (tok.Uint bits) ts h = h
named-next (tok.Symbol s) ts h = h

module _ (total : ℕ) where
  -- what is read from a place on: it is right, and its names are spelled as names are
  abbrev pub IsRead : List Written → Type 0
  IsRead ws = Right total ws × AreNamed (tokens_in ws)

  pub read-next : (w : Written) (ws : List Written) → IsRead (w ∷ ws) → IsRead ws
  read-next (token x) ws h = (record { formed = h.0.formed; numbers = h.0.numbers; fits = omega (arith, h.0.fits) }, named-next x (tokens_in ws) h.1)
  read-next (number at) ws h = (record { formed = h.0.formed; numbers = h.0.numbers.1; fits = h.0.fits }, h.1)
  read-next (node l) ws h = (record { formed = h.0.formed; numbers = h.0.numbers; fits = h.0.fits }, h.1)
  read-next flaw ws h = absurd h.0.formed

  -- what is read behind an item
  pub item-read : (x : ItemTree) (rest : List Written) → IsRead (item_written x rest) → IsRead rest
  item-read x rest h = item-drops IsRead read-next x rest h

  module _ (types : List DataDecl) (t : Tables)
      (known_type : (name : Name) (n : ℕ) → meaning t.types name ≡ Some n → nat_lt n (length types) ≡ true) where
    types-behind : (separator : Token) (xs : List TyTree) (rest : List Written) → Right total (each_behind separator (map ty_written xs) rest)
        → (us : List Ty) → all_of (map (numbered_type t) xs) ≡ Ok us → list_all (is_type types) us ≡ true
    types-behind separator [] rest r us e = rw (← all-nil (numbered_type t) us e) refl
    types-behind separator (x ∷ xs) rest r us e =
        let behind : List Written = each_behind separator (map ty_written xs) rest in
        let w : TypeWell total types t known_type x behind = type-well total types t known_type x behind (record { formed = r.formed; numbers = r.numbers; fits = omega (arith, r.fits) }) in
        let a = all-cons (numbered_type t) x xs us e in
        rw (← a.4) (and_from (is_type types a.0) (list_all (is_type types) a.1) (w.well a.0 a.2) (types-behind separator xs rest w.right a.1 a.3))

    fields-are : (xs : List TyTree) (rest : List Written) → Right total (fields_written (map ty_written xs) rest)
        → (us : List Ty) → all_of (map (numbered_type t) xs) ≡ Ok us → list_all (is_type types) us ≡ true
    fields-are [] rest r us e = rw (← all-nil (numbered_type t) us e) refl
    fields-are (x ∷ xs) rest r us e =
        types-behind (tok.Symbol symbol.Comma) (x ∷ xs) (token (tok.Symbol symbol.CloseParen) ∷ rest) (record { formed = r.formed; numbers = r.numbers; fits = r.fits }) us e

    con-well : (c : ConTree) (rest : List Written) → IsRead (con_written c rest) → con_is_counted c ≡ true
        → (k : Con) → numbered_constructor t c ≡ Ok k → con_is_numbered types k ≡ true
    con-well c rest h counted k e =
        let a = then-ok (all_of (map (numbered_type t) c.fields)) _ k e in
        let long : length a.0 ≡ length c.fields = all-length (numbered_type t) c.fields a.0 a.1 in
        let fields : list_all (is_type types) a.0 ≡ true =
        fields-are c.fields rest (record { formed = h.0.formed; numbers = h.0.numbers.1; fits = omega (arith, h.0.fits) }) a.0 a.1 in
        rw (← ok-is _ k a.2) (and_from (is_upper c.name.text) _ h.1.0 (and_from (nat_le (length a.0) 32) _ (ap (λ n. nat_le n 32) long ∙ counted) fields))

    cons-behind : (separator : Token) (cs : List ConTree) (rest : List Written) → IsRead (each_behind separator (map con_written cs) rest) → list_all con_is_counted cs ≡ true
        → (ks : List Con) → all_of (map (numbered_constructor t) cs) ≡ Ok ks → list_all (con_is_numbered types) ks ≡ true
    cons-behind separator [] rest h counted ks e = rw (← all-nil (numbered_constructor t) ks e) refl
    cons-behind separator (c ∷ cs) rest h counted ks e =
        let behind : List Written = each_behind separator (map con_written cs) rest in
        let here : IsRead (con_written c behind) = read-next (token separator) (con_written c behind) h in
        let n = and_parts (con_is_counted c) (list_all con_is_counted cs) counted in
        let a = all-cons (numbered_constructor t) c cs ks e in
        rw (← a.4) (and_from (con_is_numbered types a.0) (list_all (con_is_numbered types) a.1) (con-well c behind here n.0 a.0 a.2)
        (cons-behind separator cs rest (con-drops IsRead read-next c behind here) n.1 a.1 a.3))

    cons-are : (separator : Token) (cs : List ConTree) (rest : List Written) → IsRead (some_with separator (map con_written cs) rest) → list_all con_is_counted cs ≡ true
        → (ks : List Con) → all_of (map (numbered_constructor t) cs) ≡ Ok ks → (0 < length cs) × (list_all (con_is_numbered types) ks ≡ true)
    cons-are separator [] rest h counted ks e = absurd h.0.formed
    cons-are separator (c ∷ cs) rest h counted ks e =
        let behind : List Written = each_behind separator (map con_written cs) rest in
        let n = and_parts (con_is_counted c) (list_all con_is_counted cs) counted in
        let a = all-cons (numbered_constructor t) c cs ks e in (
          omega arith,
          rw (← a.4) (and_from (con_is_numbered types a.0) (list_all (con_is_numbered types) a.1) (con-well c behind h n.0 a.0 a.2)
              (cons-behind separator cs rest (con-drops IsRead read-next c behind h) n.1 a.1 a.3)),
        )

    count-between : (n m : ℕ) → n ≡ m → 0 < m → nat_le m 256 ≡ true → is_between 1 256 n ≡ true
    count-between n m e l u = grind (arith, common_steps, e, l, u)

    -- a type that is numbered
    pub data-well : (d : TypeTree) (rest : List Written) → IsRead (type_written d rest) → type_is_counted d ≡ true
        → (x : DataDecl) → numbered_data t d ≡ Ok x → type_is_numbered types x ≡ true
    data-well d rest h counted x e =
        let n = and_parts (nat_le (length d.cons) 256) (list_all con_is_counted d.cons) counted in
        let a = then-ok (all_of (map (numbered_constructor t) d.cons)) _ x e in
        let long : length a.0 ≡ length d.cons = all-length (numbered_constructor t) d.cons a.0 a.1 in
        let behind : List Written = some_with (tok.Symbol symbol.Bar) (map con_written d.cons) (token (tok.Symbol symbol.Semicolon) ∷ rest) in
        let here : IsRead behind = read-next _ _ (read-next _ _ (read-next _ _ (read-next _ _ h))) in
        let c = cons-are (tok.Symbol symbol.Bar) d.cons (token (tok.Symbol symbol.Semicolon) ∷ rest) here n.1 a.0 a.1 in
        rw (← ok-is _ x a.2) (and_from (is_upper d.name.text) _ h.1.0 (and_from (is_between 1 256 (length a.0)) _ (count-between _ _ long c.0 n.0) c.1))

    pub data-all : (items : List ItemTree) → IsRead (each (map item_written items) []) → list_all item_is_counted items ≡ true
        → (ds : List DataDecl) → all_of (map (numbered_data t) (types_in items)) ≡ Ok ds → list_all (type_is_numbered types) ds ≡ true
    data-all [] h counted ds e = rw (← all-nil (numbered_data t) ds e) refl
    data-all (top.Types d ∷ items) h counted ds e =
        let n = and_parts (type_is_counted d) (list_all item_is_counted items) counted in
        let rest : List Written = each (map item_written items) [] in
        let a = all-cons (numbered_data t) d (types_in items) ds e in
        rw (← a.4) (and_from (type_is_numbered types a.0) (list_all (type_is_numbered types) a.1) (data-well d rest h n.0 a.0 a.2) (data-all items (item-read (top.Types d) rest h) n.1 a.1 a.3))
    data-all (top.Layouts l ∷ items) h counted ds e =
        data-all items (item-read (top.Layouts l) (each (map item_written items) []) h) (and_parts (item_is_counted (top.Layouts l)) (list_all item_is_counted items) counted).1 ds e
    data-all (top.Funs f ∷ items) h counted ds e =
        data-all items (item-read (top.Funs f) (each (map item_written items) []) h) (and_parts (item_is_counted (top.Funs f)) (list_all item_is_counted items) counted).1 ds e
    data-all (top.Derived name a ∷ items) h counted ds e =
        data-all items (item-read (top.Derived name a) (each (map item_written items) []) h) (and_parts (item_is_counted (top.Derived name a)) (list_all item_is_counted items) counted).1 ds e

-- The types of a file that was read, whose items are numbered.
module _ (items : List ItemTree) (all : Items) (found : numbered_items (tables_of items) items ≡ Ok all) (counted : AreCounted items) where
  pub types-numbered : (total : ℕ) → Right total (each (map item_written items) []) → AreNamed (tokens_in (each (map item_written items) []))
      → list_all (type_is_numbered all.types) all.types ≡ true
  types-numbered total right named =
      data-all total all.types (tables_of items) (known_type items all found) items (right, named) counted.each all.types (items-types (tables_of items) items all found)

  pub type-count : nat_le (length all.types) 1000 ≡ true
  type-count = ap (λ n. nat_le n 1000) (all-length (numbered_data (tables_of items)) (types_in items) all.types (items-types (tables_of items) items all found)) ∙ counted.types

  pub function-count : nat_le (length all.functions) 10000 ≡ true
  function-count = ap (λ n. nat_le n 10000) (all-length (numbered_function (tables_of items)) (functions_in items) all.functions (items-functions (tables_of items) items all found)) ∙ counted.functions
