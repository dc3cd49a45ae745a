-- The program of a file that was read is well numbered.
use Rattle.std.proofs.Common.{◌≡◌, ℕ, ◌^◌, ◌<◌, ◌≤◌, List, [], ◌∷◌, map, length, true, nat_lt, nat_le, Option, Some, None, Ok, Err, IfOk, refl, sym, ap, subst, arith}
use Rattle.std.proofs.lemmas.Bool.{and_from, and_parts}
use Rattle.std.proofs.lemmas.Grind.{common_steps}
use Rattle.std.specs.Prelude.{codes}
use Rattle.std.specs.List.{list_all}
use Rattle.rb_core.specs.declared.types.ConRef.{ConRef}
use Rattle.rb_core.specs.declared.types.DataDecl.{DataDecl}
use Rattle.rb_core.specs.declared.program.Program.{Program}
use Rattle.rb_core.specs.WellNumbered.{is_constructor, layout_is_numbered, IsWellNumbered}
use Rattle.rb_syntax.specs.declared.token.Token.{Token}
use Rattle.rb_syntax.specs.declared.tree.NameTree.{NameTree}
use Rattle.rb_syntax.specs.declared.tree.ItemTree.{ItemTree}
use Rattle.rb_syntax.specs.declared.tree.ItemTree.TheVariants as top
use Rattle.rb_syntax.specs.declared.tree.FileTree.{FileTree}
use Rattle.rb_syntax.specs.Written.{Written, tokens_in, each}
use Rattle.rb_syntax.specs.Spelling.{item_written}
use Rattle.rb_names.specs.declared.tables.Tables.{Tables}
use Rattle.rb_names.specs.declared.items.Items.{Items}
use Rattle.rb_names.specs.Answers.{AnswersNumbering}
use Rattle.rb_names.specs.Tables.{Name, meaning}
use Rattle.rb_names.specs.Definitions.{tables_of, defined_twice}
use Rattle.rb_names.specs.Numbering.{Resolved, name_found, numbered_data, numbered_layout, numbered_function}
use Rattle.rb_names.specs.Programs.{numbered_items, no_twice, main_number, program_of}
use Rattle.rb_names.specs.Written.{AreNamed, IsReadFile, item_is_counted}
use Rattle.rb_names.proofs.Rising.{rise-distinct, Right, place}
use Rattle.rb_names.proofs.Inverting.{then-ok, ok-is}
use Rattle.rb_names.proofs.WellNames as names
use Rattle.rb_names.proofs.WellData as kinds
use Rattle.rb_names.proofs.WellLayouts.{LayoutWell, layout-well}
use Rattle.rb_names.proofs.WellItems.{right-behind, FunctionsWell, functions-well}

module _ (total : ℕ) (small : total < 2 ^ 32) (types : List DataDecl) (t : Tables)
    (known_type : (name : Name) (n : ℕ) → meaning t.types name ≡ Some n → nat_lt n (length types) ≡ true)
    (known_con : (name : Name) (c : ConRef) → meaning t.constructors name ≡ Some c → is_constructor types c ≡ true) where
  layouts-well : (items : List ItemTree) (rest : List Written) → Right total (each (map item_written items) rest)
      → list_all item_is_counted items ≡ true → (all : Items) → numbered_items t items ≡ Ok all → list_all (layout_is_numbered types) all.layouts ≡ true
  layouts-well [] rest r c all e = subst (λ (q : Items). list_all (layout_is_numbered types) q.layouts ≡ true) (ok-is _ all e) refl
  layouts-well (top.Types d ∷ items) rest r c all e =
      let ws : List Written = each (map item_written items) rest in
      let a = then-ok (numbered_data t d) _ all e in
      let b = then-ok (numbered_items t items) _ all a.2 in
      subst (λ (q : Items). list_all (layout_is_numbered types) q.layouts ≡ true) (ok-is _ all b.2)
      (layouts-well items rest (right-behind total (top.Types d) ws r) (and_parts (item_is_counted (top.Types d)) _ c).1 b.0 b.1)
  layouts-well (top.Layouts l ∷ items) rest r c all e =
      let ws : List Written = each (map item_written items) rest in
      let a = then-ok (numbered_layout t l) _ all e in
      let b = then-ok (numbered_items t items) _ all a.2 in
      let few : length l.shape ≤ 8 = let h : nat_le (length l.shape) 8 ≡ true = (and_parts (item_is_counted (top.Layouts l)) _ c).0 in grind (arith, common_steps, h) in
      let g : LayoutWell total small types t known_con known_type l ws = layout-well total small types t known_con known_type l ws few r in
      subst (λ (q : Items). list_all (layout_is_numbered types) q.layouts ≡ true) (ok-is _ all b.2)
      (and_from _ _ (g.well a.0 a.1) (layouts-well items rest (right-behind total (top.Layouts l) ws r) (and_parts (item_is_counted (top.Layouts l)) _ c).1 b.0 b.1))
  layouts-well (top.Funs f ∷ items) rest r c all e =
      let ws : List Written = each (map item_written items) rest in
      let a = then-ok (numbered_function t f) _ all e in
      let b = then-ok (numbered_items t items) _ all a.2 in
      subst (λ (q : Items). list_all (layout_is_numbered types) q.layouts ≡ true) (ok-is _ all b.2)
      (layouts-well items rest (right-behind total (top.Funs f) ws r) (and_parts (item_is_counted (top.Funs f)) _ c).1 b.0 b.1)
  layouts-well (top.Derived name k ∷ items) rest r c all e =
      let ws : List Written = each (map item_written items) rest in
      let a = then-ok (name_found name (meaning t.types name.text)) _ all e in
      layouts-well items rest (right-behind total (top.Derived name k) ws r) (and_parts (item_is_counted (top.Derived name k)) _ c).1 all a.2

pub once-ok : (o : Option NameTree) (u : Unit {0}) → no_twice o ≡ Ok u → o ≡ None
once-ok None u e = refl
once-ok (Some name) u e = absurd cc

pub well-numbered : (ts : List Token) (file : FileTree) (p : Program) → IsReadFile ts file → program_of file ≡ Ok p → IsWellNumbered p
well-numbered ts file p w e =
    let items : List ItemTree = file.items in
    let t : Tables = tables_of items in
    let total : ℕ = length ts in
    let ws : List Written = each (map item_written items) [] in
    let a = then-ok (no_twice (defined_twice items)) _ p e in
    let b = then-ok (numbered_items t items) _ p a.2 in
    let c = then-ok (main_number (meaning t.functions (codes "main"))) _ p b.2 in
    let once : defined_twice items ≡ None = once-ok (defined_twice items) a.0 a.1 in
    let all : Items = b.0 in
    let found : numbered_items t items ≡ Ok all = b.1 in
    let fits : length (tokens_in ws) ≤ total = let h : length (tokens_in ws) ≡ length ts = ap length w.tree.spells in omega (arith, h) in
    let right : Right total ws = record { formed = w.tree.formed; numbers = w.tree.numbered; fits = fits } in
    let named : AreNamed (tokens_in ws) = subst AreNamed (sym w.tree.spells) w.named in
    let known_type = names.known_type items all found in
    let known_con = names.known_con items all found in
    let known_fun = names.known_fun items all found in
    let fs : FunctionsWell total w.short all.types all.functions t known_type known_con known_fun (place total ws) (place total []) all.functions =
    functions-well total w.short all.types all.functions t known_type known_con known_fun items [] right named w.counted.each all found in
    subst IsWellNumbered (ok-is _ p c.2) (record {
      main = names.main-below items all found c.0 c.1;
      types = kinds.types-numbered items all found w.counted total right named;
      layouts = layouts-well total w.short all.types t known_type known_con items [] right w.counted.each all found;
      functions = fs.numbered;
      type_count = kinds.type-count items all found w.counted;
      function_count = kinds.function-count items all found w.counted;
      type_names = names.distinct-types items all found once;
      con_names = names.distinct-constructors items all found once;
      function_names = names.distinct-functions items all found once;
      layout_types = names.distinct-layouts items all found once;
      match_tokens = rise-distinct _ _ _ fs.rises;
    })

-- so is the program that a call answers
pub answer-well : (result : Resolved Program) (file : FileTree) → AnswersNumbering result (program_of file) → (ts : List Token) → IsReadFile ts file → IfOk result IsWellNumbered
answer-well (Ok p) file a ts w = well-numbered ts file p w a
answer-well (Err fault) file a ts w = tt
