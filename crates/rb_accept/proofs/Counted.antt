-- A file without a count over its limit has no more of anything than the limits allow.
use Rattle.std.proofs.Common.{◌≡◌, List, [], ◌∷◌, ◌++◌, map, length, Bool, true, false, ◌&&◌, nat_le, Some, None, find, if◌then◌else◌, refl, sym, ap, ◌∙◌, ltb-false, le-leb}
use Rattle.std.specs.List.{list_all, flat_map}
use Rattle.std.proofs.lemmas.Bool.{and_parts}
use Rattle.rb_names.specs.Definitions as names
use Rattle.rb_names.specs.Written.{AreCounted, con_is_counted, type_is_counted, item_is_counted}
use Rattle.rb_read.specs.declared.limits.Count.{Count}
use Rattle.rb_read.specs.Limits.{count_of, field_count, limit_of, is_over, type_counts, item_counts, types_in, functions_in, counts}
use Rattle.rb_read.specs.declared.fault.Quantity.TheVariants.{Functions}
use Rattle.rb_syntax.specs.declared.tree.ConTree.{ConTree}
use Rattle.rb_syntax.specs.declared.tree.TypeTree.{TypeTree}
use Rattle.rb_syntax.specs.declared.tree.ItemTree.{ItemTree}
use Rattle.rb_syntax.specs.declared.tree.ItemTree.TheVariants as top
use Rattle.rb_accept.proofs.Named.{and_both}

abbrev within : Count → Bool
within c = nat_le c.count (limit_of c.quantity)

not_over : (c : Count) → is_over c ≡ false → within c ≡ true
not_over c e = le-leb _ _ (ltb-false _ _ e)

none_over : (cs : List Count) → find is_over cs ≡ None → list_all within cs ≡ true
none_over [] e = refl
none_over (c ∷ cs) e =
    let P : Bool → Type 0 = λ b. is_over c ≡ b → (if b then Some c else find is_over cs) ≡ None → (within c && list_all within cs) ≡ true in
    (elim (is_over c) as P [
      | true ↦ λ is f. absurd cc
      | false ↦ λ is f. and_both (within c) (list_all within cs) (not_over c is) (none_over cs f)
    ]) refl e

all-split : (cs ds : List Count) → list_all within (cs ++ ds) ≡ true → (list_all within cs ≡ true) × (list_all within ds ≡ true)
all-split [] ds e = (refl, e)
all-split (c ∷ cs) ds e =
    let h = and_parts (within c) (list_all within (cs ++ ds)) e in
    let r = all-split cs ds h.1 in
    (and_both (within c) (list_all within cs) h.0 r.0, r.1)

fields : (cs : List ConTree) → list_all within (map field_count cs) ≡ true → list_all con_is_counted cs ≡ true
fields [] e = refl
fields (c ∷ cs) e =
    let h = and_parts (con_is_counted c) (list_all within (map field_count cs)) e in
    and_both (con_is_counted c) (list_all con_is_counted cs) h.0 (fields cs h.1)

of_type : (t : TypeTree) → list_all within (type_counts t) ≡ true → type_is_counted t ≡ true
of_type t e =
    let h = and_parts (nat_le (length t.cons) 256) (list_all within (map field_count t.cons)) e in
    and_both (nat_le (length t.cons) 256) (list_all con_is_counted t.cons) h.0 (fields t.cons h.1)

of_item : (i : ItemTree) → list_all within (item_counts i) ≡ true → item_is_counted i ≡ true
of_item (top.Types t) e = of_type t e
of_item (top.Layouts l) e = (and_parts (nat_le (length l.shape) 8) true e).0
of_item (top.Funs f) e = (and_parts (nat_le (length f.params) 32) true e).0
of_item (top.Derived name a) e = refl

of_items : (is : List ItemTree) → list_all within (flat_map item_counts is) ≡ true → list_all item_is_counted is ≡ true
of_items [] e = refl
of_items (i ∷ is) e =
    let h = all-split (item_counts i) (flat_map item_counts is) e in
    and_both (item_is_counted i) (list_all item_is_counted is) (of_item i h.0) (of_items is h.1)

same_types : (is : List ItemTree) → types_in is ≡ names.types_in is
same_types [] = refl
same_types (top.Types t ∷ is) = ap (λ ts. t ∷ ts) (same_types is)
same_types (top.Layouts l ∷ is) = same_types is
same_types (top.Funs f ∷ is) = same_types is
same_types (top.Derived name a ∷ is) = same_types is

same_functions : (is : List ItemTree) → functions_in is ≡ names.functions_in is
same_functions [] = refl
same_functions (top.Types t ∷ is) = same_functions is
same_functions (top.Layouts l ∷ is) = same_functions is
same_functions (top.Funs f ∷ is) = ap (λ fs. f ∷ fs) (same_functions is)
same_functions (top.Derived name a ∷ is) = same_functions is

pub are_counted : (is : List ItemTree) → find is_over (counts is) ≡ None → AreCounted is
are_counted is e =
    let all = none_over (counts is) e in
    let t = and_parts (nat_le (length (types_in is)) 1000) (list_all within (count_of Functions (length (functions_in is)) ∷ flat_map item_counts is)) all in
    let f = and_parts (nat_le (length (functions_in is)) 10000) (list_all within (flat_map item_counts is)) t.1 in
    record {
      types = ap (λ ts. nat_le (length ts) 1000) (sym (same_types is)) ∙ t.0;
      functions = ap (λ fs. nat_le (length fs) 10000) (sym (same_functions is)) ∙ f.0;
      each = of_items is f.1;
    }
