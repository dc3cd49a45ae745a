use Rattle.std.proofs.Common.{◌≡◌, List, drop}
use Rattle.std.specs.List.{flat_map}
use Rattle.rb_names.specs.Definitions.{Definition, defined_twice, definitions, first_again, tables_of, type_names}
use Rattle.rb_names.specs.inner.Defining.{AreKnown, with_rest}
use Rattle.rb_names.proofs.tables.define_items.Given as goal

-- the items before are gone through
abbrev pub invariant-loop-item : goal.invariant-loop-item
invariant-loop-item l = record {
  tables : with_rest l.known.tables (drop l.item-index l.items) ≡ tables_of l.items;
  twice : (gone : List Definition) × AreKnown gone l.known
      × (first_again gone (flat_map (definitions (type_names l.items)) (drop l.item-index l.items)) ≡ defined_twice l.items);
}
