-- What makes a value in one memory makes it in another one, where its words and blocks are placed there, too.
use Rattle.std.specs.Prelude.{ℕ, List, Bool}
use Rattle.rb_core.specs.declared.value.Value.{Value}
use Rattle.rb_core.specs.declared.types.DataDecl.{DataDecl}
use Rattle.rb_bytes.specs.Memory.{Memory}
use Rattle.rb_layout.specs.declared.layout.Layout.{Layout}
use Rattle.rb_rel.specs.Relation.{Made, LeafStands}

module _ (types : List DataDecl) (layouts : List Layout) (m m' : Memory) (clean clean' : Bool) where
  abbrev pub made_elsewhere : (t : ℕ) (v : Value) (ws : List ℕ) (b : Made types layouts m clean t v ws)
      → LeafStands b.leaf ws m' clean' b.subs b.ats → Made types layouts m' clean' t v ws
  made_elsewhere t v ws b placed = record {
    layout = b.layout;
    number = b.number;
    leaf = b.leaf;
    is_layout = b.is_layout;
    is_leaf = b.is_leaf;
    is_number = b.is_number;
    shaped = b.shaped;
    subs = b.subs;
    ats = b.ats;
    at = b.at;
    is_at = b.is_at;
    placed = placed;
  }
