-- A clean representation is a representation.
use Rattle.std.proofs.Common.{ℕ, List, true, false}
use Rattle.rb_core.specs.declared.value.Value.{Value}
use Rattle.rb_core.specs.declared.types.Ty.{Ty}
use Rattle.rb_core.specs.declared.types.DataDecl.{DataDecl}
use Rattle.rb_bytes.specs.Memory.{Memory}
use Rattle.rb_layout.specs.declared.layout.Leaf.{Leaf}
use Rattle.rb_layout.specs.declared.layout.Layout.{Layout}
use Rattle.rb_rel.specs.Relation.{LeafStands, Made, Represents, number, built}
use Rattle.rb_rel.proofs.Elsewhere.{made_elsewhere}

module _ (types : List DataDecl) (layouts : List Layout) (m : Memory) where
  Placed-clean : (leaf : Leaf) (ws : List ℕ) (subs : List ℕ → List ℕ) (ats : ℕ → ℕ) → LeafStands leaf ws m true subs ats → LeafStands leaf ws m false subs ats
  Placed-clean leaf ws subs ats p = record {
    count = p.count;
    blocks = p.blocks;
    words = λ r f is. let h = p.words r f is in (h.0, h.1, record { fits = h.2.fits; parts = h.2.parts; free = λ e. absurd cc });
  }

  abbrev Made-clean : (t : ℕ) (v : Value) (ws : List ℕ) → Made types layouts m true t v ws → Made types layouts m false t v ws
  Made-clean t v ws b = made_elsewhere types layouts m m true false t v ws b (Placed-clean b.leaf ws b.subs b.ats b.placed)

  pub Represents-clean : {ty : Ty} {v : Value} {ws : List ℕ} → Represents types layouts m true ty v ws → Represents types layouts m false ty v ws
  Represents-clean (number bits x lt) = number bits x lt
  Represents-clean (built t v ws b below) = built t v ws (Made-clean t v ws b) (λ k o e. Represents-clean (below k o e))
