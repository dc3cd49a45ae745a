-- What represents a value goes on representing it in a memory with more.
use Rattle.std.proofs.Common.{ℕ, List, [], ◌∷◌, Bool, Option, Some, None}
use Rattle.rb_core.specs.declared.value.Value.{Value}
use Rattle.rb_core.specs.declared.types.Ty.{Ty}
use Rattle.rb_core.specs.declared.types.DataDecl.{DataDecl}
use Rattle.rb_bytes.specs.Memory.{Memory}
use Rattle.rb_bytes.specs.Laws.{Extends}
use Rattle.rb_bytes.proofs.MemoryLemmas.{load_extends, size_at_extends}
use Rattle.rb_layout.specs.declared.layout.Leaf.{Leaf}
use Rattle.rb_layout.specs.declared.layout.FlatWord.{FlatWord}
use Rattle.rb_layout.specs.declared.layout.Layout.{Layout}
use Rattle.rb_layout.specs.Words.{begins_at}
use Rattle.rb_rel.specs.Relation.{IsFound, LeafStands, Made, Represents, number, built, Represent}
use Rattle.rb_rel.proofs.Elsewhere.{made_elsewhere}

module _ (m m' : Memory) (g : Extends m m') where
  found_kept : (b : Option ℕ) (fs : List FlatWord) (f : FlatWord) (j : ℕ) (ws : List ℕ) (ats : ℕ → ℕ) (w : ℕ) → IsFound b fs f j ws ats m w → IsFound b fs f j ws ats m' w
  found_kept None fs f j ws ats w e = e
  found_kept (Some b) fs f j ws ats w e = load_extends m m' (ats b) (begins_at fs j) f.width w g e

  pub Placed-kept : (leaf : Leaf) (ws : List ℕ) (clean : Bool) (subs : List ℕ → List ℕ) (ats : ℕ → ℕ) → LeafStands leaf ws m clean subs ats → LeafStands leaf ws m' clean subs ats
  Placed-kept leaf ws clean subs ats p = record {
    count = p.count;
    blocks = λ b block is. size_at_extends m m' _ _ g (p.blocks b block is);
    words = λ r f is. let h = p.words r f is in (h.0, found_kept r.block _ f r.word ws ats h.0 h.1, h.2);
  }

  module _ (types : List DataDecl) (layouts : List Layout) (clean : Bool) where
    abbrev pub Made-kept : (t : ℕ) (v : Value) (ws : List ℕ) → Made types layouts m clean t v ws → Made types layouts m' clean t v ws
    Made-kept t v ws b = made_elsewhere types layouts m m' clean clean t v ws b (Placed-kept b.leaf ws clean b.subs b.ats b.placed)

    pub Represents-kept : {ty : Ty} {v : Value} {ws : List ℕ} → Represents types layouts m clean ty v ws → Represents types layouts m' clean ty v ws
    Represents-kept (number bits x lt) = number bits x lt
    Represents-kept (built t v ws b below) = built t v ws (Made-kept t v ws b) (λ k o e. Represents-kept (below k o e))

    pub Represent-kept : (ts : List Ty) (vs : List Value) (ws : List ℕ) → Represent types layouts m clean ts vs ws → Represent types layouts m' clean ts vs ws
    Represent-kept [] [] ws r = r
    Represent-kept [] (v ∷ vs) ws r = absurd r
    Represent-kept (t ∷ ts) [] ws r = absurd r
    Represent-kept (t ∷ ts) (v ∷ vs) ws r = (r.0, r.1, r.2, Represents-kept r.3, Represent-kept ts vs r.1 r.4)
