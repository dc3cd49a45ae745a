-- What represents a value in the memory of an image represents it in each memory in which the image's blocks stand.
use Rattle.std.proofs.Common.{◌≡◌, ℕ, List, Bool, Option, Some, None}
use Rattle.rb_core.specs.declared.value.Value.{Value}
use Rattle.rb_core.specs.declared.types.Ty.{Ty}
use Rattle.rb_core.specs.declared.types.DataDecl.{DataDecl}
use Rattle.rb_bytes.specs.Memory.{Memory, size_at}
use Rattle.rb_bytes.specs.Laws.{KeepsLoads}
use Rattle.rb_layout.specs.declared.layout.Leaf.{Leaf}
use Rattle.rb_layout.specs.declared.layout.FlatWord.{FlatWord}
use Rattle.rb_layout.specs.declared.layout.Layout.{Layout}
use Rattle.rb_layout.specs.Words.{begins_at}
use Rattle.rb_rel.specs.Relation.{IsFound, LeafStands, Made, Represents, number, built}
use Rattle.rb_image_text.specs.declared.image.ImageBlock.{ImageBlock}
use Rattle.rb_image_text.specs.Images.{AreImageBlocks}
use Rattle.rb_image_text.specs.Places.{AreInPlace}
use Rattle.rb_image.specs.Memories.{Stand, image_memory}
use Rattle.rb_image.proofs.StandLemmas.{load_kept, size_kept}

-- each block of the one memory is one of the other, of the same size, and what is loaded in the one is loaded in the other
pub record KeepsAccesses (m m' : Memory) : Type 0 where
  pub sizes : (base size : ℕ) → size_at m.blocks base ≡ Some size → size_at m'.blocks base ≡ Some size
  pub loads : KeepsLoads m m'

module _ (m m' : Memory) (k : KeepsAccesses m m') where
  found_keeps : (b : Option ℕ) (fs : List FlatWord) (f : FlatWord) (j : ℕ) (ws : List ℕ) (ats : ℕ → ℕ) (w : ℕ) → IsFound b fs f j ws ats m w → IsFound b fs f j ws ats m' w
  found_keeps None fs f j ws ats w e = e
  found_keeps (Some b) fs f j ws ats w e = k.loads (ats b) (begins_at fs j) f.width w e

  placed_keeps : (leaf : Leaf) (ws : List ℕ) (clean : Bool) (subs : List ℕ → List ℕ) (ats : ℕ → ℕ) → LeafStands leaf ws m clean subs ats → LeafStands leaf ws m' clean subs ats
  placed_keeps leaf ws clean subs ats p = record {
    count = p.count;
    blocks = λ b block is. k.sizes _ _ (p.blocks b block is);
    words = λ r f is. let h = p.words r f is in (h.0, found_keeps r.block _ f r.word ws ats h.0 h.1, h.2);
  }

  module _ (types : List DataDecl) (layouts : List Layout) (clean : Bool) where
    abbrev made_keeps : (t : ℕ) (v : Value) (ws : List ℕ) → Made types layouts m clean t v ws → Made types layouts m' clean t v ws
    made_keeps t v ws b = record {
      layout = b.layout;
      number = b.number;
      leaf = b.leaf;
      is_layout = b.is_layout;
      is_leaf = b.is_leaf;
      is_number = b.is_number;
      shaped = b.shaped;
      subs = b.subs;
      ats = b.ats;
      at = b.at;
      is_at = b.is_at;
      placed = placed_keeps b.leaf ws clean b.subs b.ats b.placed;
    }

    pub Represents-keeps : {ty : Ty} {v : Value} {ws : List ℕ} → Represents types layouts m clean ty v ws → Represents types layouts m' clean ty v ws
    Represents-keeps (number bits x lt) = number bits x lt
    Represents-keeps (built t v ws b below) = built t v ws (made_keeps t v ws b) (λ k o e. Represents-keeps (below k o e))

pub stand_keeps : (blocks : List ImageBlock) (m : Memory) → AreInPlace blocks → AreImageBlocks blocks → Stand blocks m → KeepsAccesses (image_memory blocks) m
stand_keeps blocks m placed are stand = record {
  sizes = size_kept blocks m stand;
  loads = load_kept blocks m placed are stand;
}

pub Represents-stand : (types : List DataDecl) (layouts : List Layout) (clean : Bool) (blocks : List ImageBlock) (m : Memory) → AreInPlace blocks → AreImageBlocks blocks → Stand blocks m
    → {ty : Ty} {v : Value} {ws : List ℕ} → Represents types layouts (image_memory blocks) clean ty v ws → Represents types layouts m clean ty v ws
Represents-stand types layouts clean blocks m placed are stand r =
    Represents-keeps (image_memory blocks) m (stand_keeps blocks m placed are stand) types layouts clean r
