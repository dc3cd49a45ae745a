-- Flat leaves unfolded, each computed, and one as it is written.
use Rattle.std.proofs.Common.{◌≡◌, ℕ, refl, List, [], ◌∷◌}
use Rattle.rb_core.specs.declared.types.Ty.TheVariants.{Int, Named}
use Rattle.rb_core.specs.declared.types.DataDecl.{DataDecl}
use Rattle.rb_core.specs.declared.pattern.Pat as Q
use Rattle.rb_core.specs.declared.layout_decl.LayItem as I
use Rattle.rb_core.specs.declared.layout_decl.PartKind.{PartKind}
use Rattle.rb_core.specs.declared.layout_decl.PartKind as K
use Rattle.rb_core.specs.declared.layout_decl.PartDecl.{PartDecl}
use Rattle.rb_core.specs.declared.layout_decl.LayTree as S
use Rattle.rb_core.specs.declared.layout_decl.LayoutDecl.{LayoutDecl}
use Rattle.rb_core.specs.Layouts.{WrittenLeaf}
use Rattle.rb_layout.specs.declared.layout.Leaf.{Leaf}
use Rattle.rb_layout.specs.declared.layout.Block.{Block}
use Rattle.rb_layout.specs.declared.layout.FlatWord.{FlatWord}
use Rattle.rb_layout.specs.declared.layout.Part.{Part}
use Rattle.rb_layout.specs.declared.layout.Kind.{Kind}
use Rattle.rb_layout.specs.declared.layout.Kind.TheVariants.{Const, Bits, Word, Pointer}
use Rattle.rb_layout.specs.Items.{Content, Number, Slice, WordOf, Address}
use Rattle.rb_layout.proofs.Computing.{flat_rules}
use Rattle.rb_unfold.specs.Unfolding.{Seen, Begins, Has, Opens, Closes, leaf_unfolding, leaf_written}
use Rattle.rb_unfold.proofs.Written.{written_rules}

abbrev part : ℕ → ℕ → Kind → Part
part o l kind = record { o = o; l = l; kind = kind }

abbrev word : List Part → FlatWord
word parts = record { width = 64; parts = parts }

abbrev block : List FlatWord → Block
block words = record { align = 8; words = words }

abbrev leaf : List FlatWord → List Block → Leaf
leaf words blocks = record { prov = Q.Wild 0; root = words; blocks = blocks }

abbrev has : ℕ → ℕ → Content → Seen
has o l content = Has (record { width = 64; o = o; l = l; holds = content })

-- 0 => Cons(_, _) : { word 64 { [0:1] = 0, [3:61] -> 8 { word 64 { [0:64] .0 }, inline .1 } } }
abbrev cons_seen : List Seen
cons_seen =
    Begins 64 ∷ has 0 1 (Number 0) ∷ has 3 61 (Address 8) ∷ Opens ∷ Begins 64 ∷ has 0 64 (Slice (0 ∷ []) 0 64)
    ∷ Begins 64 ∷ has 0 64 (WordOf (1 ∷ []) 0) ∷ Closes ∷ []

cons_is : leaf_unfolding (leaf (word (part 0 1 (Const 0) ∷ part 3 61 (Pointer 8 0) ∷ []) ∷ [])
    (block (word (part 0 64 (Bits (0 ∷ []) 0) ∷ []) ∷ word (part 0 64 (Word (1 ∷ []) 0) ∷ []) ∷ []) ∷ [])) ≡ cons_seen
cons_is = refl

-- type List = Nil | Cons(u64, List); a layout of one word
abbrev list : DataDecl
list = record { name = []; cons = record { name = []; fields = [] } ∷ record { name = []; fields = Int 64 ∷ Named 0 ∷ [] } ∷ [] }

abbrev one_word : LayoutDecl
one_word = record { at = 0; ty = 0; shape = 64 ∷ []; tree = S.Leaf 0 (Q.Wild 0) [] }

abbrev written : ℕ → ℕ → PartKind → PartDecl
written o l kind = record { o = o; l = l; kind = kind }

abbrev cons : WrittenLeaf
cons = record {
  provenance = Q.Con 0 (record { ty = 0; con = 1 }) (Q.Wild 0 ∷ Q.Wild 0 ∷ []);
  items = I.Word 64 (written 0 1 (K.Const 0) ∷ written 3 61 (K.Pointer 8 (I.Word 64 (written 0 64 (K.Whole (0 ∷ [])) ∷ []) ∷ I.Inline (1 ∷ []) ∷ [])) ∷ []) ∷ [];
}

cons_written : leaf_written (list ∷ []) (one_word ∷ []) cons ≡ cons_seen
cons_written = simp (flat_rules, written_rules)

abbrev number : ℕ → FlatWord
number c = word (part 0 64 (Const c) ∷ [])

-- word 64 { [0:32] -> 8 { word 64 { [0:64] = 1 }, word 64 { [0:64] = 2 } }, [32:32] -> 8 { word 64 { [0:64] = 3 } } }
abbrev two_pointers : ℕ → ℕ → List Block → Leaf
two_pointers b c blocks = leaf (word (part 0 32 (Pointer 8 b) ∷ part 32 32 (Pointer 8 c) ∷ []) ∷ []) blocks

abbrev two : Leaf
two = two_pointers 0 1 (block (number 1 ∷ number 2 ∷ []) ∷ block (number 3 ∷ []) ∷ [])

two_are : leaf_unfolding two
    ≡ Begins 64 ∷ has 0 32 (Address 8) ∷ Opens ∷ Begins 64 ∷ has 0 64 (Number 1) ∷ Begins 64 ∷ has 0 64 (Number 2) ∷ Closes
    ∷ has 32 32 (Address 8) ∷ Opens ∷ Begins 64 ∷ has 0 64 (Number 3) ∷ Closes ∷ []
two_are = refl

-- with its blocks swapped, or with a word moved from one to the other, the same parts unfold to something else
swapped_differ : leaf_unfolding (two_pointers 1 0 (block (number 1 ∷ number 2 ∷ []) ∷ block (number 3 ∷ []) ∷ [])) ≡ leaf_unfolding two → ⊥
swapped_differ e = cc

moved_differ : leaf_unfolding (two_pointers 0 1 (block (number 1 ∷ []) ∷ block (number 2 ∷ number 3 ∷ []) ∷ [])) ≡ leaf_unfolding two → ⊥
moved_differ e = cc

-- word 64 { [0:61] -> 8 { word 64 { [0:61] -> 8 { word 64 { [0:64] = 1 } }, [61:3] = 5 } } }:
-- the inner block is numbered first
inner_is : leaf_unfolding (leaf (word (part 0 61 (Pointer 8 1) ∷ []) ∷ [])
    (block (number 1 ∷ []) ∷ block (word (part 0 61 (Pointer 8 0) ∷ part 61 3 (Const 5) ∷ []) ∷ []) ∷ []))
    ≡ Begins 64 ∷ has 0 61 (Address 8) ∷ Opens ∷ Begins 64 ∷ has 0 61 (Address 8) ∷ Opens ∷ Begins 64 ∷ has 0 64 (Number 1) ∷ Closes ∷ has 61 3 (Number 5) ∷ Closes ∷ []
inner_is = refl
