-- The leaves of flat forms: each pointer has its block below it, and each block its pointer.
use Rattle.std.proofs.Common.{◌≡◌, ℕ, zero, suc, ◌+◌, ◌<◌, inl, inr, List, [], ◌∷◌, map, refl, ap, subst, ◌∙◌, arith}
use Rattle.std.specs.Prelude.{◌⊎◌, Option, Some, None, slice_get}
use Rattle.std.proofs.lemmas.Option.{same_Some}
use Rattle.rb_core.specs.declared.types.DataDecl.{DataDecl}
use Rattle.rb_core.specs.declared.program.Program.{Program}
use Rattle.rb_core.specs.declared.layout_decl.LayoutDecl.{LayoutDecl}
use Rattle.rb_core.specs.Layouts.{WrittenLeaf, leaves}
use Rattle.rb_layout.specs.declared.layout.Layout.{Layout}
use Rattle.rb_layout.specs.declared.layout.Leaf.{Leaf}
use Rattle.rb_layout.specs.declared.layout.Block.{Block}
use Rattle.rb_layout.specs.declared.layout.FlatWord.{FlatWord}
use Rattle.rb_layout.specs.declared.layout.Part.{Part}
use Rattle.rb_layout.specs.declared.layout.Kind.{Kind}
use Rattle.rb_layout.specs.declared.layout.Kind.TheVariants.{Pointer}
use Rattle.rb_layout.specs.declared.layout.WordRef.{WordRef}
use Rattle.rb_layout.specs.Positions.{open_positions}
use Rattle.rb_layout.specs.Words.{words_in, words_of_block}
use Rattle.rb_layout.specs.Pointers.{PointsTo}
use Rattle.rb_layout.specs.Flattening.{decl_of, flat_leaf, flat_layout, flat_or_none, flat_from, flat_layouts}
use Rattle.rb_layout.specs.Flat.{IsAbove, HasBlock, IsFlat, LeavesAreFlat}
use Rattle.rb_layout.proofs.Blocks.{In, in_left, in_right, in_either, Either, get_either, kinds_of, word_kinds, Found, Good, Outer, all_good}

kind_in : (parts : List Part) (k : ℕ) (part : Part) → slice_get parts k ≡ Some part → In part.kind (kinds_of parts)
kind_in [] k part e = absurd cc
kind_in (p ∷ parts) zero part e = (0, ap (λ (q : Part). Some q.kind) (same_Some p part e))
kind_in (p ∷ parts) (suc k) part e =
    let rest = kind_in parts k part e in
    (suc rest.0, rest.1)

kind_in_words : (ws : List FlatWord) (j : ℕ) (f : FlatWord) (k : ℕ) (part : Part) → slice_get ws j ≡ Some f → slice_get f.parts k ≡ Some part → In part.kind (word_kinds ws)
kind_in_words [] j f k part e at = absurd cc
kind_in_words (w ∷ ws) zero f k part e at =
    in_left (kinds_of w.parts) (word_kinds ws) part.kind (kind_in w.parts k part (ap (λ (g : FlatWord). slice_get g.parts k) (same_Some w f e) ∙ at))
kind_in_words (w ∷ ws) (suc j) f k part e at = in_right (kinds_of w.parts) (word_kinds ws) part.kind (kind_in_words ws j f k part e at)

-- where a kind stands in words
record Stands (ws : List FlatWord) (x : Kind) : Type 0 where
  pub j : ℕ
  pub word : FlatWord
  pub k : ℕ
  pub part : Part
  pub is_word : slice_get ws j ≡ Some word
  pub is_part : slice_get word.parts k ≡ Some part
  pub is_kind : part.kind ≡ x

record StandsIn (parts : List Part) (x : Kind) : Type 0 where
  pub k : ℕ
  pub part : Part
  pub is_part : slice_get parts k ≡ Some part
  pub is_kind : part.kind ≡ x

part_with : (parts : List Part) (x : Kind) (k : ℕ) → slice_get (kinds_of parts) k ≡ Some x → StandsIn parts x
part_with [] x k e = absurd cc
part_with (p ∷ parts) x zero e = record { k = 0; part = p; is_part = refl; is_kind = same_Some p.kind x e }
part_with (p ∷ parts) x (suc k) e =
    let rest = part_with parts x k e in
    record { k = suc rest.k; part = rest.part; is_part = rest.is_part; is_kind = rest.is_kind }

stands_either : (w : FlatWord) (ws : List FlatWord) (x : Kind) → (In x (word_kinds ws) → Stands ws x) → In x (kinds_of w.parts) ⊎ In x (word_kinds ws) → Stands (w ∷ ws) x
stands_either w ws x rest (inl h) =
    let first = part_with w.parts x h.0 h.1 in
    record { j = 0; word = w; k = first.k; part = first.part; is_word = refl; is_part = first.is_part; is_kind = first.is_kind }
stands_either w ws x rest (inr h) =
    let s = rest h in
    record { j = suc s.j; word = s.word; k = s.k; part = s.part; is_word = s.is_word; is_part = s.is_part; is_kind = s.is_kind }

stands : (ws : List FlatWord) (x : Kind) → In x (word_kinds ws) → Stands ws x
stands [] x h = nothing h.0 h.1
  where
    nothing : (k : ℕ) → slice_get {X = Kind} [] k ≡ Some x → Stands [] x
    nothing k e = absurd cc
stands (w ∷ ws) x h = stands_either w ws x (λ r. stands ws x r) (in_either (kinds_of w.parts) (word_kinds ws) x h)

from_none : (k : ℕ) → 0 + k ≡ k
from_none k = omega arith

module _ (leaf : Leaf) (g : Good 0 (word_kinds leaf.root) leaf.blocks) where
  found_block : (align b : ℕ) → Found 0 leaf.blocks align b → HasBlock leaf align b
  found_block align b f = (f.block, ap (λ n. slice_get leaf.blocks n) (f.is_number ∙ from_none f.i) ∙ f.is_block, f.is_align)

  below_block : (a j : ℕ) (f : FlatWord) (k : ℕ) (part : Part) (align b : ℕ) (o : Option Block) → slice_get leaf.blocks a ≡ o → slice_get (words_of_block o) j ≡ Some f
      → slice_get f.parts k ≡ Some part → part.kind ≡ Pointer align b → HasBlock leaf align b × (b < a)
  below_block a j f k part align b None is_block is_word is_part is_kind = absurd cc
  below_block a j f k part align b (Some block) is_block is_word is_part is_kind =
      let found = g.inner a block align b is_block (subst (λ x. In x (word_kinds block.words)) is_kind (kind_in_words block.words j f k part is_word is_part)) in
      (found_block align b found.0, omega (arith, found.1, found.0.is_number))

  below_in : (at : Option ℕ) (j : ℕ) (f : FlatWord) (k : ℕ) (part : Part) (align b : ℕ) → slice_get (words_in leaf at) j ≡ Some f
      → slice_get f.parts k ≡ Some part → part.kind ≡ Pointer align b → HasBlock leaf align b × IsAbove at b
  below_in None j f k part align b is_word is_part is_kind =
      (found_block align b (g.lead align b (subst (λ x. In x (word_kinds leaf.root)) is_kind (kind_in_words leaf.root j f k part is_word is_part))), tt)
  below_in (Some a) j f k part align b is_word is_part is_kind = below_block a j f k part align b (slice_get leaf.blocks a) refl is_word is_part is_kind

  abbrev Pointed : ℕ → Block → Type 0
  Pointed b block = (r : WordRef) × (l : ℕ) × PointsTo leaf r l block.align b × IsAbove r.block b

  from_root : (b : ℕ) (block : Block) → Stands leaf.root (Pointer block.align (0 + b)) → Pointed b block
  from_root b block s = (
    record { block = None; word = s.j },
    s.part.l,
    record { word = s.word; number = s.k; part = s.part; is_word = s.is_word; is_part = s.is_part; is_length = refl; is_pointer = s.is_kind ∙ ap (λ n. Pointer block.align n) (from_none b) },
    tt,
  )

  from_block : (b : ℕ) (block : Block) (m : ℕ) (outer : Block) → b < m → slice_get leaf.blocks m ≡ Some outer → Stands outer.words (Pointer block.align (0 + b)) → Pointed b block
  from_block b block m outer lt at s = (
    record { block = Some m; word = s.j },
    s.part.l,
    record {
      word = s.word;
      number = s.k;
      part = s.part;
      is_word = ap (λ (o : Option Block). slice_get (words_of_block o) s.j) at ∙ s.is_word;
      is_part = s.is_part;
      is_length = refl;
      is_pointer = s.is_kind ∙ ap (λ n. Pointer block.align n) (from_none b);
    },
    lt,
  )

  pointed_by_one : (b : ℕ) (block : Block) → In (Pointer block.align (0 + b)) (word_kinds leaf.root) ⊎ Outer 0 leaf.blocks b block → Pointed b block
  pointed_by_one b block (inl h) = from_root b block (stands leaf.root (Pointer block.align (0 + b)) h)
  pointed_by_one b block (inr o) = from_block b block o.0 o.1 o.2 o.3 (stands o.1.words (Pointer block.align (0 + b)) o.4)

  good_is_flat : IsFlat leaf
  good_is_flat = record {
    below = λ r l align b points. below_in r.block r.word points.word points.number points.part align b points.is_word points.is_part points.is_pointer;
    pointed = λ b block at. pointed_by_one b block (g.pointed b block at);
  }

pub leaf_is_flat : (types : List DataDecl) (decls : List LayoutDecl) (w : WrittenLeaf) → IsFlat (flat_leaf types decls w)
leaf_is_flat types decls w = good_is_flat (flat_leaf types decls w) (all_good decls (open_positions types w.provenance) w.items 0)

-- The leaves of a program -------------------------------------------------------------------------

pub mapped : {A B : Type 0} (f : A → B) (xs : List A) (k : ℕ) (y : B) → slice_get (map f xs) k ≡ Some y → (x : A) × (slice_get xs k ≡ Some x) × (f x ≡ y)
mapped f [] k y e = absurd cc
mapped f (x ∷ xs) zero y e = (x, refl, same_Some (f x) y e)
mapped f (x ∷ xs) (suc k) y e = mapped f xs k y e

module _ (p : Program) where
  abbrev IsForm : Layout → Type 0
  IsForm layout = (d : LayoutDecl) × (flat_layout p d ≡ layout)

  form_of_one : (d : Option LayoutDecl) (k : ℕ) (layout : Layout) → slice_get (flat_or_none p d) k ≡ Some layout → IsForm layout
  form_of_one None k layout e = absurd cc
  form_of_one (Some d) zero layout e = (d, same_Some (flat_layout p d) layout e)
  form_of_one (Some d) (suc k) layout e = absurd cc

  form_either : (t k : ℕ) (ds : List DataDecl) (layout : Layout) → ((j : ℕ) → slice_get (flat_from p ds (t + 1)) j ≡ Some layout → IsForm layout)
      → Either (flat_or_none p (decl_of p.layouts t)) (flat_from p ds (t + 1)) k layout → IsForm layout
  form_either t k ds layout rest (inl h) = form_of_one (decl_of p.layouts t) k layout h
  form_either t k ds layout rest (inr h) = rest h.0 h.2

  form_in : (ds : List DataDecl) (t k : ℕ) (layout : Layout) → slice_get (flat_from p ds t) k ≡ Some layout → IsForm layout
  form_in [] t k layout e = absurd cc
  form_in (d ∷ ds) t k layout e =
      form_either t k ds layout (λ j h. form_in ds (t + 1) j layout h) (get_either (flat_or_none p (decl_of p.layouts t)) (flat_from p ds (t + 1)) k layout e)

  -- each layout is the flat form of one that is declared
  pub layout_is_form : (t : ℕ) (layout : Layout) → slice_get (flat_layouts p) t ≡ Some layout → IsForm layout
  layout_is_form t layout e = form_in p.types 0 t layout e

  -- each leaf is the flat form of one that is written
  pub leaf_is_form : (t : ℕ) (layout : Layout) (n : ℕ) (leaf : Leaf) → slice_get (flat_layouts p) t ≡ Some layout → slice_get layout.leaves n ≡ Some leaf
      → (w : WrittenLeaf) × (flat_leaf p.types p.layouts w ≡ leaf)
  leaf_is_form t layout n leaf is_layout is_leaf =
      let form = layout_is_form t layout is_layout in
      let found = mapped (flat_leaf p.types p.layouts) (leaves form.0.tree) n leaf (ap (λ (l : Layout). slice_get l.leaves n) form.1 ∙ is_leaf) in
      (found.0, found.2)

pub leaves_are_flat : LeavesAreFlat
leaves_are_flat p t layout n leaf is_layout is_leaf =
    let form = leaf_is_form p t layout n leaf is_layout is_leaf in
    subst IsFlat form.1 (leaf_is_flat p.types p.layouts form.0)
