-- The leaves of a derived layout: one for each constructor, in their order.
use Rattle.std.proofs.Common.{◌≡◌, ℕ, zero, suc, ◌+◌, List, [], ◌∷◌, ◌++◌, map, Option, Some, refl, sym, ap, ◌∙◌, arith, zero-add}
use Rattle.std.specs.Prelude.{slice_get}
use Rattle.std.specs.List.{flat_map}
use Rattle.std.proofs.lemmas.Option.{same_Some}
use Rattle.std.proofs.lemmas.List.{append-nil}
use Rattle.rb_core.specs.declared.types.Con.{Con}
use Rattle.rb_core.specs.declared.program.Program.{Program}
use Rattle.rb_core.specs.declared.layout_decl.LayoutDecl.{LayoutDecl}
use Rattle.rb_core.specs.declared.layout_decl.LayItem.TheVariants as I
use Rattle.rb_core.specs.Layouts.{WrittenLeaf, leaves, leaves_under}
use Rattle.rb_layout.specs.declared.layout.Leaf.{Leaf}
use Rattle.rb_layout.specs.declared.layout.FlatWord.{FlatWord}
use Rattle.rb_layout.specs.declared.layout.Part.{Part}
use Rattle.rb_layout.specs.declared.layout.Kind.{Kind}
use Rattle.rb_layout.specs.Positions.{Open, open_positions}
use Rattle.rb_layout.specs.Flattening.{WithBlocks, Laying, in_turn, item_laid, item_step, kind_step, part_step, part_laid, flat_leaf}
use Rattle.rb_layout.proofs.TreeLemmas.{leaves-Leaf, leaves-Split, arm_leaves-is}
use Rattle.rb_layout.proofs.WrittenForms.{fold-Word}
use Rattle.rb_auto.specs.declared.form.Form.{Form}
use Rattle.rb_auto.specs.declared.room.Room.{Room}
use Rattle.rb_auto.specs.Fields.{cons_of}
use Rattle.rb_auto.specs.FieldWords.{constructor_words}
use Rattle.rb_auto.specs.Items.{form_parts, form_tag, form_width, leaf_items}
use Rattle.rb_auto.specs.Derived.{arms_from, derived_layout, leaf, provenance, tag_loc, tree_of}
use Rattle.rb_auto.specs.inner.Standing.{flat_derived}

pub get-map : {A B : Type 0} (f : A → B) (xs : List A) (n : ℕ) (y : B) → slice_get (map f xs) n ≡ Some y → (x : A) × (slice_get xs n ≡ Some x) × (y ≡ f x)
get-map f [] n y e = absurd cc
get-map f (x ∷ xs) zero y e = (x, refl, sym (same_Some (f x) y e))
get-map f (x ∷ xs) (suc n) y e = get-map f xs n y e

pub map-get : {A B : Type 0} (f : A → B) (xs : List A) (n : ℕ) (x : A) → slice_get xs n ≡ Some x → slice_get (map f xs) n ≡ Some (f x)
map-get f [] n x e = absurd cc
map-get f (z ∷ xs) zero x e = ap (λ y. Some (f y)) (same_Some z x e)
map-get f (z ∷ xs) (suc n) x e = map-get f xs n x e

module _ (p : Program) (rooms : List Room) (t : ℕ) (form : Form) where
  -- the leaf of constructor k as it is written
  abbrev pub leaf_at : ℕ → Con → WrittenLeaf
  leaf_at k c = record { provenance = provenance t k c; items = leaf_items form k (constructor_words p rooms c.fields) }

  abbrev pub leaves_from : ℕ → List Con → List WrittenLeaf
  leaves_from k [] = []
  leaves_from k (c ∷ cs) = leaf_at k c ∷ leaves_from (k + 1) cs

  arms-leaves : (k : ℕ) (cs : List Con) → flat_map leaves_under (arms_from p rooms t form k cs) ≡ leaves_from k cs
  arms-leaves k [] = refl
  arms-leaves k (c ∷ cs) =
      let here : leaves_under (record { literal = k; under = leaf p rooms t form k c }) ≡ leaf_at k c ∷ [] =
      arm_leaves-is (record { literal = k; under = leaf p rooms t form k c }) ∙ leaves-Leaf 0 (provenance t k c) (leaf_items form k (constructor_words p rooms c.fields)) in
      ap (λ (ls : List WrittenLeaf). ls ++ flat_map leaves_under (arms_from p rooms t form (k + 1) cs)) here ∙ ap (λ (ls : List WrittenLeaf). leaf_at k c ∷ ls) (arms-leaves (k + 1) cs)

  pub tree-leaves : (tag : ℕ) (cs : List Con) → leaves (tree_of p rooms t form tag cs) ≡ leaves_from 0 cs
  tree-leaves zero [] = leaves-Split (tag_loc zero) [] ∙ arms-leaves 0 []
  tree-leaves zero (c ∷ []) = leaves-Leaf 0 (provenance t 0 c) (leaf_items form 0 (constructor_words p rooms c.fields))
  tree-leaves zero (c ∷ d ∷ cs) = leaves-Split (tag_loc zero) (arms_from p rooms t form 0 (c ∷ d ∷ cs)) ∙ arms-leaves 0 (c ∷ d ∷ cs)
  tree-leaves (suc tag) cs = leaves-Split (tag_loc (suc tag)) (arms_from p rooms t form 0 cs) ∙ arms-leaves 0 cs

  leaf-from : (k : ℕ) (cs : List Con) (n : ℕ) (w : WrittenLeaf) → slice_get (leaves_from k cs) n ≡ Some w → (c : Con) × (slice_get cs n ≡ Some c) × (w ≡ leaf_at (k + n) c)
  leaf-from k [] n w e = absurd cc
  leaf-from k (c ∷ cs) zero w e = (c, refl, sym (same_Some (leaf_at k c) w e) ∙ ap (λ j. leaf_at j c) (plus_none k))
    where
      plus_none : (m : ℕ) → m ≡ m + 0
      plus_none m = omega arith
  leaf-from k (c ∷ cs) (suc n) w e =
      let rest = leaf-from (k + 1) cs n w e in (rest.0, rest.1, rest.2 ∙ ap (λ j. leaf_at j rest.0) (shift k n))
    where
      shift : (m i : ℕ) → m + 1 + i ≡ m + suc i
      shift m i = omega arith

  from-leaf : (k : ℕ) (cs : List Con) (n : ℕ) (c : Con) → slice_get cs n ≡ Some c → slice_get (leaves_from k cs) n ≡ Some (leaf_at (k + n) c)
  from-leaf k [] n c e = absurd cc
  from-leaf k (d ∷ cs) zero c e = ap (λ x. Some (leaf_at k x)) (same_Some d c e) ∙ ap (λ j. Some (leaf_at j c)) (plus_none k)
    where
      plus_none : (m : ℕ) → m ≡ m + 0
      plus_none m = omega arith
  from-leaf k (d ∷ cs) (suc n) c e = from-leaf (k + 1) cs n c e ∙ ap (λ j. Some (leaf_at j c)) (shift k n)
    where
      shift : (m i : ℕ) → m + 1 + i ≡ m + suc i
      shift m i = omega arith

  pub written-leaf : (n : ℕ) (w : WrittenLeaf) → slice_get (leaves (derived_layout p rooms t form).tree) n ≡ Some w
      → (c : Con) × (slice_get (cons_of p.types t) n ≡ Some c) × (w ≡ leaf_at n c)
  written-leaf n w e =
      let r = leaf-from 0 (cons_of p.types t) n w (ap (λ (ls : List WrittenLeaf). slice_get ls n) (sym (tree-leaves (form_tag form) (cons_of p.types t))) ∙ e) in
      (r.0, r.1, r.2 ∙ ap (λ j. leaf_at j r.0) (zero-add n))

  pub leaf-written : (n : ℕ) (c : Con) → slice_get (cons_of p.types t) n ≡ Some c → slice_get (leaves (derived_layout p rooms t form).tree) n ≡ Some (leaf_at n c)
  leaf-written n c e =
      ap (λ (ls : List WrittenLeaf). slice_get ls n) (tree-leaves (form_tag form) (cons_of p.types t)) ∙ from-leaf 0 (cons_of p.types t) n c e
      ∙ ap (λ j. Some (leaf_at j c)) (zero-add n)

  module _ (decls : List LayoutDecl) where
    flat : WrittenLeaf → Leaf
    flat w = flat_leaf p.types decls w

    -- each flat leaf is that of a constructor
    pub leaf-is : (n : ℕ) (x : Leaf) → slice_get (flat_derived p decls rooms t form).leaves n ≡ Some x
        → (c : Con) × (slice_get (cons_of p.types t) n ≡ Some c) × (x ≡ flat_leaf p.types decls (leaf_at n c))
    unfolding flat
    leaf-is n x e =
        let m = get-map flat (leaves (derived_layout p rooms t form).tree) n x e in
        let w = written-leaf n m.0 m.1 in
        (w.0, w.1, m.2 ∙ ap flat w.2)

    pub has-leaf : (n : ℕ) (c : Con) → slice_get (cons_of p.types t) n ≡ Some c
        → slice_get (flat_derived p decls rooms t form).leaves n ≡ Some (flat_leaf p.types decls (leaf_at n c))
    unfolding flat
    has-leaf n c e =
        map-get flat (leaves (derived_layout p rooms t form).tree) n (leaf_at n c)
        (ap (λ (ls : List WrittenLeaf). slice_get ls n) (tree-leaves (form_tag form) (cons_of p.types t)) ∙ from-leaf 0 (cons_of p.types t) n c e ∙ ap (λ j. Some (leaf_at j c)) (zero-add n))

    -- its one root word
    abbrev pub opens_at : ℕ → Con → List Open
    opens_at k c = open_positions p.types (provenance t k c)

    abbrev pub parts_at : ℕ → Con → WithBlocks (List Part)
    parts_at k c = in_turn (map (part_laid decls (opens_at k c)) (form_parts form k (constructor_words p rooms c.fields))) 0

    word-laid : (k : ℕ) (c : Con) → item_laid decls (opens_at k c) (I.Word (form_width form) (form_parts form k (constructor_words p rooms c.fields))) 0
        ≡ record { it = record { width = form_width form; parts = (parts_at k c).it } ∷ []; blocks = (parts_at k c).blocks }
    word-laid k c =
        ap (λ (lay : Laying (List FlatWord)). lay 0)
        (fold-Word (Laying (List FlatWord)) (Laying (Option Kind)) (Laying (List Part)) (item_step decls (opens_at k c)) (kind_step (opens_at k c)) part_step
        (form_width form) (form_parts form k (constructor_words p rooms c.fields)))

    pub root-is : (k : ℕ) (c : Con) → (flat_leaf p.types decls (leaf_at k c)).root ≡ record { width = form_width form; parts = (parts_at k c).it } ∷ []
    root-is k c = ap (λ (l : WithBlocks (List FlatWord)). l.it ++ []) (word-laid k c)

    pub blocks-are : (k : ℕ) (c : Con) → (flat_leaf p.types decls (leaf_at k c)).blocks ≡ (parts_at k c).blocks
    blocks-are k c = ap (λ (l : WithBlocks (List FlatWord)). l.blocks ++ []) (word-laid k c) ∙ append-nil (parts_at k c).blocks
