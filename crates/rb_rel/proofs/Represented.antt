-- What is known of represented values: integers, the number of words, and the words at open positions.
use Rattle.std.proofs.Common.{◌≡◌, ℕ, ◌<◌, ◌^◌, List, [], ◌∷◌, Bool, Some, length, refl, sym, subst, ap, ◌∙◌}
use Rattle.std.specs.Prelude.{slice_get}
use Rattle.std.proofs.lemmas.Option.{same_Some}
use Rattle.rb_core.specs.declared.value.Value.{Value, Num}
use Rattle.rb_core.specs.declared.types.Ty.{Ty}
use Rattle.rb_core.specs.declared.types.Ty.TheVariants.{Int, Named}
use Rattle.rb_core.specs.declared.types.DataDecl.{DataDecl}
use Rattle.rb_core.specs.Values.{part_at}
use Rattle.rb_bytes.specs.Memory.{Memory}
use Rattle.rb_layout.specs.declared.layout.Leaf.{Leaf}
use Rattle.rb_layout.specs.declared.layout.Layout.{Layout}
use Rattle.rb_layout.specs.Positions.{Open, open_positions, leaf_of, layout_of}
use Rattle.rb_rel.specs.Relation.{shape_length, word_count, LeafStands, Made, Represents, number, built}

module _ (types : List DataDecl) (layouts : List Layout) (m : Memory) (clean : Bool) where
  abbrev IsInt : Ty → Value → List ℕ → Type 0
  IsInt (Int bits) v ws = (x : ℕ) × (v ≡ Num x) × (ws ≡ x ∷ []) × (x < 2 ^ bits)
  IsInt (Named t) v ws = Unit {0}

  int_view : {ty : Ty} {v : Value} {ws : List ℕ} → Represents types layouts m clean ty v ws → IsInt ty v ws
  int_view (number bits x lt) = (x, refl, refl, lt)
  int_view (built t v ws b below) = tt

  -- an integer is one word, the number itself
  pub Represents-int : (bits : ℕ) (v : Value) (ws : List ℕ) → Represents types layouts m clean (Int bits) v ws → (x : ℕ) × (v ≡ Num x) × (ws ≡ x ∷ []) × (x < 2 ^ bits)
  Represents-int bits v ws r = int_view r

  -- as many words as the type has
  pub Represents-count : {ty : Ty} {v : Value} {ws : List ℕ} → Represents types layouts m clean ty v ws → length ws ≡ word_count layouts ty
  Represents-count (number bits x lt) = refl
  Represents-count (built t v ws b below) = b.shaped ∙ sym (ap shape_length b.is_layout)

  -- how a value of a data type is represented, with its subvalues
  pub record Opened (t : ℕ) (v : Value) (ws : List ℕ) : Type 0 where
    pub made : Made types layouts m clean t v ws
    pub below : (k : ℕ) (o : Open) → slice_get (open_positions types made.leaf.prov) k ≡ Some o → Represents types layouts m clean o.ty (made.at o.path) (made.subs o.path)

  pub opened : {t : ℕ} {v : Value} {ws : List ℕ} → Represents types layouts m clean (Named t) v ws → Opened t v ws
  opened (built t v ws b below) = record { made = b; below = below }

  -- an open position of a represented value whose leaf is known: its words represent the value there
  pub record OpenedAt (v : Value) (ws : List ℕ) (leaf : Leaf) (o : Open) : Type 0 where
    pub subs : List ℕ → List ℕ
    pub ats : ℕ → ℕ
    pub value : Value
    pub is_value : part_at v o.path ≡ Some value
    pub placed : LeafStands leaf ws m clean subs ats
    pub represents : Represents types layouts m clean o.ty value (subs o.path)

  -- the leaf of a representation is the value's
  pub made_leaf : (t : ℕ) (v : Value) (ws : List ℕ) (b : Made types layouts m clean t v ws) (layout : Layout) (n : ℕ) (leaf : Leaf)
      → layout_of layouts t ≡ Some layout → leaf_of layout v ≡ Some n → slice_get layout.leaves n ≡ Some leaf → b.leaf ≡ leaf
  made_leaf t v ws b layout n leaf is_layout is_leaf is_number =
      let e1 : b.layout ≡ layout = same_Some b.layout layout (sym b.is_layout ∙ is_layout) in
      let e2 : b.number ≡ n = same_Some b.number n (sym b.is_leaf ∙ ap (λ (y : Layout). leaf_of y v) e1 ∙ is_leaf) in
      same_Some b.leaf leaf (sym b.is_number ∙ ap (λ (y : Layout). slice_get y.leaves b.number) e1 ∙ ap (slice_get layout.leaves) e2 ∙ is_number)

  pub opened_at : (t : ℕ) (v : Value) (ws : List ℕ) → Represents types layouts m clean (Named t) v ws → (layout : Layout) (n : ℕ) (leaf : Leaf) (k : ℕ) (o : Open)
      → layout_of layouts t ≡ Some layout → leaf_of layout v ≡ Some n → slice_get layout.leaves n ≡ Some leaf → slice_get (open_positions types leaf.prov) k ≡ Some o → OpenedAt v ws leaf o
  opened_at t v ws r layout n leaf k o is_layout is_leaf is_number at =
      let w = opened r in
      let b = w.made in
      let e = made_leaf t v ws b layout n leaf is_layout is_leaf is_number in
      let at1 : slice_get (open_positions types b.leaf.prov) k ≡ Some o = ap (λ (y : Leaf). slice_get (open_positions types y.prov) k) e ∙ at in
      record {
        subs = b.subs;
        ats = b.ats;
        value = b.at o.path;
        is_value = b.is_at k o at1;
        placed = subst (λ (y : Leaf). LeafStands y ws m clean b.subs b.ats) e b.placed;
        represents = w.below k o at1;
      }
