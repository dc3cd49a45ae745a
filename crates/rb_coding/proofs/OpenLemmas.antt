-- The words of a value of a data type are opened: its leaf is found, its blocks are loaded, and the plan
-- of its provenance is added.
use Rattle.std.proofs.Common.{◌≡◌, ℕ, List, [], ◌++◌, false, Some, None, sym, subst, ap, ◌∙◌}
use Rattle.std.specs.Prelude.{slice_get}
use Rattle.std.proofs.lemmas.Option.{same_Some}
use Rattle.rb_core.specs.declared.value.Value.{Value}
use Rattle.rb_core.specs.declared.types.Ty.TheVariants.{Named}
use Rattle.rb_core.specs.declared.types.DataDecl.{DataDecl}
use Rattle.rb_core.specs.declared.program.Program.{Program}
use Rattle.rb_core.specs.TypedPrograms.{IsTyped}
use Rattle.rb_bytes.specs.Memory.{Memory, IsGood}
use Rattle.rb_layout.specs.declared.layout.Layout.{Layout}
use Rattle.rb_layout.specs.declared.layout.Leaf.{Leaf}
use Rattle.rb_layout.specs.Agreement.{Agrees}
use Rattle.rb_layout.specs.Flattening.{flat_layouts}
use Rattle.rb_layout.specs.Positions.{leaf_of}
use Rattle.rb_rel.specs.Relation.{LeafStands}
use Rattle.rb_rel.proofs.Agreeing.{lawful}
use Rattle.rb_rel.proofs.Represented.{Opened, opened}
use Rattle.rb_coding.specs.Decoding.{AreOf}
use Rattle.rb_coding.specs.declared.todo.Step.{Step}
use Rattle.rb_coding.specs.inner.Gathering.{field_words}
use Rattle.rb_coding.specs.inner.Leading.{RouteLeads}
use Rattle.rb_coding.specs.inner.Loading.{AreWordsOf, IsLoadable}
use Rattle.rb_coding.specs.inner.Planning.{plan_of}
use Rattle.rb_coding.specs.inner.Todo.{IsOpened}
use Rattle.rb_coding.proofs.FieldWords.{opens_gathered}
use Rattle.rb_coding.proofs.LeadLemmas.{leads_to}
use Rattle.rb_coding.proofs.PlanForms.{no_leaf}

module _ (p : Program) (typed : IsTyped p) (agrees : Agrees p) (m : Memory) (good : IsGood m) (t : ℕ) (ws : List ℕ) (layout : Layout) (is_layout : slice_get (flat_layouts p) t ≡ Some layout) where
  abbrev View : Value → Type 0
  View v = Opened p.types (flat_layouts p) m false t v ws

  view : (v : Value) → AreOf p m (Named t) ws v → View v
  view v rep = opened p.types (flat_layouts p) m false rep

  same : (v : Value) (o : View v) → o.made.layout ≡ layout
  same v o = same_Some o.made.layout layout (sym o.made.is_layout ∙ is_layout)

  leads_in : (v : Value) (o : View v) → RouteLeads ws m layout.tree o.made.number
  leads_in v o = subst (λ (y : Layout). RouteLeads ws m y.tree o.made.number) (same v o) (leads_to p typed agrees m good t v ws o)

  -- the splits lead to some leaf
  pub some_leaf : (v : Value) → AreOf p m (Named t) ws v → (n : ℕ) × RouteLeads ws m layout.tree n
  some_leaf v rep = let o = view v rep in (o.made.number, leads_in v o)

  -- a leaf to which they lead, and no other
  module _ (n : ℕ) (only : (k : ℕ) → RouteLeads ws m layout.tree k → n ≡ k) where
    is_leaf : (v : Value) → AreOf p m (Named t) ws v → leaf_of layout v ≡ Some n
    is_leaf v rep = let o = view v rep in ap (λ (y : Layout). leaf_of y v) (sym (same v o)) ∙ o.made.is_leaf ∙ ap Some (sym (only o.made.number (leads_in v o)))

    -- it is there
    pub leaf_there : slice_get layout.leaves n ≡ None → (v : Value) → AreOf p m (Named t) ws v → ⊥
    leaf_there e v rep = no_leaf p typed agrees m t ws layout n is_layout e v rep (is_leaf v rep)

    module _ (leaf : Leaf) (is_number : slice_get layout.leaves n ≡ Some leaf) where
      own_leaf : (v : Value) (o : View v) → o.made.leaf ≡ leaf
      own_leaf v o =
          same_Some o.made.leaf leaf (sym o.made.is_number ∙ ap (λ (y : Layout). slice_get y.leaves o.made.number) (same v o) ∙ ap (slice_get layout.leaves) (sym (only o.made.number (leads_in v o))) ∙ is_number)

      -- its blocks can be loaded
      pub loadable : (v : Value) → AreOf p m (Named t) ws v → IsLoadable leaf ws m
      loadable v rep =
          let o = view v rep in
          record {
            flat = (lawful p agrees typed).flat t layout n leaf is_layout is_number;
            widths = (agrees.a4 t layout n leaf is_layout is_number).widths;
            subs = o.made.subs;
            ats = o.made.ats;
            placed = subst (λ (y : Leaf). LeafStands y ws m false o.made.subs o.made.ats) (own_leaf v o) o.made.placed;
          }

      -- and once they are, its plan opens the words
      pub planned : (types : List DataDecl) (layouts : List Layout) → types ≡ p.types → layouts ≡ flat_layouts p → (loaded : List (List ℕ)) → AreWordsOf leaf ws m loaded → (old new : List Step)
          → new ≡ old ++ plan_of types (field_words types layouts leaf ws loaded) leaf.prov (Named t) [] → IsOpened p m t ws old new
      planned types layouts same_types same_layouts loaded are old new is =
          opens_gathered p typed agrees m t ws layout n leaf is_layout is_number loaded are is_leaf old new
          (is ∙ ap (λ (ts : List DataDecl). old ++ plan_of ts (field_words ts layouts leaf ws loaded) leaf.prov (Named t) []) same_types
          ∙ ap (λ (ls : List Layout). old ++ plan_of p.types (field_words p.types ls leaf ws loaded) leaf.prov (Named t) []) same_layouts)
