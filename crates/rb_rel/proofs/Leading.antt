-- The splits, read on words that represent a value, lead to its leaf.
use Rattle.std.proofs.Common.{◌≡◌, ℕ, List, Bool, Option, Some, None, refl, sym, ap, ◌∙◌}
use Rattle.std.proofs.lemmas.Option.{same_Some}
use Rattle.rb_core.specs.declared.value.Value.{Value}
use Rattle.rb_core.specs.declared.types.Ty.TheVariants.{Named}
use Rattle.rb_core.specs.declared.types.DataDecl.{DataDecl}
use Rattle.rb_bytes.specs.Memory.{Memory, IsGood}
use Rattle.rb_layout.specs.declared.layout.Leaf.{Leaf}
use Rattle.rb_layout.specs.declared.layout.Layout.{Layout}
use Rattle.rb_core.specs.declared.layout_decl.Loc.{Loc}
use Rattle.rb_layout.specs.Positions.{open_positions, leaf_of, layout_of}
use Rattle.rb_bits.specs.Words.{take_of}
use Rattle.rb_layout.specs.Locations.{Reached, reached_at, known_in}
use Rattle.rb_layout.specs.Splits.{Test, Is, IsNone}
use Rattle.rb_rel.specs.Reading.{read_loc, walk}
use Rattle.rb_layout.specs.Excluded.{Excludes}
use Rattle.rb_rel.proofs.Lawful.{AllFlat, Lawful}
use Rattle.rb_layout.specs.Flat.{IsFlat}
use Rattle.rb_layout.specs.A7.{MeetsTest}
use Rattle.rb_rel.specs.Relation.{LeafStands, Represents}
use Rattle.rb_rel.proofs.Reading.{reads_loc}
use Rattle.rb_rel.proofs.Known.{constant_bits-is}
use Rattle.rb_rel.proofs.Represented.{Opened, opened}
use Rattle.rb_rel.proofs.Barred.{never, no_null, AllRep}
use Rattle.rb_rel.proofs.Trees.{Passes, tree_right}

module _ (types : List DataDecl) (layouts : List Layout) (m : Memory) (clean : Bool) (good : IsGood m) (lawful : Lawful types layouts) where
  abbrev flat : AllFlat layouts
  flat = lawful.flat

  module _ (leaf : Leaf) (is_flat : IsFlat leaf) (ws : List ℕ) (subs : List ℕ → List ℕ) (ats : ℕ → ℕ) (at : List ℕ → Value) (placed : LeafStands leaf ws m clean subs ats)
      (reps : AllRep types layouts m clean (open_positions types leaf.prov) at subs) where
    known_is : (loc : Loc) (c : ℕ) (x : Option Reached) → reached_at leaf loc ≡ x → known_in x ≡ Some c → read_loc ws m loc ≡ Some c
    known_is loc c None is e = absurd cc
    known_is loc c (Some x) is e =
        let r = reads_loc leaf ws m clean subs ats placed loc x is in
        r.is_read ∙ ap Some (constant_bits-is subs ats r.found x.word.parts x.l x.o c r.stands.holds.parts e)

    excluded_is : (loc : Loc) (c : ℕ) → Excludes types layouts leaf loc c → read_loc ws m loc ≡ Some c → ⊥
    excluded_is loc c x e =
        let r = reads_loc leaf ws m clean subs ats placed loc x.reached x.resolves in
        never types layouts m clean good flat x.bars at subs ats r.found r.stands.holds.parts reps
        (no_null types layouts m clean good leaf ws subs ats is_flat placed x.reached.ref x.reached.word r.stands.is_flat)
        (same_Some _ _ (sym r.is_read ∙ e))

    passes : (test : Test) → MeetsTest types layouts leaf test → Passes ws m test
    passes (Is loc c) h = known_is loc c (reached_at leaf loc) refl h.1
    passes (IsNone loc cs) h =
        let r = reads_loc leaf ws m clean subs ats placed loc h.0.0 h.0.1 in
        let n = take_of r.found h.0.0.o h.0.0.l in
        (n, r.is_read, λ one. excluded_is loc n (h.1 n one) r.is_read)

  pub leads_made : (t : ℕ) (v : Value) (ws : List ℕ) (o : Opened types layouts m clean t v ws) → walk o.made.layout.tree ws m ≡ Some o.made.number
  leads_made t v ws o =
      let d = o.made in
      let k = lawful.reached t d.layout d.number d.leaf d.is_layout d.is_number in
      tree_right ws m d.layout.tree (λ i s is. (lawful.split t d.layout d.is_layout i s is).distinct) k.0 k.1 k.2 (λ i test is.
      passes d.leaf (flat t d.layout d.number d.leaf d.is_layout d.is_number) ws d.subs d.ats d.at d.placed o.below test
      (lawful.met t d.layout d.number d.leaf d.is_layout d.is_number test (record { route_number = k.0; route = k.1; number = i; is_route = k.2; leads = k.3; is_test = is })))
      ∙ ap Some k.3

  pub leads : (t : ℕ) (v : Value) (ws : List ℕ) (layout : Layout) → layout_of layouts t ≡ Some layout
      → Represents types layouts m clean (Named t) v ws → (n : ℕ) × (leaf_of layout v ≡ Some n) × (walk layout.tree ws m ≡ Some n)
  leads t v ws layout is r =
      let o = opened types layouts m clean r in
      let d = o.made in
      let same : d.layout ≡ layout = same_Some _ _ (sym d.is_layout ∙ is) in
      (d.number, ap (λ (x : Layout). leaf_of x v) (sym same) ∙ d.is_leaf, ap (λ (x : Layout). walk x.tree ws m) (sym same) ∙ leads_made t v ws o)
