-- Bits that are barred are never there.
use Rattle.std.proofs.Common.{◌≡◌, ℕ, ◌+◌, ◌-◌, ◌*◌, ◌≤◌, List, Bool, Some, None, refl, sym, subst, ap, ◌∙◌, arith}
use Rattle.std.specs.Prelude.{slice_get}
use Rattle.std.specs.Int.{bit_at}
use Rattle.std.proofs.lemmas.Option.{same_Some, get_or_from_slice_get}
use Rattle.rb_core.specs.declared.value.Value.{Value}
use Rattle.rb_core.specs.declared.types.Ty.{Ty}
use Rattle.rb_core.specs.declared.types.DataDecl.{DataDecl}
use Rattle.rb_bytes.specs.Memory.{Memory, IsGood}
use Rattle.rb_bytes.proofs.BlockLemmas.{block_bounds}
use Rattle.rb_layout.specs.declared.layout.Leaf.{Leaf}
use Rattle.rb_layout.specs.declared.layout.FlatWord.{FlatWord}
use Rattle.rb_layout.specs.declared.layout.Part.{Part}
use Rattle.rb_layout.specs.declared.layout.Kind.{Kind}
use Rattle.rb_layout.specs.declared.layout.Kind.TheVariants.{Pointer}
use Rattle.rb_layout.specs.declared.layout.Layout.{Layout}
use Rattle.rb_layout.specs.declared.layout.WordRef.{WordRef}
use Rattle.rb_layout.specs.Positions.{Open, open_positions}
use Rattle.rb_layout.specs.Words.{flat_at, size_of}
use Rattle.rb_bits.specs.Words.{take_of}
use Rattle.rb_layout.specs.Excluded.{Bars, differs, null, within}
use Rattle.rb_rel.proofs.Lawful.{AllFlat}
use Rattle.rb_layout.specs.Flat.{IsFlat}
use Rattle.rb_rel.specs.Relation.{PartHolds, HoldsKind, LeafStands, Represents}
use Rattle.rb_bits.proofs.WordLemmas.{bit_at_take}
use Rattle.rb_bits.proofs.RangeLemmas.{take_take}
use Rattle.rb_rel.proofs.Represented.{opened}
use Rattle.rb_rel.proofs.Reading.{stands_at}
use Rattle.rb_rel.proofs.Known.{constant_bit-is}

-- the b bits of a word w from bit a on are the same in two numbers that hold bits of w: in v, which holds `many` from
-- bit p on, and in c, which holds l from bit o on
same_bits : (w o l p first many a b v c : ℕ) → p ≤ a → o ≤ a → a + b ≤ p + many → a + b ≤ o + l → first ≡ p
    → take_of w first many ≡ v → take_of w o l ≡ c → take_of v (a - p) b ≡ take_of c (a - o) b
same_bits w o l p first many a b v c from_p from_o to_p to_o begins here there =
    let e1 : p + (a - p) ≡ a = omega arith in
    let e2 : o + (a - o) ≡ a = omega arith in
    ap (λ k. take_of k (a - p) b) (sym here) ∙ take_take w first many (a - p) b (omega arith)
    ∙ ap (λ k. take_of w (k + (a - p)) b) begins ∙ ap (λ k. take_of w k b) (e1 ∙ sym e2)
    ∙ sym (take_take w o l (a - o) b (omega arith)) ∙ ap (λ k. take_of k (a - o) b) there

module _ (types : List DataDecl) (layouts : List Layout) (m : Memory) (clean : Bool) where
  abbrev Reps : Ty → Value → List ℕ → Type 0
  Reps = Represents types layouts m clean

  abbrev pub AllRep : List Open → (List ℕ → Value) → (List ℕ → List ℕ) → Type 0
  AllRep opens at subs = (k : ℕ) (o : Open) → slice_get opens k ≡ Some o → Reps o.ty (at o.path) (subs o.path)

  abbrev pub NoNull : List Part → (ℕ → ℕ) → Type 0
  NoNull parts ats = (k : ℕ) (p : Part) (align b : ℕ) → slice_get parts k ≡ Some p → p.kind ≡ Pointer align b → 1 ≤ ats b

  module _ (good : IsGood m) where
    pub no_null : (leaf : Leaf) (ws : List ℕ) (subs : List ℕ → List ℕ) (ats : ℕ → ℕ) → IsFlat leaf → LeafStands leaf ws m clean subs ats
        → (r : WordRef) (f : FlatWord) → flat_at leaf r ≡ Some f → NoNull f.parts ats
    no_null leaf ws subs ats flat placed r f is k p align b at kind =
        let e = (flat.below r p.l align b (record { word = f; number = k; part = p; is_word = is; is_part = at; is_length = refl; is_pointer = kind })).0 in
        let s = placed.blocks b e.0 e.1 in
        let low = (block_bounds m.blocks (ats b) (size_of e.0) 64 m.next good.blocks s).0 in omega (arith, low)

    module _ (flat : AllFlat layouts) where
      pub never : {leaf : Leaf} {f : FlatWord} {o l c : ℕ} → Bars types layouts leaf f o l c
          → (at : List ℕ → Value) (subs : List ℕ → List ℕ) (ats : ℕ → ℕ) (w : ℕ)
          → ((k : ℕ) (p : Part) → slice_get f.parts k ≡ Some p → PartHolds subs ats w p) → AllRep (open_positions types leaf.prov) at subs → NoNull f.parts ats
          → take_of w o l ≡ c → ⊥
      never (differs leaf f o l c h) at subs ats w holds reps nulls e =
          h.other (sym (constant_bit-is subs ats w f.parts (o + h.i) h.bit holds h.constant) ∙ sym (bit_at_take w o l h.i h.inside) ∙ ap (λ x. bit_at x h.i) e)
      never (null leaf f o l c n) at subs ats w holds reps nulls e =
          let h = subst (λ (k : Kind). HoldsKind subs ats (take_of w n.part.o n.part.l) n.part.l k) n.is_pointer (holds n.number n.part n.is_part) in
          let some = nulls n.number n.part n.align n.block n.is_part n.is_pointer in
          let at : o + (n.part.o - o) ≡ n.part.o = omega (arith, n.first) in
          let z : take_of w n.part.o n.part.l ≡ 0 =
          ap (λ k. take_of w k n.part.l) (sym at) ∙ sym (take_take w o l (n.part.o - o) n.part.l (omega (arith, n.first, n.last)))
          ∙ ap (λ x. take_of x (n.part.o - o) n.part.l) e ∙ n.zeros in
          let h0 : 0 * n.align ≡ ats n.block = subst (λ x. x * n.align ≡ ats n.block) z h in
          omega (arith, some, h0)
      never (within leaf f o l c s j p a b x layout is some exists below) at subs ats w holds reps nulls e =
          let rep = opened types layouts m clean (subst (λ (t : Ty). Reps t (at x.place.path) (subs x.place.path)) x.is_type (reps x.open_number x.place x.is_open)) in
          let d = rep.made in
          let same : d.layout ≡ layout = same_Some _ _ (sym d.is_layout ∙ is) in
          let leaf_is : slice_get layout.leaves d.number ≡ Some d.leaf = subst (λ (y : Layout). slice_get y.leaves d.number ≡ Some d.leaf) same d.is_number in
          let g = exists d.number d.leaf leaf_is in
          let r : WordRef = record { block = None; word = j } in
          let st = stands_at d.leaf (subs x.place.path) m clean d.subs d.ats d.placed r g.0 g.1 in
          let here : take_of w x.part.o x.part.l ≡ st.0 =
          ◌∙◌ {c = st.0} (subst (λ (k : Kind). HoldsKind subs ats (take_of w x.part.o x.part.l) x.part.l k) x.is_word (holds x.number x.part x.is_part))
          (get_or_from_slice_get (subs x.place.path) j st.0 0 st.1.is_found) in
          never (below d.number d.leaf g.0 leaf_is g.1) d.at d.subs d.ats st.0 st.1.holds.parts rep.below
          (no_null d.leaf (subs x.place.path) d.subs d.ats (flat s layout d.number d.leaf is leaf_is) d.placed r g.0 g.1)
          (same_bits w o l p x.part.o x.part.l a b st.0 c (omega (arith, x.first)) (omega (arith, x.first)) (omega (arith, x.last)) (omega (arith, x.last)) x.from here e)
