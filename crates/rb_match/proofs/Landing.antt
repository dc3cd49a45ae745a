-- A node's code begins: the targets of its edges are set to it.
use Rattle.std.proofs.Common.{◌≡◌, ℕ, ◌<◌, ◌≤◌, ◌==◌, ◌⊎◌, inl, inr, Bool, true, false, List, [], ◌∷◌, ◌++◌, length, Option, Some, refl, sym, subst, ap, ◌∙◌, arith}
use Rattle.std.specs.Prelude.{slice_get, slice_index}
use Rattle.std.proofs.lemmas.Option.{same_Some}
use Rattle.rb_target.specs.declared.instr.Instr.{Instr}
use Rattle.rb_target.specs.declared.body.Hole.{Hole}
use Rattle.rb_target.specs.Sheet.{Sheet, with_target_at, IsHole}
use Rattle.rb_target.specs.Targets.{Finishes, IsHoleAmong, IsOpenTarget, target_in}
use Rattle.rb_target.proofs.Finishing.{agrees-sub, finishes_patched, leads_patched}
use Rattle.rb_target.proofs.Shapes.{patch_is}
use Rattle.rb_fragment.proofs.Closing.{is_open}
use Rattle.rb_fragment.proofs.Patching.{AreAllHoles, AreClosable, adds_closed, all_holes_patched, closed_length, closed_slots, hole_within}
use Rattle.rb_fragment.specs.Arms.{AreOfOneWay, with_targets}
use Rattle.rb_facts.specs.declared.knowledge.Known.{Known}
use Rattle.rb_facts.specs.declared.knowledge.Edge.{Edge}
use Rattle.rb_facts.specs.Knowing.{IsEdge, IsCommonKnowledge, view_of}
use Rattle.rb_facts.specs.Edges.{holes_of, AreOpen}
use Rattle.rb_match.specs.inner.Flowing.{landing_of, others_of, Arrives, Lands, Flows, FlowsHere, JobStands}
use Rattle.rb_facts.specs.Ways.{Job, IsOn}
use Rattle.rb_facts.proofs.Numbers.{same-nat, other-nat}
use Rattle.rb_match.proofs.Edges.{in_none, in_head, in_tail, in_append, open_edge, edge_open, landing, landed, landed_from, other_kept, other_from, all_holes_from, closable_from}

-- some holes that are closed, where others stay open
pub record IsLanded (final : List Instr) (b : Sheet) (hs ks : List Hole) (ts : List ℕ) (lo hi : ℕ) : Type 0 where
  pub finishes : Finishes final b.code (hs ++ ks) lo hi
  pub leads : (h : Hole) → IsHoleAmong h hs → lo ≤ h.pc → h.pc < hi → target_in (slice_get final h.pc) h.arm ≡ Some (slice_index ts h.leaf)

pub closed_open : (final : List Instr) (ks : List Hole) (ts : List ℕ) (lo hi : ℕ) (hs : List Hole) (b : Sheet) → Finishes final (with_targets b hs ts).code ks lo hi → AreAllHoles b.code hs → AreOfOneWay hs
    → ((h : Hole) → IsHoleAmong h hs → IsOpenTarget ks h.pc h.arm → ⊥) → IsLanded final b hs ks ts lo hi
closed_open final ks ts lo hi [] b fin holes one apart = record { finishes = fin; leads = λ h i. absurd (in_none h i) }
closed_open final ks ts lo hi (h ∷ hs) b fin holes one apart =
    let t = slice_index ts h.leaf in
    let p = patch_is b h t holes.0 in
    let k = closed_open final ks ts lo hi hs (with_target_at b h t) fin (all_holes_patched b h t hs holes.1) (λ x y i j e f. one x y (in_tail h hs x i) (in_tail h hs y j) e f) (λ x i o. apart x (in_tail h hs x i) o) in
    let here : lo ≤ h.pc → h.pc < hi → target_in (slice_get final h.pc) h.arm ≡ Some t = λ low high. elim (is_open (hs ++ ks) h.pc h.arm) [
      | inl o ↦ elim (in_append hs ks o.0 o.1) [
        | inl j ↦
            let there = k.leads o.0 j (omega (arith, o.2, low)) (omega (arith, o.2, high)) in
            let way : o.0.leaf ≡ h.leaf = one o.0 h (in_tail h hs o.0 j) (0, refl) o.2 o.3 in
            ap (λ n. target_in (slice_get final n) h.arm) (sym o.2) ∙ ap (λ a. target_in (slice_get final o.0.pc) a) (sym o.3) ∙ there ∙ ap (λ n. Some (slice_index ts n)) way
        | inr j ↦ absurd (apart h (0, refl) (o.0, j, o.2, o.3))
      ]
      | inr shut ↦ leads_patched final b h t p (h ∷ (hs ++ ks)) (hs ++ ks) (in_tail h (hs ++ ks)) (0, refl) lo hi k.finishes low high shut
    ] in
    record {
      finishes = finishes_patched final b h t p (h ∷ (hs ++ ks)) (hs ++ ks) (in_tail h (hs ++ ks)) (0, refl) lo hi k.finishes;
      leads = λ x i low high. elim (in_head h hs x i) [
        | inl is ↦ subst (λ (y : Hole). lo ≤ y.pc → y.pc < hi → target_in (slice_get final y.pc) y.arm ≡ Some (slice_index ts y.leaf)) is here low high
        | inr rest ↦ k.leads x rest low high
      ];
    }

-- the holes of a node's edges, in code where all edges are open
module _ (b : Sheet) (edges : List Edge) (n from : ℕ) (stand : AreOpen from b.code edges) where
  abbrev pub holes : List Hole
  holes = landing_of n edges

  abbrev pub targets : List ℕ
  targets = length b.code ∷ []

  pub landing_hole : (h : Hole) → IsHoleAmong h holes → (from ≤ h.pc) × IsHole b.code h × (h.leaf ≡ 0)
  landing_hole h i =
      let f = landed_from n edges h i in
      let s = stand f.0 f.1 in
      let pc = ap (λ (x : Hole). x.pc) f.3 in
      (omega (arith, pc, s.0), subst (λ (x : Hole). IsHole b.code x) (sym f.3) s.1, ap (λ (x : Hole). x.leaf) f.3)

  pub landing_holes : AreAllHoles b.code holes
  landing_holes = all_holes_from b.code holes (λ h i. (landing_hole h i).1)

  pub landing_target : (h : Hole) → IsHoleAmong h holes → (h.leaf < length targets) × (h.pc < slice_index targets h.leaf) × (slice_index targets h.leaf ≤ length b.code)
  landing_target h i =
      let f = landing_hole h i in
      let lt = hole_within b.code h f.1 in
      let to : slice_index targets h.leaf ≡ length b.code = ap (slice_index targets) f.2 in
      (omega (arith, f.2), omega (arith, to, lt), omega (arith, to))

  pub landing_closable : AreClosable from (length b.code) holes targets
  landing_closable = closable_from from (length b.code) holes targets (λ h i. let t = landing_target h i in ((landing_hole h i).0, t.1, t.2))

module _ (job : Job) (b : Sheet) (edges : List Edge) (n : ℕ) (known : List Known) (f : Flows job b edges) (st : JobStands job.first b edges) (common : IsCommonKnowledge edges n (Some known)) where
  abbrev pub landed_code : Sheet
  landed_code = with_targets b (landing_of n edges) (length b.code ∷ [])

  abbrev rest : List Edge
  rest = others_of n edges

  abbrev L : List Hole
  L = landing_of n edges

  abbrev lo : ℕ
  lo = length job.first.code

  len : length landed_code.code ≡ length b.code
  len = closed_length b L (length b.code ∷ [])

  module _ (final : List Instr) (fin : Finishes final landed_code.code (holes_of rest) lo (length landed_code.code)) where
    apart : (h : Hole) → IsHoleAmong h L → IsOpenTarget (holes_of rest) h.pc h.arm → ⊥
    apart h i o =
        let l = landed_from n edges h i in
        let e = open_edge rest h.pc h.arm o in
        let r = other_from n edges e.0 e.1 in
        r.1 (st.stand.one e.0 l.0 r.0 l.1 (e.2 ∙ ap (λ (x : Hole). x.pc) l.3) (e.3 ∙ ap (λ (x : Hole). x.arm) l.3) ∙ l.2)

    one : AreOfOneWay L
    one h k i j e g =
        let a = landing_hole b edges n lo st.stand.are_open h i in
        let c = landing_hole b edges n lo st.stand.are_open k j in a.2 ∙ sym c.2

    is_landed : IsLanded final b L (holes_of rest) (length b.code ∷ []) lo (length b.code)
    is_landed = closed_open final (holes_of rest) (length b.code ∷ []) lo (length b.code) L b (subst (λ k. Finishes final landed_code.code (holes_of rest) lo k) len fin) (landing_holes b edges n lo st.stand.are_open) one apart

    opens : (q : ℕ) (arm : Option ℕ) → IsOpenTarget (L ++ holes_of rest) q arm → IsOpenTarget (holes_of edges) q arm
    opens q arm o = elim (in_append L (holes_of rest) o.0 o.1) [
      | inl i ↦
          let l = landed_from n edges o.0 i in
          edge_open edges q arm l.0 l.1 (sym (ap (λ (x : Hole). x.pc) l.3) ∙ o.2) (sym (ap (λ (x : Hole). x.arm) l.3) ∙ o.3)
      | inr i ↦
          let e = open_edge rest q arm (o.0, i, o.2, o.3) in
          edge_open edges q arm e.0 (other_from n edges e.0 e.1).0 e.2 e.3
    ]

    pub all_open : Finishes final b.code (holes_of edges) lo (length b.code)
    all_open = λ q l h. agrees-sub final b.code b.code (holes_of edges) (L ++ holes_of rest) q refl (λ arm o. opens q arm o) (is_landed.finishes q l h)

    pub leads_here : (e : Edge) → IsEdge e edges → e.hole.leaf ≡ n → target_in (slice_get final e.hole.pc) e.hole.arm ≡ Some (length b.code)
    leads_here e i is =
        let s = st.stand.are_open e i in
        is_landed.leads (landing n e) (landed n edges e i is) s.0 (hole_within b.code e.hole s.1)

  pub land_flows : FlowsHere job landed_code rest known n
  land_flows = record {
    adds = adds_closed job.plan job.first b L (length b.code ∷ []) (length b.code) refl f.adds (landing_holes b edges n lo st.stand.are_open) (landing_closable b edges n lo st.stand.are_open);
    arrives = λ final callee next law fin s w clean v long given.
        let slots = closed_slots b L (length b.code ∷ []) in
        let a = f.arrives final callee next law (all_open final fin) s w clean v (omega (arith, long, slots)) given in
        at final next s w clean v fin a (a.edge.hole.leaf == n) refl;
  }
    where
      at : (final : List Instr) (next : Rattle.rb_target.specs.Meaning.Next) (s : List ℕ) (w : Rattle.rb_target.specs.Meaning.World) (clean : Bool) (v : Rattle.rb_core.specs.declared.value.Value.Value) → Finishes final landed_code.code (holes_of rest) lo (length landed_code.code)
          → (a : Arrives job final next edges s w clean v) → (u : Bool) → (a.edge.hole.leaf == n) ≡ u → Arrives job final next rest s w clean v ⊎ Lands job next (length landed_code.code) known n s w clean v
      at final next s w clean v fin a true t =
          let is = same-nat a.edge.hole.leaf n t in
          let to : a.target ≡ length landed_code.code = same_Some a.target (length b.code) (sym a.is_target ∙ leads_here final fin a.edge a.is_edge is) ∙ sym len in
          inr (record {
            slots = a.slots;
            world = a.world;
            runs = a.runs ∙ ap (λ k. next k a.slots a.world) to;
            keeps = a.keeps;
            path = a.path;
            later = a.later;
            is_known = common (view_of job.plan clean v job.spots a.slots w.memory) a.edge a.is_edge is a.known;
            on = subst (λ k. IsOn job v k a.path) is a.on;
          })
      at final next s w clean v fin a false t = inl (record {
        edge = a.edge;
        is_edge = other_kept n edges a.edge a.is_edge (other-nat a.edge.hole.leaf n t);
        target = a.target;
        is_target = a.is_target;
        slots = a.slots;
        world = a.world;
        runs = a.runs;
        keeps = a.keeps;
        path = a.path;
        later = a.later;
        known = a.known;
        on = a.on;
      })
