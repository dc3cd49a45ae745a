-- Ways of a constructor's leaves that save its fields in the same spots, and meet.
use Rattle.std.proofs.Common.{◌≡◌, ℕ, ◌==◌, true, List, [], ◌∷◌, map, length, Some, None, refl, sym, subst, ap, ◌∙◌, arith}
use Rattle.std.specs.Prelude.{if◌then◌else◌}
use Rattle.std.proofs.lemmas.Grind.{common_steps}
use Rattle.std.proofs.lemmas.List.{length-map}
use Rattle.std.proofs.lemmas.Option.{same_Some}
use Rattle.rb_core.specs.declared.value.Value.{Value, out-Value}
use Rattle.rb_core.specs.declared.value.Value.TheOpen as V
use Rattle.rb_core.specs.declared.types.ConRef.{ConRef}
use Rattle.rb_matrix.specs.declared.matrix.Head.TheVariants as H
use Rattle.rb_decide.specs.declared.decision_graph.GraphArm.{GraphArm}
use Rattle.rb_target.specs.declared.body.Hole.{Hole}
use Rattle.rb_target.specs.Growth.{Nowhere}
use Rattle.rb_target.specs.Meaning.{slots_at}
use Rattle.rb_target.specs.Sheet.{Sheet}
use Rattle.rb_target.specs.Targets.{Finishes}
use Rattle.rb_target.proofs.Finishing.{agrees-sub}
use Rattle.rb_layout.specs.declared.agreed.LaidOut.{LaidOut}
use Rattle.rb_fragment.specs.declared.reads.Read.{Slot}
use Rattle.rb_fragment.specs.Arms.{with_targets}
use Rattle.rb_fragment.proofs.Closing.{closed_is}
use Rattle.rb_fragment.proofs.MakingAll.{slots_fit, slots_meant}
use Rattle.rb_fragment.proofs.Patching.{adds_closed, closed_length, closed_slots, hole_within}
use Rattle.rb_facts.specs.declared.knowledge.Known.{Known}
use Rattle.rb_facts.specs.declared.knowledge.Spot.{Spot}
use Rattle.rb_facts.specs.declared.knowledge.Edge.{Edge}
use Rattle.rb_match.specs.declared.asking.Whole.{Whole}
use Rattle.rb_facts.specs.Knowing.{IsCommonKnowledge, view_of}
use Rattle.rb_facts.specs.Edges.{StandOpen, holes_of}
use Rattle.rb_facts.specs.Links.{take_link}
use Rattle.rb_match.specs.inner.Binding.{SavesTogether}
use Rattle.rb_match.specs.inner.Flowing.{landing_of}
use Rattle.rb_match.specs.inner.Opening.{AsksDeep}
use Rattle.rb_match.proofs.Edges.{edge_open, landed, landed_from, landing}
use Rattle.rb_match.proofs.Landing.{landing_closable, landing_hole, landing_holes}

-- the one arm of a constructor
abbrev pub arm_of : ConRef → List GraphArm
arm_of c = record { head = H.Con c; under = 0 } ∷ []

goes : (c : ConRef) (v : Value) (us : List Value) → out-Value v ≡ V.Con c.con us → take_link (arm_of c) None (out-Value v) ≡ Some 0
goes c v us is =
    let same : (c.con == c.con) ≡ true = grind (arith, common_steps) in
    ap (take_link (arm_of c) None) is ∙ ap (λ u. if u then Some 0 else None) same

pub saves_together : (agreed : LaidOut) (graph : Whole) (c : ConRef) (words : List ℕ) (spots : List Spot) (known : List Known) (old b : Sheet) (edges : List Edge)
    → AsksDeep agreed graph c.ty spots (map (λ x. Slot x) words) [] [] (arm_of c) None old b edges → graph.nodes.now ≡ [] → StandOpen old b edges → IsCommonKnowledge edges 0 (Some known) → SavesTogether agreed c words spots known old (with_targets b (landing_of 0 edges) (length b.code ∷ []))
saves_together agreed graph c words spots known old b edges asks none stand common = λ plan n of are low count.
    let a = asks plan n of are (slots_fit old.slots words low) (length-map words (λ x. Slot x) ∙ count) in
    let L = landing_of 0 edges in
    let ts = length b.code ∷ [] in
    let new = with_targets b L ts in
    let lo = length old.code in
    let len : length new.code ≡ length b.code = closed_length b L ts in
    let slots = closed_slots b L ts in
    let adds = adds_closed plan old b L ts (length b.code) refl a.adds (landing_holes b edges 0 lo stand.are_open) (landing_closable b edges 0 lo stand.are_open) in
    record {
      adds = adds;
      runs = λ clean v us is.
          record {
            adds = adds;
            low = are.low;
            runs = λ final callee next law agrees s w long pre.
                let shut = closed_is final L ts b lo (length b.code) (subst (λ k. Rattle.rb_target.specs.Growth.AgreesBut final new.code lo k Nowhere) len agrees) (landing_holes b edges 0 lo stand.are_open)
                (λ h k i j p q. (landing_hole b edges 0 lo stand.are_open h i).2 ∙ sym (landing_hole b edges 0 lo stand.are_open k j).2) in
                let fin : Finishes final b.code (holes_of edges) lo (length b.code) = λ q l h. agrees-sub final b.code b.code (holes_of edges) L q refl (λ arm o.
                let f = landed_from 0 edges o.0 o.1 in edge_open edges q arm f.0 f.1 (sym (ap (λ (x : Hole). x.pc) f.3) ∙ o.2) (sym (ap (λ (x : Hole). x.arm) f.3) ∙ o.3)) (shut.finishes q l h) in
                let r = a.leaves final callee next law fin s w v v clean (slots_at s words) 0 (omega (arith, long, slots)) pre.0 (slots_meant s w.memory words) pre.1 (λ i x e. absurd (let z = e in cc)) refl (goes c v us is) in
                let is_node : r.edge.hole.leaf ≡ 0 = r.is_node.3.1 none in
                let s1 = stand.are_open r.edge r.is_edge in
                let to : r.target ≡ length new.code = same_Some r.target (length b.code) (sym r.is_target ∙ shut.leads (landing 0 r.edge) (landed 0 edges r.edge r.is_edge is_node) s1.0 (hole_within b.code r.edge.hole s1.1)) ∙ sym len in
                let facts = common (view_of plan clean v spots r.slots w.memory) r.edge r.is_edge is_node r.known in
                (length new.code, r.slots, r.world, r.runs ∙ ap (λ k. next k r.slots r.world) to, r.keeps, r.later, (refl, (pre.0, facts)));
          };
    }
