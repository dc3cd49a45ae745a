-- Where edges lead on: from a test that what is known decides to the node of its arm.
use Rattle.std.proofs.Common.{◌≡◌, ℕ, zero, suc, ◌+◌, ◌≤◌, List, [], ◌∷◌, ◌++◌, Option, Some, None, refl, sym, subst, ap, ◌∙◌, arith}
use Rattle.std.specs.Prelude.{IfSome, slice_get}
use Rattle.std.proofs.lemmas.Option.{same_Some}
use Rattle.rb_core.specs.declared.value.Value.{out-Value}
use Rattle.rb_core.specs.declared.value.Value.TheOpen as V
use Rattle.rb_core.specs.declared.types.Ty.{Ty}
use Rattle.rb_core.specs.declared.program.Program.{Program}
use Rattle.rb_core.specs.declared.pattern.Pat.{Pat}
use Rattle.rb_decide.specs.declared.decision_graph.GraphArm.{GraphArm}
use Rattle.rb_decide.specs.declared.decision_graph.GraphNode.{GraphNode}
use Rattle.rb_decide.specs.declared.decision_graph.GraphNode.TheVariants.{Test}
use Rattle.rb_target.specs.Sheet.{IsHoleIn}
use Rattle.rb_layout.specs.declared.agreed.LaidOut.{LaidOut}
use Rattle.rb_facts.specs.declared.knowledge.Known.{Known}
use Rattle.rb_facts.specs.declared.knowledge.Edge.{Edge}
use Rattle.rb_facts.specs.Looks.{TypedPosition}
use Rattle.rb_facts.specs.Knowing.{IsEdge, view_of}
use Rattle.rb_facts.specs.Places.{IsLookedAt}
use Rattle.rb_facts.specs.Links.{take_link}
use Rattle.rb_facts.specs.Ways.{IsOn, job_of}
use Rattle.rb_facts.specs.Threading.{AllFollow, AreThreaded, IsThreaded, LeadsOn, Threads}
use Rattle.rb_facts.specs.inner.Threading.{Ascend, TellsConstructor, IsDecided, TellTogether}
use Rattle.rb_facts.proofs.LinkForms.{link_same}
use Rattle.rb_facts.proofs.Passing.{passes, tested, looks-snoc}

-- Tests

decides : (agreed : LaidOut) (ty at : Ty) (pats : List Pat) (known : List Known) (position : List ℕ) (arms : List GraphArm) (other : Option ℕ) (sub : Pat) (node c : ℕ) → TellTogether agreed known position sub → TellsConstructor sub c
    → IsLookedAt agreed.covered.program.types ty pats position at → take_link arms other (V.Con c []) ≡ Some node → IsDecided agreed ty pats known position arms other node
decides agreed ty at pats known position arms other sub node c t begins looked link = record {
  at = at;
  looked = looked;
  takes = λ view of all.
      let m = t view of all in
      let b = begins m.0 m.2 in
      (m.0, m.1, ap (take_link arms other) b.1 ∙ link_same arms other c b.0 ∙ link);
}

pub decides_option : (agreed : LaidOut) (ty at : Ty) (pats : List Pat) (known : List Known) (position : List ℕ) (arms : List GraphArm) (other o : Option ℕ) (sub : Pat) (c : ℕ) → TellTogether agreed known position sub → TellsConstructor sub c
    → IsLookedAt agreed.covered.program.types ty pats position at → o ≡ take_link arms other (V.Con c []) → IfSome o (λ node. IsDecided agreed ty pats known position arms other node)
decides_option agreed ty at pats known position arms other None sub c t begins looked link = tt
decides_option agreed ty at pats known position arms other (Some node) sub c t begins looked link = decides agreed ty at pats known position arms other sub node c t begins looked (sym link)

-- Nodes

module _ (agreed : LaidOut) (ty : Ty) (pats : List Pat) (nodes : List GraphNode) where
  pub leads_refl : (known : List Known) (n : ℕ) → LeadsOn agreed ty pats nodes known n n
  leads_refl known n = λ plan base spots words root first of lower clean v s w clause path all root_takes on. (path, omega arith, on)

  pub leads_trans : (known : List Known) (n k m : ℕ) → LeadsOn agreed ty pats nodes known n k → LeadsOn agreed ty pats nodes known k m → LeadsOn agreed ty pats nodes known n m
  leads_trans known n k m f g = λ plan base spots words root first of lower clean v s w clause path all root_takes on.
      let a = f plan base spots words root first of lower clean v s w clause path all root_takes on in
      let b = g plan base spots words root first of lower clean v s w clause a.0 all root_takes a.2 in
      (b.0, (let x = a.1 in let y = b.1 in omega (arith, x, y)), b.2)

  -- where less is known
  pub leads_less : (known more : List Known) (n m : ℕ) → AllFollow agreed known more → LeadsOn agreed ty pats nodes more n m → LeadsOn agreed ty pats nodes known n m
  leads_less known more n m follow f = λ plan base spots words root first of lower clean v s w clause path all root_takes on.
      f plan base spots words root first of lower clean v s w clause path (follow (view_of plan clean v spots s w) of all) root_takes on

  pub leads_test : (known : List Known) (n m : ℕ) (position : List ℕ) (arms : List GraphArm) (other : Option ℕ) → slice_get nodes n ≡ Some (Test position arms other) → IsDecided agreed ty pats known position arms other m → LeadsOn agreed ty pats nodes known n m
  leads_test known n m position arms other at d = λ plan base spots words root first of lower clean v s w clause path all root_takes on.
      let job = job_of plan base spots ty words pats nodes root first in
      let t = tested job lower n position arms other at v clause (on.same clause root_takes) in
      let k = d.takes (view_of plan clean v spots s w) of all in
      let same : t.part ≡ k.0 = same_Some t.part k.0 (sym t.is_part ∙ k.1) in
      let node : t.node ≡ m = same_Some t.node m (sym t.is_node ∙ ap (λ u. take_link arms other (out-Value u)) same ∙ k.2) in
      let place : TypedPosition = record { path = position; ty = d.at } in
      let looked = subst (λ (g : Program). IsLookedAt g.types ty pats position d.at) (sym of.program) d.looked in
      let p = passes job lower n position arms other at v clause path d.at root_takes on looked t in
      let sum = looks-snoc plan path place in
      (path ++ place ∷ [], omega (arith, sum), subst (λ i. IsOn job v i (path ++ place ∷ [])) node p)

  -- Edges

  abbrev One : Edge → Edge → Type 0
  One = IsThreaded agreed ty pats nodes

  abbrev Are : List Edge → List Edge → Type 0
  Are = AreThreaded agreed ty pats nodes

  pub thread_refl : (es : List Edge) → Are es es
  thread_refl [] = tt
  thread_refl (e ∷ es) = (record { pc = refl; arm = refl; known = λ at of all. all; leads = leads_refl e.known e.hole.leaf }, thread_refl es)

  pub thread_append : (es fs gs hs : List Edge) → Are es fs → Are gs hs → Are (es ++ gs) (fs ++ hs)
  thread_append [] [] gs hs a b = b
  thread_append [] (f ∷ fs) gs hs a b = absurd a
  thread_append (e ∷ es) [] gs hs a b = absurd a
  thread_append (e ∷ es) (f ∷ fs) gs hs a b = (a.0, thread_append es fs gs hs a.1 b)

  pub thread_push : (es fs : List Edge) (e f : Edge) → Are es fs → One e f → Are (es ++ e ∷ []) (fs ++ f ∷ [])
  thread_push es fs e f a one = thread_append es fs (e ∷ []) (f ∷ []) a (one, tt)

  -- what an edge was before it was led on
  pub was : (es fs : List Edge) → Are es fs → (f : Edge) → IsEdge f fs → (e : Edge) × IsEdge e es × One e f
  was es [] a f (k, at) = absurd cc
  was [] (y ∷ fs) a f i = absurd a
  was (x ∷ es) (y ∷ fs) a f (zero, at) = (x, (0, refl), subst (λ z. One x z) (same_Some y f at) a.0)
  was (x ∷ es) (y ∷ fs) a f (suc k, at) = let r = was es fs a.1 f (k, at) in (r.0, (suc r.1.0, r.1.1), r.2)

  -- no two of ascending edges are at one instruction
  at_least : (from : ℕ) (es : List Edge) → Ascend from es → (e : Edge) → IsEdge e es → from ≤ e.hole.pc
  at_least from [] a e (k, at) = absurd cc
  at_least from (x ∷ es) a e (zero, at) = subst (λ (y : Edge). from ≤ y.hole.pc) (same_Some x e at) a.0
  at_least from (x ∷ es) a e (suc k, at) = let r = at_least (x.hole.pc + 1) es a.1 e (k, at) in let lo = a.0 in omega (arith, r, lo)

  alone : (from : ℕ) (es : List Edge) → Ascend from es → (e f : Edge) → IsEdge e es → IsEdge f es → e.hole.pc ≡ f.hole.pc → e ≡ f
  alone from [] a e f (k, at) j same = absurd cc
  alone from (x ∷ es) a e f (zero, at) (zero, at1) same = sym (same_Some x e at) ∙ same_Some x f at1
  alone from (x ∷ es) a e f (zero, at) (suc j, at1) same =
      let lo = at_least (x.hole.pc + 1) es a.1 f (j, at1) in let is = ap (λ (y : Edge). y.hole.pc) (same_Some x e at) in absurd (omega (arith, lo, is, same))
  alone from (x ∷ es) a e f (suc i, at) (zero, at1) same =
      let lo = at_least (x.hole.pc + 1) es a.1 e (i, at) in let is = ap (λ (y : Edge). y.hole.pc) (same_Some x f at1) in absurd (omega (arith, lo, is, same))
  alone from (x ∷ es) a e f (suc i, at) (suc j, at1) same = alone (x.hole.pc + 1) es a.1 e f (i, at) (j, at1) same

  ascends : (from : ℕ) (es fs : List Edge) → Are es fs → Ascend from es → Ascend from fs
  ascends from [] [] a up = tt
  ascends from [] (f ∷ fs) a up = absurd a
  ascends from (e ∷ es) [] a up = absurd a
  ascends from (e ∷ es) (f ∷ fs) a up = (let lo = up.0 in let pc = a.0.pc in omega (arith, lo, pc), ascends (f.hole.pc + 1) es fs a.1 (subst (λ p. Ascend (p + 1) es) (sym a.0.pc) up.1))

  pub threads_open : (es fs : List Edge) → Are es fs → Ascend 0 es → Threads agreed ty pats nodes es fs
  threads_open es fs a up = record {
    threaded = a;
    stand = λ before after st. record {
      are_open = λ f i.
          let w = was es fs a f i in
          let s = st.are_open w.0 w.1 in
          let pc = w.2.pc in
          (omega (arith, s.0, pc), subst (λ p. IsHoleIn (slice_get after.code p) f.hole.arm) (sym w.2.pc) (subst (λ o. IsHoleIn (slice_get after.code w.0.hole.pc) o) (sym w.2.arm) s.1));
      one = λ e f i j p s. ap (λ (x : Edge). x.hole.leaf) (alone 0 fs (ascends 0 es fs a up) e f i j p);
    };
  }

  pub threads_same : (es : List Edge) → Threads agreed ty pats nodes es es
  threads_same es = record { threaded = thread_refl es; stand = λ before after st. st }
