-- Lists of edges: their holes, those of a node and the others.
use Rattle.std.proofs.Common.{◌≡◌, ℕ, zero, suc, ◌<◌, ◌≤◌, ◌==◌, ◌⊎◌, inl, inr, Bool, true, false, cond, not, filter, List, [], ◌∷◌, ◌++◌, length, Option, Some, refl, sym, subst, ap, ◌∙◌, arith}
use Rattle.std.specs.Prelude.{slice_get, slice_index, if◌then◌else◌}
use Rattle.std.proofs.lemmas.Grind.{common_steps}
use Rattle.std.proofs.lemmas.Option.{same_Some}
use Rattle.rb_target.specs.declared.instr.Instr.{Instr}
use Rattle.rb_target.specs.declared.body.Hole.{Hole}
use Rattle.rb_target.specs.Sheet.{IsHole}
use Rattle.rb_target.specs.Targets.{IsHoleAmong, IsOpenTarget}
use Rattle.rb_rel.proofs.Lists.{get-append, get-left, get-right, get-map, get-mapped}
use Rattle.rb_fragment.proofs.Patching.{AreAllHoles, AreClosable}
use Rattle.rb_fragment.specs.Arms.{AreHoles, ArePatchable}
use Rattle.rb_facts.specs.declared.knowledge.Edge.{Edge}
use Rattle.rb_facts.specs.Knowing.{IsEdge, View, AreKnown}
use Rattle.rb_facts.specs.Edges.{hole_of, holes_of}
use Rattle.rb_match.specs.inner.Asking.{is_test, known_at_node}
use Rattle.rb_match.specs.inner.Flowing.{landing_of, others_of}
use Rattle.rb_decide.specs.declared.decision_graph.GraphNode.{GraphNode}
use Rattle.rb_facts.specs.declared.knowledge.Known.{Known}
use Rattle.rb_facts.proofs.Numbers.{same-nat, other-nat}

pub in_none : (h : Hole) → IsHoleAmong h [] → ⊥
in_none h (k, e) = cc e

pub in_head : (h : Hole) (hs : List Hole) (o : Hole) → IsHoleAmong o (h ∷ hs) → (h ≡ o) ⊎ IsHoleAmong o hs
in_head h hs o (zero, e) = inl (same_Some h o e)
in_head h hs o (suc k, e) = inr (k, e)

pub in_tail : (h : Hole) (hs : List Hole) (o : Hole) → IsHoleAmong o hs → IsHoleAmong o (h ∷ hs)
in_tail h hs o (k, e) = (suc k, e)

pub in_append : (hs ks : List Hole) (h : Hole) → IsHoleAmong h (hs ++ ks) → IsHoleAmong h hs ⊎ IsHoleAmong h ks
in_append hs ks h i = elim (get-append hs ks i.0 h i.1) [ inl e ↦ inl (i.0, e) | inr r ↦ inr r ]

pub in_left : (hs ks : List Hole) (h : Hole) → IsHoleAmong h hs → IsHoleAmong h (hs ++ ks)
in_left hs ks h i = (i.0, get-left hs ks i.0 h i.1)

pub in_right : (hs ks : List Hole) (h : Hole) → IsHoleAmong h ks → IsHoleAmong h (hs ++ ks)
in_right hs ks h i = get-right hs ks i.0 h i.1

pub edge_append : (es fs : List Edge) (e : Edge) → IsEdge e (es ++ fs) → IsEdge e es ⊎ IsEdge e fs
edge_append es fs e i = elim (get-append es fs i.0 e i.1) [ inl x ↦ inl (i.0, x) | inr r ↦ inr r ]

pub edge_left : (es fs : List Edge) (e : Edge) → IsEdge e es → IsEdge e (es ++ fs)
edge_left es fs e i = (i.0, get-left es fs i.0 e i.1)

pub edge_right : (es fs : List Edge) (e : Edge) → IsEdge e fs → IsEdge e (es ++ fs)
edge_right es fs e i = get-right es fs i.0 e i.1

-- the hole of an edge, and the edge of a hole
pub to_hole : (es : List Edge) (e : Edge) → IsEdge e es → IsHoleAmong e.hole (holes_of es)
to_hole es e (k, at) = (k, get-mapped hole_of es k e at)

pub from_hole : (es : List Edge) (h : Hole) → IsHoleAmong h (holes_of es) → (e : Edge) × IsEdge e es × (h ≡ e.hole)
from_hole es h (k, at) = let m = get-map hole_of es k h at in (m.0, (k, m.1), m.2)

-- an open target is that of an edge
pub open_edge : (es : List Edge) (q : ℕ) (arm : Option ℕ) → IsOpenTarget (holes_of es) q arm → (e : Edge) × IsEdge e es × (e.hole.pc ≡ q) × (e.hole.arm ≡ arm)
open_edge es q arm o =
    let f = from_hole es o.0 o.1 in
    (f.0, f.1, ap (λ (h : Hole). h.pc) (sym f.2) ∙ o.2, ap (λ (h : Hole). h.arm) (sym f.2) ∙ o.3)

pub edge_open : (es : List Edge) (q : ℕ) (arm : Option ℕ) (e : Edge) → IsEdge e es → e.hole.pc ≡ q → e.hole.arm ≡ arm → IsOpenTarget (holes_of es) q arm
edge_open es q arm e i at is = (e.hole, to_hole es e i, at, is)

-- the edges of a node
module _ (n : ℕ) where
  abbrev pub landing : Edge → Hole
  landing e = record { pc = e.hole.pc; arm = e.hole.arm; leaf = 0 }

  pub landed : (es : List Edge) (e : Edge) → IsEdge e es → e.hole.leaf ≡ n → IsHoleAmong (landing e) (landing_of n es)
  landed [] e (k, at) is = absurd cc
  landed (x ∷ es) e (zero, at) is =
      let same : x ≡ e = same_Some x e at in
      let test : (x.hole.leaf == n) ≡ true = (let leaf = ap (λ (y : Edge). y.hole.leaf) same ∙ is in grind (arith, common_steps)) in
      subst (λ u. IsHoleAmong (landing e) (if u then landing x ∷ landing_of n es else landing_of n es)) (sym test) (0, ap (λ (y : Edge). Some (landing y)) same)
  landed (x ∷ es) e (suc k, at) is =
      let r = landed es e (k, at) is in go (x.hole.leaf == n) r
    where
      go : (u : Bool) → IsHoleAmong (landing e) (landing_of n es) → IsHoleAmong (landing e) (if u then landing x ∷ landing_of n es else landing_of n es)
      go true r = (suc r.0, r.1)
      go false r = r

  pub landed_from : (es : List Edge) (h : Hole) → IsHoleAmong h (landing_of n es) → (e : Edge) × IsEdge e es × (e.hole.leaf ≡ n) × (h ≡ landing e)
  landed_from [] h (k, at) = absurd cc
  landed_from (x ∷ es) h i = go (λ k at. landed_from es h (k, at)) (x.hole.leaf == n) refl i
    where
      rest : (e : Edge) × IsEdge e es × (e.hole.leaf ≡ n) × (h ≡ landing e) → (e : Edge) × IsEdge e (x ∷ es) × (e.hole.leaf ≡ n) × (h ≡ landing e)
      rest r = (r.0, (suc r.1.0, r.1.1), r.2, r.3)

      go : ((k : ℕ) → slice_get (landing_of n es) k ≡ Some h → (e : Edge) × IsEdge e es × (e.hole.leaf ≡ n) × (h ≡ landing e))
          → (u : Bool) → (x.hole.leaf == n) ≡ u → IsHoleAmong h (if u then landing x ∷ landing_of n es else landing_of n es) → (e : Edge) × IsEdge e (x ∷ es) × (e.hole.leaf ≡ n) × (h ≡ landing e)
      go more true t (zero, at) = (x, (0, refl), same-nat x.hole.leaf n t, sym (same_Some (landing x) h at))
      go more true t (suc k, at) = rest (more k at)
      go more false t j = rest (more j.0 j.1)

  pub other_kept : (es : List Edge) (e : Edge) → IsEdge e es → (e.hole.leaf ≡ n → ⊥) → IsEdge e (others_of n es)
  other_kept [] e (k, at) ne = absurd cc
  other_kept (x ∷ es) e (zero, at) ne = go (x.hole.leaf == n) refl
    where
      go : (u : Bool) → (x.hole.leaf == n) ≡ u → IsEdge e (if u then others_of n es else x ∷ others_of n es)
      go true t = absurd (ne (ap (λ (y : Edge). y.hole.leaf) (sym (same_Some x e at)) ∙ same-nat x.hole.leaf n t))
      go false t = (0, at)
  other_kept (x ∷ es) e (suc k, at) ne = let r = other_kept es e (k, at) ne in go (x.hole.leaf == n) r
    where
      go : (u : Bool) → IsEdge e (others_of n es) → IsEdge e (if u then others_of n es else x ∷ others_of n es)
      go true r = r
      go false r = (suc r.0, r.1)

  pub other_from : (es : List Edge) (e : Edge) → IsEdge e (others_of n es) → IsEdge e es × (e.hole.leaf ≡ n → ⊥)
  other_from [] e (k, at) = absurd cc
  other_from (x ∷ es) e i = go (λ j. let r = other_from es e j in ((suc r.0.0, r.0.1), r.1)) (x.hole.leaf == n) refl i
    where
      go : (IsEdge e (others_of n es) → IsEdge e (x ∷ es) × (e.hole.leaf ≡ n → ⊥)) → (u : Bool) → (x.hole.leaf == n) ≡ u → IsEdge e (if u then others_of n es else x ∷ others_of n es) → IsEdge e (x ∷ es) × (e.hole.leaf ≡ n → ⊥)
      go more true t j = more j
      go more false t (zero, at) = ((0, at), λ is. other-nat x.hole.leaf n t (ap (λ (y : Edge). y.hole.leaf) (same_Some x e at) ∙ is))
      go more false t (suc k, at) = more (k, at)

  -- what is kept where the node's edges are left out
  pub others_kept : (es : List Edge) → filter (λ (e : Edge). not (e.hole.leaf == n)) es ≡ others_of n es
  others_kept [] = refl
  others_kept (x ∷ es) = go (others_kept es) (x.hole.leaf == n)
    where
      go : filter (λ (e : Edge). not (e.hole.leaf == n)) es ≡ others_of n es → (u : Bool) → cond (not u) (x ∷ filter (λ (e : Edge). not (e.hole.leaf == n)) es) (filter (λ (e : Edge). not (e.hole.leaf == n)) es) ≡ (if u then others_of n es else x ∷ others_of n es)
      go rest true = rest
      go rest false = ap (λ l. x ∷ l) rest

-- lists from each of their holes
pub all_holes_from : (code : List Instr) (hs : List Hole) → ((h : Hole) → IsHoleAmong h hs → IsHole code h) → AreAllHoles code hs
all_holes_from code [] f = tt
all_holes_from code (h ∷ hs) f = (f h (0, refl), all_holes_from code hs (λ k i. f k (in_tail h hs k i)))

pub closable_from : (from m : ℕ) (hs : List Hole) (ts : List ℕ) → ((h : Hole) → IsHoleAmong h hs → (from ≤ h.pc) × (h.pc < slice_index ts h.leaf) × (slice_index ts h.leaf ≤ m)) → AreClosable from m hs ts
closable_from from m [] ts f = tt
closable_from from m (h ∷ hs) ts f = let x = f h (0, refl) in (x.0, x.1, x.2, closable_from from m hs ts (λ k i. f k (in_tail h hs k i)))

pub patchable_from : (code : List Instr) (hs : List Hole) (ts : List ℕ) → ((h : Hole) → IsHoleAmong h hs → IsHole code h × (h.leaf < length ts) × (h.pc < slice_index ts h.leaf)) → ArePatchable code hs ts
patchable_from code [] ts f = tt
patchable_from code (h ∷ hs) ts f = let x = f h (0, refl) in (x.0, x.1, x.2, patchable_from code hs ts (λ k i. f k (in_tail h hs k i)))

pub holes_from : (from count : ℕ) (code : List Instr) (hs : List Hole) → ((h : Hole) → IsHoleAmong h hs → (from ≤ h.pc) × (h.leaf < count) × IsHole code h) → AreHoles from count code hs
holes_from from count code [] f = tt
holes_from from count code (h ∷ hs) f = let x = f h (0, refl) in (x.0, x.1, x.2, holes_from from count code hs (λ k i. f k (in_tail h hs k i)))

-- each of some holes is one
pub hole_at : (from count : ℕ) (code : List Instr) (hs : List Hole) → AreHoles from count code hs → (h : Hole) → IsHoleAmong h hs → (from ≤ h.pc) × (h.leaf < count) × IsHole code h
hole_at from count code [] a h (k, at) = absurd cc
hole_at from count code (x ∷ hs) a h (zero, at) = subst (λ (y : Hole). (from ≤ y.pc) × (y.leaf < count) × IsHole code y) (same_Some x h at) (a.0, a.1, a.2)
hole_at from count code (x ∷ hs) a h (suc k, at) = hole_at from count code hs a.3 h (k, at)

-- holes of later code
pub holes-low : (from from1 count : ℕ) (code : List Instr) (hs : List Hole) → from1 ≤ from → AreHoles from count code hs → AreHoles from1 count code hs
holes-low from from1 count code [] le a = tt
holes-low from from1 count code (h ∷ hs) le a = (let x = a.0 in omega (arith, x, le), a.1, a.2, holes-low from from1 count code hs le a.3)

-- what an edge carries is so, too
pub carried_known : (nodes : List GraphNode) (node : ℕ) (view : View) (known : List Known) → AreKnown view known → AreKnown view (known_at_node nodes node known)
carried_known nodes node view known all = go (is_test (slice_get nodes node))
  where
    go : (u : Bool) → AreKnown view (if u then known else [])
    go true = all
    go false = λ i x at. absurd cc
