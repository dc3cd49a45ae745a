-- A test of an integer: one switch over its numbers.
use Rattle.std.proofs.Common.{◌≡◌, ℕ, ◌≤◌, zero, suc, ◌+◌, ◌<◌, ◌⊎◌, inl, inr, Bool, true, false, List, [], ◌∷◌, ◌++◌, length, Option, Some, None, refl, sym, subst, ap, ◌∙◌, arith, length-append}
use Rattle.std.specs.Prelude.{slice_get, slice_index, if◌then◌else◌, nat_eq, All, IfSome, is_some}
use Rattle.std.specs.Bool.{then_some}
use Rattle.std.proofs.lemmas.Bool.{false≢true, ltb-true, and_parts}
use Rattle.std.proofs.lemmas.List.{length-map}
use Rattle.std.proofs.lemmas.List.Elements.{All-nil, All-cons}
use Rattle.std.proofs.lemmas.Option.{same_Some, slice_get_within}
use Rattle.rb_core.specs.declared.value.Value.{out-Value}
use Rattle.rb_core.specs.declared.value.Value.TheOpen as V
use Rattle.rb_core.specs.declared.value.Value.TheVariants.{outs-Num}
use Rattle.rb_matrix.specs.declared.matrix.Head.{Head}
use Rattle.rb_matrix.specs.declared.matrix.Head.TheVariants as H
use Rattle.rb_matrix.specs.Heads.{layer_begins}
use Rattle.rb_decide.specs.declared.decision_graph.GraphArm.{GraphArm}
use Rattle.rb_decide.specs.declared.decision_graph.GraphNode.{GraphNode}
use Rattle.rb_bytes.specs.Memory.{Memory}
use Rattle.rb_target.specs.declared.instr.SwitchArm.{SwitchArm}
use Rattle.rb_target.specs.declared.instr.Instr.{Instr}
use Rattle.rb_target.specs.declared.instr.Instr.TheVariants.{Switch}
use Rattle.rb_target.specs.Growth.{Keeps, AgreesBut, Grows, Nowhere}
use Rattle.rb_target.specs.Meaning.{taken, with_switch, target_of, after_switch}
use Rattle.rb_target.specs.Sheet.{Sheet, with_more, IsHoleIn}
use Rattle.rb_target.specs.Targets.{without_targets, without_targets_in, target_in}
use Rattle.rb_target.specs.Validity.{IsTarget}
use Rattle.rb_target.proofs.Growing.{Grows-trans, Grows-append, get-append, get-seam}
use Rattle.rb_target.proofs.Shapes.{arm_hole, else_hole, hole_in, hole_target, switch_shape, target_shaped, numbers, pick, next_arm}
use Rattle.rb_rel.proofs.Represented.{Represents-int}
use Rattle.rb_fragment.specs.declared.reads.Read.{Read}
use Rattle.rb_fragment.specs.Reads.{MakesRead}
use Rattle.rb_fragment.specs.WordReads.{AreMeant}
use Rattle.rb_fragment.proofs.Adding.{Adds-trans, push_adds}
use Rattle.rb_facts.specs.declared.knowledge.Known.{Known}
use Rattle.rb_facts.specs.declared.knowledge.Edge.{Edge}
use Rattle.rb_facts.specs.Knowing.{IsEdge, view_of}
use Rattle.rb_facts.specs.Links.{take_link}
use Rattle.rb_match.specs.inner.Asking.{number_of_head, is_number, are_numbers, number_arm, number_arms, edge_in, arm_edges, else_edges, AsksNumber}
use Rattle.rb_facts.specs.Edges.{StandOpen}
use Rattle.rb_match.proofs.Edges.{edge_append, edge_left, edge_right, open_edge, carried_known}
use Rattle.rb_facts.proofs.Following.{known-kept}

-- the arm that is picked leads where the value goes
head_step : (h : Head) (under : ℕ) (rest p : Option ℕ) (x node : ℕ) → is_number h ≡ true → (if layer_begins h (V.Num x) then Some under else rest) ≡ Some node
    → ((under ≡ node) × ((if nat_eq (number_of_head h) x then Some 0 else next_arm p) ≡ Some 0)) ⊎ ((rest ≡ Some node) × ((if nat_eq (number_of_head h) x then Some 0 else next_arm p) ≡ next_arm p))
head_step (H.Con c) under rest p x node num e = absurd (false≢true num)
head_step (H.Num m) under rest p x node num e = go (nat_eq m x) e
  where
    go : (u : Bool) → (if u then Some under else rest) ≡ Some node
        → ((under ≡ node) × ((if u then Some 0 else next_arm p) ≡ Some 0)) ⊎ ((rest ≡ Some node) × ((if u then Some 0 else next_arm p) ≡ next_arm p))
    go true h = inl (same_Some under node h, refl)
    go false h = inr (h, refl)

pub Keeps-less : (n m : ℕ) (s s' : List ℕ) → n ≤ m → Keeps m s s' → Keeps n s s'
Keeps-less n m s s' le k = record { long = k.long; same = λ i lt. k.same i (omega (arith, lt, le)) }

module _ (nodes : List GraphNode) (read : Read) (known : List Known) (arms : List GraphArm) (other : Option ℕ) (old mid : Sheet) (slot : ℕ) where
  abbrev pc : ℕ
  pc = length mid.code

  abbrev ways : List SwitchArm
  ways = number_arms (pc + 1) arms

  abbrev pub switch : Instr
  switch = Switch slot (then_some (is_some other) (pc + 1)) ways

  abbrev pub new : Sheet
  new = with_more mid switch

  abbrev pub edges : List Edge
  edges = arm_edges nodes pc known arms 0 ++ else_edges nodes pc known other

  abbrev picked : List GraphArm → ℕ → Option ℕ
  picked ys x = pick (numbers (number_arms (pc + 1) ys)) x

  -- what an edge is
  arm_view : (ys : List GraphArm) (j : ℕ) (e : Edge) → IsEdge e (arm_edges nodes pc known ys j) → (k : ℕ) × (a : GraphArm) × (slice_get ys k ≡ Some a) × (e ≡ edge_in nodes pc (Some (j + k)) a.under known)
  arm_view [] j e (k, at) = absurd cc
  arm_view (y ∷ ys) j e (zero, at) = let z : j ≡ j + 0 = omega arith in (0, y, refl, sym (same_Some _ e at) ∙ ap (λ n. edge_in nodes pc (Some n) y.under known) z)
  arm_view (y ∷ ys) j e (suc k, at) = let r = arm_view ys (j + 1) e (k, at) in let z : j + 1 + r.0 ≡ j + suc r.0 = omega arith in (suc r.0, r.1, r.2, r.3 ∙ ap (λ n. edge_in nodes pc (Some n) r.1.under known) z)

  else_view : (o : Option ℕ) (e : Edge) → IsEdge e (else_edges nodes pc known o) → (link : ℕ) × (o ≡ Some link) × (e ≡ edge_in nodes pc None link known)
  else_view None e (k, at) = absurd cc
  else_view (Some link) e (zero, at) = (link, refl, sym (same_Some _ e at))
  else_view (Some link) e (suc k, at) = absurd cc

  abbrev IsArm : Edge → Type 0
  IsArm e = (k : ℕ) × (a : GraphArm) × (slice_get arms k ≡ Some a) × (e ≡ edge_in nodes pc (Some k) a.under known)

  abbrev IsElse : Edge → Type 0
  IsElse e = (link : ℕ) × (other ≡ Some link) × (e ≡ edge_in nodes pc None link known)

  view : (e : Edge) → IsEdge e edges → IsArm e ⊎ IsElse e
  view e i = elim (edge_append (arm_edges nodes pc known arms 0) (else_edges nodes pc known other) e i) [
    | inl j ↦ (let r = arm_view arms 0 e j in let z : 0 + r.0 ≡ r.0 = omega arith in inl (r.0, r.1, r.2, r.3 ∙ ap (λ n. edge_in nodes pc (Some n) r.1.under known) z))
    | inr j ↦ inr (else_view other e j)
  ]

  arm_edge : (ys : List GraphArm) (j k : ℕ) (a : GraphArm) → slice_get ys k ≡ Some a → IsEdge (edge_in nodes pc (Some (j + k)) a.under known) (arm_edges nodes pc known ys j)
  arm_edge [] j k a at = absurd cc
  arm_edge (y ∷ ys) j zero a at = let z : j ≡ j + 0 = omega arith in (0, ap (λ (b : GraphArm). Some (edge_in nodes pc (Some j) b.under known)) (same_Some y a at) ∙ ap (λ n. Some (edge_in nodes pc (Some n) a.under known)) z)
  arm_edge (y ∷ ys) j (suc k) a at = let r = arm_edge ys (j + 1) k a at in let z : j + 1 + k ≡ j + suc k = omega arith in (suc r.0, r.1 ∙ ap (λ n. Some (edge_in nodes pc (Some n) a.under known)) z)

  else_edge : (o : Option ℕ) (link : ℕ) → o ≡ Some link → IsEdge (edge_in nodes pc None link known) (else_edges nodes pc known o)
  else_edge None link e = absurd cc
  else_edge (Some l) link e = (0, ap (λ n. Some (edge_in nodes pc None n known)) (same_Some l link e))

  -- each is a hole of the switch
  is_hole : (o : Option Instr) → without_targets_in o ≡ Some (without_targets switch) → (e : Edge) → IsEdge e edges → IsHoleIn o e.hole.arm
  is_hole o is e i = elim (view e i) [
    | inl a ↦
        let lt = slice_get_within arms a.0 a.1 a.2 in
        let n : length ways ≡ length arms = length-map arms (λ (x : GraphArm). number_arm (pc + 1) x.head) in
        subst (λ (x : Edge). IsHoleIn o x.hole.arm) (sym a.3) (arm_hole o slot (then_some (is_some other) (pc + 1)) ways a.0 is (omega (arith, lt, n)))
    | inr l ↦ subst (λ (x : Edge). IsHoleIn o x.hole.arm) (sym l.2) (else_hole o slot (pc + 1) ways (is ∙ ap (λ x. Some (without_targets (Switch slot (then_some (is_some x) (pc + 1)) ways))) l.1))
  ]

  is_pc : (e : Edge) → IsEdge e edges → e.hole.pc ≡ pc
  is_pc e i = elim (view e i) [ inl a ↦ ap (λ (x : Edge). x.hole.pc) a.3 | inr l ↦ ap (λ (x : Edge). x.hole.pc) l.2 ]

  same_node : (e f : Edge) → IsArm e ⊎ IsElse e → IsArm f ⊎ IsElse f → e.hole.arm ≡ f.hole.arm → e.hole.leaf ≡ f.hole.leaf
  same_node e f (inl a) (inl c) s =
      let k : a.0 ≡ c.0 = same_Some a.0 c.0 (sym (ap (λ (x : Edge). x.hole.arm) a.3) ∙ s ∙ ap (λ (x : Edge). x.hole.arm) c.3) in
      let is : a.1 ≡ c.1 = same_Some a.1 c.1 (sym a.2 ∙ ap (slice_get arms) k ∙ c.2) in
      ap (λ (x : Edge). x.hole.leaf) a.3 ∙ ap (λ (x : GraphArm). x.under) is ∙ sym (ap (λ (x : Edge). x.hole.leaf) c.3)
  same_node e f (inl a) (inr l) s = absurd (let z = sym (ap (λ (x : Edge). x.hole.arm) a.3) ∙ s ∙ ap (λ (x : Edge). x.hole.arm) l.2 in cc)
  same_node e f (inr l) (inl a) s = absurd (let z = sym (ap (λ (x : Edge). x.hole.arm) l.2) ∙ s ∙ ap (λ (x : Edge). x.hole.arm) a.3 in cc)
  same_node e f (inr l) (inr m) s =
      let is : l.0 ≡ m.0 = same_Some l.0 m.0 (sym l.1 ∙ m.1) in
      ap (λ (x : Edge). x.hole.leaf) l.2 ∙ is ∙ sym (ap (λ (x : Edge). x.hole.leaf) m.2)

  pub number_stand : Grows old.code mid.code → StandOpen old new edges
  number_stand g = record {
    are_open = λ e i.
        let at = is_pc e i in
        (omega (arith, at, g.longer), subst (λ q. IsHoleIn (slice_get new.code q) e.hole.arm) (sym at) (is_hole (slice_get new.code pc) (ap without_targets_in (get-seam mid.code switch [])) e i));
    one = λ e f i j p s. same_node e f (view e i) (view f j) s;
  }

  pub number_grows : Grows old.code mid.code → Grows old.code new.code
  number_grows g = Grows-trans _ _ _ g (Grows-append mid.code (switch ∷ []))

  -- the edge of the arm that is picked
  abbrev Goes : List GraphArm → ℕ → ℕ → Type 0
  Goes ys x node = ((k : ℕ) × (a : GraphArm) × (slice_get ys k ≡ Some a) × (a.under ≡ node) × (picked ys x ≡ Some k)) ⊎ ((other ≡ Some node) × (picked ys x ≡ None))

  goes : (ys : List GraphArm) (x node : ℕ) → are_numbers ys ≡ true → take_link ys other (V.Num x) ≡ Some node → Goes ys x node
  goes [] x node nums e = inr (e, refl)
  goes (y ∷ ys) x node nums e =
      let n = and_parts (is_number y.head) (are_numbers ys) nums in
      elim (head_step y.head y.under (take_link ys other (V.Num x)) (picked ys x) x node n.0 e) [
        | inl h ↦ inl (0, y, refl, h.0, h.1)
        | inr h ↦ elim (goes ys x node n.1 h.0) [
          | inl r ↦ inl (suc r.0, r.1, r.2, r.3, h.1 ∙ ap next_arm r.4)
          | inr r ↦ inr (r.0, h.1 ∙ ap next_arm r.1)
        ]
      ]

  edge_of : (x node : ℕ) → Goes arms x node → IsEdge (edge_in nodes pc (picked arms x) node known) edges
  edge_of x node (inl r) =
      let z : 0 + r.0 ≡ r.0 = omega arith in
      subst (λ p. IsEdge (edge_in nodes pc p node known) edges) (sym r.4) (subst (λ n. IsEdge (edge_in nodes pc (Some r.0) n known) edges) r.3
      (subst (λ n. IsEdge (edge_in nodes pc (Some n) r.1.under known) edges) z (edge_left _ (else_edges nodes pc known other) _ (arm_edge arms 0 r.0 r.1 r.2))))
  edge_of x node (inr r) = subst (λ p. IsEdge (edge_in nodes pc p node known) edges) (sym r.1) (edge_right (arm_edges nodes pc known arms 0) (else_edges nodes pc known other) _ (else_edge other node r.0))

  arms_small : (ys : List GraphArm) → are_numbers ys ≡ true → All (λ (x : SwitchArm). x.number < 18446744073709551616) (number_arms (pc + 1) ys)
  arms_small [] nums = All-nil (λ (x : SwitchArm). x.number < 18446744073709551616)
  arms_small (y ∷ ys) nums =
      let n = and_parts (is_number y.head) (are_numbers ys) nums in
      All-cons (λ (x : SwitchArm). x.number < 18446744073709551616) (number_arm (pc + 1) y.head) (number_arms (pc + 1) ys) (small y.head n.0) (arms_small ys n.1)
    where
      small : (h : Head) → is_number h ≡ true → number_of_head h < 18446744073709551616
      small (H.Num n) e = ltb-true n 18446744073709551616 e
      small (H.Con c) e = absurd (false≢true e)

  arms_forward : (ys : List GraphArm) → All (λ (x : SwitchArm). IsTarget (pc + 1 + 1) pc x.target) (number_arms (pc + 1) ys)
  arms_forward [] = All-nil (λ (x : SwitchArm). IsTarget (pc + 1 + 1) pc x.target)
  arms_forward (y ∷ ys) = All-cons (λ (x : SwitchArm). IsTarget (pc + 1 + 1) pc x.target) (number_arm (pc + 1) y.head) (number_arms (pc + 1) ys) (omega arith, omega arith) (arms_forward ys)

  else_forward : (o : Option ℕ) → IfSome (then_some (is_some o) (pc + 1)) (λ t. IsTarget (pc + 1 + 1) pc t)
  else_forward None = tt
  else_forward (Some t) = (omega arith, omega arith)

  one_word : (s : List ℕ) (m : Memory) (ws : List ℕ) (x : ℕ) → AreMeant (read ∷ []) s m ws → ws ≡ x ∷ [] → Rattle.rb_fragment.specs.Reads.mean read s m ≡ Some x
  one_word s m ws x h e = (subst (λ us. AreMeant (read ∷ []) s m us) e h).0

  pub asks_number : MakesRead read old mid slot → are_numbers arms ≡ true → AsksNumber (read ∷ []) known arms other old new edges
  asks_number makes nums = λ plan n bits position spots low below fit.
      let mk = makes plan old.slots (omega arith) fit.0 in
      let last = push_adds plan mid switch (record { bounded = arms_small arms nums; slots_fit = mk.given; targets = (else_forward other, arms_forward arms); calls = tt }) in
      let len : length new.code ≡ pc + 1 = length-append mid.code (switch ∷ []) in
      let longer = mk.adds.grows.longer in
      record {
        adds = Adds-trans plan old mid new mk.adds last;
        leaves = λ final callee next law fin s w v part clean ws node long good meant rep all at takes.
            let int = Represents-int plan.program.types plan.layouts w.memory clean bits part ws rep in
            let x = int.0 in
            let word = one_word s w.memory ws x meant int.2 in
            let agrees : AgreesBut final mid.code (length old.code) pc Nowhere = record {
              same = λ q lo hi out. (fin q lo (omega (arith, hi, len))).same (λ arm o. let e = open_edge edges q arm o in let p = is_pc e.0 e.1 in let z = e.2 in omega (arith, p, z, hi)) ∙ get-append mid.code (switch ∷ []) q hi;
            } in
            let r = (mk.runs x).runs final callee next law agrees s w (omega (arith, long)) (good, word) in
            let a = fin pc longer (omega (arith, len)) in
            let shaped = a.shapes ∙ ap without_targets_in (get-seam mid.code switch []) in
            let sw = switch_shape (slice_get final pc) slot (then_some (is_some other) (pc + 1)) ways shaped in
            let link : take_link arms other (V.Num x) ≡ Some node = ap (take_link arms other) (sym (outs-Num x)) ∙ ap (λ u. take_link arms other (out-Value u)) (sym int.1) ∙ takes in
            let i = edge_of x node (goes arms x node nums link) in
            let hole = hole_in (slice_get final pc) (picked arms x) (is_hole (slice_get final pc) shaped (edge_in nodes pc (picked arms x) node known) i) in
            let t = hole_target hole.0 (picked arms x) hole.2 in
            let to : target_in (slice_get final pc) (picked arms x) ≡ Some t.0 = ap (λ o. target_in o (picked arms x)) hole.1 ∙ t.1 in
            let goes_to : target_of sw.list sw.other (slice_index r.1 slot) ≡ Some t.0 =
            ap (target_of sw.list sw.other) r.6.1 ∙ target_shaped slot sw.other ways sw.list x sw.same ∙ sym (ap (λ o. target_in o (picked arms x)) sw.is) ∙ to in
            let w1 = with_switch (taken r.2) in
            let ran : next pc r.1 r.2 ≡ next t.0 r.1 w1 = law.step pc (Switch slot sw.other sw.list) r.1 r.2 sw.is ∙ ap (λ o. after_switch o (slice_index r.1 slot) w1 (λ k. next k r.1 w1)) goes_to in
            record {
              edge = edge_in nodes pc (picked arms x) node known;
              is_edge = i;
              is_node = refl;
              target = t.0;
              is_target = to;
              slots = r.1;
              world = w1;
              runs = r.3 ∙ ap (λ q. next q r.1 r.2) r.6.0 ∙ ran;
              keeps = Keeps-less n old.slots s r.1 low r.4;
              later = record { memory = r.5.memory; left = r.5.left; switches = omega (arith, r.5.switches) };
              known = carried_known nodes node (view_of plan clean v spots r.1 w.memory) known (known-kept old.slots plan clean v spots s r.1 w.memory r.4 below known all);
            };
      }
