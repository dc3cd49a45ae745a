-- Where the tests on the way to a leaf pass in a memory, and what they read has ranges in an image, the splits lead to the leaf
-- there too.
use Rattle.std.proofs.Common.{◌≡◌, ℕ, suc, nat_eq, inl, inr, map, List, [], ◌∷◌, ◌++◌, Bool, true, false, Option, Some, None, Result, Ok, refl, sym, subst, ap, ◌∙◌}
use Rattle.std.specs.Prelude.{slice_get, if◌then◌else◌}
use Rattle.std.proofs.lemmas.Option.{same_Some}
use Rattle.rb_core.specs.declared.layout_decl.Loc.{Loc}
use Rattle.rb_bytes.specs.Memory.{Memory}
use Rattle.rb_layout.specs.declared.layout.FlatTree.{FlatTree, Split, Leaf}
use Rattle.rb_layout.specs.declared.layout.FlatArm.{FlatArm}
use Rattle.rb_layout.specs.A7.{IsTestAbove}
use Rattle.rb_layout.specs.Splits.{Test, Is, IsNone, Route, under_test, Under, arm_routes, else_routes, literals_of, routes_of, routes_under}
use Rattle.rb_layout.proofs.FlatForms.{Each, tree-induction}
use Rattle.rb_rel.proofs.Lists.{get-append, get-left, get-mapped, get-right}
use Rattle.rb_coding.specs.Arms.{under_number}
use Rattle.rb_coding.specs.inner.Leading.{RouteLeads}
use Rattle.rb_coding.proofs.SplitLemmas.{leaf_only, turn}
use Rattle.rb_image_text.specs.declared.fault.ImageFault.{ImageFault}
use Rattle.rb_image_text.specs.declared.image.ImageBlock.{ImageBlock}
use Rattle.rb_coding.proofs.SplitLemmas.{arms_routes, other_routes, tree_routes, under_is}
use Rattle.rb_image.specs.declared.kept.Kept.{Kept}
use Rattle.rb_image.specs.Splits.{leaf_at}
use Rattle.rb_image.proofs.FallingWords.{HasRange}
use Rattle.rb_image.proofs.WalkLemmas.{leaf_walk, split_turn}

-- Routes below a split -----------------------------------------------------------------------
abbrev pub loc_of : Test → Loc
loc_of (Is loc c) = loc
loc_of (IsNone loc cs) = loc

-- a route that stands among others, behind a test of this location
record IsBehind (loc : Loc) (r : Route) (rs : List Route) : Type 0 where
  place : ℕ
  test : Test
  is_loc : loc_of test ≡ loc
  is_route : slice_get rs place ≡ Some (under_test test r)

behind_else : (loc : Loc) (cs : List ℕ) (other : Option FlatTree) (next : FlatTree) → other ≡ Some next → (k : ℕ) (r : Route) → slice_get (routes_of next) k ≡ Some r
    → IsBehind loc r (else_routes loc cs (other_routes other))
behind_else loc cs None next e k r at = absurd cc
behind_else loc cs (Some t) next e k r at = record {
  place = k;
  test = IsNone loc cs;
  is_loc = refl;
  is_route = get-mapped (under_test (IsNone loc cs)) (routes_of t) k r (ap (λ (x : FlatTree). slice_get (routes_of x) k) (same_Some t next e) ∙ at);
}

behind_arms : (loc : Loc) (cs : List ℕ) (arms : List FlatArm) (other : Option FlatTree) (n : ℕ) (next : FlatTree) → under_number arms other n ≡ Some next
    → (k : ℕ) (r : Route) → slice_get (routes_of next) k ≡ Some r → IsBehind loc r (arms_routes loc arms ++ else_routes loc cs (other_routes other))
behind_arms loc cs [] other n next e k r at = behind_else loc cs other next e k r at
behind_arms loc cs (a ∷ arms) other n next e k r at = go (λ h. behind_arms loc cs arms other n next h k r at) (nat_eq a.literal n) e
  where
    first : List Route
    first = arm_routes loc (routes_under a)

    rest : List Route
    rest = arms_routes loc arms

    last : List Route
    last = else_routes loc cs (other_routes other)

    further : IsBehind loc r (rest ++ last) → IsBehind loc r ((first ++ rest) ++ last)
    further b = elim (get-append rest last b.place (under_test b.test r) b.is_route) [
      | inl h ↦
          let g = get-right first rest b.place (under_test b.test r) h in
          record { place = g.0; test = b.test; is_loc = b.is_loc; is_route = get-left (first ++ rest) last g.0 (under_test b.test r) g.1 }
      | inr h ↦
          let g = get-right (first ++ rest) last h.0 (under_test b.test r) h.1 in
          record { place = g.0; test = b.test; is_loc = b.is_loc; is_route = g.1 }
    ]

    here : a.under ≡ next → IsBehind loc r ((first ++ rest) ++ last)
    here same =
        let test = Is loc a.literal in
        let g : slice_get (map (under_test test) (routes_of a.under)) k ≡ Some (under_test test r) =
        get-mapped (under_test test) (routes_of a.under) k r (ap (λ (x : FlatTree). slice_get (routes_of x) k) same ∙ at) in
        let f : slice_get first k ≡ Some (under_test test r) = ap (λ (u : Under (List Route)). slice_get (arm_routes loc u) k) (under_is a) ∙ g in
        record { place = k; test = test; is_loc = refl; is_route = get-left (first ++ rest) last k (under_test test r) (get-left first rest k (under_test test r) f) }

    go : (under_number arms other n ≡ Some next → IsBehind loc r (rest ++ last)) → (b : Bool) → (if b then Some a.under else under_number arms other n) ≡ Some next → IsBehind loc r ((first ++ rest) ++ last)
    go more true h = here (same_Some a.under next h)
    go more false h = further (more h)

-- Trees --------------------------------------------------------------------------------------
module _ (blocks : List ImageBlock) (xs : List Kept) (ws : List ℕ) (m : Memory) (leaf : ℕ) where
  -- each location on the ways to the leaf
  abbrev pub HaveRanges : FlatTree → Type 0
  HaveRanges tree = (test : Test) → IsTestAbove tree leaf test → HasRange blocks xs ws m (loc_of test)

  abbrev IsLed : FlatTree → Type 0
  IsLed tree = RouteLeads ws m tree leaf → HaveRanges tree → ◌≡◌ {A = Result ℕ ImageFault} (leaf_at tree blocks xs) (Ok leaf)

  led_under : (arms : List FlatArm) (other : Option FlatTree) → Each (λ (a : FlatArm). IsLed a.under) arms → ((next : FlatTree) → other ≡ Some next → IsLed next)
      → (n : ℕ) (next : FlatTree) → under_number arms other n ≡ Some next → IsLed next
  led_under [] other each last n next e = last next e
  led_under (a ∷ arms) other each last n next e = go (λ h. led_under arms other each.1 last n next h) (nat_eq a.literal n) e
    where
      go : (under_number arms other n ≡ Some next → IsLed next) → (b : Bool) → (if b then Some a.under else under_number arms other n) ≡ Some next → IsLed next
      go more true h = subst IsLed (same_Some a.under next h) each.0
      go more false h = more h

  led_split : (loc : Loc) (arms : List FlatArm) (other : Option FlatTree) → Each (λ (a : FlatArm). IsLed a.under) arms → ((next : FlatTree) → other ≡ Some next → IsLed next) → IsLed (Split loc arms other)
  led_split loc arms other each last leads ranges =
      let tree : FlatTree = Split loc arms other in
      let t = turn ws m tree loc arms other leaf refl leads in
      let b = behind_tree t.n t.next t.is_next t.leads.number t.leads.route t.leads.is_route in
      let x = subst (HasRange blocks xs ws m) b.is_loc (ranges b.test (record {
        route_number = b.place;
        route = under_test b.test t.leads.route;
        number = 0;
        is_route = b.is_route;
        leads = t.leads.is_leaf;
        is_test = refl;
      })) in
      let same : x.range.number ≡ t.n = same_Some x.range.number t.n (sym x.is_read ∙ t.reads.is_read) in
      let under : Some t.next ≡ under_number arms other x.range.number = sym (ap (under_number arms other) same ∙ t.is_next) in
      let below = led_under arms other each last t.n t.next t.is_next t.leads (λ test above.
      (let c = behind_tree t.n t.next t.is_next above.route_number above.route above.is_route in
      ranges test (record {
        route_number = c.place;
        route = under_test c.test above.route;
        number = suc above.number;
        is_route = c.is_route;
        leads = above.leads;
        is_test = above.is_test;
      }))) in
      split_turn tree loc arms other blocks xs x.range (Some t.next) refl x.is_range under ∙ below
    where
      behind_tree : (n : ℕ) (next : FlatTree) → under_number arms other n ≡ Some next → (k : ℕ) (r : Route) → slice_get (routes_of next) k ≡ Some r → IsBehind loc r (routes_of (Split loc arms other))
      behind_tree n next e k r at =
          subst (IsBehind loc r) (sym (tree_routes loc arms other)) (behind_arms loc (literals_of (map routes_under arms)) arms other n next e k r at)

  none_last : (next : FlatTree) → ◌≡◌ {A = Option FlatTree} None (Some next) → IsLed next
  none_last next e = absurd cc

  -- the splits lead to the leaf
  pub led : (tree : FlatTree) → IsLed tree
  led = tree-induction IsLed (record {
    split = λ loc arms each. led_split loc arms None each none_last;
    split_else = λ loc arms other each last. led_split loc arms (Some other) each (λ next e. subst IsLed (same_Some other next e) last);
    leaf = λ n leads ranges. (let same = leaf_only ws m (Leaf n) n leaf refl leads in leaf_walk (Leaf n) n blocks xs refl ∙ ap Ok same);
  })
