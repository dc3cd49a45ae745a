-- Clause by clause: one clause, and one more behind those that were tried.
use Rattle.std.proofs.Common.{◌≡◌, ℕ, zero, suc, ◌+◌, ◌*◌, ◌<◌, ◌≤◌, ◌==◌, ◌⊎◌, inl, inr, Bool, true, false, List, [], ◌∷◌, ◌++◌, map, length, Option, Some, None, refl, sym, subst, ap, ◌∙◌, arith}
use Rattle.std.specs.Prelude.{slice_get, slice_index, if◌then◌else◌, nat_lt}
use Rattle.std.specs.List.{flat_map}
use Rattle.std.proofs.lemmas.Grind.{common_steps}
use Rattle.std.proofs.lemmas.Option.{same_Some}
use Rattle.rb_core.specs.declared.value.Value.{Value}
use Rattle.rb_core.specs.declared.types.Ty.{Ty}
use Rattle.rb_core.specs.declared.types.DataDecl.{DataDecl}
use Rattle.rb_core.specs.declared.pattern.Pat.{Pat, Wild}
use Rattle.rb_core.specs.Matching.{IsExhaustive, chosen_clause, matches_of, next_clause}
use Rattle.rb_core.specs.TypedPrograms.{IsTyped}
use Rattle.rb_core.proofs.MatchingForms.{matches-Wild}
use Rattle.rb_core.proofs.PatternLaws.{fold-Wild}
use Rattle.rb_decide.specs.Decisions.{AreDistinct}
use Rattle.rb_decide.specs.Trees.{match_tree, size, clause_taken, ways}
use Rattle.rb_bytes.specs.Memory.{IsGood}
use Rattle.rb_target.specs.declared.instr.Instr.{Instr}
use Rattle.rb_target.specs.declared.body.Hole.{Hole}
use Rattle.rb_target.specs.Growth.{Grows}
use Rattle.rb_target.specs.Sheet.{Sheet, IsHole, IsHoleIn}
use Rattle.rb_target.specs.Targets.{Finishes, IsHoleAmong, IsOpenTarget}
use Rattle.rb_target.proofs.Finishing.{agrees-sub}
use Rattle.rb_target.proofs.Growing.{Grows-refl, Grows-trans, Keeps-refl, Keeps-trans, below_or}
use Rattle.rb_layout.specs.declared.agreed.LaidOut.{LaidOut}
use Rattle.rb_layout.specs.Agreement.{Agrees}
use Rattle.rb_layout.specs.Flattening.{flat_layouts}
use Rattle.rb_fragment.specs.declared.reads.Read.{Read, Slot}
use Rattle.rb_fragment.specs.Arms.{AreHoles, AreOfOneWay, ArePatchable, with_targets}
use Rattle.rb_fragment.specs.Plan.{Rep}
use Rattle.rb_fragment.specs.Pieces.{IsLater, GoesOutBy}
use Rattle.rb_fragment.specs.WordReads.{AreMeant}
use Rattle.rb_fragment.proofs.Adding.{Adds-refl, Adds-trans}
use Rattle.rb_fragment.proofs.Patching.{AreAllHoles, adds_closed, closed_hole, closed_length, closed_slots, hole_within}
use Rattle.rb_fragment.proofs.Pieces.{later-trans}
use Rattle.rb_facts.specs.Looks.{choosing_look, TypedPosition, places_in, places_step}
use Rattle.rb_match.specs.Bounding.{places_of_patterns, rounds}
use Rattle.rb_match.specs.Choosing.{ChoosesClause}
use Rattle.rb_target.specs.Meaning.{slots_at}
use Rattle.std.proofs.lemmas.List.{length-map}
use Rattle.std.proofs.lemmas.Bool.Decides.{nat_tests}
use Rattle.rb_match.specs.inner.Clauses.{way_holes, round_of, HolesStand, TriesClause, TriesAll}
use Rattle.rb_facts.specs.Ways.{looks, path_of, HasWay}
use Rattle.rb_facts.specs.Places.{IsLookedAt, IsPlaceIn}
use Rattle.rb_match.specs.inner.Trees.{TakesTree}
use Rattle.rb_match.proofs.Bounds.{all_at, in_distinct, within_sum}
use Rattle.rb_match.proofs.Chosen.{value_takes, slots_fit, slots_meant}
use Rattle.rb_facts.proofs.Numbers.{same-nat}
use Rattle.rb_match.proofs.Edges.{in_none, in_append, in_left, in_right, all_holes_from, closable_from, holes_from, patchable_from}
use Rattle.rb_match.proofs.Landing.{IsLanded, closed_open}
use Rattle.rb_match.proofs.Nodes.{closed_grows}
use Rattle.rb_facts.proofs.Placing.{in-flat}
use Rattle.rb_match.proofs.Testing.{meant-kept}

-- Holes of a way

module _ (way name : ℕ) where
  abbrev pub renamed : Hole → Hole
  renamed h = record { pc = h.pc; arm = h.arm; leaf = name }

  pub way_in : (hs : List Hole) (h : Hole) → IsHoleAmong h hs → h.leaf ≡ way → IsHoleAmong (renamed h) (way_holes way name hs)
  way_in [] h (k, at) is = absurd cc
  way_in (x ∷ hs) h (zero, at) is =
      let same : x ≡ h = same_Some x h at in
      let leaf = ap (λ (y : Hole). y.leaf) same ∙ is in
      let test : (x.leaf == way) ≡ true = grind (arith, common_steps, leaf) in
      subst (λ u. IsHoleAmong (renamed h) (if u then renamed x ∷ way_holes way name hs else way_holes way name hs)) (sym test) (0, ap (λ (y : Hole). Some (renamed y)) same)
  way_in (x ∷ hs) h (suc k, at) is = let r = way_in hs h (k, at) is in go (x.leaf == way) r
    where
      go : (u : Bool) → IsHoleAmong (renamed h) (way_holes way name hs) → IsHoleAmong (renamed h) (if u then renamed x ∷ way_holes way name hs else way_holes way name hs)
      go true r = (suc r.0, r.1)
      go false r = r

  pub way_from : (hs : List Hole) (h : Hole) → IsHoleAmong h (way_holes way name hs) → (g : Hole) × IsHoleAmong g hs × (g.leaf ≡ way) × (h ≡ renamed g)
  way_from [] h (k, at) = absurd cc
  way_from (x ∷ hs) h i = go (λ k at. way_from hs h (k, at)) (x.leaf == way) refl i
    where
      rest : (g : Hole) × IsHoleAmong g hs × (g.leaf ≡ way) × (h ≡ renamed g) → (g : Hole) × IsHoleAmong g (x ∷ hs) × (g.leaf ≡ way) × (h ≡ renamed g)
      rest r = (r.0, (suc r.1.0, r.1.1), r.2, r.3)

      go : ((k : ℕ) → slice_get (way_holes way name hs) k ≡ Some h → (g : Hole) × IsHoleAmong g hs × (g.leaf ≡ way) × (h ≡ renamed g)) → (u : Bool) → (x.leaf == way) ≡ u
          → IsHoleAmong h (if u then renamed x ∷ way_holes way name hs else way_holes way name hs) → (g : Hole) × IsHoleAmong g (x ∷ hs) × (g.leaf ≡ way) × (h ≡ renamed g)
      go more true t (zero, at) = (x, (0, refl), same-nat x.leaf way t, sym (same_Some (renamed x) h at))
      go more true t (suc k, at) = rest (more k at)
      go more false t j = rest (more j.0 j.1)

hole_at : (from count : ℕ) (code : List Instr) (hs : List Hole) → AreHoles from count code hs → (h : Hole) → IsHoleAmong h hs → (from ≤ h.pc) × (h.leaf < count) × IsHole code h
hole_at from count code [] a h (k, at) = absurd cc
hole_at from count code (x ∷ hs) a h (zero, at) = subst (λ (y : Hole). (from ≤ y.pc) × (y.leaf < count) × IsHole code y) (same_Some x h at) (a.0, a.1, a.2)
hole_at from count code (x ∷ hs) a h (suc k, at) = hole_at from count code hs a.3 h (k, at)

-- A clause alone

-- what is looked at in one clause is looked at in all
looked_all : (types : List DataDecl) (ty : Ty) (pats : List Pat) (pat : Pat) (k : ℕ) (position : List ℕ) (at : Ty) → slice_get pats k ≡ Some pat → IsLookedAt types ty (pat ∷ Wild 0 ∷ []) position at → IsLookedAt types ty pats position at
looked_all types ty pats pat k position at is h =
    let none : places_in types (Wild 0) ty ≡ [] = ap (λ (f : Ty → List TypedPosition). f ty) (fold-Wild (Ty → List TypedPosition) (places_step types) 0) in
    let l : flat_map (λ p. places_in types p ty) (pat ∷ Wild 0 ∷ []) ≡ places_in types pat ty = ap (λ ps. places_in types pat ty ++ (ps ++ [])) none ∙ no_more (places_in types pat ty) in
    in-flat (λ p. places_in types p ty) pats k pat (record { path = position; ty = at }) is h.0 (ap (λ ps. slice_get ps h.0) (sym l) ∙ h.1)
  where
    no_more : (xs : List TypedPosition) → xs ++ [] ≡ xs
    no_more [] = refl
    no_more (x ∷ xs) = ap (λ l. x ∷ l) (no_more xs)

chosen_yes : (pat : Pat) (v : Value) → matches_of pat v ≡ true → chosen_clause (pat ∷ Wild 0 ∷ []) v ≡ Some 0
chosen_yes pat v m = ap (λ u. if u then Some 0 else next_clause (chosen_clause (Wild 0 ∷ []) v)) m

chosen_wild : (v : Value) → chosen_clause (Wild 0 ∷ []) v ≡ Some 0
chosen_wild v = ap (λ u. if u then Some 0 else next_clause (chosen_clause [] v)) (matches-Wild v 0)

chosen_no : (pat : Pat) (v : Value) → matches_of pat v ≡ false → chosen_clause (pat ∷ Wild 0 ∷ []) v ≡ Some 1
chosen_no pat v m = ap (λ u. if u then Some 0 else next_clause (chosen_clause (Wild 0 ∷ []) v)) m ∙ ap next_clause (chosen_wild v)

exhaustive : (types : List DataDecl) (ty : Ty) (pat : Pat) → IsExhaustive types ty (pat ∷ Wild 0 ∷ [])
exhaustive types ty pat v of = go (matches_of pat v) refl
  where
    go : (u : Bool) → matches_of pat v ≡ u → Rattle.std.specs.Prelude.IsSome (chosen_clause (pat ∷ Wild 0 ∷ []) v)
    go true e = subst Rattle.std.specs.Prelude.IsSome (sym (chosen_yes pat v e)) refl
    go false e = subst Rattle.std.specs.Prelude.IsSome (sym (chosen_no pat v e)) refl

module _ (agreed : LaidOut) (ty : Ty) (words : List Read) (pat : Pat) (number : ℕ) (old mid : Sheet) (found : List Hole) (holes_are : AreHoles (length old.code) 2 mid.code found) (ways_are : AreOfOneWay found) (grows : Grows old.code mid.code) where
  abbrev pair : List Pat
  pair = pat ∷ Wild 0 ∷ []

  abbrev pub matched : List Hole
  matched = way_holes 0 number found

  abbrev pub others : List Hole
  others = way_holes 1 0 found

  abbrev targets : List ℕ
  targets = length mid.code ∷ []

  abbrev pub clause_code : Sheet
  clause_code = with_targets mid others targets

  abbrev lo : ℕ
  lo = length old.code

  len : length clause_code.code ≡ length mid.code
  len = closed_length mid others targets

  other_hole : (h : Hole) → IsHoleAmong h others → (lo ≤ h.pc) × IsHole mid.code h × (h.leaf ≡ 0)
  other_hole h i =
      let f = way_from 1 0 found h i in
      let s = hole_at lo 2 mid.code found holes_are f.0 f.1 in
      let pc = ap (λ (x : Hole). x.pc) f.3 in
      (omega (arith, pc, s.0), subst (λ (x : Hole). IsHole mid.code x) (sym f.3) s.2, ap (λ (x : Hole). x.leaf) f.3)

  to_end : (h : Hole) → IsHoleAmong h others → slice_index targets h.leaf ≡ length mid.code
  to_end h i = ap (slice_index targets) (other_hole h i).2

  pub others_patchable : ArePatchable mid.code others targets
  others_patchable = patchable_from mid.code others targets (λ h i.
      let f = other_hole h i in
      let lt = hole_within mid.code h f.1 in
      let to = to_end h i in (f.1, omega (arith, f.2), omega (arith, to, lt)))

  all_others : AreAllHoles mid.code others
  all_others = all_holes_from mid.code others (λ h i. (other_hole h i).1)

  pub clause_stand : HolesStand old clause_code (number + 1) matched
  clause_stand = record {
    grows = closed_grows old mid others targets grows (λ h i. (other_hole h i).0);
    holes_are = holes_from lo (number + 1) clause_code.code matched (λ h i.
        let f = way_from 0 number found h i in
        let s = hole_at lo 2 mid.code found holes_are f.0 f.1 in
        let pc = ap (λ (x : Hole). x.pc) f.3 in
        let leaf = ap (λ (x : Hole). x.leaf) f.3 in
        (omega (arith, pc, s.0), omega (arith, leaf), subst (λ (x : Hole). IsHole clause_code.code x) (sym f.3) (closed_hole mid others targets f.0 s.2)));
    ways = λ h k i j p s.
        let a = way_from 0 number found h i in
        let c = way_from 0 number found k j in
        ap (λ (x : Hole). x.leaf) a.3 ∙ sym (ap (λ (x : Hole). x.leaf) c.3);
  }

  module _ (final : List Instr) (fin : Finishes final clause_code.code matched lo (length clause_code.code)) where
    apart : (h : Hole) → IsHoleAmong h others → IsOpenTarget matched h.pc h.arm → ⊥
    apart h i o =
        let a = way_from 1 0 found h i in
        let c = way_from 0 number found o.0 o.1 in
        let same = ways_are a.0 c.0 a.1 c.1 (sym (ap (λ (x : Hole). x.pc) a.3) ∙ sym o.2 ∙ ap (λ (x : Hole). x.pc) c.3) (sym (ap (λ (x : Hole). x.arm) a.3) ∙ sym o.3 ∙ ap (λ (x : Hole). x.arm) c.3) in
        absurd (let x = a.2 in let y = c.2 in omega (arith, same, x, y))

    one : AreOfOneWay others
    one h k i j p s = (other_hole h i).2 ∙ sym (other_hole k j).2

    landed : IsLanded final mid others matched targets lo (length mid.code)
    landed = closed_open final matched targets lo (length mid.code) others mid (subst (λ k. Finishes final clause_code.code matched lo k) len fin) all_others one apart

    opens : (q : ℕ) (arm : Option ℕ) → IsOpenTarget (others ++ matched) q arm → IsOpenTarget found q arm
    opens q arm o = elim (in_append others matched o.0 o.1) [
      | inl i ↦ (let a = way_from 1 0 found o.0 i in (a.0, a.1, sym (ap (λ (x : Hole). x.pc) a.3) ∙ o.2, sym (ap (λ (x : Hole). x.arm) a.3) ∙ o.3))
      | inr i ↦ (let a = way_from 0 number found o.0 i in (a.0, a.1, sym (ap (λ (x : Hole). x.pc) a.3) ∙ o.2, sym (ap (λ (x : Hole). x.arm) a.3) ∙ o.3))
    ]

    all_open : Finishes final mid.code found lo (length mid.code)
    all_open = λ q l h. agrees-sub final mid.code mid.code found (others ++ matched) q refl (λ arm o. opens q arm o) (landed.finishes q l h)

  module _ (typed : IsTyped agreed.covered.program) (agrees : Agrees agreed.covered.program) (flat : agreed.layouts ≡ flat_layouts agreed.covered.program)
      (takes : TakesTree agreed ty words pair (match_tree agreed.covered.program.types ty pair) old mid found) where
    pub clause_tries : TriesClause agreed ty words pat number old clause_code matched
    clause_tries = record {
      stand = clause_stand;
      tries = λ plan fine pats k at.
          let t = takes plan fine.of fine.fit fine.count in
          let types_is : match_tree agreed.covered.program.types ty pair ≡ match_tree plan.program.types ty pair = ap (λ (g : Rattle.rb_core.specs.declared.program.Program.Program). match_tree g.types ty pair) (sym fine.of.program) in
          let typed1 = subst IsTyped (sym fine.of.program) typed in
          let agrees1 = subst Agrees (sym fine.of.program) agrees in
          let flat1 : plan.layouts ≡ flat_layouts plan.program = fine.of.layouts ∙ flat ∙ ap flat_layouts (sym fine.of.program) in
          let slots = closed_slots mid others targets in
          let once : (path : List TypedPosition) → HasWay (ways (match_tree agreed.covered.program.types ty pair)) (map path_of path) → ((p : TypedPosition) → IsPlaceIn p path → IsLookedAt plan.program.types ty pair p.path p.ty) → looks plan path ≤ round_of plan ty pats =
          λ path way looked. within_sum (choosing_look plan.layouts) path (places_of_patterns plan.program.types ty pats)
          (all_at AreDistinct (ways (match_tree agreed.covered.program.types ty pair)) (Rattle.rb_decide.proofs.Positions.match-once agreed.covered.program.types ty pair) way.0 (map path_of path) way.1)
          (λ p i. in_distinct p _ (looked_all plan.program.types ty pats pat k p.path p.ty at (looked p i))) in
          record {
            adds = adds_closed plan old mid others targets (length mid.code) refl t.adds all_others (closable_from lo (length mid.code) others targets (λ h i.
                let f = other_hole h i in
                let lt = hole_within mid.code h f.1 in
                let to = to_end h i in (f.0, omega (arith, to, lt), omega (arith, to))));
            matched = λ final callee next law fin s w v clean ws long good meant rep m.
                let e = ap (λ u. clause_taken u v) types_is ∙ value_takes plan ty pair typed1 agrees1 flat1 (exhaustive plan.program.types ty pat) w.memory clean v ws rep 0 (chosen_yes pat v m) in
                let l = t.leaves final callee next law (all_open final fin) s w v clean ws 0 (omega (arith, long, slots)) good meant rep e in
                let sum = once l.path l.is_way l.looked in
                let r = l.leaves in
                record {
                  hole = renamed 0 number r.hole;
                  is_hole = way_in 0 number found r.hole r.is_hole r.is_way;
                  is_way = refl;
                  target = r.target;
                  is_target = r.is_target;
                  slots = r.slots;
                  world = r.world;
                  runs = r.runs;
                  keeps = r.keeps;
                  later = record { memory = r.later.memory; left = r.later.left; switches = omega (arith, r.later.switches, sum) };
                  exit = tt;
                };
            other = λ final callee next law fin s w v clean ws long good meant rep m.
                let e = ap (λ u. clause_taken u v) types_is ∙ value_takes plan ty pair typed1 agrees1 flat1 (exhaustive plan.program.types ty pat) w.memory clean v ws rep 1 (chosen_no pat v m) in
                let l = t.leaves final callee next law (all_open final fin) s w v clean ws 1 (omega (arith, long, slots)) good meant rep e in
                let sum = once l.path l.is_way l.looked in
                let r = l.leaves in
                let i = way_in 1 0 found r.hole r.is_hole r.is_way in
                let f = other_hole (renamed 1 0 r.hole) i in
                let leads = (landed final fin).leads (renamed 1 0 r.hole) i f.0 (hole_within mid.code (renamed 1 0 r.hole) f.1) in
                let to : r.target ≡ length clause_code.code = same_Some r.target (length mid.code) (sym r.is_target ∙ leads) ∙ sym len in
                record {
                  slots = r.slots;
                  world = r.world;
                  runs = r.runs ∙ ap (λ q. next q r.slots r.world) to;
                  keeps = r.keeps;
                  later = record { memory = r.later.memory; left = r.later.left; switches = omega (arith, r.later.switches, sum) };
                };
          };
    }

-- Several clauses

chosen_at : (pats : List Pat) (v : Value) (k : ℕ) (pat : Pat) → chosen_clause pats v ≡ Some k → slice_get pats k ≡ Some pat → matches_of pat v ≡ true
chosen_at [] v k pat e at = absurd cc
chosen_at (p ∷ pats) v k pat e at = go (matches_of p v) refl (λ j h a. chosen_at pats v j pat h a) (chosen_clause pats v) refl k e at
  where
    go : (u : Bool) → matches_of p v ≡ u → ((j : ℕ) → chosen_clause pats v ≡ Some j → slice_get pats j ≡ Some pat → matches_of pat v ≡ true) → (o : Option ℕ) → chosen_clause pats v ≡ o
        → (k : ℕ) → (if u then Some 0 else next_clause (chosen_clause pats v)) ≡ Some k → slice_get (p ∷ pats) k ≡ Some pat → matches_of pat v ≡ true
    go true m rest o is zero h a = ap (λ q. matches_of q v) (sym (same_Some p pat a)) ∙ m
    go true m rest o is (suc k) h a = absurd (let z = same_Some 0 (suc k) h in omega (arith, z))
    go false m rest None is k h a = absurd (let z = sym (ap next_clause is) ∙ h in cc)
    go false m rest (Some j) is zero h a = absurd (let z = same_Some (suc j) 0 (sym (ap next_clause is) ∙ h) in omega (arith, z))
    go false m rest (Some j) is (suc k) h a = let z : suc j ≡ suc k = same_Some (suc j) (suc k) (sym (ap next_clause is) ∙ h) in let y : j ≡ k = omega (arith, z) in rest k (is ∙ ap Some y) a

chosen_before : (pats : List Pat) (v : Value) (k j : ℕ) (pat : Pat) → chosen_clause pats v ≡ Some k → j < k → slice_get pats j ≡ Some pat → matches_of pat v ≡ false
chosen_before [] v k j pat e lt at = absurd cc
chosen_before (p ∷ pats) v k j pat e lt at = go (matches_of p v) refl (λ i n h l a. chosen_before pats v i n pat h l a) (chosen_clause pats v) refl k j e lt at
  where
    go : (u : Bool) → matches_of p v ≡ u → ((i n : ℕ) → chosen_clause pats v ≡ Some i → n < i → slice_get pats n ≡ Some pat → matches_of pat v ≡ false) → (o : Option ℕ) → chosen_clause pats v ≡ o
        → (k j : ℕ) → (if u then Some 0 else next_clause (chosen_clause pats v)) ≡ Some k → j < k → slice_get (p ∷ pats) j ≡ Some pat → matches_of pat v ≡ false
    go true m rest o is k j h l a = absurd (let z = same_Some 0 k h in omega (arith, z, l))
    go false m rest None is k j h l a = absurd (let z = sym (ap next_clause is) ∙ h in cc)
    go false m rest (Some i) is k zero h l a = ap (λ q. matches_of q v) (sym (same_Some p pat a)) ∙ m
    go false m rest (Some i) is k (suc n) h l a = let z : suc i ≡ k = same_Some (suc i) k (sym (ap next_clause is) ∙ h) in rest i n is (omega (arith, z, l)) a

pub all_none : (agreed : LaidOut) (ty : Ty) (words : List Read) (pats : List Pat) (old : Sheet) → TriesAll agreed ty words pats 0 old old []
all_none agreed ty words pats old = record {
  stand = record { grows = Grows-refl old.code; holes_are = tt; ways = λ h k i. absurd (in_none h i) };
  tries = λ plan fine. record {
    adds = Adds-refl plan old;
    chosen = λ final callee next law fin s w v clean ws long good meant rep k e lt. absurd (omega (arith, lt));
    later = λ final callee next law fin s w v clean ws long good meant rep k e le. record {
      slots = s;
      world = w;
      runs = refl;
      keeps = Keeps-refl old.slots s;
      later = record { memory = refl; left = refl; switches = omega arith };
    };
  };
}

module _ (agreed : LaidOut) (ty : Ty) (words : List Read) (pats : List Pat) (i : ℕ) (pat : Pat) (old b c : Sheet) (holes more : List Hole) (at : slice_get pats i ≡ Some pat) (all : TriesAll agreed ty words pats i old b holes)
    (last : TriesClause agreed ty words pat i b c more) where
  abbrev joined : List Hole
  joined = holes ++ more

  abbrev start : ℕ
  start = length old.code

  low : (h : Hole) → IsHoleAmong h holes → (start ≤ h.pc) × (h.leaf < i) × IsHole b.code h
  low h j = hole_at start i b.code holes all.stand.holes_are h j

  high : (h : Hole) → IsHoleAmong h more → (length b.code ≤ h.pc) × (h.leaf < i + 1) × IsHole c.code h
  high h j = hole_at (length b.code) (i + 1) c.code more last.stand.holes_are h j

  below : (h : Hole) → IsHoleAmong h holes → h.pc < length b.code
  below h j = hole_within b.code h (low h j).2

  joined_stand : HolesStand old c (i + 1) joined
  joined_stand = record {
    grows = Grows-trans _ _ _ all.stand.grows last.stand.grows;
    holes_are = holes_from start (i + 1) c.code joined (λ h j. elim (in_append holes more h j) [
      | inl k ↦ (let l = low h k in (l.0, omega (arith, l.1), subst (λ o. IsHoleIn o h.arm) (sym (last.stand.grows.same h.pc (below h k))) l.2))
      | inr k ↦ (let l = high h k in let g = all.stand.grows.longer in (omega (arith, l.0, g), l.1, l.2))
    ]);
    ways = λ h k j l p s. both h k (in_append holes more h j) (in_append holes more k l) p s;
  }
    where
      both : (h k : Hole) → IsHoleAmong h holes ⊎ IsHoleAmong h more → IsHoleAmong k holes ⊎ IsHoleAmong k more → h.pc ≡ k.pc → h.arm ≡ k.arm → h.leaf ≡ k.leaf
      both h k (inl j) (inl l) p s = all.stand.ways h k j l p s
      both h k (inl j) (inr l) p s = absurd (let x = below h j in let y = (high k l).0 in omega (arith, x, y, p))
      both h k (inr j) (inl l) p s = absurd (let x = below k l in let y = (high h j).0 in omega (arith, x, y, p))
      both h k (inr j) (inr l) p s = last.stand.ways h k j l p s

  module _ (final : List Instr) (fin : Finishes final c.code joined start (length c.code)) where
    first_part : Finishes final b.code holes start (length b.code)
    first_part = λ q l h. agrees-sub final b.code c.code holes joined q (last.stand.grows.same q h)
        (λ arm o. elim (in_append holes more o.0 o.1) [ inl j ↦ (o.0, j, o.2, o.3) | inr j ↦ (let x = (high o.0 j).0 in let y = o.2 in absurd (omega (arith, x, y, h))) ])
        (fin q l (let g = last.stand.grows.longer in omega (arith, h, g)))

    second_part : Finishes final c.code more (length b.code) (length c.code)
    second_part = λ q l h. agrees-sub final c.code c.code more joined q refl
        (λ arm o. elim (in_append holes more o.0 o.1) [ inl j ↦ (let x = below o.0 j in let y = o.2 in absurd (omega (arith, x, y, l))) | inr j ↦ (o.0, j, o.2, o.3) ])
        (fin q (let g = all.stand.grows.longer in omega (arith, l, g)) h)

  next_round : (x : ℕ) → i * x + x ≡ (i + 1) * x
  next_round x = grind arith

  pub all_next : TriesAll agreed ty words pats (i + 1) old c joined
  all_next = record {
    stand = joined_stand;
    tries = λ plan fine.
        let a = all.tries plan fine in
        let d = last.tries plan (record { of = fine.of; fit = λ k le. fine.fit k (let m = a.adds.more in omega (arith, le, m)); count = fine.count }) pats i at in
        let x = round_of plan ty pats in
        let round = next_round x in
        record {
          adds = Adds-trans plan old b c a.adds d.adds;
          chosen = λ final callee next law fin s w v clean ws long good meant rep k e lt. elim (below_or k i) [
            | inl less ↦
                let r = a.chosen final callee next law (first_part final fin) s w v clean ws (let m = d.adds.more in omega (arith, long, m)) good meant rep k e less in
                record {
                  hole = r.hole;
                  is_hole = in_left holes more r.hole r.is_hole;
                  is_way = r.is_way;
                  target = r.target;
                  is_target = r.is_target;
                  slots = r.slots;
                  world = r.world;
                  runs = r.runs;
                  keeps = r.keeps;
                  later = record { memory = r.later.memory; left = r.later.left; switches = omega (arith, r.later.switches, round) };
                  exit = tt;
                }
            | inr le ↦
                let same : i ≡ k = omega (arith, lt, le) in
                let g = a.later final callee next law (first_part final fin) s w v clean ws (let m = d.adds.more in omega (arith, long, m)) good meant rep k e le in
                let mem = sym g.later.memory in
                let r = d.matched final callee next law (second_part final fin) g.slots g.world v clean ws (let l = g.keeps.long in omega (arith, long, l)) (subst IsGood mem good)
                (subst (λ m. AreMeant words g.slots m ws) mem (meant-kept old.slots s g.slots w.memory g.keeps words ws (fine.fit old.slots (omega arith)) meant)) (subst (λ m. Rep plan m clean ty v ws) mem rep)
                (chosen_at pats v k pat e (ap (slice_get pats) (sym same) ∙ at)) in
                record {
                  hole = r.hole;
                  is_hole = in_right holes more r.hole r.is_hole;
                  is_way = r.is_way ∙ same;
                  target = r.target;
                  is_target = r.is_target;
                  slots = r.slots;
                  world = r.world;
                  runs = g.runs ∙ r.runs;
                  keeps = Keeps-trans old.slots b.slots s g.slots r.slots a.adds.more g.keeps r.keeps;
                  later = subst (λ n. IsLater n w r.world) round (later-trans (i * x) x w g.world r.world g.later r.later);
                  exit = tt;
                }
          ];
          later = λ final callee next law fin s w v clean ws long good meant rep k e le.
              let g = a.later final callee next law (first_part final fin) s w v clean ws (let m = d.adds.more in omega (arith, long, m)) good meant rep k e (omega (arith, le)) in
              let mem = sym g.later.memory in
              let r = d.other final callee next law (second_part final fin) g.slots g.world v clean ws (let l = g.keeps.long in omega (arith, long, l)) (subst IsGood mem good)
              (subst (λ m. AreMeant words g.slots m ws) mem (meant-kept old.slots s g.slots w.memory g.keeps words ws (fine.fit old.slots (omega arith)) meant)) (subst (λ m. Rep plan m clean ty v ws) mem rep)
              (chosen_before pats v k i pat e (omega (arith, le)) at) in
              record {
                slots = r.slots;
                world = r.world;
                runs = g.runs ∙ r.runs;
                keeps = Keeps-trans old.slots b.slots s g.slots r.slots a.adds.more g.keeps r.keeps;
                later = subst (λ n. IsLater n w r.world) round (later-trans (i * x) x w g.world r.world g.later r.later);
              };
        };
  }

-- The choice

chosen_few : (pats : List Pat) (v : Value) (k : ℕ) → chosen_clause pats v ≡ Some k → k < length pats
chosen_few [] v k e = absurd cc
chosen_few (p ∷ pats) v k e = go (matches_of p v) (λ j h. chosen_few pats v j h) (chosen_clause pats v) refl k e
  where
    go : (u : Bool) → ((j : ℕ) → chosen_clause pats v ≡ Some j → j < length pats) → (o : Option ℕ) → chosen_clause pats v ≡ o → (k : ℕ) → (if u then Some 0 else next_clause (chosen_clause pats v)) ≡ Some k → k < length (p ∷ pats)
    go true rest o is k h = let z = same_Some 0 k h in omega (arith, z)
    go false rest None is k h = absurd (let z = sym (ap next_clause is) ∙ h in cc)
    go false rest (Some j) is k h = let z : suc j ≡ k = same_Some (suc j) k (sym (ap next_clause is) ∙ h) in let l = rest j is in omega (arith, z, l)

pub chooses_all : (agreed : LaidOut) (ty : Ty) (pats : List Pat) (words : List ℕ) (old new : Sheet) (holes : List Hole) → 512 < size (match_tree agreed.covered.program.types ty pats) → TriesAll agreed ty (map Slot words) pats (length pats) old new holes
    → ChoosesClause agreed ty pats words old new holes
chooses_all agreed ty pats words old new holes large tries = λ plan of typed_pats exhaustive1 below1 count.
    let large1 : 512 < size (match_tree plan.program.types ty pats) = subst (λ (g : Rattle.rb_core.specs.declared.program.Program.Program). 512 < size (match_tree g.types ty pats)) (sym of.program) large in
    let a = tries.tries plan (record { of = of; fit = λ k le. slots_fit old.slots k words below1 le; count = length-map words Slot ∙ count }) in
    let all_rounds : rounds plan.program.types ty pats ≡ length pats = (let over : nat_lt 512 (size (match_tree plan.program.types ty pats)) ≡ true = grind (arith, nat_tests, large1) in ap (λ u. if u then length pats else 1) over) in
    record {
      adds = a.adds;
      low = omega arith;
      leaves = λ final callee next law fin s w k long good pre.
          let r = a.chosen final callee next law fin s w pre.value pre.clean (slots_at s words) long good (slots_meant words s w.memory) pre.represents k pre.chosen (chosen_few pats pre.value k pre.chosen) in
          subst (λ n. GoesOutBy final next holes old.slots (n * round_of plan ty pats) (length old.code) s w k (λ s' m. Unit {0})) (sym all_rounds) r;
    }
