-- The choice of a construction's leaf, as its callers see it.
use Rattle.std.proofs.Common.{◌≡◌, ℕ, zero, suc, ◌+◌, map, length, List, [], ◌∷◌, Bool, true, Some, None, refl, sym, subst, ap, ◌∙◌, arith}
use Rattle.std.specs.Prelude.{slice_get}
use Rattle.std.proofs.lemmas.Bool.{and_parts}
use Rattle.std.proofs.lemmas.Option.{same_Some}
use Rattle.rb_core.specs.declared.value.Value.{Value, Con}
use Rattle.rb_core.specs.declared.value.Value.TheVariants.{outs-Con}
use Rattle.rb_core.specs.declared.types.Ty.{Ty}
use Rattle.rb_core.specs.declared.types.Ty.TheVariants.{Named}
use Rattle.rb_core.specs.declared.types.ConRef.{ConRef}
use Rattle.rb_core.specs.declared.types.DataDecl.{DataDecl}
use Rattle.rb_core.specs.declared.pattern.Pat.{Pat}
use Rattle.rb_core.specs.TypedPrograms.{IsTyped}
use Rattle.rb_core.specs.Values.{all_of_types, are_of, fields_of, is_of_type, part_at}
use Rattle.rb_core.proofs.ValueLaws.{is_of_type-Con, subs-Con}
use Rattle.rb_bytes.specs.Memory.{Memory, IsGood}
use Rattle.rb_target.specs.declared.instr.Instr.TheVariants.{Jump}
use Rattle.rb_target.specs.declared.body.Hole.{Hole}
use Rattle.rb_target.specs.Growth.{AgreesBut}
use Rattle.rb_target.specs.Meaning.{slots_at, taken}
use Rattle.rb_target.specs.Sheet.{Sheet}
use Rattle.rb_target.specs.Targets.{without_targets_in, target_in}
use Rattle.rb_target.proofs.Shapes.{jump_shape}
use Rattle.rb_layout.specs.declared.agreed.LaidOut.{LaidOut}
use Rattle.rb_layout.specs.declared.layout.Layout.{Layout}
use Rattle.rb_layout.specs.declared.layout.Leaf.{Leaf}
use Rattle.rb_layout.specs.Agreement.{Agrees, AreAgreed}
use Rattle.rb_layout.specs.Flattening.{flat_layouts}
use Rattle.rb_layout.specs.Positions.{layout_of, leaves_of_layout, open_positions}
use Rattle.rb_rel.specs.Switches.{HeadAt, choose_of, heads_below, heads_of}
use Rattle.rb_rel.proofs.Agreeing.{lawful}
use Rattle.rb_fragment.specs.declared.held.Held.{Held}
use Rattle.rb_fragment.specs.Holding.{AllGiven, AreHeld, held_type}
use Rattle.rb_fragment.specs.Pieces.{Branches}
use Rattle.rb_fragment.specs.Plan.{Plan, Rep, words_needed}
use Rattle.rb_fragment.specs.Slots.{AllBelow}
use Rattle.rb_compose.specs.declared.subvalue.Subvalue.{Subvalue}
use Rattle.rb_compose.specs.Subvalues.{AreGivenAt, ArePartsHeld}
use Rattle.rb_fetch.specs.declared.choice.Choices.{Choices}
use Rattle.rb_fetch.specs.declared.choice.Way.{Way}
use Rattle.rb_fetch.specs.declared.heads.Place.{Place}
use Rattle.rb_fetch.specs.declared.known.Seen.{Seen}
use Rattle.rb_fetch.specs.Constructing.{AreAsShown}
use Rattle.rb_fetch.specs.inner.Choice.{ChoosesLeaf, TakesWay}
use Rattle.rb_fetch.specs.declared.asking.Start.{Start}
use Rattle.rb_fetch.specs.Finding.{IsPlanOf}
use Rattle.rb_fetch.specs.inner.Asking.{IsStart}
use Rattle.rb_fetch.specs.inner.Choosing.{AreLeavesOf, AreOpen, ChoosesFrom, ChoosesWays, Follows, HasAll, HasParts, ChoiceIsReady, IsWayAt, PartsGiven, PartsHold, TakesOneWay, choices_from, holes_from, left_of, parts_from, root_con}
use Rattle.rb_fetch.specs.inner.Heads.{bare_paths, leaves_beside, leaves_for, shown_heads}
use Rattle.rb_fetch.proofs.Chosen.{begins, leaf_found, matched_leaf}
use Rattle.rb_fetch.proofs.Costs.{left_most}
use Rattle.rb_fetch.proofs.Finding.{of_plan}
use Rattle.rb_fetch.proofs.Shown.{shown_have}
use Rattle.rb_fetch.proofs.Staying.{bare-of, for-from, for-of, own_stays, stays-from, stays-of, stays_so}
use Rattle.rb_fetch.proofs.Ways.{hole_in, hole_of, open_within, parts_held}

-- Arguments ---------------------------------------------------------------------------------------

-- a part is an argument
record IsArgument (i : ℕ) (hs : List Held) (x : Subvalue) : Type 0 where
  number : ℕ
  held : Held
  is_held : slice_get hs number ≡ Some held
  is_part : x ≡ record { path = (i + number) ∷ []; held = held }

argument : (i : ℕ) (hs : List Held) (k : ℕ) (x : Subvalue) → slice_get (parts_from i hs) k ≡ Some x → IsArgument i hs x
argument i [] k x e = absurd cc
argument i (h ∷ hs) zero x e =
    let z : i ≡ i + 0 = omega arith in
    record { number = 0; held = h; is_held = refl; is_part = sym (same_Some _ x e) ∙ ap (λ n. let q : Subvalue = record { path = n ∷ []; held = h } in q) z }
argument i (h ∷ hs) (suc k) x e =
    let r = argument (i + 1) hs k x e in
    let z : i + 1 + r.number ≡ i + suc r.number = omega arith in
    record { number = suc r.number; held = r.held; is_held = r.is_held; is_part = r.is_part ∙ ap (λ n. let q : Subvalue = record { path = n ∷ []; held = r.held } in q) z }

pub given_each : (plan : Plan) (n : ℕ) (hs : List Held) (k : ℕ) (h : Held) → AllGiven plan n hs → slice_get hs k ≡ Some h → AllBelow n h.slots × (length h.slots ≡ words_needed plan h.ty)
given_each plan n [] k h g e = absurd cc
given_each plan n (x ∷ hs) zero h g e = subst (λ (y : Held). AllBelow n y.slots × (length y.slots ≡ words_needed plan y.ty)) (same_Some x h e) (g.0, g.1)
given_each plan n (x ∷ hs) (suc k) h g e = given_each plan n hs k h g.2 e

tail : List Ty → List Ty
tail [] = []
tail (y ∷ ys) = ys

tails_same : (a b : Ty) (xs ys : List Ty) → a ∷ xs ≡ b ∷ ys → xs ≡ ys
unfolding tail
tails_same a b xs ys e = ap tail e

pub typed_each : (types : List DataDecl) (vs : List Value) (ts : List Ty) (hs : List Held) (k : ℕ) (h : Held) → map held_type hs ≡ ts → all_of_types (map (is_of_type types) vs) ts ≡ true → slice_get hs k ≡ Some h
    → (u : Value) × (slice_get vs k ≡ Some u) × (is_of_type types u h.ty ≡ true)
typed_each types vs ts [] k h kinds typed e = absurd cc
typed_each types vs [] (x ∷ hs) k h kinds typed e = absurd cc
typed_each types [] (t ∷ ts) (x ∷ hs) k h kinds typed e = absurd cc
typed_each types (v ∷ vs) (t ∷ ts) (x ∷ hs) zero h kinds typed e =
    let b = and_parts (is_of_type types v t) (all_of_types (map (is_of_type types) vs) ts) typed in
    let kind : t ≡ h.ty = sym (heads_same (held_type x) t (map held_type hs) ts kinds) ∙ ap held_type (same_Some x h e) in
    (v, refl, ap (is_of_type types v) (sym kind) ∙ b.0)
  where
    heads_same : (a b : Ty) (xs ys : List Ty) → a ∷ xs ≡ b ∷ ys → a ≡ b
    heads_same a b xs ys e1 = same_Some a b (ap (λ zs. slice_get zs 0) e1)
typed_each types (v ∷ vs) (t ∷ ts) (x ∷ hs) (suc k) h kinds typed e =
    let b = and_parts (is_of_type types v t) (all_of_types (map (is_of_type types) vs) ts) typed in
    typed_each types vs ts hs k h (tails_same (held_type x) t (map held_type hs) ts kinds) b.1 e

pub held_each : (plan : Plan) (clean : Bool) (s : List ℕ) (m : Memory) (hs : List Held) (vs : List Value) (k : ℕ) (h : Held) (u : Value) → AreHeld plan clean s m hs vs → slice_get hs k ≡ Some h → slice_get vs k ≡ Some u
    → Rep plan m clean h.ty u (slots_at s h.slots)
held_each plan clean s m [] vs k h u held e at = absurd cc
held_each plan clean s m (x ∷ hs) [] k h u held e at = absurd held
held_each plan clean s m (x ∷ hs) (v ∷ vs) zero h u held e at =
    subst (λ w. Rep plan m clean h.ty w (slots_at s h.slots)) (same_Some v u at) (subst (λ (y : Held). Rep plan m clean y.ty v (slots_at s y.slots)) (same_Some x h e) held.0)
held_each plan clean s m (x ∷ hs) (v ∷ vs) (suc k) h u held e at = held_each plan clean s m hs vs k h u held.1 e at

part_of_con : (k : ℕ) (vs : List Value) (i : ℕ) (u : Value) → slice_get vs i ≡ Some u → part_at (Con k vs) (i ∷ []) ≡ Some u
part_of_con k vs i u e = ap (λ us. slice_get us i) (subs-Con k vs) ∙ e

module _ (agreed : LaidOut) (typed : IsTyped agreed.covered.program) (flat : agreed.layouts ≡ flat_layouts agreed.covered.program) (agrees : Agrees agreed.covered.program) (con : ConRef) (hs : List Held)
    (shown : List Pat) (known : List Place) (known_are : shown_heads known ≡ heads_below (map heads_of shown) 0) (old new : Sheet) (ways : List Way)
    (chooses : ChoosesFrom agreed con.ty (leaves_beside agreed.layouts con.ty (heads_below (map heads_of shown) 0) (leaves_for con.con (leaves_of_layout (layout_of agreed.layouts con.ty)) 0))
    (record { looked = bare_paths agreed.covered.program.types (heads_below (map heads_of shown) 0); known = known }) (parts_from 0 hs) old new ways) (opened : AreOpen (length old.code) new.code ways) where
  abbrev choices : Choices
  choices = record { holes = holes_from 0 ways; ways = ways }

  abbrev heads : List HeadAt
  heads = heads_below (map heads_of shown) 0

  abbrev of_con : List ℕ
  of_con = leaves_for con.con (leaves_of_layout (layout_of agreed.layouts con.ty)) 0

  abbrev leaves : List ℕ
  leaves = leaves_beside agreed.layouts con.ty heads of_con

  abbrev looked : List (List ℕ)
  looked = bare_paths agreed.covered.program.types heads

  abbrev seen : Seen
  seen = record { looked = looked; known = known }

  abbrev xs : List Subvalue
  xs = parts_from 0 hs

  module _ (plan : Plan) (of : IsPlanOf agreed plan) (fields : List Ty) (is_fields : fields_of plan.program.types con ≡ Some fields) (kinds : map held_type hs ≡ fields) (given : AllGiven plan old.slots hs)
      (layout : Layout) (is_layout : layout_of plan.layouts con.ty ≡ Some layout) where
    is_there : layout_of agreed.layouts con.ty ≡ Some layout
    is_there = ap (λ ls. layout_of ls con.ty) (sym of.layouts) ∙ is_layout

    are_leaves : AreLeavesOf layout con.con leaves
    are_leaves i n e =
        let s = stays-of agreed.layouts con.ty heads of_con i n e in
        let r = for-of con.con (leaves_of_layout (layout_of agreed.layouts con.ty)) 0 s.0.0 n s.0.1 in
        let z : n ≡ r.number = let q = r.at_number in omega (arith, q) in
        (r.leaf, ap (slice_get layout.leaves) z ∙ ap (λ o. slice_get (leaves_of_layout o) r.number) (sym is_there) ∙ r.is_number, r.is_for)

    parts_given : PartsGiven plan old.slots xs
    parts_given k x e =
        let a = argument 0 hs k x e in
        let g = given_each plan old.slots hs a.number a.held given a.is_held in
        subst (λ (y : Subvalue). AllBelow old.slots y.held.slots × (length y.held.slots ≡ words_needed plan y.held.ty)) (sym a.is_part) g

    ready : ChoiceIsReady agreed plan con.ty con.con layout leaves xs old.slots
    ready = record { of = of; is_layout = is_layout; are_leaves = are_leaves; given = parts_given }

    all : ChoosesWays plan con.ty con.con layout leaves seen xs old new ways
    all = chooses plan con.con layout ready

    module _ (vs : List Value) (as_shown : AreAsShown shown vs) (is_of : is_of_type plan.program.types (Con con.con vs) (Named con.ty) ≡ true) where
      abbrev v : Value
      v = Con con.con vs

      of_fields : all_of_types (map (is_of_type plan.program.types) vs) fields ≡ true
      of_fields = ap (are_of (map (is_of_type plan.program.types) vs)) (sym is_fields) ∙ sym (is_of_type-Con plan.program.types con.con vs (Named con.ty)) ∙ is_of

      z_of : (n : ℕ) → 0 + n ≡ n
      z_of n = omega arith

      parts : HasParts plan.program.types v xs
      parts k x e =
          let a = argument 0 hs k x e in
          let t = typed_each plan.program.types vs fields hs a.number a.held kinds of_fields a.is_held in
          let at : part_at v x.path ≡ Some t.0 = ap (λ (y : Subvalue). part_at v y.path) a.is_part ∙ ap (λ n. part_at v (n ∷ [])) (z_of a.number) ∙ part_of_con con.con vs a.number t.0 t.1 in
          (t.0, at, ap (λ (y : Subvalue). is_of_type plan.program.types t.0 y.held.ty) a.is_part ∙ t.2)

      holds : (clean : Bool) (s : List ℕ) (m : Memory) → AreHeld plan clean s m hs vs → PartsHold plan clean v s m xs
      holds clean s m held k x e u at =
          let a = argument 0 hs k x e in
          let t = typed_each plan.program.types vs fields hs a.number a.held kinds of_fields a.is_held in
          let at1 : part_at v x.path ≡ Some t.0 = ap (λ (y : Subvalue). part_at v y.path) a.is_part ∙ ap (λ n. part_at v (n ∷ [])) (z_of a.number) ∙ part_of_con con.con vs a.number t.0 t.1 in
          let same : t.0 ≡ u = same_Some t.0 u (sym at1 ∙ at) in
          let rep = held_each plan clean s m hs vs a.number a.held t.0 held a.is_held t.1 in
          subst (λ (y : Subvalue). Rep plan m clean y.held.ty u (slots_at s y.held.slots)) (sym a.is_part) (subst (λ w. Rep plan m clean a.held.ty w (slots_at s a.held.slots)) same rep)

      abbrev sound : IsTyped plan.program × AreAgreed plan.program plan.layouts
      sound = of_plan agreed typed flat agrees con.ty plan of

      is_flat : layout_of (flat_layouts plan.program) con.ty ≡ Some layout
      is_flat = ap (λ ls. layout_of ls con.ty) (sym sound.1.0) ∙ is_layout

      follows : Follows layout v leaves seen
      follows =
          let has = shown_have con shown vs as_shown in (
            subst (λ gs. HasAll gs v) (sym known_are) has,
            λ i n x j h en el eh among. stays_so agreed.layouts con.ty layout is_there heads v has of_con i n x j h en el eh (bare-of agreed.covered.program.types heads h.path among),
          )

      takes : TakesWay plan layout con hs old new choices vs
      takes =
          let f = leaf_found plan.program sound.1.1 con.ty layout is_flat v is_of in
          let m = matched_leaf layout v f.number f.leaf f.is_leaf f.is_number in
          let law = (lawful plan.program sound.1.1 sound.0).provenances in
          let root = begins con.con f.leaf.prov v con.ty (law.root con.ty layout f.number f.leaf is_flat f.is_number) m (ap root_con (outs-Con con.con vs)) in
          let i = for-from con.con (leaves_of_layout (layout_of agreed.layouts con.ty)) 0 f.number f.leaf (ap (λ o. slice_get (leaves_of_layout o) f.number) is_there ∙ f.is_number) root in
          let has = shown_have con shown vs as_shown in
          let can = own_stays agreed.layouts con.ty layout is_there heads v has f.number f.leaf f.is_leaf f.is_number in
          let j = stays-from agreed.layouts con.ty heads of_con i.0 f.number (i.1 ∙ ap Some (z_of f.number)) can in
          let tk = all.takes v is_of parts follows f.number j.0 f.is_leaf j.1 in
          let same : f.number ≡ tk.way.leaf = sym {a = tk.way.leaf} {b = f.number} tk.is_leaf in
          record {
            number = tk.number;
            way = tk.way;
            is_way = tk.is_way;
            is_leaf = ◌∙◌ {b = Some f.number} {c = Some tk.way.leaf} f.is_leaf (ap Some {x = f.number} {y = tk.way.leaf} same);
            leaves = λ clean leaf is. go tk clean leaf is;
          }
        where
          go : (tk : TakesOneWay plan old new ways v (leaf_found plan.program sound.1.1 con.ty layout is_flat v is_of).number (left_of plan.layouts con.ty con.con looked) (λ clean s m. IsGood m × PartsHold plan clean v s m xs))
              → (clean : Bool) (leaf : Leaf) → slice_get layout.leaves tk.way.leaf ≡ Some leaf
              → Branches plan old.slots old new choices.holes (choose_of plan.layouts con.ty con.con) (λ k s m. (k ≡ tk.number) × AreHeld plan clean s m hs vs)
              (λ k s m. ArePartsHeld plan clean s m (open_positions plan.program.types leaf.prov) tk.way.fields v)
          go tk clean leaf is =
              let p = tk.does clean in
              let w = open_within (length old.code) new.code ways tk.number tk.way opened tk.is_way in
              let own = all.are_ways tk.number tk.way tk.is_way in
              let same : own.0 ≡ leaf = same_Some own.0 leaf (sym own.1 ∙ is) in
              record {
                adds = p.adds;
                low = p.low;
                leaves = λ final callee next law finishes s w0 k long good pre.
                    let agrees1 : AgreesBut final new.code (length old.code) (length new.code) (IsWayAt ways) = record {
                      same = λ pc lo hi out. (finishes pc lo hi).same (λ arm o.
                          let h = hole_of 0 ways o.1.0 o.0 o.1.1 in
                          out (h.number, h.way, h.is_way, ap (λ (y : Hole). y.pc) (sym h.is_hole) ∙ o.2));
                    } in
                    let r = p.runs final callee next law agrees1 s w0 long (good, holds clean s w0.memory pre.1) in
                    let a = finishes tk.way.pc w.0 w.1 in
                    let j = jump_shape (slice_get final tk.way.pc) w.2.0 (a.shapes ∙ ap without_targets_in w.2.1) in
                    let to = law.step tk.way.pc (Jump j.0) r.1 r.2 j.1 in
                    let some = z_of tk.number in
                    record {
                      hole = record { pc = tk.way.pc; arm = None; leaf = tk.number };
                      is_hole = (tk.number, hole_in 0 ways tk.number tk.way tk.is_way ∙ ap (λ n. let q : Hole = record { pc = tk.way.pc; arm = None; leaf = n } in Some q) some);
                      is_way = sym pre.0;
                      target = j.0;
                      is_target = ap (λ o. target_in o None) j.1;
                      slots = r.1;
                      world = taken r.2;
                      runs = r.3 ∙ ap (λ pc. next pc r.1 r.2) r.6.0 ∙ to;
                      keeps = r.4;
                      later = record { memory = r.5.memory; left = r.5.left; switches = let x = r.5.switches in let y = left_most plan.layouts con.ty con.con looked in omega (arith, x, y) };
                      exit = parts_held plan clean v w0.memory new.slots r.1 (open_positions plan.program.types leaf.prov) tk.way.fields tk.parts
                          (subst (λ (y : Leaf). AreGivenAt plan new.slots (open_positions plan.program.types y.prov) tk.way.fields) same own.2) r.6.1;
                    };
              }

  pub chooses_leaf : ChoosesLeaf agreed con hs shown old new choices
  chooses_leaf plan of fields is_fields kinds given layout is_layout =
      let a = all plan of fields is_fields kinds given layout is_layout in
      record {
        adds = a.adds;
        ways = λ k way e. let w = a.are_ways k way e in record { leaf = w.0; is_leaf = w.1; given = w.2 };
        takes = λ vs as_shown is_of. takes plan of fields is_fields kinds given layout is_layout vs as_shown is_of;
      }

-- the same for what the choice begins with
pub start_chooses : (agreed : LaidOut) (con : ConRef) (hs : List Held) (shown : List Pat) (start : Start) → IsStart agreed con hs shown start → (old new : Sheet) (ways : List Way)
    → ChoosesFrom agreed con.ty start.leaves start.seen start.parts old new ways → AreOpen (length old.code) new.code ways → ChoosesLeaf agreed con hs shown old new (choices_from ways)
start_chooses agreed con hs shown start is old new ways chooses opened =
    let leaves = leaves_beside agreed.layouts con.ty (heads_below (map heads_of shown) 0) (leaves_for con.con (leaves_of_layout (layout_of agreed.layouts con.ty)) 0) in
    let first = subst (λ ns. ChoosesFrom agreed con.ty ns start.seen start.parts old new ways) is.are_leaves chooses in
    let second = subst (λ xs. ChoosesFrom agreed con.ty leaves start.seen xs old new ways) is.are_parts first in
    let third = subst (λ ls. ChoosesFrom agreed con.ty leaves (record { looked = ls; known = start.seen.known }) (parts_from 0 hs) old new ways) is.is_seen.are_looked second in
    chooses_leaf agreed is.sound.typed is.sound.flat is.sound.agrees con hs shown start.seen.known is.is_seen.are_known old new ways third opened
