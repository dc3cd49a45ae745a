-- Code that constructs: by the one leaf of a constructor, or by ways that meet.
use Rattle.std.proofs.Common.{◌≡◌, length, List, Some, Result, IfOk, OnOk, sym, subst, ap, ◌∙◌, arith}
use Rattle.std.proofs.lemmas.Result.{IfOk-weaker}
use Rattle.rb_core.specs.declared.types.Ty.TheVariants.{Named}
use Rattle.rb_core.specs.declared.types.ConRef.{ConRef}
use Rattle.rb_core.specs.declared.pattern.Pat.{Pat}
use Rattle.rb_core.specs.TypedPrograms.{IsTyped}
use Rattle.rb_target.specs.Growth.{Grows}
use Rattle.rb_target.specs.Sheet.{Sheet}
use Rattle.rb_layout.specs.declared.agreed.LaidOut.{LaidOut}
use Rattle.rb_layout.specs.declared.layout.Layout.{Layout}
use Rattle.rb_layout.specs.declared.layout.Leaf.{Leaf}
use Rattle.rb_layout.specs.Agreement.{Agrees}
use Rattle.rb_layout.specs.Flattening.{flat_layouts}
use Rattle.rb_layout.specs.Positions.{layout_of}
use Rattle.rb_fragment.specs.declared.held.Held.{Held}
use Rattle.rb_fragment.specs.Arms.{AreHoles, AreOfOneWay}
use Rattle.rb_compose.specs.Making.{MakesLeaf}
use Rattle.rb_fetch.specs.declared.asking.Start.{Start}
use Rattle.rb_fetch.specs.declared.choice.Choices.{Choices}
use Rattle.rb_fetch.specs.declared.choice.Way.{Way}
use Rattle.rb_fetch.specs.inner.Choice.{ChoosesLeaf}
use Rattle.rb_fetch.specs.Constructing.{Constructs, IsConstructed}
use Rattle.rb_fetch.specs.inner.Asking.{IsStart}
use Rattle.rb_fetch.specs.inner.Choosing.{AddsWays, ChoosesFrom, choices_from, holes_from, parts_from}
use Rattle.rb_fetch.specs.inner.Constructing.{AreMet, IsAlone, IsAloneIn, WaysMeet}
use Rattle.rb_fetch.proofs.Alone.{alone_constructs}
use Rattle.rb_fetch.proofs.Choices.{start_chooses}
use Rattle.rb_fetch.proofs.Finding.{of_plan}
use Rattle.rb_fetch.proofs.Meeting.{ways_constructs, ways_grow}
use Rattle.rb_fetch.proofs.Ways.{are_holes, of_one_way}

module _ (agreed : LaidOut) (typed : IsTyped agreed.covered.program) (flat : agreed.layouts ≡ flat_layouts agreed.covered.program) (agrees : Agrees agreed.covered.program) (con : ConRef) (hs : List Held) (shown : List Pat) (layout : Layout)
    (at : layout_of agreed.layouts con.ty ≡ Some layout) (old new : Sheet) (held : Held) where
  pub constructs_alone : (leaf : Leaf) → IsAlone con.con layout.leaves leaf → held.ty ≡ Named con.ty → MakesLeaf leaf (parts_from 0 hs) old new held.slots → Constructs agreed con hs shown old new held
  constructs_alone leaf is kind makes plan of fields is_fields kinds given =
      let p = of_plan agreed typed flat agrees con.ty plan of in
      let is_layout = ap (λ ls. layout_of ls con.ty) of.layouts ∙ at in
      subst (λ t. IsConstructed plan con hs shown old new (record { ty = t; slots = held.slots })) (sym kind) (alone_constructs plan p.0 p.1 con fields is_fields layout is_layout leaf is hs kinds shown old new held.slots given makes)

  pub constructs_ways : (mid : Sheet) (choices : Choices) → ChoosesLeaf agreed con hs shown old mid choices → AreHoles (length old.code) (length choices.ways) mid.code choices.holes → AreOfOneWay choices.holes
      → WaysMeet con.ty layout.leaves choices mid new held → Constructs agreed con hs shown old new held
  constructs_ways mid choices chooses holes ways meets plan of fields is_fields kinds given =
      let p = of_plan agreed typed flat agrees con.ty plan of in
      let is_layout = ap (λ ls. layout_of ls con.ty) of.layouts ∙ at in
      ways_constructs plan p.0 p.1 layout con hs shown old mid new choices held is_layout fields is_fields kinds (chooses plan of fields is_fields kinds given layout is_layout) holes ways meets

-- the same with the layout of the constructor's type
module _ {E : Type 0} (r : Result Held E) (agreed : LaidOut) (con : ConRef) (hs : List Held) (shown : List Pat) (old new : Sheet) where
  pub alone_constructed : (leaf : Leaf) → IsAloneIn agreed con leaf → IfOk r (λ held. (held.ty ≡ Named con.ty) × MakesLeaf leaf (parts_from 0 hs) old new held.slots) → IfOk r (Constructs agreed con hs shown old new)
  alone_constructed leaf is =
      IfOk-weaker r (λ held. (held.ty ≡ Named con.ty) × MakesLeaf leaf (parts_from 0 hs) old new held.slots) (Constructs agreed con hs shown old new)
      (λ held makes. constructs_alone agreed is.sound.typed is.sound.flat is.sound.agrees con hs shown is.layout is.is_layout old new held leaf is.is_alone makes.0 makes.1)

  -- a choice of the leaf, and the arms of its ways behind it
  module _ (start : Start) (is : IsStart agreed con hs shown start) (mid : Sheet) (ways : List Way) (chosen : AddsWays old mid ways (ChoosesFrom agreed con.ty start.leaves start.seen start.parts old mid ways)) where
    holes : AreHoles (length old.code) (length ways) mid.code (holes_from 0 ways)
    holes = are_holes 0 (length old.code) (length old.code) (length ways) mid.code ways (omega arith) chosen.are_open (omega arith)

    pub ways_constructed : IfOk r (AreMet agreed con.ty ways mid new) → IfOk r (Constructs agreed con hs shown old new)
    ways_constructed = IfOk-weaker r (AreMet agreed con.ty ways mid new) (Constructs agreed con hs shown old new) (λ held met.
        constructs_ways agreed met.sound.typed met.sound.flat met.sound.agrees con hs shown met.layout met.is_layout old new held mid (choices_from ways)
        (start_chooses agreed con hs shown start is old mid ways chosen.does chosen.are_open) holes (of_one_way (length old.code) mid.code ways chosen.are_open) met.meets)

    pub ways_grown : IfOk r (AreMet agreed con.ty ways mid new) → OnOk r (Grows old.code new.code)
    ways_grown = IfOk-weaker r (AreMet agreed con.ty ways mid new) (λ held. Grows old.code new.code) (λ held met.
        ways_grow con.ty met.layout.leaves old mid new (choices_from ways) held chosen.grows holes met.meets)
