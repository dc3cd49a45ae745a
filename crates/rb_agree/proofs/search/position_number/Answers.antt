use Rattle.std.proofs.Common.{◌≡◌, ℕ, ◌+◌, ◌-◌, ◌/◌, ◌<◌, List, get_or, Some, sym, ap, ◌∙◌, arith}
use Rattle.std.specs.Prelude.{slice_get}
use Rattle.std.proofs.lemmas.Option.{slice_get-get_or}
use Rattle.rb_layout.specs.declared.opens.OpenPosition.{OpenPosition}
use Rattle.rb_agree.specs.declared.search.Side.TheVariants.{Left, Same, Right, Along}
use Rattle.rb_agree.specs.inner.Search.{side_of}
use Rattle.rb_agree.proofs.Halving.{none-along, none-before, none-behind, same-as}
use Rattle.rb_agree.proofs.search.position_number.Goals as goal

pub loop-low-preserved-in-Left : goal.loop-low-preserved-in-Left
loop-low-preserved-in-Left c =
    let m : ℕ = c.loop-low.low + (c.loop-low.high - c.loop-low.low) / 2 in
    let inside : m < c.loop-low.high = omega (arith, c.loop-low-test.true) in
    let middle : OpenPosition = get_or c.args.places.now m c.index-places-middle.result in
    let at : slice_get c.args.places.now m ≡ Some middle = slice_get-get_or c.args.places.now m c.index-places-middle.result (omega (arith, inside, c.loop-low.invariant.within)) in
    let e : side_of c.args.path.now middle.path ≡ Left = ap (λ (q : List ℕ). side_of c.args.path.now q) (sym c.as_slice.ensures) ∙ sym c.side_of.ensures ∙ c.in-Left.is in
    record {
      within = omega (arith, inside, c.loop-low.invariant.within);
      before = c.loop-low.invariant.before;
      behind = none-behind c.args.places.now c.requires c.args.path.now m middle at e;
    }

pub returns-in-Same-clause-place : goal.returns-in-Same-clause-place
returns-in-Same-clause-place c =
    let m : ℕ = c.loop-low.low + (c.loop-low.high - c.loop-low.low) / 2 in
    let inside : m < c.loop-low.high = omega (arith, c.loop-low-test.true) in
    let middle : OpenPosition = get_or c.args.places.now m c.index-places-middle.result in
    let at : slice_get c.args.places.now m ≡ Some middle = slice_get-get_or c.args.places.now m c.index-places-middle.result (omega (arith, inside, c.loop-low.invariant.within)) in
    let e : side_of c.args.path.now middle.path ≡ Same = ap (λ (q : List ℕ). side_of c.args.path.now q) (sym c.as_slice.ensures) ∙ sym c.side_of.ensures ∙ c.in-Same.is in
    (middle, at, sym (same-as c.args.path.now middle.path e))

pub loop-low-preserved : goal.loop-low-preserved
loop-low-preserved c =
    let m : ℕ = c.loop-low.low + (c.loop-low.high - c.loop-low.low) / 2 in
    let inside : m < c.loop-low.high = omega (arith, c.loop-low-test.true) in
    let middle : OpenPosition = get_or c.args.places.now m c.index-places-middle.result in
    let at : slice_get c.args.places.now m ≡ Some middle = slice_get-get_or c.args.places.now m c.index-places-middle.result (omega (arith, inside, c.loop-low.invariant.within)) in
    let e : side_of c.args.path.now middle.path ≡ Right = ap (λ (q : List ℕ). side_of c.args.path.now q) (sym c.as_slice.ensures) ∙ sym c.side_of.ensures ∙ c.in-Right.is in
    record {
      within = c.loop-low.invariant.within;
      before = none-before c.args.places.now c.requires c.args.path.now m middle at e;
      behind = c.loop-low.invariant.behind;
    }

pub returns-in-Along-clause-place : goal.returns-in-Along-clause-place
returns-in-Along-clause-place c =
    let m : ℕ = c.loop-low.low + (c.loop-low.high - c.loop-low.low) / 2 in
    let inside : m < c.loop-low.high = omega (arith, c.loop-low-test.true) in
    let middle : OpenPosition = get_or c.args.places.now m c.index-places-middle.result in
    let at : slice_get c.args.places.now m ≡ Some middle = slice_get-get_or c.args.places.now m c.index-places-middle.result (omega (arith, inside, c.loop-low.invariant.within)) in
    let e : side_of c.args.path.now middle.path ≡ Along = ap (λ (q : List ℕ). side_of c.args.path.now q) (sym c.as_slice.ensures) ∙ sym c.side_of.ensures ∙ c.in-Along.is in
    none-along c.args.places.now c.requires c.args.path.now m middle at e
