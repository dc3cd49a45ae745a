use Rattle.std.proofs.Common.{◌+◌, drop, sym, ap, ◌∙◌}
use Rattle.std.specs.Prelude.{get_or}
use Rattle.std.proofs.lemmas.Option.{slice_get-get_or}
use Rattle.rb_image.proofs.DropLemmas.{drop_item}
use Rattle.rb_peek.specs.Views.{LeafPosition, along, step_down}
use Rattle.rb_peek.specs.inner.Standing.{come_to}
use Rattle.rb_peek.proofs.WayLemmas.{then_given}
use Rattle.rb_peek.proofs.arrival.along.Goals as goal

pub loop-field-init : goal.loop-field-init
loop-field-init c =
    let m = c.args.image.now.blocks in
    let go = λ (x : LeafPosition). along c.args.agreed.now.covered.program.types c.args.agreed.now.layouts m x c.args.path.now in record {
      come = ap go (sym c.in_ok-here.ensures.come);
      read = c.in_ok-here.ensures.read m c.requires.shown;
    }

pub loop-field-preserved : goal.loop-field-preserved
loop-field-preserved c =
    let types = c.args.agreed.now.covered.program.types in
    let layouts = c.args.agreed.now.layouts in
    let m = c.args.image.now.blocks in
    let path = c.args.path.now in
    let k = c.loop-field.field-index in
    let i = get_or path k 0 in
    let is = drop_item path k i (slice_get-get_or path k 0 c.loop-field-test.true) in
    let old = come_to c.loop-field.here in record {
      come = c.loop-field.invariant.come ∙ ap (along types layouts m old) is
          ∙ then_given come_to come_to (step_down types layouts m old i) (λ (y : LeafPosition). along types layouts m y (drop (k + 1) path)) c.in_ok-here-2.here c.in_ok-here-2.ensures.come;
      read = c.in_ok-here-2.ensures.read;
    }
