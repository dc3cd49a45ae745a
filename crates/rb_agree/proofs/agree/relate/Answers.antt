use Rattle.std.proofs.Common.{List, length, subst}
use Rattle.rb_layout.specs.A9.{Flattens}
use Rattle.rb_core.specs.declared.types.DataDecl.{DataDecl}
use Rattle.rb_core.specs.declared.layout_decl.LayoutDecl.{LayoutDecl}
use Rattle.rb_layout.specs.A10.{HoldsField}
use Rattle.rb_agree.specs.Graphs.{IsGraphOf}
use Rattle.rb_agree.specs.inner.Leaves.{AreWritten}
use Rattle.rb_agree.proofs.Falling.{in-order, no-cycle-of}
use Rattle.rb_agree.proofs.agree.relate.Goals as goal

pub returns : goal.returns
returns c = let holds : IsGraphOf (HoldsField c.args.program.now.types c.args.layouts.now) c.in_ok-held.held =
    subst (λ (ts : List DataDecl). IsGraphOf (HoldsField ts c.args.layouts.now) c.in_ok-held.held) c.as_slice-2.ensures c.in_ok-held.ensures in record {
      typed = c.requires.typed;
      count = c.requires.count;
      written = subst (λ (ds : List LayoutDecl). AreWritten ds (length c.args.layouts.now) c.in_ok-written.written) c.as_slice.ensures c.in_ok-written.ensures;
      marks = c.in_ok-marks.ensures;
      flattened = c.in_ok-flattened.ensures;
      held = holds;
      flattens_in_order = no-cycle-of (Flattens c.args.layouts.now) c.in_ok-flattened.flattened c.in_ok-flattens_in_order.flattens_in_order c.in_ok-flattened.ensures
          (in-order c.as_slice-3.result.now c.in_ok-flattened.flattened c.in_ok-flattens_in_order.flattens_in_order c.as_slice-3.ensures c.in_ok-flattens_in_order.ensures);
      holds_in_order = no-cycle-of (HoldsField c.args.program.now.types c.args.layouts.now) c.in_ok-held.held c.in_ok-holds_in_order.holds_in_order holds
          (in-order c.as_slice-4.result.now c.in_ok-held.held c.in_ok-holds_in_order.holds_in_order c.as_slice-4.ensures c.in_ok-holds_in_order.ensures);
    }
