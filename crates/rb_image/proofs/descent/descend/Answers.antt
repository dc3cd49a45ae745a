use Rattle.std.proofs.Common.{[], ◌∷◌, ◌++◌, length, refl, sym, subst, ap, ◌∙◌}
use Rattle.rb_image.specs.Parts.{at_of, look}
use Rattle.rb_image.specs.declared.descent.Step.TheVariants.{Look}
use Rattle.rb_image.specs.inner.Descending.{DescentStands}
use Rattle.rb_image.specs.inner.Ending.{AllEnd, depth_bound}
use Rattle.rb_image.proofs.DescentLemmas.{begins, found_on, turn_fault, turned}
use Rattle.rb_image.proofs.EndLemmas.{turn_ends, turn_less}
use Rattle.rb_image.proofs.descent.descend.Goals as goal

pub loop-step-init : goal.loop-step-init
loop-step-init c =
    let L = look c.args.agreed.now.covered.program.types c.args.agreed.now.layouts c.args.memory.now in
    let root = c.args.root in
    let todo = c.push.new.self.items in
    let is = c.in_ok-push.ensures.items ∙ ap (λ ss. ss ++ Look root ∷ []) c.new-todo.ensures.items in
    record {
      stands = subst (λ ks. DescentStands L (at_of root) ks todo) (sym c.new-known.ensures) (begins L root todo is);
      ends = subst (AllEnd L (depth_bound 18446744073709551616 (length c.args.agreed.now.layouts))) (sym is) (c.requires.ends, tt);
    }

pub returns-in_err-turn : goal.returns-in_err-turn
returns-in_err-turn c =
    let L = look c.args.agreed.now.covered.program.types c.args.agreed.now.layouts c.args.memory.now in
    found_on L (at_of c.args.root) c.from_residual-in_err-turn.result _ c.from_residual-in_err-turn.ensures.0 c.from_residual-in_err-turn.ensures.1
    (turn_fault L (at_of c.args.root) c.loop-step.known c.loop-step.todo.items c.pop.new.self.items c.in-Some.step c.in-Some.ensures.items c.loop-step.invariant.stands
    c.in-Some.step refl _ c.in_err-turn.ensures)

pub loop-step-smaller : goal.loop-step-smaller
loop-step-smaller c =
    let L = look c.args.agreed.now.covered.program.types c.args.agreed.now.layouts c.args.memory.now in
    turn_less L (depth_bound 18446744073709551616 (length c.args.agreed.now.layouts)) c.loop-step.todo.items c.pop.new.self.items c.in-Some.step c.in-Some.ensures.items c.loop-step.invariant.ends
    c.loop-step.known c.turn.new.known c.turn.new.todo.items c.in-Some.step refl c.in_ok-turn.ensures

pub loop-step-preserved : goal.loop-step-preserved
loop-step-preserved c =
    let L = look c.args.agreed.now.covered.program.types c.args.agreed.now.layouts c.args.memory.now in
    record {
      stands = turned L (at_of c.args.root) c.loop-step.known c.loop-step.todo.items c.pop.new.self.items c.in-Some.step c.in-Some.ensures.items c.loop-step.invariant.stands
          c.in-Some.step refl c.turn.new.known c.turn.new.todo.items c.in_ok-turn.ensures;
      ends = turn_ends L (depth_bound 18446744073709551616 (length c.args.agreed.now.layouts)) c.loop-step.todo.items c.pop.new.self.items c.in-Some.step c.in-Some.ensures.items c.loop-step.invariant.ends
          c.loop-step.known c.turn.new.known c.turn.new.todo.items c.in-Some.step refl c.in_ok-turn.ensures;
    }
