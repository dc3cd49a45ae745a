use Rattle.std.proofs.Common.{subst}
use Rattle.std.specs.Prelude.{MatchBool}
use Rattle.rb_layout.specs.Cycles.{HasNoCycle}
use Rattle.rb_layout.specs.Graphs.{Leads}
use Rattle.rb_auto.specs.inner.Graphs.{HasCycle}
use Rattle.rb_auto.proofs.Fielding.{is-recursive, is-finite}
use Rattle.rb_auto.proofs.rooms.first_room.Goals as goal

pub returns-then-branch : goal.returns-then-branch
returns-then-branch c rooms = (
  cc (c.kind_of.ensures, c.in-Some-Packed.ensures, c.in-Some-Packed.field-0-is),
  is-recursive c.args.program.now.types c.args.graph.now c.requires c.args.ty
      (subst (λ b. MatchBool b (HasCycle (Leads c.args.graph.now) c.args.ty) (HasNoCycle (Leads c.args.graph.now) c.args.ty)) c.if-branch.true c.in_ok-is_recursive-in-Some-Packed.ensures),
)

pub returns-else-branch : goal.returns-else-branch
returns-else-branch c = (
  cc (c.kind_of.ensures, c.in-Some-Packed.ensures, c.in-Some-Packed.field-0-is),
  is-finite c.args.program.now.types c.args.graph.now c.requires c.args.ty
      (subst (λ b. MatchBool b (HasCycle (Leads c.args.graph.now) c.args.ty) (HasNoCycle (Leads c.args.graph.now) c.args.ty)) c.if-branch.false c.in_ok-is_recursive-in-Some-Packed.ensures),
)
