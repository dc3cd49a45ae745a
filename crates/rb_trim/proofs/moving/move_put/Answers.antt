use Rattle.std.proofs.Common.{◌≡◌, arith, refl, subst}
use Rattle.rb_trim.specs.inner.Moving.{IsName}
use Rattle.rb_trim.proofs.Slots.{name_weaker}
use Rattle.rb_trim.proofs.moving.move_put.Goals as goal

pub returns : goal.returns
returns c =
    let e : c.in_ok-same.same ≡ c.in_ok-new.new = omega arith in (
      c.in_ok-new.new,
      c.in_ok-part.part,
      refl,
      c.in_ok-new.ensures,
      subst (λ n. IsName c.args.hints.now c.args.facts.now c.args.pc c.args.slot n) e
          (name_weaker c.args.hints.now c.args.facts.now c.args.pc c.args.slot c.in_ok-same.same c.in_ok-same.ensures),
      c.in_ok-part.ensures,
    )
