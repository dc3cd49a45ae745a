use Rattle.std.proofs.Common.{◌∷◌, [], ◌++◌, Some, sym, ap, subst, ◌∙◌, take, arith, length-append}
use Rattle.std.proofs.lemmas.Option.{slice_get-get_or}
use Rattle.rb_target.proofs.Growing.{Grows-refl, Grows-trans}
use Rattle.rb_fragment.specs.WordReads.{MakesAll}
use Rattle.rb_fragment.proofs.MakingAll.{makes_none, makes_more, new_more, take_more, take_all}
use Rattle.rb_fragment.proofs.make.make_all.Goals as goal

pub loop-read-init : goal.loop-read-init
loop-read-init c =
    rw c.new-slots.ensures (record {
      makes = makes_none c.args.body.now;
      origin = tt;
      count = omega arith;
      more = omega arith;
      grows = Grows-refl c.args.body.now.code;
    })

pub loop-read-preserved : goal.loop-read-preserved
loop-read-preserved c =
    let reads = c.args.reads.now in
    let i = c.loop-read.read-index in
    let p = c.read-item.result in
    let at = slice_get-get_or reads i p c.loop-read-test.true ∙ ap Some (sym c.read-item.is) in
    let inv = c.loop-read.invariant in
    let e = c.in_ok-slot.ensures in
    rw c.in_ok-push.ensures.ok (record {
      makes = subst (λ rs. MakesAll rs c.args.body.now c.make.new.body (c.loop-read.slots ++ c.in_ok-slot.slot ∷ [])) (sym (take_more reads i p at))
          (makes_more (take i reads) p c.args.body.now c.loop-read.body c.make.new.body c.loop-read.slots c.in_ok-slot.slot inv.makes e.makes inv.more);
      origin = new_more reads c.args.body.now c.loop-read.body c.loop-read.slots c.in_ok-slot.slot i p at inv.more inv.origin e.origin;
      count = length-append c.loop-read.slots (c.in_ok-slot.slot ∷ []) ∙ omega (arith, inv.count);
      more = omega (arith, inv.more, e.more);
      grows = Grows-trans c.args.body.now.code c.loop-read.body.code c.make.new.body.code inv.grows e.grows;
    })

pub returns-clause-makes : goal.returns-clause-makes
returns-clause-makes c =
    let reads = c.args.reads.now in
    subst (λ rs. MakesAll rs c.args.body.now c.loop-read.body c.loop-read.slots) (take_all reads c.loop-read.read-index (omega (arith, c.loop-read-test.false))) c.loop-read.invariant.makes
