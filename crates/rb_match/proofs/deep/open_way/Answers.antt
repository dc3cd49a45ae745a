use Rattle.std.proofs.Common.{◌≡◌, false, arith}
use Rattle.rb_match.proofs.Opening.{skips_none, skips_shared}
use Rattle.rb_match.proofs.deep.open_way.Goals as goal

pub returns-in_default : goal.returns-in_default
returns-in_default c = record {
  steps = skips_none c.args.agreed.now c.args.part.now.ty c.args.part.now.words.now c.args.part.now.spots.now c.args.part.now.position c.args.holes.now c.args.leaf c.args.onward.now c.args.body.now c.args.edges c.in_default.is;
}

pub returns-then-not-onward : goal.returns-then-not-onward
returns-then-not-onward c =
    let shared : c.in-Some.onward.saves ≡ false = grind (arith, c.if-not-onward.true) in
    record {
      steps = skips_shared c.args.agreed.now c.args.part.now.ty c.args.part.now.words.now c.args.part.now.spots.now c.args.part.now.position c.args.holes.now c.args.leaf c.args.onward.now c.args.body.now c.args.edges c.in-Some.onward c.in-Some.is shared;
    }

pub returns : goal.returns
returns c = record { steps = rw (c.in-Some.is, c.in_ok-push.ensures.ok) (c.in_ok-way_behind.ensures.steps c.args.edges) }
