use Rattle.std.proofs.Common.{◌<◌, length, sym, subst, ◌∙◌}
use Rattle.rb_layout.specs.inner.Settling.{AreSettled, entries_left}
use Rattle.rb_layout.proofs.SettleLemmas.{Goes, goes-pass, pass-less, settled-pass}
use Rattle.rb_layout.proofs.settling.settle.Goals as goal

pub loop-smaller : goal.loop-smaller
loop-smaller c =
    let es = c.loop.entries in
    let changed = sym c.pass.ensures.result ∙ c.loop-test.true in
    subst (λ fs. entries_left fs < entries_left es) (sym c.pass.ensures.new) (pass-less c.args.types.now c.args.layouts.now (length es) es changed)

pub loop-preserved : goal.loop-preserved
loop-preserved c =
    let types = c.args.types.now in let layouts = c.args.layouts.now in
    let es = c.loop.entries in
    let goes = subst (λ fs. Goes types layouts es fs) (sym c.pass.ensures.new) (goes-pass types layouts (length es) es) in
    record {
      asked = goes.asked c.loop.invariant.asked;
      keeps = λ g h. goes.keeps g (c.loop.invariant.keeps g h);
      true_ones = λ all. goes.true_ones (c.loop.invariant.true_ones all);
    }

pub returns : goal.returns
returns c =
    let types = c.args.types.now in let layouts = c.args.layouts.now in
    let es = c.loop.entries in
    let still = sym c.pass.ensures.result ∙ c.loop-test.false in
    let settled = settled-pass types layouts c.args.entries.now es still c.loop.invariant.keeps c.loop.invariant.true_ones in
    subst (λ fs. AreSettled types layouts c.args.entries.now fs) (sym c.pass.ensures.new) settled
