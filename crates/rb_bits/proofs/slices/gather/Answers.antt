use Rattle.std.proofs.Common.{◌≡◌, sym, subst, ap, ◌∙◌}
use Rattle.std.proofs.lemmas.List.{drop_all}
use Rattle.rb_bits.specs.Slices.{gather_of, IsGathered}
use Rattle.rb_bits.proofs.SliceLemmas.{gathered, gathered_is, gathered_bits}
use Rattle.rb_bits.proofs.slices.gather.Goals as goal

pub returns : goal.returns
returns c =
    let w = c.args.w in
    let slices = c.args.slices.now in
    let is : c.loop-slice.number ≡ gather_of w slices = sym (c.loop-slice.invariant ∙ ap (gathered w c.loop-slice.number) (drop_all c.loop-slice.slice-index slices c.loop-slice-test.false)) ∙ gathered_is w slices c.requires in
    record { value = is; bits = subst (IsGathered w slices) (sym is) (gathered_bits w slices c.requires) }
