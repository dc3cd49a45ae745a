use Rattle.std.proofs.Common.{◌≡◌, sym, subst, ap, ◌∙◌}
use Rattle.std.proofs.lemmas.List.{drop_all}
use Rattle.rb_bits.specs.Slices.{gather_of, scatter_of, IsScattered, HasNamedBits}
use Rattle.rb_bits.proofs.SliceLemmas.{scattered, scattered_is, scattered_bits, gather-scatter, gather-scatter-bits}
use Rattle.rb_bits.proofs.slices.scatter.Goals as goal

pub returns : goal.returns
returns c =
    let w = c.args.w in
    let slices = c.args.slices.now in
    let number = c.args.number in
    let is : c.loop-slice.word ≡ scatter_of w slices number = sym (c.loop-slice.invariant ∙ ap (scattered number c.loop-slice.word) (drop_all c.loop-slice.slice-index slices c.loop-slice-test.false)) ∙ scattered_is w slices number c.requires in
    record {
      value = is;
      bits = subst (IsScattered w slices number) (sym is) (scattered_bits w slices number c.requires);
      gathered = ap (λ word. gather_of word slices) is ∙ gather-scatter w slices number c.requires;
      gathered_bits = subst (λ word. HasNamedBits number slices (gather_of word slices)) (sym is) (gather-scatter-bits w slices number c.requires);
    }
