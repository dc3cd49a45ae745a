use Rattle.std.proofs.Common.{◌≡◌, ◌+◌, ◌-◌, ◌*◌, ◌^◌, length, take, drop, sym, subst, ap, ◌∙◌, arith}
use Rattle.std.proofs.lemmas.Bool.{eqb-true}
use Rattle.rb_bits.specs.LittleEndian.{to_le_bytes}
use Rattle.rb_bytes.proofs.CheckedLemmas.{all_marked, part_long}
use Rattle.rb_bytes.proofs.checked.are_written.Goals as goal

pub returns : goal.returns
returns c same a low high =
    let marks = c.args.marks.now in
    let at = c.args.at in
    let n = c.args.count in
    let word = c.load_le.result in
    let e : at + n - at ≡ n = omega arith in
    let zero : 0 + 8 * n ≡ 8 * n = omega arith in
    let spelled = subst (λ k. to_le_bytes (length (take k (drop at marks))) word ≡ take k (drop at marks)) e c.load_le.ensures.stored in
    let stored = ap (λ k. to_le_bytes k word) (sym (part_long marks at n c.requires.within)) ∙ spelled in
    let full = eqb-true word c.mask.result same ∙ c.mask.ensures.value ∙ ap (λ k. 2 ^ k - 1) zero in
    all_marked marks n at word stored full a low high
