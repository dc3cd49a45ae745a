use Rattle.std.proofs.Common.{◌≡◌, ◌+◌, ◌-◌, ◌*◌, ◌/◌, ◌%◌, ◌^◌, length, take, drop, ap, ◌∙◌, arith}
use Rattle.rb_bits.specs.LittleEndian.{to_le_bytes}
use Rattle.rb_bytes.specs.Starts.{marked_bytes}
use Rattle.rb_bytes.proofs.CheckedLemmas.{over, part_long, write_is}
use Rattle.rb_bytes.proofs.checked.write_word.Goals as goal

pub returns : goal.returns
returns c =
    let marks = c.args.marks.now in
    let bytes = c.args.bytes.now in
    let at = c.args.at in
    let n = c.args.count in
    let word = c.args.word in
    let e : at + n - at ≡ n = omega arith in
    let zero : 0 + 8 * n ≡ 8 * n = omega arith in
    let whole : word / 1 ≡ word = omega arith in
    let full = c.mask.ensures.value ∙ ap (λ k. 2 ^ k - 1) zero in
    let low = c.take.ensures.value ∙ ap (λ w. w % 2 ^ (8 * n)) whole in
    let count_marks : length (take (at + n - at) (drop at marks)) ≡ n = ap (λ k. length (take k (drop at marks))) e ∙ part_long marks at n (omega (arith, c.requires.even, c.requires.within)) in
    let count_bytes : length (take (at + n - at) (drop at bytes)) ≡ n = ap (λ k. length (take k (drop at bytes))) e ∙ part_long bytes at n c.requires.within in
    let new_marks : c.store_le.new.bytes ≡ to_le_bytes n (2 ^ (8 * n) - 1) = c.store_le.ensures.value ∙ ap (λ k. to_le_bytes k c.mask.result) count_marks ∙ ap (to_le_bytes n) full in
    let new_bytes : c.store_le-2.new.bytes ≡ to_le_bytes n (word % 2 ^ (8 * n)) = c.store_le-2.ensures.value ∙ ap (λ k. to_le_bytes k c.take.result) count_bytes ∙ ap (to_le_bytes n) low in
    ap (λ k. marked_bytes (over at k marks c.store_le.new.bytes) (over at k bytes c.store_le-2.new.bytes)) e
    ∙ ap (λ xs. marked_bytes (over at n marks xs) (over at n bytes c.store_le-2.new.bytes)) new_marks
    ∙ ap (λ xs. marked_bytes (over at n marks (to_le_bytes n (2 ^ (8 * n) - 1))) (over at n bytes xs)) new_bytes
    ∙ write_is marks bytes n at word c.requires.even c.requires.within
