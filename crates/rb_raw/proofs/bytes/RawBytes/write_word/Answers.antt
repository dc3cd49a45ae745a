use Rattle.std.proofs.Common.{◌≡◌, ◌+◌, ◌-◌, ◌/◌, ◌%◌, Some, length, set, sym, ap, ◌∙◌, arith}
use Rattle.rb_bytes.specs.Memory.{write_le}
use Rattle.rb_bytes.proofs.ByteLemmas.{write_le_more, length-write_le}
use Rattle.rb_raw.proofs.bytes.RawBytes.write_word.Goals as goal

pub write-requires : goal.write-requires
write-requires c =
    let i = c.loop-i.i in
    let all = length-write_le c.args.self.now c.args.count c.args.at c.args.word in
    let rest = length-write_le c.loop-i.self (c.args.count - i) (c.args.at + i) c.loop-i.rest in
    omega (arith, all, rest, ap length c.loop-i.invariant)

pub loop-i-preserved : goal.loop-i-preserved
loop-i-preserved c =
    let i = c.loop-i.i in
    let at = c.args.at in
    let n = c.args.count in
    let rest = c.loop-i.rest in
    let written = set c.loop-i.self (at + i) (Some (rest % 256)) in
    let less : n - i - 1 ≡ n - (i + 1) = omega arith in
    let next : at + i + 1 ≡ at + (i + 1) = omega arith in
    c.loop-i.invariant ∙ write_le_more c.loop-i.self (n - i) (at + i) rest (omega arith)
    ∙ ap (λ k. write_le written k (at + i + 1) (rest / 256)) less ∙ ap (λ a. write_le written (n - (i + 1)) a (rest / 256)) next
    ∙ ap (λ bytes. write_le bytes (n - (i + 1)) (at + (i + 1)) (rest / 256)) (sym c.write.ensures)
