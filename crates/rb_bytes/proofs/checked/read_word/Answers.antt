use Rattle.std.proofs.Common.{◌≡◌, ℕ, ◌+◌, ◌-◌, ◌<◌, ◌≤◌, take, drop, get_or, Ok, sym, ap, ◌∙◌, arith}
use Rattle.rb_bits.specs.LittleEndian.{from_le_bytes}
use Rattle.rb_bytes.proofs.CheckedLemmas.{read_marked, read_unmarked}
use Rattle.rb_bytes.proofs.checked.read_word.Goals as goal
use Rattle.rb_bytes.proofs.checked.read_word.Goals.{then-not-are_written+else-loop-i-test, else-not-are_written}

pub returns-then-marks-i-eq0 : goal.returns-then-marks-i-eq0
returns-then-marks-i-eq0 c =
    let marks = c.args.marks.now in
    let i = c.loop-i.i in
    let none : get_or marks i 0 ≡ 0 = c.if-marks-i-eq0.true in
    sym (read_unmarked marks c.args.bytes.now c.args.count c.args.at i c.requires.even (omega arith) (omega arith) none c.loop-i.invariant)

pub returns : goal.returns
returns c =
    let marks = c.args.marks.now in
    let bytes = c.args.bytes.now in
    let at = c.args.at in
    let n = c.args.count in
    let e : at + n - at ≡ n = omega arith in
    let all : (a : ℕ) → at ≤ a → a < at + n → 0 < get_or marks a 0 =
    λ a low high. elim c.if-not-are_written.branch [
      | then-not-are_written+else-loop-i-test w ↦ w.loop-i.invariant a low (omega (arith, high, w.loop-i-test.false))
      | else-not-are_written w ↦ c.are_written.ensures w.if-not-are_written.false a low high
    ] in
    ap Ok (c.load_le.ensures.value ∙ ap (λ k. from_le_bytes (take k (drop at bytes))) e) ∙ sym (read_marked marks bytes n at c.requires.even c.requires.within all)
