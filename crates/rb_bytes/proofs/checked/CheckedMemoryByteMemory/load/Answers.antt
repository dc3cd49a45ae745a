use Rattle.std.proofs.Common.{◌+◌, ◌-◌, ◌/◌, length, sym, ap, ◌∙◌}
use Rattle.rb_bytes.specs.Memory.{read_le}
use Rattle.rb_bytes.specs.Starts.{marked_bytes}
use Rattle.rb_bytes.proofs.MemoryLemmas.{load_astray, load_within}
use Rattle.rb_bytes.proofs.CheckedLemmas.{read_le-padded}
use Rattle.rb_bytes.proofs.checked.CheckedMemoryByteMemory.load.Goals as goal

pub returns-then-not-holds : goal.returns-then-not-holds
returns-then-not-holds c = record { value = sym (load_astray c.args.self.now c.args.base c.args.offset c.args.width (sym c.holds.ensures.value ∙ c.if-not-holds.true)) }

pub returns : goal.returns
returns c =
    let f = c.self.inside in
    let n = c.args.width / 8 in
    let at = c.args.base + c.args.offset in
    let bytes = ap (λ m. read_le m.bytes n at) c.self.view_is in
    let all = read_le-padded (marked_bytes f.marks.items f.bytes.items) (f.limit - length f.bytes.items) n at in
    let within = load_within c.args.self.now c.args.base c.args.offset c.args.width (sym c.if-not-holds.ensures.value) in
    record { value = c.read_word.ensures ∙ rw (c.as_slice.ensures.value, c.as_slice-2.ensures.value) (sym all ∙ bytes ∙ sym within) }
