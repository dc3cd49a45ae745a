use Rattle.std.proofs.Common.{◌<◌, get_or, Some, sym, ap, ◌∙◌, arith}
use Rattle.std.proofs.lemmas.List.{get_or_default, get_or_past}
use Rattle.rb_bytes.proofs.CheckedLemmas.{byte_none, byte_some}
use Rattle.rb_bytes.proofs.checked.CheckedMemory.byte.Goals as goal

pub returns-then-address-len : goal.returns-then-address-len
returns-then-address-len c =
    let f = c.self.inside in
    rw (← c.self.view_is) (sym (byte_none f c.self.invariant c.args.address (get_or_past f.marks.items c.args.address 0 (omega arith))))

pub returns-in-0 : goal.returns-in-0
returns-in-0 c =
    let f = c.self.inside in
    let none = get_or_default f.marks.items c.args.address 0 c.index.result.now (omega arith) ∙ sym c.index.ensures ∙ c.in-0.is in
    rw (← c.self.view_is) (sym (byte_none f c.self.invariant c.args.address none))

pub returns-in_default : goal.returns-in_default
returns-in_default c =
    let f = c.self.inside in
    let mark = get_or_default f.marks.items c.args.address 0 c.index.result.now (omega arith) ∙ sym c.index.ensures in
    let pos : 0 < get_or f.marks.items c.args.address 0 = omega (arith, mark, c.in_default) in
    let byte = get_or_default f.bytes.items c.args.address 0 c.index-in_default.result.now (omega (arith, c.self.invariant.even.0)) ∙ sym c.index-in_default.ensures in
    rw (← c.self.view_is) (sym (byte_some f c.self.invariant c.args.address pos ∙ ap Some byte))
